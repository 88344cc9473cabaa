-- A field of characteristic two, and a space over it whose elements are symbols: operations, and the laws that the decoder rests on.
use Rattle.std.specs.Prelude.{◌≡◌, ◌≢◌}

-- The operations alone, on which the decoder's definitions run: `K` the coefficients, `Sym` the symbols, with sum `⊕` and multiple `•`.
pub record Ops : Type 1 where
  pub K : Type 0
  pub Sym : Type 0
  pub 𝟘 : K
  pub 𝟙 : K
  pub ◌+◌ : K → K → K
  pub ◌*◌ : K → K → K
  pub inv : K → K
  pub zero? : (a : K) → Dec (a ≡ 𝟘)
  pub null : Sym
  pub ◌⊕◌ : Sym → Sym → Sym
  pub ◌•◌ : K → Sym → Sym
  pub null? : (v : Sym) → Dec (v ≡ null)

-- The laws. `unit` is some symbol that is not null: a symbol has at least one byte.
pub record Laws (O : Ops) : Type 0 where
  pub +_comm : (a b : O.K) → O.◌+◌ a b ≡ O.◌+◌ b a
  pub +_assoc : (a b c : O.K) → O.◌+◌ (O.◌+◌ a b) c ≡ O.◌+◌ a (O.◌+◌ b c)
  pub +-𝟘 : (a : O.K) → O.◌+◌ a O.𝟘 ≡ a
  pub +-self : (a : O.K) → O.◌+◌ a a ≡ O.𝟘
  pub *-comm : (a b : O.K) → O.◌*◌ a b ≡ O.◌*◌ b a
  pub *-assoc : (a b c : O.K) → O.◌*◌ (O.◌*◌ a b) c ≡ O.◌*◌ a (O.◌*◌ b c)
  pub *-𝟘 : (a : O.K) → O.◌*◌ a O.𝟘 ≡ O.𝟘
  pub *-𝟙 : (a : O.K) → O.◌*◌ a O.𝟙 ≡ a
  pub *-+ : (a b c : O.K) → O.◌*◌ a (O.◌+◌ b c) ≡ O.◌+◌ (O.◌*◌ a b) (O.◌*◌ a c)
  pub *-inv : (a : O.K) → a ≢ O.𝟘 → O.◌*◌ (O.inv a) a ≡ O.𝟙
  pub 𝟙≢𝟘 : O.𝟙 ≢ O.𝟘
  pub ⊕-comm : (u v : O.Sym) → O.◌⊕◌ u v ≡ O.◌⊕◌ v u
  pub ⊕-assoc : (u v w : O.Sym) → O.◌⊕◌ (O.◌⊕◌ u v) w ≡ O.◌⊕◌ u (O.◌⊕◌ v w)
  pub ⊕-null : (v : O.Sym) → O.◌⊕◌ v O.null ≡ v
  pub ⊕-self : (v : O.Sym) → O.◌⊕◌ v v ≡ O.null
  pub •-⊕ : (a : O.K) (u v : O.Sym) → O.◌•◌ a (O.◌⊕◌ u v) ≡ O.◌⊕◌ (O.◌•◌ a u) (O.◌•◌ a v)
  pub +-• : (a b : O.K) (v : O.Sym) → O.◌•◌ (O.◌+◌ a b) v ≡ O.◌⊕◌ (O.◌•◌ a v) (O.◌•◌ b v)
  pub *-• : (a b : O.K) (v : O.Sym) → O.◌•◌ (O.◌*◌ a b) v ≡ O.◌•◌ a (O.◌•◌ b v)
  pub 𝟙-• : (v : O.Sym) → O.◌•◌ O.𝟙 v ≡ v
  pub 𝟘-• : (v : O.Sym) → O.◌•◌ O.𝟘 v ≡ O.null
  pub unit : O.Sym
  pub unit≢null : unit ≢ O.null
