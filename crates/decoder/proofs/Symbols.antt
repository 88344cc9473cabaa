-- Symbols of `E` bytes obey the laws that single bytes obey.
use Rattle.std.specs.Prelude.{◌≡◌}
use Rattle.words.specs.Words.{ℕ, refl, ap, suc, zero, ap₂}
use Rattle.decoder.specs.Field.{Ops, Laws}
use Rattle.decoder.specs.Symbols.{nulls, adds, times, symbols}
use Rattle.decoder.specs.Tuples.{Tuple}

module _ (O : Ops) (L : Laws O) where
  open O use {K, Sym}

  comms : (n : ℕ) (u v : Tuple Sym n) → adds O n u v ≡ adds O n v u
  comms zero u v = refl
  comms (suc n) u v = ap₂ (λ x y. (x, y)) (L.⊕-comm u.0 v.0) (comms n u.1 v.1)

  assocs : (n : ℕ) (u v w : Tuple Sym n) → adds O n (adds O n u v) w ≡ adds O n u (adds O n v w)
  assocs zero u v w = refl
  assocs (suc n) u v w = ap₂ (λ x y. (x, y)) (L.⊕-assoc u.0 v.0 w.0) (assocs n u.1 v.1 w.1)

  adds_null : (n : ℕ) (v : Tuple Sym n) → adds O n v (nulls O n) ≡ v
  adds_null zero v = refl
  adds_null (suc n) v = ap₂ (λ x y. (x, y)) (L.⊕-null v.0) (adds_null n v.1)

  adds_self : (n : ℕ) (v : Tuple Sym n) → adds O n v v ≡ nulls O n
  adds_self zero v = refl
  adds_self (suc n) v = ap₂ (λ x y. (x, y)) (L.⊕-self v.0) (adds_self n v.1)

  times_adds : (n : ℕ) (a : K) (u v : Tuple Sym n) → times O n a (adds O n u v) ≡ adds O n (times O n a u) (times O n a v)
  times_adds zero a u v = refl
  times_adds (suc n) a u v = ap₂ (λ x y. (x, y)) (L.•-⊕ a u.0 v.0) (times_adds n a u.1 v.1)

  sum-times : (n : ℕ) (a b : K) (v : Tuple Sym n) → times O n (O.◌+◌ a b) v ≡ adds O n (times O n a v) (times O n b v)
  sum-times zero a b v = refl
  sum-times (suc n) a b v = ap₂ (λ x y. (x, y)) (L.+-• a b v.0) (sum-times n a b v.1)

  product-times : (n : ℕ) (a b : K) (v : Tuple Sym n) → times O n (O.◌*◌ a b) v ≡ times O n a (times O n b v)
  product-times zero a b v = refl
  product-times (suc n) a b v = ap₂ (λ x y. (x, y)) (L.*-• a b v.0) (product-times n a b v.1)

  pub one-times : (n : ℕ) (v : Tuple Sym n) → times O n O.𝟙 v ≡ v
  one-times zero v = refl
  one-times (suc n) v = ap₂ (λ x y. (x, y)) (L.𝟙-• v.0) (one-times n v.1)

  pub zero-times : (n : ℕ) (v : Tuple Sym n) → times O n O.𝟘 v ≡ nulls O n
  zero-times zero v = refl
  zero-times (suc n) v = ap₂ (λ x y. (x, y)) (L.𝟘-• v.0) (zero-times n v.1)

  pub symbols_laws : (n : ℕ) → Laws (symbols O (suc n))
  symbols_laws n = record {
    +_comm = L.+_comm;
    +_assoc = L.+_assoc;
    +-𝟘 = L.+-𝟘;
    +-self = L.+-self;
    *-comm = L.*-comm;
    *-assoc = L.*-assoc;
    *-𝟘 = L.*-𝟘;
    *-𝟙 = L.*-𝟙;
    *-+ = L.*-+;
    *-inv = L.*-inv;
    𝟙≢𝟘 = L.𝟙≢𝟘;
    ⊕-comm = comms (suc n);
    ⊕-assoc = assocs (suc n);
    ⊕-null = adds_null (suc n);
    ⊕-self = adds_self (suc n);
    •-⊕ = times_adds (suc n);
    +-• = sum-times (suc n);
    *-• = product-times (suc n);
    𝟙-• = one-times (suc n);
    𝟘-• = zero-times (suc n);
    unit = (L.unit, nulls O n);
    unit≢null = λ e. L.unit≢null (ap (λ t. t.0) e);
  }
