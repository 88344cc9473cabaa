-- Symbols of `E` bytes, byte by byte, over a space of single bytes.
use Rattle.std.specs.Prelude.{◌≡◌}
use Rattle.words.specs.Words.{ℕ, refl, ap, suc, zero, ap₂}
use Rattle.decoder.specs.Field.{Ops}
use Rattle.decoder.specs.Tuples.{Tuple}

-- Whether two pairs are the same.
abbrev both? : {A B : Type 0} {a c : A} {b d : B} → Dec (a ≡ c) → Dec (b ≡ d) → Dec (◌≡◌ {A = A × B} (a, b) (c, d))
both? (yes p) (yes q) = yes (ap₂ (λ x y. (x, y)) p q)
both? (yes p) (no q) = no (λ e. q (ap (λ t. t.1) e))
both? (no p) _ = no (λ e. p (ap (λ t. t.0) e))

module _ (O : Ops) where
  open O use {K, Sym, null, ◌⊕◌, ◌•◌, null?}

  -- The null symbol, sum, multiple and test for null, byte by byte.
  abbrev pub nulls : (n : ℕ) → Tuple Sym n
  nulls zero = tt
  nulls (suc n) = (null, nulls n)

  abbrev pub adds : (n : ℕ) → Tuple Sym n → Tuple Sym n → Tuple Sym n
  adds zero u v = tt
  adds (suc n) u v = (◌⊕◌ u.0 v.0, adds n u.1 v.1)

  abbrev pub times : (n : ℕ) → K → Tuple Sym n → Tuple Sym n
  times zero a v = tt
  times (suc n) a v = (◌•◌ a v.0, times n a v.1)

  abbrev pub nulls? : (n : ℕ) (v : Tuple Sym n) → Dec (v ≡ nulls n)
  nulls? zero v = yes refl
  nulls? (suc n) v = both? (null? v.0) (nulls? n v.1)

  -- The same coefficients, with symbols of `n`.
  abbrev pub symbols : ℕ → Ops
  symbols n = record {
    K = K;
    Sym = Tuple Sym n;
    𝟘 = O.𝟘;
    𝟙 = O.𝟙;
    ◌+◌ = O.◌+◌;
    ◌*◌ = O.◌*◌;
    inv = O.inv;
    zero? = O.zero?;
    null = nulls n;
    ◌⊕◌ = adds n;
    ◌•◌ = times n;
    null? = nulls? n;
  }
