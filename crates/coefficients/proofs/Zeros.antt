-- The draws that look for a nonzero byte: the first one that is found is taken, and refusal 10 comes after sixteen zeros and at no other time.
use Rattle.std.specs.Prelude.{◌≡◌, ◌≤◌, ◌+◌, ◌<◌, ◌∷◌, ◌++◌, Some, None, is_some}
use Rattle.words.specs.Words.{arith, ℕ, List, refl, ◌∙◌, sym, [], suc, true, zero, false, Bool, cond, leb, eqb, le-leb, add-zero}
use Rattle.words.specs.Words.{map, ne_eqb, eq-eqb, true≢false, replicate, eqb-true, eqb-false}
use Rattle.tinymt.specs.Generator.{draw_of, low4, low8}
use Rattle.tinymt.specs.Computing.{first_draws}
use Rattle.memory.proofs.Parts.{cons-eq}
use Rattle.coefficients.specs.Coefficients.{found, nonzero_from, byte_of}

-- one draw: it gave zero, or the byte
module _ (k : ℕ) (s : List ℕ) {m n b : ℕ} (em : m ≡ suc n) (eb : b ≡ low8 (draw_of s).value) where
  pub zero-byte : b ≡ 0 → nonzero_from m k s ≡ nonzero_from n (k + 1) (draw_of s).state
  unfolding nonzero_from
  zero-byte e = rw (em, ← eb, eq-eqb _ _ e)

  pub nonzero_byte : (b ≡ 0 → ⊥) → nonzero_from m k s ≡ found b (k + 1) (draw_of s).state
  unfolding nonzero_from
  nonzero_byte h = rw (em, ← eb, ne_eqb _ _ h)

-- the bytes of the first n draws from the words s
abbrev pub bytes_drawn : ℕ → List ℕ → List ℕ
bytes_drawn n s = map low8 (first_draws n s)

-- refused: n draws gave zero, and no more were made
pub record AllZero (n k : ℕ) (s : List ℕ) : Type 0 where
  pub zeros : bytes_drawn n s ≡ replicate n 0
  pub count : (nonzero_from n k s).draws ≡ k + n

-- found: `before` draws gave zero, fewer than n, and the next one the byte, which is not zero
pub record FirstNonzero (n k : ℕ) (s : List ℕ) : Type 0 where
  pub byte : ℕ
  pub value : (nonzero_from n k s).value ≡ Some byte
  pub before : ℕ
  pub few : before < n
  pub bytes : bytes_drawn (suc before) s ≡ replicate before 0 ++ (byte ∷ [])
  pub nonzero : byte ≡ 0 → ⊥
  pub count : (nonzero_from n k s).draws ≡ k + suc before

-- the first of n + 1 draws gave zero: the rest decides
module _ (n k : ℕ) (s : List ℕ) (e : low8 (draw_of s).value ≡ 0) where
  first-zero : nonzero_from (suc n) k s ≡ nonzero_from n (k + 1) (draw_of s).state
  first-zero = zero-byte k s {n = n} refl refl e

  bytes-zero : (m : ℕ) → bytes_drawn (suc m) s ≡ 0 ∷ bytes_drawn m (draw_of s).state
  unfolding first_draws
  bytes-zero m = cons-eq e refl

-- refusal 10 says that all draws gave zero
pub refused-after : (n k : ℕ) (s : List ℕ) → (nonzero_from n k s).value ≡ None → AllZero n k s
unfolding nonzero_from first_draws
refused-after zero k s h = record { zeros = refl; count = sym (add-zero k) }
refused-after (suc n) k s h = go (eqb (low8 (draw_of s).value) 0) refl (refused-after n (k + 1) (draw_of s).state)
  where
    go : (b : Bool) → eqb (low8 (draw_of s).value) 0 ≡ b
        → ((nonzero_from n (k + 1) (draw_of s).state).value ≡ None → AllZero n (k + 1) (draw_of s).state) → AllZero (suc n) k s
    go false f rest = let e = rw (nonzero_byte k s {n = n} refl refl (eqb-false _ _ f)) at h in cc
    go true f rest =
        let e = eqb-true (low8 (draw_of s).value) 0 f in
        let r = rest (rw (first-zero n k s e) at h) in
        record {
          zeros = bytes-zero n k s e n ∙ cons-eq refl r.zeros;
          count = rw (first-zero n k s e) (omega (arith, r.count));
        }

-- and where they all give zero it comes
pub zeros-refused : (n k : ℕ) (s : List ℕ) → bytes_drawn n s ≡ replicate n 0 → (nonzero_from n k s).value ≡ None
unfolding nonzero_from first_draws
zeros-refused zero k s h = refl
zeros-refused (suc n) k s h =
    let e : low8 (draw_of s).value ≡ 0 = cc in
    let t : bytes_drawn n (draw_of s).state ≡ replicate n 0 = cc in
    rw (first-zero n k s e) (zeros-refused n (k + 1) (draw_of s).state t)

-- else the first byte that is not zero was taken
pub found_after : (n k : ℕ) (s : List ℕ) → is_some (nonzero_from n k s).value ≡ true → FirstNonzero n k s
unfolding nonzero_from first_draws
found_after zero k s h = absurd (true≢false (sym h))
found_after (suc n) k s h = go (eqb (low8 (draw_of s).value) 0) refl (found_after n (k + 1) (draw_of s).state)
  where
    go : (b : Bool) → eqb (low8 (draw_of s).value) 0 ≡ b
        → (is_some (nonzero_from n (k + 1) (draw_of s).state).value ≡ true → FirstNonzero n (k + 1) (draw_of s).state) → FirstNonzero (suc n) k s
    go false f rest =
        let g = eqb-false (low8 (draw_of s).value) 0 f in
        let e = nonzero_byte k s {n = n} refl refl g in
        record { byte = low8 (draw_of s).value; value = rw e; before = 0; few = omega arith; bytes = refl; nonzero = g; count = rw e (omega arith) }
    go true f rest =
        let e = eqb-true (low8 (draw_of s).value) 0 f in
        let z = first-zero n k s e in
        let r = rest (rw z at h) in
        record {
          byte = r.byte;
          value = rw z r.value;
          before = suc r.before;
          few = omega (arith, r.few);
          bytes = bytes-zero n k s e (suc r.before) ∙ cons-eq refl r.bytes;
          nonzero = r.nonzero;
          count = rw z (omega (arith, r.count));
        }

-- ---- a coefficient of GF(2^8)

-- the words from which a nonzero byte is looked for: below DT 15, those after the draw of rand16
abbrev pub looked_from : ℕ → List ℕ → List ℕ
looked_from dt s = cond (eqb dt 15) s (draw_of s).state

-- it is refused only after sixteen zeros
pub byte-refused : (dt : ℕ) (s : List ℕ) → (byte_of dt s).value ≡ None → bytes_drawn 16 (looked_from dt s) ≡ replicate 16 0
unfolding byte_of
byte-refused dt s h = go (eqb dt 15) refl
  where
    sparse : (b : Bool) → (cond b (nonzero_from 16 1 (draw_of s).state) (found 0 1 (draw_of s).state)).value ≡ None
        → bytes_drawn 16 (draw_of s).state ≡ replicate 16 0
    sparse true e = (refused-after 16 1 (draw_of s).state e).zeros
    sparse false e = cc

    go : (b : Bool) → eqb dt 15 ≡ b → bytes_drawn 16 (looked_from dt s) ≡ replicate 16 0
    go true f = rw f (refused-after 16 0 s (rw f at h)).zeros
    go false f = rw f (sparse (leb (low4 (draw_of s).value) dt) (rw f at h))

-- and always then, where rand16 asked for a nonzero byte, as it always does at DT 15
pub sixteen-zeros : (dt : ℕ) (s : List ℕ) → low4 (draw_of s).value ≤ dt → bytes_drawn 16 (looked_from dt s) ≡ replicate 16 0 → (byte_of dt s).value ≡ None
unfolding byte_of
sixteen-zeros dt s l h = go (eqb dt 15) refl
  where
    go : (b : Bool) → eqb dt 15 ≡ b → (byte_of dt s).value ≡ None
    go true f = rw f (zeros-refused 16 0 s (rw f at h))
    go false f = rw (f, le-leb (low4 (draw_of s).value) dt l) (zeros-refused 16 1 (draw_of s).state (rw f at h))
