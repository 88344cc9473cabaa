-- Exactly the bytes in hexadecimal are read.
use Rattle.std.specs.Prelude.{◌≡◌, ◌≤◌, ◌+◌, ◌<◌, ◌-◌, ◌%◌, ◌∷◌, ◌*◌, ◌++◌, ◌/◌, ◌&&◌}
use Rattle.words.specs.Words.{arith, ℕ, List, refl, [], Some, suc, true, zero, None, false, Bool, subst, Option}
use Rattle.words.specs.Words.{ltb, le-leb, some-injective, none-ne-some, lt-leb, lt-ltb, le-ltb, ltb-true, ltb-false}
use Rattle.memory.specs.Number.{Bytes}
use Rattle.text.specs.Text.{digit, hexadecimal}
use Rattle.wire.specs.Numbers.{within}
use Rattle.wire.proofs.Settings.{both, within_true, within_bounds}
use Rattle.lines.specs.Reading.{value_of, before, bytes_in}
use Rattle.lines.proofs.Options.{cond_some}

-- ---- digits

-- the value of a digit
value-digit : (d : ℕ) → d < 16 → value_of (digit d) ≡ d
unfolding digit value_of
value-digit d h = go (ltb d 10) refl
  where
    go : (b : Bool) → ltb d 10 ≡ b → value_of (digit d) ≡ d
    go true e =
        let l : d < 10 = ltb-true d 10 e in
        let f : 48 + d - 48 ≡ d = omega arith in
        rw (e, within_true 48 57 (48 + d) (omega arith) (omega arith), f)
    go false e =
        let l : 10 ≤ d = ltb-false d 10 e in
        let f : 55 + d - 55 ≡ d = omega arith in
        rw (e, le-leb 48 (55 + d) (omega arith), lt-leb (55 + d) 57 (omega arith), within_true 65 70 (55 + d) (omega arith) (omega arith), f)

-- the digit of a value
pub digit_value : (b : ℕ) → value_of b < 16 → digit (value_of b) ≡ b
unfolding digit value_of
digit_value b h = go (within 48 57 b) refl
  where
    letter : (t : Bool) → within 65 70 b ≡ t → within 48 57 b ≡ false → digit (value_of b) ≡ b
    letter true e f =
        let l = within_bounds 65 70 b e in
        let g : 55 + (b - 55) ≡ b = omega arith in
        rw (f, e, le-ltb (b - 55) 10 (omega arith), g)
    letter false e f = absurd (omega (arith, rw (f, e) at h))

    go : (t : Bool) → within 48 57 b ≡ t → digit (value_of b) ≡ b
    go true e =
        let l = within_bounds 48 57 b e in
        let g : 48 + (b - 48) ≡ b = omega arith in
        rw (e, lt-ltb (b - 48) 10 (omega arith), g)
    go false e = letter (within 65 70 b) refl e

-- ---- the text is read

-- bytes in hexadecimal are read
pub bytes_read : (p : List ℕ) → Bytes p → bytes_in (hexadecimal p) ≡ Some p
unfolding bytes_in hexadecimal
bytes_read [] h = refl
bytes_read (b ∷ p) h =
    let s : b < 256 = h 0 in
    let e : b / 16 * 16 + b % 16 ≡ b = omega arith in
    let m : b % 16 < 16 = omega arith in
    let d : b / 16 < 16 = omega arith in
    rw (value-digit (b / 16) d, value-digit (b % 16) m, lt-ltb (b / 16) 16 d, lt-ltb (b % 16) 16 m, bytes_read p (λ i. h (suc i)), e)

-- ---- what is read is the text

-- bytes before what was read
before-some : (x : List ℕ) (o : Option (List ℕ)) (p : List ℕ) → before x o ≡ Some p → (q : List ℕ) × (o ≡ Some q) × (x ++ q ≡ p)
before-some x None p e = absurd (none-ne-some p e)
before-some x (Some q) p e = (q, refl, some-injective (x ++ q) p e)

-- a line is bytes in hexadecimal
pub record Written (l p : List ℕ) : Type 0 where
  pub text : l ≡ hexadecimal p
  pub bytes : Bytes p

-- two digits more
one_more : (a b : ℕ) (l p : List ℕ) → value_of a < 16 → value_of b < 16 → Written l p → Written (a ∷ (b ∷ l)) ((value_of a * 16 + value_of b) ∷ p)
unfolding hexadecimal
one_more a b l p ha hb w =
    let q : (value_of a * 16 + value_of b) / 16 ≡ value_of a = omega arith in
    let r : (value_of a * 16 + value_of b) % 16 ≡ value_of b = omega arith in
    record { text = rw (q, r, digit_value a ha, digit_value b hb, w.text); bytes = more }
  where
    more : Bytes ((value_of a * 16 + value_of b) ∷ p)
    more zero = omega arith
    more (suc i) = w.bytes i

-- a line that is read is so
pub bytes-written : (l p : List ℕ) → bytes_in l ≡ Some p → Written l p
unfolding bytes_in hexadecimal
bytes-written [] p e = subst (Written []) (some-injective [] p e) (record { text = refl; bytes = λ i. omega arith })
bytes-written (a ∷ []) p e = absurd (none-ne-some p e)
bytes-written (a ∷ (b ∷ l)) p e =
    let c = cond_some (ltb (value_of a) 16 && ltb (value_of b) 16) _ p e in
    let t = both (ltb (value_of a) 16) (ltb (value_of b) 16) c.0 in
    let s = before-some ((value_of a * 16 + value_of b) ∷ []) (bytes_in l) p c.1 in
    subst (Written (a ∷ (b ∷ l))) s.2
    (one_more a b l s.0 (ltb-true (value_of a) 16 t.0) (ltb-true (value_of b) 16 t.1) (bytes-written l s.0 s.1))
