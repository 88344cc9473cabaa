-- Exactly the decimal numbers are read, up to the largest.
use Rattle.std.specs.Prelude.{◌≡◌, ◌≤◌, ◌+◌, ◌<◌, ◌-◌, ◌%◌, ◌∷◌, ◌*◌, ◌++◌, ◌/◌}
use Rattle.words.specs.Words.{arith, ℕ, List, refl, ◌∙◌, [], Some, suc, true, zero, false, Bool, subst, leb, eqb}
use Rattle.words.specs.Words.{le-leb, some-injective, none-ne-some, ne_eqb, append_assoc, leb-true, eqb-true, ⊎_elim, eqb-false}
use native.Mathlib.Nat.{eq-zero-or-pos}
use Rattle.text.specs.Text.{decimal}
use Rattle.text.proofs.Decimals.{decimal_small, decimal-more, decimal_step}
use Rattle.wire.proofs.Settings.{within_true, within_bounds}
use Rattle.lines.specs.Reading.{Numbered, is_digit, number_from, number_in}
use Rattle.lines.proofs.Options.{cond_some}

-- ---- the text is read

-- a digit more
digit-more : (most v d : ℕ) (l : List ℕ) → d < 10 → v * 10 + d ≤ most → number_from most v ((48 + d) ∷ l) ≡ number_from most (v * 10 + d) l
unfolding number_from
digit-more most v d l h k =
    let e : 48 + d - 48 ≡ d = omega arith in
    rw (within_true 48 57 (48 + d) (omega arith) (omega arith), e, le-leb (v * 10 + d) most k)

-- a number that is not zero, at most k
positive_read : (k most n : ℕ) (l : List ℕ) → n ≤ k → 0 < n → n ≤ most → number_in most (decimal n ++ l) ≡ number_from most n l
unfolding number_in
positive_read zero most n l f p h = absurd (omega arith)
positive_read (suc k) most n l f p h =
    ⊎_elim
    (λ z.
    let e : 48 + n - 48 ≡ n = omega arith in
    rw (
      decimal_small n (omega arith),
      within_true 48 57 (48 + n) (omega arith) (omega arith),
      ne_eqb (48 + n) 48 (λ q. omega arith),
      e,
    )
    )
    (λ m.
    let e : n / 10 * 10 + n % 10 ≡ n = omega arith in
    rw (decimal-more n (omega arith), append_assoc)
    (positive_read k most (n / 10) ((48 + n % 10) ∷ l) (omega arith) m (omega arith)
    ∙ rw e at (digit-more most (n / 10) (n % 10) l (omega arith) (omega arith)))
    )
    (eq-zero-or-pos (n / 10))

-- what follows begins with no digit
abbrev pub Stops : List ℕ → Type 0
Stops [] = Unit {0}
Stops (b ∷ l) = is_digit b ≡ false

-- there the number ends
stopped : (most n : ℕ) (l : List ℕ) → Stops l → number_from most n l ≡ Some (record { value = n; rest = l })
unfolding number_from
stopped most n [] s = refl
stopped most n (b ∷ l) s = rw s

-- a number that is small enough is read
pub number_read : (most n : ℕ) (l : List ℕ) → n ≤ most → Stops l → number_in most (decimal n ++ l) ≡ Some (record { value = n; rest = l })
unfolding number_in
number_read most n l h s =
    ⊎_elim
    (λ z. rw (z, decimal_small 0 (omega arith)))
    (λ p. positive_read n most n l (omega arith) p h ∙ stopped most n l s)
    (eq-zero-or-pos n)

-- ---- what is read is the text

-- a number is at the front of a line
pub record Written (most : ℕ) (l : List ℕ) (r : Numbered) : Type 0 where
  pub text : l ≡ decimal r.value ++ r.rest
  pub small : r.value ≤ most

-- after its first digits
digits-written : (most v : ℕ) (l : List ℕ) (r : Numbered) → 0 < v → v ≤ most → number_from most v l ≡ Some r → Written most (decimal v ++ l) r
unfolding number_from
digits-written most v [] r p h e = subst (Written most (decimal v ++ [])) (some-injective _ r e) (record { text = refl; small = h })
digits-written most v (b ∷ l) r p h e = go (is_digit b) refl (λ k. digits-written most (v * 10 + (b - 48)) l r (omega arith) k)
  where
    go : (t : Bool) → is_digit b ≡ t
        → (v * 10 + (b - 48) ≤ most → number_from most (v * 10 + (b - 48)) l ≡ Some r → Written most (decimal (v * 10 + (b - 48)) ++ l) r)
        → Written most (decimal v ++ (b ∷ l)) r
    go true f more =
        let k = within_bounds 48 57 b f in
        let q = cond_some (leb (v * 10 + (b - 48)) most) _ r (rw f at e) in
        let d : 48 + (b - 48) ≡ b = omega arith in
        rw (decimal_step v (b - 48) p (omega arith), append_assoc, d) at (more (leb-true (v * 10 + (b - 48)) most q.0) q.1)
    go false f more = subst (Written most (decimal v ++ (b ∷ l))) (some-injective _ r (rw f at e)) (record { text = refl; small = h })

-- from its first digit on
pub number-written : (most : ℕ) (l : List ℕ) (r : Numbered) → 9 ≤ most → number_in most l ≡ Some r → Written most l r
unfolding number_in
number-written most [] r h e = absurd (none-ne-some r e)
number-written most (b ∷ l) r h e = go (eqb b 48) refl
  where
    go : (t : Bool) → eqb b 48 ≡ t → Written most (b ∷ l) r
    go true f =
        let q = cond_some (is_digit b) _ r (rw f at e) in
        subst (Written most (b ∷ l)) (some-injective _ r q.1)
        (record { text = rw (eqb-true b 48 f, decimal_small 0 (omega arith)); small = omega arith })
    go false f =
        let q = cond_some (is_digit b) _ r (rw f at e) in
        let k = within_bounds 48 57 b q.0 in
        let d : 48 + (b - 48) ≡ b = omega arith in
        rw (decimal_small (b - 48) (omega arith), d)
        at (digits-written most (b - 48) l r (omega (arith, eqb-false b 48 f)) (omega arith) q.1)
