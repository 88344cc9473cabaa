-- The pass marks what the marks reach: from a marked known position of the window to the position that its L names, and so on.
use Rattle.std.specs.Prelude.{◌≡◌, ◌≤◌, ◌+◌, ◌<◌, ◌-◌, ◌*◌, ◌↔◌, ◌⊎◌}
use Rattle.words.specs.Words.{arith, ℕ, List, refl, sym, ap, Some, suc, true, zero, None, false, Bool, subst, Option}
use Rattle.words.specs.Words.{some-injective, none-ne-some, add-zero, zero-add, inr, inl, zero-mul, add-suc}
use mathlib.Core.Bool.{false≢true}
use Rattle.wire.specs.Packets.{symbol_count}
use Rattle.wire.proofs.Adui.{room}
use Rattle.starts.specs.Adu.{View, length_in, needs}
use Rattle.starts.specs.Starts.{Starts, onward, pass}
use Rattle.starts.specs.Settled.{Reaches, seed, next}
use Rattle.starts.proofs.Tests.{also_true}

-- An ADUI takes a symbol at least.
pub symbols-some : (E L : ℕ) → 0 < E → 0 < symbol_count E L
symbols-some E L h = go (symbol_count E L) (room E L h)
  where
    go : (n : ℕ) → 3 + L ≤ n * E → 0 < n
    go zero k = absurd (omega (arith, k, zero-mul E))
    go (suc n) k = omega arith

pub needs-some : (E : ℕ) (x : List ℕ) → 0 < E → 0 < needs E x
needs-some E x h = symbols-some E (length_in x) h

module _ (E : ℕ) (see : View) where
  -- The turn of position n: what was marked stays, the position that its L names is marked, and no other.
  module _ (n : ℕ) (M : Starts) where
    pub stays : (b : Bool) (o : Option (List ℕ)) (j : ℕ) → M j ≡ true → onward E b o n M j ≡ true
    stays true (Some v) j h = (also_true (n + needs E v) M j).1 (inr h)
    stays true None j h = h
    stays false o j h = h

    marks : (b : Bool) (o : Option (List ℕ)) (v : List ℕ) → b ≡ true → o ≡ Some v → onward E b o n M (n + needs E v) ≡ true
    marks true (Some x) v e f = (also_true (n + needs E x) M (n + needs E v)).1 (inl (ap (λ y. n + needs E y) (some-injective _ _ (sym f))))
    marks true None v e f = absurd (none-ne-some _ f)
    marks false o v e f = absurd (false≢true e)

    pub no_other : (b : Bool) (o : Option (List ℕ)) (j : ℕ) → onward E b o n M j ≡ true
        → (M j ≡ true) ⊎ ((v : List ℕ) × (b ≡ true) × (o ≡ Some v) × (j ≡ n + needs E v))
    no_other true (Some v) j h = go ((also_true (n + needs E v) M j).0 h)
      where
        go : (j ≡ n + needs E v) ⊎ (M j ≡ true) → (M j ≡ true) ⊎ ((x : List ℕ) × (true ≡ true) × (Some v ≡ Some x) × (j ≡ n + needs E x))
        go (inl e) = inr (v, refl, refl, e)
        go (inr k) = inl k
    no_other true None j h = inl h
    no_other false o j h = inl h

  reaches_on : (w : ℕ) (M : Starts) {j : ℕ} → Reaches E w see M j → Reaches E (suc w) see M j
  reaches_on w M (seed h) = seed h
  reaches_on w M (next c l h) = next (reaches_on w M c) (omega arith) h

  to_reaches : (w : ℕ) (M : Starts) (j : ℕ) → pass E see w M j ≡ true → Reaches E w see M j
  unfolding pass
  to_reaches zero M j h = seed h
  to_reaches (suc w) M j h =
      go (no_other w (pass E see w M) (pass E see w M w) (see w) j h) (to_reaches w M j) (to_reaches w M w)
    where
      go : (pass E see w M j ≡ true) ⊎ ((v : List ℕ) × (pass E see w M w ≡ true) × (see w ≡ Some v) × (j ≡ w + needs E v))
          → (pass E see w M j ≡ true → Reaches E w see M j) → (pass E see w M w ≡ true → Reaches E w see M w) → Reaches E (suc w) see M j
      go (inl k) f g = reaches_on w M (f k)
      go (inr (v, k, e, q)) f g = subst (Reaches E (suc w) see M) (sym q) (next (reaches_on w M (g k)) (omega arith) e)

  -- What is marked stays marked, and at its own turn a position is marked as at the end.
  pass_grows : (n d : ℕ) (M : Starts) (j : ℕ) → pass E see n M j ≡ true → pass E see (n + d) M j ≡ true
  unfolding pass
  pass_grows n zero M j h = rw add-zero h
  pass_grows n (suc d) M j h =
      rw add-suc (stays (n + d) (pass E see (n + d) M) (pass E see (n + d) M (n + d)) (see (n + d)) j (pass_grows n d M j h))

  module _ (some_bytes : 0 < E) where
    pass_settles : (n d : ℕ) (M : Starts) → pass E see (n + d) M n ≡ true → pass E see n M n ≡ true
    unfolding pass
    pass_settles n zero M h = rw add-zero at h
    pass_settles n (suc d) M h =
        go (no_other (n + d) (pass E see (n + d) M) (pass E see (n + d) M (n + d)) (see (n + d)) n (rw add-suc at h)) (pass_settles n d M)
      where
        go : (pass E see (n + d) M n ≡ true)
            ⊎ ((v : List ℕ) × (pass E see (n + d) M (n + d) ≡ true) × (see (n + d) ≡ Some v) × (n ≡ n + d + needs E v))
            → (pass E see (n + d) M n ≡ true → pass E see n M n ≡ true) → pass E see n M n ≡ true
        go (inl k) f = f k
        go (inr (v, k, e, q)) f = absurd (omega (arith, q, needs-some E v some_bytes))

    of_reaches : (w : ℕ) (M : Starts) {j : ℕ} → Reaches E w see M j → pass E see w M j ≡ true
    unfolding pass
    of_reaches w M (seed {j} h) = subst (λ n. pass E see n M j ≡ true) (zero-add w) (pass_grows 0 w M j h)
    of_reaches w M (next {i} {v} c l h) =
        let (d, e) : (d : ℕ) × (suc i + d ≡ w) = (w - suc i, omega arith) in
        let f : i + suc d ≡ w = omega arith in
        let k = pass_settles i (suc d) M (subst (λ n. pass E see n M i ≡ true) (sym f) (of_reaches w M c)) in
        subst (λ n. pass E see n M (i + needs E v) ≡ true) e
        (pass_grows (suc i) d M (i + needs E v) (marks i (pass E see i M) (pass E see i M i) (see i) v k h))

    pub pass_reaches : (w : ℕ) (M : Starts) (j : ℕ) → (pass E see w M j ≡ true) ↔ Reaches E w see M j
    pass_reaches w M j = (to_reaches w M j, of_reaches w M)
