-- What the model says is heard is what the history says was brought.
use Rattle.std.specs.Prelude.{◌≡◌, ◌≤◌, ◌+◌, ◌<◌, ◌-◌, ◌∷◌, ◌&&◌, ◌↔◌, ◌⊎◌}
use Rattle.words.specs.Words.{arith, ℕ, length, refl, ◌∙◌, sym, ap, [], Some, true, None, false, Bool, subst, Option, leb, ltb}
use Rattle.words.specs.Words.{inl, inr, max, leb-true, ltb-true, le-leb, lt-ltb, some-injective}
use mathlib.Core.Bool.{false≢true}
use Rattle.starts.proofs.Tests.{or_true, and-true}
use Rattle.wire.specs.declared.Setting.{Setting}
use Rattle.history.specs.History.{Located, source, repair, first, named, Reading, fails, located, Log, logged}
use Rattle.history.specs.Origins.{Brought}
use Rattle.history.specs.Model.{Joined, packet_of, Outcome, refused, done, added, responds, said_of, Origins, unheard, bringing, hearing, origins_after}
use Rattle.history.proofs.Answers.{rises}
use Rattle.decoder.specs.Receiver as decoder

-- What the packets have brought.
abbrev pub brought : Log → Origins
brought [] = unheard
brought (q ∷ l) = hearing q (brought l)

-- After a call it is what the log after it has brought.
pub brought_after : (s : Setting) (l : Log) (r : Reading) (o : Outcome s) → origins_after r o (brought l) ≡ brought (logged s l r (said_of o))
brought_after s l (located q) (done n t) = refl
brought_after s l (located q) (refused n) = refl
brought_after s l (fails m) o = refl

-- What one packet brings, and what all have brought.
brings_is : (p n : ℕ) (H : Origins) (x : ℕ) → (bringing p n H x ≡ true) ↔ (((p ≤ x) × (x < p + n)) ⊎ (H x ≡ true))
brings_is p n H x = ((λ e. there ((or_true _ (H x)).0 e)), (λ a. (or_true _ (H x)).1 (back a)))
  where
    in_it : (leb p x && ltb x (p + n) ≡ true) ↔ ((leb p x ≡ true) × (ltb x (p + n) ≡ true))
    in_it = and-true (leb p x) (ltb x (p + n))

    there : (leb p x && ltb x (p + n) ≡ true) ⊎ (H x ≡ true) → ((p ≤ x) × (x < p + n)) ⊎ (H x ≡ true)
    there (inl e) = inl (leb-true p x (in_it.0 e).0, ltb-true x (p + n) (in_it.0 e).1)
    there (inr e) = inr e

    back : ((p ≤ x) × (x < p + n)) ⊎ (H x ≡ true) → (leb p x && ltb x (p + n) ≡ true) ⊎ (H x ≡ true)
    back (inl (a, b)) = inl (in_it.1 (le-leb p x a, lt-ltb x (p + n) b))
    back (inr e) = inr e

-- One more stretch.
brought_more : (p n : ℕ) (l : Log) (x : ℕ) → (brought l x ≡ true) ↔ Brought l x
    → (bringing p n (brought l) x ≡ true) ↔ (((p ≤ x) × (x < p + n)) ⊎ Brought l x)
brought_more p n l x g = ((λ e. there ((brings_is p n (brought l) x).0 e)), (λ b. (brings_is p n (brought l) x).1 (back b)))
  where
    there : ((p ≤ x) × (x < p + n)) ⊎ (brought l x ≡ true) → ((p ≤ x) × (x < p + n)) ⊎ Brought l x
    there (inl a) = inl a
    there (inr e) = inr (g.0 e)

    back : ((p ≤ x) × (x < p + n)) ⊎ Brought l x → ((p ≤ x) × (x < p + n)) ⊎ (brought l x ≡ true)
    back (inl a) = inl a
    back (inr b) = inr (g.1 b)

-- No more.
brought_same : (l : Log) (x : ℕ) → (brought l x ≡ true) ↔ Brought l x → (brought l x ≡ true) ↔ (⊥ ⊎ Brought l x)
brought_same l x g = ((λ e. inr (g.0 e)), back)
  where
    back : ⊥ ⊎ Brought l x → brought l x ≡ true
    back (inl a) = absurd a
    back (inr b) = g.1 b

pub brought_is : (l : Log) (x : ℕ) → (brought l x ≡ true) ↔ Brought l x
brought_is [] x = ((λ e. false≢true e), (λ b. absurd b))
brought_is (source p symbols ∷ l) x = brought_more p (length symbols) l x (brought_is l x)
brought_is (repair p n coefficients symbols ∷ l) x = brought_same l x (brought_is l x)

-- ---- No later position is heard

unless : (b : Bool) → (b ≡ true → ⊥) → b ≡ false
unless true f = absurd (f refl)
unless false f = refl

module _ (s : Setting) (some_bytes : 0 < s.size) where
  open s use {size as E, width}

  abbrev IsDone : Outcome s → Type 0
  IsDone (refused n) = ⊥
  IsDone (done n y) = Unit {0}

  abbrev its_state : Outcome s → Option (Joined s)
  its_state (refused n) = None
  its_state (done n y) = Some y

  -- None is past the window after a packet that raises the base so: of those before, and of a stretch that ends in it.
  same_inside : (b b' : ℕ) (H : Origins) → b ≤ b' → ((i : ℕ) → width ≤ i → H (b + i) ≡ false) → (i : ℕ) → width ≤ i → H (b' + i) ≡ false
  same_inside b b' H h f i l =
      let k : b + (b' - b + i) ≡ b' + i = omega arith in
      ap H (sym k) ∙ f (b' - b + i) (omega arith)

  more-inside : (p n b b' : ℕ) (H : Origins) → b ≤ b' → p + n ≤ b' + width → ((i : ℕ) → width ≤ i → H (b + i) ≡ false)
      → (i : ℕ) → width ≤ i → bringing p n H (b' + i) ≡ false
  more-inside p n b b' H h g f i l = unless _ (λ x. away ((brings_is p n H (b' + i)).0 x))
    where
      away : ((p ≤ b' + i) × (b' + i < p + n)) ⊎ (H (b' + i) ≡ true) → ⊥
      away (inl (c, d)) = omega arith
      away (inr x) = false≢true (sym (same_inside b b' H h f i l) ∙ x)

  hearing-inside : (q : Located) (b b' : ℕ) (H : Origins) → b' ≡ max b (first q + named q - width) → ((i : ℕ) → width ≤ i → H (b + i) ≡ false)
      → (i : ℕ) → width ≤ i → hearing q H (b' + i) ≡ false
  hearing-inside (source p symbols) b b' H e f = more-inside p (length symbols) b b' H (omega (arith, e)) (omega (arith, e)) f
  hearing-inside (repair p n coefficients symbols) b b' H e f = same_inside b b' H (omega (arith, e)) f

  pub origins-inside : (j : Joined s) (r : Reading) (n : ℕ) (y : Joined s) (H : Origins) → responds s j r ≡ done n y
      → ((i : ℕ) → width ≤ i → H (j.base + i) ≡ false) → (i : ℕ) → width ≤ i → origins_after {s = s} r (done n y) H (y.base + i) ≡ false
  origins-inside j (fails m) n y H e f = absurd (subst IsDone (sym e) tt)
  origins-inside j (located q) n y H e f = go (decoder.receive j (packet_of E q)) refl e
    where
      go : (o : Option (Joined s)) → decoder.receive j (packet_of E q) ≡ o → added s j o ≡ done n y → (i : ℕ) → width ≤ i
          → hearing q H (y.base + i) ≡ false
      go None x z = absurd (subst IsDone (sym z) tt)
      go (Some t) x z =
          let same : t ≡ y = some-injective t y (ap its_state z) in
          hearing-inside q j.base y.base H (ap (λ (u : Joined s). u.base) (sym same) ∙ rises s some_bytes j t q x) f
