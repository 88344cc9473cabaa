-- The pass through the window and walks in it, in memory.
-- The note: noted_byte, noted_only, noted_marks.
-- A turn: step_unmarked, step_unknown, step_long, step_far, step_again, step_near.
-- The pass: Passing, passing-none, passing-more, passed, passed_all.
-- Walks: Walking, walking_none, walking_more, walked, followed_none, followed_more, followed_to, followed_own.
-- After a packet: owned_some, owned_none, updated.
use Rattle.std.specs.Prelude.{◌≡◌, ◌≤◌, ◌+◌, ◌<◌, ◌-◌, ◌%◌, ◌≢◌, ◌⊎◌, ◌||◌}
use Rattle.words.specs.Words.{arith, ℕ, List, length, refl, ◌∙◌, sym, ap, Some, suc, true, zero, None, false, Bool, subst}
use Rattle.words.specs.Words.{cond, ltb, mod-lt, ℕ_discrete, some-injective, none-ne-some, dec_lt, add-one, ne_eqb, lt-ltb, mod-add-mod, inr}
use Rattle.words.specs.Words.{eq-eqb, true≢false, inl, set, length-set, le-ltb, ltb-false}
use lib.Seq.{get_or-set_same, get_or-set_other}
use Rattle.memory.specs.Part.{part}
use Rattle.memory.specs.Number.{number, Bytes}
use Rattle.memory.proofs.Parts.{part-part}
use Rattle.wire.specs.Packets.{symbol_count}
use Rattle.decoder.specs.Bytes.{Coded}
use Rattle.decoder.specs.Model.{State}
use Rattle.table.specs.Window.{row_offset, Window, Fits}
use Rattle.placing.specs.Place.{KnownAt}
use Rattle.placing.proofs.Showing.{symbol_bytes}
use Rattle.starts.specs.Adu.{needs, View}
use Rattle.starts.specs.Starts.{Starts, also, owning, moved, onward, pass, shown, seen}
use Rattle.marks.specs.Marks.{mark_at, marked, Marks, noted_in, OnlyStarts}
use Rattle.starts.specs.Settled.{Open, Settled, Old, Reaches, seed, next}
use Rattle.marks.specs.MarkSteps.{Noted, Stepped, Followed, Owned, MayWalk, Extended, Updated}
use Rattle.marks.specs.Promises.{MarkSet, MarksMoved, Passed}
use Rattle.marks.proofs.Only.{only_refl, only_trans, starts_refl, starts-of, starts_trans, starts-window, note_no_mark, mark_not_note}
use Rattle.starts.proofs.Agreeing.{Agree}
use Rattle.starts.proofs.Chaining.{needs-some}
use Rattle.starts.proofs.Settling.{open_agree, skipped, noted, set_end, reaches_agree, is-pass, settled_agree, nothing_open}
use Rattle.starts.proofs.Chaining as chaining

onward-none : (E i : ℕ) (t : Bool) (M : Starts) → onward E t None i M ≡ M
onward-none E i true M = refl
onward-none E i false M = refl

pub noted_byte : (v : ℕ) (m : List ℕ) → 11 < length m → Noted v m (set m 11 v)
noted_byte v m l = record { size = length-set m 11 v; here = get_or-set_same m 11 v 0 l; rest = λ k n. get_or-set_other m 11 k v 0 n }

pub noted_only : {w E v : ℕ} {m m' : List ℕ} → Noted v m m' → OnlyStarts w E m m'
noted_only f = record { size = f.size; others = λ k n d. f.rest k d }

pub noted_marks : (w E oldest v : ℕ) (m m' : List ℕ) (M : Starts) → 0 < w → Noted v m m' → Marks w E oldest m M → Marks w E oldest m' M
noted_marks w E oldest v m m' M pos f h i l = ap (ltb 0) (f.rest (mark_at w E oldest i) (mark_not_note w E oldest i pos)) ∙ h i l

-- ---- the turn of the i-th position, in the row r

module _ (w E oldest i r : ℕ) (m : List ℕ) (l : i < w) (here : r ≡ (oldest + i) % w) where
  row_there : (b : ℕ) → b % w ≡ oldest → (b + i) % w ≡ r
  row_there b e = sym (mod-add-mod b w i) ∙ ap (λ k. (k + i) % w) e ∙ sym here

  -- It is not known.
  pub step_unknown : (t : Bool) → t ≡ false → KnownAt w E r t m → Stepped w E oldest i w m m
  step_unknown t f k = record {
    only = starts_refl;
    later = (l, omega arith);
    marks = λ b S M e v h j g. h j g ∙ sym (same b S M e v j);
    opens = λ b S M e v h.
        skipped E w (seen E w S) (noted_in m) M (onward E (M i) (seen E w S i) i M) i w (λ j g. same b S M e v j)
        (λ o. none-ne-some _ (sym (unseen b S e v) ∙ o.sees));
  }
    where
      unseen : (b : ℕ) (S : State (Coded E) w) → b % w ≡ oldest → Window w E m b S → seen E w S i ≡ None
      unseen b S e v = ap (shown E) (subst (λ x. KnownAt w E r x m) f k b i S l (row_there b e) v)

      same : (b : ℕ) (S : State (Coded E) w) (M : Starts) → b % w ≡ oldest → Window w E m b S → (j : ℕ)
          → onward E (M i) (seen E w S i) i M j ≡ M j
      same b S M e v j = ap (λ o. onward E (M i) o i M j) (unseen b S e v) ∙ ap (λ N. N j) (onward-none E i (M i) M)

  -- It is marked and known, and the ADU that it begins needs n symbols.
  module _ (at n L : ℕ) (fits : Fits w E m) (bytes : Bytes m) (offset-of : at ≡ row_offset w E r + w) (t : Bool) (yes-known : t ≡ true) (k : KnownAt w E r t m)
      (loaded : L ≡ number (part (at + 1) 2 m)) (count : n ≡ symbol_count E L)
      (u : Bool) (mark : u ≡ marked w E oldest m i) (yes-marked : u ≡ true) where
    within : r < w
    within = rw here (mod-lt (oldest + i) fits.some_width)

    sees : (b : ℕ) (S : State (Coded E) w) → b % w ≡ oldest → Window w E m b S → seen E w S i ≡ Some (part at E m)
    sees b S e v =
        ap (shown E) (subst (λ x. KnownAt w E r x m) yes-known k b i S l (row_there b e) v)
        ∙ ap Some (symbol_bytes w E r m fits within bytes ∙ ap (λ x. part x E m) (sym offset-of))

    counts : needs E (part at E m) ≡ n
    counts = ap (λ x. symbol_count E x) (ap number (part-part at E 1 2 m (omega (arith, fits.some_symbol))) ∙ sym loaded) ∙ sym count

    some_needed : 0 < n
    some_needed = let s = needs-some E (part at E m) (omega (arith, fits.some_symbol)) in omega (arith, counts, s)

    module _ (b : ℕ) (S : State (Coded E) w) (M : Starts) (e : b % w ≡ oldest) (v : Window w E m b S) (h : Marks w E oldest m M) where
      turn : onward E (M i) (seen E w S i) i M ≡ also (i + n) M
      turn =
          ap (λ x. onward E x (seen E w S i) i M) (sym (h i (omega arith)) ∙ sym mark ∙ yes-marked) ∙ ap (λ o. onward E true o i M) (sees b S e v)
          ∙ ap (λ x. also (i + x) M) counts

      -- An end past the window changes no mark up to the width.
      turn_far : w - i < n → Agree w (onward E (M i) (seen E w S i) i M) M
      turn_far g j q = ap (λ N. N j) turn ∙ ap (λ x. x || M j) (ne_eqb j (i + n) (λ z. omega (arith, z)))

      -- Nor does one that is marked already.
      turn_marked : i + n ≤ w → marked w E oldest m (i + n) ≡ true → Agree w (onward E (M i) (seen E w S i) i M) M
      turn_marked g y j q = ap (λ N. N j) turn ∙ go (ℕ_discrete j (i + n))
        where
          go : Dec (j ≡ i + n) → also (i + n) M j ≡ M j
          go (yes z) = ap (λ x. x || M j) (eq-eqb j (i + n) z) ∙ sym (ap M z ∙ sym (h (i + n) g) ∙ y)
          go (no z) = ap (λ x. x || M j) (ne_eqb j (i + n) z)

      -- The bytes that an open position would have.
      its_needs : (f : ℕ) (N : Starts) (o : Open E w (seen E w S) f N i) → needs E o.bytes ≡ n
      its_needs f N o = ap (needs E) (some-injective _ _ (sym o.sees ∙ sees b S e v)) ∙ counts

    pub step_long : w < n → Stepped w E oldest i w m m
    step_long g = record {
      only = starts_refl;
      later = (l, omega arith);
      marks = λ b S M e v h j q. h j q ∙ sym (turn_far b S M e v h (omega arith) j q);
      opens = λ b S M e v h.
          skipped E w (seen E w S) (noted_in m) M (onward E (M i) (seen E w S i) i M) i w (turn_far b S M e v h (omega arith))
          (λ o. omega (arith, its_needs b S M e v h (noted_in m) M o, o.fits, g));
    }

    pub step_far : (m' : List ℕ) → w - i < n → Noted 1 m m' → Stepped w E oldest i w m m'
    step_far m' g a = record {
      only = noted_only a;
      later = (l, omega arith);
      marks = λ b S M e v h j q. noted_marks w E oldest 1 m m' M fits.some_width a h j q ∙ sym (turn_far b S M e v h g j q);
      opens = λ b S M e v h k o.
          noted E w (seen E w S) (noted_in m) M (onward E (M i) (seen E w S i) i M) i w (part at E m) (turn_far b S M e v h g) (sees b S e v)
          (omega (arith, counts, g, l)) k
          (subst (λ f. Open E w (seen E w S) f (onward E (M i) (seen E w S i) i M) k) a.here o);
    }

    pub step_again : n ≤ w - i → (y : Bool) → y ≡ marked w E oldest m (i + n) → y ≡ true → Stepped w E oldest i w m m
    step_again g y is yes-y = record {
      only = starts_refl;
      later = (l, omega arith);
      marks = λ b S M e v h j q. h j q ∙ sym (turn_marked b S M e v h (omega arith) (sym is ∙ yes-y) j q);
      opens = λ b S M e v h.
          skipped E w (seen E w S) (noted_in m) M (onward E (M i) (seen E w S i) i M) i w (turn_marked b S M e v h (omega arith) (sym is ∙ yes-y))
          (λ o.
          let z = its_needs b S M e v h (noted_in m) M o in
          let at_end : M (i + needs E o.bytes) ≡ true = ap (λ x. M (i + x)) z ∙ sym (h (i + n) (omega arith)) ∙ sym is ∙ yes-y in
          true≢false (sym at_end ∙ o.unmarked (omega (arith, z, g, l))));
    }

    pub step_near : (m' : List ℕ) → n ≤ w - i → MarkSet w E oldest (i + n) m m' → Stepped w E oldest i (i + n) m m'
    step_near m' g a = record {
      only = starts-of a.only;
      later = (let s = some_needed in omega arith, omega arith);
      marks = λ b S M e v h j q. a.marks M h j q ∙ sym (ap (λ N. N j) (turn b S M e v h));
      opens = λ b S M e v h k o.
          let same : noted_in m' ≡ noted_in m = a.only.others 11 (note_no_mark w E) in
          let p = subst (λ N. Open E w (seen E w S) (noted_in m') N k) (turn b S M e v h ∙ ap (λ x. also (i + x) M) (sym counts)) o in
          let q = subst (λ f. Open E w (seen E w S) f (also (i + needs E (part at E m)) M) k) same p in
          subst (λ x. (k ≡ i + x) ⊎ (Open E w (seen E w S) (noted_in m) M k × (k ≢ i))) counts
          (set_end E w (seen E w S) (noted_in m) M i (part at E m) (sees b S e v) (omega (arith, counts, g, l)) k q);
    }

-- It is not marked.
pub step_unmarked : (w E oldest i : ℕ) (m : List ℕ) → i < w → (u : Bool) → u ≡ marked w E oldest m i → u ≡ false → Stepped w E oldest i w m m
step_unmarked w E oldest i m l u is f = record {
  only = starts_refl;
  later = (l, omega arith);
  marks = λ b S M e v h j g. h j g ∙ sym (same S M h j);
  opens = λ b S M e v h.
      skipped E w (seen E w S) (noted_in m) M (onward E (M i) (seen E w S i) i M) i w (λ j g. same S M h j)
      (λ o. true≢false (sym o.mark ∙ sym (h i (omega arith)) ∙ sym is ∙ f));
}
  where
    same : (S : State (Coded E) w) (M : Starts) → Marks w E oldest m M → (j : ℕ) → onward E (M i) (seen E w S i) i M j ≡ M j
    same S M h j = ap (λ t. onward E t (seen E w S i) i M j) (sym (h i (omega arith)) ∙ sym is ∙ f)

-- ---- the pass, so far through the first i positions

pub record Passing (w E oldest i : ℕ) (m m' : List ℕ) : Type 0 where
  pub only : OnlyStarts w E m m'
  pub marks : (b : ℕ) (S : State (Coded E) w) (M : Starts) → b % w ≡ oldest → Window w E m b S → Marks w E oldest m M
      → Marks w E oldest m' (pass E (seen E w S) i M)
      × ((k : ℕ) → k < i → ¬ Open E w (seen E w S) (noted_in m') (pass E (seen E w S) i M) k)

pub passing-none : (w E oldest : ℕ) (m : List ℕ) → Passing w E oldest 0 m m
unfolding pass
passing-none w E oldest m = record { only = starts_refl; marks = λ b S M e v h. (h, λ k l. absurd (omega arith)) }

pub passing-more : (w E oldest i r : ℕ) (m m₁ m₂ : List ℕ) → 0 < w → Passing w E oldest i m m₁ → Stepped w E oldest i r m₁ m₂ → Passing w E oldest (i + 1) m m₂
unfolding pass
passing-more w E oldest i r m m₁ m₂ pos f g = record {
  only = starts_trans f.only g.only;
  marks = λ b S M e v h.
      let P = pass E (seen E w S) i M in
      let v₁ = starts-window pos f.only b S v in
      let (h₁, shut) = f.marks b S M e v h in
      subst (λ n. Marks w E oldest m₂ (pass E (seen E w S) n M) × ((k : ℕ) → k < n → ¬ Open E w (seen E w S) (noted_in m₂) (pass E (seen E w S) n M) k))
      (sym (add-one i))
      (g.marks b S P e v₁ h₁, λ k l o. still g.later.0 l (shut k) (g.opens b S P e v₁ h₁ k o));
}
  where
    still : {k : ℕ} {A : Type 0} → i < r → k < suc i → (k < i → ¬ A) → (k ≡ r) ⊎ (A × (k ≢ i)) → ⊥
    still h l s (inl e) = omega (arith, e)
    still {k} h l s (inr (a, n)) = s (below (dec_lt k i)) a
      where
        below : Dec (k < i) → k < i
        below (yes q) = q
        below (no q) = absurd (n (omega arith))

pub passed : (w E oldest i : ℕ) (m m' : List ℕ) → i ≡ w → Passing w E oldest i m m' → Passed w E oldest m m'
passed w E oldest i m m' e f = record {
  only = f.only;
  marks = λ b S M q v h.
      let (g, s) = f.marks b S M q v h in
      subst (λ n. Marks w E oldest m' (pass E (seen E w S) n M) × Settled E w (seen E w S) (noted_in m') (pass E (seen E w S) n M)) e
      (g, λ k o. s k (omega (arith, o.inside, e)) o);
}

-- After the note was cleared.
pub passed_all : (w E oldest : ℕ) (m m₁ m₂ : List ℕ) → 0 < w → Noted 0 m m₁ → Passed w E oldest m₁ m₂ → Passed w E oldest m m₂
passed_all w E oldest m m₁ m₂ pos f g = record {
  only = starts_trans (noted_only f) g.only;
  marks = λ b S M e v h. g.marks b S M e (starts-window pos (noted_only f) b S v) (noted_marks w E oldest 0 m m₁ M pos f h);
}

-- ---- walks

pub followed_none : (w E oldest : ℕ) (P : ℕ → Type 0) (m : List ℕ) → ((k : ℕ) → P k → ⊥) → Followed w E oldest P m m
followed_none w E oldest P m no_one = record {
  only = starts_refl;
  kept = λ b S e v i l h. h;
  reached = λ b S e v i l h. seed h;
  opens = λ b S e v k o. (o, no_one k);
}

-- So far: i is the position that has its turn next.
pub record Walking (w E oldest from i : ℕ) (m m' : List ℕ) : Type 0 where
  pub within : i ≤ w
  pub only : OnlyStarts w E m m'
  pub kept : (b : ℕ) (S : State (Coded E) w) → b % w ≡ oldest → Window w E m b S
      → (j : ℕ) → j ≤ w → marked w E oldest m j ≡ true → marked w E oldest m' j ≡ true
  pub reached : (b : ℕ) (S : State (Coded E) w) → b % w ≡ oldest → Window w E m b S
      → (j : ℕ) → j ≤ w → marked w E oldest m' j ≡ true → Reaches E w (seen E w S) (marked w E oldest m) j
  pub opens : (b : ℕ) (S : State (Coded E) w) → b % w ≡ oldest → Window w E m b S
      → (k : ℕ) → Open E w (seen E w S) (noted_in m') (marked w E oldest m') k
      → (k ≡ i) ⊎ (Open E w (seen E w S) (noted_in m) (marked w E oldest m) k × (k ≢ from))

pub walking_none : (w E oldest from : ℕ) (m : List ℕ) → from ≤ w → Walking w E oldest from from m m
walking_none w E oldest from m l = record {
  within = l;
  only = starts_refl;
  kept = λ b S e v j q h. h;
  reached = λ b S e v j q h. seed h;
  opens = λ b S e v k o. go o (ℕ_discrete k from);
}
  where
    go : {A : Type 0} {k : ℕ} → A → Dec (k ≡ from) → (k ≡ from) ⊎ (A × (k ≢ from))
    go o (yes e) = inl e
    go o (no n) = inr (o, n)

module _ (w E oldest i r : ℕ) (m m' : List ℕ) (g : Stepped w E oldest i r m m') (l : i < w) where
  -- The marks after a turn, by those before it.
  after_turn : (b : ℕ) (S : State (Coded E) w) → b % w ≡ oldest → Window w E m b S
      → Marks w E oldest m' (onward E (marked w E oldest m i) (seen E w S i) i (marked w E oldest m))
  after_turn b S e v = g.marks b S (marked w E oldest m) e v (λ j q. refl)

  turn_keeps : (b : ℕ) (S : State (Coded E) w) → b % w ≡ oldest → Window w E m b S → (j : ℕ) → j ≤ w → marked w E oldest m j ≡ true
      → marked w E oldest m' j ≡ true
  turn_keeps b S e v j q h =
      after_turn b S e v j q ∙ chaining.stays E (seen E w S) i (marked w E oldest m) (marked w E oldest m i) (seen E w S i) j h

  turn_reaches : (b : ℕ) (S : State (Coded E) w) → b % w ≡ oldest → Window w E m b S → (M : Starts)
      → ((j : ℕ) → j ≤ w → marked w E oldest m j ≡ true → Reaches E w (seen E w S) M j)
      → (j : ℕ) → j ≤ w → marked w E oldest m' j ≡ true → Reaches E w (seen E w S) M j
  turn_reaches b S e v M before j q h =
      go (chaining.no_other E (seen E w S) i (marked w E oldest m) (marked w E oldest m i) (seen E w S i) j (sym (after_turn b S e v j q) ∙ h))
    where
      go : (marked w E oldest m j ≡ true)
          ⊎ ((x : List ℕ) × (marked w E oldest m i ≡ true) × (seen E w S i ≡ Some x) × (j ≡ i + needs E x))
          → Reaches E w (seen E w S) M j
      go (inl y) = before j q y
      go (inr (x, y, z, at)) = subst (Reaches E w (seen E w S) M) (sym at) (next (before i (omega arith) y) l z)

  turn_opens : (b : ℕ) (S : State (Coded E) w) → b % w ≡ oldest → Window w E m b S → (k : ℕ)
      → Open E w (seen E w S) (noted_in m') (marked w E oldest m') k
      → (k ≡ r) ⊎ (Open E w (seen E w S) (noted_in m) (marked w E oldest m) k × (k ≢ i))
  turn_opens b S e v k o =
      g.opens b S (marked w E oldest m) e v (λ j q. refl) k
      (open_agree E w (seen E w S) (noted_in m') (marked w E oldest m') _ (after_turn b S e v) k o)

pub walking_more : (w E oldest from i r : ℕ) (m m₁ m₂ : List ℕ) → 0 < w → i < w → Walking w E oldest from i m m₁ → Stepped w E oldest i r m₁ m₂
    → Walking w E oldest from r m m₂
walking_more w E oldest from i r m m₁ m₂ pos l f g = record {
  within = g.later.1;
  only = starts_trans f.only g.only;
  kept = λ b S e v j q h. turn_keeps w E oldest i r m₁ m₂ g l b S e (starts-window pos f.only b S v) j q (f.kept b S e v j q h);
  reached = λ b S e v. turn_reaches w E oldest i r m₁ m₂ g l b S e (starts-window pos f.only b S v) (marked w E oldest m) (f.reached b S e v);
  opens = λ b S e v k o. go (turn_opens w E oldest i r m₁ m₂ g l b S e (starts-window pos f.only b S v) k o) (f.opens b S e v k);
}
  where
    go : {k : ℕ} {A B : Type 0} → (k ≡ r) ⊎ (A × (k ≢ i)) → (A → (k ≡ i) ⊎ (B × (k ≢ from))) → (k ≡ r) ⊎ (B × (k ≢ from))
    go (inl e) h = inl e
    go {k} {A} {B} (inr (a, n)) h = last (h a)
      where
        last : (k ≡ i) ⊎ (B × (k ≢ from)) → (k ≡ r) ⊎ (B × (k ≢ from))
        last (inl e) = absurd (n e)
        last (inr b) = inr b

pub walked : (w E oldest from i : ℕ) (m m' : List ℕ) → w ≤ i → Walking w E oldest from i m m' → Followed w E oldest (λ k. k ≡ from) m m'
walked w E oldest from i m m' l f = record {
  only = f.only;
  kept = f.kept;
  reached = f.reached;
  opens = λ b S e v k o. go o.inside (f.opens b S e v k o);
}
  where
    go : {k : ℕ} {B : Type 0} → k < w → (k ≡ i) ⊎ (B × (k ≢ from)) → B × (k ≡ from → ⊥)
    go h (inl e) = absurd (omega (arith, e))
    go h (inr b) = b

-- One walk after others.
pub followed_more : (w E oldest first i : ℕ) (m m₁ m₂ : List ℕ) → 0 < w
    → Followed w E oldest (λ k. (first ≤ k) × (k < first + i)) m m₁ → Followed w E oldest (λ k. k ≡ first + i) m₁ m₂
    → Followed w E oldest (λ k. (first ≤ k) × (k < first + (i + 1))) m m₂
followed_more w E oldest first i m m₁ m₂ pos f g = record {
  only = starts_trans f.only g.only;
  kept = λ b S e v j q h. g.kept b S e (starts-window pos f.only b S v) j q (f.kept b S e v j q h);
  reached = λ b S e v j q h. through b S e v (g.reached b S e (starts-window pos f.only b S v) j q h) q;
  opens = λ b S e v k o.
      let (p, n) = g.opens b S e (starts-window pos f.only b S v) k o in
      let (z, d) = f.opens b S e v k p in
      (z, λ (a, c). apart k n d a c (dec_lt k (first + i)));
}
  where
    through : (b : ℕ) (S : State (Coded E) w) → b % w ≡ oldest → Window w E m b S → {j : ℕ}
        → Reaches E w (seen E w S) (marked w E oldest m₁) j → j ≤ w → Reaches E w (seen E w S) (marked w E oldest m) j
    through b S e v (seed {j} h) q = f.reached b S e v j q h
    through b S e v (next c l h) q = next (through b S e v c (omega arith)) l h

    apart : (k : ℕ) → (k ≡ first + i → ⊥) → ((first ≤ k) × (k < first + i) → ⊥) → first ≤ k → k < first + (i + 1) → Dec (k < first + i) → ⊥
    apart k n d a c (yes q) = d (a, q)
    apart k n d a c (no q) = n (omega arith)

pub followed_to : (w E oldest first i n : ℕ) (m m' : List ℕ) → i ≡ n → Followed w E oldest (λ k. (first ≤ k) × (k < first + i)) m m'
    → Followed w E oldest (λ k. (first ≤ k) × (k < first + n)) m m'
followed_to w E oldest first i n m m' e f = subst (λ x. Followed w E oldest (λ k. (first ≤ k) × (k < first + x)) m m') e f

pub followed_own : (w E oldest first n : ℕ) (m m' : List ℕ) → Followed w E oldest (λ k. (first ≤ k) × (k < first + (n + 1))) m m'
    → Followed w E oldest (λ k. (0 < n) × (first ≤ k) × (k < first + (n + 1))) m m'
followed_own w E oldest first n m m' f = record {
  only = f.only;
  kept = f.kept;
  reached = f.reached;
  opens = λ b S e v k o. let (p, d) = f.opens b S e v k o in (p, λ (_, a, c). d (a, c));
}

-- ---- after a packet

-- It has symbols of its own.
pub owned_some : (w E oldest first n : ℕ) (m m₁ m₂ : List ℕ) → n ≢ 0 → MarkSet w E oldest (first + n) m m₁ → MarkSet w E oldest first m₁ m₂
    → Owned w E oldest first n m m₂
owned_some w E oldest first n m m₁ m₂ own f g = record {
  only = only_trans f.only g.only;
  marks = λ M h i l.
      g.marks (also (first + n) M) (f.marks M h) i l
      ∙ sym (ap (λ t. cond t (also first (also (first + n) M)) M i) (lt-ltb 0 n (positive n own)));
}
  where
    positive : (n : ℕ) → n ≢ 0 → 0 < n
    positive zero h = absurd (h refl)
    positive (suc n) h = omega arith

-- It has none.
pub owned_none : (w E oldest first n : ℕ) (m : List ℕ) → n ≡ 0 → Owned w E oldest first n m m
owned_none w E oldest first n m e = record {
  only = only_refl;
  marks = λ M h i l. h i l ∙ sym (ap (λ t. cond t (also first (also (first + n) M)) M i) (le-ltb 0 n (omega arith)));
}

-- The marks after the packet: those of the pass, and settled.
module _ (w E former oldest rise first n : ℕ) (others : Bool) (m m₁ m₂ m₃ : List ℕ) (fits : Fits w E m) (is : oldest ≡ (former + rise) % w)
    (f : MarksMoved w E former rise m m₁) (g : Owned w E oldest first n m₁ m₂) (p : Extended w E oldest rise first n others m₂ m₃) where
  pos : 0 < w
  pos = fits.some_width

  first-only : OnlyStarts w E m m₂
  first-only = starts-of (only_trans f.only g.only)

  note_same : noted_in m₂ ≡ noted_in m
  note_same = g.only.others 11 (note_no_mark w E) ∙ f.only.others 11 (note_no_mark w E)

  module _ (b : ℕ) (before : View) (S : State (Coded E) w) (M : Starts) (e : b % w ≡ oldest) (v : Window w E m b S) (h : Marks w E former m M)
      (s : Settled E w before (noted_in m) M) (old : others ≡ false → Old w rise first n before (seen E w S)) where
    abbrev N : Starts
    N = owning first n (moved w rise M)

    owned : Marks w E oldest m₂ N
    owned = g.marks (moved w rise M) (subst (λ x. Marks w E x m₁ (moved w rise M)) (sym is) (f.marks M h))

    v₂ : Window w E m₂ b S
    v₂ = starts-window pos first-only b S v

    result : Passed w E oldest m₂ m₃
        ⊎ (MayWalk rise others m₂ × Followed w E oldest (λ k. (0 < n) × (first ≤ k) × (k < first + (n + 1))) m₂ m₃)
        → Marks w E oldest m₃ (pass E (seen E w S) w N) × Settled E w (seen E w S) (noted_in m₃) (pass E (seen E w S) w N)
    result (inl q) = q.marks b S N e v₂ owned
    result (inr ((no-others, may), q)) =
        (agrees, settled_agree E w (seen E w S) (noted_in m₃) (marked w E oldest m₃) (pass E (seen E w S) w N) agrees settled)
      where
        noted_before : (rise ≡ 0) ⊎ (noted_in m₂ ≡ 0) → (rise ≡ 0) ⊎ (noted_in m ≡ 0)
        noted_before (inl z) = inl z
        noted_before (inr z) = inr (sym note_same ∙ z)

        settled : Settled E w (seen E w S) (noted_in m₃) (marked w E oldest m₃)
        settled k o =
            let (z, away) = q.opens b S e v₂ k o in
            let y = subst (λ x. Open E w (seen E w S) x (marked w E oldest m₂) k) note_same z in
            nothing_open E w rise first n (noted_in m) before (seen E w S) M s (old no-others) (noted_before may) k away
            (open_agree E w (seen E w S) (noted_in m) (marked w E oldest m₂) N owned k y)

        reaches : (j : ℕ) → j ≤ w → marked w E oldest m₃ j ≡ true → Reaches E w (seen E w S) N j
        reaches j l t = reaches_agree E w (seen E w S) (marked w E oldest m₂) N owned l (q.reached b S e v₂ j l t)

        agrees : Agree w (marked w E oldest m₃) (pass E (seen E w S) w N)
        agrees =
            is-pass E w (seen E w S) (omega (arith, fits.some_symbol)) (noted_in m₃) N (marked w E oldest m₃)
            (λ j l t. q.kept b S e v₂ j l (owned j l ∙ t)) reaches settled

  how_only : Passed w E oldest m₂ m₃
      ⊎ (MayWalk rise others m₂ × Followed w E oldest (λ k. (0 < n) × (first ≤ k) × (k < first + (n + 1))) m₂ m₃) → OnlyStarts w E m₂ m₃
  how_only (inl q) = q.only
  how_only (inr (z, q)) = q.only

  pub updated : Updated w E former rise first n others m m₃
  updated = record {
    only = starts_trans first-only (how_only p.how);
    marks = λ b before S M e v h s old.
        let N = pass E (seen E w S) w (owning first n (moved w rise M)) in
        subst (λ x. Marks w E x m₃ N × Settled E w (seen E w S) (noted_in m₃) N) is (result b before S M (e ∙ sym is) v h s old p.how);
  }
