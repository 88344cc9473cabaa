-- To unmark the rows of the positions that leave moves the window on.
-- One row unmarked: other. Row after row: moved_none, moved_more, moved_all. A rise past the width: position, window_free.
use Rattle.std.specs.Prelude.{◌≡◌, ◌≤◌, ◌+◌, ◌<◌, ◌-◌, ◌%◌, ◌≢◌}
use Rattle.words.specs.Words.{arith, ℕ, List, refl, ◌∙◌, sym, ap, suc, true, zero, get_or, false, Bool, subst, mod-lt, min, dec_lt}
use Rattle.words.specs.Words.{ℕ_discrete, add-zero, add-one, mod-eq_of_lt, mod-add-mod, true≢false, add-mod_right}
use native.Mathlib.Nat.{add-mod-mod}
use Rattle.decoder.specs.Field.{Ops}
use Rattle.decoder.specs.Bytes.{byte, Coded}
use Rattle.decoder.specs.Model.{Row, State, end, free, pivot, advance}
use Rattle.decoder.specs.Receiver.{advance_by, empty}
use Rattle.decoder.specs.Table.{Table, view, read, slot}
use Rattle.decoder.specs.TableSteps.{Moves}
use Rattle.decoder.proofs.Bytes.{laws}
use Rattle.decoder.proofs.Stretch.{remainders}
use Rattle.decoder.proofs.Jump.{advance_by_suc, advance_by_empty}
use Rattle.decoder.proofs.Refine.{view_advance}
use Rattle.decoder.proofs.Steps.{moves_echelon}
use Rattle.table.specs.Window.{row, flag, in_use, line, table, Window, Fits}
use Rattle.placing.specs.Place.{RowsMoved}
use Rattle.table.specs.RowSteps.{flagged}
use Rattle.table.proofs.Rows.{kept_refl, kept_trans, fits_kept}
use Rattle.table.proofs.Flags.{unused, unused_flag, flagged_unused, flagged-flag, flagged_rest, flagged_kept, flags_changed}

-- Another position of the window has another row.
pub other : (w b p q : ℕ) → b ≤ p → p < b + w → b ≤ q → q < b + w → q ≢ p → q % w ≢ p % w
other w b p q c l d k n e = n (remainders w b q p d k c l e)

module _ (w E : ℕ) (m : List ℕ) (fits : Fits w E m) where
  free_kept : (b q : ℕ) → b < q → q < b + w → row w E (q % w) (flagged w E (b % w) 0 m) ≡ row w E (q % w) m
  free_kept b q c l =
      flagged_rest w E (b % w) 0 m fits (mod-lt b fits.some_width)
      (q % w) (mod-lt q fits.some_width) (other w b b q (omega arith) (omega arith) (omega arith) l (omega arith))

  free_moves : (b : ℕ) → Moves (table w E m) (table w E (flagged w E (b % w) 0 m)) b w
  free_moves b =
      let r = b % w in
      let same : (b + w) % w ≡ r = add-mod_right b w in
      record {
        has_last =
            ap (λ x. in_use w E (row w E x (flagged w E r 0 m))) same
            ∙ unused w E (row w E r (flagged w E r 0 m)) (flagged-flag w E r 0 m fits (mod-lt b fits.some_width));
        has_kept = λ q c l. ap (in_use w E) (free_kept b q c l);
        line_kept = λ q c l _. ap (line w E) (free_kept b q c l);
        wraps = λ q. ap (λ x. byte (get_or (row w E (q % w) m) x 0)) same;
      }

  window_free_one : (b : ℕ) (S : State (Coded E) w) → Window w E m b S → Window w E (flagged w E (b % w) 0 m) (suc b) (advance S)
  window_free_one b S h =
      let L = laws E (omega (arith, fits.some_symbol)) in
      let r = b % w in
      let l : r < w = mod-lt b fits.some_width in
      let T = table w E m in
      let T' = table w E (flagged w E r 0 m) in
      record {
        echelon = moves_echelon L T T' b w h.echelon (free_moves b);
        reads = view_advance L T T' b w h.echelon (free_moves b) ∙ ap advance h.reads;
        flags =
            flags_changed w E r m (flagged w E r 0 m) (flagged_rest w E r 0 m fits l) h.flags
            (flagged_unused w E r (row w E r (flagged w E r 0 m)) (flagged-flag w E r 0 m fits l));
      }

moved_to : {w E oldest i k : ℕ} {m m' : List ℕ} → i ≡ k → RowsMoved w E oldest i m m' → RowsMoved w E oldest k m m'
moved_to {w} {E} {oldest} {i} {k} {m} {m'} e f = subst (λ x. RowsMoved w E oldest x m m') e f

-- No turn yet, one more, and as many as there are rows.
pub moved_none : (w E oldest : ℕ) (m : List ℕ) → RowsMoved w E oldest 0 m m
unfolding advance_by
moved_none w E oldest m = record { kept = kept_refl; moves = λ b S e h. rw add-zero h }

turned : (w E oldest i : ℕ) (m m' : List ℕ) → Fits w E m' → RowsMoved w E oldest i m m'
    → RowsMoved w E oldest (i + 1) m (flagged w E ((oldest + i) % w) 0 m')
turned w E oldest i m m' fits f =
    let pos = fits.some_width in record {
      kept = kept_trans f.kept (flagged_kept w E ((oldest + i) % w) 0 m' fits (mod-lt (oldest + i) pos));
      moves = λ b S e h.
          let turn = window_free_one w E m' fits (b + i) (advance_by i S) (f.moves b S e h) in
          let same : (b + i) % w ≡ (oldest + i) % w = sym (mod-add-mod b w i) ∙ ap (λ k. (k + i) % w) e in
          let next : suc (b + i) ≡ b + (i + 1) = omega arith in
          let done : advance (advance_by i S) ≡ advance_by (i + 1) S = sym (advance_by_suc i S) ∙ ap (λ k. advance_by k S) (sym (add-one i)) in
          subst (λ k. Window w E (flagged w E k 0 m') (b + (i + 1)) (advance_by (i + 1) S)) same
          (subst (λ k. Window w E (flagged w E ((b + i) % w) 0 m') k (advance_by (i + 1) S)) next
          (subst (λ S'. Window w E (flagged w E ((b + i) % w) 0 m') (suc (b + i)) S') done turn));
    }

pub moved_more : (w E oldest i r : ℕ) (m m₁ m₂ : List ℕ) → Fits w E m → RowsMoved w E oldest i m m₁ → r ≡ (oldest + i) % w → m₂ ≡ flagged w E r 0 m₁
    → RowsMoved w E oldest (i + 1) m m₂
moved_more w E oldest i r m m₁ m₂ fits f here e =
    subst (λ x. RowsMoved w E oldest (i + 1) m x) (ap (λ k. flagged w E k 0 m₁) (sym here) ∙ sym e) (turned w E oldest i m m₁ (fits_kept fits f.kept) f)

-- Each row has its position in the window.
pub position : (w b r : ℕ) → r < w → (p : ℕ) × (b ≤ p) × (p < b + w) × (p % w ≡ r)
position w b r h =
    let pos : 0 < w = omega arith in
    let d = (r + (w - b % w)) % w in
    let l : b % w < w = mod-lt b pos in
    let e : b % w + (r + (w - b % w)) ≡ r + w = omega arith in (
      b + d,
      omega arith,
      omega (arith, mod-lt (r + (w - b % w)) pos),
      add-mod-mod b (r + (w - b % w)) w ∙ sym (mod-add-mod b w (r + (w - b % w))) ∙ ap (λ k. k % w) e ∙ add-mod_right r w ∙ mod-eq_of_lt h,
    )

module _ {O : Ops} where
  is_pivot : {n : ℕ} → State O n → Bool
  is_pivot end = false
  is_pivot (free S) = false
  is_pivot (pivot r S) = true

  rest : {n : ℕ} → State O (suc n) → State O n
  rest (free S) = S
  rest (pivot r S) = S

  slot_free : {n : ℕ} (t : Bool) (r : Row O n) (S : State O n) → slot t r S ≡ free (empty O n) → (t ≡ false) × (S ≡ empty O n)
  unfolding slot is_pivot rest
  slot_free true r S e = absurd (true≢false (ap is_pivot e))
  slot_free false r S e = (refl, ap rest e)

  empty_view : (T : Table O) (n q p : ℕ) → view T n q ≡ empty O n → q ≤ p → p < q + n → T.has p ≡ false
  unfolding view empty
  empty_view T zero q p e g l = absurd (omega arith)
  empty_view T (suc n) q p e g l = go (slot_free (T.has q) (read (T.line q) n (suc q)) (view T n (suc q)) e) (ℕ_discrete q p)
      (λ x g'. empty_view T n (suc q) p x g' (omega arith))
    where
      go : (T.has q ≡ false) × (view T n (suc q) ≡ empty O n) → Dec (q ≡ p) → (view T n (suc q) ≡ empty O n → suc q ≤ p → T.has p ≡ false) → T.has p ≡ false
      go s (yes x) ih = ap T.has (sym x) ∙ s.0
      go s (no x) ih = ih s.1 (omega arith)

  view_empty : (T : Table O) (n q : ℕ) → ((p : ℕ) → T.has p ≡ false) → view T n q ≡ empty O n
  unfolding view empty slot
  view_empty T zero q h = refl
  view_empty T (suc n) q h = ap (λ t. slot t (read (T.line q) n (suc q)) (view T n (suc q))) (h q) ∙ ap free (view_empty T n (suc q) h)

-- A memory without rows holds the empty system, for a window from anywhere on.
pub window_free : (w E b : ℕ) (m : List ℕ) → 0 < w → ((r : ℕ) → r < w → flag w E (row w E r m) ≡ 0) → Window w E m b (empty (Coded E) w)
window_free w E b m pos h =
    let none : (p : ℕ) → (table w E m).has p ≡ false = (λ p. unused w E (row w E (p % w) m) (h (p % w) (mod-lt p pos))) in
    record {
      echelon = record {
        one_at = λ q _ _ t. absurd (true≢false (sym t ∙ none q));
        zero-before = λ q _ _ t j _ _. absurd (true≢false (sym t ∙ none q));
      };
      reads = view_empty (table w E m) w b none;
      flags = λ r l. flagged_unused w E r (row w E r m) (h r l);
    }

window_anywhere : (w E b c : ℕ) (m : List ℕ) → 0 < w → Window w E m b (empty (Coded E) w) → Window w E m c (empty (Coded E) w)
window_anywhere w E b c m pos h =
    window_free w E c m pos
    (λ r l.
    let (q, g, k, e) = position w b r l in
    unused_flag w E (row w E r m) (ap (λ x. in_use w E (row w E x m)) (sym e) ∙ empty_view (table w E m) w b q h.reads g k))

moved-past : (w E oldest rise : ℕ) (m m' : List ℕ) → 0 < w → w ≤ rise → RowsMoved w E oldest w m m' → RowsMoved w E oldest rise m m'
moved-past w E oldest rise m m' pos g f = record {
  kept = f.kept;
  moves = λ b S e h.
      subst (λ S'. Window w E m' (b + rise) S') (sym (advance_by_empty rise S g))
      (window_anywhere w E (b + w) (b + rise) m' pos
      (subst (λ S'. Window w E m' (b + w) S') (advance_by_empty w S (omega arith)) (f.moves b S e h)));
}

pub moved_all : (w E oldest i rise : ℕ) (m m' : List ℕ) → 0 < w → i ≡ min rise w → RowsMoved w E oldest i m m' → RowsMoved w E oldest rise m m'
moved_all w E oldest i rise m m' pos e f = go (dec_lt rise w)
  where
    go : Dec (rise < w) → RowsMoved w E oldest rise m m'
    go (yes h) = moved_to (omega arith) f
    go (no h) = moved-past w E oldest rise m m' pos (omega arith) (moved_to (omega arith) f)
