-- To clear the new row's column in the rows in use, and to store it, is the model's `place`.
-- The row stored: stored_copy. The search for the next row: Passed, passed_none, passed_more, passed_here, passed_all.
-- One row cleared: cleared_zero, cleared_unused, cleared_row. Row after row: Cleared, cleared_none, cleared_more, cleared_skip.
-- The whole call: settled. What it is in the model: places.
use Rattle.std.specs.Prelude.{◌≡◌, ◌≤◌, ◌+◌, ◌<◌, ◌-◌, ◌%◌, ◌≢◌}
use Rattle.words.specs.Words.{arith, ℕ, List, length, refl, ◌∙◌, sym, ap, suc, true, zero, get_or, false, Bool, Option, Some, None, subst, ap₂, mod-lt}
use Rattle.words.specs.Words.{ℕ_discrete, add-zero, bit_xor, zero-add, true≢false, get_or-append}
use Rattle.std.specs.Int.{from_bool}
use Rattle.field.specs.Gf256.{product}
use Rattle.memory.specs.Part.{part, splice}
use Rattle.memory.specs.Number.{Bytes}
use Rattle.memory.proofs.Number.{bytes-part}
use Rattle.memory.proofs.Parts.{length_part, get_or-part, whole, row_fits}
use Rattle.rows.specs.Rows.{add_scaled}
use Rattle.rows.proofs.Sums.{length_add_scaled, get_or_add_scaled}
use Rattle.decoder.specs.Bytes.{byte}
use Rattle.decoder.specs.TableSteps.{Places, add_line}
use Rattle.decoder.proofs.Bytes.{laws, byte-zero}
use Rattle.decoder.proofs.Stretch.{line-add, line_same}
use Rattle.decoder.proofs.Refine.{add_line-zero}
use Rattle.table.specs.Window.{stride, row_offset, row, flag, in_use, line, table, Flagged, Flags, Fits, Kept}
use Rattle.table.specs.RowSteps.{one_if_known, known-flag, flagged}
use Rattle.placing.specs.PlaceSteps.{known_flags, RowMarked, Changed, ClearedRow, FirstWith, NextWith, Stored, RowPlaced}
use Rattle.table.proofs.Rows.{row_store, row_other, kept_store, kept_refl, kept_trans, fits_kept}
use Rattle.table.proofs.Flags.{flag_at, unused, used, unused_flag, not_known, flags_changed, count_changed, flagged-flag, flagged_cell, flagged-line}
use Rattle.table.proofs.Flags.{flagged_rest, flagged_kept}
use Rattle.table.proofs.Offsets.{flags_fit}
use Rattle.placing.proofs.Moving.{other}

-- A byte of a row whose first bytes have been replaced.
front_at : (x l : List ℕ) (i : ℕ) → i < length x → get_or (splice 0 x l) i 0 ≡ get_or x i 0
unfolding splice
front_at x l i h = get_or-append x _ 0 i h

-- A store at the front of a row.
module _ (w E r : ℕ) (x m : List ℕ) (room : row_offset w E w ≤ length m) (h : r < w) (n : length x ≤ w + E + 1) where
  abbrev fronted : List ℕ
  fronted = splice (row_offset w E r) x m

  front_row : row w E r fronted ≡ splice 0 x (row w E r m)
  front_row = subst (λ a. row w E r (splice a x m) ≡ splice 0 x (row w E r m)) (add-zero (row_offset w E r)) (row_store w E r 0 x m room h (omega arith))

  front_other : (q : ℕ) → q < w → q ≢ r → row w E q fronted ≡ row w E q m
  front_other q g d = subst (λ a. row w E q (splice a x m) ≡ row w E q m) (add-zero (row_offset w E r)) (row_other w E r 0 x m room h (omega arith) q g d)

  front_kept : Kept w E m fronted
  front_kept = subst (λ a. Kept w E m (splice a x m)) (add-zero (row_offset w E r)) (kept_store w E r 0 x m room h (omega arith))

-- What a test adds to a count, and to the flag of a row in use.
pub at_most_one : (t : Bool) → from_bool t ≤ 1
at_most_one true = omega arith
at_most_one false = omega arith

is_one : (t : Bool) → from_bool t ≡ 1 → t ≡ true
is_one true e = refl
is_one false e = absurd (omega arith)

one_more : (t : Bool) → from_bool t ≡ one_if_known (1 + from_bool t)
one_more true = refl
one_more false = refl

-- The first `w + E` bytes of the row `r` have become `x`, and then its flag has been set.
module _ (w E r : ℕ) (alone : Bool) (x m m₁ m' : List ℕ) (fits : Fits w E m) (h : r < w) (size : length x ≡ w + E)
    (e : m₁ ≡ splice (row_offset w E r) x m) (t : RowMarked w E r alone m₁ m') where
  abbrev n : ℕ
  n = from_bool alone

  short : length x ≤ w + E + 1
  short = omega arith

  first : Changed w E r 0 m m₁
  first =
      subst (λ y. Changed w E r 0 m y) (sym e) record {
        kept = front_kept w E r x m fits.room h short;
        rest = front_other w E r x m fits.room h short;
        most = omega arith;
      }

  room : Fits w E m₁
  room = fits_kept fits first.kept

  abbrev marked : List ℕ
  marked = flagged w E r (1 + n) m₁

  flag_now : flag w E (row w E r marked) ≡ 1 + n
  flag_now = flagged-flag w E r (1 + n) m₁ room h

  is_used : in_use w E (row w E r marked) ≡ true
  is_used = used w E (row w E r marked) (λ z. absurd (omega (arith, flag_now)))

  new_line : line w E (row w E r marked) ≡ line w E x
  new_line =
      flagged-line w E r (1 + n) m₁ room h
      ∙ line_same w E fits.some_width (row w E r m₁) x
      (λ i l. ap (λ y. get_or (row w E r y) i 0) e
      ∙ ap (λ y. get_or y i 0) (front_row w E r x m fits.room h short)
      ∙ front_at x (row w E r m) i (omega arith))

  flagged_now : Flagged w E r (row w E r marked)
  flagged_now = (
    (λ f. (is_used, λ j l d. flagged_cell w E r (1 + n) m₁ room h j (omega arith) ∙ t.tested.0 (is_one alone (omega (arith, flag_now))) j l d)),
    λ s.
        let one = t.tested.1 (λ j l d. sym (flagged_cell w E r (1 + n) m₁ room h j (omega arith)) ∙ s.1 j l d) in
        flag_now ∙ ap (λ k. 1 + from_bool k) one,
  )

  stored : Stored w E r (from_bool alone) x m m'
  stored =
      subst (λ y. Stored w E r (from_bool alone) x m y) (sym t.bytes) record {
        changed = record {
          kept = kept_trans first.kept (flagged_kept w E r (1 + n) m₁ room h);
          rest = λ q g d. flagged_rest w E r (1 + n) m₁ room h q g d ∙ first.rest q g d;
          most = at_most_one alone;
        };
        used = is_used;
        new = new_line;
        flags = (flagged_now, one_more alone ∙ ap one_if_known (sym flag_now));
      }

-- The code copies the working row from `at` on.
pub stored_copy : (w E r at : ℕ) (alone : Bool) (l m m₁ m' : List ℕ) → Fits w E m → r < w → length l ≡ w + E → at ≡ row_offset w E r
    → m₁ ≡ splice at (part 0 (w + E) l) m → RowMarked w E r alone m₁ m' → Stored w E r (from_bool alone) l m m'
stored_copy w E r at alone l m m₁ m' fits h size here e t =
    stored w E r alone l m m₁ m' fits h size (e ∙ ap (λ x. splice at x m) (whole (w + E) l size) ∙ ap (λ k. splice k l m) here) t

-- The rows from `from` on and before `q` have no coefficient in the column.
pub record Passed (w E r from q : ℕ) (m : List ℕ) : Type 0 where
  pub least : from ≤ q
  pub most : q ≤ w
  pub zeros : (j : ℕ) → from ≤ j → j < q → get_or m (row_offset w E j + r) 0 ≡ 0

module _ {w E r from : ℕ} {m : List ℕ} where
  pub passed_none : from ≤ w → Passed w E r from from m
  passed_none h = record { least = omega arith; most = h; zeros = λ j a b. absurd (omega arith) }

  module _ (q at : ℕ) (f : Passed w E r from q m) (h : q < w) (here : at ≡ row_offset w E q) where
    pub passed_more : get_or m (at + r) 0 ≡ 0 → Passed w E r from (q + 1) m
    passed_more z = record { least = omega (arith, f.least); most = omega arith; zeros = λ j a b. next j a b (ℕ_discrete j q) }
      where
        next : (j : ℕ) → from ≤ j → j < q + 1 → Dec (j ≡ q) → get_or m (row_offset w E j + r) 0 ≡ 0
        next j a b (yes e) = ap (λ x. get_or m (row_offset w E x + r) 0) e ∙ ap (λ x. get_or m (x + r) 0) (sym here) ∙ z
        next j a b (no e) = f.zeros j a (omega arith)

    pub passed_here : get_or m (at + r) 0 ≢ 0 → FirstWith w E r from q m
    passed_here z = record { least = f.least; most = f.most; zeros = f.zeros; here = λ _ e. z (ap (λ x. get_or m (x + r) 0) here ∙ e) }

  pub passed_all : (q : ℕ) → Passed w E r from q m → q ≡ w → FirstWith w E r from w m
  passed_all q f e = subst (λ x. FirstWith w E r from x m) e
      (record { least = f.least; most = f.most; zeros = f.zeros; here = λ h. absurd (omega arith) })

-- Where a search has come to: the row found, or the width.
abbrev pub reached : ℕ → Option ℕ → ℕ
reached w (Some q) = q
reached w None = w

-- A row that was found is one of the window.
abbrev pub Inside : ℕ → Option ℕ → Type 0
Inside w (Some q) = q < w
Inside w None = Unit {0}

module _ (w E r from : ℕ) (m : List ℕ) where
  pub next_inside : (o : Option ℕ) → NextWith w E r from o m → Inside w o
  next_inside (Some q) h = h.0
  next_inside None h = tt

  pub next_first : (o : Option ℕ) → NextWith w E r from o m → FirstWith w E r from (reached w o) m
  next_first (Some q) h = h.1
  next_first None h = h

-- The row `q` is passed over: it is not in use, or has no coefficient in the column.
module _ (w E r q : ℕ) (l m : List ℕ) where
  idle : (in_use w E (row w E q m) ≡ true → line w E (row w E q m) ≡ add_line (byte (get_or (row w E q m) r 0)) (line w E l) (line w E (row w E q m)))
      → ClearedRow w E r q 0 l m m
  idle s = record {
    changed = record { kept = kept_refl; rest = λ p g d. refl; most = omega arith };
    used = refl;
    sum = s;
    flags = λ _ f. (f, zero-add (known-flag w E m q));
  }

  module _ (at : ℕ) (here : at ≡ row_offset w E q) where
    pub cleared_zero : 0 < E → r < w → get_or m (at + r) 0 ≡ 0 → ClearedRow w E r q 0 l m m
    cleared_zero pos h z =
        idle (λ _. sym (add_line-zero (laws E pos) (byte (get_or (row w E q m) r 0)) (line w E l) (line w E (row w E q m))
        (byte-zero (get_or (row w E q m) r 0) (get_or-part (row_offset w E q) (stride w E) r m (omega (arith, flags_fit w E))
        ∙ ap (λ a. get_or m (a + r) 0) (sym here) ∙ z))))

    pub cleared_unused : get_or m (at + (w + E)) 0 ≡ 0 → ClearedRow w E r q 0 l m m
    cleared_unused z =
        idle (λ u. absurd (true≢false (sym u ∙ unused w E (row w E q m) (flag_at w E q m ∙ ap (λ a. get_or m (a + (w + E)) 0) (sym here) ∙ z))))

-- The row `q` has been added to, and marked.
module _ (w E r q : ℕ) (alone : Bool) (l m m₁ m' : List ℕ) (fits : Fits w E m) (c : r < w) (h : q < w) (size : length l ≡ w + E) (f : Bytes m) (g : Bytes l)
    (at : ℕ) (here : at ≡ row_offset w E q) (k : get_or m (at + r) 0 ≢ 0) (u : get_or m (at + (w + E)) 0 ≢ 0)
    (e : m₁ ≡ splice at (add_scaled (get_or m (at + r) 0) (part at (w + E) m) (part 0 (w + E) l)) m) (t : RowMarked w E q alone m₁ m') where
  abbrev coefficient : ℕ
  coefficient = get_or (row w E q m) r 0

  same : get_or m (at + r) 0 ≡ coefficient
  same = ap (λ a. get_or m (a + r) 0) here ∙ sym (get_or-part (row_offset w E q) (stride w E) r m (omega (arith, flags_fit w E)))

  abbrev added : List ℕ
  added = add_scaled coefficient (part (row_offset w E q) (w + E) m) (part 0 (w + E) l)

  within : row_offset w E q + stride w E ≤ length m
  within = omega (arith, fits.room, row_fits w (stride w E) q h)

  length-added : length added ≡ w + E
  length-added =
      length_add_scaled coefficient (part (row_offset w E q) (w + E) m) (part 0 (w + E) l)
      ∙ length_part (row_offset w E q) (w + E) m (omega (arith, flags_fit w E, within))

  bytes : m₁ ≡ splice (row_offset w E q) added m
  bytes =
      e ∙ ap (λ b. splice at (add_scaled b (part at (w + E) m) (part 0 (w + E) l)) m) same
      ∙ ap (λ a. splice a (add_scaled coefficient (part a (w + E) m) (part 0 (w + E) l)) m) here

  element : (j : ℕ) → j < w + E → get_or added j 0 ≡ bit_xor (get_or (row w E q m) j 0) (product coefficient (get_or l j 0))
  element j b =
      let o : get_or (part (row_offset w E q) (w + E) m) j 0 ≡ get_or (row w E q m) j 0 =
      get_or-part (row_offset w E q) (w + E) j m b ∙ sym (get_or-part (row_offset w E q) (stride w E) j m (omega (arith, flags_fit w E))) in
      let y : get_or (part 0 (w + E) l) j 0 ≡ get_or l j 0 = ap (λ z. get_or z j 0) (whole (w + E) l size) in
      get_or_add_scaled coefficient (part (row_offset w E q) (w + E) m) (part 0 (w + E) l) j
      (omega (arith, length_part (row_offset w E q) (w + E) m (omega (arith, flags_fit w E, within))))
      (omega (arith, ap length (whole (w + E) l size)))
      ∙ ap₂ (λ a b. bit_xor a (product coefficient b)) o y

  sum-line : line w E added ≡ add_line (byte coefficient) (line w E l) (line w E (row w E q m))
  sum-line =
      let z = bytes-part (row_offset w E q) (stride w E) m f in
      line-add w E fits.some_width coefficient (row w E q m) l added z g (z r) element

  done : Stored w E q (from_bool alone) added m m'
  done = stored w E q alone added m m₁ m' fits h length-added bytes t

  was_used : in_use w E (row w E q m) ≡ true
  was_used = used w E (row w E q m) (λ z. u (ap (λ a. get_or m (a + (w + E)) 0) here ∙ sym (flag_at w E q m) ∙ z))

  -- It was not known, for it had a coefficient in the column.
  was_open : (q ≡ r → in_use w E (row w E q m) ≡ false) → Flagged w E q (row w E q m) → flag w E (row w E q m) ≢ 2
  was_open d s two = k (same ∙ (s.0 two).1 r c (λ x. true≢false (sym was_used ∙ d (sym x))))

  pub cleared_row : ClearedRow w E r q (from_bool alone) l m m'
  cleared_row = record {
    changed = done.changed;
    used = done.used ∙ sym was_used;
    sum = λ _. done.new ∙ sum-line;
    flags = λ d s.
        let none : known-flag w E m q ≡ 0 = not_known (flag w E (row w E q m)) (was_open d s) in
        (done.flags.0, omega (arith, done.flags.1));
  }

-- The column `r` has been cleared in the rows in use before the row `i`, of which `n` have become known.
pub record Cleared (w E r i n : ℕ) (l m m' : List ℕ) : Type 0 where
  pub kept : Kept w E m m'
  pub most : n ≤ i
  pub used : (q : ℕ) → q < w → in_use w E (row w E q m') ≡ in_use w E (row w E q m)
  pub sum : (q : ℕ) → q < i → in_use w E (row w E q m) ≡ true
      → line w E (row w E q m') ≡ add_line (byte (get_or (row w E q m) r 0)) (line w E l) (line w E (row w E q m))
  pub rest : (q : ℕ) → i ≤ q → q < w → row w E q m' ≡ row w E q m
  pub flags : in_use w E (row w E r m) ≡ false → Flags w E m → Flags w E m' × (n + known_flags w E m ≡ known_flags w E m')

-- The column is cleared in one row after the other.
module _ (w E r : ℕ) (l m : List ℕ) where
  pub cleared_none : Cleared w E r 0 0 l m m
  cleared_none = record {
    kept = kept_refl;
    most = omega arith;
    used = λ q h. refl;
    sum = λ q h. absurd (omega arith);
    rest = λ q h k. refl;
    flags = λ _ f. (f, zero-add (known_flags w E m));
  }

  pub cleared_more : (i n k : ℕ) (m₁ m₂ : List ℕ) → i < w → Cleared w E r i n l m m₁ → ClearedRow w E r i k l m₁ m₂ → Cleared w E r (i + 1) (n + k) l m m₂
  cleared_more i n k m₁ m₂ h f g = record {
    kept = kept_trans f.kept g.changed.kept;
    most = omega (arith, f.most, g.changed.most);
    used = λ q b. still q b (ℕ_discrete q i);
    sum = λ q b u. one q b u (ℕ_discrete q i);
    rest = λ q b c. g.changed.rest q c (omega arith) ∙ f.rest q (omega arith) c;
    flags = λ u s.
        let before = f.flags u s in
        let turn = g.flags (λ e. f.used i h ∙ ap (λ x. in_use w E (row w E x m)) e ∙ u) (before.0 i h) in (
          flags_changed w E i m₁ m₂ g.changed.rest before.0 turn.0,
          omega (arith, before.1, count_changed w E i m₁ m₂ g.changed.rest k turn.1 w h (omega arith)),
        );
  }
    where
      still : (q : ℕ) → q < w → Dec (q ≡ i) → in_use w E (row w E q m₂) ≡ in_use w E (row w E q m)
      still q b (yes e) = ap (λ x. in_use w E (row w E x m₂)) e ∙ g.used ∙ ap (λ x. in_use w E (row w E x m₁)) (sym e) ∙ f.used q b
      still q b (no e) = ap (in_use w E) (g.changed.rest q b e) ∙ f.used q b

      one : (q : ℕ) → q < i + 1 → in_use w E (row w E q m) ≡ true → Dec (q ≡ i)
          → line w E (row w E q m₂) ≡ add_line (byte (get_or (row w E q m) r 0)) (line w E l) (line w E (row w E q m))
      one q b u (yes e) =
          ap (λ x. line w E (row w E x m₂)) e
          ∙ g.sum (f.used i h ∙ ap (λ x. in_use w E (row w E x m)) (sym e) ∙ u)
          ∙ ap (λ x. add_line (byte (get_or x r 0)) (line w E l) (line w E x)) (f.rest i (omega arith) h ∙ ap (λ x. row w E x m) (sym e))
      one q b u (no e) = ap (line w E) (g.changed.rest q (omega arith) e) ∙ f.sum q (omega arith) u

  -- Rows without a coefficient there are passed over.
  skip : (d i n : ℕ) (m₁ : List ℕ) → 0 < E → r < w → i + d ≤ w → ((j : ℕ) → i ≤ j → j < i + d → get_or m₁ (row_offset w E j + r) 0 ≡ 0)
      → Cleared w E r i n l m m₁ → Cleared w E r (i + d) n l m m₁
  skip zero i n m₁ pos h k z f = subst (λ x. Cleared w E r x n l m m₁) (sym (add-zero i)) f
  skip (suc d) i n m₁ pos h k z f =
      let turn = cleared_zero w E r i l m₁ (row_offset w E i) refl pos h (z i (omega arith) (omega arith)) in
      let more = subst (λ x. Cleared w E r (i + 1) x l m m₁) (add-zero n) (cleared_more i n 0 m₁ m₁ (omega arith) f turn) in
      let e : i + 1 + d ≡ i + suc d = omega arith in
      subst (λ x. Cleared w E r x n l m m₁) e (skip d (i + 1) n m₁ pos h (omega arith) (λ j a b. z j (omega arith) (omega arith)) more)

  pub cleared_skip : (i q n : ℕ) (m₁ : List ℕ) → 0 < E → r < w → FirstWith w E r i q m₁ → Cleared w E r i n l m m₁ → Cleared w E r q n l m m₁
  cleared_skip i q n m₁ pos h g f =
      let e : i + (q - i) ≡ q = omega (arith, g.least) in
      subst (λ x. Cleared w E r x n l m m₁) e
      (skip (q - i) i n m₁ pos h (omega (arith, g.least, g.most)) (λ j a b. g.zeros j a (omega (arith, g.least))) f)

  -- Cleared, and then stored.
  pub settled : (i n k : ℕ) (m₁ m₂ : List ℕ) → r < w → i ≡ w → Cleared w E r i n l m m₁ → Stored w E r k l m₁ m₂ → RowPlaced w E r (n + k) l m m₂
  settled i n k m₁ m₂ h e f g = record {
    kept = kept_trans f.kept g.changed.kept;
    most = omega (arith, f.most, g.changed.most);
    used = g.used;
    new = g.new;
    others = λ q b d. ap (in_use w E) (g.changed.rest q b d) ∙ f.used q b;
    sum = λ q b d u. ap (line w E) (g.changed.rest q b d) ∙ f.sum q (omega arith) u;
    flags = λ u s.
        let before = f.flags u s in
        let none : known-flag w E m₁ r ≡ 0 = ap one_if_known (unused_flag w E (row w E r m₁) (f.used r h ∙ u)) in
        let gain : k + known-flag w E m₁ r ≡ known-flag w E m₂ r = omega (arith, g.flags.1) in (
          flags_changed w E r m₁ m₂ g.changed.rest before.0 g.flags.0,
          omega (arith, before.1, count_changed w E r m₁ m₂ g.changed.rest k gain w h (omega arith)),
        );
  }

-- The model's step: the new row stands at the position `p` of the window from `b` on.
pub places : (w E r n b p : ℕ) (l m m' : List ℕ) → 0 < w → RowPlaced w E r n l m m' → p % w ≡ r → b ≤ p → p < b + w
    → Places (table w E m) (table w E m') b w p (line w E l)
places w E r n b p l m m' pos f e g h =
    let apart : (q : ℕ) → b ≤ q → q < b + w → q ≢ p → q % w ≢ r = (λ q c d x y. other w b p q g h c d x (y ∙ sym e)) in
    record {
      has_new = ap (λ x. in_use w E (row w E x m')) e ∙ f.used;
      line_new = ap (λ x. line w E (row w E x m')) e ∙ f.new;
      has_old = λ q c d x. f.others (q % w) (mod-lt q pos) (apart q c d x);
      line_old = λ q c d x u.
          f.sum (q % w) (mod-lt q pos) (apart q c d x) u
          ∙ ap (λ k. add_line (byte (get_or (row w E (q % w) m) k 0)) (line w E l) (line w E (row w E (q % w) m))) (sym e);
    }
