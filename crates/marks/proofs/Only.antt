-- Where marks stand, and what is as it was when nothing but marks has changed.
use Rattle.std.specs.Prelude.{◌≡◌, ◌≤◌, ◌+◌, ◌<◌, ◌%◌, ◌*◌, ◌≢◌}
use Rattle.words.specs.Words.{arith, ℕ, List, refl, ◌∙◌, sym, ap, true, false, ltb, mod-lt, dec_lt, lt-ltb, le-ltb}
use Rattle.memory.proofs.Parts.{row_fits}
use Rattle.decoder.specs.Bytes.{Coded}
use Rattle.decoder.specs.Model.{State}
use Rattle.decoder.proofs.Stretch.{remainders}
use Rattle.table.specs.Window.{header_size, stride, row_offset, Window, Fits}
use Rattle.table.proofs.Offsets.{header-long, flags_fit}
use Rattle.table.proofs.Holding.{window_same}
use Rattle.table.proofs.Rows.{fits_sized}
use Rattle.marks.specs.Marks.{flag_at, mark_at, NoMark, OnlyMarks, OnlyStarts}

-- ---- where marks stand

-- A mark lies among the rows.
pub flag-inside : (w E r : ℕ) → r < w → flag_at w E r < row_offset w E w
flag-inside w E r h = omega (arith, row_fits w (stride w E) r h, flags_fit w E)

-- The mark of a position of the window, and of the one just past it.
pub mark_row : (w E oldest i r : ℕ) → i < w → r ≡ (oldest + i) % w → flag_at w E r ≡ mark_at w E oldest i
mark_row w E oldest i r h e = let t : ltb i w ≡ true = lt-ltb i w h in rw (t, e)

pub mark_past : (w E oldest i : ℕ) → w ≤ i → 10 ≡ mark_at w E oldest i
mark_past w E oldest i h = let t : ltb i w ≡ false = le-ltb i w h in rw t

-- Other rows have other marks.
flag_apart : (w E p q : ℕ) → p ≢ q → flag_at w E p ≢ flag_at w E q
flag_apart w E p q n e = go (dec_lt p q) (dec_lt q p)
  where
    go : Dec (p < q) → Dec (q < p) → ⊥
    go (yes l) d = omega (arith, e, flags_fit w E, row_fits q (stride w E) p l)
    go (no l) (yes k) = omega (arith, e, flags_fit w E, row_fits p (stride w E) q k)
    go (no l) (no k) = n (omega arith)

-- Other positions have other marks.
pub mark_apart : (w E oldest i j : ℕ) → i ≤ w → j ≤ w → i ≢ j → mark_at w E oldest i ≢ mark_at w E oldest j
mark_apart w E oldest i j h k n e = go (dec_lt i w) (dec_lt j w)
  where
    go : Dec (i < w) → Dec (j < w) → ⊥
    go (yes a) (yes b) =
        flag_apart w E ((oldest + i) % w) ((oldest + j) % w)
        (λ q. n (omega (arith, remainders w oldest (oldest + i) (oldest + j) (omega arith) (omega arith) (omega arith) (omega arith) q)))
        (mark_row w E oldest i ((oldest + i) % w) a refl ∙ e ∙ sym (mark_row w E oldest j ((oldest + j) % w) b refl))
    go (yes a) (no b) =
        let q : flag_at w E ((oldest + i) % w) ≡ 10 = mark_row w E oldest i ((oldest + i) % w) a refl ∙ e ∙ sym (mark_past w E oldest j (omega arith)) in
        omega (arith, header-long, q)
    go (no a) (yes b) =
        let q : flag_at w E ((oldest + j) % w) ≡ 10 = mark_row w E oldest j ((oldest + j) % w) b refl ∙ sym e ∙ sym (mark_past w E oldest i (omega arith)) in
        omega (arith, header-long, q)
    go (no a) (no b) = n (omega arith)

-- Where a mark stands is no byte that is no mark.
pub no_mark : (w E oldest i k : ℕ) → 0 < w → NoMark w E k → k ≢ mark_at w E oldest i
no_mark w E oldest i k pos n e = go (dec_lt i w)
  where
    go : Dec (i < w) → ⊥
    go (yes a) = n.rows ((oldest + i) % w) (mod-lt (oldest + i) pos) (e ∙ sym (mark_row w E oldest i ((oldest + i) % w) a refl))
    go (no a) = n.header (e ∙ sym (mark_past w E oldest i (omega arith)))

-- ---- nothing but marks has changed

pub only_refl : {w E : ℕ} {m : List ℕ} → OnlyMarks w E m m
only_refl = record { size = refl; others = λ k n. refl }

pub only_trans : {w E : ℕ} {m m' m'' : List ℕ} → OnlyMarks w E m m' → OnlyMarks w E m' m'' → OnlyMarks w E m m''
only_trans f g = record { size = g.size ∙ f.size; others = λ k n. g.others k n ∙ f.others k n }

pub only_fits : {w E : ℕ} {m m' : List ℕ} → Fits w E m → OnlyMarks w E m m' → Fits w E m'
only_fits f o = fits_sized f o.size

-- The header but for byte 10.
pub header_no_mark : (w E k : ℕ) → k < header_size → k ≢ 10 → NoMark w E k
header_no_mark w E k h n = record { header = n; rows = λ r l e. omega (arith, e) }

-- What is past the rows.
pub past_no_mark : (w E k : ℕ) → row_offset w E w ≤ k → NoMark w E k
past_no_mark w E k h = record { header = λ e. omega (arith, header-long); rows = λ r l e. omega (arith, e, flag-inside w E r l) }

-- A row up to its first flag.
pub row_no_mark : (w E r k : ℕ) → k < w + E + 1 → NoMark w E (row_offset w E r + k)
row_no_mark w E r k h = record { header = λ e. omega (arith, header-long); rows = λ q l e. go q e (dec_lt r q) (dec_lt q r) }
  where
    go : (q : ℕ) → row_offset w E r + k ≡ flag_at w E q → Dec (r < q) → Dec (q < r) → ⊥
    go q e (yes l) d = omega (arith, e, flags_fit w E, row_fits q (stride w E) r l)
    go q e (no l) (yes g) = omega (arith, e, flags_fit w E, row_fits r (stride w E) q g)
    go q e (no l) (no g) = let s : q ≡ r = omega arith in omega (arith, e, ap (λ x. x * stride w E) s)

-- ---- nothing but marks and the note has changed

pub starts_refl : {w E : ℕ} {m : List ℕ} → OnlyStarts w E m m
starts_refl = record { size = refl; others = λ k n d. refl }

pub starts-of : {w E : ℕ} {m m' : List ℕ} → OnlyMarks w E m m' → OnlyStarts w E m m'
starts-of f = record { size = f.size; others = λ k n d. f.others k n }

pub starts_trans : {w E : ℕ} {m m' m'' : List ℕ} → OnlyStarts w E m m' → OnlyStarts w E m' m'' → OnlyStarts w E m m''
starts_trans f g = record { size = g.size ∙ f.size; others = λ k n d. g.others k n d ∙ f.others k n d }

pub starts_fits : {w E : ℕ} {m m' : List ℕ} → Fits w E m → OnlyStarts w E m m' → Fits w E m'
starts_fits f o = fits_sized f o.size

pub starts-window : {w E : ℕ} {m m' : List ℕ} → 0 < w → OnlyStarts w E m m' → (b : ℕ) (S : State (Coded E) w) → Window w E m b S → Window w E m' b S
starts-window {w} {E} {m} {m'} pos o =
    window_same w E m m' pos (λ r l k n. o.others (row_offset w E r + k) (row_no_mark w E r k n) (λ e. omega (arith, header-long, e)))

-- Byte 11 is no mark.
pub note_no_mark : (w E : ℕ) → NoMark w E 11
note_no_mark w E = header_no_mark w E 11 (omega (arith, header-long)) (λ e. omega (arith, e))

pub mark_not_note : (w E oldest i : ℕ) → 0 < w → mark_at w E oldest i ≢ 11
mark_not_note w E oldest i pos e = no_mark w E oldest i 11 pos (note_no_mark w E) (sym e)
