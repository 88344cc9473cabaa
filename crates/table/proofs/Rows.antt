-- Rows in memory: a store in one row, and what the others and the rest of the memory are after it.
use Rattle.std.specs.Prelude.{◌≡◌, ◌≤◌, ◌+◌, ◌<◌, ◌∷◌, ◌≢◌}
use Rattle.words.specs.Words.{arith, ℕ, List, length, refl, ◌∙◌, sym, ap, [], suc, zero, get_or, ℕ_discrete, dec_lt, not-suc-le-zero}
use Rattle.words.specs.Words.{le_of_suc-le-suc, set}
use Rattle.memory.specs.Part.{part, splice}
use Rattle.memory.proofs.Parts.{length_part, length-splice, take-splice, past-splice, part-before, part-past, part-splice, splice-within, get_or-part, get_or-past}
use Rattle.memory.proofs.Parts.{row_fits}
use Rattle.table.specs.Window.{header_size, stride, row_offset, row, Fits, Kept}
use Rattle.table.proofs.Offsets.{flags_fit}

-- One byte stored.
pub set-splice : (l : List ℕ) (i v : ℕ) → i < length l → set l i v ≡ splice i (v ∷ []) l
unfolding splice
set-splice [] i v h = absurd (not-suc-le-zero h)
set-splice (x ∷ l) zero v h = refl
set-splice (x ∷ l) (suc i) v h = ap (λ k. x ∷ k) (set-splice l i v (le_of_suc-le-suc h))

pub kept_refl : {w E : ℕ} {m : List ℕ} → Kept w E m m
kept_refl = record { size = refl; header = refl; past = refl; flags = λ r k h c d. refl }

pub kept_trans : {w E : ℕ} {m m' m'' : List ℕ} → Kept w E m m' → Kept w E m' m'' → Kept w E m m''
kept_trans f g = record {
  size = g.size ∙ f.size;
  header = g.header ∙ f.header;
  past = g.past ∙ f.past;
  flags = λ r k h c d. g.flags r k h c d ∙ f.flags r k h c d;
}

-- Sizes for which there is room in memory as long.
pub fits_sized : {w E : ℕ} {m m' : List ℕ} → Fits w E m → length m' ≡ length m → Fits w E m'
fits_sized f e = record {
  some_width = f.some_width;
  wide = f.wide;
  some_symbol = f.some_symbol;
  long = f.long;
  room = rw e f.room;
}

pub fits_kept : {w E : ℕ} {m m' : List ℕ} → Fits w E m → Kept w E m m' → Fits w E m'
fits_kept f k = fits_sized f k.size

-- `x` stored from byte `b` of row `r` on, and no further than the first flag.
module _ (w E r b : ℕ) (x m : List ℕ) (room : row_offset w E w ≤ length m) (h : r < w) (l : b + length x ≤ w + E + 1) where
  pub row_store : row w E r (splice (row_offset w E r + b) x m) ≡ splice b x (row w E r m)
  row_store =
      let f = row_fits w (stride w E) r h in
      let g = flags_fit w E in
      let a = row_offset w E r in
      let p = part a (stride w E) m in
      let n : length p ≡ stride w E = length_part a (stride w E) m (omega arith) in
      let k : length (splice b x p) ≡ stride w E = length-splice b x p (omega arith) ∙ n in
      let e = splice-within a (stride w E) b x m (omega arith) (omega arith) in
      let s = part-splice a (splice b x p) m (omega arith) in
      cc

  pub row_other : (q : ℕ) → q < w → q ≢ r → row w E q (splice (row_offset w E r + b) x m) ≡ row w E q m
  row_other q g n = go (dec_lt q r)
    where
      f : row_offset w E r + (b + length x) ≤ row_offset w E w
      f = omega (arith, row_fits w (stride w E) r h, flags_fit w E)

      go : Dec (q < r) → row w E q (splice (row_offset w E r + b) x m) ≡ row w E q m
      go (yes d) = part-before (row_offset w E q) (stride w E) (row_offset w E r + b) x m (omega (arith, row_fits r (stride w E) q d)) (omega (arith, f))
      go (no d) = part-past (row_offset w E q) (stride w E) (row_offset w E r + b) x m (omega (arith, row_fits q (stride w E) r (omega arith), flags_fit w E))
          (omega (arith, f))

  flag : (q k : ℕ) → q < w → w + E < k → k < stride w E → Dec (q ≡ r)
      → get_or (row w E q (splice (row_offset w E r + b) x m)) k 0 ≡ get_or (row w E q m) k 0
  flag q k g c d (yes e) =
      let f = row_fits w (stride w E) r h in
      let g = flags_fit w E in
      ap (λ y. get_or (row w E y (splice (row_offset w E r + b) x m)) k 0) e
      ∙ ap (λ y. get_or y k 0) row_store
      ∙ get_or-past k b x (row w E r m) (omega arith) (omega (arith, length_part (row_offset w E r) (stride w E) m (omega arith)))
      ∙ ap (λ y. get_or (row w E y m) k 0) (sym e)
  flag q k g c d (no e) = ap (λ y. get_or y k 0) (row_other q g e)

  pub kept_store : Kept w E m (splice (row_offset w E r + b) x m)
  kept_store =
      let f = row_fits w (stride w E) r h in
      let g = flags_fit w E in
      record {
        size = length-splice (row_offset w E r + b) x m (omega arith);
        header = take-splice header_size (row_offset w E r + b) x m (omega arith) (omega arith);
        past = past-splice (row_offset w E w) (row_offset w E r + b) x m (omega arith) (omega arith);
        flags = λ q k g c d.
            sym (get_or-part (row_offset w E q) (stride w E) k (splice (row_offset w E r + b) x m) d) ∙ flag q k g c d (ℕ_discrete q r)
            ∙ get_or-part (row_offset w E q) (stride w E) k m d;
      }
