-- Changes within a stretch of a memory, and the rows that they leave alone.
use Rattle.std.specs.Prelude.{◌≡◌, ◌≤◌, ◌+◌, ◌<◌, ◌-◌, ◌≢◌}
use Rattle.words.specs.Words.{arith, ℕ, List, length, refl, ◌∙◌, sym, ap, get_or, subst, drop, take, dec_lt, zero-add, drop-drop}
use Rattle.memory.specs.Part.{part, splice}
use Rattle.memory.proofs.Parts.{length_part, length-splice, take-splice, past-splice, part-part, part-drop, row_fits}
use Rattle.table.specs.Window.{stride, row_offset, row}
use Rattle.table.specs.Packet.{Works}
use Rattle.gather.specs.Gather.{Only}

pub only_refl : {a z : ℕ} {m : List ℕ} → Only a z m m
only_refl = record { size = refl; before = refl; past = refl }

pub only_trans : {a z : ℕ} {m m' m'' : List ℕ} → Only a z m m' → Only a z m' m'' → Only a z m m''
only_trans f g = record { size = g.size ∙ f.size; before = g.before ∙ f.before; past = g.past ∙ f.past }

pub only_wider : {a : ℕ} {m m' : List ℕ} (y z : ℕ) → y ≤ z → Only a y m m' → Only a z m m'
only_wider {a} {m} {m'} y z h f =
    let e : z ≡ y + (z - y) = omega arith in
    record {
      size = f.size;
      before = f.before;
      past = ap (λ k. drop k m') e ∙ sym (drop-drop (z - y) y m') ∙ ap (drop (z - y)) f.past ∙ drop-drop (z - y) y m ∙ ap (λ k. drop k m) (sym e);
    }

pub only-splice : (a z b : ℕ) (x m : List ℕ) → a ≤ b → b + length x ≤ z → z ≤ length m → Only a z m (splice b x m)
only-splice a z b x m h k l = record {
  size = length-splice b x m (omega arith);
  before = take-splice a b x m h (omega arith);
  past = past-splice z b x m k (omega arith);
}

-- A part before the stretch, and a part past it.
pub only-before : (a z i n : ℕ) (m m' : List ℕ) → Only a z m m' → i + n ≤ a → part i n m' ≡ part i n m
unfolding part
only-before a z i n m m' f h =
    let cut : (x : List ℕ) → take n (drop i (take a x)) ≡ take n (drop i x) = (λ x. part-part 0 a i n x h ∙ ap (λ k. take n (drop k x)) (zero-add i)) in
    sym (cut m') ∙ ap (λ x. take n (drop i x)) f.before ∙ cut m

pub only-past : (a z i n : ℕ) (m m' : List ℕ) → Only a z m m' → z ≤ i → part i n m' ≡ part i n m
only-past a z i n m m' f h =
    let e : i ≡ z + (i - z) = omega arith in
    ap (λ k. part k n m') e ∙ part-drop z (i - z) n m' ∙ ap (part (i - z) n) f.past ∙ sym (part-drop z (i - z) n m) ∙ ap (λ k. part k n m) (sym e)

-- The rows other than the one that has changed.
pub only_row : (w E k q z : ℕ) (m m' : List ℕ) → Only (row_offset w E k) z m m' → z ≤ row_offset w E k + stride w E → q ≢ k → row w E q m' ≡ row w E q m
only_row w E k q z m m' f h d = go (dec_lt q k)
  where
    go : Dec (q < k) → row w E q m' ≡ row w E q m
    go (yes l) = only-before (row_offset w E k) z (row_offset w E q) (stride w E) m m' f (omega (arith, row_fits k (stride w E) q l))
    go (no l) = only-past (row_offset w E k) z (row_offset w E q) (stride w E) m m' f (omega (arith, row_fits q (stride w E) k (omega arith)))

-- Working memory with its rows before the row `k` as they were.
pub works_only : {w E k z : ℕ} {m m' : List ℕ} → z ≤ row_offset w E k + stride w E → Only (row_offset w E k) z m m' → Works w E k m → Works w E k m'
works_only {w} {E} {k} {z} {m} {m'} h f g = record {
  some_width = g.some_width;
  wide = g.wide;
  some_symbol = g.some_symbol;
  long = g.long;
  room = rw f.size g.room;
  within = g.within;
  columns = λ j l. subst (λ r. get_or r (w + E) 0 < w) (sym (only_row w E k j z m m' f h (omega arith))) (g.columns j l);
}

-- No row need be looked at.
pub works_none : {w E k : ℕ} {m : List ℕ} → Works w E k m → Works w E 0 m
works_none g = record {
  some_width = g.some_width;
  wide = g.wide;
  some_symbol = g.some_symbol;
  long = g.long;
  room = g.room;
  within = omega arith;
  columns = λ j l. absurd (omega arith);
}

-- Where the row `k` ends, and how long it is.
module _ (w E k : ℕ) (work : List ℕ) (g : Works w E k work) where
  pub row_room : row_offset w E k + stride w E ≤ length work
  row_room = omega (arith, g.room, g.within, row_fits (w + 1) (stride w E) k (omega (arith, g.within)))

  pub length-row : length (row w E k work) ≡ stride w E
  length-row = length_part (row_offset w E k) (stride w E) work row_room
