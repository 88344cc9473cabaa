-- A turn of the loop that sends a grid: at place p, the symbol in a row and a column.
use Rattle.std.specs.Prelude.{◌≡◌, ◌≤◌, ◌+◌, ◌<◌, ◌%◌, ◌*◌, ◌/◌}
use Rattle.words.specs.Words.{arith, ℕ, List, length, refl, ◌∙◌, add-one, suc-mul, add-zero}
use Rattle.memory.specs.Part.{part, splice}
use Rattle.memory.proofs.Parts.{row_fits, length-splice, length_part}
use Rattle.interleave.specs.Places.{taken_at}
use Rattle.interleave.specs.Grid.{symbols_from}
use Rattle.interleave.specs.Inner.{Fits}
use Rattle.interleave.proofs.Symbols.{symbols-more}
use Rattle.interleave.proofs.Places.{taken_places, sent_places, quotient, rest}
use Rattle.interleave.proofs.Answers.{products}

-- the symbol that is sent at a place, by its place in the order taken
abbrev pub order : (D L p : ℕ) → ℕ
order D L p = taken_at L (p % D) (p / D)

pub order-inside : (D L p : ℕ) → p < D * L → order D L p < D * L
order-inside D L p h = let s = sent_places D L in (taken_places D L).inside (p % D) (p / D) (s.row_within p h) (s.column_within p h)

-- the symbols before place p are written
pub record Sending (E D L : ℕ) (src out₀ out : List ℕ) (p : ℕ) : Type 0 where
  pub written : out ≡ splice 0 (symbols_from E src (order D L) p) out₀
  pub same : length out ≡ length out₀

pub begun : (E D L : ℕ) (src out₀ : List ℕ) → Sending E D L src out₀ out₀ 0
unfolding symbols_from splice
begun E D L src out₀ = record { written = refl; same = refl }

-- numbers at a turn: none is large, and the symbol is inside input and output
pub record Turn (E D L given room row column : ℕ) : Type 0 where
  pub sent_most : column * D + row < 65025
  pub taken_most : row * L + column < 65025
  pub read : (row * L + column) * E + E ≤ given
  pub write : (column * D + row) * E + E ≤ room
  pub read_most : given ≤ 97537500
  pub write_most : (column * D + row) * E + E ≤ 97537500

-- at row `row` of column `column`
module _ {E D L : ℕ} {src out₀ out : List ℕ} {row column : ℕ} (f : Fits E D L (length src) (length out₀))
    (s : Sending E D L src out₀ out (column * D + row)) (r : row < D) (c : column < L) where
  inside : column * D + row < D * L
  inside = (sent_places D L).inside row column r c

  taken : order D L (column * D + row) ≡ row * L + column
  taken = rw (quotient D column row r, rest D column row r)

  pub turn : Turn E D L (length src) (length out) row column
  turn =
      let (q, w) = products E D L f.size_most f.rows_most f.columns_most in
      let t : row * L + column < D * L = (taken_places D L).inside row column r c in
      let u : (row * L + column) * E + E ≤ D * L * E = row_fits (D * L) E (row * L + column) t in
      let v : (column * D + row) * E + E ≤ D * L * E = row_fits (D * L) E (column * D + row) inside in
      let i = inside in
      record {
        sent_most = omega arith;
        taken_most = omega arith;
        read = omega (arith, f.whole);
        write = omega (arith, f.whole, f.fits, s.same);
        read_most = omega (arith, f.whole);
        write_most = omega arith;
      }

  pub next_row : {out₁ : List ℕ} → out₁ ≡ splice ((column * D + row) * E) (part ((row * L + column) * E) E src) out
      → Sending E D L src out₀ out₁ (column * D + (row + 1))
  next_row e =
      let fits : (q : ℕ) → q < D * L → order D L q * E + E ≤ length src =
      λ q k. omega (arith, row_fits (D * L) E (order D L q) (order-inside D L q k), f.whole) in
      let l = length_part ((row * L + column) * E) E src turn.read in
      let p : column * D + (row + 1) ≡ column * D + row + 1 = omega arith in
      record {
        written = rw p (cc (e, taken, s.written, symbols-more E src (order D L) (D * L) fits out₀ (column * D + row) inside));
        same = rw e (length-splice ((column * D + row) * E) (part ((row * L + column) * E) E src) out (omega (arith, l, turn.write)) ∙ s.same);
      }

pub next_column : {E D L : ℕ} {src out₀ out : List ℕ} {row : ℕ} (column : ℕ) → row ≡ D → Sending E D L src out₀ out (column * D + row)
    → Sending E D L src out₀ out ((column + 1) * D + 0)
next_column {D = D} column e s = let d : (column + 1) * D + 0 ≡ column * D + D = rw (add-one, suc-mul, add-zero) in rw d (rw e at s)
