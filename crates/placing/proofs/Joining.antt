-- A packet's rows, placed one after the other, give what the model makes of its equations; and as many positions become known as are counted.
use Rattle.std.specs.Prelude.{◌≡◌, ◌+◌, ◌<◌}
use Rattle.words.specs.Words.{arith, ℕ, List, refl, ◌∙◌, sym, ap, true, get_or, false, Bool, subst, add-one, zero-add}
use Rattle.memory.specs.Part.{part}
use Rattle.memory.specs.Number.{Bytes}
use Rattle.memory.proofs.Parts.{get_or-part}
use Rattle.decoder.specs.Field.{Laws}
use Rattle.decoder.specs.Bytes.{byte, Coded}
use Rattle.decoder.specs.Model.{State, Reduced, place as place-row, lead}
use Rattle.decoder.specs.Receiver.{advance_by}
use Rattle.decoder.specs.Table.{view}
use Rattle.decoder.specs.TableSteps.{Places, add_line}
use Rattle.decoder.specs.Chain.{Chain, place_rows}
use Rattle.decoder.proofs.Bytes.{laws}
use Rattle.decoder.proofs.Stretch.{line_same}
use Rattle.decoder.proofs.Chain.{chain_before}
use Rattle.decoder.proofs.Combining.{reduced_cells}
use Rattle.decoder.proofs.Counting.{newly_difference}
use Rattle.decoder.proofs.Gaining.{place_line}
use Rattle.decoder.proofs.Refine.{lead_read}
use Rattle.table.specs.Window.{stride, row_offset, row, flag, in_use, line, table, equation, Window, Fits}
use Rattle.placing.specs.Place.{RowsMoved, Committed}
use Rattle.placing.specs.PlaceSteps.{known_flags, RowPlaced, PlacedKept, RowsPlaced}
use Rattle.table.specs.Packet.{spelled, PivotMarked}
use Rattle.table.proofs.Rows.{kept_refl, kept_trans, fits_kept}
use Rattle.table.proofs.Offsets.{flags_fit}
use Rattle.placing.proofs.Placing.{places}
use Rattle.placing.proofs.Showing.{count_known}

-- Of a working row only its coefficients and symbol matter.
pub settled_line : {w E r n : ℕ} {l l' m m' : List ℕ} → line w E l ≡ line w E l' → RowPlaced w E r n l m m' → RowPlaced w E r n l' m m'
settled_line {w} {E} {r} {n} {l} {l'} {m} {m'} e s = record {
  kept = s.kept;
  most = s.most;
  used = s.used;
  new = s.new ∙ e;
  others = s.others;
  sum = λ q h d u. s.sum q h d u ∙ ap (λ x. add_line (byte (get_or (row w E q m) r 0)) x (line w E (row w E q m))) e;
  flags = s.flags;
}

-- The code hands on the row's coefficients and symbol, without its flags.
pub without_flags : (w E k at : ℕ) (work : List ℕ) → 0 < w → at ≡ row_offset w E k → line w E (part at (w + E) work) ≡ line w E (row w E k work)
without_flags w E k at work pos here =
    line_same w E pos (part at (w + E) work) (row w E k work)
    (λ i l. get_or-part at (w + E) i work l ∙ ap (λ a. get_or work (a + i) 0) here
    ∙ sym (get_or-part (row_offset w E k) (stride w E) i work (omega (arith, flags_fit w E))))

-- A reduced row that leads with one is placed.
module _ (w E b n : ℕ) (T : State (Coded E) w) (l m m' : List ℕ) (fits : Fits w E m) (v : Window w E m b T) (s : RowPlaced w E (flag w E l) n l m m')
    (p : PivotMarked w E b l) (r : Reduced T (equation w E b l)) (o : lead (Coded E) w (equation w E b l) ≡ (Coded E).𝟙) where
  L : Laws (Coded E)
  L = laws E (omega (arith, fits.some_symbol))

  reduced : Reduced (view (table w E m) w b) (equation w E b l)
  reduced = subst (λ X. Reduced X (equation w E b l)) (sym v.reads) r

  step : Places (table w E m) (table w E m') b w p.position (line w E l)
  step = places w E (flag w E l) n b p.position l m m' fits.some_width s (sym p.column) p.from p.before

  one : (line w E l).cells p.position ≡ (Coded E).𝟙
  one = sym (lead_read L (line w E l) w b p.position p.leads p.from p.before) ∙ o

  free : in_use w E (row w E (flag w E l) m) ≡ false
  free = ap (λ x. in_use w E (row w E x m)) p.column ∙ go ((table w E m).has p.position) refl
    where
      go : (t : Bool) → (table w E m).has p.position ≡ t → (table w E m).has p.position ≡ false
      go true e = absurd (p.leads.here (reduced_cells (table w E m) (line w E l) w b reduced p.position p.from p.before e))
      go false e = e

  pub placed : Window w E m' b (place-row T (equation w E b l)) × (n + known_flags w E m ≡ known_flags w E m')
  placed =
      let (echelon, reads) =
      place_line L (table w E m) (table w E m') b w p.position (line w E l) v.echelon step p.from p.before reduced p.leads one in
      let flags = s.flags free v.flags in (
        record { echelon = echelon; reads = reads ∙ ap (λ X. place-row X (equation w E b l)) v.reads; flags = flags.0 },
        flags.1,
      )

-- No row yet, one more, and all.
pub joined-none : (w E : ℕ) (work m : List ℕ) → RowsPlaced w E 0 0 work m m
unfolding place_rows
joined-none w E work m = record { kept = kept_refl; most = omega arith; joins = λ b S v c p. (v, zero-add (known_flags w E m)) }

pub joined-more : (w E k n i : ℕ) (work m m₁ m₂ : List ℕ) → Fits w E m → RowsPlaced w E k n work m m₁ → PlacedKept w E k i work m₁ m₂
    → RowsPlaced w E (k + 1) (n + i) work m m₂
unfolding place_rows
joined-more w E k n i work m m₁ m₂ fits f s = record {
  kept = kept_trans f.kept s.kept;
  most = omega (arith, f.most, s.most, fits.wide);
  joins = λ b S v c p.
      let room = fits_kept fits f.kept in
      let chain = subst (Chain S (spelled w E b work)) (add-one k) c in
      let before = f.joins b S v (chain_before (laws E (omega (arith, fits.some_symbol))) S (spelled w E b work) k chain) (λ j h. p j (omega arith)) in
      let now =
      placed w E b i (place_rows (spelled w E b work) k S) (row w E k work) m₁ m₂ room before.0 s (p k (omega arith))
      (chain.reduced k (omega arith)) (chain.leads k (omega arith)) in (
        subst (λ j. Window w E m₂ b (place_rows (spelled w E b work) j S)) (sym (add-one k)) now.0,
        omega (arith, before.1, now.1),
      );
}

pub joined_all : {w E i k n : ℕ} {work m m' : List ℕ} → i ≡ k → RowsPlaced w E i n work m m' → RowsPlaced w E k n work m m'
joined_all {w} {E} {i} {k} {n} {work} {m} {m'} e f = subst (λ j. RowsPlaced w E j n work m m') e f

-- The window has moved on, and all rows have joined.
pub committed : (w E oldest rise k n : ℕ) (work m m₁ m₂ : List ℕ) → Fits w E m → Bytes m₁ → Bytes m₂ → RowsMoved w E oldest rise m m₁
    → RowsPlaced w E k n work m₁ m₂
    → Committed w E oldest rise k n work m m₂
committed w E oldest rise k n work m m₁ m₂ fits f g a c = record {
  unchanged = kept_trans a.kept c.kept;
  most = c.most;
  outcome = λ b S es e v r h.
      let start = a.moves b S e v in
      let T = place_rows (spelled w E (b + rise) work) k (advance_by rise S) in
      let (window, count) = c.joins (b + rise) (advance_by rise S) start h.chain h.marked in
      let room = fits_kept fits a.kept in
      let before = count_known w E (b + rise) m₁ (advance_by rise S) room f start in
      let after = count_known w E (b + rise) m₂ T (fits_kept room c.kept) g window in
      let difference = newly_difference (laws E (omega (arith, fits.some_symbol))) b rise S T es r h.inserted in
      (T, h.inserted, window, omega (arith, count, before, after, difference));
}
