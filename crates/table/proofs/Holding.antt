-- The system that a memory holds is what its rows say: a store in the header, or in a row's other flags, leaves it.
use Rattle.std.specs.Prelude.{◌≡◌, ◌≤◌, ◌+◌, ◌<◌, ◌%◌, ◌∷◌}
use Rattle.words.specs.Words.{arith, ℕ, List, length, refl, ◌∙◌, sym, ap, [], suc, zero, get_or, subst, ltb, mod-lt}
use Rattle.memory.specs.Part.{splice}
use Rattle.memory.proofs.Parts.{get_or-part, get_or-past}
use Rattle.decoder.specs.Bytes.{Coded}
use Rattle.decoder.specs.Model.{State}
use Rattle.decoder.specs.Table.{Echelon, view}
use Rattle.decoder.proofs.Stretch.{line_same}
use Rattle.table.specs.Window.{header_size, stride, row_offset, row, in_use, line, table, Flags, Window, Fits}
use Rattle.table.proofs.Offsets.{flags_fit}

-- Two memories whose rows agree up to their first flag hold the same system.
module _ (w E : ℕ) (m m' : List ℕ) (pos : 0 < w)
    (same : (r : ℕ) → r < w → (k : ℕ) → k < w + E + 1 → get_or m' (row_offset w E r + k) 0 ≡ get_or m (row_offset w E r + k) 0) where
  cell : (r : ℕ) → r < w → (k : ℕ) → k < w + E + 1 → get_or (row w E r m) k 0 ≡ get_or (row w E r m') k 0
  cell r h k l =
      let g = flags_fit w E in
      get_or-part (row_offset w E r) (stride w E) k m (omega arith) ∙ sym (same r h k l) ∙ sym (get_or-part (row_offset w E r) (stride w E) k m' (omega arith))

  used : (r : ℕ) → r < w → in_use w E (row w E r m) ≡ in_use w E (row w E r m')
  used r h = ap (ltb 0) (cell r h (w + E) (omega arith))

  lines : (r : ℕ) → r < w → line w E (row w E r m) ≡ line w E (row w E r m')
  lines r h = line_same w E pos (row w E r m) (row w E r m') (λ i l. cell r h i (omega arith))

  table_same : table w E m ≡ table w E m'
  table_same i = record { has = λ p. used (p % w) (mod-lt p pos) i; line = λ p. lines (p % w) (mod-lt p pos) i }

  flags_same : Flags w E m → Flags w E m'
  flags_same f r h = (
    (λ t.
        let (u, a) = (f r h).0 (cell r h (w + E) (omega arith) ∙ t) in
        (sym (used r h) ∙ u, λ j l d. sym (cell r h j (omega arith)) ∙ a j l d)),
    λ s. sym (cell r h (w + E) (omega arith)) ∙ (f r h).1 (used r h ∙ s.0, λ j l d. cell r h j (omega arith) ∙ s.1 j l d),
  )

  pub window_same : (b : ℕ) (S : State (Coded E) w) → Window w E m b S → Window w E m' b S
  window_same b S v = record {
    echelon = subst (λ T. Echelon T b w) table_same v.echelon;
    reads = ap (λ T. view T w b) (sym table_same) ∙ v.reads;
    flags = flags_same v.flags;
  }

-- What is stored in the header, as the base, leaves the system as it is.
pub window-header : (w E a b : ℕ) (x m : List ℕ) (S : State (Coded E) w) → Fits w E m → a + length x ≤ header_size → Window w E m b S
    → Window w E (splice a x m) b S
window-header w E a b x m S fits h =
    window_same w E m (splice a x m) fits.some_width
    (λ r l k n. get_or-past (row_offset w E r + k) a x m (omega arith) (omega (arith, fits.room)))
    b S

pub get_or-before : (i a : ℕ) (x m : List ℕ) → i < a → a ≤ length m → get_or (splice a x m) i 0 ≡ get_or m i 0
unfolding splice
get_or-before i zero x m h l = absurd (omega arith)
get_or-before i (suc a) x [] h l = absurd (omega arith)
get_or-before zero (suc a) x (y ∷ m) h l = refl
get_or-before (suc i) (suc a) x (y ∷ m) h l = get_or-before i a x m (omega arith) (omega arith)
