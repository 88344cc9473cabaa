-- A row's first flag: what a store of it changes, and what it says.
use Rattle.std.specs.Prelude.{◌≡◌, ◌≤◌, ◌+◌, ◌<◌, ◌∷◌, ◌≢◌}
use Rattle.words.specs.Words.{arith, ℕ, List, length, refl, ◌∙◌, sym, ap, [], suc, true, zero, get_or, false, subst, ap₂, ltb}
use Rattle.words.specs.Words.{ℕ_discrete, lt-ltb, true≢false}
use Rattle.memory.specs.Part.{splice}
use Rattle.memory.proofs.Parts.{length_part, get_or-part, row_fits}
use Rattle.decoder.specs.TableSteps.{total}
use Rattle.decoder.proofs.Stretch.{line_same}
use Rattle.table.specs.Window.{stride, row_offset, row, flag, in_use, line, Flagged, Flags, Fits, Kept}
use Rattle.table.specs.RowSteps.{one_if_known, known-flag, flagged}
use Rattle.table.proofs.Rows.{row_store, row_other, kept_store}
use Rattle.table.proofs.Holding.{get_or-before}
use Rattle.table.proofs.Offsets.{flags_fit}

-- The byte that was stored.
stored_at : (l : List ℕ) (i v : ℕ) → i < length l → get_or (splice i (v ∷ []) l) i 0 ≡ v
unfolding splice
stored_at [] i v h = absurd (omega arith)
stored_at (x ∷ l) zero v h = refl
stored_at (x ∷ l) (suc i) v h = stored_at l i v (omega arith)

pub length-row : (w E : ℕ) (m : List ℕ) → Fits w E m → (r : ℕ) → r < w → length (row w E r m) ≡ stride w E
length-row w E m fits r h = length_part (row_offset w E r) (stride w E) m (omega (arith, fits.room, row_fits w (stride w E) r h))

-- Where the flag lies in the memory.
pub flag_at : (w E r : ℕ) (m : List ℕ) → flag w E (row w E r m) ≡ get_or m (row_offset w E r + (w + E)) 0
flag_at w E r m = get_or-part (row_offset w E r) (stride w E) (w + E) m (omega (arith, flags_fit w E))

pub unused : (w E : ℕ) (l : List ℕ) → flag w E l ≡ 0 → in_use w E l ≡ false
unused w E l z = ap (ltb 0) z

pub used : (w E : ℕ) (l : List ℕ) → flag w E l ≢ 0 → in_use w E l ≡ true
used w E l z = lt-ltb 0 (flag w E l) (omega arith)

pub unused_flag : (w E : ℕ) (l : List ℕ) → in_use w E l ≡ false → flag w E l ≡ 0
unused_flag w E l e = go (ℕ_discrete (flag w E l) 0)
  where
    go : Dec (flag w E l ≡ 0) → flag w E l ≡ 0
    go (yes z) = z
    go (no z) = absurd (true≢false (sym (used w E l z) ∙ e))

-- A row that is not in use is flagged as it is to be.
pub flagged_unused : (w E r : ℕ) (l : List ℕ) → flag w E l ≡ 0 → Flagged w E r l
flagged_unused w E r l z = (λ t. absurd (omega arith), λ s. absurd (true≢false (sym s.0 ∙ unused w E l z)))

-- Any flag but 2 counts nothing.
pub not_known : (f : ℕ) → f ≢ 2 → one_if_known f ≡ 0
not_known zero z = refl
not_known (suc zero) z = refl
not_known (suc (suc zero)) z = absurd (z refl)
not_known (suc (suc (suc f))) z = refl

-- The first flag of the row `r` becomes `v`.
module _ (w E r v : ℕ) (m : List ℕ) (fits : Fits w E m) (h : r < w) where
  new_row : row w E r (flagged w E r v m) ≡ splice (w + E) (v ∷ []) (row w E r m)
  new_row = row_store w E r (w + E) (v ∷ []) m fits.room h (omega arith)

  pub flagged-flag : flag w E (row w E r (flagged w E r v m)) ≡ v
  flagged-flag = ap (flag w E) new_row ∙ stored_at (row w E r m) (w + E) v (omega (arith, flags_fit w E, length-row w E m fits r h))

  pub flagged_cell : (i : ℕ) → i < w + E → get_or (row w E r (flagged w E r v m)) i 0 ≡ get_or (row w E r m) i 0
  flagged_cell i l = ap (λ x. get_or x i 0) new_row ∙ get_or-before i (w + E) (v ∷ []) (row w E r m) l (omega (arith, flags_fit w E, length-row w E m fits r h))

  pub flagged-line : line w E (row w E r (flagged w E r v m)) ≡ line w E (row w E r m)
  flagged-line = line_same w E fits.some_width (row w E r (flagged w E r v m)) (row w E r m) flagged_cell

  pub flagged_rest : (q : ℕ) → q < w → q ≢ r → row w E q (flagged w E r v m) ≡ row w E q m
  flagged_rest q g d = row_other w E r (w + E) (v ∷ []) m fits.room h (omega arith) q g d

  pub flagged_kept : Kept w E m (flagged w E r v m)
  flagged_kept = kept_store w E r (w + E) (v ∷ []) m fits.room h (omega arith)

-- Only the row `q` has changed.
module _ (w E q : ℕ) (m m' : List ℕ) (rest : (p : ℕ) → p < w → p ≢ q → row w E p m' ≡ row w E p m) where
  pub flags_changed : Flags w E m → Flagged w E q (row w E q m') → Flags w E m'
  flags_changed f g p h = go (ℕ_discrete p q)
    where
      go : Dec (p ≡ q) → Flagged w E p (row w E p m')
      go (yes e) = subst (λ x. Flagged w E x (row w E x m')) (sym e) g
      go (no e) = subst (λ x. Flagged w E p x) (sym (rest p h e)) (f p h)

  count_before : (n : ℕ) → n ≤ q → n ≤ w → total (known-flag w E m) n ≡ total (known-flag w E m') n
  unfolding total
  count_before zero h l = refl
  count_before (suc n) h l =
      ap₂ ◌+◌ (count_before n (omega arith) (omega arith)) (ap (λ x. one_if_known (flag w E x)) (sym (rest n (omega arith) (omega arith))))

  -- What its flag adds to the count.
  pub count_changed : (k : ℕ) → k + known-flag w E m q ≡ known-flag w E m' q
      → (n : ℕ) → q < n → n ≤ w → k + total (known-flag w E m) n ≡ total (known-flag w E m') n
  unfolding total
  count_changed k e zero h l = absurd (omega arith)
  count_changed k e (suc n) h l = go (ℕ_discrete n q) (λ g. count_changed k e n g (omega arith))
    where
      go : Dec (n ≡ q) → (q < n → k + total (known-flag w E m) n ≡ total (known-flag w E m') n)
          → k + total (known-flag w E m) (suc n) ≡ total (known-flag w E m') (suc n)
      go (yes x) ih = omega (arith, count_before n (omega arith) (omega arith), ap (known-flag w E m) x, ap (known-flag w E m') x)
      go (no x) ih = omega (arith, ih (omega arith), ap (λ y. one_if_known (flag w E y)) (rest n (omega arith) x))
