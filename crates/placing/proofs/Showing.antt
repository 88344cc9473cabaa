-- A position is known just where its row's first flag is 2; and how many are known.
use Rattle.std.specs.Prelude.{◌≡◌, ◌≤◌, ◌+◌, ◌<◌, ◌-◌, ◌%◌, ◌≢◌}
use Rattle.words.specs.Words.{arith, ℕ, List, refl, ◌∙◌, sym, ap, Some, suc, true, None, get_or, false, Bool, Option, eqb}
use Rattle.words.specs.Words.{mod-lt, ℕ_discrete, dec_lt, eqb-true, eqb-false}
use Rattle.words.specs.Words.{some-ne-none}
use Rattle.memory.specs.Part.{part}
use Rattle.memory.specs.Number.{Bytes}
use Rattle.memory.proofs.Parts.{part-part}
use Rattle.memory.proofs.Number.{bytes-part}
use Rattle.decoder.specs.Bytes.{byte, Coded}
use Rattle.decoder.specs.Model.{State, known}
use Rattle.decoder.specs.Receiver.{is_new}
use Rattle.decoder.specs.Table.{view}
use Rattle.decoder.specs.Tuples.{bytes-of}
use Rattle.decoder.proofs.Bytes.{laws, byte-zero, byte_nonzero}
use Rattle.decoder.proofs.Stretch.{bytes-of_symbol}
use Rattle.decoder.proofs.Counting.{count_all}
use Rattle.decoder.proofs.Gaining.{total-rows}
use Rattle.decoder.proofs.Steps.{known-row, known_open, known_free}
use Rattle.table.specs.Window.{stride, row_offset, row, flag, in_use, line, table, Window, Fits}
use Rattle.placing.specs.Place.{KnownAt}
use Rattle.table.specs.RowSteps.{one_if_known, known-flag}
use Rattle.placing.specs.PlaceSteps.{known_flags}
use Rattle.table.proofs.Zero.{else_zero}
use Rattle.table.proofs.Flags.{length-row, unused, used, not_known}
use Rattle.table.proofs.Offsets.{flags_fit}
use Rattle.placing.proofs.Moving.{other, position}

module _ (w E r : ℕ) (m : List ℕ) (fits : Fits w E m) (h : r < w) (f : Bytes m) where
  positive : 0 < E
  positive = omega (arith, fits.some_symbol)

  module _ (b i : ℕ) (S : State (Coded E) w) (l : i < w) (e : (b + i) % w ≡ r) (v : Window w E m b S) where
    held : {o : Option (Coded E).Sym} → known (view (table w E m) w b) i ≡ o → known S i ≡ o
    held x = ap (λ X. known X i) (sym v.reads) ∙ x

    left : i + suc (w - suc i) ≡ w
    left = omega arith

    marked : {t : Bool} → in_use w E (row w E r m) ≡ t → (table w E m).has (b + i) ≡ t
    marked x = ap (λ q. in_use w E (row w E q m)) e ∙ x

    apart : (j : ℕ) → b ≤ j → j < b + w → j ≢ b + i → j % w ≢ r
    apart j c d x y = other w b (b + i) j (omega arith) (omega arith) c d x (y ∙ sym e)

    shut : in_use w E (row w E r m) ≡ false → known S i ≡ None
    shut x = held (known_free (laws E positive) (table w E m) i w b (b + i) (w - suc i) refl left (marked x))

    whole : in_use w E (row w E r m) ≡ true → ((j : ℕ) → j < w → j ≢ r → get_or (row w E r m) j 0 ≡ 0) → known S i ≡ Some (line w E (row w E r m)).sym
    whole x z =
        held (known-row (laws E positive) (table w E m) i w b (b + i) (w - suc i) refl left (marked x)
        (λ j c d.
        ap (λ q. byte (get_or (row w E q m) (j % w) 0)) e
        ∙ byte-zero _ (z (j % w) (mod-lt j fits.some_width) (apart j (omega arith) d (omega arith)))))
        ∙ ap (λ q. Some (line w E (row w E q m)).sym) e

    -- A coefficient elsewhere in the window stands after the pivot.
    open_at : in_use w E (row w E r m) ≡ true → (j : ℕ) → j < w → j ≢ r → get_or (row w E r m) j 0 ≢ 0 → known S i ≡ None
    open_at x j c d z =
        let (p, g, k, y) = position w b j c in
        let cells : ((table w E m).line (b + i)).cells p ≡ byte (get_or (row w E r m) j 0) =
        ap (λ q. byte (get_or (row w E q m) (p % w) 0)) e ∙ ap (λ q. byte (get_or (row w E r m) q 0)) y in
        let full : ((table w E m).line (b + i)).cells p ≢ (Coded E).𝟘 =
        (λ s. byte_nonzero (get_or (row w E r m) j 0) (bytes-part (row_offset w E r) (stride w E) m f j) z (sym cells ∙ s)) in
        let late : b + i < p = after p g k y d full (dec_lt p (b + i)) in
        held (known_open (laws E positive) (table w E m) i w b (b + i) (w - suc i) refl left (marked x) p late k full)
      where
        after : (p : ℕ) → b ≤ p → p < b + w → p % w ≡ j → j ≢ r → ((table w E m).line (b + i)).cells p ≢ (Coded E).𝟘 → Dec (p < b + i) → b + i < p
        after p g k y d full (yes u) = absurd (full (v.echelon.zero-before (b + i) (omega arith) (omega arith) (marked x) p g u))
        after p g k y d full (no u) = let n : p ≢ b + i = (λ q. d (sym y ∙ ap (λ k. k % w) q ∙ e)) in omega arith

    -- A row in use that is flagged otherwise has another coefficient.
    not-two : flag w E (row w E r m) ≢ 2 → known S i ≡ None
    not-two n = go (ℕ_discrete (flag w E (row w E r m)) 0) (known S i) refl
      where
        go : Dec (flag w E (row w E r m) ≡ 0) → (o : Option (Coded E).Sym) → known S i ≡ o → known S i ≡ None
        go (yes z) o e = shut (unused w E (row w E r m) z)
        go (no z) None e = e
        go (no z) (Some s) k =
            let u = used w E (row w E r m) z in
            absurd (n ((v.flags r h).1 (u, λ j c d. else_zero (get_or (row w E r m) j 0) (λ y. some-ne-none s (sym k ∙ open_at u j c d y)))))

  pub flag-known : (t : Bool) → eqb (flag w E (row w E r m)) 2 ≡ t → KnownAt w E r t m
  flag-known true e = λ b i S l p v. let s = (v.flags r h).0 (eqb-true (flag w E (row w E r m)) 2 e) in whole b i S l p v s.0 s.1
  flag-known false e = λ b i S l p v. not-two b i S l p v (eqb-false (flag w E (row w E r m)) 2 e)

-- The bytes of a row's symbol, where they lie.
pub symbol_bytes : (w E r : ℕ) (m : List ℕ) → Fits w E m → r < w → Bytes m → bytes-of E (line w E (row w E r m)).sym ≡ part (row_offset w E r + w) E m
unfolding part
symbol_bytes w E r m fits h f =
    bytes-of_symbol E w (row w E r m) (bytes-part (row_offset w E r) (stride w E) m f) (omega (arith, flags_fit w E, length-row w E m fits r h))
    ∙ part-part (row_offset w E r) (stride w E) w E m (omega (arith, flags_fit w E))

-- ---- counting

-- What a flag adds to the count, as the model counts.
one_known : (w E r : ℕ) (m : List ℕ) → Fits w E m → r < w → Bytes m → (b i : ℕ) (S : State (Coded E) w) → i < w → (b + i) % w ≡ r → Window w E m b S
    → is_new (known S i) None ≡ one_if_known (flag w E (row w E r m))
unfolding is_new
one_known w E r m fits h f b i S l p v = go (ℕ_discrete (flag w E (row w E r m)) 2)
  where
    go : Dec (flag w E (row w E r m) ≡ 2) → is_new (known S i) None ≡ one_if_known (flag w E (row w E r m))
    go (yes e) =
        let s = (v.flags r h).0 e in
        ap (λ o. is_new o None) (whole w E r m fits h f b i S l p v s.0 s.1) ∙ ap one_if_known (sym e)
    go (no e) = ap (λ o. is_new o None) (not-two w E r m fits h f b i S l p v e) ∙ sym (not_known (flag w E (row w E r m)) e)

-- As many flags are 2 as there are positions known.
pub count_known : (w E b : ℕ) (m : List ℕ) (S : State (Coded E) w) → Fits w E m → Bytes m → Window w E m b S → known_flags w E m ≡ count_all w (known S)
count_known w E b m S fits f v =
    total-rows (known-flag w E m) w b (known S) (λ _. None)
    (λ i l. sym (one_known w E ((b + i) % w) m fits (mod-lt (b + i) fits.some_width) f b i S l refl v))
