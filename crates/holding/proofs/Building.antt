-- A memory that holds a given state: rows spelled byte by byte.
-- Laws:
--   a memory for every state: Built, built; the rest lays its rows and header
use Rattle.std.specs.Prelude.{◌≡◌, ◌≤◌, ◌+◌, ◌<◌, ◌-◌, ◌%◌, ◌∷◌, ◌*◌, ◌++◌, ◌≢◌, ◌^◌, ◌↔◌}
use Rattle.words.specs.Words.{arith, ℕ, List, length, refl, ◌∙◌, sym, ap, [], Some, suc, true, zero, get_or, false, Bool}
use Rattle.words.specs.Words.{subst, drop, ap₂, ltb, mod-lt, ℕ_discrete, add-zero, length-append, mod-eq_of_lt, mod-add-mod, zero-add}
use Rattle.words.specs.Words.{true≢false, append_assoc, lit<, add-suc, get_or-append, suc-add, drop-drop, take_at, get_or-drop, cond}
use native.Mathlib.Nat.{mod-eq-sub-mod}
use lib.Seq.{drop_at, get_or-append-add}
use Rattle.memory.specs.Part.{part, splice}
use Rattle.memory.specs.Number.{number, bytes}
use Rattle.memory.proofs.Parts.{part-drop, length-splice, past-splice, get_or-past}
use Rattle.memory.proofs.Number.{number-bytes}
use Rattle.rows.specs.Combination.{tabulate}
use Rattle.rows.proofs.Combinations.{length-tabulate, get_d_tabulate}
use Rattle.wire.specs.declared.Setting.{Setting}
use Rattle.wire.specs.Packets.{Sized, zeros, joined, chunks}
use Rattle.wire.specs.Settings.{Valid}
use Rattle.wire.specs.Stored.{setting_in, setting_bytes}
use Rattle.wire.proofs.Settings.{setting-written}
use Rattle.wire.proofs.Adui.{get_or-chunks}
use Rattle.wire.proofs.Reading.{length-joined}
use Rattle.decoder.specs.Bytes.{byte, bytes as byte-ops, Coded}
use Rattle.decoder.specs.Symbols.{nulls}
use Rattle.decoder.specs.Model.{Row, end, free, pivot, Rref}
use Rattle.decoder.specs.Stretch.{symbol_cut_at}
use Rattle.decoder.specs.Table.{Line, Table, read, slot, view, Echelon}
use Rattle.decoder.proofs.Bytes.{byte_of}
use Rattle.table.specs.Window.{header_size, stride}
use Rattle.history.specs.Symbol.{Symbol, bytes_of}
use Rattle.history.specs.History.{memory_size}
use Rattle.history.specs.Model.{Joined, Origins}
use Rattle.origins.specs.Origins.{origin_at, heard_in}
use Rattle.holding.specs.Header.{row_in, header_in}
use Rattle.holding.specs.Layout.{header_from, HoldsWith}
use Rattle.holding.proofs.Headers.{found-joined}
use Rattle.holding.proofs.Flows.{with-flows}
use Rattle.history.proofs.Says.{symbol_tail, bytes_sized}
use Rattle.decoder.specs.Model as model
use Rattle.table.specs.Window as window

-- ---- A system, coefficient by coefficient

module _ (E : ℕ) where
  -- The jth coefficient of a row.
  abbrev cell : (n : ℕ) → Row (Coded E) n → ℕ → ℕ
  cell zero r j = 0
  cell (suc n) r zero = r.0.0
  cell (suc n) r (suc j) = cell n r.1 j

  -- Whether the ith position is a pivot; the coefficient of its row at the jth position; its symbol.
  abbrev pivoted : {n : ℕ} → model.State (Coded E) n → ℕ → Bool
  pivoted end i = false
  pivoted (free S) zero = false
  pivoted (free S) (suc i) = pivoted S i
  pivoted (pivot r S) zero = true
  pivoted (pivot r S) (suc i) = pivoted S i

  abbrev entry : {n : ℕ} → model.State (Coded E) n → ℕ → ℕ → ℕ
  entry end i j = 0
  entry (free S) zero j = 0
  entry (free S) (suc i) zero = 0
  entry (free S) (suc i) (suc j) = entry S i j
  entry (pivot r S) zero zero = 1
  entry (pivot {n} r S) zero (suc j) = cell n r j
  entry (pivot r S) (suc i) zero = 0
  entry (pivot r S) (suc i) (suc j) = entry S i j

  abbrev symbol_of_index : {n : ℕ} → model.State (Coded E) n → ℕ → Symbol E
  symbol_of_index end i = nulls byte-ops E
  symbol_of_index (free S) zero = nulls byte-ops E
  symbol_of_index (free S) (suc i) = symbol_of_index S i
  symbol_of_index (pivot {n} r S) zero = model.symbol (Coded E) n r
  symbol_of_index (pivot r S) (suc i) = symbol_of_index S i

  entry_one : {n : ℕ} (S : model.State (Coded E) n) (i : ℕ) → pivoted S i ≡ true → entry S i i ≡ 1
  entry_one end i h = absurd (true≢false (sym h))
  entry_one (free S) zero h = absurd (true≢false (sym h))
  entry_one (free S) (suc i) h = entry_one S i h
  entry_one (pivot r S) zero h = refl
  entry_one (pivot r S) (suc i) h = entry_one S i h

  entry_zero : {n : ℕ} (S : model.State (Coded E) n) (i j : ℕ) → j < i → entry S i j ≡ 0
  entry_zero end i j h = refl
  entry_zero (free S) zero j h = refl
  entry_zero (free S) (suc i) zero h = refl
  entry_zero (free S) (suc i) (suc j) h = entry_zero S i j (omega arith)
  entry_zero (pivot r S) zero j h = absurd (omega arith)
  entry_zero (pivot r S) (suc i) zero h = refl
  entry_zero (pivot r S) (suc i) (suc j) h = entry_zero S i j (omega arith)

  -- The table has the system's rows, for the positions from q on.
  record Spells {n : ℕ} (T : Table (Coded E)) (q : ℕ) (S : model.State (Coded E) n) : Type 0 where
    has_is : (i : ℕ) → i < n → T.has (q + i) ≡ pivoted S i
    cell_is : (i j : ℕ) → i < n → j < n → (T.line (q + i)).cells (q + j) ≡ byte (entry S i j)
    symbol_is : (i : ℕ) → i < n → (T.line (q + i)).sym ≡ symbol_of_index S i

  read-spelled : (n q : ℕ) (l : Line (Coded E)) (r : Row (Coded E) n) → ((j : ℕ) → j < n → l.cells (q + j) ≡ byte (cell n r j))
      → l.sym ≡ model.symbol (Coded E) n r → read l n q ≡ r
  unfolding read model.symbol
  read-spelled zero q l r c s = s
  read-spelled (suc n) q l r c s =
      ap₂ (λ a x. (a, x)) (ap l.cells (sym (add-zero q)) ∙ c 0 (omega arith) ∙ byte_of r.0)
      (read-spelled n (suc q) l r.1 (λ j h. ap l.cells (suc-add q j ∙ sym (add-suc q j)) ∙ c (suc j) (omega arith)) s)

  later : {n : ℕ} (T : Table (Coded E)) (q : ℕ) (S' : model.State (Coded E) (suc n)) (S : model.State (Coded E) n)
      → ((i : ℕ) → pivoted S' (suc i) ≡ pivoted S i) → ((i j : ℕ) → entry S' (suc i) (suc j) ≡ entry S i j)
      → ((i : ℕ) → symbol_of_index S' (suc i) ≡ symbol_of_index S i) → Spells T q S' → Spells T (suc q) S
  later T q S' S a b c k = record {
    has_is = λ i h. ap T.has (suc-add q i ∙ sym (add-suc q i)) ∙ k.has_is (suc i) (omega arith) ∙ a i;
    cell_is = λ i j h l.
        ap₂ (λ x y. (T.line x).cells y) (suc-add q i ∙ sym (add-suc q i)) (suc-add q j ∙ sym (add-suc q j))
        ∙ k.cell_is (suc i) (suc j) (omega arith) (omega arith) ∙ ap byte (b i j);
    symbol_is = λ i h. ap (λ x. (T.line x).sym) (suc-add q i ∙ sym (add-suc q i)) ∙ k.symbol_is (suc i) (omega arith) ∙ c i;
  }

  view_spelled : {n : ℕ} (T : Table (Coded E)) (q : ℕ) (S : model.State (Coded E) n) → Spells T q S → view T n q ≡ S
  unfolding view slot
  view_spelled T q end k = refl
  view_spelled T q (free S) k =
      let here : T.has q ≡ false = ap T.has (sym (add-zero q)) ∙ k.has_is 0 (omega arith) in
      rw here (ap free (view_spelled T (suc q) S (later T q (free S) S (λ i. refl) (λ i j. refl) (λ i. refl) k)))
  view_spelled T q (pivot {n} r S) k =
      let here : T.has q ≡ true = ap T.has (sym (add-zero q)) ∙ k.has_is 0 (omega arith) in
      let row : read (T.line q) n (suc q) ≡ r =
      read-spelled n (suc q) (T.line q) r
      (λ j h.
      ap₂ (λ x y. (T.line x).cells y) (sym (add-zero q)) (suc-add q j ∙ sym (add-suc q j)) ∙ k.cell_is 0 (suc j) (omega arith) (omega arith))
      (ap (λ x. (T.line x).sym) (sym (add-zero q)) ∙ k.symbol_is 0 (omega arith)) in
      rw here (ap₂ pivot row (view_spelled T (suc q) S (later T q (pivot r S) S (λ i. refl) (λ i j. refl) (λ i. refl) k)))

  echelon_spelled : {n : ℕ} (T : Table (Coded E)) (b : ℕ) (S : model.State (Coded E) n) → Spells T b S → Echelon T b n
  echelon_spelled {n} T b S k = record {
    one_at = λ q c l h.
        let e : b + (q - b) ≡ q = omega arith in
        let p : pivoted S (q - b) ≡ true = sym (k.has_is (q - b) (omega arith)) ∙ ap T.has e ∙ h in
        ap₂ (λ x y. (T.line x).cells y) (sym e) (sym e) ∙ k.cell_is (q - b) (q - b) (omega arith) (omega arith) ∙ ap byte (entry_one S (q - b) p);
    zero-before = λ q c l h j d m.
        let e : b + (q - b) ≡ q = omega arith in
        let g : b + (j - b) ≡ j = omega arith in
        ap₂ (λ x y. (T.line x).cells y) (sym e) (sym g) ∙ k.cell_is (q - b) (j - b) (omega arith) (omega arith)
        ∙ ap byte (entry_zero S (q - b) (j - b) (omega arith));
  }

-- ---- The rows

-- Which position of the window from b on lies in the row r, and which row the ith position has.
module _ (w b : ℕ) (z : 0 < w) where
  abbrev index : ℕ → ℕ
  index r = (r + (w - b % w)) % w

  around : (r : ℕ) → r < w → (b + (r + (w - b % w))) % w ≡ r
  around r h =
      let l = mod-lt b z in
      let e : b % w + (r + (w - b % w)) ≡ r + w = omega arith in
      let g : r + w - w ≡ r = omega arith in
      sym (mod-add-mod b w (r + (w - b % w))) ∙ ap (λ x. x % w) e ∙ mod-eq-sub-mod (omega arith) ∙ ap (λ x. x % w) g ∙ mod-eq_of_lt h

  index_is : (i : ℕ) → i < w → index ((b + i) % w) ≡ i
  index_is i h =
      let e : b + i + (w - b % w) ≡ b + (i + (w - b % w)) = omega arith in
      mod-add-mod (b + i) w (w - b % w) ∙ ap (λ x. x % w) e ∙ around i h

-- Whether the numbers below n are zero, but for the rth.
clear? : (f : ℕ → ℕ) (n r : ℕ) → Dec ((j : ℕ) → j < n → j ≢ r → f j ≡ 0)
clear? f zero r = yes (λ j h. absurd (omega arith))
clear? f (suc n) r = go (clear? f n r) (ℕ_discrete n r) (ℕ_discrete (f n) 0)
  where
    last : ((j : ℕ) → j < n → j ≢ r → f j ≡ 0) → (n ≢ r → f n ≡ 0) → (j : ℕ) → j < suc n → j ≢ r → f j ≡ 0
    last a e j h d = split (ℕ_discrete j n)
      where
        split : Dec (j ≡ n) → f j ≡ 0
        split (yes p) = ap f p ∙ e (λ q. d (p ∙ q))
        split (no p) = a j (omega arith) d

    go : Dec ((j : ℕ) → j < n → j ≢ r → f j ≡ 0) → Dec (n ≡ r) → Dec (f n ≡ 0) → Dec ((j : ℕ) → j < suc n → j ≢ r → f j ≡ 0)
    go (no a) d e = no (λ c. a (λ j h. c j (omega arith)))
    go (yes a) (yes p) e = yes (last a (λ q. absurd (q p)))
    go (yes a) (no p) (yes e) = yes (last a (λ _. e))
    go (yes a) (no p) (no e) = no (λ c. e (c n (omega arith) p))

-- The first flag: 0 no row, 1 a row, 2 a row with no other coefficient.
abbrev flag-of : {A : Type 0} → Bool → Dec A → ℕ
flag-of false d = 0
flag-of true (yes a) = 2
flag-of true (no a) = 1

flag_used : {A : Type 0} (t : Bool) (d : Dec A) → ltb 0 (flag-of t d) ≡ t
flag_used false d = refl
flag_used true (yes a) = refl
flag_used true (no a) = refl

flag_alone : {A B : Type 0} → A ↔ B → (t : Bool) (d : Dec A) → (flag-of t d ≡ 2) ↔ ((t ≡ true) × B)
flag_alone e false d = ((λ h. absurd (omega (arith, h))), (λ h. absurd (true≢false (sym h.0))))
flag_alone e true (yes a) = ((λ _. (refl, e.0 a)), (λ _. refl))
flag_alone e true (no a) = ((λ h. absurd (omega (arith, h))), (λ h. absurd (a (e.1 h.1))))

symbol_past : (E : ℕ) (x y : List ℕ) → symbol_cut_at E (length x) (x ++ y) ≡ symbol_cut_at E 0 y
symbol_past E [] y = refl
symbol_past E (a ∷ x) y = symbol_tail E (length x) a (x ++ y) ∙ symbol_past E x y

symbol_front : (E : ℕ) (v : Symbol E) (y : List ℕ) → symbol_cut_at E 0 (bytes_of E v ++ y) ≡ v
symbol_front zero v y = refl
symbol_front (suc E) v y = ap₂ (λ a u. (a, u)) (byte_of v.0) (symbol_tail E 0 v.0.0 (bytes_of E v.1 ++ y) ∙ symbol_front E v.1 y)

module _ (w E b : ℕ) (z : 0 < w) (S : model.State (Coded E) w) where
  -- The coefficient in column k of the row r.
  abbrev column : ℕ → ℕ → ℕ
  column r k = entry E S (index w b z r) (index w b z k)

  abbrev row_flag : ℕ → ℕ
  row_flag r = flag-of (pivoted E S (index w b z r)) (clear? (column r) w r)

  abbrev row_bytes : ℕ → List ℕ
  row_bytes r = tabulate (column r) w ++ (bytes_of E (symbol_of_index E S (index w b z r)) ++ (row_flag r ∷ 0 ∷ 0 ∷ 0 ∷ []))

  length_columns : (r : ℕ) → length (tabulate (column r) w) ≡ w
  length_columns r = length-tabulate (column r) w

  length-row : (r : ℕ) → length (row_bytes r) ≡ window.stride w E
  unfolding window.stride
  length-row r =
      let v = symbol_of_index E S (index w b z r) in
      length-append (tabulate (column r) w) (bytes_of E v ++ (row_flag r ∷ 0 ∷ 0 ∷ 0 ∷ []))
      ∙ omega (arith, length_columns r, length-append (bytes_of E v) (row_flag r ∷ 0 ∷ 0 ∷ 0 ∷ []), bytes_sized E v)

  column_is : (r k : ℕ) → k < w → get_or (row_bytes r) k 0 ≡ column r k
  column_is r k h = get_or-append (tabulate (column r) w) _ 0 k (rw (length_columns r) h) ∙ get_d_tabulate (column r) w k h

  flag_is : (r : ℕ) → window.flag w E (row_bytes r) ≡ row_flag r
  flag_is r =
      let x = tabulate (column r) w in
      let v = bytes_of E (symbol_of_index E S (index w b z r)) in
      let y = row_flag r ∷ 0 ∷ 0 ∷ 0 ∷ [] in
      let e : w + E ≡ length x + (length v + 0) = omega (arith, length_columns r, bytes_sized E (symbol_of_index E S (index w b z r))) in
      ap (λ k. get_or (x ++ (v ++ y)) k 0) e ∙ get_or-append-add x (v ++ y) (length v + 0) 0 ∙ get_or-append-add v y 0 0

  symbol_in_row : (r : ℕ) → symbol_cut_at E w (row_bytes r) ≡ symbol_of_index E S (index w b z r)
  symbol_in_row r =
      let x = tabulate (column r) w in
      let v = symbol_of_index E S (index w b z r) in
      let y = bytes_of E v ++ (row_flag r ∷ 0 ∷ 0 ∷ 0 ∷ []) in
      ap (λ k. symbol_cut_at E k (x ++ y)) (sym (length_columns r)) ∙ symbol_past E x y ∙ symbol_front E v (row_flag r ∷ 0 ∷ 0 ∷ 0 ∷ [])

  -- A memory with these rows holds the system.
  module _ (m : List ℕ) (rows : (r : ℕ) → r < w → window.row w E r m ≡ row_bytes r) where
    spelled : Spells E (window.table w E m) b S
    spelled = record {
      has_is = λ i h.
          let r = (b + i) % w in
          ap (window.in_use w E) (rows r (mod-lt (b + i) z)) ∙ ap (ltb 0) (flag_is r)
          ∙ flag_used (pivoted E S (index w b z r)) (clear? (column r) w r) ∙ ap (pivoted E S) (index_is w b z i h);
      cell_is = λ i j h l.
          let r = (b + i) % w in
          let k = (b + j) % w in
          ap (λ x. byte (get_or x k 0)) (rows r (mod-lt (b + i) z)) ∙ ap byte (column_is r k (mod-lt (b + j) z))
          ∙ ap₂ (λ x y. byte (entry E S x y)) (index_is w b z i h) (index_is w b z j l);
      symbol_is = λ i h.
          let r = (b + i) % w in
          ap (symbol_cut_at E w) (rows r (mod-lt (b + i) z)) ∙ symbol_in_row r ∙ ap (symbol_of_index E S) (index_is w b z i h);
    }

    flagged : (r : ℕ) → r < w → window.Flagged w E r (window.row w E r m)
    flagged r h =
        subst (window.Flagged w E r) (sym (rows r h))
        (let alone : ((j : ℕ) → j < w → j ≢ r → column r j ≡ 0) ↔ window.Alone w r (row_bytes r) =
        ((λ a j l d. column_is r j l ∙ a j l d), (λ a j l d. sym (column_is r j l) ∙ a j l d)) in
        let used : window.in_use w E (row_bytes r) ≡ pivoted E S (index w b z r) =
        ap (ltb 0) (flag_is r) ∙ flag_used (pivoted E S (index w b z r)) (clear? (column r) w r) in
        let g = flag_alone alone (pivoted E S (index w b z r)) (clear? (column r) w r) in
        ((λ e. let p = g.0 (sym (flag_is r) ∙ e) in (used ∙ p.0, p.1)), (λ (p, q). flag_is r ∙ g.1 (sym used ∙ p, q))))

    rows_held : window.Window w E m b S
    rows_held = record {
      echelon = echelon_spelled E (window.table w E m) b S spelled;
      reads = view_spelled E (window.table w E m) b S spelled;
      flags = flagged;
    }

-- ---- The memory

module _ (s : Setting) (v : Valid s) (t : Joined s) (past : List ℕ) where
  open s use {size as E, width as w}

  abbrev wide : 0 < w
  wide = let h = v.width_least in omega arith

  -- The rows from r on.
  abbrev rows_from : (r n : ℕ) → List (List ℕ)
  rows_from r zero = []
  rows_from r (suc n) = row_bytes w E t.base wide t.window r ∷ rows_from (suc r) n

  rows_sized : (r n : ℕ) → Sized (window.stride w E) (rows_from r n)
  rows_sized r zero = tt
  rows_sized r (suc n) = (length-row w E t.base wide t.window r, rows_sized (suc r) n)

  rows-length : (r n : ℕ) → length (rows_from r n) ≡ n
  rows-length r zero = refl
  rows-length r (suc n) = ap suc (rows-length (suc r) n)

  get_d_rows : (r n i : ℕ) → i < n → get_or (rows_from r n) i [] ≡ row_bytes w E t.base wide t.window (r + i)
  get_d_rows r zero i h = absurd (omega arith)
  get_d_rows r (suc n) zero h = ap (row_bytes w E t.base wide t.window) (sym (add-zero r))
  get_d_rows r (suc n) (suc i) h = get_d_rows (suc r) n i (omega arith) ∙ ap (row_bytes w E t.base wide t.window) (suc-add r i ∙ sym (add-suc r i))

  cut : (k : ℕ) (xs : List (List ℕ)) → Sized k xs → chunks (length xs) k (joined xs ++ past) ≡ xs
  cut k [] h = refl
  cut k (x ∷ xs) h =
      rw (append_assoc x (joined xs) past, take_at x (joined xs ++ past) k h.0, drop_at x (joined xs ++ past) k h.0)
      (ap (λ (l : List (List ℕ)). x ∷ l) (cut k xs h.1))

  abbrev head : List ℕ
  head = setting_bytes 2 s ++ (bytes 2 (t.base % w + 1) ++ (0 ∷ 0 ∷ (bytes 4 (t.base % 2 ^ 32) ++ zeros 80)))

  abbrev body : List ℕ
  body = joined (rows_from 0 w) ++ past

  abbrev memory : List ℕ
  memory = head ++ body

  length_head : length head ≡ 96
  unfolding setting_bytes
  length_head = refl

  length-rows : length (joined (rows_from 0 w)) ≡ w * (w + E + 4)
  unfolding stride
  length-rows = length-joined (window.stride w E) (rows_from 0 w) (rows_sized 0 w) ∙ ap (λ n. n * window.stride w E) (rows-length 0 w)

  length_memory : length memory ≡ 96 + w * (w + E + 4) + length past
  length_memory = length-append head body ∙ omega (arith, length_head, length-append (joined (rows_from 0 w)) past, length-rows)

  past_memory : drop (96 + w * (w + E + 4)) memory ≡ past
  past_memory =
      sym (drop-drop (w * (w + E + 4)) 96 memory) ∙ ap (drop (w * (w + E + 4))) (drop_at head body 96 length_head)
      ∙ drop_at (joined (rows_from 0 w)) past (w * (w + E + 4)) length-rows

  row_is : (r : ℕ) → r < w → window.row w E r memory ≡ row_bytes w E t.base wide t.window r
  unfolding header_size stride
  row_is r h =
      let k = window.stride w E in
      part-drop 96 (r * k) k memory ∙ ap (part (r * k) k) (drop_at head body 96 length_head)
      ∙ sym (get_or-chunks w k body r h) ∙ ap (λ n. get_or (chunks n k body) r []) (sym (rows-length 0 w))
      ∙ ap (λ (l : List (List ℕ)). get_or l r []) (cut k (rows_from 0 w) (rows_sized 0 w))
      ∙ get_d_rows 0 w r h ∙ ap (row_bytes w E t.base wide t.window) (zero-add r)

  setting-is : setting_in 2 memory ≡ Some s
  unfolding splice
  setting-is =
      let rest = bytes 2 (t.base % w + 1) ++ (0 ∷ 0 ∷ (bytes 4 (t.base % 2 ^ 32) ++ zeros 80)) in
      let x = setting_bytes 2 s in
      let same : splice 0 x memory ≡ memory =
      ap (λ (l : List ℕ). x ++ l) (ap (drop (length x)) (append_assoc x rest body) ∙ drop_at x (rest ++ body) (length x) refl)
      ∙ sym (append_assoc x rest body) in
      ap (setting_in 2) (sym same) ∙ setting-written 2 s memory (lit< tt) v

  row_number : row_in memory ≡ t.base % w + 1
  unfolding part setting_bytes
  row_number = let l = mod-lt t.base wide in number-bytes 2 (t.base % w + 1) (omega (arith, l, v.width_most))

  base_number : number (part 12 4 memory) ≡ t.base % 2 ^ 32
  unfolding part setting_bytes
  base_number = number-bytes 4 (t.base % 2 ^ 32) (mod-lt t.base (lit< tt))

  header_is : w ≤ length past → header_in memory ≡ Some (header_from s t)
  header_is h =
      found-joined memory s setting-is (t.base % w) (t.base % 2 ^ 32) (omega (arith, length_memory)) (mod-lt t.base wide) row_number base_number

-- The bytes of the rows that say which positions of the window from b on are heard.
abbrev origin_bytes : (w b : ℕ) → 0 < w → Origins → List ℕ
origin_bytes w b z H = tabulate (λ r. cond (H (b + index w b z r)) 1 0) w

-- A memory that holds the state and the flows, and says that these positions are heard, with these bytes past its size.
pub record Built (s : Setting) (flows : List ℕ) (t : Joined s) (H : Origins) (past : List ℕ) : Type 0 where
  pub memory : List ℕ
  pub holds : HoldsWith memory s flows (Some t)
  pub heard : (i : ℕ) → i < s.width → heard_in s.width s.size memory ((t.base + i) % s.width) ≡ H (t.base + i)
  pub same : length memory ≡ memory_size s + length past
  pub rest : drop (memory_size s) memory ≡ past

module _ (s : Setting) (v : Valid s) (t : Joined s) (H : Origins) (past : List ℕ) where
  open s use {size as E, width as w}

  abbrev bits : List ℕ
  bits = origin_bytes w t.base (wide s v t past) H

  abbrev whole : List ℕ
  whole = memory s v t (bits ++ past)

  length_bits : length bits ≡ w
  length_bits = length-tabulate _ w

  bits_past : drop (96 + w * (w + E + 4)) whole ≡ bits ++ past
  bits_past = past_memory s v t (bits ++ past)

  -- What the byte of a row says.
  says : (x : Bool) → ltb 0 (cond x 1 0) ≡ x
  says true = refl
  says false = refl

  bit_is : (i : ℕ) → i < w → heard_in w E whole ((t.base + i) % w) ≡ H (t.base + i)
  unfolding header_size stride
  bit_is i h =
      let z = wide s v t past in
      let r = (t.base + i) % w in
      let l : r < w = mod-lt (t.base + i) z in
      ap (ltb 0)
      (sym (get_or-drop (96 + w * (w + E + 4)) whole r 0) ∙ ap (λ (x : List ℕ). get_or x r 0) bits_past
      ∙ get_or-append bits past 0 r (omega (arith, length_bits, l)) ∙ get_d_tabulate _ w r l)
      ∙ says (H (t.base + index w t.base z r)) ∙ ap (λ x. H (t.base + x)) (index_is w t.base z i h)

pub built : (s : Setting) (flows : List ℕ) → Valid s → length flows ≡ 32 → (t : Joined s) → Rref t.window → (H : Origins) (past : List ℕ)
    → Built s flows t H past
unfolding header_size
built s flows v q t r H past =
    let w : ℕ = s.width in
    let x = bits s v t H past in
    let l = length_bits s v t H past in
    let m = whole s v t H past in
    let size : length m ≡ memory_size s + length past = length_memory s v t (x ++ past) ∙ omega (arith, length-append x past, l) in
    record {
      memory = splice 32 flows m;
      holds = with-flows m s flows q (Some t) (record {
        header = header_is s v t (x ++ past) (omega (arith, length-append x past, l));
        rows = record {
          reduced = r;
          rows = rows_held w s.size t.base (wide s v t past) t.window m (row_is s v t (x ++ past));
        };
      });
      heard = λ i h.
          ap (ltb 0) (get_or-past (origin_at w s.size ((t.base + i) % w)) 32 flows m (omega (arith, q)) (omega (arith, size))) ∙ bit_is s v t H past i h;
      same = length-splice 32 flows m (omega (arith, q, size)) ∙ size;
      rest = past-splice (memory_size s) 32 flows m (omega (arith, q)) (omega (arith, size))
          ∙ sym (drop-drop w (96 + w * (w + s.size + 4)) m) ∙ ap (drop w) (bits_past s v t H past) ∙ drop_at x past w l;
    }
