-- A row of working memory reduced: by the state's rows that stay, all at once, and by the packet's rows before it, one after the other.
-- A row that has been replaced: new_cell, new_line, part-row, bytes_add_scaled.
-- By the packet's rows: flag-lt, rows_apart, eliminated, packet-none, packet-more.
-- By the state's rows: zeros, length_lent, rows-added, state_none, state_some, state_empty, state_one, zero_if, state_only, no_coefficient, state_reduced.
use Rattle.std.specs.Prelude.{◌≡◌, ◌≤◌, ◌+◌, ◌<◌, ◌-◌, ◌%◌, ◌∷◌, ◌++◌, ◌≢◌}
use Rattle.words.specs.Words.{arith, ℕ, List, length, refl, ◌∙◌, sym, ap, [], suc, true, zero, get_or, false, subst}
use Rattle.words.specs.Words.{drop, take, ap₂, mod-lt, dec_lt, add-one, bit_xor, mod-add-mod, lit<, replicate, add-mod_right, xor_lt, length-take-le}
use Rattle.words.specs.Words.{get_or-take, set, ℕ_discrete, length-replicate, add-zero, mod-eq_of_lt, Bool, not, eqb, eqb-true, not-false}
use lib.Seq.{get_or-set_same, get_or-set_other}
use native.Mathlib.Decide.{dec_le}
use Rattle.field.specs.Gf256.{product}
use Rattle.field.proofs.Laws.{product_lt}
use Rattle.memory.specs.Part.{part, splice}
use Rattle.memory.specs.Number.{Bytes}
use Rattle.memory.proofs.Parts.{cut, put, length_part, get_or-part, get_or-within, splice-part, row_fits}
use Rattle.rows.specs.Rows.{add_scaled}
use Rattle.rows.specs.Combination.{coefficient}
use Rattle.rows.specs.Sums.{combined, row_at}
use Rattle.rows.proofs.Sums.{length_add_scaled, get_or_add_scaled, add_scaled_zero}
use Rattle.rows.proofs.Combinations.{length-combined}
use Rattle.decoder.specs.Bytes.{byte, Coded}
use Rattle.decoder.specs.Model.{State, Rref, axpy, at, reduce}
use Rattle.decoder.specs.Receiver.{advance_by}
use Rattle.decoder.specs.Table.{read}
use Rattle.decoder.specs.TableSteps.{add_line, add_lines}
use Rattle.decoder.specs.Chain.{eliminate}
use Rattle.decoder.proofs.Bytes.{laws, byte-zero}
use Rattle.decoder.proofs.Stretch.{remainders, line_same, line-add}
use Rattle.decoder.proofs.Combining.{stays_lines, eliminate_line}
use Rattle.table.specs.Window.{header_size, stride, row_offset, row, in_use, line, table, equation, Window, Fits}
use Rattle.table.specs.Packet.{Works, spelled, PivotMarked}
use Rattle.table.proofs.Offsets.{flags_fit}
use Rattle.gather.specs.Gather.{Only, Spans}
use Rattle.gather.specs.GatherSteps.{if_used, multiplier, Zeros, Collected, StateReduced, ZeroIf, Eliminated, PacketReduced, Staying}
use Rattle.memory.proofs.Number.{bytes-part}
use Rattle.gather.proofs.Collecting.{collected_none, collected_more}
use Rattle.gather.proofs.Framing.{only_refl, only_trans, only-splice, only_row, row_room}

-- ---- a row that has been replaced

module _ (w E k : ℕ) (x m : List ℕ) (h : row_offset w E k ≤ length m) where
  pub new_cell : (i : ℕ) → i < length x → i < stride w E → get_or (row w E k (splice (row_offset w E k) x m)) i 0 ≡ get_or x i 0
  new_cell i l g = get_or-part (row_offset w E k) (stride w E) i (splice (row_offset w E k) x m) g ∙ get_or-within (row_offset w E k) i x m l h

  pub new_line : 0 < w → length x ≡ w + E → line w E (row w E k (splice (row_offset w E k) x m)) ≡ line w E x
  new_line pos n = line_same w E pos (row w E k (splice (row_offset w E k) x m)) x (λ i l. new_cell i (omega arith) (omega (arith, flags_fit w E)))

-- The same bytes as a part of `w + E` and as a row.
pub part-row : (w E k i : ℕ) (m : List ℕ) → i < w + E → get_or (part (row_offset w E k) (w + E) m) i 0 ≡ get_or (row w E k m) i 0
part-row w E k i m h = get_or-part (row_offset w E k) (w + E) i m h ∙ sym (get_or-part (row_offset w E k) (stride w E) i m (omega (arith, flags_fit w E)))

pub bytes_add_scaled : (c : ℕ) (d s : List ℕ) → Bytes d → Bytes (add_scaled c d s)
unfolding add_scaled
bytes_add_scaled c [] s f i = lit< tt
bytes_add_scaled c (x ∷ d) [] f i = f i
bytes_add_scaled c (x ∷ d) (y ∷ s) f zero = xor_lt 8 x (product c y) (f 0) (product_lt c y)
bytes_add_scaled c (x ∷ d) (y ∷ s) f (suc i) = bytes_add_scaled c d s (λ j. f (suc j)) i

-- ---- by the packet's rows

-- The code reads the row `j` from `from` on and its flag, and the row `k` from `at` on.
module _ (w E k j at from : ℕ) (m : List ℕ) (p : at ≡ row_offset w E k) (q : from ≡ row_offset w E j) (g : Works w E k m) (h : j < k) where
  flag : get_or m (from + (w + E)) 0 ≡ get_or (row w E j m) (w + E) 0
  flag = ap (λ a. get_or m (a + (w + E)) 0) q ∙ sym (get_or-part (row_offset w E j) (stride w E) (w + E) m (omega (arith, flags_fit w E)))

  pub flag-lt : get_or m (from + (w + E)) 0 < w
  flag-lt = omega (arith, flag, g.columns j h)

  pub rows_apart : from + (w + E) ≤ at
  rows_apart = omega (arith, flags_fit w E, row_fits k (stride w E) j h)

  pub eliminated : (m' : List ℕ)
      → m' ≡ splice at (add_scaled (get_or m (at + get_or m (from + (w + E)) 0) 0) (part at (w + E) m) (part from (w + E) m)) m → Eliminated w E k j m m'
  eliminated m' s =
      let c = get_or (row w E j m) (w + E) 0 in
      let e : get_or m (at + get_or m (from + (w + E)) 0) 0 ≡ get_or (row w E k m) c 0 =
      ap (λ x. get_or m (at + x) 0) flag ∙ ap (λ a. get_or m (a + c) 0) p
      ∙ sym (get_or-part (row_offset w E k) (stride w E) c m (omega (arith, flags_fit w E, g.columns j h))) in
      s
      ∙ ap (λ y. splice at (add_scaled y (part at (w + E) m) (part from (w + E) m)) m) e
      ∙ ap (λ a. splice a (add_scaled (get_or (row w E k m) c 0) (part a (w + E) m) (part from (w + E) m)) m) p
      ∙ ap (λ a. splice (row_offset w E k) (add_scaled (get_or (row w E k m) c 0) (part (row_offset w E k) (w + E) m) (part a (w + E) m)) m) q

module _ (w E k : ℕ) (work : List ℕ) where
  pub packet-none : PacketReduced w E k 0 work work
  unfolding eliminate
  packet-none = record { only = only_refl; sum = λ b marks. refl }

  module _ (j : ℕ) (m m' : List ℕ) (h : j < k) (g : Works w E k m) (bytes : Bytes m) (f : PacketReduced w E k j work m) (s : Eliminated w E k j m m') where
    abbrev factor : ℕ
    factor = get_or (row w E k m) (get_or (row w E j m) (w + E) 0) 0

    abbrev sum : List ℕ
    sum = add_scaled factor (part (row_offset w E k) (w + E) m) (part (row_offset w E j) (w + E) m)

    room : row_offset w E k + stride w E ≤ length m
    room = row_room w E k m g

    room_j : row_offset w E j + stride w E ≤ length m
    room_j = omega (arith, room, row_fits k (stride w E) j h)

    length_k : length (part (row_offset w E k) (w + E) m) ≡ w + E
    length_k = length_part (row_offset w E k) (w + E) m (omega (arith, flags_fit w E, room))

    length_j : length (part (row_offset w E j) (w + E) m) ≡ w + E
    length_j = length_part (row_offset w E j) (w + E) m (omega (arith, flags_fit w E, room_j))

    length-sum : length sum ≡ w + E
    length-sum = length_add_scaled factor (part (row_offset w E k) (w + E) m) (part (row_offset w E j) (w + E) m) ∙ length_k

    line-sum : line w E (row w E k m') ≡ add_line (byte factor) (line w E (row w E j m)) (line w E (row w E k m))
    line-sum =
        ap (λ y. line w E (row w E k y)) s
        ∙ new_line w E k sum m (omega (arith, room)) g.some_width length-sum
        ∙ line-add w E g.some_width factor (row w E k m) (row w E j m) sum
        (bytes-part (row_offset w E k) (stride w E) m bytes) (bytes-part (row_offset w E j) (stride w E) m bytes)
        (bytes-part (row_offset w E k) (stride w E) m bytes (get_or (row w E j m) (w + E) 0))
        (λ i l.
        get_or_add_scaled factor (part (row_offset w E k) (w + E) m) (part (row_offset w E j) (w + E) m) i (omega (arith, length_k)) (omega (arith, length_j))
        ∙ ap₂ (λ x y. bit_xor x (product factor y)) (part-row w E k i m l) (part-row w E j i m l))

    same_row : row w E j m ≡ row w E j work
    same_row = only_row w E k j (row_offset w E k + (w + E)) work m f.only (omega (arith, flags_fit w E)) (omega arith)

    module _ (b : ℕ) (marks : (i : ℕ) → i < k → PivotMarked w E b (row w E i work)) where
      mark : PivotMarked w E b (row w E j m)
      mark = subst (PivotMarked w E b) (sym same_row) (marks j h)

      next : spelled w E b m' k ≡ axpy (Coded E) w (at (Coded E) w (spelled w E b work j) (spelled w E b m k)) (spelled w E b work j) (spelled w E b m k)
      next =
          ap (λ z. read z w b) line-sum
          ∙ ap (λ c. read (add_line (byte (get_or (row w E k m) c 0)) (line w E (row w E j m)) (line w E (row w E k m))) w b) mark.column
          ∙ eliminate_line (laws E (omega (arith, g.some_symbol))) w b mark.position mark.from mark.before
          (line w E (row w E j m)) (line w E (row w E k m)) mark.leads
          ∙ ap (λ r. axpy (Coded E) w (at (Coded E) w (equation w E b r) (spelled w E b m k)) (equation w E b r) (spelled w E b m k)) same_row

      all : spelled w E b m' k ≡ eliminate (Coded E) w (spelled w E b work) (suc j) (spelled w E b work k)
      unfolding eliminate
      all =
          next
          ∙ ap (λ d. axpy (Coded E) w (at (Coded E) w (spelled w E b work j) d) (spelled w E b work j) d) (f.sum b marks)

    pub packet-more : PacketReduced w E k (j + 1) work m'
    packet-more = record {
      only =
          only_trans f.only
          (subst (Only (row_offset w E k) (row_offset w E k + (w + E)) m) (sym s)
          (only-splice (row_offset w E k) (row_offset w E k + (w + E)) (row_offset w E k) sum m (omega arith) (omega (arith, length-sum))
          (omega (arith, flags_fit w E, room))));
      sum = λ b marks. all b marks ∙ ap (λ i. eliminate (Coded E) w (spelled w E b work) i (spelled w E b work k)) (sym (add-one j));
    }

-- ---- by the state's rows

-- Rows with no multiplier, and with one.
combined-zeros : (cs : List ℕ) (row : ℕ → List ℕ) (n : ℕ) (d : List ℕ) → ((j : ℕ) → j < n → get_or cs j 0 ≡ 0) → combined (coefficient cs) row n d ≡ d
unfolding combined
combined-zeros cs row zero d z = refl
combined-zeros cs row (suc n) d z =
    ap (λ c. add_scaled c (combined (coefficient cs) row n d) (row n)) (z n (omega arith))
    ∙ add_scaled_zero (combined (coefficient cs) row n d) (row n)
    ∙ combined-zeros cs row n d (λ j h. z j (omega arith))

combined_alone : (cs : List ℕ) (row : ℕ → List ℕ) (c n : ℕ) (d : List ℕ) → c < n → ((j : ℕ) → j < n → j ≢ c → get_or cs j 0 ≡ 0)
    → combined (coefficient cs) row n d ≡ add_scaled (get_or cs c 0) d (row c)
unfolding combined
combined_alone cs row c zero d h z = absurd (omega arith)
combined_alone cs row c (suc n) d h z = go (ℕ_discrete n c) (λ l. combined_alone cs row c n d l (λ j g. z j (omega arith)))
  where
    go : Dec (n ≡ c) → (c < n → combined (coefficient cs) row n d ≡ add_scaled (get_or cs c 0) d (row c))
        → add_scaled (get_or cs n 0) (combined (coefficient cs) row n d) (row n) ≡ add_scaled (get_or cs c 0) d (row c)
    go (yes e) before =
        ap (λ x. add_scaled (get_or cs n 0) x (row n)) (combined-zeros cs row n d (λ j g. z j (omega arith) (omega arith)))
        ∙ ap (λ i. add_scaled (get_or cs i 0) d (row i)) e
    go (no e) before =
        ap (λ x. add_scaled x (combined (coefficient cs) row n d) (row n)) (z n (omega arith) e)
        ∙ add_scaled_zero (combined (coefficient cs) row n d) (row n)
        ∙ before (omega arith)

-- Room for the multipliers.
pub zeros : (n : ℕ) → Zeros (replicate n 0)
zeros zero i = refl
zeros (suc n) zero = refl
zeros (suc n) (suc i) = zeros n i

-- A part of a memory that is lent, and the sum that comes back.
pub length_lent : (a n : ℕ) (m : List ℕ) → a + n ≤ length m → length (take (a + n - a) (drop a m)) ≡ n
length_lent a n m h = ap length (cut a n m) ∙ length_part a n m h

module _ (w E k a b s : ℕ) (m work cs x : List ℕ) where
  abbrev lent : List ℕ
  lent = take (a + (w + E) - a) (drop a work)

  abbrev summed : (b s l n : ℕ) → List ℕ → List ℕ
  summed b s l n d = combined (coefficient (take w cs)) (row_at m b s l) n d

  pub rows-added : a ≡ row_offset w E k → b ≡ header_size → s ≡ stride w E → a + (w + E) ≤ length work → w ≤ length cs
      → x ≡ summed b s (length lent) (length (take w cs)) lent → length x ≡ length lent
      → take a work ++ (x ++ drop (a + (w + E) - a) (drop a work))
      ≡ splice (row_offset w E k) (summed header_size (stride w E) (w + E) w (part (row_offset w E k) (w + E) work)) work
  rows-added here first each room h e n =
      put a (w + E) x work room n
      ∙ ap (λ y. splice a y work)
      (e ∙ ap₂ (λ b s. summed b s (length lent) (length (take w cs)) lent) first each
      ∙ ap₂ (λ l n. summed header_size (stride w E) l n lent) (length_lent a (w + E) work room) (length-take-le w cs h)
      ∙ ap (summed header_size (stride w E) (w + E) w) (cut a (w + E) work))
      ∙ ap (λ y. splice y (summed header_size (stride w E) (w + E) w (part y (w + E) work)) work) here

-- What `collect` has read is the row.
module _ (w E k first n at : ℕ) (any : Bool) (m work cs cs' : List ℕ) (here : at ≡ row_offset w E k) (g : Works w E k work) (zeros : Zeros cs)
    (f : Collected w E first n any m (part at w work) cs cs') where
  same : (c : ℕ) → c < w → multiplier w E c m (part at w work) ≡ multiplier w E c m (row w E k work)
  same c h =
      ap (if_used (in_use w E (row w E c m)))
      (get_or-part at w c work h ∙ ap (λ a. get_or work (a + c) 0) here ∙ sym (get_or-part (row_offset w E k) (stride w E) c work (omega (arith, flags_fit w E))))

  inside : (i : ℕ) → (first + i) % w < w
  inside i = mod-lt (first + i) g.some_width

  pub state_none : any ≡ false → StateReduced w E k first n m work work
  state_none z = record {
    multipliers = [];
    small = λ i. lit< tt;
    on = λ i h. sym (f.none z i h) ∙ same ((first + i) % w) (inside i);
    off = λ j h d. refl;
    sum =
        sym (splice-part (row_offset w E k) (w + E) work (omega (arith, flags_fit w E, row_room w E k work g)))
        ∙ ap (λ x. splice (row_offset w E k) x work)
        (sym (combined-zeros [] (row_at m header_size (stride w E) (w + E)) w (part (row_offset w E k) (w + E) work) (λ j h. refl)));
  }

  pub state_some : (work' : List ℕ)
      → work' ≡ splice (row_offset w E k) (combined (coefficient (take w cs')) (row_at m header_size (stride w E) (w + E)) w
      (part (row_offset w E k) (w + E) work)) work
      → StateReduced w E k first n m work work'
  unfolding part
  state_some work' s = record {
    multipliers = take w cs';
    small = bytes-part 0 w cs' f.small;
    on = λ i h. get_or-take w cs' ((first + i) % w) 0 (inside i) ∙ f.on i h ∙ same ((first + i) % w) (inside i);
    off = λ j h d. get_or-take w cs' j 0 h ∙ f.off j d ∙ zeros j;
    sum = s;
  }

-- No column, and one: the code adds the state's row from `from` on times `v`.
pub state_empty : (w E k first : ℕ) (m work : List ℕ) → Works w E k work → StateReduced w E k first 0 m work work
state_empty w E k first m work g =
    state_none w E k first 0 (row_offset w E k) false m work [] [] refl g (λ i. refl)
    (collected_none w E first m (part (row_offset w E k) w work) [] (λ i. lit< tt)) refl

pub state_one : (w E k c v at from : ℕ) (m work work' : List ℕ) → at ≡ row_offset w E k → from ≡ row_offset w E c → Works w E k work → c < w → v < 256
    → v ≡ if_used (in_use w E (row w E c m)) (get_or work (at + c) 0)
    → work' ≡ splice at (add_scaled v (part at (w + E) work) (part from (w + E) m)) work → StateReduced w E k c 1 m work work'
unfolding row_at
state_one w E k c v at from m work work' here there g h byte q s =
    let none : List ℕ = replicate w 0 in
    let cs : List ℕ = set none c v in
    let size : length none ≡ w = length-replicate w 0 in
    let column : c ≡ (c + 0) % w = sym (ap (λ x. x % w) (add-zero c) ∙ mod-eq_of_lt h) in
    let on : get_or (take w cs) c 0 ≡ v = get_or-take w cs c 0 h ∙ get_or-set_same none c v 0 (omega arith) in
    let off : (j : ℕ) → j < w → j ≢ c → get_or (take w cs) j 0 ≡ 0 = (λ j l x. get_or-take w cs j 0 l ∙ get_or-set_other none c j v 0 x ∙ zeros w j) in
    state_some w E k c 1 at (not (eqb v 0)) m work none cs here g (zeros w)
    (collected_more w E c m (part at w work) 0 c v false none none (omega arith) (omega arith) byte column
    (q ∙ ap (if_used (in_use w E (row w E c m))) (sym (get_or-part at w c work h)))
    (collected_none w E c m (part at w work) none (λ i. rw (zeros w i) (lit< tt)))) work'
    (s
    ∙ ap₂ (λ a b. splice a (add_scaled v (part a (w + E) work) (part b (w + E) m)) work) here there
    ∙ ap (λ x. splice (row_offset w E k) (add_scaled x (part (row_offset w E k) (w + E) work) (part (row_offset w E c) (w + E) m)) work) (sym on)
    ∙ ap (λ x. splice (row_offset w E k) x work)
    (sym (combined_alone (take w cs) (row_at m header_size (stride w E) (w + E)) c w (part (row_offset w E k) (w + E) work) h off)))

-- The code reads the row from `at` on.
pub zero_if : (w E k any at : ℕ) (work : List ℕ) → at ≡ row_offset w E k → (any ≡ 0 → (i : ℕ) → i < w + E → get_or work (at + i) 0 ≡ 0)
    → ZeroIf w E k (not (eqb any 0)) work
zero_if w E k any at work here f z i h = ap (λ a. get_or work (a + i) 0) (sym here) ∙ f (eqb-true any 0 (not-false _ z)) i h

-- The sum of the rows as lines.
module _ (w E : ℕ) (m : List ℕ) (fits : Fits w E m) (bytes : Bytes m) where
  length_state : (r : ℕ) → r < w → length (row_at m header_size (stride w E) (w + E) r) ≡ w + E
  unfolding row_at
  length_state r h = length_part (row_offset w E r) (w + E) m (omega (arith, flags_fit w E, fits.room, row_fits w (stride w E) r h))

  state_cell : (r i : ℕ) → i < w + E → get_or (row_at m header_size (stride w E) (w + E) r) i 0 ≡ get_or (row w E r m) i 0
  unfolding row_at
  state_cell r i h = part-row w E r i m h

  bytes-combined : (cs : List ℕ) (n : ℕ) (d : List ℕ) → Bytes d → Bytes (combined (coefficient cs) (row_at m header_size (stride w E) (w + E)) n d)
  unfolding combined
  bytes-combined cs zero d f = f
  bytes-combined cs (suc n) d f =
      bytes_add_scaled (get_or cs n 0) (combined (coefficient cs) (row_at m header_size (stride w E) (w + E)) n d) (row_at m header_size (stride w E) (w + E) n)
      (bytes-combined cs n d f)

  combined-line : (cs : List ℕ) → Bytes cs → (n : ℕ) → n ≤ w → (d : List ℕ) → Bytes d → length d ≡ w + E
      → line w E (combined (coefficient cs) (row_at m header_size (stride w E) (w + E)) n d)
      ≡ add_lines (λ r. byte (get_or cs r 0)) (λ r. line w E (row w E r m)) n (line w E d)
  unfolding combined add_lines
  combined-line cs small zero h d f n = refl
  combined-line cs small (suc k) h d f n =
      let x = combined (coefficient cs) (row_at m header_size (stride w E) (w + E)) k d in
      let y = row_at m header_size (stride w E) (w + E) k in
      let lx : length x ≡ w + E = length-combined (row_at m header_size (stride w E) (w + E)) (coefficient cs) k d ∙ n in
      line-add w E fits.some_width (get_or cs k 0) x (row w E k m) (add_scaled (get_or cs k 0) x y) (bytes-combined cs k d f)
      (bytes-part (row_offset w E k) (stride w E) m bytes) (small k)
      (λ i l.
      get_or_add_scaled (get_or cs k 0) x y i (omega arith) (omega (arith, length_state k (omega arith)))
      ∙ ap (λ z. bit_xor (get_or x i 0) (product (get_or cs k 0) z)) (state_cell k i l))
      ∙ ap (add_line (byte (get_or cs k 0)) (line w E (row w E k m))) (combined-line cs small k (omega arith) d f n)

-- The row with the rows of the state added.
module _ (w E k first n : ℕ) (m work work' : List ℕ) (g : Works w E k work) (f : StateReduced w E k first n m work work') where
  abbrev before : List ℕ
  before = part (row_offset w E k) (w + E) work

  length_before : length before ≡ w + E
  length_before = length_part (row_offset w E k) (w + E) work (omega (arith, flags_fit w E, row_room w E k work g))

  abbrev after : List ℕ
  after = combined (coefficient f.multipliers) (row_at m header_size (stride w E) (w + E)) w before

  length-after : length after ≡ w + E
  length-after = length-combined (row_at m header_size (stride w E) (w + E)) (coefficient f.multipliers) w before ∙ length_before

  pub state_only : Only (row_offset w E k) (row_offset w E k + (w + E)) work work'
  state_only =
      subst (Only (row_offset w E k) (row_offset w E k + (w + E)) work) (sym f.sum)
      (only-splice (row_offset w E k) (row_offset w E k + (w + E)) (row_offset w E k) after work (omega arith) (omega (arith, length-after))
      (omega (arith, flags_fit w E, row_room w E k work g)))

  state_line : Fits w E m → Bytes m → Bytes work
      → line w E (row w E k work') ≡ add_lines (λ r. byte (get_or f.multipliers r 0)) (λ r. line w E (row w E r m)) w (line w E (row w E k work))
  state_line fits bytes small =
      ap (λ x. line w E (row w E k x)) f.sum
      ∙ new_line w E k after work (omega (arith, row_room w E k work g)) fits.some_width length-after
      ∙ combined-line w E m fits bytes f.multipliers f.small w (omega arith) before (bytes-part (row_offset w E k) (w + E) work small) length_before
      ∙ ap (add_lines (λ r. byte (get_or f.multipliers r 0)) (λ r. line w E (row w E r m)) w)
      (line_same w E fits.some_width before (row w E k work) (λ i l. part-row w E k i work l))

-- Where the coefficients of the rows that stay are the multipliers, that reduces it by the system moved on.
module _ (w E k first n oldest count stay : ℕ) (m work work' : List ℕ) (fits : Fits w E m) (bytes : Bytes m) (g : Works w E k work) (small : Bytes work)
    (f : StateReduced w E k first n m work work') (near : Staying w oldest first count stay n) where
  -- The window from `b + rise` on, in which the coefficients stand at the positions from the `d`th on.
  module _ (b rise d : ℕ) (S : State (Coded E) w) (here : (b + rise) % w ≡ oldest) (stays : stay ≡ w - rise) (from : (b + rise + d) % w ≡ first)
      (room : d + count ≤ w) (held : Window w E m b S) (rref : Rref S) (spans : Spans w first count (row w E k work)) where
    -- The column of the `i`th position, and of the `t`th coefficient.
    column : (t : ℕ) → (first + t) % w ≡ (b + rise + (d + t)) % w
    column t =
        let e : b + rise + d + t ≡ b + rise + (d + t) = omega arith in
        ap (λ c. (c + t) % w) (sym from) ∙ mod-add-mod (b + rise + d) w t ∙ ap (λ c. c % w) e

    distance : (t : ℕ) → t < count → near.distance ≡ d
    distance t h =
        let e : (b + rise + near.distance) % w ≡ (b + rise + d) % w =
        sym (mod-add-mod (b + rise) w near.distance) ∙ ap (λ c. (c + near.distance) % w) here ∙ near.column ∙ sym from in
        let s = remainders w (b + rise) (b + rise + near.distance) (b + rise + d) (omega arith) (omega (arith, near.near)) (omega arith) (omega arith) e in
        omega arith

    apart : (i t : ℕ) → i < w → t < count → d + t ≢ i → (first + t) % w ≢ (b + rise + i) % w
    apart i t h l x e =
        let s = remainders w (b + rise) (b + rise + (d + t)) (b + rise + i) (omega arith) (omega arith) (omega arith) (omega arith) (sym (column t) ∙ e) in
        x (omega arith)

    -- No coefficient stands at this position.
    no_multiplier : (i : ℕ) → i < w → ((t : ℕ) → t < n → d + t ≢ i) → get_or f.multipliers ((b + rise + i) % w) 0 ≡ 0
    no_multiplier i h x =
        f.off ((b + rise + i) % w) (mod-lt (b + rise + i) fits.some_width) (λ t l. apart i t h (omega (arith, near.few)) (x t l))

    pub no_coefficient : (i : ℕ) → i < w → ((t : ℕ) → t < count → d + t ≢ i) → get_or (row w E k work) ((b + rise + i) % w) 0 ≡ 0
    no_coefficient i h x = spans ((b + rise + i) % w) (mod-lt (b + rise + i) fits.some_width) (λ t l. apart i t h l (x t l))

    -- A position that stays.
    taken : (i : ℕ) → i < stay → i < w → d ≤ i → i < d + count
        → get_or f.multipliers ((b + rise + i) % w) 0 ≡ multiplier w E ((b + rise + i) % w) m (row w E k work)
    taken i s h l u =
        let e : d + (i - d) ≡ i = omega arith in
        let c : (first + (i - d)) % w ≡ (b + rise + i) % w = column (i - d) ∙ ap (λ x. (b + rise + x) % w) e in
        let t : i - d < n = near.all (i - d) (omega arith) (omega (arith, distance (i - d) (omega arith))) in
        subst (λ x. get_or f.multipliers x 0 ≡ multiplier w E x m (row w E k work)) c (f.on (i - d) t)

    used : (i : ℕ) → i < stay → i < w → in_use w E (row w E ((b + rise + i) % w) m) ≡ true → Dec (d ≤ i) → Dec (i < d + count)
        → get_or f.multipliers ((b + rise + i) % w) 0 ≡ get_or (row w E k work) ((b + rise + i) % w) 0
    used i s h t (yes x) (yes y) = taken i s h x y ∙ ap (λ v. if_used v (get_or (row w E k work) ((b + rise + i) % w) 0)) t
    used i s h t (yes x) (no y) =
        no_multiplier i h (λ u l. omega (arith, near.few)) ∙ sym (no_coefficient i h (λ u l. omega arith))
    used i s h t (no x) y =
        no_multiplier i h (λ u l. omega (arith, near.few)) ∙ sym (no_coefficient i h (λ u l. omega arith))

    unused : (i : ℕ) → i < stay → i < w → in_use w E (row w E ((b + rise + i) % w) m) ≡ false → Dec (d ≤ i) → Dec (i < d + count)
        → get_or f.multipliers ((b + rise + i) % w) 0 ≡ 0
    unused i s h t (yes x) (yes y) = taken i s h x y ∙ ap (λ v. if_used v (get_or (row w E k work) ((b + rise + i) % w) 0)) t
    unused i s h t (yes x) (no y) = no_multiplier i h (λ u l. omega (arith, near.few))
    unused i s h t (no x) y = no_multiplier i h (λ u l. omega (arith, near.few))

    -- A position that joins.
    joins : (i : ℕ) → stay ≤ i → i < w → get_or f.multipliers ((b + rise + i) % w) 0 ≡ 0
    joins i s h = no_multiplier i h (λ t l. let e = distance t (omega (arith, near.few)) in omega (arith, near.stays t l))

    -- By its distance from the base.
    at_position : (P : ℕ → Type 0) (p : ℕ) → b + rise ≤ p → P ((b + rise + (p - (b + rise))) % w) → P (p % w)
    at_position P p h = let e : b + rise + (p - (b + rise)) ≡ p = omega arith in subst (λ x. P (x % w)) e

    pub state_reduced : spelled w E (b + rise) work' k ≡ reduce (advance_by rise S) (spelled w E (b + rise) work k)
    state_reduced =
        let T = table w E m in
        let L = laws E (omega (arith, fits.some_symbol)) in
        ap (λ z. read z w (b + rise)) (state_line w E k first n m work work' g f fits bytes small)
        ∙ stays_lines L T b w (subst Rref (sym held.reads) rref) (λ r. line w E (row w E r m)) (λ p. refl)
        (λ r. byte (get_or f.multipliers r 0)) (line w E (row w E k work))
        (λ q j. ap (λ c. byte (get_or (row w E (q % w) m) c 0)) (add-mod_right j w)) held.echelon rise
        (λ p l u t.
        ap byte
        (at_position (λ c. in_use w E (row w E c m) ≡ true → get_or f.multipliers c 0 ≡ get_or (row w E k work) c 0) p l
        (λ v. used (p - (b + rise)) (omega arith) (omega arith) v (dec_le d (p - (b + rise))) (dec_lt (p - (b + rise)) (d + count))) t))
        (λ p l u t.
        byte-zero _
        (at_position (λ c. in_use w E (row w E c m) ≡ false → get_or f.multipliers c 0 ≡ 0) p l
        (λ v. unused (p - (b + rise)) (omega arith) (omega arith) v (dec_le d (p - (b + rise))) (dec_lt (p - (b + rise)) (d + count))) t))
        (λ p l u v. byte-zero _ (at_position (λ c. get_or f.multipliers c 0 ≡ 0) p l (joins (p - (b + rise)) (omega arith) (omega arith))))
        ∙ ap (λ X. reduce (advance_by rise X) (spelled w E (b + rise) work k)) held.reads
