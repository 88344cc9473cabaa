-- A packet's equation laid in the first row of working memory, and what becomes of it.
-- A row: lagranges-length, first-row, work_room; laid_only, laid_works, laid_row. What was admitted: admitted_as, inserted_kept, inserted_implied, inserted_contradicts.
-- With the origins: took_news, took_contradicts, inserted_as, updated_as, took_as.
use Rattle.std.specs.Prelude.{◌≡◌, ◌≤◌, ◌+◌, ◌<◌, ◌%◌, ◌∷◌, ◌-◌, Result, Ok, Err}
use Rattle.words.specs.Words.{arith, ℕ, length, List, refl, ◌∙◌, sym, ap, ap₂, [], Some, None, suc, zero, get_or, subst, Option}
use Rattle.words.specs.Words.{drop, zero-mul, zero-add, add-zero, add-suc, suc-add, mod-eq_of_lt, get_or-drop}
use native.Mathlib.Nat.{zero-mod}
use mathlib.Core.Path.{subst₂}
use Rattle.memory.specs.Part.{splice}
use Rattle.memory.proofs.Parts.{get_or-part, get_or-within, get_or-before}
use Rattle.rows.proofs.Combinations.{length-tabulate}
use Rattle.decoder.specs.Tuples.{Byte}
use Rattle.decoder.specs.Bytes.{byte, Coded}
use Rattle.decoder.specs.Model.{Row, State, Rref, insert, known}
use Rattle.decoder.specs.Receiver.{and_then, is_new, count_new, advance_by, insert_all, newly}
use Rattle.decoder.specs.Chain.{place_rows}
use Rattle.decoder.specs.Table.{Line, read}
use Rattle.table.specs.Window.{header_size, stride, row_offset, row, line, Window}
use Rattle.table.specs.Packet.{Works}
use Rattle.table.proofs.Rows.{kept_refl}
use Rattle.table.proofs.Offsets.{flags_fit}
use Rattle.gather.specs.Gather.{Only, Spans, Admitted, Agrees, count_kept}
use Rattle.gather.specs.declared.Verdict.{Verdict}
use Rattle.gather.proofs.Framing.{only_trans, only_wider, only-splice, works_only, row_room}
use Rattle.gather.proofs.Admitting.{gathered_none}
use Rattle.placing.specs.Place.{Committed}
use Rattle.origins.specs.Steps.{Updated}
use Rattle.origins.proofs.Hearing.{hears_same, origins-window, only-take}
use Rattle.history.specs.Symbol.{Symbol}
use Rattle.history.specs.History.{memory_size}
use Rattle.history.specs.Model.{Origins, bringing}
use Rattle.holding.proofs.Headers.{memory_is}
use Rattle.admission.proofs.Gathering.{stored-only, stored_is, contained_from}
use Rattle.interpolation.specs.Lagrange.{lagrange, lagranges}
use Rattle.recovery.specs.Block.{Packet}
use Rattle.recovery.specs.Model.{equation_of}
use Rattle.blocks.specs.declared.Block.{Block}
use Rattle.blocks.specs.Block.{setting_for}
use Rattle.wire.specs.declared.Refusal.TheVariants as refusals
use Rattle.block_receiver.specs.Inner.{shape_of, row_with, first_row, Joins, Inserted, Ready, Took}
use Rattle.table.specs.declared.Shape.{Shape}
use Rattle.origins.specs.Origins as origins
use Rattle.decoder.specs.Packets as packets
use Rattle.gather.specs.declared.Verdict.TheVariants as verdict
use Rattle.wire.specs.declared.Refusal.{Refusal}

pub lagranges-length : (k j : ℕ) → length (lagranges k j) ≡ k
unfolding lagranges
lagranges-length k j = length-tabulate (λ i. lagrange k i j) k

-- The first row begins past the header.
pub first-row : (k E : ℕ) → row_offset k E 0 ≡ 96
unfolding header_size
first-row k E = ap (λ n. 96 + n) (zero-mul (stride k E))

-- Working memory has room for it.
pub work_room : (k E : ℕ) (v : List ℕ) → Works k E 0 v → 96 + (k + E) ≤ length v
work_room k E v g = omega (arith, row_room k E 0 v g, first-row k E, flags_fit k E)

-- ---- A row

-- The row that a line holds, cell by cell.
read-row : (E : ℕ) (e : Line (Coded E)) (n q : ℕ) (c : ℕ → Byte) (s : Symbol E) → ((i : ℕ) → i < n → e.cells (q + i) ≡ c i) → e.sym ≡ s
    → read e n q ≡ packets.row (Coded E) n c s
unfolding read packets.row
read-row E e zero q c s h z = z
read-row E e (suc n) q c s h z =
    ap₂ (λ (a : Byte) (r : Row (Coded E) n). (a, r)) (ap e.cells (sym (add-zero q)) ∙ h 0 (omega arith))
    (read-row E e n (suc q) (λ i. c (suc i)) s (λ i l. ap e.cells (suc-add q i ∙ sym (add-suc q i)) ∙ h (suc i) (omega arith)) z)

module _ (E k : ℕ) (p : Packet) (v : List ℕ) (g : Works k E 0 v) (size : length p.symbol ≡ E) where
  abbrev cs : List ℕ
  cs = lagranges k p.esi

  -- The coefficients are laid, and then the symbol.
  abbrev half : List ℕ
  half = splice 96 cs v

  abbrev laid : List ℕ
  laid = row_with k p.esi p.symbol v

  half_only : Only (row_offset k E 0) (row_offset k E 0 + stride k E) v half
  half_only =
      only-splice (row_offset k E 0) (row_offset k E 0 + stride k E) 96 cs v (omega (arith, first-row k E))
      (omega (arith, lagranges-length k p.esi, first-row k E, flags_fit k E)) (row_room k E 0 v g)

  half_works : Works k E 0 half
  half_works = works_only (omega arith) half_only g

  stored : laid ≡ splice (row_offset k E 0 + k) p.symbol half
  unfolding row_with
  stored = ap (λ n. splice (n + k) p.symbol half) (sym (first-row k E))

  pub laid_only : Only (row_offset k E 0) (row_offset k E 0 + stride k E) v laid
  laid_only = only_trans half_only (stored-only k E 0 p.symbol half laid half_works size stored)

  pub laid_works : Works k E 0 laid
  laid_works = works_only (omega arith) laid_only g

  cell : (i : ℕ) → i < k → get_or (row k E 0 laid) i 0 ≡ get_or cs i 0
  unfolding row_with
  cell i h =
      get_or-part (row_offset k E 0) (stride k E) i laid (omega (arith, flags_fit k E)) ∙ ap (λ n. get_or laid (n + i) 0) (first-row k E)
      ∙ get_or-before (96 + i) (96 + k) p.symbol half (omega arith) (omega (arith, half_only.size, work_room k E v g))
      ∙ get_or-within 96 i cs v (omega (arith, lagranges-length k p.esi)) (omega (arith, work_room k E v g))

  -- It spells the packet's equation.
  pub laid_row : first_row k E laid ≡ equation_of E k p
  laid_row =
      read-row E (line k E (row k E 0 laid)) k 0 _ _
      (λ i h. ap (λ n. byte (get_or (row k E 0 laid) (n % k) 0)) (zero-add i) ∙ ap (λ n. byte (get_or (row k E 0 laid) n 0)) (mod-eq_of_lt h) ∙ ap byte (cell i h))
      (stored_is k E 0 p.symbol half laid half_works size stored)

-- ---- What was admitted

-- One equation alone.
alone : {A : Type 0} (o : Option A) → and_then o (λ s. Some s) ≡ o
alone None = refl
alone (Some a) = refl

insert_one : (E k : ℕ) (S : State (Coded E) k) (e : Row (Coded E) k) → insert_all (e ∷ []) S ≡ insert S e
unfolding insert_all
insert_one E k S e = alone (insert S e)

-- What was known is not new.
nothing_new : {A : Type 0} (m : ℕ) (f g : ℕ → Option A) → ((i : ℕ) → f i ≡ g i) → count_new m f g ≡ 0
unfolding count_new is_new
nothing_new zero f g e = refl
nothing_new (suc m) f g e =
    ap₂ ◌+◌ (ap (λ o. is_new o (g 0)) (e 0) ∙ old (g 0)) (nothing_new m (λ i. f (suc i)) (λ i. g (suc i)) (λ i. e (suc i)))
  where
    old : {A : Type 0} (o : Option A) → is_new o o ≡ 0
    old None = refl
    old (Some a) = refl

spans : (k : ℕ) (l : List ℕ) → Spans k 0 k l
spans k l j h n = absurd (n j h (ap (λ i. i % k) (zero-add j) ∙ mod-eq_of_lt h))

module _ (k E : ℕ) (m v v' : List ℕ) (g : Works k E 0 v) where
  module _ (x : Verdict) (a : Admitted k E 0 k 0 0 k x m v v') where
    row-only : Only (row_offset k E 0) (row_offset k E 0 + stride k E) v v'
    row-only = only_wider (row_offset k E 0 + (k + E + 1)) (row_offset k E 0 + stride k E) (omega (arith, flags_fit k E)) a.only

    agreed : (S : State (Coded E) k) → Window k E m 0 S → Rref S → Agrees k E 0 S v' 0 (first_row k E v ∷ []) x
    unfolding advance_by
    agreed S held reduced =
        a.outcome 0 0 0 S [] (zero-mod k) (omega arith) (zero-mod k) g.some_width (omega arith) held reduced (spans k (row k E 0 v))
        (gathered_none k E 0 S v (omega (arith, g.some_symbol)))

  pub inserted_kept : (n : ℕ) (m' : List ℕ) → Admitted k E 0 k 0 0 k verdict.Kept m v v' → Committed k E 0 0 1 n v' m m' → Inserted k E m m' v v' (Some n)
  unfolding advance_by
  inserted_kept n m' a c = record {
    kept = c.unchanged;
    only = row-only verdict.Kept a;
    left = omega (arith, c.most);
    outcome = outcome;
  }
    where
      outcome : (S : State (Coded E) k) → Window k E m 0 S → Rref S → Joins k E (first_row k E v) S m' (Some n)
      outcome S held reduced =
          let (T, i, w, q) = c.outcome 0 S (first_row k E v ∷ []) (zero-mod k) held reduced (agreed verdict.Kept a S held reduced) in
          (T, sym (insert_one E k S (first_row k E v)) ∙ i, w, q)

  pub inserted_implied : Admitted k E 0 k 0 0 k verdict.Implied m v v' → Inserted k E m m v v' (Some 0)
  unfolding place_rows newly
  inserted_implied a = record {
    kept = kept_refl;
    only = row-only verdict.Implied a;
    left = omega arith;
    outcome = λ S held reduced. (
      S,
      sym (insert_one E k S (first_row k E v)) ∙ (agreed verdict.Implied a S held reduced).inserted,
      held,
      sym (nothing_new k (known S) _ (λ i. ap (known S) (sym (zero-add i)))),
    );
  }

  pub inserted_contradicts : Admitted k E 0 k 0 0 k verdict.Contradiction m v v' → Inserted k E m m v v' None
  inserted_contradicts a = record {
    kept = kept_refl;
    only = row-only verdict.Contradiction a;
    left = refl;
    outcome = λ S held reduced. sym (insert_one E k S (first_row k E v)) ∙ agreed verdict.Contradiction a S held reduced;
  }

-- The same with the shape's base and the verdict as the code has them.
pub admitted_as : {k E o : ℕ} {x y : Verdict} {m v v' : List ℕ} → o ≡ 0 → x ≡ y → Admitted k E o k 0 0 k x m v v' → Admitted k E 0 k 0 0 k y m v v'
admitted_as {k} {E} {m = m} {v} {v'} p q a = subst₂ (λ (o : ℕ) (y : Verdict). Admitted k E o k 0 0 k y m v v') p q a

pub works_as : {k E : ℕ} {x y : Verdict} {v : List ℕ} → x ≡ y → Works k E (count_kept 0 x) v → Works k E (count_kept 0 y) v
works_as {k} {E} {v = v} q a = subst (λ (y : Verdict). Works k E (count_kept 0 y) v) q a

pub committed_as : {k E o n : ℕ} {v m m' : List ℕ} → o ≡ 0 → Committed k E o 0 1 n v m m' → Committed k E 0 0 1 n v m m'
committed_as {k} {E} {n = n} {v} {m} {m'} p c = subst (λ (o : ℕ). Committed k E o 0 1 n v m m') p c

-- ---- With the origins

-- What is past the rows is as it was.
same_past : (a : ℕ) (m m' : List ℕ) → drop a m' ≡ drop a m → (i : ℕ) → a ≤ i → get_or m' i 0 ≡ get_or m i 0
same_past a m m' e i h =
    let j : a + (i - a) ≡ i = omega arith in
    ap (λ x. get_or m' x 0) (sym j) ∙ sym (get_or-drop a m' (i - a) 0) ∙ ap (λ l. get_or l (i - a) 0) e ∙ get_or-drop a m (i - a) 0 ∙ ap (λ x. get_or m x 0) j

module _ (b : Block) (m m₁ v v' : List ℕ) (g : Ready b m v) where
  abbrev k : ℕ
  k = b.k

  abbrev E : ℕ
  E = b.size

  pub took_news : (first own n : ℕ) (m' : List ℕ) → Inserted k E m m₁ v v' (Some n) → Updated k E 0 k first own m₁ m' → Took b first own m m' v v' (Ok (n, 0))
  took_news first own n m' i u = record {
    memory = contained_from (memory_size (setting_for b)) m m' (u.only.size ∙ i.kept.size)
        (λ j l. u.only.past j (omega (arith, memory_is (setting_for b))) ∙ same_past (row_offset k E k) m m₁ i.kept.past j (omega (arith, memory_is (setting_for b))));
    header = only-take u.only header_size (omega arith) ∙ i.kept.header;
    only = i.only;
    answer = (i.left, refl, outcome, λ H h. heard H (u.hears 0 0 H (zero-mod k) (omega arith) (hears_same k E 0 m m₁ H pos past h)));
  }
    where
      pos : 0 < k
      pos = g.fits.some_width

      heard : (H : Origins) → origins.Hears k E 0 m' (bringing (0 + first) own H) → origins.Hears k E 0 m' (bringing first own H)
      heard H h = subst (λ x. origins.Hears k E 0 m' (bringing x own H)) (zero-add first) h

      past : (j : ℕ) → row_offset k E k ≤ j → get_or m₁ j 0 ≡ get_or m j 0
      past = same_past (row_offset k E k) m m₁ i.kept.past

      outcome : (S : State (Coded E) k) → Window k E m 0 S → Rref S → Joins k E (first_row k E v) S m' (Some n)
      outcome S held reduced =
          let (T, e, w, q) = i.outcome S held reduced in
          (T, e, origins-window pos u.only 0 T w, q)

  pub took_contradicts : (first own : ℕ) → Inserted k E m m₁ v v' None → Took b first own m m₁ v v' (Err refusals.Contradiction)
  took_contradicts first own i = record {
    memory = record { same = i.kept.size; past = ap (drop (memory_size (setting_for b))) i.left };
    header = i.kept.header;
    only = i.only;
    answer = (refl, i.left, i.outcome);
  }

-- The same with the shape and the answer as the code has them.
pub inserted_as : (b : Block) {s : Shape} {x y : Option ℕ} {m m' v v' : List ℕ} → s ≡ shape_of b → x ≡ y → Inserted s.width s.size m m' v v' x
    → Inserted b.k b.size m m' v v' y
inserted_as b {m = m} {m'} {v} {v'} p q i = subst₂ (λ (s : Shape) (y : Option ℕ). Inserted s.width s.size m m' v v' y) p q i

pub updated_as : (b : Block) {s : Shape} {stay first own : ℕ} {m m' : List ℕ} → s ≡ shape_of b → Updated s.width s.size s.oldest stay first own m m'
    → Updated b.k b.size 0 stay first own m m'
updated_as b {stay = stay} {first} {own} {m} {m'} p u = subst (λ (s : Shape). Updated s.width s.size s.oldest stay first own m m') p u

-- And with working memory as it was laid.
pub took_as : {b : Block} {first own : ℕ} {m m' v w v' : List ℕ} {a : Result (ℕ × ℕ) Refusal} → v ≡ w → Took b first own m m' v v' a → Took b first own m m' w v' a
took_as {b} {first} {own} {m} {m'} {v' = v'} {a} e t = subst (λ x. Took b first own m m' x v' a) e t
