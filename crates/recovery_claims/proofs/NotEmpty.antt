-- From every memory opened to recover a block every list of packet calls has a run: each call has a memory after it that its promise allows.
-- Index
--   reason: the refusal of a check that fails
--   new_most: no more have become known than there are
--   after: a memory for the next system, with the header and the bytes past its size that it had
--   next: a call
--   runs_exist
use Rattle.std.specs.Prelude.{◌≡◌, ◌≤◌, ◌+◌, ◌<◌, ◌%◌, ◌∷◌, ◌≢◌, ◌&&◌, ◌||◌, ◌-◌, Result, Ok, Err}
use Rattle.words.specs.Words.{arith, ℕ, length, List, refl, ◌∙◌, sym, ap, [], Some, None, suc, zero, true, false, Bool, subst, Option, drop}
use Rattle.words.specs.Words.{take, cond, leb, dec_lt, map, mod-eq_of_lt, leb-true, ltb, inr, none-ne-some, some-injective, length-replicate, length-take, length-drop}
use lib.Seq.{take-take}
use Rattle.memory.specs.Part.{part, splice}
use Rattle.memory.specs.Contained.{Contained}
use Rattle.memory.proofs.Parts.{length-splice, past-splice, get_or-past, take_new}
use Rattle.wire.specs.declared.Refusal.{Refusal}
use Rattle.wire.specs.declared.Refusal.TheVariants as refusals
use Rattle.wire.specs.Numbers.{number_of}
use Rattle.wire.specs.Packets.{symbol_at, zeros}
use Rattle.decoder.specs.Model.{insert, Rref, known}
use Rattle.decoder.specs.Receiver.{is_new, count_new, newly}
use Rattle.decoder.proofs.Bytes.{laws}
use Rattle.table.specs.Window.{header_size, Window}
use Rattle.table.proofs.Offsets.{header-long}
use Rattle.table.proofs.Holding.{window-header}
use Rattle.history.specs.History.{Call, source-call, repair-call, OfBytes, memory_size, working_size}
use Rattle.history.specs.Model.{Origins, bringing}
use Rattle.history.proofs.Cases.{numeral}
use Rattle.origins.specs.Origins.{origin_at, heard_in, Hears}
use Rattle.origins.proofs.Filling.{brought_out}
use Rattle.holding.proofs.Headers.{memory_is, setting_fits}
use Rattle.holding.proofs.Building.{Built, built}
use Rattle.receiver.specs.Answers.{answer_of}
use Rattle.claims.specs.Run.{Step}
use Rattle.claims.specs.NotEmpty.{Asked, asked, AllOfBytes}
use Rattle.recovery.specs.Block.{Packet}
use Rattle.recovery.specs.Model.{equation_of}
use Rattle.blocks.specs.declared.Block.{Block}
use Rattle.blocks.specs.Block.{block_of, setting_for, Valid}
use Rattle.blocks.proofs.Values.{good_names, setting_valid}
use Rattle.block_receiver.specs.Reading.{Reading, fails, located, source_check, repair_check, read_by, read_packet, reading}
use Rattle.block_receiver.specs.Model.{System, opened, hearing}
use Rattle.block_receiver.specs.Promises.{PacketAnswered}
use Rattle.block_receiver.specs.Layout.{Holds, block_layout}
use Rattle.block_receiver.specs.Inner.{row_with, first_row, Took}
use Rattle.block_receiver.proofs.Checking.{source_bad, repair_bad}
use Rattle.block_receiver.proofs.Taking.{laid_row}
use Rattle.block_receiver.proofs.Receiving.{Opens, unchanged, part_front, own_source, own_repair, works, took}
use Rattle.recovery_claims.specs.Run.{Run}
use Rattle.recovery_claims.specs.NotEmpty.{RunsExist}
use Rattle.recovery_claims.proofs.Reading.{IsLocated, IsFails, number_is, reading_formed}
use Rattle.recovery_claims.proofs.Judging.{had_block}
use Rattle.blocks.proofs.Stored as blocks
use Rattle.decoder.proofs.Elimination as elimination

-- ---- A check that fails

module _ (b : Block) where
  reason_of_lem : (c : Call) (n : ℕ) → read_packet b c ≡ fails n → (x : Refusal) × (number_of x ≡ n) × (n ≢ 3)
  reason_of_lem (source-call flow p) n e = go (source_check b p) refl e
    where
      go : (y : Result ℕ Refusal) → source_check b p ≡ y → read_by (symbol_at flow (part 0 (length p - 6) p) b.size 0) y ≡ fails n → (x : Refusal) × (number_of x ≡ n) × (n ≢ 3)
      go (Ok i) q z = absurd (subst IsFails (sym z) tt)
      go (Err x) q z = (x, ap number_is z, λ h. source_bad b p x q (ap number_is z ∙ h))
  reason_of_lem (repair-call p) n e = go (repair_check b p) refl e
    where
      go : (y : Result ℕ Refusal) → repair_check b p ≡ y → read_by (part 6 b.size p) y ≡ fails n → (x : Refusal) × (number_of x ≡ n) × (n ≢ 3)
      go (Ok i) q z = absurd (subst IsFails (sym z) tt)
      go (Err x) q z = (x, ap number_is z, λ h. repair_bad b p x q (ap number_is z ∙ h))

  reason : (room : ℕ) (c : Call) (n : ℕ) → reading b room c ≡ fails n → (x : Refusal) × (number_of x ≡ n) × (n ≢ 3)
  reason room c n e = go (leb (working_size (setting_for b)) room) e
    where
      go : (t : Bool) → cond t (read_packet b c) (fails 2) ≡ fails n → (x : Refusal) × (number_of x ≡ n) × (n ≢ 3)
      go true q = reason_of_lem c n q
      go false q = (refusals.Short, ap number_is q, λ h. absurd (omega (arith, ap number_is q, h)))

  -- A packet that is read was lent enough.
  lent : (room : ℕ) (c : Call) (p : Packet) → reading b room c ≡ located p → (working_size (setting_for b) ≤ room) × (read_packet b c ≡ located p)
  lent room c p e = go (leb (working_size (setting_for b)) room) refl e
    where
      go : (t : Bool) → leb (working_size (setting_for b)) room ≡ t → cond t (read_packet b c) (fails 2) ≡ located p
          → (working_size (setting_for b) ≤ room) × (read_packet b c ≡ located p)
      go true q z = (leb-true _ _ q, z)
      go false q z = absurd (subst IsLocated (sym z) tt)

-- No more have become known than there are.
new_most : {A : Type 0} (m : ℕ) (f g : ℕ → Option A) → count_new m f g ≤ m
unfolding count_new is_new
new_most zero f g = omega arith
new_most (suc m) f g = omega (arith, one (f 0) (g 0), new_most m (λ i. f (suc i)) (λ i. g (suc i)))
  where
    one : {A : Type 0} (o p : Option A) → is_new o p ≤ 1
    one None None = omega arith
    one None (Some y) = omega arith
    one (Some x) None = omega arith
    one (Some x) (Some y) = omega arith

-- ---- A memory for the next system

module _ (b : Block) (v : Valid b) (m : List ℕ) (S : System b) (h : Holds m b S) where
  open b use {size as E, k}

  abbrev size : ℕ
  size = memory_size (setting_for b)

  room : size ≤ length m
  room = (blocks.headed 4 m b h.header).room

  some_width : 0 < k
  some_width = v.values.0

  -- What the memory says is heard.
  abbrev had : Origins
  had e = heard_in k E m e

  module _ (T : System b) (r : Rref T) (first own : ℕ) (few : first + own ≤ k) where
    laid : Built (setting_for b) (zeros 32) (record { base = 0; window = T }) (bringing first own had) (drop size m)
    laid = built (setting_for b) (zeros 32) (setting_valid b v) (length-replicate {A = ℕ} 32 0) (record { base = 0; window = T }) r (bringing first own had) (drop size m)

    abbrev head : List ℕ
    head = take header_size m

    head_long : length head ≡ header_size
    head_long = simp length-take (omega (arith, room, memory_is (setting_for b)))

    abbrev after : List ℕ
    after = splice 0 head laid.memory

    laid_long : length laid.memory ≡ length m
    laid_long = laid.same ∙ omega (arith, room, length-drop size m)

    after-long : length after ≡ length m
    after-long = length-splice 0 head laid.memory (omega (arith, head_long, laid_long, room, memory_is (setting_for b))) ∙ laid_long

    contained : Contained size m after
    contained = record {
      same = after-long;
      past = past-splice size 0 head laid.memory (omega (arith, head_long, memory_is (setting_for b))) (omega arith) ∙ laid.rest;
    }

    header : take header_size after ≡ take header_size m
    header = take_new header_size head laid.memory head_long

    window : Window k E after 0 T
    window =
        window-header k E 0 0 head laid.memory T (setting_fits (setting_for b) laid.memory (setting_valid b v) (omega (arith, laid_long, room)))
        (omega (arith, head_long)) laid.holds.holds.rows.rows

    -- The system that the memory holds is one.
    one_system : (U : System b) → Window k E m 0 U → U ≡ S
    one_system U w = sym w.reads ∙ h.rows.reads

    hears : (H : Origins) → Hears k E 0 m H → Hears k E 0 after (bringing first own H)
    hears H g = record {
      window = λ i l.
          ap (λ x. ltb 0 x) (get_or-past (origin_at k E ((0 + i) % k)) 0 head laid.memory (omega (arith, head_long)) (omega arith))
          ∙ laid.heard i l ∙ ap (λ t. (leb first (0 + i) && ltb (0 + i) (first + own)) || t) (was i l);
      later = λ i l. brought_out first own (0 + i) H (inr (omega arith)) ∙ g.later i l;
    }
      where
        was : (i : ℕ) → i < k → had (0 + i) ≡ H (0 + i)
        was i l =
            let e : (0 + i) % k ≡ 0 + i = mod-eq_of_lt (omega arith) in
            ap (heard_in k E m) (sym e) ∙ g.window i l

    most : newly (record { base = 0; window = S }) (record { base = 0; window = T }) ≤ k
    unfolding newly
    most = new_most k (known T) _

    -- The call that makes it so was taken.
    taken : (w : List ℕ) → insert S (first_row k E w) ≡ Some T → Took b first own m after w w (Ok (newly (record { base = 0; window = S }) (record { base = 0; window = T }), 0))
    taken w e = record {
      memory = contained;
      header = header;
      only = record { size = refl; before = refl; past = refl };
      answer = (
        let w = v.values in omega (arith, most, w.1, w.2),
        refl,
        λ U x y. (T, ap (λ z. insert z (first_row k E w)) (one_system U x) ∙ e, window, ap (λ z. newly (record { base = 0; window = z }) (record { base = 0; window = T })) (sym (one_system U x))),
        hears,
      );
    }

    held : Holds after b T
    held = record { header = blocks.block_kept 4 m after after-long (front 10 (omega arith)) parts ∙ h.header; reduced = r; rows = window }
      where
        front : (n : ℕ) → n ≤ 64 → take n after ≡ take n m
        front n l = sym (take-take n header_size after (omega (arith, header-long))) ∙ ap (take n) header ∙ take-take n header_size m (omega (arith, header-long))

        parts : part 12 4 after ≡ part 12 4 m
        parts = sym (part_front after) ∙ ap (part 12 4) (front 16 (omega arith)) ∙ part_front m

-- ---- A call

-- What a call leaves: a step as it was asked for, and a memory that holds a system.
record Next (b : Block) (m : List ℕ) (q : Asked) : Type 0 where
  pub memory : List ℕ
  pub left : List ℕ
  pub answer : Result (ℕ × ℕ) Refusal
  pub answered : PacketAnswered block_layout q.call m memory q.working left answer
  pub system : System b
  pub held : Holds memory b system

module _ (b : Block) (v : Valid b) (m : List ℕ) (S : System b) (h : Holds m b S) (q : Asked) (w : OfBytes q.call) where
  open b use {size as E, k}

  abbrev room_lent : ℕ
  room_lent = length q.working

  -- A check fails.
  next_failed : (n : ℕ) → reading b room_lent q.call ≡ fails n → Next b m q
  next_failed n e =
      let (x, is, three) = reason b room_lent q.call n e in
      record {
        memory = m;
        left = q.working;
        answer = Err x;
        answered = unchanged q.call m q.working x (λ z. absurd (three (sym is ∙ ap numeral z)))
            (λ z. absurd (none-ne-some b (sym z ∙ h.header)))
            (λ c z.
            let same : b ≡ c = some-injective b c (sym h.header ∙ z) in
            subst (λ y. reading y room_lent q.call ≡ fails (number_of x)) same (e ∙ ap fails (sym is)));
        system = S;
        held = h;
      }

  module _ (p : Packet) (e : reading b room_lent q.call ≡ located p) where
    opens : Opens b m q.working
    opens = record { header = h.header; working = (lent b room_lent q.call p e).0 }

    sized : length p.symbol ≡ E
    sized = (reading_formed b v room_lent q.call p w e).sized

    abbrev row : List ℕ
    row = row_with k p.esi p.symbol q.working

    spelt : insert S (first_row k E row) ≡ insert S (equation_of E k p)
    spelt = ap (insert S) (laid_row E k p q.working (works opens) sized)

    module _ (first own : ℕ) (few : first + own ≤ k) (own_is : (H : Origins) (x : ℕ) → bringing first own H x ≡ hearing b p H x) where
      next_by : (o : Option (System b)) → insert S (equation_of E k p) ≡ o → Next b m q
      next_by None i = record {
        memory = m;
        left = row;
        answer = Err refusals.Contradiction;
        answered = took b m q.working opens p sized q.call (lent b room_lent q.call p e).1 first own own_is m row _ (record {
          memory = record { same = refl; past = refl };
          header = refl;
          only = record { size = refl; before = refl; past = refl };
          answer = (refl, refl, λ U x y. ap (λ z. insert z (first_row k E row)) (sym x.reads ∙ h.rows.reads) ∙ spelt ∙ i);
        });
        system = S;
        held = h;
      }
      next_by (Some T) i =
          let r = (subst (elimination.Added (laws E pos) S (equation_of E k p)) i (elimination.insert_added (laws E pos) S (equation_of E k p) h.reduced)).0 in
          record {
            memory = after b v m S h T r first own few;
            left = row;
            answer = _;
            answered = took b m q.working opens p sized q.call (lent b room_lent q.call p e).1 first own own_is _ row _
                (taken b v m S h T r first own few row (spelt ∙ i));
            system = T;
            held = held b v m S h T r first own few;
          }
        where
          pos : 0 < E
          pos = omega (arith, v.size_least)

    next_located : Next b m q
    next_located = go (dec_lt p.esi k)
      where
        go : Dec (p.esi < k) → Next b m q
        go (yes l) = next_by p.esi 1 (omega arith) (own_source b p l) (insert S (equation_of E k p)) refl
        go (no l) = next_by 0 0 (omega arith) (own_repair b p (omega arith)) (insert S (equation_of E k p)) refl

  next : Next b m q
  next = go (reading b room_lent q.call) refl
    where
      go : (x : Reading) → reading b room_lent q.call ≡ x → Next b m q
      go (fails n) e = next_failed n e
      go (located p) e = next_located p e

runs : (b : Block) → Valid b → (m : List ℕ) (S : System b) → Holds m b S → (cs : List Asked) → AllOfBytes cs
    → (ts : List Step) × Run block_layout m ts × (map asked ts ≡ cs)
runs b v m S h [] w = ([], tt, refl)
runs b v m S h (q ∷ cs) w =
    let n = next b v m S h q w.0 in
    let (ts, r, e) = runs b v n.memory n.system n.held cs w.1 in (
      record { call = q.call; working = q.working; left = n.left; answer = answer_of n.answer; memory = n.memory } ∷ ts,
      (w.0, n.answered.received, r),
      ap (λ x. q ∷ x) e,
    )

pub runs_exist : RunsExist
runs_exist E k total number m₀ m a p e cs w =
    let (b, h) = had_block (block_of E k total number) (length m₀) (sym p.answer ∙ e) in
    runs b (good_names E k total number b h).1 m (opened b) (p.holds b h e) cs w
