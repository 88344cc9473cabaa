-- A packet call by how it ends: a check fails, or the packet was taken.
-- Told apart: opened_good. A check fails: unchanged, not_opened, failed. Its own symbols: own_source, own_repair. The packet was taken: ready, took.
use Rattle.std.specs.Prelude.{◌≡◌, ◌≤◌, ◌+◌, ◌<◌, ◌≢◌, Result, Ok, Err}
use Rattle.words.specs.Words.{arith, ℕ, length, List, refl, ◌∙◌, sym, ap, Some, None, true, false, Bool, subst, Option, take, cond, leb}
use Rattle.words.specs.Words.{le-leb, leb-true, lt-ltb, le-ltb, some-injective, none-ne-some, zero-add, inr}
use lib.Seq.{take-take}
use Rattle.memory.specs.Part.{part}
use Rattle.memory.specs.Contained.{Contained}
use Rattle.memory.proofs.Parts.{part-part}
use Rattle.wire.specs.declared.Refusal.{Refusal}
use Rattle.wire.specs.Numbers.{number_of}
use Rattle.wire.specs.Answers.{value, refusal}
use Rattle.decoder.specs.Model.{insert}
use Rattle.decoder.proofs.Bytes.{laws}
use Rattle.table.specs.Window.{header_size, stride, row_offset}
use Rattle.table.specs.Packet.{Works}
use Rattle.table.proofs.Offsets.{header-long}
use Rattle.gather.proofs.Framing.{only_trans}
use Rattle.history.specs.History.{Call, IsValue, memory_size, working_size}
use Rattle.history.specs.Model.{Origins, bringing}
use Rattle.history.proofs.Cases.{numeral}
use Rattle.admission.proofs.Gathering.{contained_none, contained_row, contained_past}
use Rattle.origins.proofs.Filling.{brought_out}
use Rattle.origins.proofs.Hearing.{hears_alike}
use Rattle.recovery.specs.Block.{Packet}
use Rattle.recovery.specs.Model.{equation_of}
use Rattle.blocks.specs.declared.Block.{Block}
use Rattle.blocks.specs.Block.{setting_for, Valid}
use Rattle.blocks.specs.Stored.{block_in}
use Rattle.blocks.proofs.Stored.{headed, block_kept}
use Rattle.block_receiver.specs.Reading.{fails, located, read_packet, reading}
use Rattle.block_receiver.specs.Model.{System, added, responds, receiving, hearing, origins_after}
use Rattle.block_receiver.specs.Promises.{Follows, PacketAnswered}
use Rattle.block_receiver.specs.Layout.{Holds, Hears, block_layout}
use Rattle.block_receiver.specs.Inner.{opened_for, row_with, first_row, Ready, Took}
use Rattle.block_receiver.proofs.Taking.{laid_only, laid_works, laid_row}
use Rattle.block_receiver.proofs.Finding.{block_fits}
use Rattle.decoder.proofs.Elimination as elimination

abbrev IsGood : Result Block Refusal → Type 0
IsGood (Ok b) = Unit {0}
IsGood (Err r) = ⊥

abbrev block_is : Block → Result Block Refusal → Block
block_is c (Ok b) = b
block_is c (Err r) = c

abbrev reason_is : Result Block Refusal → ℕ
reason_is (Ok b) = 0
reason_is (Err r) = number_of r

abbrev IsNot : Result (ℕ × ℕ) Refusal → Type 0
IsNot (Ok (n, d)) = ⊥
IsNot (Err r) = Unit {0}

abbrev count : Result (ℕ × ℕ) Refusal → ℕ
count (Ok (n, d)) = n
count (Err r) = 0

abbrev drawn : Result (ℕ × ℕ) Refusal → ℕ
drawn (Ok (n, d)) = d
drawn (Err r) = 0

pub part_front : (m : List ℕ) → part 12 4 (take 16 m) ≡ part 12 4 m
unfolding part
part_front m = rw zero-add at (part-part 0 16 12 4 m (omega arith))

-- ---- What was told apart

-- The memory was opened to recover the block, and working memory is long enough.
pub record Opens (b : Block) (m v : List ℕ) : Type 0 where
  pub header : block_in 4 m ≡ Some b
  pub working : working_size (setting_for b) ≤ length v

pub opened_good : (b : Block) (m v : List ℕ) → opened_for (block_in 4 m) (length v) ≡ Ok b → Opens b m v
opened_good b m v e = go (block_in 4 m) refl e
  where
    go : (o : Option Block) → block_in 4 m ≡ o → opened_for o (length v) ≡ Ok b → Opens b m v
    go None k q = absurd (subst IsGood (sym q) tt)
    go (Some c) k q = long (leb (working_size (setting_for c)) (length v)) refl
      where
        long : (t : Bool) → leb (working_size (setting_for c)) (length v) ≡ t → Opens b m v
        long false f = absurd (subst IsGood (sym (rw f at q)) tt)
        long true f =
            let i : c ≡ b = ap (block_is b) (rw f at q) in
            record { header = k ∙ ap Some i; working = subst (λ x. working_size (setting_for x) ≤ length v) i (leb-true _ _ f) }

pub valid : {b : Block} {m v : List ℕ} → Opens b m v → Valid b
valid {b} {m} o = (headed 4 m b o.header).valid

-- ---- A check fails

module _ (c : Call) (m v : List ℕ) where
  -- Whatever the memory, by what the checks make of a call on it.
  pub unchanged : (x : Refusal) → (refusal (number_of x) ≡ refusal 3 → block_in 4 m ≡ None) → (block_in 4 m ≡ None → number_of x ≡ 3)
      → ((b : Block) → block_in 4 m ≡ Some b → reading b (length v) c ≡ fails (number_of x)) → PacketAnswered block_layout c m m v v (Err x)
  unfolding receiving
  unchanged x f g h = record {
    received = record {
      unopened = (f, λ q. ap refusal (g q));
      untouched = λ _. refl;
      refused = λ n q. refl;
      contained = λ b q. (contained_none, contained_none);
      follows = λ b S k. subst (λ y. Follows block_layout b (responds b S y) m m (Err x)) (sym (h b k.header)) (refl, refl);
      origins = λ b S H k l. subst (λ y. Hears m b (origins_after b y (responds b S y) H)) (sym (h b k.header)) l;
    };
    draws = λ n d q. absurd (subst IsNot q tt);
  }

  -- 3, or 2.
  pub not_opened : (x : Refusal) → opened_for (block_in 4 m) (length v) ≡ Err x → PacketAnswered block_layout c m m v v (Err x)
  not_opened x e = go (block_in 4 m) refl
    where
      go : (o : Option Block) → block_in 4 m ≡ o → PacketAnswered block_layout c m m v v (Err x)
      go None k =
          let three : 3 ≡ number_of x = ap reason_is (rw k at e) in
          unchanged x (λ _. k) (λ _. sym three) (λ b q. absurd (none-ne-some b (sym k ∙ q)))
      go (Some b) k = short (leb (working_size (setting_for b)) (length v)) refl
        where
          short : (t : Bool) → leb (working_size (setting_for b)) (length v) ≡ t → PacketAnswered block_layout c m m v v (Err x)
          short true f = absurd (subst IsGood (rw (k, f) at e) tt)
          short false f =
              let two : 2 ≡ number_of x = ap reason_is (rw (k, f) at e) in
              unchanged x (λ q. absurd (omega (arith, two, ap numeral q))) (λ q. absurd (none-ne-some b (sym q ∙ k)))
              (λ d q.
              let i : b ≡ d = some-injective b d (sym k ∙ q) in
              subst (λ y. reading y (length v) c ≡ fails (number_of x)) i (rw f (ap fails two)))

  -- Its form: 5, 18 or 4.
  pub failed : (b : Block) → Opens b m v → (x : Refusal) → number_of x ≢ 3 → read_packet b c ≡ fails (number_of x)
      → PacketAnswered block_layout c m m v v (Err x)
  failed b o x n e =
      unchanged x (λ q. absurd (n (ap numeral q))) (λ q. absurd (none-ne-some b (sym q ∙ o.header)))
      (λ d q.
      let i : b ≡ d = some-injective b d (sym o.header ∙ q) in
      subst (λ y. reading y (length v) c ≡ fails (number_of x)) i (rw (le-leb _ _ o.working) e))

-- The own symbols of a source packet, and of a repair packet, which has none.
pub own_source : (b : Block) (p : Packet) → p.esi < b.k → (H : Origins) (x : ℕ) → bringing p.esi 1 H x ≡ hearing b p H x
own_source b p l H x = rw (lt-ltb p.esi b.k l)

pub own_repair : (b : Block) (p : Packet) → b.k ≤ p.esi → (H : Origins) (x : ℕ) → bringing 0 0 H x ≡ hearing b p H x
own_repair b p l H x = brought_out 0 0 x H (inr (omega arith)) ∙ sym (ap (λ (y : Bool). cond y (bringing p.esi 1 H) H x) (le-ltb p.esi b.k l))

-- ---- The packet was taken

-- Working memory has a row more than the memory, and a byte for each.
working_is : (b : Block) → working_size (setting_for b) ≡ row_offset b.k b.size (b.k + 1) + (b.k + 1)
unfolding header_size stride
working_is b = refl

-- What laying it asks.
pub works : {b : Block} {m v : List ℕ} → Opens b m v → Works b.k b.size 0 v
works {b} {m} {v} o =
    let f = block_fits m b o.header in
    record {
      some_width = f.some_width;
      wide = f.wide;
      some_symbol = f.some_symbol;
      long = f.long;
      room = omega (arith, o.working, working_is b);
      within = omega arith;
      columns = λ j l. absurd (omega arith);
    }

module _ (b : Block) (m v : List ℕ) (o : Opens b m v) (p : Packet) (size : length p.symbol ≡ b.size) where
  abbrev k : ℕ
  k = b.k

  abbrev E : ℕ
  E = b.size

  abbrev laid : List ℕ
  laid = row_with k p.esi p.symbol v

  -- What taking it asks.
  pub ready : Ready b m laid
  ready = record { fits = block_fits m b o.header; works = laid_works E k p v (works o) size; memory = (headed 4 m b o.header).room }

  module _ (c : Call) (read : read_packet b c ≡ located p) (first own : ℕ) (own_is : (H : Origins) (x : ℕ) → bringing first own H x ≡ hearing b p H x)
      (m' v' : List ℕ) where
    read_is : reading b (length v) c ≡ located p
    read_is = rw (le-leb _ _ o.working) read

    same : (d : Block) → block_in 4 m ≡ Some d → b ≡ d
    same d q = some-injective b d (sym o.header ∙ q)

    contains : (a : Result (ℕ × ℕ) Refusal) → Took b first own m m' laid v' a → (d : Block) → block_in 4 m ≡ Some d
        → Contained (memory_size (setting_for d)) m m' × Contained (working_size (setting_for d)) v v'
    contains a t d q =
        subst (λ y. Contained (memory_size (setting_for y)) m m' × Contained (working_size (setting_for y)) v v') (same d q) (
          t.memory,
          contained_past (row_offset k E (k + 1)) (omega (arith, working_is b))
              (contained_row k E 0 (row_offset k E 0 + stride k E) v v' (omega arith) (omega arith) (only_trans (laid_only E k p v (works o) size) t.only)),
        )

    -- The header is as it was.
    header : (a : Result (ℕ × ℕ) Refusal) → Took b first own m m' laid v' a → block_in 4 m' ≡ Some b
    header a t = block_kept 4 m m' t.memory.same (front 10 (omega arith)) parts ∙ o.header
      where
        front : (n : ℕ) → n ≤ 64 → take n m' ≡ take n m
        front n h =
            sym (take-take n header_size m' (omega (arith, header-long))) ∙ ap (take n) t.header ∙ take-take n header_size m (omega (arith, header-long))

        parts : part 12 4 m' ≡ part 12 4 m
        parts = sym (part_front m') ∙ ap (part 12 4) (front 16 (omega arith)) ∙ part_front m

    equation-is : (S : System b) → insert S (first_row k E laid) ≡ insert S (equation_of E k p)
    equation-is S = ap (insert S) (laid_row E k p v (works o) size)

    module _ (n d : ℕ) (t : Took b first own m m' laid v' (Ok (n, d))) where
      grows : (S : System b) → Holds m b S → Follows block_layout b (responds b S (located p)) m m' (Ok n)
      grows S h =
          let (T, e, w, q) = t.answer.2 S h.rows h.reduced in
          let i : insert S (equation_of E k p) ≡ Some T = sym (equation-is S) ∙ e in
          let r = subst (elimination.Added (laws E pos) S (equation_of E k p)) i (elimination.insert_added (laws E pos) S (equation_of E k p) h.reduced) in
          subst (λ x. Follows block_layout b (added b S x) m m' (Ok n)) (sym i)
          (ap value q, record { header = header (Ok (n, d)) t; reduced = r.0; rows = w })
        where
          pos : 0 < E
          pos = omega (arith, (valid o).size_least)

      hears : (S : System b) (H : Origins) → Holds m b S → Hears m b H → Hears m' b (origins_after b (located p) (responds b S (located p)) H)
      hears S H h g =
          let (T, e, w, q) = t.answer.2 S h.rows h.reduced in
          let i : insert S (equation_of E k p) ≡ Some T = sym (equation-is S) ∙ e in
          subst (λ x. Hears m' b (origins_after b (located p) (added b S x) H)) (sym i)
          (hears_alike k E 0 m' (bringing first own H) (hearing b p H) (own_is H) (t.answer.3 H g))

      pub took_accepted : PacketAnswered block_layout c m m' v v' (Ok (n, d))
      unfolding receiving
      took_accepted = record {
        received = record {
          unopened = ((λ q. absurd (subst IsValue q tt)), (λ q. absurd (none-ne-some b (sym q ∙ o.header))));
          untouched = λ q. absurd (none-ne-some b (sym q ∙ o.header));
          refused = λ x q. absurd (subst IsValue q tt);
          contained = contains (Ok (n, d)) t;
          follows = λ y S h.
              subst (λ (z : Block). (S : System z) → Holds m z S → Follows block_layout z (responds z S (reading z (length v) c)) m m' (Ok n)) (same y h.header)
              (λ S h. subst (λ r. Follows block_layout b (responds b S r) m m' (Ok n)) (sym read_is) (grows S h)) S h;
          origins = λ y S H h g.
              subst
              (λ (z : Block). (S : System z) → Holds m z S → Hears m z H → Hears m' z (origins_after z (reading z (length v) c) (responds z S (reading z (length v) c)) H))
              (same y h.header)
              (λ S h g. subst (λ r. Hears m' b (origins_after b r (responds b S r) H)) (sym read_is) (hears S H h g)) S h g;
        };
        draws = λ x y q. (omega (arith, t.answer.0, ap count q), sym (ap drawn q) ∙ t.answer.1);
      }

    pub took-refused : (x : Refusal) → Took b first own m m' laid v' (Err x) → PacketAnswered block_layout c m m' v v' (Err x)
    unfolding receiving
    took-refused x t =
        let eleven : number_of x ≡ 11 = ap number_of t.answer.0 in
        record {
          received = record {
            unopened = ((λ q. absurd (omega (arith, eleven, ap numeral q))), (λ q. absurd (none-ne-some b (sym q ∙ o.header))));
            untouched = λ q. absurd (none-ne-some b (sym q ∙ o.header));
            refused = λ y q. t.answer.1;
            contained = contains (Err x) t;
            follows = λ y S h.
                subst (λ (z : Block). (S : System z) → Holds m z S → Follows block_layout z (responds z S (reading z (length v) c)) m m' (Err x))
                (same y h.header)
                (λ S h.
                subst (λ r. Follows block_layout b (responds b S r) m m' (Err x)) (sym read_is)
                (subst (λ i. Follows block_layout b (added b S i) m m' (Err x)) (sym (none_is S h)) (ap refusal eleven, t.answer.1)))
                S h;
            origins = λ y S H h g.
                subst
                (λ (z : Block). (S : System z) → Holds m z S → Hears m z H → Hears m' z (origins_after z (reading z (length v) c) (responds z S (reading z (length v) c)) H))
                (same y h.header)
                (λ S h g.
                subst (λ r. Hears m' b (origins_after b r (responds b S r) H)) (sym read_is)
                (subst (λ i. Hears m' b (origins_after b (located p) (added b S i) H)) (sym (none_is S h)) (subst (λ l. Hears l b H) (sym t.answer.1) g)))
                S h g;
          };
          draws = λ n d q. absurd (subst IsNot q tt);
        }
      where
        none_is : (S : System b) → Holds m b S → insert S (equation_of E k p) ≡ None
        none_is S h = sym (equation-is S) ∙ t.answer.2 S h.rows h.reduced

    -- As the code has the answer.
    pub took : (a : Result (ℕ × ℕ) Refusal) → Took b first own m m' laid v' a → PacketAnswered block_layout c m m' v v' a
    took (Ok (n, d)) t = took_accepted n d t
    took (Err x) t = took-refused x t
