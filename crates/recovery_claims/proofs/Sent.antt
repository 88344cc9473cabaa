-- What an encoder wrote is accepted where the block is recovered, and shown as it was sent.
-- Index
--   carried: the filling that has the encoder's symbols, and what it has
--   front: what is written at the front of the output
--   sent: a packet that was written is read as one that this filling satisfies
--   all_sent: so it satisfies all that was accepted
--   sent_accepted, sent-shown
use denote.Ref.{Bor}
use Rattle.std.specs.Prelude.{◌≡◌, ◌≤◌, ◌+◌, ◌<◌, ◌-◌, ◌∷◌, ◌++◌, Result, Ok}
use Rattle.words.specs.Words.{arith, ℕ, List, length, refl, ◌∙◌, sym, ap, ap₂, [], get_or, true, false, Bool, subst, drop, take, cond, leb, suc, zero}
use Rattle.words.specs.Words.{length-append, append-nil, get_or-append, take-append_seam, dec_lt}
use lib.ListN.{get_or-eq_default}
use lib.Seq.{get_or_at}
use Rattle.memory.specs.Part.{part}
use Rattle.memory.specs.Number.{bytes}
use Rattle.wire.specs.Answers.{Said, value, refusal, said}
use Rattle.wire.specs.Opening.{working_memory}
use Rattle.wire.specs.Packets.{symbol_at}
use Rattle.field.specs.Powers.{power}
use Rattle.interpolation.specs.Polynomial.{Through}
use Rattle.interpolation.proofs.Roots.{value-lt}
use Rattle.history.specs.Symbol.{bytes_of, symbol_of}
use Rattle.history.specs.History.{Call, source-call, repair-call, Filling, Satisfied, All, IsValue}
use Rattle.history.proofs.Says.{Whole, Wholes, bytes_symbol}
use Rattle.history.proofs.Cases.{numeral}
use Rattle.receiver.specs.Answers.{shown_of}
use Rattle.claims.specs.Run.{Step}
use Rattle.recovery.specs.Block.{Packet, Formed, says, all_say, byte_at, Recovery}
use Rattle.recovery.proofs.Recovery.{recovery}
use Rattle.blocks.specs.declared.Block.{Block}
use Rattle.blocks.specs.Block.{Valid}
use Rattle.blocks.specs.Identifiers.{identifier_of, identifier_bytes}
use Rattle.blocks.proofs.Values.{good_names}
use Rattle.blocks.proofs.Symbols.{only_symbol}
use Rattle.encoder_claims.specs.Run.{EncoderCall, added, repaired, Calls, memory_after, EncoderRun, symbols_of}
use Rattle.encoder_claims.specs.Judged.{Writes, AduJudged, RepairJudged, IsSymbol, bytes_at}
use Rattle.encoder_claims.proofs.Running.{impossible, below, symbols-append, calls-whole}
use Rattle.encoder_claims.proofs.Judging.{encoder_judged}
use Rattle.block_receiver.specs.Reading.{Reading, fails, located, read_packet, reading}
use Rattle.block_receiver.specs.Promises.{Layout, SymbolShown, PartShown}
use Rattle.recovery_claims.specs.Run.{logged, read, goes_on, accepted}
use Rattle.recovery_claims.specs.Judged.{CallJudged}
use Rattle.recovery_claims.specs.Sent.{Wrote, wrote_source, wrote_repair, AsWritten, Peers, SentAccepted, SentShown}
use Rattle.recovery_claims.proofs.Reading.{IsLocated, packet_is, source_reads, repair_reads}
use Rattle.recovery_claims.proofs.Checking.{enough}
use Rattle.wire.specs.declared.Refusal.{Refusal}

-- ---- The encoder's symbols

-- The filling that has them.
abbrev carried : (E : ℕ) → List (List ℕ) → Filling E
carried E xs i = symbol_of E (get_or xs i [])

whole_at : (E : ℕ) (xs : List (List ℕ)) → Wholes E xs → (i : ℕ) → i < length xs → Whole E (get_or xs i [])
whole_at E [] w i l = absurd (omega arith)
whole_at E (x ∷ xs) w zero l = w.0
whole_at E (x ∷ xs) w (suc i) l = whole_at E xs w.1 i (omega arith)

carries : (E : ℕ) (xs : List (List ℕ)) → Wholes E xs → (i : ℕ) → i < length xs → bytes_of E (carried E xs i) ≡ get_or xs i []
carries E xs w i l = bytes_symbol E (get_or xs i []) (whole_at E xs w i l)

-- Where two lists have the same bytes below k, what passes through one passes through the other.
through_same : (k : ℕ) (s t : ℕ → ℕ) (q : List ℕ) → ((i : ℕ) → i < k → s i ≡ t i) → Through k s q → Through k t q
through_same k s t q e p = record { under = p.under; passes = λ i l. p.passes i l ∙ e i l }

-- ---- What was written

-- The packet at the front of the output.
front : (packet out out' : List ℕ) (n : ℕ) → Writes packet (said (Ok n)) out out' → take n out' ≡ packet
front packet out out' n w =
    let i : n ≡ length packet = ap numeral w.answer in
    ap₂ (λ x y. take x y) i w.output ∙ take-append_seam packet (drop (length packet) out)

module _ (b : Block) (v : Valid b) (l : List EncoderCall) (r : EncoderRun b.size b.k b.total b.number l) where
  open b use {size as E, k}

  some_bytes : 0 < E
  some_bytes = omega (arith, v.size_least)

  few : k ≤ 255
  few = let w = v.values in omega (arith, w.1, w.2)

  theory : Recovery E k
  theory = recovery E k some_bytes few

  abbrev all : List (List ℕ)
  all = symbols_of E l

  wholes : Wholes E all
  wholes = calls-whole E some_bytes r.after l [] (subst (λ x. Calls r.after x) (sym (append-nil l)) r.calls)

  -- A packet that is read so, and that the encoder's symbols satisfy.
  pub record Sent (c : Call) : Type 0 where
    pub packet : Packet
    pub reads : read_packet b c ≡ located packet
    pub satisfied : Satisfied E (says k packet) (carried E all)

  -- Symbols that were taken before stand at their places among all.
  before_at : (before after : List EncoderCall) → l ≡ before ++ after → (i : ℕ) → i < length (symbols_of E before) → get_or all i [] ≡ get_or (symbols_of E before) i []
  before_at before after e i h =
      ap (λ x. get_or (symbols_of E x) i []) e ∙ ap (λ x. get_or x i []) (symbols-append E before after)
      ∙ get_or-append (symbols_of E before) (symbols_of E after) [] i h

  -- A source packet.
  module _ (before after : List EncoderCall) (flow : ℕ) (adu out : List ℕ) (n : ℕ) (m' out' : List ℕ)
      (e : l ≡ before ++ (added flow adu out (Ok n) m' out' ∷ after)) where
    abbrev taken : List (List ℕ)
    taken = symbols_of E before

    abbrev adus : Packet
    adus = record { esi = length taken; symbol = symbol_at flow adu E 0 }

    adding_judged : AduJudged E k b.total b.number taken (memory_after r.after before) adu out (said (Ok n)) m' out'
    adding_judged = encoder_judged E k b.total b.number l r before (added flow adu out (Ok n) m' out') after e

    module _ (y : length taken < k) (z : 3 + length adu ≤ E) where
      split : all ≡ taken ++ (symbol_at flow adu E 0 ∷ symbols_of E after)
      split =
          ap (symbols_of E) e ∙ symbols-append E before (added flow adu out (Ok n) m' out' ∷ after)
          ∙ ap (λ x. taken ++ (x ++ symbols_of E after)) (only_symbol flow adu E z)

      here : get_or all (length taken) [] ≡ symbol_at flow adu E 0
      here = ap (λ x. get_or x (length taken) []) split ∙ get_or_at taken (symbol_at flow adu E 0) (symbols_of E after) [] (length taken) refl

      inside : length taken < length all
      inside = omega (arith, ap length split, length-append taken (symbol_at flow adu E 0 ∷ symbols_of E after))

      formed : Formed E adus
      formed =
          let w = subst (Whole E) here (whole_at E all wholes (length taken) inside) in
          record { small = omega (arith, y, few); sized = w.sized; bytes = w.small }

      adu-sent : Writes (adu ++ identifier_bytes (identifier_of b (length taken))) (said (Ok n)) out out' → Sent (source-call flow (take n out'))
      adu-sent o = record {
        packet = adus;
        reads = ap (λ x. read_packet b (source-call flow x)) (front _ out out' n o) ∙ source_reads b v flow adu (length taken) y z;
        satisfied = (theory.sources adus formed y (carried E all)).1 (carries E all wholes (length taken) inside ∙ here);
      }

    source-sent : Sent (source-call flow (take n out'))
    source-sent =
        let j = adding_judged in
        below (length out) (length adu + 6)
        (λ x. absurd (impossible n 2 (j.short x).answer))
        (λ x.
        below (length taken) k
        (λ y. below E (3 + length adu) (λ z. absurd (impossible n 4 (j.long x y z).answer)) (λ z. adu-sent y z (j.takes x y z).0))
        (λ y. absurd (impossible n 18 (j.full x y).answer)))

  -- A repair packet.
  module _ (before after : List EncoderCall) (esi : ℕ) (out : List ℕ) (n : ℕ) (out' : List ℕ) (e : l ≡ before ++ (repaired esi out (Ok n) out' ∷ after)) where
    abbrev held : List (List ℕ)
    held = symbols_of E before

    making_judged : RepairJudged E k b.total b.number held (memory_after r.after before) esi out (said (Ok n)) out'
    making_judged = encoder_judged E k b.total b.number l r before (repaired esi out (Ok n) out') after e

    same_byte : k ≤ length held → (x : ℕ) → x < E → (i : ℕ) → i < k → byte_at E (carried E all) x i ≡ bytes_at held x i
    same_byte h x g i q =
        let stands = before_at before (repaired esi out (Ok n) out' ∷ after) e i (omega arith) in
        ap (λ y. get_or y x 0) (carries E all wholes i (inside i h q) ∙ stands)
      where
        inside : (i : ℕ) → k ≤ length held → i < k → i < length all
        inside i h q =
            omega (
              arith,
              ap length (ap (symbols_of E) e ∙ symbols-append E before (repaired esi out (Ok n) out' ∷ after)),
              length-append held (symbols_of E (repaired esi out (Ok n) out' ∷ after)),
            )

    symbol_sent : k ≤ esi → esi < b.total → k ≤ length held → (y : List ℕ) → IsSymbol E k b.total b.number held esi y
        → Writes (identifier_bytes (identifier_of b esi) ++ y) (said (Ok n)) out out' → Sent (repair-call (take n out'))
    symbol_sent f g h y s o = record {
      packet = made;
      reads = reads;
      satisfied = (theory.polynomial made formed (carried E all)).1
          (λ x q z t. sym (s.valued x q z (through_same k (byte_at E (carried E all) x) (bytes_at held x) z (same_byte h x q) t)));
    }
      where
        made : Packet
        made = record { esi = esi; symbol = y }

        reads : read_packet b (repair-call (take n out')) ≡ located (record { esi = esi; symbol = y })
        reads = ap (λ x. read_packet b (repair-call x)) (front _ out out' n o) ∙ repair_reads b v esi y f g s.sized

        byte : (x : ℕ) → Dec (x < E) → get_or y x 0 < 256
        byte x (yes q) =
            let (z, t) = s.polynomial x q in
            subst (λ c. c < 256) (sym (s.valued x q z t)) (value-lt z t.under.bytes (power esi))
        byte x (no q) = subst (λ c. c < 256) (sym (get_or-eq_default y 0 (omega (arith, s.sized)))) (omega arith)

        formed : Formed E made
        formed = record { small = let w = v.values in omega (arith, g, w.2); sized = s.sized; bytes = λ x. byte x (dec_lt x E) }

    repair-sent : Sent (repair-call (take n out'))
    repair-sent =
        let j = making_judged in
        below (length out) (E + 6)
        (λ x. absurd (impossible n 2 (j.short x).answer))
        (λ x.
        below esi k
        (λ y. absurd (impossible n 18 (j.stray x (λ q. omega (arith, q.0, y))).answer))
        (λ y.
        below esi b.total
        (λ z.
        below (length held) k
        (λ w. absurd (impossible n 7 (j.early x (y, z) w).answer))
        (λ w. let (s, is, o) = j.makes x (y, z) w in symbol_sent y z w s is o))
        (λ z. absurd (impossible n 18 (j.stray x (λ q. omega (arith, q.1, z))).answer))))

  pub sent : (c : Call) → Wrote l c → Sent c
  sent c (wrote_source before after flow adu out n m' out' e) = source-sent before after flow adu out n m' out' e
  sent c (wrote_repair before after esi out n out' e) = repair-sent before after esi out n out' e

  -- ---- What was accepted

  -- A call that is read as a packet is read so whatever working memory it is lent.
  read-packet : (room : ℕ) (c : Call) (p : Packet) → reading b room c ≡ located p → read_packet b c ≡ located p
  read-packet room c p e = go (leb (working_memory E k) room) e
    where
      go : (t : Bool) → cond t (read_packet b c) (fails 2) ≡ located p → read_packet b c ≡ located p
      go true q = q
      go false q = absurd (subst IsLocated (sym q) tt)

  satisfied_by : (room : ℕ) (c : Call) → Wrote l c → (p : Packet) → reading b room c ≡ located p → Satisfied E (says k p) (carried E all)
  satisfied_by room c w p e =
      let s = sent c w in
      subst (λ x. Satisfied E (says k x) (carried E all)) (ap (packet_is p) (sym s.reads ∙ read-packet room c p e)) s.satisfied

  -- One call more.
  logged-sent : (ps : List Packet) (t : Step) (x : Reading) (a : Said) → read b t ≡ x → (IsValue a → Wrote l t.call) → All E (all_say k ps) (carried E all)
      → All E (all_say k (logged ps x a)) (carried E all)
  logged-sent ps t (located p) (value n) e w h = (satisfied_by (length t.working) t.call (w tt) p e, h)
  logged-sent ps t (located p) (refusal n) e w h = h
  logged-sent ps t (fails m) a e w h = h

  all_sent : (ts : List Step) (ps : List Packet) → AsWritten l ts → All E (all_say k ps) (carried E all) → All E (all_say k (goes_on b ps ts)) (carried E all)
  all_sent [] ps w h = h
  all_sent (t ∷ ts) ps w h =
      all_sent ts _ (λ before u after e. w (t ∷ before) u after (ap (λ x. t ∷ x) e)) (logged-sent ps t (read b t) (said t.answer) refl (w [] t ts refl) h)

-- ---- The claims

module _ (L : Layout) (b : Block) (l : List EncoderCall) (ts : List Step) (m : List ℕ) (p : Peers L b l ts m) where
  open b use {size as E, k}

  valid : Valid b
  valid = (good_names E k b.total b.number b p.named).1

  -- The encoder's symbols satisfy all that was accepted.
  fills : All E (all_say k (accepted b ts)) (carried E (symbols_of E l))
  fills = all_sent b valid l p.encoder ts [] p.written tt

  accepts : (c : Call) → Wrote l c → (room : ℕ) → working_memory E k ≤ room → (a : Said) → CallJudged b (accepted b ts) (reading b room c) a → IsValue a
  accepts c w room h a j =
      let s = sent b valid l p.encoder c w in
      j.accepted.1 (s.packet, enough b room c h ∙ s.reads, (carried E (symbols_of E l), (s.satisfied, fills)))

  shows_it : (e : ℕ) → e < length (symbols_of E l) → (x : Result Bool Refusal) → SymbolShown L m e x → said (shown_of x) ≡ value 0
      → (memory part : Bor (List ℕ)) → memory.now ≡ m → PartShown L memory part e → part.now ≡ get_or (symbols_of E l) e []
  shows_it e i x q z memory part y r =
      let (n, h) = p.recovers.different in
      let s = p.recovers.symbols n h e in
      let (g, known) = (s.known x q).0 z in
      s.bytes memory part y r g known (carried E (symbols_of E l)) fills ∙ carries E (symbols_of E l) (wholes b valid l p.encoder) e i

pub sent_accepted : (L : Layout) → SentAccepted L
sent_accepted L b l ts m p c w room h a j = accepts L b l ts m p c w room h a j

pub sent-shown : (L : Layout) → SentShown L
sent-shown L b l ts m p e i x q z memory part y r = shows_it L b l ts m p e i x q z memory part y r
