-- Every packet that a sender writes is of the symbols that it took: this follows from what its calls are judged by.
-- Index
--   adu-packet, repair-packet, repair_wrote: what one call wrote
--   sender_sends: every packet of a list of calls
--   Taken, begun, begun-symbols: an ADU that was taken, and its symbols among the sender's
--   sent_wrote: a packet of the sender's is of its symbols
use Rattle.std.specs.Prelude.{◌≡◌, ◌≤◌, ◌+◌, ◌<◌, ◌%◌, ◌∷◌, ◌*◌, ◌++◌, ◌^◌, Ok, Err}
use Rattle.words.specs.Words.{arith, ℕ, List, length, refl, ◌∙◌, sym, ap, [], true, false, Bool, drop, take, map}
use Rattle.words.specs.Words.{ap₂, append_assoc, length-drop, length-take, take-append-drop, take_at}
use lib.Seq.{append_snoc}
use Rattle.memory.specs.Number.{Bytes}
use Rattle.wire.specs.declared.Setting.{Setting}
use Rattle.wire.specs.Settings.{Valid}
use Rattle.wire.specs.Packets.{source_symbols, source_packet, repair_packet}
use Rattle.wire.specs.Answers.{value}
use Rattle.rows.specs.Combination.{combination}
use Rattle.coefficients.specs.Coefficients.{lists_of, all_ok}
use Rattle.sender.specs.Run.{SenderCall, added, repaired, Calls, SenderRun, symbols_of}
use Rattle.sender.specs.Judged.{Writes, Ranged, AduJudged, key_in, keys_in, covered, older, packet_of, RepairJudged}
use Rattle.wire.specs.Flows.{Announced}
use Rattle.sender.specs.Claims.{given, OfBytes}
use Rattle.sender.proofs.Repairing.{written_small}
use Rattle.sender.proofs.Ring.{below}
use Rattle.sender.proofs.Running.{impossible, symbols-append, ran, run_holds, run_valid}
use Rattle.sender.proofs.Saying.{key_is}
use Rattle.sender.proofs.Judging.{sender_judged, announced-only}
use Rattle.claims.specs.Written.{Packet, repair, packets_of, Wrote, wrote_source, wrote_repair}
use Rattle.claims.specs.SentAdus.{Begins, Sent, sent-source, sent-repair, AllSent, SenderSends}

-- a packet that was written is the front of the output
front : (packet : List ℕ) (n : ℕ) (out out' : List ℕ) → Writes packet (value n) out out' → take n out' ≡ packet
front packet n out out' w = let e : length packet ≡ n = cc w.answer in rw w.output (take_at packet (drop (length packet) out) n e)

module _ (t : Setting) (v : Valid t) (flows : List ℕ) (xs : List (List ℕ)) (m : List ℕ) where
  open t use {scheme, size as E, width}

  -- an ADU that was taken
  adu-packet : (flow : ℕ) (adu out : List ℕ) (n : ℕ) (m' out' : List ℕ) → Announced flows flow
      → AduJudged t flows xs m flow adu out (value n) m' out' → take n out' ≡ source_packet adu (length xs % 2 ^ 32)
  adu-packet flow adu out n m' out' a p =
      below 65535 (length adu) (λ g. absurd (impossible n 4 (p.long a (λ k. omega (arith, k.0))).answer))
      (λ l. below (width * E) (3 + length adu) (λ g. absurd (impossible n 4 (p.long a (λ k. omega (arith, k.1))).answer))
      (λ h. below (length out) (length adu + 4) (λ g. absurd (impossible n 2 (p.short a (l, h) g).answer))
      (λ g. front _ n out out' (p.takes a (l, h) g).0)))

  -- repair that was made
  record Repaired (key dt count : ℕ) (packet : List ℕ) : Type 0 where
    ranged : Ranged dt count
    some-taken : ¬ (xs ≡ [])
    ok : all_ok scheme dt (covered t xs) (keys_in t key dt count) ≡ true
    is : packet ≡ packet_of t xs key dt count

  repair-packet : (key dt count : ℕ) (out : List ℕ) (n d : ℕ) (out' : List ℕ) → RepairJudged t xs m key dt count out (value n) d out'
      → Repaired key dt count (take n out')
  repair-packet key dt count out n d out' p =
      below 15 dt (λ g. absurd (impossible n 6 (p.range (λ k. omega (arith, k.0))).answer))
      (λ i. below count 1 (λ g. absurd (impossible n 6 (p.range (λ k. omega (arith, k.1))).answer))
      (λ j. below 16 count (λ g. absurd (impossible n 6 (p.range (λ k. omega (arith, k.2))).answer))
      (λ k. ranged (i, j, k) xs refl)))
    where
      drawn : Ranged dt count → ¬ (xs ≡ []) → 8 + count * E ≤ length out → (b : Bool) → all_ok scheme dt (covered t xs) (keys_in t key dt count) ≡ b
          → Repaired key dt count (take n out')
      drawn k z l true e = record { ranged = k; some-taken = z; ok = e; is = front _ n out out' (p.makes k z l e).0 }
      drawn k z l false e =
          absurd (impossible n 10 (p.draws_fail k z l (λ h. let z : ◌≡◌ {A = ℕ} 0 1 = cc in omega arith)).answer)

      ranged : Ranged dt count → (l : List (List ℕ)) → xs ≡ l → Repaired key dt count (take n out')
      ranged k [] e = absurd (impossible n 7 (p.empty k e).answer)
      ranged k (x ∷ l) e =
          let z : ¬ (xs ≡ []) = λ f. omega (arith, ap length e, ap length f) in
          below (length out) (8 + count * E) (λ g. absurd (impossible n 2 (p.short k z g).answer)) (λ g. drawn k z g _ refl)

  -- the key has 16 bits
  key_small : (key dt : ℕ) → key < 2 ^ 16 → key_in t key dt < 2 ^ 16
  key_small key dt h = rw (← key_is t v flows xs key dt) (written_small scheme key dt h)

  some_symbol : (l : List (List ℕ)) → ¬ (l ≡ []) → 1 ≤ length l
  some_symbol [] n = absurd (n refl)
  some_symbol (x ∷ l) n = omega arith

  repair_wrote : (more : List (List ℕ)) (key dt count : ℕ) (packet : List ℕ) → key < 2 ^ 16 → Repaired key dt count packet
      → Wrote scheme E (xs ++ more) (repair packet) (length (take (older t xs) xs))
  repair_wrote more key dt count packet small p =
      let window = drop (older t xs) xs in
      let n : length window ≡ covered t xs = length-drop (older t xs) xs ∙ omega arith in
      let k : length (take (older t xs) xs) ≡ older t xs = length-take (older t xs) xs ∙ omega arith in
      let from : ℕ → ℕ → List ℕ = λ i j. repair_packet (key_in t key dt) dt i (j % 2 ^ 32)
      (map (λ (c : List ℕ). combination E c window) (lists_of scheme dt i (keys_in t key dt count))) in
      let e : from (length window) (length (take (older t xs) xs)) ≡ packet = ap₂ from n k ∙ sym p.is in
      rw (← e)
      (wrote_repair (take (older t xs) xs) window more (key_in t key dt) dt count (key_small key dt small) p.ranged.0
      (omega (arith, n, some_symbol xs p.some-taken, v.width_least)) (omega (arith, n, v.width_most)) p.ranged.1 p.ranged.2 (rw n p.ok)
      (rw (← append_assoc, take-append-drop)))

-- ---- the list

module _ (t : Setting) (v : Valid t) (l : List SenderCall) (r : SenderRun t l) where
  moved : (before : List SenderCall) (x : SenderCall) (after : List SenderCall) → l ≡ before ++ (x ∷ after) → l ≡ (before ++ (x ∷ [])) ++ after
  moved before x after e = e ∙ sym (append_snoc before x after)

  sends : (before after : List SenderCall) → l ≡ before ++ after → OfBytes (map given after) → AllSent t.scheme t.size l (packets_of after)
  sends before [] e b = tt
  sends before (added flow adu out (Ok n) m' out' ∷ after) e (f, a, b) =
      let xs = symbols_of t.size before in
      let x = added flow adu out (Ok n) m' out' in
      let g : Begins t.size l (length xs) flow adu
      = record { before = before; after = after; out = out; answer = n; m' = m'; out' = out'; split = e; place = refl } in
      let known = announced-only t l r before flow adu out n m' out' after e in
      let p = adu-packet t v r.flows xs _ flow adu out n m' out' known (sender_judged t l r before x after e) in
      ((length xs, rw p (sent-source g)), sends (before ++ (x ∷ [])) after (moved before x after e) b)
  sends before (added flow adu out (Err k) m' out' ∷ after) e (f, a, b) =
      let x = added flow adu out (Err k) m' out' in sends (before ++ (x ∷ [])) after (moved before x after e) b
  sends before (repaired key dt count out (Ok (n, d)) out' ∷ after) e (k, b) =
      let xs = symbols_of t.size before in
      let x = repaired key dt count out (Ok (n, d)) out' in
      let p = repair-packet t v r.flows xs _ key dt count out n d out' (sender_judged t l r before x after e) in
      let w = repair_wrote t v r.flows xs _ (symbols_of t.size after) key dt count (take n out') k p in
      let s : symbols_of t.size l ≡ xs ++ symbols_of t.size after = ap (symbols_of t.size) e ∙ symbols-append t.size before (x ∷ after) in
      let p = length (take (older t xs) xs) in
      ((p, sent-repair {p = p} {x = take n out'} (rw s w)), sends (before ++ (x ∷ [])) after (moved before x after e) b)
  sends before (repaired key dt count out (Err k) out' ∷ after) e (i, b) =
      let x = repaired key dt count out (Err k) out' in sends (before ++ (x ∷ [])) after (moved before x after e) b

of-bytes : (m : List ℕ) (l : List SenderCall) → Calls m l → OfBytes (map given l)
of-bytes m [] c = tt
of-bytes m (added flow adu out r m' out' ∷ l) (f, b, p, c) = (f, b, of-bytes m' l c)
of-bytes m (repaired key dt count out r out' ∷ l) (k, p, c) = (k, of-bytes m l c)

pub sender_sends : SenderSends
sender_sends t l r = sends t (run_valid t l r) l r [] l refl (of-bytes r.after l r.calls)

-- ---- an ADU that was taken

-- a flow, bytes, and no more than its length's two bytes can say
pub record Taken (flow : ℕ) (adu : List ℕ) : Type 0 where
  pub flow_byte : flow < 256
  pub adu-bytes : Bytes adu
  pub short : length adu ≤ 65535

pub begun : (t : Setting) (l : List SenderCall) → SenderRun t l → (p flow : ℕ) (adu : List ℕ) → Begins t.size l p flow adu → Taken flow adu
begun t l r p flow adu b =
    let x = added flow adu b.out (Ok b.answer) b.m' b.out' in
    let (h, c) = ran t r.flows [] r.after b.before (x ∷ b.after) (run_holds t l r) (rw b.split at r.calls) in
    let (f, g, q, d) = c in
    let j = sender_judged t l r b.before x b.after b.split in
    let known = announced-only t l r b.before flow adu b.out b.answer b.m' b.out' b.after b.split in
    let s : length adu ≤ 65535 = below 65535 (length adu) (λ k. absurd (impossible _ 4 (j.long known (λ e. omega (arith, e.0))).answer)) (λ k. k) in
    record { flow_byte = f; adu-bytes = g; short = s }

-- its symbols stand among the sender's
pub begun-symbols : (E : ℕ) (l : List SenderCall) (p flow : ℕ) (adu : List ℕ) (b : Begins E l p flow adu)
    → symbols_of E l ≡ symbols_of E b.before ++ (source_symbols flow adu E ++ symbols_of E b.after)
begun-symbols E l p flow adu b = ap (symbols_of E) b.split ∙ symbols-append E b.before _

-- a packet of the sender's is of its symbols
pub sent_wrote : (t : Setting) (l : List SenderCall) → SenderRun t l → (x : Packet) (p : ℕ) → Sent t.scheme t.size l x p
    → Wrote t.scheme t.size (symbols_of t.size l) x p
sent_wrote t l r x p (sent-source {flow = flow} {adu = adu} b) =
    let g = begun t l r p flow adu b in
    rw b.place (wrote_source (symbols_of t.size b.before) (symbols_of t.size b.after) flow adu g.flow_byte g.adu-bytes g.short
    (begun-symbols t.size l p flow adu b))
sent_wrote t l r x p (sent-repair w) = w
