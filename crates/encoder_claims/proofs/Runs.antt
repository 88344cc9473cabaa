-- Every list of an encoder's calls has a run: each call has an answer, a memory and an output to leave, that its promise allows.
-- Index
--   add, make: one call
--   runs, runs_exist: all calls
use Rattle.std.specs.Prelude.{◌≡◌, ◌≤◌, ◌+◌, ◌<◌, ◌∷◌, Result, Ok, Err}
use Rattle.words.specs.Words.{arith, ℕ, List, length, refl, ap, [], Some, map, le-leb, lt-leb}
use Rattle.memory.specs.Part.{splice}
use Rattle.wire.specs.declared.Refusal.{Refusal}
use Rattle.wire.specs.declared.Refusal.TheVariants as refusals
use Rattle.wire.specs.Numbers.{number_of}
use Rattle.blocks.specs.declared.Block.{Block}
use Rattle.blocks.specs.Block.{Valid}
use Rattle.blocks.specs.Stored.{block_in, taken_in, block_bytes}
use Rattle.blocks.specs.Identifiers.{source_packet, repair_packet}
use Rattle.blocks.proofs.Values.{block_from, named_good}
use Rattle.block_encoder.specs.State.{Encoder, taken, Holds}
use Rattle.block_encoder.specs.Calls as calls
use Rattle.block_encoder.specs.Promises.{Adds, Makes}
use Rattle.block_encoder.specs.Inner.{symbol_from}
use Rattle.block_encoder.proofs.Promising.{promise_refused, opening_done, adding_short, adding_full, adding-long}
use Rattle.block_encoder.proofs.Promising.{repairing_short, repairing_low, repairing_high, repairing_early}
use Rattle.block_encoder.proofs.Encoding as encoding
use Rattle.block_encoder.proofs.Taking as taking
use Rattle.encoder_claims.specs.Run.{EncoderCall, added, repaired, Calls}
use Rattle.encoder_claims.specs.Claims.{Given, given, OfBytes, RunsExist}
use Rattle.encoder_claims.specs.Claims as claims
use Rattle.encoder_claims.proofs.Running.{below, holding}

module _ (m : List ℕ) (s : Encoder) (held : Holds m s) where
  abbrev b : Block
  b = s.block

  abbrev o : block_in 3 m ≡ Some b
  o = held.header

  abbrev t : ℕ
  t = taken_in m

  -- Adding an ADU.
  record Added (flow : ℕ) (adu out : List ℕ) : Type 0 where
    answer : Result ℕ Refusal
    memory : List ℕ
    output : List ℕ
    adds : Adds flow adu m out answer memory output
    encoder : Encoder
    holds : Holds memory encoder

  add : (flow : ℕ) (adu out : List ℕ) → Added flow adu out
  add flow adu out =
      below (length out) (length adu + 6)
      (λ l. refused refusals.Short (λ z. omega arith) (λ u k q. adding_short flow adu (length out) u (lt-leb (length adu + 6) (length out) l)))
      (λ l. below t b.k
      (λ n. below b.size (3 + length adu)
      (λ g. refused refusals.Long (λ z. omega arith)
      (λ u k q. adding-long flow adu (length out) u (le-leb (length adu + 6) (length out) l) b q t k.count n g))
      (λ g. takes l n g))
      (λ n. refused refusals.Block (λ z. omega arith)
      (λ u k q. adding_full flow adu (length out) u (le-leb (length adu + 6) (length out) l) b q t k.count n)))
    where
      refused : (n : Refusal) → (number_of n ≡ 3 → ⊥)
          → ((u : Encoder) → Holds m u → b ≡ u.block → calls.adding u flow adu (length out) ≡ calls.refused (number_of n)) → Added flow adu out
      refused n z g = record { answer = Err n; memory = m; output = out; adds = promise_refused _ m out b o n z g; encoder = s; holds = held }

      takes : length adu + 6 ≤ length out → t < b.k → 3 + length adu ≤ b.size → Added flow adu out
      takes l n g = record {
        answer = Ok (length adu + 6);
        memory = _;
        output = splice 0 (source_packet b t adu) out;
        adds = taking.added b flow t adu m o n g refl out _ _ _ (le-leb (length adu + 6) (length out) l) refl refl refl;
        encoder = taken s flow adu;
        holds = (taking.took b flow t adu m o n g refl).holds s held refl;
      }

  -- Making repair.
  record Repaired (esi : ℕ) (out : List ℕ) : Type 0 where
    answer : Result ℕ Refusal
    output : List ℕ
    makes : Makes esi m out answer output

  make : (esi : ℕ) (out : List ℕ) → Repaired esi out
  make esi out =
      below (length out) (b.size + 6)
      (λ l. refused refusals.Short (λ z. omega arith) (λ u k q. repairing_short esi (length out) u b q (lt-leb (b.size + 6) (length out) l)))
      (λ l. let room = le-leb (b.size + 6) (length out) l in
      below esi b.k (λ f. refused refusals.Block (λ z. omega arith) (λ u k q. repairing_low esi (length out) u b q room f))
      (λ f. below esi b.total
      (λ g. below t b.k
      (λ n. refused refusals.Empty (λ z. omega arith) (λ u k q. repairing_early esi (length out) u b q room f g t k.count n))
      (λ n. record {
        answer = Ok (b.size + 6);
        output = splice 0 (repair_packet b esi (symbol_from b.k b.size m esi)) out;
        makes = encoding.made b esi m out _ o room f g t refl n refl;
      }))
      (λ g. refused refusals.Block (λ z. omega arith) (λ u k q. repairing_high esi (length out) u b q room f g))))
    where
      refused : (n : Refusal) → (number_of n ≡ 3 → ⊥)
          → ((u : Encoder) → Holds m u → b ≡ u.block → calls.repairing u esi (length out) ≡ calls.refused (number_of n)) → Repaired esi out
      refused n z g = record { answer = Err n; output = out; makes = promise_refused _ m out b o n z g }

runs : (gs : List Given) → OfBytes gs → (m : List ℕ) (s : Encoder) → Holds m s → (l : List EncoderCall) × Calls m l × (map given l ≡ gs)
runs [] b m s h = ([], tt, refl)
runs (claims.adding flow adu out ∷ gs) (f, a, b) m s h =
    let n = add m s h flow adu out in
    let (l, c, e) = runs gs b n.memory n.encoder n.holds in
    (added flow adu out n.answer n.memory n.output ∷ l, (f, a, n.adds, c), ap (λ x. claims.adding flow adu out ∷ x) e)
runs (claims.repairing esi out ∷ gs) b m s h =
    let n = make m s h esi out in
    let (l, c, e) = runs gs b m s h in
    (repaired esi out n.answer n.output ∷ l, (n.makes, c), ap (λ x. claims.repairing esi out ∷ x) e)

pub runs_exist : RunsExist
runs_exist E k total number z w m room gs b =
    let block = block_from E k total number in
    let v : Valid block = record { size_least = z.0; size_most = z.1; values = w } in
    let d = taking.opens block m v room in
    let m' = splice 0 (block_bytes 3 block) m in
    let (l, c, e) = runs gs b m' (holding E k total number []) d.holds in (
      l,
      record {
        before = m;
        after = m';
        answer = Ok 0;
        opened = rw (opening_done E k total number m block (named_good E k total number z.0 z.1 w) room) d;
        answered = refl;
        calls = c;
      },
      refl,
      e,
    )
