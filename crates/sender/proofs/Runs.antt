-- Every list of a sender's calls has a run: each call has an answer, a memory and an output to leave, that its promise allows.
-- Index
--   placed_all: symbols placed one after the other
--   add, make: one call
--   runs, runs_exist: all calls
use Rattle.std.specs.Prelude.{◌≡◌, ◌≤◌, ◌+◌, ◌<◌, ◌%◌, ◌∷◌, ◌*◌, ◌^◌, ◌||◌, Result, Ok, Err}
use Rattle.words.specs.Words.{arith, ℕ, List, length, refl, ap, [], Some, suc, true, zero, get_or, false, Bool, take, ltb}
use Rattle.words.specs.Words.{map, lt-ltb, le-ltb, not, min, take_all}
use lib.Seq.{take-suc}
use Rattle.memory.specs.Part.{splice}
use Rattle.wire.specs.declared.Refusal.{Refusal}
use Rattle.wire.specs.declared.Refusal.TheVariants as refusals
use Rattle.wire.specs.Numbers.{within, number_of}
use Rattle.wire.specs.Settings.{scheme_number, Valid}
use Rattle.wire.specs.Flows.{announced}
use Rattle.wire.specs.Packets.{longest_adu, symbol_count, source_symbols, source_packet}
use Rattle.wire.proofs.Adui.{symbols_count, symbol_length}
use Rattle.wire.proofs.Reading.{source-length}
use Rattle.wire.proofs.Settings.{setting-named}
use Rattle.coefficients.specs.Coefficients.{keys, all_ok, draws_of}
use Rattle.sender.specs.declared.Header.{Header}
use Rattle.sender.specs.State.{Sender, fresh, taken, header_size, header_in, header_of, Holds}
use Rattle.sender.specs.Repair.{written_key}
use Rattle.sender.specs.Calls as calls
use Rattle.sender.specs.Promises.{Adds, RepairMade}
use Rattle.sender.specs.Inner.{Placed, packet_from}
use Rattle.sender.specs.Run.{SenderCall, added, repaired, Calls}
use Rattle.sender.specs.Claims.{Given, given, OfBytes, RunsExist}
use Rattle.sender.specs.Claims as claims
use Rattle.sender.proofs.Heads.{opened}
use Rattle.sender.proofs.Promising.{promise_refused, promise_done, opening_done, adding-stray, adding-long, adding_many, adding_short, adding_done}
use Rattle.sender.proofs.Repairing.{repairing_range, repairing_empty, repairing_short}
use Rattle.sender.proofs.Combining.{repair-made, refused-made}
use Rattle.sender.proofs.Ring.{below, placed_none, placed_more}
use Rattle.sender.proofs.Taking.{took, begun, opens}

-- symbols placed one after the other
placed_all : (E w : ℕ) (m : List ℕ) (first : ℕ) (new : List (List ℕ)) → first < w → header_size + w * E ≤ length m
    → ((i : ℕ) → i < length new → length (get_or new i []) ≡ E) → (i : ℕ) → i ≤ length new → (m' : List ℕ) × (next : ℕ) × Placed E w m first (take i new) m' next
placed_all E w m first new h room sized zero k = (m, first, placed_none E w m first h)
placed_all E w m first new h room sized (suc i) k =
    let (m', next, p) = placed_all E w m first new h room sized i (omega arith) in
    let x = get_or new i [] in
    let l : i < length new = k in
    (splice (header_size + next * E) x m', (next + 1) % w, rw (take-suc new i [] l) (placed_more E w m first (take i new) m' next p x (sized i l) room))

module _ (m : List ℕ) (s : Sender) (held : Holds m s) where
  abbrev h : Header
  h = header_of s

  abbrev o : header_in m ≡ Some h
  o = held.header

  -- adding an ADU
  record Added (flow : ℕ) (adu out : List ℕ) : Type 0 where
    answer : Result ℕ Refusal
    memory : List ℕ
    output : List ℕ
    adds : Adds flow adu m out answer memory output
    sender : Sender
    holds : Holds memory sender

  add : (flow : ℕ) (adu out : List ℕ) → Added flow adu out
  add flow adu out = go (announced s.flows flow) refl
    where
      -- every sender that the memory holds announces the same
      same : (b : Bool) → announced s.flows flow ≡ b → (u : Sender) → Holds m u → announced u.flows flow ≡ b
      same b e u k = rw (← k.flows, held.flows) e

      refused : (n : Refusal) → (number_of n ≡ 3 → ⊥)
          → ((u : Sender) → Holds m u → h ≡ header_of u → calls.adding u flow adu (length out) ≡ calls.refused (number_of n)) → Added flow adu out
      refused n z g = record { answer = Err n; memory = m; output = out; adds = promise_refused _ m out h o n z g; sender = s; holds = held }

      taking : announced s.flows flow ≡ true → length adu ≤ longest_adu → symbol_count h.setting.size (length adu) ≤ h.setting.width
          → length adu + 4 ≤ length out → Added flow adu out
      taking e l n r =
          let E = h.setting.size in
          let w = h.setting.width in
          let g = opened m h o in
          let z : 0 < E = omega (arith, g.valid.size_least) in
          let new = source_symbols flow adu E in
          let count = symbol_count E (length adu) in
          let (m₁, next, p) = placed_all E w m h.next new g.next g.room
          (λ i k. symbol_length flow adu E z i (rw (symbols_count flow adu E) at k)) (length new) (omega arith) in
          let p' = rw (take_all (length new) new (omega arith)) at p in
          let k = took h flow adu m m₁ next count (min (h.held + count) w) o refl refl p' in
          record {
            answer = Ok (length adu + 4);
            memory = _;
            output = splice 0 (source_packet adu h.esi.0) out;
            adds = promise_done _ m out h o (source_packet adu h.esi.0) (length adu + 4) _ _ (source-length adu h.esi.0) r refl k.same k.past
                (λ u i q. (taken u flow adu, adding_done flow adu (length out) u (same true e u i) h q l n r, k.holds u i, ap (λ (x : Header). x.setting) q));
            sender = taken s flow adu;
            holds = k.holds s held;
          }

      go : (b : Bool) → announced s.flows flow ≡ b → Added flow adu out
      go false e = refused refusals.Unannounced (λ z. omega arith) (λ u k q. adding-stray flow adu (length out) u (same false e u k))
      go true e =
          below longest_adu (length adu) (λ l. refused refusals.Long (λ z. omega arith) (λ u k q. adding-long flow adu (length out) u (same true e u k) l))
          (λ l. below h.setting.width (symbol_count h.setting.size (length adu))
          (λ n. refused refusals.Long (λ z. omega arith) (λ u k q. adding_many flow adu (length out) u (same true e u k) h q l n))
          (λ n. below (length out) (length adu + 4)
          (λ r. refused refusals.Short (λ z. omega arith) (λ u k q. adding_short flow adu (length out) u (same true e u k) h q l n r))
          (λ r. taking e l n r)))

  -- making repair
  record Repaired (key dt count : ℕ) (out : List ℕ) : Type 0 where
    answer : Result (ℕ × ℕ) Refusal
    output : List ℕ
    made : RepairMade key dt count m out answer output

  make : (key dt count : ℕ) (out : List ℕ) → key < 2 ^ 16 → Repaired key dt count out
  make key dt count out small =
      below 15 dt (λ l. refused refusals.Range (λ e. omega arith) (λ u k q. repairing_range key dt count (length out) u (rw (lt-ltb 15 dt l))))
      (λ l. go (within 1 16 count) refl l)
    where
      refused : (n : Refusal) → (number_of n ≡ 3 → ⊥)
          → ((u : Sender) → Holds m u → h ≡ header_of u → calls.repairing u key dt count (length out) ≡ calls.refused (number_of n)) → Repaired key dt count out
      refused n z g = record { answer = Err n; output = out; made = refused-made key dt count m out n (promise_refused _ m out h o n z g) }

      drawn : (g : (ltb 15 dt || not (within 1 16 count)) ≡ false) → (h.held ≡ 0 → ⊥) → 8 + count * h.setting.size ≤ length out
          → (b : Bool) → all_ok h.setting.scheme dt h.held (keys (written_key h.setting.scheme key dt) count) ≡ b → Repaired key dt count out
      drawn g n r true e = record {
        answer = Ok (8 + count * h.setting.size, draws_of h.setting.scheme dt h.held (keys (written_key h.setting.scheme key dt) count));
        output = splice 0 (packet_from h m (written_key h.setting.scheme key dt) dt count) out;
        made = repair-made h key dt count m out o g small n r _ _ (rw e (refl, refl));
      }
      drawn g n r false e = record {
        answer = Err refusals.Draws;
        output = out;
        made = repair-made h key dt count m out o g small n r _ _ (rw e (refl, refl));
      }

      go : (b : Bool) → within 1 16 count ≡ b → dt ≤ 15 → Repaired key dt count out
      go false e l = refused refusals.Range (λ z. omega arith) (λ u k q. repairing_range key dt count (length out) u (rw (le-ltb 15 dt l, e)))
      go true e l =
          let g : (ltb 15 dt || not (within 1 16 count)) ≡ false = rw (le-ltb 15 dt l, e) in
          below 0 h.held
          (λ i. below (length out) (8 + count * h.setting.size)
          (λ r. refused refusals.Short (λ z. omega arith) (λ u k q. repairing_short key dt count (length out) u g h q (λ z. omega arith) r))
          (λ r. drawn g (λ z. omega arith) r _ refl))
          (λ i. refused refusals.Empty (λ z. omega arith) (λ u k q. repairing_empty key dt count (length out) u g h q (omega arith)))

runs : (gs : List Given) → OfBytes gs → (m : List ℕ) (s : Sender) → Holds m s → (l : List SenderCall) × Calls m l × (map given l ≡ gs)
runs [] b m s h = ([], tt, refl)
runs (claims.adding flow adu out ∷ gs) (f, a, b) m s h =
    let n = add m s h flow adu out in
    let (l, c, e) = runs gs b n.memory n.sender n.holds in
    (added flow adu out n.answer n.memory n.output ∷ l, (f, a, n.adds, c), ap (λ x. claims.adding flow adu out ∷ x) e)
runs (claims.repairing key dt count out ∷ gs) (k, b) m s h =
    let n = make m s h key dt count out k in
    let (l, c, e) = runs gs b m s h in
    (repaired key dt count out n.answer n.output ∷ l, (k, n.made, c), ap (λ x. claims.repairing key dt count out ∷ x) e)

pub runs_exist : RunsExist
unfolding header_size
runs_exist t k flows f m room gs b =
    let v : Valid t = let (e, e', w, w') = k.1 in record { size_least = e; size_most = e'; width_least = w; width_most = w' } in
    let d = opens t flows m f v room in
    let m' = begun t flows m in
    let (l, c, e) = runs gs b m' (fresh t flows) d.holds in (
      l,
      record {
        flows = flows;
        before = m;
        after = m';
        answer = Ok 0;
        opened = rw (opening_done (scheme_number t.scheme) t.size t.width flows m t (setting-named t v) room) d;
        answered = refl;
        calls = c;
      },
      refl,
      refl,
      e,
    )
