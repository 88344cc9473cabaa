-- What each call of a sender comes to (document 01, "Packets"): the refusals in their order ("Why a call says no"; document 02, No. 7), else the packet that
-- is written and the sender after it. Refusal 3 comes before all of these.
use Rattle.std.specs.Prelude.{◌+◌, ◌%◌, ◌*◌, ◌^◌, ◌||◌}
use Rattle.words.specs.Words.{ℕ, List, length, [], Some, None, Bool, Option, cond, ltb, eqb, map, not}
use Rattle.wire.specs.declared.Setting.{Setting}
use Rattle.wire.specs.Numbers.{within}
use Rattle.wire.specs.Settings.{setting_of}
use Rattle.wire.specs.Flows.{announced}
use Rattle.wire.specs.Packets.{longest_adu, symbol_count, source_packet, repair_packet}
use Rattle.coefficients.specs.Coefficients.{keys, all_ok}
use Rattle.sender.specs.State.{Sender, window, window_start, fresh, taken, memory_size}
use Rattle.sender.specs.Repair.{repair_symbol, written_key}

-- what a call comes to: the number of a refusal; or the packet written, if any, and the sender after it
pub data Outcome : Type 0 where
  refused : ℕ → Outcome
  done : List ℕ → Sender → Outcome

-- the refusal n if the test holds, else what follows
abbrev pub refuse_if : Bool → ℕ → Outcome → Outcome
refuse_if t n o = cond t (refused n) o

-- opening with the flows that it announces, on `room` bytes of memory: refusals 1, 2
abbrev pub opening_with : Option Setting → (flows : List ℕ) (room : ℕ) → Outcome
opening_with None flows room = refused 1
opening_with (Some t) flows room = refuse_if (ltb room (memory_size t)) 2 (done [] (fresh t flows))

unfoldable pub opening : (scheme size width : ℕ) (flows : List ℕ) (room : ℕ) → Outcome
opening scheme size width flows room = opening_with (setting_of scheme size width) flows room

-- adding an ADU of a flow, with `room` bytes of output: refusals 16, 4, 2
unfoldable pub adding : Sender → (flow : ℕ) (adu : List ℕ) (room : ℕ) → Outcome
adding s flow adu room =
    refuse_if (not (announced s.flows flow)) 16
    (refuse_if (ltb longest_adu (length adu) || ltb s.setting.width (symbol_count s.setting.size (length adu))) 4
    (refuse_if (ltb room (length adu + 4)) 2
    (done (source_packet adu (length s.symbols % 2 ^ 32)) (taken s flow adu))))

-- the repair packet over the whole window, of `count` repair symbols from a key on
abbrev pub repair_of : Sender → (key dt count : ℕ) → List ℕ
repair_of s key dt count =
    repair_packet key dt (length (window s)) (window_start s % 2 ^ 32)
    (map (repair_symbol s.setting.scheme dt s.setting.size (window s)) (keys key count))

-- making repair, with `room` bytes of output: refusals 6, 7, 2, 10
unfoldable pub repairing : Sender → (key dt count room : ℕ) → Outcome
repairing s key dt count room =
    let written = written_key s.setting.scheme key dt in
    refuse_if (ltb 15 dt || not (within 1 16 count)) 6
    (refuse_if (eqb (length (window s)) 0) 7
    (refuse_if (ltb room (8 + count * s.setting.size)) 2
    (refuse_if (not (all_ok s.setting.scheme dt (length (window s)) (keys written count))) 10
    (done (repair_of s written dt count) s))))
