-- Computed from the definitions of the calls: refusals in their order, the limits of memory and of ADUs, flows that are announced and not, the keys and
-- density thresholds that are written, and windows that have lost symbols: one table, one result.
use Rattle.std.specs.Prelude.{◌≡◌, ◌-◌, ◌∷◌, ◌++◌}
use Rattle.words.specs.Words.{ℕ, List, length, refl, [], get_or, map}
use Rattle.tinymt.specs.Computing.{computing}
use Rattle.field.specs.Gf256.{product}
use Rattle.memory.specs.Part.{part}
use Rattle.rows.specs.Combination.{combination}
use Rattle.wire.specs.declared.Scheme.TheVariants.{Gf2}
use Rattle.wire.specs.Settings.{in_range, setting_of}
use Rattle.wire.specs.Flows.{announced, all_flows}
use Rattle.wire.specs.Packets.{zeros, symbol_count, adui, source_symbols, source_packet, repair_header, repair_packet, density_threshold}
use Rattle.coefficients.specs.Coefficients.{nonzero_from, bit_of, byte_of, extend, coefficients_of}
use Rattle.sender.specs.State.{Sender, fresh, header_size}
use Rattle.sender.specs.Repair.{repair_symbol}
use Rattle.sender.specs.Calls.{Outcome, refused, done, opening, adding, repairing}

-- a line of the table: the number of a refusal, the packet that a call writes, or numbers
pub data Line : Type 0 where
  refusal : ℕ → Line
  packet : List ℕ → Line
  numbers : List ℕ → Line

abbrev line : Outcome → Line
line (refused n) = refusal n
line (done p s) = packet p

-- the packet that a call writes, and the sender after it
abbrev written : Outcome → List ℕ
written (refused n) = []
written (done p s) = p

abbrev after : Outcome → Sender
after (refused n) = fresh (record { scheme = Gf2; size = 0; width = 0 }) []
after (done p s) = s

-- the flows of one byte announced, the i-th
abbrev only : (i byte : ℕ) → List ℕ
only i byte = zeros i ++ (byte ∷ zeros (31 - i))

-- a fresh sender of a scheme, E 4 and width 2; and one that took the ADUs of a list, with F 1
abbrev opened : (scheme : ℕ) → Sender
opened scheme = after (opening scheme 4 2 all_flows 72)

abbrev took : (scheme : ℕ) → List (List ℕ) → Sender
took scheme [] = opened scheme
took scheme (adu ∷ l) = after (adding (took scheme l) 1 adu 9)

-- senders that took an ADU of one byte; two; and, with width 2, three, an ADU of two bytes and one of one, and two of one and one of two
abbrev one : (scheme : ℕ) → Sender
one scheme = took scheme ((0x41 ∷ []) ∷ [])

abbrev two : (scheme : ℕ) → Sender
two scheme = took scheme ((0x42 ∷ []) ∷ (0x41 ∷ []) ∷ [])

abbrev three : Sender
three = took 9 ((0x43 ∷ []) ∷ (0x42 ∷ []) ∷ (0x41 ∷ []) ∷ [])

abbrev inside : Sender
inside = took 9 ((0x43 ∷ []) ∷ (1 ∷ 2 ∷ []) ∷ [])

abbrev all_new : Sender
all_new = took 9 ((1 ∷ 2 ∷ []) ∷ (0x42 ∷ []) ∷ (0x41 ∷ []) ∷ [])

-- E 1,500 and width 255, the largest
abbrev largest : Sender
largest = after (opening 10 1500 255 all_flows 382564)

-- one that announces the flows of one byte; and the refusals, 0 for none, of an empty ADU of each flow of a list
abbrev announces : (i byte : ℕ) → Sender
announces i byte = after (opening 9 4 2 (only i byte) 72)

abbrev number : Outcome → ℕ
number (refused n) = n
number (done p s) = 0

abbrev refusals : Sender → List ℕ → Line
refusals s flows = numbers (map (λ (flow : ℕ). number (adding s flow [] 4)) flows)

-- every density threshold
abbrev thresholds : List ℕ
thresholds = 0 ∷ 1 ∷ 2 ∷ 3 ∷ 4 ∷ 5 ∷ 6 ∷ 7 ∷ 8 ∷ 9 ∷ 10 ∷ 11 ∷ 12 ∷ 13 ∷ 14 ∷ 15 ∷ []

pub calls :
    -- opening: 1 before 2; memory one byte short, and just enough, for the smallest sender and the largest
    line (opening 8 4 1 all_flows 0) ∷ line (opening 9 3 1 all_flows 0) ∷ line (opening 9 4 256 all_flows 0)
    ∷ line (opening 9 4 1 all_flows 67) ∷ line (opening 9 4 1 all_flows 68) ∷ line (opening 10 1500 255 all_flows 382563) ∷ line (opening 10 1500 255 all_flows 382564)
    -- an ADU of a flow that is not announced, of a symbol too many, with no output: 16 before 4; with output one byte short: 16 before 2; and of one that is
    ∷ line (adding (announces 0 1) 1 (zeros 6) 0) ∷ line (adding (announces 0 1) 1 (zeros 5) 8) ∷ line (adding (announces 0 2) 1 (zeros 6) 0)
    ∷ line (adding (announces 0 2) 1 (zeros 5) 8)
    -- flows 0, 7, 8 and 255, each announced alone; flows 1 to 6; and none
    ∷ refusals (announces 0 0x01) (0 ∷ 1 ∷ 7 ∷ 8 ∷ 255 ∷ []) ∷ refusals (announces 0 0x80) (7 ∷ 0 ∷ 6 ∷ 8 ∷ 15 ∷ [])
    ∷ refusals (announces 1 0x01) (8 ∷ 0 ∷ 7 ∷ 9 ∷ 15 ∷ []) ∷ refusals (announces 31 0x80) (255 ∷ 0 ∷ 7 ∷ 248 ∷ 254 ∷ [])
    ∷ refusals (announces 0 0x7E) (0 ∷ 1 ∷ 6 ∷ 7 ∷ 8 ∷ []) ∷ refusals (announces 0 0) (0 ∷ 1 ∷ 7 ∷ 8 ∷ 255 ∷ [])
    -- an ADU of a symbol too many with no output: 4 before 2; one that fills the window, with output one byte short, and enough
    ∷ line (adding (opened 9) 1 (zeros 6) 0) ∷ line (adding (opened 9) 1 (zeros 5) 8) ∷ line (adding (opened 9) 1 (zeros 5) 9)
    -- an empty ADU, with output one byte short, and enough
    ∷ line (adding (opened 9) 1 [] 3) ∷ line (adding (opened 9) 1 [] 4)
    -- an ADU of 65,536 bytes, in 44 symbols, with no output: 4 before 2; and of 65,535
    ∷ line (adding largest 1 (zeros 65536) 0) ∷ line (adding largest 1 (zeros 65535) 0)
    -- DT 16, and 0 and 17 repair symbols, of an empty window with no output: 6 before 7; of one symbol: 6 before 2
    ∷ line (repairing (opened 9) 1 16 1 0) ∷ line (repairing (opened 9) 1 15 0 0) ∷ line (repairing (opened 9) 1 15 17 0)
    ∷ line (repairing (one 9) 1 16 1 0) ∷ line (repairing (one 9) 1 15 0 0) ∷ line (repairing (one 9) 1 15 17 0)
    -- an empty window with no output: 7 before 2; output one byte short, for 1 and for 16 repair symbols, and enough for 16
    ∷ line (repairing (opened 9) 1 15 1 0) ∷ line (repairing (one 9) 1 15 1 11) ∷ line (repairing (one 9) 1 15 16 71)
    ∷ numbers (length (written (repairing (one 9) 1 15 16 72)) ∷ [])
    -- key 258: with DT 15 written as 0 in scheme 9 and kept in scheme 10, with DT 14 kept
    ∷ line (repairing (one 9) 258 15 1 12) ∷ line (repairing (one 10) 258 15 1 12) ∷ line (repairing (one 9) 258 14 1 12)
    -- every DT is read back from the packet, in both schemes, and decides the coefficients: the last byte of the symbol of key 1 in scheme 9
    ∷ numbers (map (λ (dt : ℕ). density_threshold (written (repairing (two 9) 1 dt 1 12))) thresholds)
    ∷ numbers (map (λ (dt : ℕ). density_threshold (written (repairing (two 10) 1 dt 1 12))) thresholds)
    ∷ numbers (map (λ (dt : ℕ). get_or (written (repairing (two 9) 1 dt 1 12)) 11 0) thresholds)
    -- scheme 10, two repair symbols from key 65,535 on; and those of the keys 65,535 and 0
    ∷ line (repairing (two 10) 65535 15 2 16) ∷ line (repairing (two 10) 65535 15 1 12) ∷ line (repairing (two 10) 0 15 1 12)
    -- the ESI of a third symbol; and the repair packet over the last two, from ESI 1 on
    ∷ line (adding (two 9) 1 (0x43 ∷ []) 5) ∷ line (repairing three 7 15 1 12)
    -- a window that begins inside an ADU; and an ADU that fills the window, from ESI 2 on
    ∷ line (repairing inside 7 15 1 12) ∷ line (repairing all_new 7 15 1 12)
    ∷ []
    ≡ refusal 1 ∷ refusal 1 ∷ refusal 1
    ∷ refusal 2 ∷ packet [] ∷ refusal 2 ∷ packet []
    ∷ refusal 16 ∷ refusal 16 ∷ refusal 4 ∷ refusal 2
    ∷ numbers (0 ∷ 16 ∷ 16 ∷ 16 ∷ 16 ∷ []) ∷ numbers (0 ∷ 16 ∷ 16 ∷ 16 ∷ 16 ∷ [])
    ∷ numbers (0 ∷ 16 ∷ 16 ∷ 16 ∷ 16 ∷ []) ∷ numbers (0 ∷ 16 ∷ 16 ∷ 16 ∷ 16 ∷ [])
    ∷ numbers (16 ∷ 0 ∷ 0 ∷ 16 ∷ 16 ∷ []) ∷ numbers (16 ∷ 16 ∷ 16 ∷ 16 ∷ 16 ∷ [])
    ∷ refusal 4 ∷ refusal 2 ∷ packet (zeros 9)
    ∷ refusal 2 ∷ packet (zeros 4)
    ∷ refusal 4 ∷ refusal 2
    ∷ refusal 6 ∷ refusal 6 ∷ refusal 6 ∷ refusal 6 ∷ refusal 6 ∷ refusal 6
    ∷ refusal 7 ∷ refusal 2 ∷ refusal 2 ∷ numbers (72 ∷ [])
    ∷ packet (0 ∷ 0 ∷ 0xF0 ∷ 1 ∷ 0 ∷ 0 ∷ 0 ∷ 0 ∷ 1 ∷ 0 ∷ 1 ∷ 0x41 ∷ [])
    ∷ packet (1 ∷ 2 ∷ 0xF0 ∷ 1 ∷ 0 ∷ 0 ∷ 0 ∷ 0 ∷ 30 ∷ 0 ∷ 30 ∷ 205 ∷ [])
    ∷ packet (1 ∷ 2 ∷ 0xE0 ∷ 1 ∷ 0 ∷ 0 ∷ 0 ∷ 0 ∷ 1 ∷ 0 ∷ 1 ∷ 0x41 ∷ [])
    ∷ numbers thresholds ∷ numbers thresholds
    ∷ numbers (0 ∷ 0x42 ∷ 0x42 ∷ 0x42 ∷ 0x42 ∷ 3 ∷ 3 ∷ 3 ∷ 3 ∷ 3 ∷ 3 ∷ 3 ∷ 3 ∷ 3 ∷ 3 ∷ 3 ∷ [])
    ∷ packet (0xFF ∷ 0xFF ∷ 0xF0 ∷ 2 ∷ 0 ∷ 0 ∷ 0 ∷ 0 ∷ 243 ∷ 0 ∷ 243 ∷ 177 ∷ 13 ∷ 0 ∷ 13 ∷ 20 ∷ [])
    ∷ packet (0xFF ∷ 0xFF ∷ 0xF0 ∷ 2 ∷ 0 ∷ 0 ∷ 0 ∷ 0 ∷ 243 ∷ 0 ∷ 243 ∷ 177 ∷ [])
    ∷ packet (0 ∷ 0 ∷ 0xF0 ∷ 2 ∷ 0 ∷ 0 ∷ 0 ∷ 0 ∷ 13 ∷ 0 ∷ 13 ∷ 20 ∷ [])
    ∷ packet (0x43 ∷ 0 ∷ 0 ∷ 0 ∷ 2 ∷ []) ∷ packet (0 ∷ 0 ∷ 0xF0 ∷ 2 ∷ 0 ∷ 0 ∷ 0 ∷ 1 ∷ 0 ∷ 0 ∷ 0 ∷ 1 ∷ [])
    ∷ packet (0 ∷ 0 ∷ 0xF0 ∷ 2 ∷ 0 ∷ 0 ∷ 0 ∷ 1 ∷ 3 ∷ 0 ∷ 1 ∷ 0x43 ∷ []) ∷ packet (0 ∷ 0 ∷ 0xF0 ∷ 2 ∷ 0 ∷ 0 ∷ 0 ∷ 2 ∷ 3 ∷ 0 ∷ 2 ∷ 1 ∷ [])
    ∷ []
unfolding
    computing product nonzero_from bit_of byte_of extend coefficients_of combination part
    symbol_count adui source_symbols source_packet repair_header repair_packet density_threshold
    in_range setting_of announced header_size repair_symbol opening adding repairing
calls = refl
