-- The bench sheet of document 01 (C1 to C12, C10 as document 02 has it), the small examples of its refusals, cases at the limits of place and density,
-- of joining, of starts and of the ADU call, computed from the definitions that the promises use, from the packets' bytes on: one table, one result. All
-- flows are announced throughout (document 02, No. 7).
use Rattle.std.specs.Prelude.{◌≡◌, ◌∷◌, ◌*◌}
use Rattle.words.specs.Words.{[], ℕ, List, refl, Some, None, Option, map}
use Rattle.history.specs.Computing.{computing}
use Rattle.field.specs.Gf256.{product}
use Rattle.field.specs.Powers.{inverse}
use Rattle.rows.specs.Combination.{combination}
use Rattle.wire.specs.declared.Scheme.TheVariants.{Gf2, Gf256}
use Rattle.wire.specs.declared.Setting.{Setting}
use Rattle.wire.specs.Settings.{in_range, setting_of}
use Rattle.wire.specs.Stored.{field, setting_in}
use Rattle.wire.specs.Flows.{all_flows}
use Rattle.wire.specs.Packets.{zeros, source_packet, repair_header, repair_packet}
use Rattle.coefficients.specs.Coefficients.{coefficients_of, packet_draws}
use Rattle.sender.specs.declared.Header.{Header}
use Rattle.sender.specs.State.{Sender, fresh, header_size, header_in}
use Rattle.sender.specs.Repair.{repair_symbol}
use Rattle.sender.specs.Calls.{Outcome, refused, done, opening, adding, repairing}
use Rattle.starts.specs.Adu.{Handing, hands, withholds}
use Rattle.history.specs.Symbol.{bytes_of}
use Rattle.history.specs.History.{Call, source-call, repair-call}
use Rattle.wire.specs.Answers.{Said, value, refusal as refuses}
use Rattle.receiver.specs.Promises.{draws_for, opening as opens}
use Rattle.history.specs.Model.{Finding, shows, hides, finding, adu_at}
use Rattle.history.specs.Facts.{begun, called}

-- what the symbol call and the part show for an ESI: an answer, and bytes
pub record Sight : Type 0 where
  pub answer : Said
  pub bytes : List ℕ

-- an ADU call: the ESI, and how many bytes of output it has
pub record Ask : Type 0 where
  pub esi : ℕ
  pub room : ℕ

-- a line of the sheet: numbers, the bytes of a packet, or the number of a refusal; or what packet calls answered, and what was shown or handed out
-- after them
pub data Line : Type 0 where
  numbers : List ℕ → Line
  packet : List ℕ → Line
  refusal : ℕ → Line
  received : (answers : List Said) (sights : List Sight) → Line
  handed : (answers : List Said) (adus : List Handing) → Line

-- ---- a sender

-- what a call comes to, and the sender after it where it is done
abbrev line : Outcome → Line
line (refused n) = refusal n
line (done p s) = packet p

abbrev after : Outcome → Sender
after (refused n) = fresh (record { scheme = Gf2; size = 0; width = 0 }) []
after (done p s) = s

-- a call on memory without a sender's header
abbrev headed : Option Header → Line
headed None = refusal 3
headed (Some h) = packet []

-- scheme 9, E 4, width 2, and the two ADUs of C7 with F 1
abbrev opened : Sender
opened = after (opening 9 4 2 all_flows 72)

abbrev first : Outcome
first = adding opened 1 (0x41 ∷ []) 5

abbrev second : Outcome
second = adding (after first) 1 (0x42 ∷ []) 5

-- ---- a receiver

module _ (s : Setting) where
  abbrev seen : Finding s.size → Sight
  seen (shows p v) = record { answer = value 0; bytes = bytes_of s.size v }
  seen (hides n) = record { answer = refuses n; bytes = [] }

  -- the calls of a list from a fresh receiver, and what is shown for some ESIs after them
  abbrev case : List Call → List ℕ → Line
  case cs es =
      let a = called s all_flows (begun s) cs in
      received a.answers (map (λ e. seen (finding s a.state e)) es)

  -- the calls of a list from a fresh receiver, and what is handed out after them
  abbrev handing_case : List Call → List Ask → Line
  handing_case cs asks =
      let a = called s all_flows (begun s) cs in
      handed a.answers (map (λ (q : Ask). adu_at s all_flows a.state a.marks q.room q.esi) asks)

-- scheme 9 and scheme 10, E 4
abbrev pub gf2 : ℕ → Setting
gf2 w = record { scheme = Gf2; size = 4; width = w }

abbrev gf256 : ℕ → Setting
gf256 w = record { scheme = Gf256; size = 4; width = w }

-- F 1: source packets of an ADU of no byte and of two, which takes two symbols, with the ESI of these bytes; and of one byte, with a small ESI
abbrev empty_at : (a b c d : ℕ) → Call
empty_at a b c d = source-call 1 (a ∷ b ∷ c ∷ d ∷ [])

abbrev two_at : (a b c d : ℕ) → Call
two_at a b c d = source-call 1 (7 ∷ 7 ∷ a ∷ b ∷ c ∷ d ∷ [])

abbrev pub adu : (byte esi : ℕ) → Call
adu b e = source-call 1 (b ∷ 0 ∷ 0 ∷ 0 ∷ e ∷ [])

-- the source packet of an ADU of no byte at ESI 0, which as the first packet sets base 0 and marks the positions 0 and 1; and at ESI 305419896
abbrev at_zero : Call
at_zero = empty_at 0 0 0 0

abbrev far : Call
far = empty_at 0x12 0x34 0x56 0x78

-- a repair packet of key 0 and DT 15 over n symbols from ESI 0 on, whose one repair symbol ends in a byte
abbrev pub repair-of : (n byte : ℕ) → Call
repair-of n b = repair-call (0 ∷ 0 ∷ 0xF0 ∷ n ∷ 0 ∷ 0 ∷ 0 ∷ 0 ∷ 0 ∷ 0 ∷ 0 ∷ b ∷ [])

-- a repair packet of the key of these bytes and DT 4 over five symbols from ESI 0 on, whose `count` repair symbols are zero
abbrev five_by : (a b count : ℕ) → Call
five_by a b count = repair-call (a ∷ b ∷ 0x40 ∷ 5 ∷ 0 ∷ 0 ∷ 0 ∷ 0 ∷ zeros (count * 4))

-- a repair packet of key 1 and a DT over one symbol, its bytes zero
abbrev zero_at : (dt : ℕ) → Call
zero_at dt = repair-call (0 ∷ 1 ∷ dt * 16 ∷ 1 ∷ 0 ∷ 0 ∷ 0 ∷ 0 ∷ 0 ∷ 0 ∷ 0 ∷ 0 ∷ [])

-- a repair packet over the one symbol at a small ESI, which is these bytes
abbrev pub symbol_call : (esi a b c d : ℕ) → Call
symbol_call e a b c d = repair-call (0 ∷ 0 ∷ 0xF0 ∷ 1 ∷ 0 ∷ 0 ∷ 0 ∷ e ∷ a ∷ b ∷ c ∷ d ∷ [])

-- the same in scheme 10, with key 1: its coefficient is 37 (C4)
abbrev scaled_at : (esi a b c d : ℕ) → Call
scaled_at e a b c d =
    repair-call (0 ∷ 1 ∷ 0xF0 ∷ 1 ∷ 0 ∷ 0 ∷ 0 ∷ e ∷ product 37 a ∷ product 37 b ∷ product 37 c ∷ product 37 d ∷ [])

-- two unlike repair symbols for the symbol at ESI 0; and one that is not zero, of key 1 and DT 4, whose coefficient for it is zero
abbrev unlike : Call
unlike = repair-call (0 ∷ 0 ∷ 0xF0 ∷ 1 ∷ 0 ∷ 0 ∷ 0 ∷ 0 ∷ 0 ∷ 0 ∷ 0 ∷ 1 ∷ 0 ∷ 0 ∷ 0 ∷ 2 ∷ [])

abbrev of_nothing : Call
of_nothing = repair-call (0 ∷ 1 ∷ 0x40 ∷ 1 ∷ 0 ∷ 0 ∷ 0 ∷ 0 ∷ 0 ∷ 0 ∷ 0 ∷ 1 ∷ [])

-- packets that their form rules out: of an ADU of six bytes, which takes three symbols; a source packet of three bytes; a repair packet of nine
abbrev long : Call
long = source-call 1 (1 ∷ 2 ∷ 3 ∷ 4 ∷ 5 ∷ 6 ∷ 0 ∷ 0 ∷ 0 ∷ 0 ∷ [])

abbrev short_source : Call
short_source = source-call 1 (0 ∷ 0 ∷ 0 ∷ [])

abbrev short_repair : Call
short_repair = repair-call (0 ∷ 0 ∷ 0xF0 ∷ 1 ∷ 0 ∷ 0 ∷ 0 ∷ 0 ∷ 0 ∷ [])

-- the source packet of an ADU of five bytes, which takes two symbols, at ESI 0
abbrev five : Call
five = source-call 1 (0x11 ∷ 1 ∷ 0 ∷ 1 ∷ 0x55 ∷ 0 ∷ 0 ∷ 0 ∷ 0 ∷ [])

abbrev ask : (esi room : ℕ) → Ask
ask e n = record { esi = e; room = n }

-- a symbol that is shown, and a refusal
abbrev known : List ℕ → Sight
known l = record { answer = value 0; bytes = l }

abbrev says : ℕ → Sight
says n = record { answer = refuses n; bytes = [] }

-- ---- the sheet

pub bench :
    -- C1 to C3: products and an inverse in GF(2^8)
    numbers (product 2 128 ∷ []) ∷ numbers (product 3 7 ∷ []) ∷ numbers (inverse 2 ∷ [])
    -- C4 to C6: coefficients
    ∷ numbers (coefficients_of Gf256 1 15 5).list ∷ numbers (coefficients_of Gf2 1 4 6).list ∷ numbers (coefficients_of Gf256 1 4 5).list
    -- the draws of C4 to C6; of packets over five symbols of scheme 10 with the keys 1, 5, 6, both of these, 65535 and 0; of scheme 9 with DT 4 and 15;
    -- of a source packet
    ∷ numbers ((coefficients_of Gf256 1 15 5).draws ∷ (coefficients_of Gf2 1 4 6).draws ∷ (coefficients_of Gf256 1 4 5).draws ∷ [])
    ∷ numbers (map (draws_for (gf256 5)) (five_by 0 1 1 ∷ five_by 0 5 1 ∷ five_by 0 6 1 ∷ five_by 0 5 2 ∷ five_by 0xFF 0xFF 2 ∷ []))
    ∷ numbers (draws_for (gf2 5) (five_by 0 1 2) ∷ draws_for (gf2 2) (repair-of 2 3) ∷ draws_for (gf256 5) five ∷ [])
    -- C7: two source packets, and the repair packet over both
    ∷ line first ∷ line second ∷ line (repairing (after second) 1 15 1 12)
    -- C8: the first and the repair packet of C7; symbols 0 and 1
    ∷ case (gf2 2) (adu 0x41 0 ∷ repair-of 2 3 ∷ []) (0 ∷ 1 ∷ [])
    -- C9: an ADU of 5 bytes taken, one of 6 refused
    ∷ line (adding opened 1 (zeros 5) 9) ∷ line (adding opened 1 (zeros 6) 10)
    -- C10, after a packet at ESI 0: one symbol at ESI 65535, 65536, 2147483647, 2147483648
    ∷ case (gf2 1) (at_zero ∷ empty_at 0 0 0xFF 0xFF ∷ []) (65535 ∷ [])
    ∷ case (gf2 1) (at_zero ∷ empty_at 0 1 0 0 ∷ []) []
    ∷ case (gf2 1) (at_zero ∷ empty_at 0x7F 0xFF 0xFF 0xFF ∷ []) []
    ∷ case (gf2 1) (at_zero ∷ empty_at 0x80 0 0 0 ∷ []) []
    -- C11: neither symbol is known, before the second packet and after it
    ∷ case (gf2 2) (repair-of 2 3 ∷ []) (0 ∷ 1 ∷ [])
    ∷ case (gf2 2) (repair-of 2 3 ∷ source-call 1 (0 ∷ 0 ∷ 0 ∷ 0 ∷ 0 ∷ 0 ∷ 0 ∷ 0 ∷ 0 ∷ []) ∷ []) (0 ∷ 1 ∷ [])
    -- C12
    ∷ case (gf2 4) (repair-of 2 3 ∷ repair-of 4 4 ∷ adu 0x45 4 ∷ adu 0x46 5 ∷ adu 0x44 3 ∷ []) (2 ∷ [])
    -- refusal 1: E = 3; 2: output of 0 bytes for a 1-byte ADU; 3: 100 zero bytes; 4 is C9's; 6: DT 16; 7: repair straight after opening
    ∷ line (opening 9 3 2 all_flows 72) ∷ line (adding opened 1 (0x41 ∷ []) 0) ∷ headed (header_in (zeros 100))
    ∷ line (repairing opened 1 16 1 12) ∷ line (repairing opened 1 15 1 12)
    -- the receiver's refusals 4; 5, of both packets; 6, of NSS 0 and of NSS over the width; 8 and 9, with base 0; 11, of two unlike repair symbols
    ∷ case (gf2 2) (long ∷ []) [] ∷ case (gf2 2) (short_source ∷ short_repair ∷ []) [] ∷ case (gf2 2) (repair-of 0 0 ∷ repair-of 3 0 ∷ []) []
    ∷ case (gf2 2) (at_zero ∷ empty_at 0xFF 0xFF 0xFF 0xFF ∷ empty_at 0 1 0 0 ∷ []) [] ∷ case (gf2 2) (repair-of 2 3 ∷ unlike ∷ []) []
    -- a receiver's opening, with the least memory that it needs and one byte less, at the smallest and the largest E and width; 1 before 2
    ∷ received (opens (setting_of 9 4 1) 106 ∷ opens (setting_of 9 4 1) 105 ∷ []) []
    ∷ received (opens (setting_of 10 1500 255) 448896 ∷ opens (setting_of 10 1500 255) 448895 ∷ opens (setting_of 10 1501 255) 0 ∷ []) []
    -- the symbol call before any base
    ∷ case (gf2 2) [] (0 ∷ 2 ∷ 2147483647 ∷ 2147483648 ∷ 4294967295 ∷ [])
    -- the symbol call with base 0: unknown, past the window, the last ESI ahead, the first behind, the last
    ∷ case (gf2 2) (at_zero ∷ []) (1 ∷ 2 ∷ 2147483647 ∷ 2147483648 ∷ 4294967295 ∷ [])
    -- base 0, two symbols at ESI 65534 and at 65535
    ∷ case (gf2 2) (at_zero ∷ two_at 0 0 0xFF 0xFE ∷ []) (65534 ∷ 65535 ∷ [])
    ∷ case (gf2 2) (at_zero ∷ two_at 0 0 0xFF 0xFF ∷ []) []
    -- joining at ESI 305419896, then packets at the ESI before it, at the one 65536 after it, and at 0; its symbol, the next, the one before it, symbol 0
    ∷ case (gf2 2) (far ∷ empty_at 0x12 0x34 0x56 0x77 ∷ empty_at 0x12 0x35 0x56 0x78 ∷ at_zero ∷ []) (305419896 ∷ 305419897 ∷ 305419895 ∷ 0 ∷ [])
    -- joining at the last ESI, with two symbols; and by a repair packet there, then the source packet at ESI 0 that solves it
    ∷ case (gf2 2) (two_at 0xFF 0xFF 0xFF 0xFF ∷ []) (4294967295 ∷ 0 ∷ [])
    ∷ case (gf2 2) (repair-call (0 ∷ 0 ∷ 0xF0 ∷ 2 ∷ 0xFF ∷ 0xFF ∷ 0xFF ∷ 0xFF ∷ 0 ∷ 0 ∷ 0 ∷ 3 ∷ []) ∷ adu 0x42 0 ∷ []) (4294967295 ∷ 0 ∷ [])
    -- first packets that are refused leave no base: 11, of unlike repair symbols and of one that no symbol has a part in; 4, 5 and 6
    ∷ case (gf2 2) (unlike ∷ []) (0 ∷ 2147483648 ∷ 4294967295 ∷ []) ∷ case (gf2 2) (unlike ∷ of_nothing ∷ far ∷ []) (305419896 ∷ 0 ∷ [])
    ∷ case (gf2 2) (long ∷ short_source ∷ short_repair ∷ repair-of 0 0 ∷ []) (0 ∷ 2147483648 ∷ 4294967295 ∷ [])
    ∷ case (gf2 2) (long ∷ short_source ∷ short_repair ∷ repair-of 0 0 ∷ far ∷ []) (305419896 ∷ 0 ∷ [])
    -- DT 4, 7 and 8, in both schemes: the coefficient is zero at 4
    ∷ case (gf2 1) (zero_at 4 ∷ zero_at 7 ∷ zero_at 8 ∷ []) []
    ∷ case (gf256 1) (zero_at 4 ∷ zero_at 7 ∷ zero_at 8 ∷ []) []
    -- the ADU call before any base, of a fresh receiver and after a first packet that is refused
    ∷ handing_case (gf2 2) [] (ask 0 0 ∷ ask 2 0 ∷ ask 2147483647 0 ∷ ask 2147483648 0 ∷ ask 4294967295 0 ∷ [])
    ∷ handing_case (gf2 2) (unlike ∷ []) (ask 0 0 ∷ ask 2 0 ∷ ask 2147483648 0 ∷ [])
    -- the ADU call with base 0: a start that is not known, then past the window and behind; neither known nor a start
    ∷ handing_case (gf2 2) (at_zero ∷ []) (ask 1 0 ∷ ask 2 0 ∷ ask 2147483647 0 ∷ ask 2147483648 0 ∷ [])
    ∷ handing_case (gf2 2) (repair-of 2 3 ∷ []) (ask 0 1 ∷ ask 1 1 ∷ [])
    -- 13: position 1, known by repair
    ∷ handing_case (gf2 2) (symbol_call 1 1 0 1 0x42 ∷ []) (ask 1 1 ∷ [])
    -- joining by a repair packet makes no start, at ESI 0 too; a source packet after it does, and marks its own positions only
    ∷ handing_case (gf2 2) (symbol_call 0 1 0 1 0x41 ∷ []) (ask 0 1 ∷ ask 1 1 ∷ [])
    ∷ handing_case (gf2 2) (symbol_call 0 1 0 1 0x41 ∷ adu 0x41 0 ∷ []) (ask 0 1 ∷ ask 1 1 ∷ [])
    ∷ handing_case (gf2 2) (repair-of 2 3 ∷ adu 0x42 1 ∷ []) (ask 0 1 ∷ ask 1 1 ∷ [])
    -- joining by a source packet makes its first position a start, and the one after its last; over the wrap too
    ∷ handing_case (gf2 2) (far ∷ []) (ask 305419896 0 ∷ ask 305419897 0 ∷ ask 305419895 0 ∷ [])
    ∷ handing_case (gf2 2) (two_at 0xFF 0xFF 0xFF 0xFF ∷ []) (ask 4294967295 2 ∷ ask 0 2 ∷ [])
    ∷ handing_case (gf2 2) (two_at 0xFF 0xFF 0xFF 0xFF ∷ symbol_call 1 1 0 1 0x43 ∷ []) (ask 4294967295 2 ∷ ask 0 2 ∷ ask 1 1 ∷ [])
    -- 14: L 2 with width 1; padding not zero, which comes before a short output
    ∷ handing_case (gf2 1) (at_zero ∷ symbol_call 1 1 0 2 0x41 ∷ []) (ask 1 2 ∷ [])
    ∷ handing_case (gf2 2) (at_zero ∷ symbol_call 1 1 0 2 0x41 ∷ symbol_call 2 0x42 0 0 1 ∷ []) (ask 1 2 ∷ ask 1 1 ∷ [])
    ∷ handing_case (gf2 2) (at_zero ∷ symbol_call 1 1 0 0 0x41 ∷ []) (ask 1 0 ∷ [])
    ∷ handing_case (gf2 2) (at_zero ∷ symbol_call 1 1 0 1 0x41 ∷ []) (ask 1 1 ∷ ask 1 0 ∷ [])
    -- an empty ADU; an ADU of exactly 2 symbols, with output enough and one byte short; its first symbol alone; L that runs past the window
    ∷ handing_case (gf2 2) (at_zero ∷ []) (ask 0 0 ∷ [])
    ∷ handing_case (gf2 2) (five ∷ []) (ask 0 5 ∷ ask 0 4 ∷ ask 1 5 ∷ [])
    ∷ handing_case (gf2 3) (at_zero ∷ symbol_call 1 1 0 5 0x11 ∷ []) (ask 1 5 ∷ [])
    ∷ handing_case (gf2 2) (adu 0x41 0 ∷ symbol_call 1 1 0 5 0x42 ∷ []) (ask 1 5 ∷ [])
    -- the mark at base + width stays; a mark past it comes back, but not if its position has left
    ∷ handing_case (gf2 2) (five ∷ symbol_call 2 1 0 1 0x43 ∷ []) (ask 2 1 ∷ [])
    ∷ handing_case (gf2 2) (adu 0x41 0 ∷ symbol_call 1 1 0 5 0x42 ∷ symbol_call 2 0x43 0x44 0x45 0x46 ∷ symbol_call 3 1 0 1 0x47 ∷ []) (ask 3 1 ∷ [])
    ∷ handing_case (gf2 2) (adu 0x41 0 ∷ symbol_call 1 1 0 5 0x42 ∷ symbol_call 3 1 0 1 0x47 ∷ []) (ask 3 1 ∷ [])
    -- a position that becomes known marks the next in the same call, and so on
    ∷ handing_case (gf2 4) (at_zero ∷ symbol_call 2 1 0 1 0x42 ∷ symbol_call 3 1 0 1 0x43 ∷ symbol_call 1 1 0 1 0x41 ∷ []) (ask 1 1 ∷ ask 2 1 ∷ ask 3 1 ∷ [])
    -- the same in scheme 10, with F 2
    ∷ handing_case (gf256 4) (at_zero ∷ scaled_at 2 2 0 1 0x42 ∷ scaled_at 1 2 0 1 0x41 ∷ []) (ask 1 1 ∷ ask 2 1 ∷ ask 3 1 ∷ [])
    -- a start inside of an ADU, marked by a packet that agrees with it: the filling's bytes from there on, which are no ADU of the sender's
    ∷ handing_case (gf2 2) (five ∷ adu 0x55 1 ∷ []) (ask 0 5 ∷ ask 1 1 ∷ [])
    ∷ []
    ≡ numbers (29 ∷ []) ∷ numbers (9 ∷ []) ∷ numbers (142 ∷ [])
    ∷ numbers (37 ∷ 225 ∷ 177 ∷ 176 ∷ 21 ∷ []) ∷ numbers (0 ∷ 1 ∷ 1 ∷ 1 ∷ 0 ∷ 0 ∷ []) ∷ numbers (0 ∷ 177 ∷ 21 ∷ 0 ∷ 0 ∷ [])
    ∷ numbers (5 ∷ 6 ∷ 7 ∷ []) ∷ numbers (7 ∷ 6 ∷ 9 ∷ 15 ∷ 14 ∷ []) ∷ numbers (10 ∷ 0 ∷ 0 ∷ [])
    ∷ packet (0x41 ∷ 0 ∷ 0 ∷ 0 ∷ 0 ∷ []) ∷ packet (0x42 ∷ 0 ∷ 0 ∷ 0 ∷ 1 ∷ []) ∷ packet (0 ∷ 0 ∷ 0xF0 ∷ 2 ∷ 0 ∷ 0 ∷ 0 ∷ 0 ∷ 0 ∷ 0 ∷ 0 ∷ 3 ∷ [])
    ∷ received (value 1 ∷ value 1 ∷ []) (known (1 ∷ 0 ∷ 1 ∷ 0x41 ∷ []) ∷ known (1 ∷ 0 ∷ 1 ∷ 0x42 ∷ []) ∷ [])
    ∷ packet (0 ∷ 0 ∷ 0 ∷ 0 ∷ 0 ∷ 0 ∷ 0 ∷ 0 ∷ 0 ∷ []) ∷ refusal 4
    ∷ received (value 1 ∷ value 1 ∷ []) (known (1 ∷ 0 ∷ 0 ∷ 0 ∷ []) ∷ [])
    ∷ received (value 1 ∷ refuses 9 ∷ []) [] ∷ received (value 1 ∷ refuses 9 ∷ []) [] ∷ received (value 1 ∷ refuses 8 ∷ []) []
    ∷ received (value 0 ∷ []) (says 12 ∷ says 12 ∷ []) ∷ received (value 0 ∷ refuses 11 ∷ []) (says 12 ∷ says 12 ∷ [])
    ∷ received (value 0 ∷ value 0 ∷ value 1 ∷ value 1 ∷ value 2 ∷ []) (known (1 ∷ 0 ∷ 1 ∷ 0x43 ∷ []) ∷ [])
    ∷ refusal 1 ∷ refusal 2 ∷ refusal 3 ∷ refusal 6 ∷ refusal 7
    ∷ received (refuses 4 ∷ []) [] ∷ received (refuses 5 ∷ refuses 5 ∷ []) [] ∷ received (refuses 6 ∷ refuses 6 ∷ []) []
    ∷ received (value 1 ∷ refuses 8 ∷ refuses 9 ∷ []) [] ∷ received (value 0 ∷ refuses 11 ∷ []) []
    ∷ received (value 0 ∷ refuses 2 ∷ []) [] ∷ received (value 0 ∷ refuses 2 ∷ refuses 1 ∷ []) []
    ∷ received [] (says 12 ∷ says 12 ∷ says 12 ∷ says 12 ∷ says 12 ∷ [])
    ∷ received (value 1 ∷ []) (says 12 ∷ says 12 ∷ says 12 ∷ says 8 ∷ says 8 ∷ [])
    ∷ received (value 1 ∷ value 2 ∷ []) (known (1 ∷ 0 ∷ 2 ∷ 7 ∷ []) ∷ known (7 ∷ 0 ∷ 0 ∷ 0 ∷ []) ∷ []) ∷ received (value 1 ∷ refuses 9 ∷ []) []
    ∷ received (value 1 ∷ refuses 8 ∷ refuses 9 ∷ refuses 8 ∷ []) (known (1 ∷ 0 ∷ 0 ∷ 0 ∷ []) ∷ says 12 ∷ says 8 ∷ says 8 ∷ [])
    ∷ received (value 2 ∷ []) (known (1 ∷ 0 ∷ 2 ∷ 7 ∷ []) ∷ known (7 ∷ 0 ∷ 0 ∷ 0 ∷ []) ∷ [])
    ∷ received (value 0 ∷ value 2 ∷ []) (known (1 ∷ 0 ∷ 1 ∷ 0x41 ∷ []) ∷ known (1 ∷ 0 ∷ 1 ∷ 0x42 ∷ []) ∷ [])
    ∷ received (refuses 11 ∷ []) (says 12 ∷ says 12 ∷ says 12 ∷ [])
    ∷ received (refuses 11 ∷ refuses 11 ∷ value 1 ∷ []) (known (1 ∷ 0 ∷ 0 ∷ 0 ∷ []) ∷ says 8 ∷ [])
    ∷ received (refuses 4 ∷ refuses 5 ∷ refuses 5 ∷ refuses 6 ∷ []) (says 12 ∷ says 12 ∷ says 12 ∷ [])
    ∷ received (refuses 4 ∷ refuses 5 ∷ refuses 5 ∷ refuses 6 ∷ value 1 ∷ []) (known (1 ∷ 0 ∷ 0 ∷ 0 ∷ []) ∷ says 8 ∷ [])
    ∷ received (value 0 ∷ value 1 ∷ value 0 ∷ []) [] ∷ received (value 0 ∷ value 1 ∷ value 0 ∷ []) []
    ∷ handed [] (withholds 12 ∷ withholds 12 ∷ withholds 12 ∷ withholds 12 ∷ withholds 12 ∷ [])
    ∷ handed (refuses 11 ∷ []) (withholds 12 ∷ withholds 12 ∷ withholds 12 ∷ [])
    ∷ handed (value 1 ∷ []) (withholds 12 ∷ withholds 12 ∷ withholds 12 ∷ withholds 8 ∷ [])
    ∷ handed (value 0 ∷ []) (withholds 13 ∷ withholds 13 ∷ [])
    ∷ handed (value 1 ∷ []) (withholds 13 ∷ [])
    ∷ handed (value 1 ∷ []) (withholds 13 ∷ withholds 13 ∷ [])
    ∷ handed (value 1 ∷ value 0 ∷ []) (hands 1 (0x41 ∷ []) ∷ withholds 12 ∷ [])
    ∷ handed (value 0 ∷ value 2 ∷ []) (withholds 13 ∷ hands 1 (0x42 ∷ []) ∷ [])
    ∷ handed (value 1 ∷ []) (hands 1 [] ∷ withholds 12 ∷ withholds 8 ∷ [])
    ∷ handed (value 2 ∷ []) (hands 1 (7 ∷ 7 ∷ []) ∷ withholds 13 ∷ [])
    ∷ handed (value 2 ∷ value 1 ∷ []) (withholds 8 ∷ withholds 13 ∷ hands 1 (0x43 ∷ []) ∷ [])
    ∷ handed (value 1 ∷ value 1 ∷ []) (withholds 14 ∷ []) ∷ handed (value 1 ∷ value 1 ∷ value 1 ∷ []) (withholds 14 ∷ withholds 14 ∷ [])
    ∷ handed (value 1 ∷ value 1 ∷ []) (withholds 14 ∷ []) ∷ handed (value 1 ∷ value 1 ∷ []) (hands 1 (0x41 ∷ []) ∷ withholds 2 ∷ [])
    ∷ handed (value 1 ∷ []) (hands 1 [] ∷ [])
    ∷ handed (value 2 ∷ []) (hands 1 (0x11 ∷ 1 ∷ 0 ∷ 1 ∷ 0x55 ∷ []) ∷ withholds 2 ∷ withholds 13 ∷ [])
    ∷ handed (value 1 ∷ value 1 ∷ []) (withholds 12 ∷ [])
    ∷ handed (value 1 ∷ value 1 ∷ []) (withholds 12 ∷ [])
    ∷ handed (value 2 ∷ value 1 ∷ []) (hands 1 (0x43 ∷ []) ∷ [])
    ∷ handed (value 1 ∷ value 1 ∷ value 1 ∷ value 1 ∷ []) (hands 1 (0x47 ∷ []) ∷ [])
    ∷ handed (value 1 ∷ value 1 ∷ value 1 ∷ []) (withholds 13 ∷ [])
    ∷ handed (value 1 ∷ value 1 ∷ value 1 ∷ value 1 ∷ []) (hands 1 (0x41 ∷ []) ∷ hands 1 (0x42 ∷ []) ∷ hands 1 (0x43 ∷ []) ∷ [])
    ∷ handed (value 1 ∷ value 1 ∷ value 1 ∷ []) (hands 2 (0x41 ∷ []) ∷ hands 2 (0x42 ∷ []) ∷ withholds 12 ∷ [])
    ∷ handed (value 2 ∷ value 0 ∷ []) (hands 1 (0x11 ∷ 1 ∷ 0 ∷ 1 ∷ 0x55 ∷ []) ∷ hands 1 (0x55 ∷ []) ∷ [])
    ∷ []
unfolding
    computing packet_draws combination source_packet repair_header repair_packet
    in_range setting_of field setting_in header_size header_in repair_symbol opening adding repairing
bench = refl
