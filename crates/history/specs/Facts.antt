-- Computed from the definitions, from the packets' bytes on: the sizes; the order of the checks, and their limits; every DT, and keys over 65,535; and where
-- calls bring the base, the count, the marks and the origins in cases that are easy to take otherwise.
use Rattle.std.specs.Prelude.{◌≡◌, ◌+◌, ◌∷◌, ◌*◌, ◌++◌, ◌&&◌}
use Rattle.words.specs.Words.{[], ℕ, List, refl, Some, suc, true, zero, None, false, Bool, Option, cond, map}
use Rattle.history.specs.Computing.{computing}
use Rattle.wire.specs.declared.Scheme.TheVariants.{Gf2, Gf256}
use Rattle.wire.specs.declared.Setting.{Setting}
use Rattle.wire.specs.Answers.{Said, value, refusal}
use Rattle.wire.specs.Packets.{zeros}
use Rattle.starts.specs.Starts.{Starts, nowhere}
use Rattle.history.specs.History.{source, repair, Call, source-call, repair-call, esi_of, Reading, fails, located}
use Rattle.history.specs.History.{reading, memory_size, working_size}
use Rattle.history.specs.Model.{State, opened, found_by, said_of, state_after, receiving, marking, Origins, unheard, origins_after}
use Rattle.decoder.specs.Model as model

-- Flow 1 alone is announced.
abbrev one : List ℕ
one = 2 ∷ zeros 31

-- ---- Calls

-- What calls have come to: what they answered, the state, the marks, and what is heard.
pub record Progress (s : Setting) : Type 0 where
  pub answers : List Said
  pub state : State s
  pub marks : Starts
  pub heard : Origins

-- A fresh receiver.
abbrev pub begun : (s : Setting) → Progress s
begun s = record { answers = []; state = opened s; marks = nowhere; heard = unheard }

-- One more call, with working memory enough, where these flows are announced; and the calls of a list.
abbrev pub call : (s : Setting) (flows : List ℕ) → Progress s → Call → Progress s
call s flows a c =
    let j = found_by s a.state (esi_of c) in
    let r = reading s flows j.base (working_size s) c in
    let o = receiving s flows a.state (working_size s) c in
    let M = marking s j a.marks r o in
    let H = origins_after r o a.heard in
    record { answers = a.answers ++ said_of o ∷ []; state = state_after a.state o; marks = M; heard = H }

abbrev pub called : (s : Setting) (flows : List ℕ) → Progress s → List Call → Progress s
called s flows a [] = a
called s flows a (c ∷ cs) = called s flows (call s flows a c) cs

-- What calls have answered, the base after them, and which positions of the window are known and which are marked, by their distance from the base.
pub data Standing : Type 0 where
  stands : (answers : List Said) (base : Option ℕ) (known marked : List ℕ) → Standing

-- What calls have answered, and which positions of the window are known and which of those are heard.
pub data Origin : Type 0 where
  told : (answers : List Said) (known heard : List ℕ) → Origin

-- The numbers below n that pass a test.
abbrev those : (ℕ → Bool) → (n : ℕ) → List ℕ
those t zero = []
those t (suc n) = those t n ++ cond (t n) (n ∷ []) []

-- Something is there.
abbrev is_some : {A : Type 0} → Option A → Bool
is_some None = false
is_some (Some x) = true

module _ (s : Setting) where
  -- What a state and its marks show.
  abbrev standing : (answers : List Said) → State s → Starts → Standing
  standing l None M = stands l None [] []
  standing l (Some t) M = stands l (Some t.base) (those (λ i. is_some (model.known t.window i)) s.width) (those M (s.width + 1))

  -- The calls of a list from a fresh receiver.
  abbrev after : List Call → Standing
  after cs = let a = called s one (begun s) cs in standing a.answers a.state a.marks

  -- And with the origins in place of the marks.
  abbrev origin : (answers : List Said) → State s → Origins → Origin
  origin l None H = told l [] []
  origin l (Some t) H =
      let known : ℕ → Bool = λ i. is_some (model.known t.window i) in
      told l (those known s.width) (those (λ i. known i && H (t.base + i)) s.width)

  abbrev heard : List Call → Origin
  heard cs = let a = called s one (begun s) cs in origin a.answers a.state a.heard

-- The coefficients that a reading has for a packet's symbols.
abbrev coefficients_in : Reading → List (List ℕ)
coefficients_in (fails n) = []
coefficients_in (located (source p vs)) = []
coefficients_in (located (repair p n cs vs)) = cs

-- The sum of numbers, and of lists of numbers.
abbrev sum : List ℕ → ℕ
sum [] = 0
sum (x ∷ l) = x + sum l

abbrev total : List (List ℕ) → ℕ
total [] = 0
total (l ∷ ls) = sum l + total ls

-- ---- Settings and packets

-- Scheme 9 and scheme 10 with E 4; and the largest E and width.
abbrev gf2 : ℕ → Setting
gf2 w = record { scheme = Gf2; size = 4; width = w }

abbrev gf256 : ℕ → Setting
gf256 w = record { scheme = Gf256; size = 4; width = w }

abbrev largest : Setting
largest = record { scheme = Gf256; size = 1500; width = 255 }

-- With F 1: the source packet of an ADU of n zero bytes, with the ESI of these bytes.
abbrev adu : (n a b c d : ℕ) → Call
adu n a b c d = source-call 1 (zeros n ++ a ∷ b ∷ c ∷ d ∷ [])

-- With F 2, which is not announced.
abbrev stray : (n a b c d : ℕ) → Call
stray n a b c d = source-call 2 (zeros n ++ a ∷ b ∷ c ∷ d ∷ [])

-- With DT 15, NSS of these bytes, and the ESI of these: a repair packet whose n bytes of repair symbols are zero.
abbrev over : (x y : ℕ) (a b c d : ℕ) (n : ℕ) → Call
over x y a b c d n = repair-call (0 ∷ 0 ∷ (0xF0 + x) ∷ y ∷ a ∷ b ∷ c ∷ d ∷ zeros n)

-- Over the n symbols from a small ESI on, with a key and a DT: a repair packet of one repair symbol, which is these bytes.
abbrev combines : (key dt n esi : ℕ) (symbol : List ℕ) → Call
combines key dt n e v = repair-call (0 ∷ key ∷ dt * 16 ∷ n ∷ 0 ∷ 0 ∷ 0 ∷ e ∷ v)

-- The reading of an ADU of no byte at a position.
abbrev empty_at : ℕ → Reading
empty_at p = located (source p ((1 ∷ zeros 3) ∷ []))

-- ---- The facts

-- The bytes that a receiver needs and borrows: at E 4 and width 1, at E 4 and width 2, at the largest.
pub sizes :
    memory_size (gf2 1) ∷ working_size (gf2 1) ∷ memory_size (gf2 2) ∷ working_size (gf2 2) ∷ memory_size largest ∷ working_size largest ∷ []
    ≡ 106 ∷ 116 ∷ 118 ∷ 129 ∷ 448896 ∷ 450656 ∷ []
sizes = refl

-- What the checks before 11 make of packets, at a base and with working memory of a size.
pub checks :
    -- working memory of exactly the size, and one byte short
    (reading (gf2 1) one 0 116 (adu 0 0 0 0 0) ∷ reading (gf2 1) one 0 115 (adu 0 0 0 0 0) ∷ [])
    -- 2 before 5, 4, 6, 8 and 9
    ∷ map (reading (gf2 2) one 1 128) (source-call 1 (zeros 3) ∷ adu 6 0 0 0 0 ∷ over 0 0 0 0 0 0 4 ∷ adu 0 0 0 0 0 ∷ adu 0 0 1 0 1 ∷ [])
    -- 5 before 6, 8 and 9: source packets of 3 bytes and of none; repair packets of no symbol, of one and a byte, of 17; one of 16 has the form
    ∷ map (reading (gf2 2) one 1 129) (source-call 1 (zeros 3) ∷ source-call 1 (1 ∷ 0 ∷ 1 ∷ []) ∷ source-call 1 [] ∷ [])
    ∷ map (reading (gf2 2) one 1 129) (over 0 0 0 0 0 0 0 ∷ over 0 2 0 0 0 0 5 ∷ over 0 2 0 1 0 1 68 ∷ over 0 0 0 0 0 0 64 ∷ [])
    -- 4 and 6 before 8, at their limits; NSS has 12 bits
    ∷ map (reading (gf2 2) one 1 129) (adu 5 0 0 0 0 ∷ adu 6 0 0 0 0 ∷ [])
    ∷ map (reading largest one 1 450656) (adu 65535 0 0 0 0 ∷ adu 65536 0 0 0 0 ∷ [])
    ∷ map (reading (gf2 2) one 1 129) (over 0 0 0 0 0 0 4 ∷ over 0 1 0 0 0 0 4 ∷ over 0 2 0 0 0 0 4 ∷ over 0 3 0 0 0 0 4 ∷ over 1 1 0 0 0 0 4 ∷ [])
    -- 4 and 6 before 9
    ∷ map (reading (gf2 2) one 0 129) (adu 5 0 1 0 0 ∷ adu 6 0 1 0 0 ∷ over 0 0 0 1 0 0 4 ∷ over 0 2 0 1 0 0 4 ∷ over 0 3 0 1 0 0 4 ∷ [])
    -- the last position 65,535 and 65,536 past the base; the first 2^31 - 1 and 2^31 past it; the base at the last ESI, and past 2^32
    ∷ map (reading (gf2 2) one 0 129) (adu 0 0 0 0xFF 0xFF ∷ adu 0 0 1 0 0 ∷ adu 2 0 0 0xFF 0xFF ∷ adu 0 0x7F 0xFF 0xFF 0xFF ∷ adu 0 0x80 0 0 0 ∷ [])
    ∷ (reading (gf2 2) one 4294967295 129 (adu 0 0 0 0 0) ∷ reading (gf2 2) one 4294967298 129 (adu 0 0 0 0 3) ∷ [])
    -- a flow that is not announced: 2 and 5 before 16; 16 before 4, 8 and 9, and where nothing else fails; its neighbours 0 and 2, and 9, one byte on
    ∷ map (reading (gf2 2) one 1 128) (source-call 2 (zeros 3) ∷ stray 0 0 0 0 1 ∷ []) ∷ map (reading (gf2 2) one 1 129) (source-call 2 (zeros 3) ∷ [])
    ∷ map (reading (gf2 2) one 1 129) (stray 6 0 0 0 1 ∷ stray 0 0 0 0 0 ∷ stray 0 0 1 0 1 ∷ stray 0 0 0 0 1 ∷ [])
    ∷ map (reading (gf2 2) one 0 129) (source-call 0 (zeros 4) ∷ source-call 9 (zeros 4) ∷ source-call 1 (zeros 4) ∷ [])
    -- none is announced: a repair packet is read all the same
    ∷ map (reading (gf2 2) (zeros 32) 0 129) (adu 0 0 0 0 0 ∷ over 0 3 0 0 0 0 4 ∷ [])
    -- the keys 65,535 and 0 of two repair symbols
    ∷ (reading (gf256 2) one 0 129 (repair-call (0xFF ∷ 0xFF ∷ 0xF0 ∷ 2 ∷ zeros 12)) ∷ [])
    ∷ []
    ≡ (empty_at 0 ∷ fails 2 ∷ [])
    ∷ (fails 2 ∷ fails 2 ∷ fails 2 ∷ fails 2 ∷ fails 2 ∷ [])
    ∷ (fails 5 ∷ fails 5 ∷ fails 5 ∷ []) ∷ (fails 5 ∷ fails 5 ∷ fails 5 ∷ fails 6 ∷ [])
    ∷ (fails 8 ∷ fails 4 ∷ []) ∷ (fails 8 ∷ fails 4 ∷ []) ∷ (fails 6 ∷ fails 8 ∷ fails 8 ∷ fails 6 ∷ fails 6 ∷ [])
    ∷ (fails 9 ∷ fails 4 ∷ fails 6 ∷ fails 9 ∷ fails 6 ∷ [])
    ∷ (empty_at 65535 ∷ fails 9 ∷ fails 9 ∷ fails 9 ∷ fails 8 ∷ []) ∷ (empty_at 4294967296 ∷ empty_at 4294967299 ∷ [])
    ∷ (fails 2 ∷ fails 2 ∷ []) ∷ (fails 5 ∷ [])
    ∷ (fails 16 ∷ fails 16 ∷ fails 16 ∷ fails 16 ∷ [])
    ∷ (fails 16 ∷ fails 16 ∷ empty_at 0 ∷ [])
    ∷ (fails 16 ∷ fails 6 ∷ [])
    ∷ (located (repair 0 2 ((52 ∷ 199 ∷ []) ∷ (39 ∷ 42 ∷ []) ∷ []) (zeros 4 ∷ zeros 4 ∷ [])) ∷ [])
    ∷ []
unfolding computing
checks = refl

-- How many symbols the key 17,283 takes of 15, at every DT: its draws compare DT with each number from 1 to 15 once.
pub densities :
    map (λ dt. total (coefficients_in (reading (gf2 15) one 0 (working_size (gf2 15)) (repair-call (0x43 ∷ 0x83 ∷ dt * 16 ∷ 15 ∷ zeros 8)))))
    (0 ∷ 1 ∷ 2 ∷ 3 ∷ 4 ∷ 5 ∷ 6 ∷ 7 ∷ 8 ∷ 9 ∷ 10 ∷ 11 ∷ 12 ∷ 13 ∷ 14 ∷ 15 ∷ [])
    ≡ 0 ∷ 1 ∷ 2 ∷ 3 ∷ 4 ∷ 5 ∷ 6 ∷ 7 ∷ 8 ∷ 9 ∷ 10 ∷ 11 ∷ 12 ∷ 13 ∷ 14 ∷ 15 ∷ []
unfolding computing
densities = refl

-- Where calls from a fresh receiver come to.
pub calls :
    -- before any base refusals leave none: 4, 6, and 11 of a symbol that is not zero and combines nothing; after them the base is the first ESI
    after (gf2 2) (adu 6 0 0 0 0 ∷ over 0 3 0 0 0 0 4 ∷ combines 1 4 1 0 (1 ∷ zeros 3) ∷ [])
    ∷ after (gf2 2) (combines 1 4 1 0 (1 ∷ zeros 3) ∷ adu 0 0 0 0 7 ∷ [])
    -- so does one of a flow that is not announced, and what comes after it joins; later it raises nothing, makes nothing known and marks nothing
    ∷ after (gf2 2) (stray 0 0 0 0 3 ∷ []) ∷ after (gf2 2) (stray 0 0 0 0 3 ∷ adu 0 0 0 0 7 ∷ [])
    ∷ after (gf2 2) (adu 0 0 0 0 0 ∷ stray 0 0 0 0 2 ∷ stray 0 0 0 0 1 ∷ stray 0 0 0 0 0 ∷ [])
    -- a solved ADU of such a flow is counted, and marks on
    ∷ after (gf2 2) (adu 0 0 0 0 0 ∷ combines 0 15 1 1 (2 ∷ 0 ∷ 1 ∷ 7 ∷ []) ∷ [])
    -- positions go on past 2^32
    ∷ after (gf2 1) (adu 0 0xFF 0xFF 0xFF 0xFF ∷ adu 0 0 0 0 0 ∷ [])
    -- the base rises for a packet that combines nothing, and for one that combines a known symbol alone; not for one that is refused
    ∷ after (gf2 1) (adu 0 0 0 0 0 ∷ combines 1 4 1 1 (zeros 4) ∷ [])
    ∷ after (gf2 2) (adu 0 0 0 0 0 ∷ adu 0 0 0 0 1 ∷ combines 3 4 2 1 (1 ∷ zeros 3) ∷ [])
    ∷ after (gf2 2) (adu 0 0 0 0 0 ∷ combines 1 4 1 2 (1 ∷ zeros 3) ∷ [])
    -- what comes again is not counted; a position that is solved and not named is; one that is solved as it leaves the window is not
    ∷ after (gf2 2) (adu 0 0 0 0 0 ∷ adu 0 0 0 0 0 ∷ [])
    ∷ after (gf2 2) (combines 0 15 2 0 (zeros 4) ∷ adu 0 0 0 0 1 ∷ [])
    ∷ after (gf2 2) (combines 0 15 2 0 (zeros 4) ∷ adu 2 0 0 0 1 ∷ [])
    -- a repair packet marks nothing; a source packet marks its first position and the one after its last, at base + width too
    ∷ after (gf2 2) (combines 0 15 1 0 (zeros 4) ∷ [])
    ∷ after (gf2 2) (adu 2 0 0 0 0 ∷ [])
    -- the last position of the window marks base + width
    ∷ after (gf2 2) (adu 0 0 0 0 0 ∷ combines 0 15 1 1 (1 ∷ 0 ∷ 1 ∷ 7 ∷ []) ∷ [])
    -- the first symbol of an ADU of two marks on where the second is not known; past base + width it does so once the base has risen
    ∷ after (gf2 3) (adu 0 0 0 0 0 ∷ combines 0 15 1 1 (1 ∷ 0 ∷ 5 ∷ 7 ∷ []) ∷ [])
    ∷ after (gf2 2) (adu 0 0 0 0 0 ∷ combines 0 15 1 1 (1 ∷ 0 ∷ 5 ∷ 7 ∷ []) ∷ [])
    ∷ after (gf2 2) (adu 0 0 0 0 0 ∷ combines 0 15 1 1 (1 ∷ 0 ∷ 5 ∷ 7 ∷ []) ∷ combines 1 4 1 2 (zeros 4) ∷ [])
    ∷ []
    ≡ stands (refusal 4 ∷ refusal 6 ∷ refusal 11 ∷ []) None [] []
    ∷ stands (refusal 11 ∷ value 1 ∷ []) (Some 7) (0 ∷ []) (0 ∷ 1 ∷ [])
    ∷ stands (refusal 16 ∷ []) None [] [] ∷ stands (refusal 16 ∷ value 1 ∷ []) (Some 7) (0 ∷ []) (0 ∷ 1 ∷ [])
    ∷ stands (value 1 ∷ refusal 16 ∷ refusal 16 ∷ refusal 16 ∷ []) (Some 0) (0 ∷ []) (0 ∷ 1 ∷ [])
    ∷ stands (value 1 ∷ value 1 ∷ []) (Some 0) (0 ∷ 1 ∷ []) (0 ∷ 1 ∷ 2 ∷ [])
    ∷ stands (value 1 ∷ value 1 ∷ []) (Some 4294967296) (0 ∷ []) (0 ∷ 1 ∷ [])
    ∷ stands (value 1 ∷ value 0 ∷ []) (Some 1) [] (0 ∷ [])
    ∷ stands (value 1 ∷ value 1 ∷ value 0 ∷ []) (Some 1) (0 ∷ []) (0 ∷ 1 ∷ [])
    ∷ stands (value 1 ∷ refusal 11 ∷ []) (Some 0) (0 ∷ []) (0 ∷ 1 ∷ [])
    ∷ stands (value 1 ∷ value 0 ∷ []) (Some 0) (0 ∷ []) (0 ∷ 1 ∷ [])
    ∷ stands (value 0 ∷ value 2 ∷ []) (Some 0) (0 ∷ 1 ∷ []) (1 ∷ 2 ∷ [])
    ∷ stands (value 0 ∷ value 2 ∷ []) (Some 1) (0 ∷ 1 ∷ []) (0 ∷ 2 ∷ [])
    ∷ stands (value 1 ∷ []) (Some 0) (0 ∷ []) []
    ∷ stands (value 2 ∷ []) (Some 0) (0 ∷ 1 ∷ []) (0 ∷ 2 ∷ [])
    ∷ stands (value 1 ∷ value 1 ∷ []) (Some 0) (0 ∷ 1 ∷ []) (0 ∷ 1 ∷ 2 ∷ [])
    ∷ stands (value 1 ∷ value 1 ∷ []) (Some 0) (0 ∷ 1 ∷ []) (0 ∷ 1 ∷ 3 ∷ [])
    ∷ stands (value 1 ∷ value 1 ∷ []) (Some 0) (0 ∷ 1 ∷ []) (0 ∷ 1 ∷ [])
    ∷ stands (value 1 ∷ value 1 ∷ value 0 ∷ []) (Some 1) (0 ∷ []) (0 ∷ 2 ∷ [])
    ∷ []
unfolding computing
calls = refl

-- Heard or solved, of calls from a fresh receiver.
pub origins :
    -- solved; solved first and heard later; heard first, and then in a repair packet alone
    heard (gf2 2) (combines 0 15 1 0 (1 ∷ zeros 3) ∷ [])
    ∷ heard (gf2 2) (combines 0 15 1 0 (1 ∷ zeros 3) ∷ adu 0 0 0 0 0 ∷ [])
    ∷ heard (gf2 2) (adu 0 0 0 0 0 ∷ combines 0 15 1 0 (1 ∷ zeros 3) ∷ [])
    -- solved by a source packet that names another position; the same packet again; an ADU of two symbols, of which one was solved
    ∷ heard (gf2 2) (combines 0 15 2 0 (zeros 4) ∷ adu 0 0 0 0 1 ∷ [])
    ∷ heard (gf2 2) (adu 0 0 0 0 1 ∷ adu 0 0 0 0 1 ∷ [])
    ∷ heard (gf2 2) (combines 0 15 1 1 (1 ∷ 0 ∷ 2 ∷ 0 ∷ []) ∷ adu 2 0 0 0 1 ∷ [])
    -- a source packet that is refused with 11; and with 8, though its second symbol is in the window
    ∷ heard (gf2 2) (combines 0 15 1 0 (zeros 4) ∷ adu 0 0 0 0 0 ∷ [])
    ∷ heard (gf2 2) (combines 0 15 2 1 (zeros 4) ∷ adu 2 0 0 0 0 ∷ combines 0 15 1 1 (zeros 4) ∷ [])
    -- the window moves on by one, by its width, and by more, for a repair packet: what comes into the rows of those heard is not
    ∷ heard (gf2 2) (adu 0 0 0 0 0 ∷ adu 0 0 0 0 1 ∷ combines 0 15 1 2 (zeros 4) ∷ [])
    ∷ heard (gf2 2) (adu 2 0 0 0 0 ∷ combines 0 15 1 2 (zeros 4) ∷ combines 0 15 1 3 (zeros 4) ∷ [])
    ∷ heard (gf2 2) (adu 2 0 0 0 0 ∷ combines 0 15 1 7 (zeros 4) ∷ combines 0 15 1 6 (zeros 4) ∷ [])
    -- a jump of a source packet
    ∷ heard (gf2 3) (adu 0 0 0 0 0 ∷ combines 0 15 1 1 (zeros 4) ∷ adu 0 0 0 0 7 ∷ combines 0 15 1 6 (zeros 4) ∷ [])
    -- width 1: heard; solved in the same row; heard in it
    ∷ heard (gf2 1) (adu 0 0 0 0 0 ∷ [])
    ∷ heard (gf2 1) (adu 0 0 0 0 0 ∷ combines 0 15 1 1 (zeros 4) ∷ [])
    ∷ heard (gf2 1) (combines 0 15 1 0 (zeros 4) ∷ adu 0 0 0 0 1 ∷ [])
    ∷ []
    ≡ told (value 1 ∷ []) (0 ∷ []) []
    ∷ told (value 1 ∷ value 0 ∷ []) (0 ∷ []) (0 ∷ [])
    ∷ told (value 1 ∷ value 0 ∷ []) (0 ∷ []) (0 ∷ [])
    ∷ told (value 0 ∷ value 2 ∷ []) (0 ∷ 1 ∷ []) (1 ∷ [])
    ∷ told (value 1 ∷ value 0 ∷ []) (0 ∷ []) (0 ∷ [])
    ∷ told (value 1 ∷ value 1 ∷ []) (0 ∷ 1 ∷ []) (0 ∷ 1 ∷ [])
    ∷ told (value 1 ∷ refusal 11 ∷ []) (0 ∷ []) []
    ∷ told (value 0 ∷ refusal 8 ∷ value 2 ∷ []) (0 ∷ 1 ∷ []) []
    ∷ told (value 1 ∷ value 1 ∷ value 1 ∷ []) (0 ∷ 1 ∷ []) (0 ∷ [])
    ∷ told (value 2 ∷ value 1 ∷ value 1 ∷ []) (0 ∷ 1 ∷ []) []
    ∷ told (value 2 ∷ value 1 ∷ value 1 ∷ []) (0 ∷ 1 ∷ []) []
    ∷ told (value 1 ∷ value 1 ∷ value 1 ∷ value 1 ∷ []) (1 ∷ 2 ∷ []) (2 ∷ [])
    ∷ told (value 1 ∷ []) (0 ∷ []) (0 ∷ [])
    ∷ told (value 1 ∷ value 1 ∷ []) (0 ∷ []) []
    ∷ told (value 1 ∷ value 1 ∷ []) (0 ∷ []) (0 ∷ [])
    ∷ []
unfolding computing
origins = refl
