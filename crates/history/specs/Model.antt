-- The receiver that computes: the window's equations in reduced row echelon form (crate `decoder`) in place of the whole history.
-- The promises give answers and states by it. That these are the history's is proved (proofs/Answers): a reader of the claims need not believe it.
use Rattle.std.specs.Prelude.{◌+◌, ◌-◌, ◌∷◌, ◌&&◌, ◌||◌}
use Rattle.words.specs.Words.{ℕ, List, length, [], Some, None, get_or, false, Bool, Option, cond, ltb, leb}
use Rattle.wire.specs.declared.Setting.{Setting}
use Rattle.decoder.specs.Bytes.{byte, Coded}
use Rattle.decoder.specs.Model.{known}
use Rattle.starts.specs.Adu.{Handing, withholds, need, handing}
use Rattle.starts.specs.Starts.{Starts, also, moved, pass, seen}
use Rattle.history.specs.Symbol.{Symbol, symbol_of}
use Rattle.wire.specs.Answers.{Said, value, refusal}
use Rattle.history.specs.History.{Located, source, repair, Side, behind, ahead, side_of, Call, esi_of, Reading, fails, located, reading}
use Rattle.decoder.specs.Receiver as decoder
use Rattle.decoder.specs.Packets as packets

module _ (E : ℕ) where
  -- A repair packet's equations.
  abbrev pub equations : (coefficients symbols : List (List ℕ)) → List (packets.Repair (Coded E))
  equations [] vs = []
  equations (c ∷ cs) [] = []
  equations (c ∷ cs) (v ∷ vs) = record { coefs = λ i. byte (get_or c i 0); sym = symbol_of E v } ∷ equations cs vs

  -- A packet's rows.
  abbrev pub packet_of : Located → decoder.Packet (Coded E)
  packet_of (source p symbols) = packets.source (Coded E) p (length symbols) (λ i. symbol_of E (get_or symbols i []))
  packet_of (repair p n coefficients symbols) = packets.repair (Coded E) p n (equations coefficients symbols)

-- A receiver that has a base: the base, and the equations of the window from there on.
abbrev pub Joined : Setting → Type 0
Joined s = decoder.Receiver (Coded s.size) s.width

-- The state of a receiver: none before any base.
abbrev pub State : Setting → Type 0
State s = Option (Joined s)

-- Just opened: no base.
abbrev pub opened : (s : Setting) → State s
opened s = None

-- As a packet that begins at a position finds it: where there is no base yet, that position is taken for it, and there is no equation.
abbrev pub found_by : (s : Setting) → State s → (first : ℕ) → Joined s
found_by s None p = decoder.fresh (Coded s.size) s.width p
found_by s (Some t) p = t

-- What a packet call comes to: the number of a refusal; or how many positions have become known, and the receiver after it.
pub data Outcome (s : Setting) : Type 0 where
  refused : ℕ → Outcome s
  done : ℕ → Joined s → Outcome s

-- What it answers, and the state after it.
module _ {s : Setting} where
  abbrev pub said_of : Outcome s → Said
  said_of (refused n) = refusal n
  said_of (done n t) = value n

  abbrev pub state_after : State s → Outcome s → State s
  state_after t (refused n) = t
  state_after t (done n t') = Some t'

-- What the symbol call comes to: a known symbol and its position, or the number of a refusal.
pub data Finding (E : ℕ) : Type 0 where
  shows : (position : ℕ) → Symbol E → Finding E
  hides : ℕ → Finding E

module _ (s : Setting) where
  open s use {size as E, width}

  abbrev pub added : Joined s → Option (Joined s) → Outcome s
  added t None = refused 11
  added t (Some t') = done (decoder.newly t t') t'

  -- A call of which the checks before 11 have made this.
  abbrev pub responds : Joined s → Reading → Outcome s
  responds t (fails n) = refused n
  responds t (located q) = added t (decoder.receive t (packet_of E q))

  -- A packet call that is lent `room` bytes of working memory, at a receiver that announces these flows and has a base; and at any that announces them.
  unfoldable pub answering : (flows : List ℕ) → Joined s → (room : ℕ) → Call → Outcome s
  answering flows t room c = responds t (reading s flows t.base room c)

  abbrev pub receiving : (flows : List ℕ) → State s → (room : ℕ) → Call → Outcome s
  receiving flows t room c = answering flows (found_by s t (esi_of c)) room c

  abbrev pub shown : (position : ℕ) → Option (Symbol E) → Finding E
  shown p None = hides 12
  shown p (Some v) = shows p v

  -- The symbol at a place: 8 behind the base; 12 past the window, or where it is not known.
  abbrev pub symbol_in : Joined s → Side → Finding E
  symbol_in t behind = hides 8
  symbol_in t (ahead d) = cond (ltb d width) (shown (t.base + d) (known t.window d)) (hides 12)

  -- The symbol call for the ESI e: before any base 12.
  unfoldable pub finding : State s → (e : ℕ) → Finding E
  finding None e = hides 12
  finding (Some t) e = symbol_in t (side_of t.base e)

-- ---- Starts

module _ (s : Setting) where
  open s use {size as E, width}

  -- A source packet marks its first position and the one after its last; positions are given by their distance from the base.
  abbrev pub naming : (base : ℕ) → Located → Starts → Starts
  naming base (source p symbols) M = also (p - base) (also (p + length symbols - base) M)
  naming base (repair p n coefficients symbols) M = M

  -- The marks after a packet was accepted: those that stay, those that it makes, and those of the pass.
  unfoldable pub starts_after : (t t' : Joined s) → Located → Starts → Starts
  starts_after t t' q M = pass E (seen E width t'.window) width (naming t'.base q (moved width (t'.base - t.base) M))

  -- The marks after a call of which the checks before 11 have made this, and which has come to that.
  abbrev pub marking : Joined s → Starts → Reading → Outcome s → Starts
  marking t M (located q) (done n t') = starts_after t t' q M
  marking t M (located q) (refused n) = M
  marking t M (fails m) o = M

  -- The ADU call at a place: 8 behind the base, 12 past the window, else what the window hands out there.
  abbrev pub adu_in : (flows : List ℕ) → Joined s → Starts → (room : ℕ) → Side → Handing
  adu_in flows t M room behind = withholds 8
  adu_in flows t M room (ahead d) = need (ltb d width) 12 (handing E width flows room M (seen E width t.window) d)

  -- The ADU call for the ESI e, with `room` bytes of output: before any base 12.
  unfoldable pub adu_at : (flows : List ℕ) → State s → Starts → (room e : ℕ) → Handing
  adu_at flows None M room e = withholds 12
  adu_at flows (Some t) M room e = adu_in flows t M room (side_of t.base e)

-- ---- Origins

-- Which positions are heard: a source packet has brought them.
abbrev pub Origins : Type 0
Origins = ℕ → Bool

-- None.
abbrev pub unheard : Origins
unheard x = false

-- And the n positions from `first` on.
abbrev pub bringing : (first n : ℕ) → Origins → Origins
bringing first n H x = (leb first x && ltb x (first + n)) || H x

-- And those that a packet brings.
abbrev pub hearing : Located → Origins → Origins
hearing (source p symbols) H = bringing p (length symbols) H
hearing (repair p n coefficients symbols) H = H

-- After a call of which the checks before 11 have made this, and which has come to that.
abbrev pub origins_after : {s : Setting} → Reading → Outcome s → Origins → Origins
origins_after (located q) (done n t) H = hearing q H
origins_after (located q) (refused n) H = H
origins_after (fails m) o H = H
