-- Every number that a packet call is refused with is that of a refusal, and not 3; a packet that is accepted leaves the window reduced.
use Rattle.std.specs.Prelude.{◌≡◌, ◌+◌, ◌<◌, ◌≢◌}
use Rattle.words.specs.Words.{arith, ℕ, List, refl, Some, true, None, false, Bool, Option, leb}
use Rattle.wire.specs.declared.Setting.{Setting}
use Rattle.wire.specs.declared.Refusal.{Refusal}
use Rattle.wire.specs.declared.Refusal.TheVariants.{Short, Long, Form, Range, Behind, Ahead, Draws, Contradiction, Unannounced}
use Rattle.wire.specs.Numbers.{number_of}
use Rattle.wire.specs.Packets.{source_esi, first_esi}
use Rattle.decoder.specs.Bytes.{Coded}
use Rattle.decoder.specs.Model.{Rref}
use Rattle.decoder.proofs.Bytes.{laws}
use Rattle.history.specs.History.{Side, behind, ahead, side_of, Call, source-call, repair-call, Reading, fails, located, check, farthest, from_side}
use Rattle.history.specs.History.{read_source, read_repair, reading}
use Rattle.history.specs.Model.{packet_of, Joined, Outcome, refused, done, added, responds, answering}
use Rattle.decoder.specs.Model as model
use Rattle.decoder.specs.Receiver as decoder
use Rattle.decoder.proofs.History as history

-- The number of a refusal that is not 3.
pub record Named (n : ℕ) : Type 0 where
  pub refusal : Refusal
  pub number : number_of refusal ≡ n
  pub other : n ≢ 3

named : (r : Refusal) → number_of r ≢ 3 → Named (number_of r)
named r h = record { refusal = r; number = refl; other = h }

abbrev NamedReading : Reading → Type 0
NamedReading (fails n) = Named n
NamedReading (located q) = Unit {0}

check-named : (t : Bool) (n : ℕ) (r : Reading) → Named n → NamedReading r → NamedReading (check t n r)
unfolding check
check-named true n r a b = b
check-named false n r a b = a

placed_named : (n : ℕ) (p : Side) (f : ℕ → Reading) → ((d : ℕ) → NamedReading (f d)) → NamedReading (from_side n p f)
unfolding from_side
placed_named n behind f k = named Behind (λ e. absurd (omega (arith, e)))
placed_named n (ahead d) f k = check-named (leb (d + n) farthest) 9 (f d) (named Ahead (λ e. absurd (omega (arith, e)))) (k d)

reading-named : (s : Setting) (flows : List ℕ) (base room : ℕ) (c : Call) → NamedReading (reading s flows base room c)
unfolding reading read_source read_repair
reading-named s flows base room (source-call flow p) =
    check-named _ 2 _ (named Short (λ e. absurd (omega (arith, e))))
    (check-named _ 5 _ (named Form (λ e. absurd (omega (arith, e))))
    (check-named _ 16 _ (named Unannounced (λ e. absurd (omega (arith, e))))
    (check-named _ 4 _ (named Long (λ e. absurd (omega (arith, e)))) (placed_named _ (side_of base (source_esi p)) _ (λ d. tt)))))
reading-named s flows base room (repair-call p) =
    check-named _ 2 _ (named Short (λ e. absurd (omega (arith, e))))
    (check-named _ 5 _ (named Form (λ e. absurd (omega (arith, e))))
    (check-named _ 6 _ (named Range (λ e. absurd (omega (arith, e))))
    (placed_named _ (side_of base (first_esi p)) _ (λ d. check-named _ 10 _ (named Draws (λ e. absurd (omega (arith, e)))) tt))))

module _ (s : Setting) (e : 0 < s.size) where
  open s use {size as E, width as w}

  abbrev pub Sound : Outcome s → Type 0
  Sound (refused n) = Named n
  Sound (done n t) = Rref t.window

  inserted_sound : (t : Joined s) (b : ℕ) (S : model.State (Coded E) w) (es : List (model.Row (Coded E) w)) (o : Option (model.State (Coded E) w))
      → history.AddedAll (laws E e) S es o → Sound (added s t (decoder.and_then o (λ T. Some (record { base = b; window = T }))))
  inserted_sound t b S es None h = named Contradiction (λ e. absurd (omega (arith, e)))
  inserted_sound t b S es (Some T) h = h.0

  responds_sound : (t : Joined s) → Rref t.window → (r : Reading) → NamedReading r → Sound (responds s t r)
  unfolding decoder.receive
  responds_sound t k (fails n) h = h
  responds_sound t k (located q) h =
      let d = decoder.rise t (packet_of E q) in
      let S = decoder.advance_by d t.window in
      let es = decoder.over (Coded E) w (t.base + d) (packet_of E q) in
      inserted_sound t (t.base + d) S es (decoder.insert_all es S)
      (history.insert_all_added (laws E e) es S (history.advance_by_rref (laws E e) d t.window k))

  -- What a packet call comes to: a refusal with its number, or a reduced window.
  pub answering_sound : (flows : List ℕ) (t : Joined s) → Rref t.window → (room : ℕ) (c : Call) → Sound (answering s flows t room c)
  unfolding answering
  answering_sound flows t k room c = responds_sound t k (reading s flows t.base room c) (reading-named s flows t.base room c)
