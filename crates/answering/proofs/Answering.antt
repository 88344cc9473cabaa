-- A packet line's answer, and a first line's opening.
use Rattle.std.specs.Prelude.{◌≡◌, ◌≤◌, ◌<◌, Result, Ok, Err}
use Rattle.words.specs.Words.{arith, ℕ, List, length, refl, ◌∙◌, sym, ap, Some, None, subst, Option, none-ne-some, lt-leb, take}
use Rattle.wire.specs.declared.Setting.{Setting}
use Rattle.history.specs.History.{Call, source-call, repair-call}
use Rattle.history.specs.Model.{State, Outcome, refused, done, said_of, state_after, receiving}
use Rattle.wire.specs.Answers.{said}
use Rattle.wire.specs.Flows.{all_flows}
use Rattle.receiver.specs.Promises.{answer_of, Draws, Follows, PacketAnswered}
use Rattle.holding.specs.Layout.{HoldsWith}
use Rattle.receiver.specs.Layout.{receiver_layout}
use Rattle.lines.specs.declared.Spoken.{Spoken}
use Rattle.lines.specs.declared.Spoken.TheVariants.{Source, Repair}
use Rattle.lines.specs.Forms.{longest}
use Rattle.lines.specs.Inner.{CallRead}
use Rattle.lines.specs.Reading.{call_in}
use Rattle.records.specs.Records.{Record, room}
use Rattle.records.specs.Replay.{record_of, malformed, record_at, state_at}
use Rattle.records.specs.Standing.{Kept}
use Rattle.answering.specs.Inner.{Answered}
use Rattle.wire.specs.declared.Refusal.{Refusal}

-- ---- Packet lines

-- a line that is too long is not of the form
pub long-none : (l : List ℕ) → longest < length l → call_in l ≡ None
unfolding call_in
long-none l h = rw (lt-leb (length l) longest h)

-- a line that is not of the form
pub answered_other : (have : ℕ) (line m : List ℕ) → ((l : List ℕ) → Kept have line l → call_in l ≡ None) → Answered have line m m malformed
answered_other have line m h = record {
  small = omega arith;
  other = λ l k e. refl;
  answer = λ l s t k held.
      subst (λ o. (malformed ≡ record_at s t o) × HoldsWith m s all_flows (state_at s t o)) (sym (h l k)) (refl, held);
}

-- what a packet line said
pub spoken_source : {p : List ℕ} {o : Option Call} (x : Option Spoken) (flow n : ℕ) → x ≡ Some (Source flow n) → CallRead p o x
    → (o ≡ Some (source-call flow (take n p))) × (n ≤ length p)
spoken_source x flow n e h = let g = subst (CallRead _ _) e h in (sym g.call, g.within)

pub spoken_repair : {p : List ℕ} {o : Option Call} (x : Option Spoken) (n : ℕ) → x ≡ Some (Repair n) → CallRead p o x
    → (o ≡ Some (repair-call (take n p))) × (n ≤ length p)
spoken_repair x n e h = let g = subst (CallRead _ _) e h in (sym g.call, g.within)

pub spoken_nothing : {p : List ℕ} {o : Option Call} (x : Option Spoken) → x ≡ None → CallRead p o x → o ≡ None
spoken_nothing x e h = let g = subst (CallRead _ _) e h in sym g.call

-- what a call did
did : (s : Setting) (t : State s) (o : Outcome s) (m m' : List ℕ) (a : Result (ℕ × ℕ) Refusal) → Follows receiver_layout s all_flows o m m' (answer_of a)
    → HoldsWith m s all_flows t → (said (answer_of a) ≡ said_of o) × HoldsWith m' s all_flows (state_after t o)
did s t (refused n) m m' a (e, q) h = (e, subst (λ x. HoldsWith x s all_flows t) (sym q) h)
did s t (done n t') m m' a p h = p

few : (c : Call) (m : List ℕ) (a : Result (ℕ × ℕ) Refusal) → Draws c m a → (record_of (said (answer_of a))).known ≤ 65535
few c m (Ok (n, d)) h = h.small.0
few c m (Err r) h = omega arith

-- a line of the form
pub answered_call : (have : ℕ) (line m m' v v' : List ℕ) (c : Call) (a : Result (ℕ × ℕ) Refusal) (r : Record)
    → ((l : List ℕ) → Kept have line l → call_in l ≡ Some c) → length v ≡ room → PacketAnswered receiver_layout c m m' v v' a → r ≡ record_of (said (answer_of a)) → Answered have line m m' r
answered_call have line m m' v v' c a r h lent p e = record {
  small = rw e (few c m a p.draws);
  other = λ l k n. absurd (none-ne-some c (sym n ∙ h l k));
  answer = λ l s t k held.
      let f = subst (λ x. Follows receiver_layout s all_flows (receiving s all_flows t x c) m m' (answer_of a)) lent (p.received.follows s all_flows t held) in
      let (same, after) = did s t (receiving s all_flows t room c) m m' a f held in
      subst (λ o. (r ≡ record_at s t o) × HoldsWith m' s all_flows (state_at s t o)) (sym (h l k)) (e ∙ ap record_of same, after);
}
