-- What a line's end makes of a capture's standing in memory.
-- Index
--   moved-counts: a progress that moves keeps its sums
--   one-or-none
--   counted: a record more
--   grown_none, grown_put, grown_more: output past what is written is as it was
--   first-opened: it opened a receiver, or did not
--   first_closed
--   packet-past: the most have been read
--   packet-read: a record is printed
--   line-opening, line_working, line_closed
use Rattle.std.specs.Prelude.{◌≡◌, ◌≤◌, ◌+◌, ◌<◌, ◌-◌, ◌∷◌, ◌++◌, ◌^◌, Result, Ok, Err}
use Rattle.words.specs.Words.{arith, ℕ, List, length, refl, ◌∙◌, sym, ap, [], Some, true, None, false, Bool, subst}
use Rattle.words.specs.Words.{Option, take, cond, eqb, ne_eqb, length-append, append-nil}
use Rattle.wire.specs.declared.Setting.{Setting}
use Rattle.printing.specs.Printed.{record_line}
use Rattle.printing.specs.Inner.{Put}
use Rattle.printing.proofs.Laws.{past_more, record_length}
use Rattle.lines.specs.Reading.{call_in}
use Rattle.records.specs.declared.Stage.{Stage}
use Rattle.records.specs.declared.Stage.TheVariants.{Opening, Working, Closed}
use Rattle.records.specs.declared.Progress.{Progress}
use Rattle.replay.specs.declared.Ended.{Ended}
use Rattle.records.specs.Records.{Record, most_lines}
use Rattle.records.specs.Replay.{state_at, setting_named}
use Rattle.records.specs.Standing.{Standing, opening, closed, working, after_line, printed_line, Counts, Stands, Kept}
use Rattle.wire.specs.declared.Refusal.TheVariants.{Values, Short, Unopened, Long, Form, Range, Empty, Behind, Ahead, Draws, Contradiction, Unknown}
use Rattle.wire.specs.declared.Refusal.TheVariants.{NoStart, Padding, Unannounced, Grid, Block}
use Rattle.answering.specs.declared.Fault.{Fault}
use Rattle.answering.specs.declared.Fault.TheVariants.{Refused, Malformed}
use Rattle.answering.specs.Inner.{fault_number, told, OpensOrNot, OpenedBy, Answered}
use Rattle.replay.specs.Inner.{Counted, moved_to, Grown, Passed, FirstEnded, AtPackets, PacketEnded, LineEnded}
use Rattle.records.proofs.Steps.{total-more, all_counted, line_read, line-past, line_opens}

-- ---- Sums

-- a progress that moves keeps its sums
pub moved-counts : (p : Progress) (stage : Stage) (have : ℕ) (rs : List Record) → Counts p rs → Counts (moved_to p stage have) rs
moved-counts p stage have rs k =
    record { lines = k.lines; accepts = k.accepts; refuses = k.refuses; knows = k.knows; few = k.few; small = k.small }

pub one-or-none : (b : Bool) → (cond b 1 0 ≤ 1) × (cond b 0 1 ≡ 1 - cond b 1 0)
one-or-none true = (omega arith, refl)
one-or-none false = (omega arith, refl)

-- a record more: the sums are far from wrapping
pub counted : (p : Progress) (r : Record) (p' : Progress) (a : ℕ) → a ≡ cond (eqb r.answer 0) 1 0 → p'.stage ≡ Working → p'.have ≡ 0
    → (p.lines + 1 < 2 ^ 64 → p'.lines ≡ p.lines + 1) → (p.accepted + a < 2 ^ 64 → p'.accepted ≡ p.accepted + a)
    → (p.refused + (1 - a) < 2 ^ 64 → p'.refused ≡ p.refused + (1 - a)) → (p.known + r.known < 2 ^ 64 → p'.known ≡ p.known + r.known) → Counted p r p'
counted p r p' a ea stage have l ac re kn = record {
  stage = stage;
  have = have;
  counts = λ rs k h sm.
      let n = length-append rs (r ∷ []) in
      let all = all_counted rs in
      let one = one-or-none (eqb r.answer 0) in
      record {
        lines = omega (arith, k.lines);
        accepts = omega (arith, k.accepts, k.few, total-more (λ x. cond (eqb x.answer 0) 1 0) rs r);
        refuses = omega (arith, k.refuses, k.few, total-more (λ x. cond (eqb x.answer 0) 0 1) rs r);
        knows = omega (arith, k.knows, k.small, k.few, total-more (λ x. x.known) rs r);
        few = omega arith;
        small = omega (arith, k.small, total-more (λ x. x.known) rs r);
      };
}

-- the number of a fault is none of an accepted packet's, and small
fault_bounds : (f : Fault) → (0 < fault_number f) × (fault_number f ≤ 18)
fault_bounds Malformed = (omega arith, omega arith)
fault_bounds (Refused Values) = (omega arith, omega arith)
fault_bounds (Refused Short) = (omega arith, omega arith)
fault_bounds (Refused Unopened) = (omega arith, omega arith)
fault_bounds (Refused Long) = (omega arith, omega arith)
fault_bounds (Refused Form) = (omega arith, omega arith)
fault_bounds (Refused Range) = (omega arith, omega arith)
fault_bounds (Refused Empty) = (omega arith, omega arith)
fault_bounds (Refused Behind) = (omega arith, omega arith)
fault_bounds (Refused Ahead) = (omega arith, omega arith)
fault_bounds (Refused Draws) = (omega arith, omega arith)
fault_bounds (Refused Contradiction) = (omega arith, omega arith)
fault_bounds (Refused Unknown) = (omega arith, omega arith)
fault_bounds (Refused NoStart) = (omega arith, omega arith)
fault_bounds (Refused Padding) = (omega arith, omega arith)
fault_bounds (Refused Unannounced) = (omega arith, omega arith)
fault_bounds (Refused Grid) = (omega arith, omega arith)
fault_bounds (Refused Block) = (omega arith, omega arith)

pub fault_none : (f : Fault) → ◌≡◌ {A = ℕ} 0 (cond (eqb (fault_number f) 0) 1 0)
fault_none f = let b = fault_bounds f in rw (ne_eqb (fault_number f) 0 (λ e. omega arith))

told_small : (x : Result ℕ Fault) → (told x).answer ≤ 18
told_small (Ok n) = omega arith
told_small (Err f) = (fault_bounds f).1

-- ---- Output

-- nothing was written
pub grown_none : (at : ℕ) (out : List ℕ) → at ≤ length out → Grown at at out out
grown_none at out h = record { grows = omega arith; within = h; past = refl }

-- a text was put after what was written
pub grown_put : {out out' : List ℕ} {at next : ℕ} {text : List ℕ} → Put out out' at next text → Grown at next out out'
grown_put put = record { grows = omega (arith, put.ends); within = put.within; past = put.past }

-- and more after that
pub grown_more : (a b c : List ℕ) {i j k : ℕ} → Grown i j a b → Grown j k b c → Grown i k a c
grown_more a b c {j = j} {k = k} x y = record {
  grows = omega (arith, x.grows, y.grows);
  within = y.within;
  past = y.past ∙ past_more b a j k y.grows x.past;
}

-- ---- The first line

-- it opened a receiver, or did not
pub first-opened : (p r : Progress) (line m m' : List ℕ) (b : Bool) → OpenedBy p.have line m' b → b ≡ true → r ≡ moved_to p Working 0
    → FirstEnded p line m m' r
first-opened p r line m m' b o t e = record {
  have = ap (λ (x : Progress). x.have) e;
  goes = λ l k h. subst (λ x. Stands x m' (after_line opening l)) (sym e) (go l k (setting_named l) refl (o l h));
}
  where
    go : (l : List ℕ) → Counts p [] → (x : Option Setting) → setting_named l ≡ x → OpensOrNot x m' b → Stands (moved_to p Working 0) m' (after_line opening l)
    go l k None q f = let z : ◌≡◌ {A = ℕ} 0 1 = cc in absurd (omega arith)
    go l k (Some s) q f =
        subst (Stands (moved_to p Working 0) m') (sym (line_opens l (Some s) q))
        (record { stage = refl; holds = f.1; counts = moved-counts p Working 0 [] k })

pub first_closed : (p r : Progress) (line m m' : List ℕ) (b : Bool) → OpenedBy p.have line m' b → b ≡ false → r ≡ moved_to p Closed 0
    → FirstEnded p line m m' r
first_closed p r line m m' b o t e = record {
  have = ap (λ (x : Progress). x.have) e;
  goes = λ l k h. subst (λ x. Stands x m' (after_line opening l)) (sym e) (go l k (setting_named l) refl (o l h));
}
  where
    go : (l : List ℕ) → Counts p [] → (x : Option Setting) → setting_named l ≡ x → OpensOrNot x m' b → Stands (moved_to p Closed 0) m' (after_line opening l)
    go l k (Some s) q f = let g = f.0 in let z : ◌≡◌ {A = ℕ} 0 1 = cc in absurd (omega arith)
    go l k None q f = subst (Stands (moved_to p Closed 0) m') (sym (line_opens l None q)) (refl, moved-counts p Closed 0 [] k)

-- ---- A packet line

-- nothing is printed of a line
silent : (x y : List ℕ) → y ≡ [] → x ≡ x ++ y
silent x y e = rw (e, append-nil x)

-- the most have been read
pub packet-past : (p r : Progress) (line m out : List ℕ) (at : ℕ) → at ≤ length out → most_lines ≤ p.lines → r ≡ moved_to p p.stage 0
    → PacketEnded p line m m out out at (record { progress = r; at = at })
packet-past p r line m out at n h e = record {
  room = omega arith;
  rest = grown_none at out n;
  have = ap (λ (x : Progress). x.have) e;
  goes = λ w l a k g. subst (λ x. Passed w l (take at out) (take at out) x m) (sym e) (go w l a k);
}
  where
    go : (w : Standing) (l : List ℕ) → AtPackets w → Stands p m w → Passed w l (take at out) (take at out) (moved_to p p.stage 0) m
    go opening l a k = absurd a
    go closed l a k = absurd a
    go (working s t rs) l a k =
        let (stays, prints) = line-past s t rs l (omega (arith, k.counts.lines)) in
        record {
          stands = subst (Stands (moved_to p p.stage 0) m) (sym stays)
              (record { stage = k.stage; holds = k.holds; counts = moved-counts p p.stage 0 rs k.counts });
          wrote = silent (take at out) _ prints;
        }

-- a record is printed
pub packet-read : (p p' : Progress) (line m m' out out' : List ℕ) (at next : ℕ) (x : Result ℕ Fault) → p.lines < most_lines
    → Answered p.have line m m' (told x) → Put out out' at next (record_line (p.lines + 1) (told x).answer (told x).known) → Counted p (told x) p'
    → PacketEnded p line m m' out out' at (record { progress = p'; at = next })
packet-read p p' line m m' out out' at next x few a put c = record {
  room =
      omega (
        arith,
        put.ends,
        record_length (p.lines + 1) (told x).answer (told x).known (omega arith) (omega (arith, told_small x)) (omega (arith, a.small)),
      );
  rest = grown_put put;
  have = c.have;
  goes = go;
}
  where
    go : (w : Standing) (l : List ℕ) → AtPackets w → Stands p m w → Kept p.have line l → Passed w l (take at out) (take next out') p' m'
    go opening l n k g = absurd n
    go closed l n k g = absurd n
    go (working s t rs) l n k g =
        let (e, held) = a.answer l s t g k.holds in
        let h : length rs < most_lines = omega (arith, k.counts.lines) in
        let (goes_on, prints) = line_read s t rs l h in
        record {
          stands = subst (Stands p' m') (sym goes_on)
              (subst (λ (x : Record). Stands p' m' (working s (state_at s t (call_in l)) (rs ++ (x ∷ [])))) e
              (record { stage = c.stage; holds = held; counts = c.counts rs k.counts h a.small }));
          wrote = put.bytes ∙ rw (prints, ← e, k.counts.lines);
        }

-- ---- Any line

pub line-opening : (p r : Progress) (line m m' out : List ℕ) (at : ℕ) → at ≤ length out → p.stage ≡ Opening → FirstEnded p line m m' r
    → LineEnded p line m m' out out at (record { progress = r; at = at })
unfolding printed_line
line-opening p r line m m' out at n e f = record { room = omega arith; rest = grown_none at out n; have = f.have; goes = go }
  where
    go : (w : Standing) (l : List ℕ) → Unit {0} → Stands p m w → Kept p.have line l → Passed w l (take at out) (take at out) r m'
    go opening l n k g = record { stands = f.goes l k.1 g; wrote = silent (take at out) [] refl }
    go closed l n k g = let q = k.0 in let z : ◌≡◌ {A = ℕ} 0 1 = cc in absurd (omega arith)
    go (working s t rs) l n k g = let q = k.stage in let z : ◌≡◌ {A = ℕ} 0 1 = cc in absurd (omega arith)

pub line_working : (p : Progress) (line m m' out out' : List ℕ) (at : ℕ) (r : Ended) → p.stage ≡ Working → PacketEnded p line m m' out out' at r
    → LineEnded p line m m' out out' at r
line_working p line m m' out out' at r e f = record { room = f.room; rest = f.rest; have = f.have; goes = go }
  where
    go : (w : Standing) (l : List ℕ) → Unit {0} → Stands p m w → Kept p.have line l → Passed w l (take at out) (take r.at out') r.progress m'
    go opening l n k g = let q = k.0 in let z : ◌≡◌ {A = ℕ} 0 1 = cc in absurd (omega arith)
    go closed l n k g = let q = k.0 in let z : ◌≡◌ {A = ℕ} 0 1 = cc in absurd (omega arith)
    go (working s t rs) l n k g = f.goes (working s t rs) l tt k g

pub line_closed : (p r : Progress) (line m out : List ℕ) (at : ℕ) → at ≤ length out → p.stage ≡ Closed → r ≡ moved_to p p.stage 0
    → LineEnded p line m m out out at (record { progress = r; at = at })
unfolding after_line printed_line
line_closed p r line m out at n e f = record {
  room = omega arith;
  rest = grown_none at out n;
  have = ap (λ (x : Progress). x.have) f;
  goes = λ w l n k g. subst (λ x. Passed w l (take at out) (take at out) x m) (sym f) (go w l k);
}
  where
    go : (w : Standing) (l : List ℕ) → Stands p m w → Passed w l (take at out) (take at out) (moved_to p p.stage 0) m
    go opening l k = let q = k.0 in let z : ◌≡◌ {A = ℕ} 0 1 = cc in absurd (omega arith)
    go closed l k = record { stands = (e, moved-counts p p.stage 0 [] k.1); wrote = silent (take at out) [] refl }
    go (working s t rs) l k = let q = k.stage in let z : ◌≡◌ {A = ℕ} 0 1 = cc in absurd (omega arith)
