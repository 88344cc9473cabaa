-- A first line's opening.
use Rattle.std.specs.Prelude.{◌≡◌, ◌≤◌, ◌<◌, ◌&&◌, Result, Ok, Err}
use Rattle.std.specs.Result.{is_ok}
use Rattle.words.specs.Words.{arith, ℕ, List, length, refl, ◌∙◌, sym, ap, Some, true, None, false, Bool, subst, cond, ltb, leb, le-leb}
use Rattle.words.specs.Words.{lt-leb, ltb-true, ltb-false}
use Rattle.wire.specs.declared.Setting.{Setting}
use Rattle.wire.specs.Settings.{setting_of}
use Rattle.wire.specs.declared.Refusal.{Refusal}
use Rattle.wire.specs.Answers.{value, refusal, said}
use Rattle.wire.specs.Flows.{all_flows}
use Rattle.history.specs.History.{memory_size, working_size}
use Rattle.history.specs.Model.{opened}
use Rattle.receiver.specs.Promises.{opening}
use Rattle.holding.specs.Layout.{HoldsWith}
use Rattle.lines.specs.Forms.{longest}
use Rattle.lines.specs.Reading.{on, values_in}
use Rattle.lines.proofs.Options.{cond_same}
use Rattle.records.specs.Records.{room}
use Rattle.records.specs.Replay.{fitting, setting_named}
use Rattle.records.specs.Standing.{Kept}
use Rattle.answering.specs.Inner.{OpensOrNot, OpenedBy}

-- no line that can be kept so opens a receiver
pub opens_none : {have : ℕ} {line : List ℕ} (m' : List ℕ) → ((l : List ℕ) → Kept have line l → setting_named l ≡ None) → OpenedBy have line m' false
opens_none m' h = λ l k. subst (λ o. OpensOrNot o m' false) (sym (h l k)) refl

-- ---- The setting of a line

-- a line that is too long, one that is not of the form, one whose values opening refuses
pub long_opens_none : (l : List ℕ) → longest < length l → setting_named l ≡ None
unfolding setting_named
long_opens_none l h = rw (lt-leb (length l) longest h)

pub no_values : (l : List ℕ) → None ≡ values_in l → setting_named l ≡ None
unfolding setting_named
no_values l h = rw (sym h) (cond_same (leb (length l) longest) None)

pub with_values : (l : List ℕ) (a b c : ℕ) → Some (record { scheme = a; size = b; width = c }) ≡ values_in l
    → setting_named l ≡ cond (leb (length l) longest) (on (setting_of a b c) fitting) None
unfolding setting_named
with_values l a b c h = rw (sym h)

pub no_setting : (l : List ℕ) (a b c : ℕ) → setting_named l ≡ cond (leb (length l) longest) (on (setting_of a b c) fitting) None
    → None ≡ setting_of a b c → setting_named l ≡ None
no_setting l a b c e h = e ∙ rw (sym h) (cond_same (leb (length l) longest) None)

-- ---- Its memories

and_false : (b : Bool) → b && false ≡ false
and_false true = refl
and_false false = refl

pub large_working : (s : Setting) → room < working_size s → fitting s ≡ None
large_working s h = rw (lt-leb (working_size s) room h, and_false (leb (memory_size s) room))

pub large_memory : (s : Setting) → room < memory_size s → fitting s ≡ None
large_memory s h = rw (lt-leb (memory_size s) room h)

pub both_fit : (s : Setting) → memory_size s ≤ room → working_size s ≤ room → fitting s ≡ Some s
both_fit s h k = rw (le-leb (memory_size s) room h, le-leb (working_size s) room k)

pub not-fitting : (l : List ℕ) (a b c : ℕ) (s : Setting) → setting_named l ≡ cond (leb (length l) longest) (on (setting_of a b c) fitting) None
    → setting_of a b c ≡ Some s → fitting s ≡ None → setting_named l ≡ None
not-fitting l a b c s e g f = e ∙ rw (g, f) (cond_same (leb (length l) longest) None)

-- ---- What opening answered

pub open_refused : (a : Result ℕ Refusal) (r : Refusal) (s : Setting) (n : ℕ) → a ≡ Err r → said a ≡ opening (Some s) n → n < memory_size s
open_refused a r s n e h = go (ltb n (memory_size s)) refl (sym (ap said e) ∙ h)
  where
    go : (b : Bool) → ltb n (memory_size s) ≡ b → said (Err r) ≡ cond b (refusal 2) (value 0) → n < memory_size s
    go true t q = ltb-true n (memory_size s) t
    go false t q = let z : ◌≡◌ {A = ℕ} 0 1 = cc in absurd (omega arith)

pub open_done : (a : Result ℕ Refusal) (k : ℕ) (s : Setting) (n : ℕ) → a ≡ Ok k → said a ≡ opening (Some s) n → (memory_size s ≤ n) × (said a ≡ value 0)
open_done a k s n e h = go (ltb n (memory_size s)) refl (sym (ap said e) ∙ h)
  where
    go : (b : Bool) → ltb n (memory_size s) ≡ b → said (Ok k) ≡ cond b (refusal 2) (value 0) → (memory_size s ≤ n) × (said a ≡ value 0)
    go true t q = let z : ◌≡◌ {A = ℕ} 0 1 = cc in absurd (omega arith)
    go false t q = (ltb-false n (memory_size s) t, ap said e ∙ q)

-- the line opens the receiver
pub opens : {have : ℕ} {line : List ℕ} (m' : List ℕ) (s : Setting) → ((l : List ℕ) → Kept have line l → setting_named l ≡ Some s)
    → HoldsWith m' s all_flows (opened s) → OpenedBy have line m' true
opens m' s h held = λ l k. subst (λ o. OpensOrNot o m' true) (sym (h l k)) (refl, held)

-- what opening answered says whether the line opens the receiver
pub open_answered : {have : ℕ} {line : List ℕ} (m' : List ℕ) (s : Setting) (a : Result ℕ Refusal) → said a ≡ opening (Some s) room
    → (room < memory_size s → (l : List ℕ) → Kept have line l → setting_named l ≡ None)
    → (memory_size s ≤ room → (l : List ℕ) → Kept have line l → setting_named l ≡ Some s)
    → (said a ≡ value 0 → HoldsWith m' s all_flows (opened s)) → OpenedBy have line m' (is_ok a)
open_answered m' s (Ok k) e none some holds = let h = open_done (Ok k) k s room refl e in opens m' s (some h.0) (holds h.1)
open_answered m' s (Err r) e none some holds = opens_none m' (none (open_refused (Err r) r s room refl e))
