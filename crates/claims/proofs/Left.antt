-- Memory that an end has opened and only its calls have changed since has its header, with the setting of the opening.
use Rattle.std.specs.Prelude.{◌≡◌}
use Rattle.words.specs.Words.{ℕ, List, length, ◌∙◌, sym, ap, Some, subst, ap₂}
use Rattle.memory.specs.Contained.{Contained}
use Rattle.wire.specs.declared.Setting.{Setting}
use Rattle.wire.specs.Settings.{setting_of}
use Rattle.wire.specs.Opening.{receiver_memory, working_memory}
use Rattle.wire.proofs.Settings.{setting-names}
use Rattle.history.specs.History.{fresh}
use Rattle.history.specs.Model.{State}
use Rattle.holding.specs.declared.Header.{Header}
use Rattle.holding.specs.Header.{header_in}
use Rattle.holding.specs.Layout.{header_of, HoldsWith}
use Rattle.holding.proofs.Headers.{setting-of}
use Rattle.receiver.specs.Layout.{receiver_layout}
use Rattle.sender.specs.Run.{symbols_of}
use Rattle.claims.specs.AnyMemory.{OfSender, OfReceiver, WithinSizes}
use Rattle.claims.proofs.Demand.{had_setting, stands, opened_stands}
use Rattle.sender.proofs.Running.{run_held}
use Rattle.sender.specs.State as sender

-- The sender that such a memory holds.
abbrev pub sender_in : {t : Setting} {m : List ℕ} → OfSender t m → sender.Sender
sender_in {t} s = record { setting = t; flows = s.run.flows; symbols = symbols_of t.size s.calls }

pub sender_held : (t : Setting) (m : List ℕ) (s : OfSender t m) → sender.Holds m (sender_in s)
sender_held t m s = subst (λ x. sender.Holds x (sender_in s)) (sym s.left) (run_held t s.calls s.run)

-- The state that such a memory of a receiver holds, and its header.
pub record Had (E width : ℕ) (m : List ℕ) : Type 0 where
  pub setting : Setting
  pub flows : List ℕ
  pub state : State setting
  pub held : HoldsWith m setting flows state
  pub size : setting.size ≡ E
  pub wide : setting.width ≡ width

pub receiver_held : (E width : ℕ) (m : List ℕ) → OfReceiver E width m → Had E width m
receiver_held E width m r =
    let (s, h) = had_setting (setting_of r.scheme E width) (length r.before) (sym r.opened.answer ∙ r.answered) in
    let n = setting-names r.scheme E width s h in
    let v = n.valid in
    let g = stands receiver_layout s r.flows v r.calls r.after fresh
    (opened_stands receiver_layout s r.flows v r.scheme E width r.before r.after r.answer r.opened r.answered h) r.run in
    record {
      setting = s;
      flows = r.flows;
      state = g.state;
      held = subst (λ x. HoldsWith x s r.flows g.state) (sym r.left) g.held;
      size = n.size;
      wide = n.width;
    }

pub record Has (E width : ℕ) (m : List ℕ) : Type 0 where
  pub header : Header
  pub here : header_in m ≡ Some header
  pub size : header.setting.size ≡ E
  pub wide : header.setting.width ≡ width

pub receiver_has : (E width : ℕ) (m : List ℕ) → OfReceiver E width m → Has E width m
receiver_has E width m r =
    let h = receiver_held E width m r in
    let i = setting-of h.setting h.state in
    record {
      header = header_of h.setting h.state;
      here = h.held.holds.header;
      size = ap (λ (x : Setting). x.size) i ∙ h.size;
      wide = ap (λ (x : Setting). x.width) i ∙ h.wide;
    }

pub within-sizes : WithinSizes
within-sizes E width m r c m' v v' a p =
    let h = receiver_has E width m r in
    let (k, j) = p.received.contained h.header h.here in (
      subst (λ n. Contained n m m') (ap₂ receiver_memory h.size h.wide) k,
      subst (λ n. Contained n v v') (ap₂ working_memory h.size h.wide) j,
    )
