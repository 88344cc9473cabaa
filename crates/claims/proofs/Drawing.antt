-- The draws that the calls give are those that the packets take: the headers of both ends keep the setting of the opening.
use Rattle.words.specs.Words.{ℕ, length, ◌∙◌, sym, ap, take, ap₂}
use Rattle.wire.specs.declared.Scheme.{Scheme}
use Rattle.wire.specs.Settings.{setting_of}
use Rattle.wire.proofs.Settings.{setting-names}
use Rattle.coefficients.specs.Coefficients.{packet_draws}
use Rattle.history.specs.History.{fresh}
use Rattle.receiver.specs.Draws.{draws_for}
use Rattle.holding.specs.Layout.{header_of}
use Rattle.receiver.specs.Layout.{receiver_layout}
use Rattle.holding.proofs.Headers.{setting-of}
use Rattle.sender.specs.Run.{symbols_of}
use Rattle.sender.proofs.Running.{run_held}
use Rattle.claims.specs.Drawing.{AcceptedDraws, MadeDraws}
use Rattle.claims.proofs.Demand.{opened_stands, stands, had_setting}
use Rattle.sender.specs.State as sender

pub accepted_draws : AcceptedDraws
accepted_draws scheme E w flows m₀ m a p e ts r =
    let (s, h) = had_setting (setting_of scheme E w) (length m₀) (sym p.answer ∙ e) in
    let v = (setting-names scheme E w s h).valid in
    let g = stands receiver_layout s flows v ts m fresh (opened_stands receiver_layout s flows v scheme E w m₀ m a p e h) r in
    (s, h, λ c m' v v' n d q. q.draws.draws (header_of s g.state) g.held.holds.header ∙ ap (λ x. draws_for x c) (setting-of s g.state))

pub made_draws : MadeDraws
made_draws t s l peers key dt count n d out out' q =
    q.draws.packet (sender.header_of (record { setting = t; flows = peers.run.flows; symbols = symbols_of t.size l })) (run_held t l peers.run).header
    ∙ ap₂ (λ (x : Scheme) (E : ℕ). packet_draws x E (take n out')) peers.scheme peers.size
