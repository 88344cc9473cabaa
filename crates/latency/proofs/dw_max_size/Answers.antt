-- `latency::dw_max_size` meets its contract.
use Rattle.std.specs.Prelude.{Ok}
use Rattle.words.specs.Words.{ℕ, ◌∙◌, sym, ap}
use Rattle.latency.specs.Window.{window_in}
use Rattle.latency.proofs.Laws.{bounds, window_answered}
use Rattle.latency.proofs.dw_max_size.Goals as goal

pub returns-then-not-are_allowed : goal.returns-then-not-are_allowed
returns-then-not-are_allowed c = window_answered _ _ _ _ (rw (← c.are_allowed.ensures, c.if-not-are_allowed.true))

pub divide-requires : goal.divide-requires
divide-requires c = bounds _ _ _ (sym c.are_allowed.ensures ∙ c.if-not-are_allowed.false)

pub returns : goal.returns
returns c =
    window_answered _ _ _ _ (rw (← c.are_allowed.ensures, c.if-not-are_allowed.false) (ap (λ (d : ℕ × ℕ). window_in (Ok d)) c.divide.ensures))
