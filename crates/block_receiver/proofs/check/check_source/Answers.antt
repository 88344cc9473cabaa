-- `block_receiver::check::check_source` meets its contract: each way out is told by the tests before it.
use Rattle.std.specs.Prelude.{◌≡◌, ◌-◌, Ok}
use Rattle.words.specs.Words.{Bool, length, sym, ap, ◌∙◌, lt-leb, le-leb}
use Rattle.blocks.specs.declared.identifier.Identifier.{Identifier}
use Rattle.blocks.specs.Identifiers.{identifier_at}
use Rattle.block_receiver.specs.Reading.{names_source}
use Rattle.block_receiver.proofs.Checking.{source_short, source_misnamed, source-long, source_good}
use Rattle.block_receiver.proofs.check.check_source.Goals as goal
use Rattle.block_receiver.proofs.check.check_source.Goals.{After-names_source}

-- The test of the identifier that was read.
named : (c : After-names_source) (t : Bool) → c.names_source.result ≡ t
    → names_source c.args.block (identifier_at c.args.packet.now (length c.args.packet.now - 6)) ≡ t
named c t e = sym (ap (names_source c.args.block) c.read-id.ensures) ∙ sym c.names_source.ensures ∙ e

pub returns-then-n-lt6 : goal.returns-then-n-lt6
returns-then-n-lt6 c = source_short _ _ (lt-leb 6 _ c.if-n-lt6.true)

pub returns-then-not-names_source : goal.returns-then-not-names_source
returns-then-not-names_source c =
    source_misnamed _ _ (le-leb 6 _ c.if-n-lt6.false) (named (goal.at.returns-then-not-names_source c).After-names_source _ c.if-not-names_source.true)

pub returns-then-block-n : goal.returns-then-block-n
returns-then-block-n c =
    source-long _ _ (le-leb 6 _ c.if-n-lt6.false) (named (goal.at.returns-then-block-n c).After-names_source _ c.if-not-names_source.false)
    (lt-leb _ _ c.if-block-n.true)

pub returns : goal.returns
returns c =
    ap (λ (id : Identifier). Ok id.esi) c.read-id.ensures
    ∙ source_good _ _ (le-leb 6 _ c.if-n-lt6.false) (named (goal.at.returns c).After-names_source _ c.if-not-names_source.false)
    (le-leb _ _ c.if-block-n.false)
