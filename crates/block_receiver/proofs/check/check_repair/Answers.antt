-- `block_receiver::check::check_repair` meets its contract: each way out is told by the tests before it.
use Rattle.std.specs.Prelude.{◌≡◌, Ok}
use Rattle.words.specs.Words.{Bool, sym, ap, ◌∙◌, ne_eqb, eq-eqb}
use Rattle.blocks.specs.declared.identifier.Identifier.{Identifier}
use Rattle.blocks.specs.Identifiers.{identifier_at}
use Rattle.block_receiver.specs.Reading.{names_repair}
use Rattle.block_receiver.proofs.Checking.{repair_sized, repair_misnamed, repair_good}
use Rattle.block_receiver.proofs.check.check_repair.Goals as goal
use Rattle.block_receiver.proofs.check.check_repair.Goals.{After-names_repair}

-- The test of the identifier that was read.
named : (c : After-names_repair) (t : Bool) → c.names_repair.result ≡ t → names_repair c.args.block (identifier_at c.args.packet.now 0) ≡ t
named c t e = sym (ap (names_repair c.args.block) c.read-id.ensures) ∙ sym c.names_repair.ensures ∙ e

pub returns-then-packet-block : goal.returns-then-packet-block
returns-then-packet-block c = repair_sized _ _ (ne_eqb _ _ c.if-packet-block.true)

pub returns-then-not-names_repair : goal.returns-then-not-names_repair
returns-then-not-names_repair c =
    repair_misnamed _ _ (eq-eqb _ _ c.if-packet-block.false)
    (named (goal.at.returns-then-not-names_repair c).After-names_repair _ c.if-not-names_repair.true)

pub returns : goal.returns
returns c =
    ap (λ (id : Identifier). Ok id.esi) c.read-id.ensures
    ∙ repair_good _ _ (eq-eqb _ _ c.if-packet-block.false) (named (goal.at.returns c).After-names_repair _ c.if-not-names_repair.false)
