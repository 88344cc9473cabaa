-- `wire::setting_in` meets its contract.
use Rattle.words.specs.Words.{◌∙◌, sym}
use Rattle.wire.proofs.Settings.{short_none, other_none, header_read}
use Rattle.wire.proofs.setting_in.Goals as goal
use Rattle.wire.proofs.setting_in.Goals.{then-mem-lt8-via-then-mem-lt8, then-mem-lt8-via-else-mem-lt8+then-field_at-kind}

pub returns-then-mem-lt8 : goal.returns-then-mem-lt8
returns-then-mem-lt8 c =
    let a = c.args in
    elim c.then-mem-lt8.branch [
      | then-mem-lt8-via-then-mem-lt8 w ↦ rw (short_none _ a.mem.now w.if-mem-lt8.true)
      | then-mem-lt8-via-else-mem-lt8+then-field_at-kind w ↦
          rw (other_none a.kind a.mem.now (λ e. w.if-field_at-kind.true (w.field_at.ensures.0 ∙ e)))
    ]

pub returns : goal.returns
returns c =
    let a = c.args in
    rw (
      header_read a.kind a.mem.now c.if-mem-lt8.false (sym c.field_at.ensures.0 ∙ c.if-field_at-kind.false),
      ← c.field_at-2.ensures.0,
      ← c.field_at-3.ensures.0,
      ← c.field_at-4.ensures.0,
    )
    c.setting_of.ensures
