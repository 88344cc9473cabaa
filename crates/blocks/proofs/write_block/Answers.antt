-- `blocks::write_block` meets its contract: the setting, and the numbers one after the other.
use Rattle.words.specs.Words.{◌∙◌, ap}
use Rattle.memory.specs.Part.{splice}
use Rattle.wire.specs.Stored.{setting_bytes}
use Rattle.blocks.proofs.Stored.{chain}
use Rattle.blocks.proofs.write_block.Goals as goal

pub returns : goal.returns
returns c =
    let a = c.args in
    chain a.kind a.block a.mem.now
    (c.write_setting.ensures ∙ ap (λ t. splice 0 (setting_bytes a.kind t) a.mem.now) c.setting_for.ensures)
    c.store_u16.ensures c.store_u16-2.ensures c.store_u32.ensures
