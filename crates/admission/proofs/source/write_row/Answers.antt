-- `admission::source::write_row` meets its contract.
use Rattle.std.specs.Prelude.{◌≡◌, ◌≤◌, ◌+◌, ◌-◌}
use Rattle.words.specs.Words.{ℕ, length, List, ◌∙◌, ap, drop, take}
use Rattle.memory.specs.Part.{splice}
use Rattle.memory.proofs.Parts.{cut, put, length_part}
use Rattle.wire.specs.Packets.{symbol_at}
use Rattle.admission.proofs.Gathering.{symbol_room}
use Rattle.admission.proofs.source.write_row.Goals as goal

lent : (at size : ℕ) (work : List ℕ) → at + size ≤ length work → length (take (at + size - at) (drop at work)) ≡ size
lent at size work room = rw (cut at size work) (length_part at size work room)

pub returns : goal.returns
returns c =
    let a = c.args in
    let at = c.symbol_offset-at in
    let written = c.write_symbol in
    let room = symbol_room a.shape.width a.shape.size a.k _ a.work.now at.ensures c.requires.0 in
    put at.result a.shape.size written.new.dst a.work.now room written.auto.dst
    ∙ ap (λ (x : List ℕ). splice at.result x a.work.now) (rw (lent at.result a.shape.size a.work.now room) at written.ensures)
    ∙ ap (λ (at : ℕ). splice at (symbol_at a.flow a.adu.now a.shape.size a.i) a.work.now) at.ensures.start
