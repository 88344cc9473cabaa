-- `wire::read_repair` meets its contract.
use Rattle.std.specs.Prelude.{◌≡◌, ◌-◌}
use Rattle.words.specs.Words.{arith, length, ◌∙◌, sym}
use native.Mathlib.Nat.{zero-div, div-zero}
use Rattle.wire.specs.Packets.{repair_count, repair_key, density_threshold, protected_count, first_esi}
use Rattle.wire.proofs.Headers.{no_repair, no_count, no_symbols, uneven, even_read}
use Rattle.wire.proofs.read_repair.Goals as goal
use Rattle.wire.proofs.read_repair.Goals.{then-packet-lt8-via-then-packet-lt8, then-packet-lt8-via-else-packet-lt8+then-size-eq0}
use Rattle.wire.proofs.read_repair.Goals.{then-not-between-via-then-not-between, then-not-between-via-else-not-between+then-packet-count}

pub returns-then-packet-lt8 : goal.returns-then-packet-lt8
unfolding repair_count
returns-then-packet-lt8 c =
    let a = c.args in
    no_repair _ _ (no_symbols a.size a.packet.now (elim c.then-packet-lt8.branch [
      | then-packet-lt8-via-then-packet-lt8 w ↦ let z : length a.packet.now - 8 ≡ 0 = omega arith in rw z (zero-div a.size)
      | then-packet-lt8-via-else-packet-lt8+then-size-eq0 w ↦ rw w.if-size-eq0.true (div-zero (length a.packet.now - 8))
    ]))

pub returns-then-not-between : goal.returns-then-not-between
unfolding repair_count
returns-then-not-between c =
    let a = c.args in
    let e = sym c.between.ensures in
    no_repair _ _ (elim c.then-not-between.branch [
      | then-not-between-via-then-not-between w ↦ no_count a.size a.packet.now (e ∙ w.if-not-between.true)
      | then-not-between-via-else-not-between+then-packet-count w ↦
          uneven a.size a.packet.now (e ∙ w.if-not-between.false) w.if-packet-count.true
    ])

pub returns : goal.returns
unfolding repair_count repair_key density_threshold protected_count first_esi
returns c =
    let a = c.args in
    rw (c.load_u16.ensures, c.load_u16-dt_nss.ensures, c.load_u32.ensures)
    (even_read a.size a.packet.now (sym c.if-not-between.ensures) c.if-packet-count.false)
