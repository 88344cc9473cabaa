-- `lines::read_bytes` meets its contract.
use Rattle.std.specs.Prelude.{◌≡◌, ◌/◌}
use Rattle.words.specs.Words.{arith, rules, length, ◌∙◌, sym, length-set}
use Rattle.lines.proofs.Digits.{odd_digits, no_digits, nothing_read, next_digits, more-read, all_read}
use Rattle.lines.proofs.read_bytes.Goals.{then-digits-eq1-via-then-digits-eq1, then-digits-eq1-via-else-digits-eq1+then-not-all_hexadecimal}
use Rattle.lines.proofs.read_bytes.Goals as goal

pub returns-then-digits-eq1 : goal.returns-then-digits-eq1
returns-then-digits-eq1 c =
    record {
      bytes =
          sym
          (elim c.then-digits-eq1.branch [
            | then-digits-eq1-via-then-digits-eq1 w ↦ odd_digits c.args.digits.now w.if-digits-eq1.true
            | then-digits-eq1-via-else-digits-eq1+then-not-all_hexadecimal w ↦
                no_digits c.args.digits.now (sym w.all_hexadecimal.ensures ∙ w.if-not-all_hexadecimal.true)
          ]);
      fits = tt;
    }

pub loop-k-init : goal.loop-k-init
loop-k-init c = (
  search rules,
  omega arith,
  nothing_read c.args.packet.now (sym c.all_hexadecimal.ensures ∙ c.if-not-all_hexadecimal.false),
)

pub byte_of-requires : goal.byte_of-requires
byte_of-requires c = next_digits c.loop-k.invariant.2 (omega arith)

pub loop-k-preserved : goal.loop-k-preserved
loop-k-preserved c =
    let l = c.loop-k in
    (simp length-set l.invariant.0, omega arith, more-read l.invariant.2 (omega arith) (omega arith) c.byte_of.ensures)

pub returns : goal.returns
returns c =
    let l = c.loop-k in
    let e : l.k ≡ length c.args.digits.now / 2 = omega arith in
    record { bytes = rw (← e) (all_read l.invariant.2 (omega arith)); fits = omega arith }
