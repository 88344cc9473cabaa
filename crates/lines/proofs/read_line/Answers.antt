-- `lines::read_line` meets its contract: each way out rewrites with what was read.
use Rattle.words.specs.Words.{length, le-leb, lt-leb}
use Rattle.lines.specs.Reading.{repair_in, source_in, call_in}
use Rattle.lines.proofs.Answers.{number-some, number-none, bytes-some, bytes_fit, bytes-none}
use Rattle.lines.proofs.read_line.Goals as goal

pub returns-then-line-gt8192 : goal.returns-then-line-gt8192
unfolding call_in
returns-then-line-gt8192 c = record { call = rw (lt-leb (length c.args.line.now) 8192 c.if-line-gt8192.true); within = tt }

pub returns-in-Some : goal.returns-in-Some
unfolding call_in repair_in
returns-in-Some c =
    record {
      call = rw (le-leb (length c.args.line.now) 8192 c.if-line-gt8192.false, bytes-some c.read_packet.ensures c.in-Some.is);
      within = bytes_fit c.read_packet.ensures c.in-Some.is;
    }

-- the line is short enough, and no repair packet's
pub returns-in_err-flow : goal.returns-in_err-flow
unfolding call_in repair_in source_in
returns-in_err-flow c =
    rw c.from_residual.ensures
    (record {
      call =
          rw (
            le-leb (length c.args.line.now) 8192 c.if-line-gt8192.false,
            bytes-none c.read_packet.ensures c.in_default.is,
            number-none c.read_field.ensures c.in_err-flow.was,
          );
      within = tt;
    })

-- its flow was read
pub returns-in_err-n : goal.returns-in_err-n
unfolding call_in repair_in source_in
returns-in_err-n c =
    rw c.from_residual-in_err-n.ensures
    (record {
      call =
          rw (
            le-leb (length c.args.line.now) 8192 c.if-line-gt8192.false,
            bytes-none c.read_packet.ensures c.in_default.is,
            number-some c.read_field.ensures c.in_ok-flow.was,
            bytes-none c.read_packet-2.ensures c.in_err-n.was,
          );
      within = tt;
    })

pub returns : goal.returns
unfolding call_in repair_in source_in
returns c =
    record {
      call =
          rw (
            le-leb (length c.args.line.now) 8192 c.if-line-gt8192.false,
            bytes-none c.read_packet.ensures c.in_default.is,
            number-some c.read_field.ensures c.in_ok-flow.was,
            bytes-some c.read_packet-2.ensures c.in_ok-n.was,
          );
      within = bytes_fit c.read_packet-2.ensures c.in_ok-n.was;
    }
