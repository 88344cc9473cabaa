-- `sender::make_repair` meets its contract.
use Rattle.std.specs.Prelude.{Err, ◌≡◌, ◌≤◌, ◌<◌, ◌^◌, ◌||◌}
use Rattle.words.specs.Words.{arith, rules, ◌∙◌, sym, Some, None, true, false, ltb, lt-ltb, le-ltb, not}
use Rattle.wire.specs.declared.Refusal.TheVariants.{Unopened}
use Rattle.words.specs.Words.{mul-le-mul}
use Rattle.wire.specs.Numbers.{within}
use Rattle.wire.proofs.Settings.{within_bounds}
use Rattle.sender.specs.State.{header_in}
use Rattle.sender.proofs.Heads.{opened}
use Rattle.sender.proofs.Promising.{kept, promise_unopened, promise_refused}
use Rattle.sender.proofs.Repairing.{repairing_range, repairing_empty, repairing_short}
use Rattle.sender.proofs.Combining.{repair-made, refused-made}
use Rattle.sender.proofs.make_repair.Goals as goal
use Rattle.sender.proofs.make_repair.Goals.{In_ok-header, Else-not-between}
use Rattle.sender.proofs.make_repair.Goals.{then-dt-gt15-via-then-dt-gt15, then-dt-gt15-via-else-dt-gt15+then-not-between}

-- the header that was read
has : (p : In_ok-header) → header_in p.args.mem.now ≡ Some p.in_ok-header.header
has p = search rules

-- where DT and count are in range
counted : (p : Else-not-between) → within 1 16 p.args.count ≡ true
counted p = sym p.between.ensures ∙ p.if-not-between.false

few : (p : Else-not-between) → p.args.count ≤ 16
few p = (within_bounds 1 16 p.args.count (counted p)).1

ranged : (p : Else-not-between) → (ltb 15 p.args.dt || not (within 1 16 p.args.count)) ≡ false
ranged p = rw (le-ltb 15 p.args.dt p.if-dt-gt15.false, counted p)

pub returns-in_err-header : goal.returns-in_err-header
returns-in_err-header c =
    let refused : c.from_residual.result ≡ Err Unopened = search rules in
    let none : header_in c.args.mem.now ≡ None = search rules in
    rw refused (refused-made _ _ _ _ _ _ (promise_unopened _ _ _ none _ (kept _ _ _)))

pub returns-then-dt-gt15 : goal.returns-then-dt-gt15
returns-then-dt-gt15 c =
    let out_of_range : (ltb 15 c.args.dt || not (within 1 16 c.args.count)) ≡ true =
    elim c.then-dt-gt15.branch [
      | then-dt-gt15-via-then-dt-gt15 w ↦ rw (lt-ltb 15 _ w.if-dt-gt15.true)
      | then-dt-gt15-via-else-dt-gt15+then-not-between w ↦
          rw (le-ltb 15 _ w.if-dt-gt15.false, ← w.between.ensures, w.if-not-between.true)
    ] in
    refused-made _ _ _ _ _ _
    (promise_refused _ _ _ _ (has (goal.at.returns-then-dt-gt15 c).In_ok-header) _ (λ e. omega arith) (λ s k q. repairing_range _ _ _ _ s out_of_range))

pub returns-then-header-eq0 : goal.returns-then-header-eq0
returns-then-header-eq0 c =
    let o = has (goal.at.returns-then-header-eq0 c).In_ok-header in
    let r = (goal.at.returns-then-header-eq0 c).Else-not-between in
    refused-made _ _ _ _ _ _
    (promise_refused _ _ _ _ o _ (λ e. omega arith) (λ s k q. repairing_empty _ _ _ _ s (ranged r) _ q c.if-header-eq0.true))

-- the packet's length is a usize
pub overflow_mul-count : goal.overflow_mul-count
overflow_mul-count c =
    let h = opened _ _ (has (goal.at.overflow_mul-count c).In_ok-header) in
    omega (arith, mul-le-mul (few (goal.at.overflow_mul-count c).Else-not-between) h.valid.size_most)

pub overflow_add-count : goal.overflow_add-count
overflow_add-count c =
    let h = opened _ _ (has (goal.at.overflow_add-count c).In_ok-header) in
    omega (arith, mul-le-mul (few (goal.at.overflow_add-count c).Else-not-between) h.valid.size_most)

pub returns-then-out-count : goal.returns-then-out-count
returns-then-out-count c =
    let o = has (goal.at.returns-then-out-count c).In_ok-header in
    let r = (goal.at.returns-then-out-count c).Else-not-between in
    refused-made _ _ _ _ _ _
    (promise_refused _ _ _ _ o _ (λ e. omega arith)
    (λ s k q. repairing_short _ _ _ _ s (ranged r) _ q c.if-header-eq0.false c.if-out-count.true))

pub write_packet-requires : goal.write_packet-requires
write_packet-requires c =
    let o = has (goal.at.write_packet-requires c).In_ok-header in
    (o, c.if-out-count.false, c.if-dt-gt15.false, few (goal.at.write_packet-requires c).Else-not-between)

pub returns : goal.returns
returns c =
    let o = has (goal.at.returns c).In_ok-header in
    let r = (goal.at.returns c).Else-not-between in
    let a = c.args in
    let keyed : a.key.0 < 2 ^ 16 = omega arith in
    repair-made _ a.key.0 a.dt a.count a.mem.now a.out.now o (ranged r) keyed
    c.if-header-eq0.false c.if-out-count.false _ _ c.write_packet.ensures
