-- `sender::add_adu` meets its contract.
use Rattle.std.specs.Prelude.{◌≡◌}
use Rattle.words.specs.Words.{arith, rules, ◌∙◌, sym, ap, Some, true}
use Rattle.wire.specs.Flows.{announced}
use Rattle.wire.proofs.Reading.{source-length}
use Rattle.sender.specs.declared.Header.{Header}
use Rattle.sender.specs.State.{Sender, header_in, taken, Holds}
use Rattle.sender.proofs.Heads.{header-room, opened}
use Rattle.sender.proofs.Promising.{promise_refused, promise_done}
use Rattle.sender.proofs.Promising.{adding-stray, adding-long, adding_many, adding_short, adding_done}
use Rattle.sender.proofs.add_adu.Goals as goal
use Rattle.sender.proofs.add_adu.Goals.{In_ok-header, Else-not-is_announced}

-- the header that was read
has : (p : In_ok-header) → header_in p.args.mem.now ≡ Some p.in_ok-header.header
has p = search rules

-- where the flow is announced
announces : (p : Else-not-is_announced) (s : Sender) → Holds p.args.mem.now s → announced s.flows p.args.flow ≡ true
announces p s k = rw k.flows at (sym p.is_announced.ensures ∙ p.if-not-is_announced.false)

pub is_announced-requires : goal.is_announced-requires
is_announced-requires c = omega (arith, header-room, (opened _ _ (has (goal.at.is_announced-requires c).In_ok-header)).room)

pub returns-then-not-is_announced : goal.returns-then-not-is_announced
returns-then-not-is_announced c =
    let o = has (goal.at.returns-then-not-is_announced c).In_ok-header in
    let f = sym c.is_announced.ensures ∙ c.if-not-is_announced.true in
    promise_refused _ _ _ _ o _ (λ e. omega arith) (λ s k q. adding-stray _ _ _ s (rw k.flows at f))

pub returns-then-adu-gt-LONGEST_ADU : goal.returns-then-adu-gt-LONGEST_ADU
returns-then-adu-gt-LONGEST_ADU c =
    let o = has (goal.at.returns-then-adu-gt-LONGEST_ADU c).In_ok-header in
    let p = (goal.at.returns-then-adu-gt-LONGEST_ADU c).Else-not-is_announced in
    promise_refused _ _ _ _ o _ (λ e. omega arith) (λ s k q. adding-long _ _ _ s (announces p s k) c.if-adu-gt-LONGEST_ADU.true)

pub symbol_count-count-requires : goal.symbol_count-count-requires
symbol_count-count-requires c = let o = opened _ _ (has (goal.at.symbol_count-count-requires c).In_ok-header) in omega arith

pub returns-then-setting-count : goal.returns-then-setting-count
returns-then-setting-count c =
    let o = has (goal.at.returns-then-setting-count c).In_ok-header in
    let p = (goal.at.returns-then-setting-count c).Else-not-is_announced in
    let n = c.symbol_count-count.ensures in
    promise_refused _ _ _ _ o _ (λ e. omega arith)
    (λ s k q. adding_many _ _ _ s (announces p s k) _ q c.if-adu-gt-LONGEST_ADU.false (rw n at c.if-setting-count.true))

pub returns-then-out-adu : goal.returns-then-out-adu
returns-then-out-adu c =
    let o = has (goal.at.returns-then-out-adu c).In_ok-header in
    let p = (goal.at.returns-then-out-adu c).Else-not-is_announced in
    let n = c.symbol_count-count.ensures in
    promise_refused _ _ _ _ o _ (λ e. omega arith)
    (λ s k q. adding_short _ _ _ s (announces p s k) _ q c.if-adu-gt-LONGEST_ADU.false (rw n at c.if-setting-count.false) c.if-out-adu.true)

pub returns : goal.returns
returns c =
    let o = has (goal.at.returns c).In_ok-header in
    let p = (goal.at.returns c).Else-not-is_announced in
    let n = rw c.symbol_count-count.ensures at c.if-setting-count.false in
    let room = c.if-out-adu.false in
    let t = c.take_adu.ensures in
    promise_done _ _ _ _ o _ _ _ _ (source-length _ _) room c.write_source.ensures t.same t.past
    (λ s k q. (
      taken s _ _,
      adding_done _ _ _ s (announces p s k) _ q c.if-adu-gt-LONGEST_ADU.false n room,
      t.holds s k,
      ap (λ (x : Header). x.setting) q,
    ))
