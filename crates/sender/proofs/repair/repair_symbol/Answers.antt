-- `sender::repair::repair_symbol` meets its contract.
use Rattle.std.specs.Prelude.{◌≡◌, ◌≤◌, ◌<◌, ◌++◌}
use Rattle.words.specs.Words.{ℕ, List, arith, length, ◌∙◌, sym, drop, take, mod-lt, length-append, length-take-le, take_at, replicate}
use Rattle.sender.specs.State.{header_size}
use Rattle.sender.specs.Inner.{Laid, AllZero, first_slot}
use Rattle.sender.proofs.Heads.{opened}
use Rattle.sender.proofs.Laying.{zero_front, get_or-zeros}
use Rattle.sender.proofs.Combining.{symbol_made}
use Rattle.sender.proofs.repair.repair_symbol.Goals as goal
use Rattle.sender.proofs.repair.repair_symbol.Goals.{After-lay}

-- a coefficient of zero for each slot of a window
none : ℕ → List ℕ
none width = take width (replicate 255 0)

length_none : (width : ℕ) → width ≤ 255 → length (none width) ≡ width
unfolding none
length_none width h = length-take-le _ _ h

-- the coefficients that were laid
filled : (p : After-lay) → length p.lay.new.cs ≡ p.args.header.setting.width
unfolding none
filled p = p.lay.auto.cs ∙ length_none _ (opened _ _ p.requires.0).valid.width_most

-- and the slots past the window
lent : (p : After-lay) → take p.args.header.setting.width (p.lay.new.cs ++ drop p.args.header.setting.width (replicate 255 0)) ≡ p.lay.new.cs
lent p = take_at p.lay.new.cs _ _ (filled p)

pub slice_bounds-cs-end : goal.slice_bounds-cs-end
slice_bounds-cs-end c = (opened _ _ c.requires.0).valid.width_most

pub slice_bounds-lay-end : goal.slice_bounds-lay-end
unfolding none
slice_bounds-lay-end c = sym (length_none _ (opened _ _ c.requires.0).valid.width_most)

pub first_slot-requires : goal.first_slot-requires
first_slot-requires c = let o = opened _ _ c.requires.0 in (o.held, o.next, o.valid.width_most)

pub lay-requires : goal.lay-requires
unfolding none
lay-requires c =
    let o = opened _ _ c.requires.0 in
    let cs = none c.args.header.setting.width in
    let l = length_none c.args.header.setting.width o.valid.width_most in
    let first : c.first_slot.result < length cs = rw (l, c.first_slot.ensures) (mod-lt _ (omega arith)) in
    let held : length c.args.list.now ≤ length cs = rw (l, c.requires.2) o.held in
    let few : length cs ≤ 255 = rw l o.valid.width_most in
    let zero : AllZero cs = zero_front _ _ (get_or-zeros 255) in
    (first, held, few, zero)

pub slice_bounds-cs-end-2 : goal.slice_bounds-cs-end-2
slice_bounds-cs-end-2 c = rw length-append (omega (arith, filled (goal.at.slice_bounds-cs-end-2 c).After-lay))

pub slice_bounds-combine-end : goal.slice_bounds-combine-end
slice_bounds-combine-end c =
    let p = (goal.at.slice_bounds-combine-end c).After-lay in
    rw (lent p) (sym (filled p))

pub combine-requires : goal.combine-requires
unfolding header_size
combine-requires c =
    let p = (goal.at.combine-requires c).After-lay in
    (omega arith, rw (lent p, filled p) (opened _ _ c.requires.0).room)

pub returns : goal.returns
unfolding header_size
returns c =
    let p = (goal.at.returns c).After-lay in
    let a = c.args in
    let cs = c.lay.new.cs in
    let laid : Laid (first_slot a.header) a.list.now cs = rw c.first_slot.ensures at c.lay.ensures in
    let e = rw (lent p, c.requires.1) at c.combine.ensures in
    e ∙ symbol_made a.header a.mem.now a.list.now cs (opened _ _ c.requires.0) c.requires.2 (filled p) laid
