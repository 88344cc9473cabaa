-- `sender::front::read_header` meets its contract.
use Rattle.std.specs.Prelude.{◌≡◌, ◌≤◌}
use Rattle.words.specs.Words.{arith, rules, Some, None, length}
use Rattle.wire.specs.Stored.{setting_in}
use Rattle.wire.proofs.Settings.{setting-found}
use Rattle.sender.specs.State.{memory_size}
use Rattle.sender.proofs.Heads.{header-room, found, none-setting, none_short, none_held, none_next}
use Rattle.sender.proofs.front.read_header.Goals as goal
use Rattle.sender.proofs.front.read_header.Goals.{In_ok-setting, Else-mem-memory_size}
use Rattle.sender.proofs.front.read_header.Goals.{then-setting-held-via-then-setting-held, then-setting-held-via-else-setting-held+then-setting-next}

-- the setting that was read
has : (p : In_ok-setting) → setting_in 1 p.args.mem.now ≡ Some p.in_ok-setting.setting
has p = search rules

-- the memory is long enough
room : (p : Else-mem-memory_size) → memory_size p.in_ok-setting.setting ≤ length p.args.mem.now
room p = rw p.memory_size.ensures at p.if-mem-memory_size.false

pub returns-in_err-setting : goal.returns-in_err-setting
returns-in_err-setting c =
    let none : setting_in 1 c.args.mem.now ≡ None = search rules in
    rw (c.from_residual.ensures, none-setting _ none)

pub memory_size-requires : goal.memory_size-requires
memory_size-requires c = (setting-found 1 _ _ (has (goal.at.memory_size-requires c).In_ok-setting)).named.valid

pub returns-then-mem-memory_size : goal.returns-then-mem-memory_size
returns-then-mem-memory_size c =
    rw (none_short _ _ (has (goal.at.returns-then-mem-memory_size c).In_ok-setting) (rw c.memory_size.ensures at c.if-mem-memory_size.true))

pub load_u16-held-requires : goal.load_u16-held-requires
load_u16-held-requires c = omega (arith, header-room, room (goal.at.load_u16-held-requires c).Else-mem-memory_size)

pub load_u16-next-requires : goal.load_u16-next-requires
load_u16-next-requires c = omega (arith, header-room, room (goal.at.load_u16-next-requires c).Else-mem-memory_size)

pub returns-then-setting-held : goal.returns-then-setting-held
returns-then-setting-held c =
    let p = goal.at.returns-then-setting-held c in
    let h = has p.In_ok-setting in
    let k = room p.Else-mem-memory_size in
    elim c.then-setting-held.branch [
      | then-setting-held-via-then-setting-held w ↦ rw (none_held _ _ h k (rw c.load_u16-held.ensures at w.if-setting-held.true))
      | then-setting-held-via-else-setting-held+then-setting-next w ↦
          rw (none_next _ _ h k (rw c.load_u16-held.ensures at w.if-setting-held.false) (rw c.load_u16-next.ensures at w.if-setting-next.true))
    ]

pub load_u32-requires : goal.load_u32-requires
load_u32-requires c = omega (arith, header-room, room (goal.at.load_u32-requires c).Else-mem-memory_size)

pub returns : goal.returns
returns c =
    let p = goal.at.returns c in
    let a = c.load_u16-held in
    let b = c.load_u16-next in
    rw (
      found _ _ (has p.In_ok-setting) (room p.Else-mem-memory_size) (rw a.ensures at c.if-setting-held.false) (rw b.ensures at c.if-setting-next.false),
      ← a.ensures,
      ← b.ensures,
      ← c.load_u32.ensures,
    )
