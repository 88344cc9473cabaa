-- `interleave::send` meets its contract: at each symbol a turn of `Sending`; a grid of one row or one column as it is.
use Rattle.std.specs.Prelude.{◌≡◌, ◌⊎◌}
use Rattle.words.specs.Words.{arith, length, zero-mul, ◌∙◌, inl, inr}
use Rattle.memory.specs.Part.{splice}
use Rattle.memory.proofs.Parts.{put, cut}
use Rattle.interleave.proofs.Sending.{begun, Turn, turn, next_row, next_column}
use Rattle.interleave.proofs.Straight.{straight}
use Rattle.interleave.proofs.send.Goals as goal
use Rattle.interleave.proofs.send.Goals.{In-loop-row}

-- what is known at a turn
known : (c : In-loop-row) → Turn c.args.size c.args.rows c.args.columns (length c.args.src.now) (length c.loop-row.out) c.loop-row.row c.loop-column.column
known c = turn c.requires c.loop-row.invariant c.loop-row-test.true c.loop-column-test.true

pub loop-column-init : goal.loop-column-init
loop-column-init c = rw zero-mul (begun _ _ _ _ _)

pub slice_bounds-copy-end-in-loop-row-2 : goal.slice_bounds-copy-end-in-loop-row-2
slice_bounds-copy-end-in-loop-row-2 c = (known (goal.at.slice_bounds-copy-end-in-loop-row-2 c).In-loop-row).read

pub loop-row-preserved : goal.loop-row-preserved
loop-row-preserved c =
    let k = known (goal.at.loop-row-preserved c).In-loop-row in
    let p = put _ c.args.size _ c.loop-row.out k.write c.copy-in-loop-row.auto.dst in
    let e = c.copy-in-loop-row.ensures ∙ cut _ c.args.size c.args.src.now in
    next_row c.requires c.loop-row.invariant c.loop-row-test.true c.loop-column-test.true (cc)

pub loop-column-preserved : goal.loop-column-preserved
loop-column-preserved c = let e : c.loop-row.row ≡ c.args.rows = omega arith in next_column _ e c.loop-row.invariant

pub returns-then-rows-eq1 : goal.returns-then-rows-eq1
unfolding splice
returns-then-rows-eq1 c =
    let one : (c.args.rows ≡ 1) ⊎ (c.args.columns ≡ 1) = elim c.then-rows-eq1.either [ inl e ↦ inl e | inr n ↦ inr n.1 ] in
    rw (c.copy.ensures, straight c.args.rows c.args.columns c.args.size c.args.src.now one c.requires.whole)
