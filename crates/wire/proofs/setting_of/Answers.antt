-- `wire::setting_of` meets its contract: each way out rewrites with the tests before it.
use Rattle.std.specs.Prelude.{◌≡◌, Ok, Err}
use Rattle.std.specs.Result.{result_ok}
use Rattle.wire.specs.declared.Refusal.TheVariants.{Values}
use Rattle.words.specs.Words.{ap, Bool, true, false, cond, Some, None, refl, sym, ◌∙◌}
use Rattle.wire.specs.declared.Scheme.{Scheme}
use Rattle.wire.specs.Numbers.{within}
use Rattle.wire.specs.Settings.{scheme_of, in_range, setting_of}
use Rattle.wire.proofs.setting_of.Goals as goal
use Rattle.wire.proofs.setting_of.Goals.{then-not-between-via-then-not-between, then-not-between-via-else-not-between+then-not-between-2}

-- what the answer for the scheme says of its test
none : (b : Bool) (x : Scheme) → result_ok (cond b (Ok x) (Err Values)) ≡ None → b ≡ false
none true x e = cc
none false x e = refl

some : (b : Bool) (x y : Scheme) → result_ok (cond b (Ok x) (Err Values)) ≡ Some y → (b ≡ true) × (x ≡ y)
some true x y e = (refl, cc)
some false x y e = cc

pub returns-in_err-scheme : goal.returns-in_err-scheme
unfolding in_range setting_of
returns-in_err-scheme c =
    let e = sym (c.in_err-scheme.ensures.value ∙ ap result_ok c.try_from.ensures) in
    rw (c.from_residual.ensures, none (within 9 10 c.args.scheme) (scheme_of c.args.scheme) e)

pub returns-then-not-between : goal.returns-then-not-between
unfolding in_range setting_of
returns-then-not-between c =
    let e = sym (c.in_ok-scheme.ensures.value ∙ ap result_ok c.try_from.ensures) in
    let s = some (within 9 10 c.args.scheme) (scheme_of c.args.scheme) c.in_ok-scheme.scheme e in
    elim c.then-not-between.branch [
      | then-not-between-via-then-not-between w ↦ rw (s.0, ← c.between.ensures, w.if-not-between.true)
      | then-not-between-via-else-not-between+then-not-between-2 w ↦
          rw (s.0, ← c.between.ensures, w.if-not-between.false, ← w.between-else-not-between.ensures, w.if-not-between-2.true)
    ]

pub returns : goal.returns
unfolding in_range setting_of
returns c =
    let e = sym (c.in_ok-scheme.ensures.value ∙ ap result_ok c.try_from.ensures) in
    let s = some (within 9 10 c.args.scheme) (scheme_of c.args.scheme) c.in_ok-scheme.scheme e in
    rw (s.0, ← c.if-not-between.ensures, ← c.if-not-between-2.ensures, s.1)
