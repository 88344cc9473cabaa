-- `handing::all_known` meets its contract.
use Rattle.std.specs.Prelude.{◌≤◌, ◌+◌, ◌<◌, ◌-◌}
use Rattle.std.specs.Bool.{MatchBool}
use Rattle.std.specs.List.{AllWithin, HoldsAt, range_with_len}
use Rattle.std.proofs.lemmas.Iterator.{cases_from_all, YieldsList-from_range}
use Rattle.std.proofs.lemmas.List.FromFn.{length-range_with_len, get_or-range_with_len}
use Rattle.words.specs.Words.{arith, rules, lt-leb, length, true, false, ℕ, List, Bool, refl, subst}
use Rattle.memory.specs.Number.{Bytes}
use Rattle.table.specs.Window.{Fits}
use Rattle.handing.specs.HandSteps.{AllKnown}
use Rattle.handing.proofs.Giving.{known_beyond, known_all, known-not, PositionKnown}
use Rattle.handing.proofs.all_known.Goals as goal

-- From what `all` says of the positions to what is known.
module _ (w E oldest : ℕ) (m : List ℕ) (fits : Fits w E m) (f : Bytes m) (d n : ℕ) (l : d + n ≤ w) where
  checked : (t : Bool)
      → MatchBool t (AllWithin (λ x. PositionKnown w E oldest m x true) (range_with_len d n) 0 (length (range_with_len d n)))
      ((k : ℕ) × (k < length (range_with_len d n)) × HoldsAt (λ x. PositionKnown w E oldest m x false) (range_with_len d n) k)
      → AllKnown w E oldest d n t m
  checked true h =
      known_all w E oldest m fits f d n n l refl
      (λ j g. subst (λ x. PositionKnown w E oldest m x true) (get_or-range_with_len d n j 0 g) (h j 0 (omega arith) (omega (arith, length-range_with_len d n))))
  checked false (k, g, h) =
      let near : k < n = omega (arith, length-range_with_len d n) in
      known-not w E oldest m fits f d n k l near (subst (λ x. PositionKnown w E oldest m x false) (get_or-range_with_len d n k 0 near) (h 0))

pub returns-then-n-shape : goal.returns-then-n-shape
returns-then-n-shape c =
    let a = c.args in
    let s = a.shape in
    let Yes : ℕ → Type 0 = λ x. PositionKnown s.width s.size s.oldest a.mem.now x true in
    let No : ℕ → Type 0 = λ x. PositionKnown s.width s.size s.oldest a.mem.now x false in
    checked s.width s.size s.oldest a.mem.now c.requires.0 (λ i. (c.type_inv.mem i).fits) a.d a.n (omega arith) c.all.result
    (cases_from_all _ _ c.all.result Yes No c.all.ensures.ran (YieldsList-from_range a.d (a.d + a.n) a.n refl (omega arith))
    (λ x q k. search rules) (λ x q k. search rules))

pub returns-else-n-shape : goal.returns-else-n-shape
returns-else-n-shape c =
    rw (lt-leb c.args.n (c.args.shape.width - c.args.d) c.if-n-shape.false)
    (known_beyond _ _ _ _ c.requires.0 (λ i. (c.type_inv.mem i).fits) _ _ c.requires.2 c.if-n-shape.false)
