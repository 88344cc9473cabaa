-- The input's end.
use Rattle.std.specs.Prelude.{◌≡◌, ◌∷◌, ◌++◌}
use Rattle.words.specs.Words.{arith, ℕ, List, length, refl, ◌∙◌, sym, ap, [], subst, append-nil}
use Rattle.printing.specs.Printed.{last_line}
use Rattle.printing.specs.Inner.{Put}
use Rattle.lines.specs.Lines.{lines_from}
use Rattle.records.specs.declared.Progress.{Progress}
use Rattle.replay.specs.declared.Ended.{Ended}
use Rattle.records.specs.Records.{summary}
use Rattle.records.specs.Standing.{Standing, opening, closed, working, printed_line, last_of, Stands, Kept}
use Rattle.records.specs.Promises.{Finished}
use Rattle.memory.specs.Contained.{Contained}
use Rattle.replay.specs.Inner.{LineEnded, InputEnded}
use Rattle.replay.proofs.Ending.{grown_none, grown_put, grown_more}

-- the last line has the sums
pub last_line_lem : (p : Progress) (m : List ℕ) (w : Standing) → Stands p m w → last_of w ≡ last_line p.lines p.accepted p.refused p.known
unfolding last_of summary
last_line_lem p m opening k = let c = k.1 in rw (c.lines, c.accepts, c.refuses, c.knows)
last_line_lem p m closed k = let c = k.1 in rw (c.lines, c.accepts, c.refuses, c.knows)
last_line_lem p m (working s t rs) k = let c = k.counts in rw (c.lines, c.accepts, c.refuses, c.knows)

-- no byte is kept of a line that has not begun
begun : (line q : List ℕ) → Kept 0 line q → q ≡ []
begun line [] k = refl
begun line (b ∷ q) k = let c = k.count in absurd (omega arith)

pub nothing_left : (p : Progress) (line m out : List ℕ) → p.have ≡ 0 → InputEnded p line m out out (record { progress = p; at = 0 })
unfolding lines_from
nothing_left p line m out e = record {
  room = omega arith;
  rest = grown_none 0 out (omega arith);
  prints = λ w q h.
      let n : q ≡ [] = begun line q (subst (λ x. Kept x line q) e h.kept) in
      rw n (last_line_lem p m w h.stands);
}

-- the line that has not ended
one_line : (q : List ℕ) (have : ℕ) (line : List ℕ) → Kept have line q → (have ≡ 0 → ⊥) → lines_from q [] ≡ q ∷ []
unfolding lines_from
one_line [] have line k h = absurd (h (omega (arith, k.count)))
one_line (b ∷ q) have line k h = refl

pub line_left_lem : (p : Progress) (line m m' out out' : List ℕ) (r : Ended) → (p.have ≡ 0 → ⊥) → LineEnded p line m m' out out' 0 r
    → InputEnded p line m out out' r
line_left_lem p line m m' out out' r e f = record {
  room = f.room;
  rest = f.rest;
  prints = λ w q h.
      let x = f.goes w q tt h.stands h.kept in
      rw (one_line q p.have line h.kept e, append-nil (printed_line w q), x.wrote)
      (ap (λ (y : List ℕ). printed_line w q ++ y) (last_line_lem r.progress m' _ x.stands));
}

-- and the sums
pub finished : (p : Progress) (line m out₀ out out' : List ℕ) (r : Ended) (next : ℕ) → length out' ≡ length out₀ → InputEnded p line m out₀ out r
    → Put out out' r.at next (last_line r.progress.lines r.progress.accepted r.progress.refused r.progress.known)
    → Finished p line m out' next × Contained next out₀ out'
finished p line m out₀ out out' r next n i put = (
  record { room = put.within; prints = λ w q h. put.bytes ∙ sym (i.prints w q h) },
  record { same = n; past = (grown_more out₀ out out' i.rest (grown_put put)).past },
)
