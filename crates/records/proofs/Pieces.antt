-- What is written of a capture in pieces is what is printed of it, and no more is wanted where no more counts.
-- Index
--   Still: a standing that no line changes
--   worked_through
--   Goes: packet lines
--   stops
use Rattle.std.specs.Prelude.{◌≡◌, ◌≤◌, ◌+◌, ◌∷◌, ◌++◌}
use Rattle.words.specs.Words.{arith, ℕ, List, length, refl, ◌∙◌, sym, ap, [], Some, true, None, false, Bool, subst, Option, take, ltb}
use Rattle.words.specs.Words.{le-leb, length-append, append_assoc, leb-true, ltb-true, ⊎_elim, min, ltb-false}
use Rattle.wire.specs.declared.Setting.{Setting}
use Rattle.history.specs.Model.{State, opened}
use Rattle.lines.specs.Lines.{lines_from, lines_of}
use Rattle.lines.specs.Reading.{call_in}
use Rattle.lines.specs.Promises.{Unbroken, AllUnbroken, joined}
use Rattle.lines.proofs.Breaks.{ended, lines_go_on}
use Rattle.records.specs.declared.Progress.{Progress}
use Rattle.records.specs.Records.{Record, most_lines}
use Rattle.records.specs.Replay.{record_at, state_at, setting_named, printed_lines}
use Rattle.records.specs.Standing.{Standing, opening, closed, working, opened_with, after_line, printed_line, after, printed_by, last_of, Stands}
use Rattle.records.specs.Claims.{Opens}
use Rattle.records.specs.Promises.{is_over, Held, GoesFrom}
use Rattle.records.specs.Pieces.{Piece, taken, written, InTurn, reached, line_left, memory_left, WorkedThrough, Stops}
use Rattle.records.proofs.Steps.{line_read, line-past, after-append, printed-append, printed_by_lem}
use Rattle.records.proofs.Claims.{prints}
use Rattle.records.proofs.Taking.{last_same}

-- pieces go on as one
through : (xs : List Piece) (p : Progress) (line m : List ℕ) (w : Standing) (q : List ℕ) → Held p line m w q → InTurn p line m xs
    → GoesFrom w q [] (taken xs) (written xs) (reached p xs) (line_left line xs) (memory_left m xs)
through [] p line m w q h t = record { lines = []; unended = q; cut = λ z. refl; held = h; wrote = refl }
through (x ∷ xs) p line m w q h (f, t) =
    let a = f.goes w q h in
    let b = through xs x.pass.progress x.line x.memory (after w a.lines) a.unended a.held t in
    let front = take x.pass.taken x.input in
    record {
      lines = a.lines ++ b.lines;
      unended = b.unended;
      cut = λ z.
          ap (lines_from q) (append_assoc front (taken xs) z) ∙ a.cut (taken xs ++ z) ∙ ap (λ (ls : List (List ℕ)). a.lines ++ ls) (b.cut z)
          ∙ sym (append_assoc a.lines b.lines (lines_from b.unended z));
      held = subst (λ (v : Standing). Held (reached p (x ∷ xs)) (line_left line (x ∷ xs)) (memory_left m (x ∷ xs)) v b.unended)
          (sym (after-append w a.lines b.lines)) b.held;
      wrote = ap (λ (l : List ℕ). l ++ written xs) a.wrote ∙ ap (λ (l : List ℕ). printed_by w a.lines ++ l) b.wrote
          ∙ sym (printed-append w a.lines b.lines);
    }

-- ---- Where no more counts

-- a standing that no line changes
pub record Still (w : Standing) : Type 0 where
  pub stays : (l : List ℕ) → after_line w l ≡ w
  pub silent : (l : List ℕ) → printed_line w l ≡ []

closed_still : Still closed
unfolding after_line printed_line
closed_still = record { stays = λ l. refl; silent = λ l. refl }

over_still : (p : Progress) (m : List ℕ) (w : Standing) → Stands p m w → is_over p ≡ true → Still w
over_still p m opening k e =
    let f = rw k.0 at e in
    let z : ◌≡◌ {A = ℕ} 0 1 = cc in absurd (omega arith)
over_still p m closed k e = closed_still
over_still p m (working s t rs) k e =
    let f = rw k.stage at e in
    let h : most_lines ≤ length rs = omega (arith, leb-true most_lines p.lines f, k.counts.lines) in
    record { stays = λ l. (line-past s t rs l h).0; silent = λ l. (line-past s t rs l h).1 }

still_after : (w : Standing) → Still w → (ls : List (List ℕ)) → (after w ls ≡ w) × (printed_by w ls ≡ [])
still_after w k [] = (refl, refl)
still_after w k (l ∷ ls) =
    let (a, b) = still_after w k ls in
    (ap (λ (v : Standing). after v ls) (k.stays l) ∙ a, rw (k.silent l, k.stays l) b)

-- what is printed of lines to come, where no more counts or they are the same
same_end : (w : Standing) (ls ls' : List (List ℕ)) → Still w → printed_by w ls ++ last_of (after w ls) ≡ printed_by w ls' ++ last_of (after w ls')
same_end w ls ls' k =
    let (a, b) = still_after w k ls in
    let (c, d) = still_after w k ls' in
    rw (a, b, c, d)

pub worked_through : WorkedThrough
worked_through p line m xs b t last n f rest d =
    let g = through xs p line m opening [] (b line m) t in
    let w = after opening g.lines in
    let ls = lines_from g.unended rest in
    let end : printed_by w ls ++ last_of (after w ls) ≡ take n last =
    ⊎_elim (λ e. ap (λ (z : List ℕ). printed_by w (lines_from g.unended z) ++ last_of (after w (lines_from g.unended z))) e ∙ sym
    (f.prints w g.unended g.held))
    (λ e. same_end w ls (lines_from g.unended []) (over_still (reached p xs) (memory_left m xs) w g.held.stands e)
    ∙ sym (f.prints w g.unended g.held)) d in
    sym
    (ap printed_lines (g.cut rest) ∙ printed_by_lem (g.lines ++ ls)
    ∙ ap (λ (v : Standing). printed_by opening (g.lines ++ ls) ++ last_of v) (after-append opening g.lines ls)
    ∙ ap (λ (x : List ℕ). x ++ last_of (after w ls)) (printed-append opening g.lines ls)
    ∙ append_assoc (printed_by opening g.lines) (printed_by w ls) (last_of (after w ls))
    ∙ ap (λ (x : List ℕ). printed_by opening g.lines ++ x) end ∙ ap (λ (x : List ℕ). x ++ take n last) (sym g.wrote))

-- ---- Where reading stops

-- lines that have ended, and what follows them
joined_from : (ls : List (List ℕ)) (z : List ℕ) → AllUnbroken ls → lines_of (joined ls ++ z) ≡ ls ++ lines_of z
joined_from [] z u = refl
joined_from (l ∷ ls) z u =
    ap lines_of (append_assoc l (10 ∷ joined ls) z) ∙ lines_go_on [] l u.0 (10 ∷ (joined ls ++ z)) ∙ ended l (joined ls ++ z)
    ∙ ap (λ (x : List (List ℕ)). l ∷ x) (joined_from ls z u.1)

-- the lines that have ended in the bytes taken
lines_ended : (x : List ℕ) (lines : List (List ℕ)) (unended : List ℕ) → ((z : List ℕ) → lines_of (x ++ z) ≡ lines ++ lines_from unended z)
    → (ls : List (List ℕ)) (q : List ℕ) → AllUnbroken ls → Unbroken q → x ≡ joined ls ++ q → lines ≡ ls
unfolding lines_from
lines_ended x lines unended cut ls q u v e =
    (last_same lines ls unended q
    (sym (cut (10 ∷ [])) ∙ ap (λ (y : List ℕ). lines_of (y ++ (10 ∷ []))) e ∙ ap lines_of (append_assoc (joined ls) q (10 ∷ []))
    ∙ joined_from ls (q ++ (10 ∷ [])) u ∙ ap (λ (y : List (List ℕ)). ls ++ y) (lines_go_on [] q v (10 ∷ [])))).0

-- packet lines: there are as many records, up to the most
pub record Goes (w : Standing) (s : Setting) (n : ℕ) : Type 0 where
  pub state : State s
  pub records : List Record
  pub stands : w ≡ working s state records
  pub many : min most_lines n ≤ length records

after_working : (ls : List (List ℕ)) (s : Setting) (t : State s) (rs : List Record) → Goes (after (working s t rs) ls) s (length rs + length ls)
after_working [] s t rs = record { state = t; records = rs; stands = refl; many = omega arith }
after_working (l ∷ ls) s t rs = go (ltb (length rs) most_lines) refl (after_working ls s)
  where
    go : (b : Bool) → ltb (length rs) most_lines ≡ b
        → ((t : State s) (rs : List Record) → Goes (after (working s t rs) ls) s (length rs + length ls))
        → Goes (after (after_line (working s t rs) l) ls) s (length rs + length (l ∷ ls))
    go true e ih =
        let r = record_at s t (call_in l) in
        let x = ih (state_at s t (call_in l)) (rs ++ (r ∷ [])) in
        record {
          state = x.state;
          records = x.records;
          stands = ap (λ (v : Standing). after v ls) (line_read s t rs l (ltb-true (length rs) most_lines e)).0 ∙ x.stands;
          many = omega (arith, x.many, length-append rs (r ∷ []));
        }
    go false e ih =
        let x = ih t rs in
        let h = ltb-false (length rs) most_lines e in
        record {
          state = x.state;
          records = x.records;
          stands = ap (λ (v : Standing). after v ls) (line-past s t rs l h).0 ∙ x.stands;
          many = omega (arith, x.many, h);
        }

-- a bad first line, and the most
closed_over : (p : Progress) (m : List ℕ) → Stands p m closed → is_over p ≡ true
closed_over p m k = rw k.0

full_over : (p : Progress) (m : List ℕ) (s : Setting) (t : State s) (rs : List Record) → Stands p m (working s t rs) → most_lines ≤ length rs → is_over p ≡ true
full_over p m s t rs k h = rw (k.stage, k.counts.lines) (le-leb most_lines (length rs) h)

pub stops : Stops
unfolding after_line
stops p line m xs b t l ls q u v e d =
    let g = through xs p line m opening [] (b line m) t in
    let same : g.lines ≡ l ∷ ls = lines_ended (taken xs) g.lines g.unended g.cut (l ∷ ls) q u v e in
    let stands = subst (λ (x : List (List ℕ)). Stands (reached p xs) (memory_left m xs) (after opening x)) same g.held.stands in
    go (setting_named l) refl stands
  where
    go : (o : Option Setting) → setting_named l ≡ o → Stands (reached p xs) (memory_left m xs) (after (opened_with (setting_named l)) ls)
        → is_over (reached p xs) ≡ true
    go None f k =
        closed_over (reached p xs) (memory_left m xs)
        (subst (Stands (reached p xs) (memory_left m xs)) (ap (λ (o : Option Setting). after (opened_with o) ls) f ∙ (still_after closed closed_still ls).0) k)
    go (Some s) f k =
        let x = after_working ls s (opened s) [] in
        let n : most_lines ≤ length ls = ⊎_elim (λ (never : (s : Setting) → ¬ Opens l s). absurd (never s ((prints.settings l s).0 f))) (λ h. h) d in
        full_over (reached p xs) (memory_left m xs) s x.state x.records
        (subst (Stands (reached p xs) (memory_left m xs)) (ap (λ (o : Option Setting). after (opened_with o) ls) f ∙ x.stands) k)
        (omega (arith, x.many))
