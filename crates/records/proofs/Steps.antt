-- Sums of records, and what a line makes of a capture's standing.
use Rattle.std.specs.Prelude.{◌≡◌, ◌≤◌, ◌+◌, ◌<◌, ◌-◌, ◌∷◌, ◌++◌}
use Rattle.words.specs.Words.{arith, ℕ, List, length, refl, ◌∙◌, sym, ap, [], Some, suc, true, zero, None, false, Bool}
use Rattle.words.specs.Words.{Option, take, cond, ltb, eqb, length-append, lt-ltb, append_assoc, append-nil, le-ltb, ltb-true, ltb-false}
use Rattle.wire.specs.declared.Setting.{Setting}
use Rattle.history.specs.Model.{State}
use Rattle.printing.specs.Printed.{record_line}
use Rattle.lines.specs.Reading.{call_in}
use Rattle.records.specs.Records.{Record, most_lines, total, accepted_in, refused_in, record_lines, summary}
use Rattle.records.specs.Replay.{record_at, state_at, records_from, setting_named, printed_with, printed_lines}
use Rattle.records.specs.Standing.{Standing, opening, closed, working, opened_with, after_line, printed_line, after, printed_by, last_of}

-- ---- Sums

total-append : (f : Record → ℕ) (rs rs' : List Record) → total f (rs ++ rs') ≡ total f rs + total f rs'
unfolding total
total-append f [] rs' = omega arith
total-append f (r ∷ rs) rs' = omega (arith, total-append f rs rs')

-- one record more
pub total-more : (f : Record → ℕ) (rs : List Record) (r : Record) → total f (rs ++ (r ∷ [])) ≡ total f rs + f r
unfolding total
total-more f rs r = omega (arith, total-append f rs (r ∷ []))

-- every record is accepted or refused
counted_once : (b : Bool) (m n k : ℕ) → m + n ≡ k → (cond b 1 0 + m) + (cond b 0 1 + n) ≡ 1 + k
counted_once true m n k e = omega arith
counted_once false m n k e = omega arith

pub all_counted : (rs : List Record) → accepted_in rs + refused_in rs ≡ length rs
unfolding total
all_counted [] = refl
all_counted (r ∷ rs) = counted_once (eqb r.answer 0) (accepted_in rs) (refused_in rs) (length rs) (all_counted rs) ∙ omega arith

-- ---- A line

-- a packet line, while fewer than the most have been read
pub line_read : (s : Setting) (t : State s) (rs : List Record) (l : List ℕ) → length rs < most_lines
    → let r = record_at s t (call_in l) in
    (after_line (working s t rs) l ≡ working s (state_at s t (call_in l)) (rs ++ (r ∷ [])))
    × (printed_line (working s t rs) l ≡ record_line (length rs + 1) r.answer r.known)
unfolding after_line printed_line
line_read s t rs l h = (rw (lt-ltb (length rs) most_lines h), rw (lt-ltb (length rs) most_lines h))

-- after the most, no line counts
pub line-past : (s : Setting) (t : State s) (rs : List Record) (l : List ℕ) → most_lines ≤ length rs
    → (after_line (working s t rs) l ≡ working s t rs) × (printed_line (working s t rs) l ≡ [])
unfolding after_line printed_line
line-past s t rs l h = (rw (le-ltb (length rs) most_lines h), rw (le-ltb (length rs) most_lines h))

-- the first line
pub line_opens : (l : List ℕ) (o : Option Setting) → setting_named l ≡ o → after_line opening l ≡ opened_with o
unfolding after_line
line_opens l o e = rw e

-- ---- Lines

pub after-append : (w : Standing) (ls ls' : List (List ℕ)) → after w (ls ++ ls') ≡ after (after w ls) ls'
after-append w [] ls' = refl
after-append w (l ∷ ls) ls' = after-append (after_line w l) ls ls'

pub printed-append : (w : Standing) (ls ls' : List (List ℕ)) → printed_by w (ls ++ ls') ≡ printed_by w ls ++ printed_by (after w ls) ls'
printed-append w [] ls' = refl
printed-append w (l ∷ ls) ls' =
    ap (λ (x : List ℕ). printed_line w l ++ x) (printed-append (after_line w l) ls ls')
    ∙ sym (append_assoc (printed_line w l) (printed_by (after_line w l) ls) (printed_by (after (after_line w l) ls) ls'))

-- ---- What is printed of all lines

-- from a standing on
to_come : Standing → List (List ℕ) → List ℕ
to_come opening ls = printed_lines ls
to_come closed ls = summary []
to_come (working s t rs) ls =
    record_lines (length rs) (records_from s t (take (most_lines - length rs) ls)) ++ summary (rs ++ records_from s t (take (most_lines - length rs) ls))

take_none : (n : ℕ) → ◌≡◌ {A = List (List ℕ)} (take n []) []
take_none zero = refl
take_none (suc n) = refl

to_come_none : (w : Standing) → to_come w [] ≡ last_of w
unfolding to_come last_of printed_lines record_lines records_from
to_come_none opening = refl
to_come_none closed = refl
to_come_none (working s t rs) = rw (take_none (most_lines - length rs), append-nil rs)

to_come_working : (s : Setting) (t : State s) (rs : List Record) (l : List ℕ) (ls : List (List ℕ)) → length rs < most_lines
    → let r = record_at s t (call_in l) in
    to_come (working s t rs) (l ∷ ls)
    ≡ record_line (length rs + 1) r.answer r.known ++ to_come (working s (state_at s t (call_in l)) (rs ++ (r ∷ []))) ls
unfolding to_come records_from record_lines
to_come_working s t rs l ls h =
    let r = record_at s t (call_in l) in
    let n : length (rs ++ (r ∷ [])) ≡ length rs + 1 = length-append rs (r ∷ []) in
    let e : most_lines - length rs ≡ suc (most_lines - (length rs + 1)) = omega arith in
    rw (n, e, append_assoc rs (r ∷ [])) (append_assoc (record_line (length rs + 1) r.answer r.known) _ _)

to_come_past : (s : Setting) (t : State s) (rs : List Record) (ls ls' : List (List ℕ)) → most_lines ≤ length rs
    → to_come (working s t rs) ls ≡ to_come (working s t rs) ls'
unfolding to_come
to_come_past s t rs ls ls' h = let e : most_lines - length rs ≡ 0 = omega arith in rw e

to_come_opens : (o : Option Setting) (ls : List (List ℕ)) → printed_with o ls ≡ to_come (opened_with o) ls
unfolding to_come printed_with
to_come_opens None ls = refl
to_come_opens (Some s) ls = refl

-- a line more
to_come_line : (w : Standing) (l : List ℕ) (ls : List (List ℕ)) → to_come w (l ∷ ls) ≡ printed_line w l ++ to_come (after_line w l) ls
unfolding to_come printed_lines after_line printed_line
to_come_line opening l ls = to_come_opens (setting_named l) ls
to_come_line closed l ls = refl
to_come_line (working s t rs) l ls = go (ltb (length rs) most_lines) refl
  where
    go : (b : Bool) → ltb (length rs) most_lines ≡ b
        → to_come (working s t rs) (l ∷ ls) ≡ printed_line (working s t rs) l ++ to_come (after_line (working s t rs) l) ls
    go true e = rw e (to_come_working s t rs l ls (ltb-true (length rs) most_lines e))
    go false e = rw e (to_come_past s t rs (l ∷ ls) ls (ltb-false (length rs) most_lines e))

to_come_lem : (ls : List (List ℕ)) (w : Standing) → to_come w ls ≡ printed_by w ls ++ last_of (after w ls)
to_come_lem [] w = to_come_none w
to_come_lem (l ∷ ls) w =
    to_come_line w l ls ∙ ap (λ (x : List ℕ). printed_line w l ++ x) (to_come_lem ls (after_line w l))
    ∙ sym (append_assoc (printed_line w l) (printed_by (after_line w l) ls) (last_of (after (after_line w l) ls)))

pub printed_by_lem : (ls : List (List ℕ)) → printed_lines ls ≡ printed_by opening ls ++ last_of (after opening ls)
unfolding to_come
printed_by_lem ls = to_come_lem ls opening
