-- Laws of what is taken of a piece of the input.
-- Index
--   lines_cut, last_same, only-lines: the lines that end in some bytes are no others
--   final-over: where more is wanted
--   taken_none, taken_stops, taken_goes, taken-part, taken_end: how much is taken
--   taken_exactly
use Rattle.std.specs.Prelude.{◌≡◌, ◌≤◌, ◌+◌, ◌<◌, ◌∷◌, ◌++◌}
use Rattle.words.specs.Words.{arith, ℕ, List, length, refl, ◌∙◌, sym, ap, [], suc, true, zero, false, Bool, subst, drop, take}
use Rattle.words.specs.Words.{cond, ltb, eqb, length-append, ltb-true, ltb-false, append_assoc, append-nil, ne_eqb, take-append_seam, take_at, add-zero}
use Rattle.words.specs.Words.{le_of_suc-le-suc}
use lib.Seq.{drop-append_seam, drop_at}
use Prim.Native.Nat.{suc-le-suc, zero-le}
use Rattle.lines.specs.Lines.{lines_from}
use Rattle.lines.specs.Promises.{Unbroken}
use Rattle.records.specs.declared.Progress.{Progress}
use Rattle.records.specs.Standing.{Standing, opening, closed, working, after_line, printed_line, printed_by, Stands}
use Rattle.records.specs.Taking.{is_final, takes_line, taken_of, taken_from, ended_in, unended_in, takes_after, Exactly, TakenExactly}
use Rattle.records.specs.Promises.{is_over}

-- ---- Lines

-- the lines that end in some bytes, and what follows them
pub lines_cut : (q x z : List ℕ) → lines_from q (x ++ z) ≡ ended_in q x ++ lines_from (unended_in q x) z
unfolding lines_from ended_in unended_in
lines_cut q [] z = refl
lines_cut q (b ∷ x) z = go (eqb b 10) refl (lines_cut [] x z) (lines_cut (q ++ (b ∷ [])) x z)
  where
    go : (t : Bool) → eqb b 10 ≡ t → lines_from [] (x ++ z) ≡ ended_in [] x ++ lines_from (unended_in [] x) z
        → lines_from (q ++ (b ∷ [])) (x ++ z) ≡ ended_in (q ++ (b ∷ [])) x ++ lines_from (unended_in (q ++ (b ∷ [])) x) z
        → lines_from q (b ∷ (x ++ z)) ≡ ended_in q (b ∷ x) ++ lines_from (unended_in q (b ∷ x)) z
    go true e i j = rw e (ap (λ (ls : List (List ℕ)). q ∷ ls) i)
    go false e i j = rw e j

-- lists with one element more
pub last_same : {A : Type 0} (xs ys : List A) (a b : A) → xs ++ (a ∷ []) ≡ ys ++ (b ∷ []) → (xs ≡ ys) × (a ≡ b)
last_same xs ys a b e =
    let n : length xs ≡ length ys = omega (arith, ap length e, length-append xs (a ∷ []), length-append ys (b ∷ [])) in
    let d : a ∷ [] ≡ b ∷ [] = sym (drop-append_seam xs (a ∷ [])) ∙ ap (drop (length xs)) e ∙ drop_at ys (b ∷ []) (length xs) (sym n) in (
      sym (take-append_seam xs (a ∷ [])) ∙ ap (take (length xs)) e ∙ take_at ys (b ∷ []) (length xs) (sym n),
      cc,
    )

-- no other lines end in them, and no other bytes are left
pub only-lines : (q x : List ℕ) (lines : List (List ℕ)) (unended : List ℕ) → ((z : List ℕ) → lines_from q (x ++ z) ≡ lines ++ lines_from unended z)
    → (lines ≡ ended_in q x) × (unended ≡ unended_in q x)
unfolding lines_from
only-lines q x lines unended cut = last_same lines (ended_in q x) unended (unended_in q x) (sym (cut (10 ∷ [])) ∙ lines_cut q x (10 ∷ []))

-- ---- Where more is wanted

pub final-over : (p : Progress) (m : List ℕ) (w : Standing) → Stands p m w → is_over p ≡ is_final w
final-over p m opening k = rw k.0
final-over p m closed k = rw k.0
final-over p m (working s t rs) k = rw (k.stage, k.counts.lines)

-- ---- What is taken

-- of no input nothing
pub taken_none : (w : Standing) (q : List ℕ) (n : ℕ) → taken_from w q n [] ≡ 0
unfolding taken_of
taken_none w q n = go (takes_line w n)
  where
    go : (b : Bool) → ◌≡◌ {A = ℕ} (cond b 0 0) 0
    go true = refl
    go false = refl

-- nothing where no line is taken, and a line where one is
pub taken_stops : (w : Standing) (q : List ℕ) (n : ℕ) (x : List ℕ) → takes_line w n ≡ false → taken_from w q n x ≡ 0
taken_stops w q n x e = rw e

pub taken_goes : (w : Standing) (q : List ℕ) (n : ℕ) (x : List ℕ) → takes_line w n ≡ true → taken_from w q n x ≡ taken_of w q n x
taken_goes w q n x e = rw e

-- a line goes on
pub taken-part : (w : Standing) (q : List ℕ) (n : ℕ) (x z : List ℕ) → Unbroken x → taken_of w q n (x ++ z) ≡ length x + taken_of w (q ++ x) n z
unfolding taken_of
taken-part w q n [] z u = rw append-nil (omega arith)
taken-part w q n (b ∷ x) z u =
    let i = taken-part w (q ++ (b ∷ [])) n x z (λ k l. u (suc k) (suc-le-suc l)) in
    let a : taken_of w ((q ++ (b ∷ [])) ++ x) n z ≡ taken_of w (q ++ (b ∷ x)) n z = ap (λ (y : List ℕ). taken_of w y n z) (append_assoc q (b ∷ []) x) in
    rw (ne_eqb b 10 (u 0 (suc-le-suc zero-le))) (omega (arith, i, a))

-- it ends
pub taken_end : (w : Standing) (q : List ℕ) (n : ℕ) (z : List ℕ)
    → taken_of w q n (10 ∷ z) ≡ 1 + taken_from (after_line w q) [] (n + length (printed_line w q)) z
unfolding taken_of
taken_end w q n z = refl

-- ---- Exactly that

-- a byte more, which ends a line or does not
after_end : (w : Standing) (q : List ℕ) (n b : ℕ) (t : List ℕ) → eqb b 10 ≡ true
    → takes_after w q n (b ∷ t) ≡ takes_after (after_line w q) [] (n + length (printed_line w q)) t
unfolding ended_in
after_end w q n b t e =
    let v = after_line w q in
    let k : n + length (printed_line w q ++ printed_by v (ended_in [] t)) ≡ n + length (printed_line w q) + length (printed_by v (ended_in [] t)) =
    omega (arith, length-append (printed_line w q) (printed_by v (ended_in [] t))) in
    rw (e, k)

after-byte : (w : Standing) (q : List ℕ) (n b : ℕ) (t : List ℕ) → eqb b 10 ≡ false → takes_after w q n (b ∷ t) ≡ takes_after w (q ++ (b ∷ [])) n t
unfolding ended_in
after-byte w q n b t e = rw e

-- after no byte
after_none : (w : Standing) (q : List ℕ) (n : ℕ) → takes_after w q n [] ≡ takes_line w n
unfolding ended_in
after_none w q n = ap (takes_line w) (add-zero n)

-- nothing, where no line is taken
exactly_none : (w : Standing) (q : List ℕ) (n : ℕ) (x : List ℕ) → takes_line w n ≡ false → Exactly w q n x 0
exactly_none w q n x e = record {
  within = omega arith;
  before = λ i h. absurd (omega arith);
  stops = λ h. after_none w q n ∙ e;
}

-- a byte, and what is taken after it
exactly_more : (w w' : Standing) (q q' : List ℕ) (n n' b : ℕ) (x : List ℕ) (k : ℕ) → takes_line w n ≡ true
    → ((t : List ℕ) → takes_after w q n (b ∷ t) ≡ takes_after w' q' n' t) → Exactly w' q' n' x k → Exactly w q n (b ∷ x) (1 + k)
exactly_more w w' q q' n n' b x k e f i = subst (Exactly w q n (b ∷ x)) (omega arith) (record {
  within = suc-le-suc i.within;
  before = before;
  stops = λ h. f (take k x) ∙ i.stops (le_of_suc-le-suc h);
})
  where
    before : (j : ℕ) → j < suc k → takes_after w q n (take j (b ∷ x)) ≡ true
    before zero h = after_none w q n ∙ e
    before (suc j) h = f (take j x) ∙ i.before j (le_of_suc-le-suc h)

exact : (x : List ℕ) (w : Standing) (q : List ℕ) (n : ℕ) → Exactly w q n x (taken_from w q n x)
unfolding taken_of
exact [] w q n = subst (Exactly w q n []) (sym (taken_none w q n)) (record {
  within = omega arith;
  before = λ i h. absurd (omega arith);
  stops = λ h. absurd (omega arith);
})
exact (b ∷ x) w q n = go (takes_line w n) refl (eqb b 10) refl (exact x)
  where
    go : (t : Bool) → takes_line w n ≡ t → (d : Bool) → eqb b 10 ≡ d
        → ((w : Standing) (q : List ℕ) (n : ℕ) → Exactly w q n x (taken_from w q n x)) → Exactly w q n (b ∷ x) (taken_from w q n (b ∷ x))
    go false e d f i = rw e (exactly_none w q n (b ∷ x) e)
    go true e true f i =
        rw (e, f) (exactly_more w _ q [] n _ b x _ e (λ t. after_end w q n b t f) (i (after_line w q) [] (n + length (printed_line w q))))
    go true e false f i =
        rw (e, f)
        (exactly_more w w q (q ++ (b ∷ [])) n n b x _ e (λ t. after-byte w q n b t f)
        (subst (Exactly w (q ++ (b ∷ [])) n x) (taken_goes w (q ++ (b ∷ [])) n x e) (i w (q ++ (b ∷ [])) n)))

-- fewer bytes are not that
not_less : (w : Standing) (q : List ℕ) (n : ℕ) (x : List ℕ) (j k : ℕ) → Exactly w q n x j → Exactly w q n x k → k ≤ j
not_less w q n x j k a b = go (ltb j k) refl
  where
    go : (t : Bool) → ltb j k ≡ t → k ≤ j
    go false e = ltb-false j k e
    go true e =
        let h = ltb-true j k e in
        let f = a.stops (omega (arith, h, b.within)) in
        let g = b.before j h in
        let z : ◌≡◌ {A = ℕ} 0 1 = cc in absurd (omega arith)

pub taken_exactly : TakenExactly
taken_exactly = record {
  exact = exact;
  only = λ x w q n k a.
      let b = exact x w q n in
      let t = taken_from w q n x in
      omega (arith, not_less w q n x k t a b, not_less w q n x t k b a);
}
