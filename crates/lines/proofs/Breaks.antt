-- Laws of an input's lines: where they end, and where they go on.
use Rattle.std.specs.Prelude.{◌≡◌, ◌≤◌, ◌+◌, ◌-◌, ◌∷◌, ◌++◌, ◌||◌}
use Rattle.std.specs.Prelude.{position, unwrap_or}
use Rattle.std.proofs.lemmas.List.Quantifiers.{position-Some}
use Rattle.std.specs.List.{position_or_len}
use Rattle.words.specs.Words.{arith, ℕ, List, length, refl, ◌∙◌, ap, [], suc, zero, true, get_or, false, Bool, drop, take, ltb, eqb, ne_eqb, Some, None, cond}
use Rattle.words.specs.Words.{append_assoc, append-nil, ltb-true, length-take, ltb-false, get_or-drop, eqb-true, eqb-false, get_or-take, length-drop}
use Prim.Native.Nat.{suc-le-suc, zero-le}
use borrow.Author.Count.{below_more}
use Rattle.lines.specs.Lines.{unended, lines_from, lines_of}
use Rattle.lines.specs.Inner.{NoEnd, Ends}
use Rattle.lines.specs.Promises.{Unbroken, AllUnbroken, joined}

-- a line ends at 0A
pub ended : (p z : List ℕ) → lines_from p (10 ∷ z) ≡ p ∷ lines_from [] z
unfolding lines_from
ended p z = refl

-- and goes on at other bytes
pub lines_go_on : (p x : List ℕ) → Unbroken x → (z : List ℕ) → lines_from p (x ++ z) ≡ lines_from (p ++ x) z
unfolding lines_from
lines_go_on p [] h z = rw append-nil
lines_go_on p (b ∷ x) h z =
    rw (ne_eqb b 10 (h 0 (suc-le-suc zero-le)))
    (lines_go_on (p ++ (b ∷ [])) x (λ k l. h (suc k) (suc-le-suc l)) z ∙ ap (λ (q : List ℕ). lines_from q z) (append_assoc p (b ∷ []) x))

-- a byte more of a piece is looked at
pub piece_more : (x : List ℕ) (k : ℕ) (found : Bool) → (found ≡ false → NoEnd x k) → found || eqb (get_or x k 0) 10 ≡ false → NoEnd x (k + 1)
piece_more x k true u e = cc
piece_more x k false u e = below_more _ k (u refl) (eqb-false (get_or x k 0) 10 e)

-- no line ends before a piece, nor within it
pub piece_passed : (x y : List ℕ) (i n : ℕ) → y ≡ drop i x → NoEnd x i → NoEnd (take n y) n → NoEnd x (i + n)
piece_passed x y i n d u v k h e = go (ltb k i) refl
  where
    go : (b : Bool) → ltb k i ≡ b → ⊥
    go true t = u k (ltb-true k i t) e
    go false t =
        let l : i ≤ k = ltb-false k i t in
        let m : i + (k - i) ≡ k = omega arith in
        v (k - i) (omega arith) (rw (get_or-take n y (k - i) 0 (omega arith), d, get_or-drop, m) e)

-- where no 0A is found
none_found : (x : List ℕ) → length x ≤ position_or_len (λ b. eqb b 10) x → NoEnd x (length x)
none_found [] h = λ k l. absurd (omega arith)
none_found (b ∷ x) h = go (eqb b 10) refl (none_found x)
  where
    go : (t : Bool) → eqb b 10 ≡ t → (length x ≤ position_or_len (λ b. eqb b 10) x → NoEnd x (length x)) → NoEnd (b ∷ x) (length (b ∷ x))
    go true e rest k l = absurd (omega (arith, rw e at h))
    go false e rest zero l = eqb-false b 10 e
    go false e rest (suc k) l =
        let m : length (b ∷ x) ≤ 1 + position_or_len (λ b. eqb b 10) x = rw e at h in
        rest (omega arith) k (omega arith)

-- the first line ends at the first 0A, or else at the end
pub ends_at : (x : List ℕ) → Ends x (unwrap_or (position (λ b. eqb b 10) x) (length x))
ends_at x = go (ltb (position_or_len (λ b. eqb b 10) x) (length x)) refl
  where
    go : (t : Bool) → ltb (position_or_len (λ b. eqb b 10) x) (length x) ≡ t
        → Ends x (unwrap_or (cond t (Some (position_or_len (λ b. eqb b 10) x)) None) (length x))
    go true e =
        let h = position-Some (λ b. eqb b 10) x (position_or_len (λ b. eqb b 10) x) 0 (rw e) in
        record { within = omega arith; before = λ k l. eqb-false (get_or x k 0) 10 (h.2 k l); found = λ l. eqb-true _ 10 h.1 }
    go false e =
        record { within = omega arith; before = none_found x (ltb-false _ (length x) e); found = λ l. absurd (omega arith) }

-- after bytes within which no line ends
pub ends_after : (x y : List ℕ) (i r : ℕ) → y ≡ drop i x → i ≤ length x → NoEnd x i → Ends y r → Ends x (i + r)
ends_after x y i r d l u e = record {
  within = omega (arith, e.within, n);
  before = piece_passed x y i r d u (λ k h q. e.before k h (rw (get_or-take r y k 0 h) at q));
  found = λ h. rw get_or-drop at (rw d at (e.found (omega (arith, n))));
}
  where
    n : length y ≡ length x - i
    n = ap length d ∙ length-drop i x

-- before its first line's end no byte of an input is 0A
pub front_unbroken : (x : List ℕ) (r : ℕ) → Ends x r → Unbroken (take r x)
front_unbroken x r h k l e =
    let m = simp length-take at l in
    h.before k (omega arith) (rw (get_or-take r x k 0 (omega arith)) at e)

-- the lines of lines that are joined
pub joined-lines : (ls : List (List ℕ)) (p : List ℕ) → AllUnbroken ls → Unbroken p → lines_of (joined ls ++ p) ≡ ls ++ unended p
unfolding lines_from
joined-lines [] p h u = rw append-nil at (lines_go_on [] p u [])
joined-lines (l ∷ ls) p h u =
    rw append_assoc (lines_go_on [] l h.0 (10 ∷ (joined ls ++ p)) ∙ ap (λ (r : List (List ℕ)). l ∷ r) (joined-lines ls p h.1 u))
