-- A loop that replaces the elements of a list one by one, in order. After i turns the first i are those of the result r, and the others are as
-- they were. A turn asks for element i of the result and for no other, so a loop hands over the length of its result and the law of its elements.
use Rattle.std.specs.Prelude.{◌≡◌, ◌≤◌, ◌+◌, ◌<◌, ◌∷◌}
use Rattle.words.specs.Words.{arith, ℕ, List, length, refl, ◌∙◌, ap, [], suc, zero, get_or, add-one, not-suc-le-zero, le_of_suc-le-suc}
use Rattle.words.specs.Words.{set, length-set}

-- the list after i turns, d before them and r the result
abbrev pub turned : List ℕ → List ℕ → ℕ → List ℕ
turned d r zero = d
turned [] r (suc i) = []
turned (x ∷ d) [] (suc i) = x ∷ d
turned (x ∷ d) (y ∷ r) (suc i) = y ∷ turned d r i

pub turned_length : (d r : List ℕ) (i : ℕ) → length (turned d r i) ≡ length d
turned_length d r zero = refl
turned_length [] r (suc i) = refl
turned_length (x ∷ d) [] (suc i) = refl
turned_length (x ∷ d) (y ∷ r) (suc i) = ap suc (turned_length d r i)

rest : (d r : List ℕ) (i : ℕ) → get_or (turned d r i) i 0 ≡ get_or d i 0
rest d r zero = refl
rest [] r (suc i) = refl
rest (x ∷ d) [] (suc i) = refl
rest (x ∷ d) (y ∷ r) (suc i) = rest d r i

turn : (d r : List ℕ) (i : ℕ) → i < length d → i < length r → set (turned d r i) i (get_or r i 0) ≡ turned d r (suc i)
turn [] r i h k = absurd (not-suc-le-zero h)
turn (x ∷ d) [] i h k = absurd (not-suc-le-zero k)
turn (x ∷ d) (y ∷ r) zero h k = refl
turn (x ∷ d) (y ∷ r) (suc i) h k = ap (λ (l : List ℕ). y ∷ l) (turn d r i (le_of_suc-le-suc h) (le_of_suc-le-suc k))

done : (d r : List ℕ) (i : ℕ) → length r ≡ length d → length d ≤ i → turned d r i ≡ r
done [] [] zero e h = refl
done [] [] (suc i) e h = refl
done [] (y ∷ r) i e h = absurd (omega arith)
done (x ∷ d) r zero e h = absurd (not-suc-le-zero h)
done (x ∷ d) [] (suc i) e h = absurd (omega arith)
done (x ∷ d) (y ∷ r) (suc i) e h = ap (λ (l : List ℕ). y ∷ l) (done d r i (omega arith) (le_of_suc-le-suc h))

-- l is the list after i turns
pub record Turned (d r : List ℕ) (i : ℕ) (l : List ℕ) : Type 0 where
  pub list : l ≡ turned d r i
  pub size : length l ≡ length d

-- an element whose turn has not come
pub turned_next : {d r l : List ℕ} {i : ℕ} → Turned d r i l → get_or l i 0 ≡ get_or d i 0
turned_next {d} {r} {l} {i} t = ap (λ (k : List ℕ). get_or k i 0) t.list ∙ rest d r i

-- one turn more, in which element i of the result is stored
pub turned_more : {d r l : List ℕ} {i v : ℕ} → length r ≡ length d → i < length d → Turned d r i l → v ≡ get_or r i 0
    → Turned d r (i + 1) (set l i v)
turned_more {d} {r} {l} {i} {v} e h t q =
    record { list = rw (t.list, q, add-one) (turn d r i h (omega arith)); size = rw length-set t.size }

-- all turns
pub turned_all : {d r l : List ℕ} {i : ℕ} → length r ≡ length d → length d ≤ i → Turned d r i l → l ≡ r
turned_all {d} {r} {l} {i} e h t = t.list ∙ done d r i e h
