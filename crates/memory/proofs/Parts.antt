-- Laws of `part` and `splice`, at any place and size, by group:
--   lengths: length_part, length-splice (and cons-eq, of any two lists)
--   the code's `m[a..a + n]`: cut (what is lent), put (what has come back)
--   what is before the place, past it, and the place itself: take-splice, drop-splice, drop_front, take_new, past-splice
--   a part of a splice: part-within, part-before, part-past
--   a byte of a splice, and a store of one: get_or-past, get_or-before, get_or_apart, get_or-within, set-splice
--   parts of parts, and stores on stores: whole, get_or-part, part-part, part-drop, part-splice, splice-part, splice_next, splice-append, splice-within
--   bytes one by one: part_none, part-cons, part-two, part-four, part-add, sets_splice
--   rows of s bytes: row_fits
use Rattle.std.specs.Prelude.{◌≡◌, ◌≤◌, ◌+◌, ◌<◌, ◌-◌, ◌∷◌, ◌*◌, ◌++◌}
use Rattle.words.specs.Words.{arith, ℕ, List, length, refl, ◌∙◌, ap, [], suc, zero, get_or, drop, take, add-zero}
use Rattle.words.specs.Words.{add-one, length-append, not-suc-le-zero, zero-add, inr, le_of_suc-le-suc, inl, append_assoc, set, length-drop, length-set}
use Rattle.words.specs.Words.{length-take, suc-mul, get_or-drop, take_all, get_or-append, suc-add, drop-cons, take-append-drop, mul-le-mul_right, drop-drop}
use Rattle.words.specs.Words.{take_at, take-append_seam, get_or-take}
use lib.Seq.{take-append-le, drop-append-le, drop-append_seam, drop-append-add, take-take, take-add, sets, sets-eq, set-append_left}
use Rattle.memory.specs.Part.{part, splice, Apart}

pub cons-eq : {A : Type 0} {x y : A} {l k : List A} → x ≡ y → l ≡ k → x ∷ l ≡ y ∷ k
cons-eq p q = λ j. p j ∷ q j

pub length_part : (a n : ℕ) (m : List ℕ) → a + n ≤ length m → length (part a n m) ≡ n
unfolding part
length_part a n m h = simp (length-take, length-drop) (omega arith)

pub length-splice : (a : ℕ) (x m : List ℕ) → a + length x ≤ length m → length (splice a x m) ≡ length m
unfolding splice
length-splice a x m h = simp (length-append, length-take, length-drop) (omega arith)

-- ---- from the code's `m[a..a + n]`: what is lent, and what has come back

pub cut : (a n : ℕ) (m : List ℕ) → take (a + n - a) (drop a m) ≡ part a n m
unfolding part
cut a n m = let e : a + n - a ≡ n = omega arith in rw e

pub put : (a n : ℕ) (x m : List ℕ) → a + n ≤ length m → length x ≡ length (take (a + n - a) (drop a m))
    → take a m ++ (x ++ drop (a + n - a) (drop a m)) ≡ splice a x m
unfolding splice
put a n x m h l = let e : a + n - a ≡ length x = omega (arith, simp (length-take, length-drop) at l) in rw e

-- ---- what is before the place, what is past it, and the place itself

pub take-splice : (n a : ℕ) (x m : List ℕ) → n ≤ a → a ≤ length m → take n (splice a x m) ≡ take n m
unfolding splice
take-splice zero a x m h k = refl
take-splice (suc n) zero x m h k = absurd (not-suc-le-zero h)
take-splice (suc n) (suc a) x [] h k = absurd (not-suc-le-zero k)
take-splice (suc n) (suc a) x (y ∷ m) h k = ap (λ (l : List ℕ). y ∷ l) (take-splice n a x m (le_of_suc-le-suc h) (le_of_suc-le-suc k))

pub drop-splice : (n a : ℕ) (x m : List ℕ) → n + a ≤ length m → drop n (splice (n + a) x m) ≡ splice a x (drop n m)
unfolding splice
drop-splice zero a x m h = rw zero-add
drop-splice (suc n) a x [] h = absurd (not-suc-le-zero (rw suc-add at h))
drop-splice (suc n) a x (y ∷ m) h = rw suc-add (drop-splice n a x m (le_of_suc-le-suc (rw suc-add at h)))

-- what is past x
pub drop_front : (n : ℕ) (x m : List ℕ) → drop (length x + n) (splice 0 x m) ≡ drop (length x + n) m
unfolding splice
drop_front n x m = drop-append-add x _ n ∙ drop-drop n (length x) m

pub take_new : (n : ℕ) (x m : List ℕ) → length x ≡ n → take n (splice 0 x m) ≡ x
unfolding splice
take_new n x m e = take_at x _ n e

pub past-splice : (n a : ℕ) (x m : List ℕ) → a + length x ≤ n → a ≤ length m → drop n (splice a x m) ≡ drop n m
unfolding splice
past-splice n zero x m h k =
    let e : n ≡ length x + (n - length x) = omega arith in
    rw e (drop_front (n - length x) x m)
past-splice zero (suc a) x m h k = absurd (omega arith)
past-splice (suc n) (suc a) x [] h k = absurd (not-suc-le-zero k)
past-splice (suc n) (suc a) x (y ∷ m) h k = past-splice n a x m (omega arith) (omega arith)

-- ---- a part of a splice: inside the place, before it, past it

pub part-within : (a b n : ℕ) (x m : List ℕ) → b + n ≤ length x → a ≤ length m → part (a + b) n (splice a x m) ≡ part b n x
unfolding part splice
part-within zero b n x m h k =
    let hb : b ≤ length x = omega arith in
    let hn : n ≤ length (drop b x) = simp length-drop (omega arith) in
    rw (zero-add, drop-append-le b x, take-append-le n (drop b x))
part-within (suc a) b n x [] h k = absurd (not-suc-le-zero k)
part-within (suc a) b n x (y ∷ m) h k = rw suc-add (part-within a b n x m h (le_of_suc-le-suc k))

pub part-before : (b n a : ℕ) (x m : List ℕ) → b + n ≤ a → a ≤ length m → part b n (splice a x m) ≡ part b n m
unfolding part
part-before b n a x m h k =
    let e : a ≡ b + (a - b) = omega arith in
    let hd : a - b ≤ length (drop b m) = simp length-drop (omega arith) in
    rw (e, drop-splice b (a - b) x m (omega arith)) (take-splice n (a - b) x (drop b m) (omega arith) hd)

pub part-past : (b n a : ℕ) (x m : List ℕ) → a + length x ≤ b → a ≤ length m → part b n (splice a x m) ≡ part b n m
unfolding part
part-past b n a x m h k = rw past-splice

-- ---- a byte of a splice, and a store of one

-- a byte past the place
pub get_or-past : (i a : ℕ) (x m : List ℕ) → a + length x ≤ i → a ≤ length m → get_or (splice a x m) i 0 ≡ get_or m i 0
get_or-past i a x m h k = rw (← add-zero i, ← get_or-drop i (splice a x m) 0 0, ← get_or-drop i m 0 0, past-splice i a x m h k)

-- a byte before the place
pub get_or-before : (i a : ℕ) (x m : List ℕ) → i < a → a ≤ length m → get_or (splice a x m) i 0 ≡ get_or m i 0
unfolding splice
get_or-before i zero x m h k = absurd (not-suc-le-zero h)
get_or-before i (suc a) x [] h k = absurd (not-suc-le-zero k)
get_or-before zero (suc a) x (y ∷ m) h k = refl
get_or-before (suc i) (suc a) x (y ∷ m) h k = get_or-before i a x m (le_of_suc-le-suc h) (le_of_suc-le-suc k)

-- a byte of a stretch that is apart from the place
pub get_or_apart : (a b n i : ℕ) (x m : List ℕ) → Apart a b n → length x ≡ n → i < n → a ≤ length m → get_or (splice a x m) (b + i) 0 ≡ get_or m (b + i) 0
get_or_apart a b n i x m (inl h) e l k = get_or-past (b + i) a x m (omega arith) k
get_or_apart a b n i x m (inr h) e l k = get_or-before (b + i) a x m (omega arith) k

-- a byte of the place
pub get_or-within : (a i : ℕ) (x m : List ℕ) → i < length x → a ≤ length m → get_or (splice a x m) (a + i) 0 ≡ get_or x i 0
unfolding splice
get_or-within zero i x m h k = rw zero-add (get_or-append x (drop (length x) m) 0 i h)
get_or-within (suc a) i x [] h k = absurd (not-suc-le-zero k)
get_or-within (suc a) i x (y ∷ m) h k = rw suc-add (get_or-within a i x m h (le_of_suc-le-suc k))

-- a store of one byte of the place
pub set-splice : (a i v : ℕ) (x m : List ℕ) → i < length x → a ≤ length m → set (splice a x m) (a + i) v ≡ splice a (set x i v) m
unfolding splice
set-splice zero i v x m h k = rw (zero-add, length-set) (set-append_left x (drop (length x) m) i v h)
set-splice (suc a) i v x [] h k = absurd (not-suc-le-zero k)
set-splice (suc a) i v x (y ∷ m) h k = rw suc-add (ap (λ (l : List ℕ). y ∷ l) (set-splice a i v x m h (le_of_suc-le-suc k)))

-- ---- parts of parts, and stores on stores

pub whole : (n : ℕ) (x : List ℕ) → length x ≡ n → part 0 n x ≡ x
unfolding part
whole n x e = take_all n x (omega arith)

pub get_or-part : (a n i : ℕ) (m : List ℕ) → i < n → get_or (part a n m) i 0 ≡ get_or m (a + i) 0
unfolding part
get_or-part a n i m h = rw (get_or-take, get_or-drop)

part-take : (b k n : ℕ) (l : List ℕ) → b + k ≤ n → take k (drop b (take n l)) ≡ take k (drop b l)
part-take zero k n l h = take-take k n l (rw zero-add at h)
part-take (suc b) k zero l h = absurd (omega arith)
part-take (suc b) k (suc n) [] h = refl
part-take (suc b) k (suc n) (y ∷ l) h = part-take b k n l (omega arith)

pub part-part : (a n b k : ℕ) (m : List ℕ) → b + k ≤ n → part b k (part a n m) ≡ part (a + b) k m
unfolding part
part-part a n b k m h = rw (part-take b k n, drop-drop)

pub part-drop : (a b n : ℕ) (m : List ℕ) → part (a + b) n m ≡ part b n (drop a m)
unfolding part
part-drop a b n m = rw drop-drop

pub part-splice : (a : ℕ) (x m : List ℕ) → a ≤ length m → part a (length x) (splice a x m) ≡ x
unfolding part splice
part-splice zero x m h = take-append_seam x _
part-splice (suc a) x [] h = absurd (not-suc-le-zero h)
part-splice (suc a) x (y ∷ m) h = part-splice a x m (le_of_suc-le-suc h)

pub splice-part : (a n : ℕ) (m : List ℕ) → a + n ≤ length m → splice a (part a n m) m ≡ m
unfolding part splice
splice-part a n m h = rw (length_part a n m h, take-append-drop, take-append-drop)

-- neighbours join
pub splice_next : (a : ℕ) (x y m : List ℕ) → a ≤ length m → splice (a + length x) y (splice a x m) ≡ splice a (x ++ y) m
unfolding splice
splice_next zero x y m h = rw (zero-add, take-append_seam, drop-append_seam, drop-drop (length y) (length x), length-append, append_assoc)
splice_next (suc a) x y [] h = absurd (not-suc-le-zero h)
splice_next (suc a) x y (z ∷ m) h = rw suc-add (ap (λ (l : List ℕ). z ∷ l) (splice_next a x y m (le_of_suc-le-suc h)))

pub splice-append : (b : ℕ) (x p r : List ℕ) → b + length x ≤ length p → splice b x (p ++ r) ≡ splice b x p ++ r
unfolding splice
splice-append zero x p r h = rw (drop-append-le (length x) p r (omega arith), ← append_assoc x)
splice-append (suc b) x [] r h = absurd (omega arith)
splice-append (suc b) x (z ∷ p) r h = ap (λ (l : List ℕ). z ∷ l) (splice-append b x p r (omega arith))

-- a store in a part that is put back
pub splice-within : (a n b : ℕ) (x m : List ℕ) → b + length x ≤ n → a + n ≤ length m → splice a (splice b x (part a n m)) m ≡ splice (a + b) x m
unfolding part splice
splice-within zero n b x m h k =
    let l : length (take n m) ≡ n = simp length-take (omega arith) in
    let hb : b + length x ≤ length (take n m) = omega arith in
    rw (zero-add, length-splice b x (take n m) hb, l, ← splice-append b x (take n m) (drop n m) hb, take-append-drop)
splice-within (suc a) n b x [] h k = absurd (omega arith)
splice-within (suc a) n b x (z ∷ m) h k = rw suc-add (ap (λ (l : List ℕ). z ∷ l) (splice-within a n b x m h (omega arith)))

-- ---- bytes one by one

pub part_none : (a : ℕ) (m : List ℕ) → part a 0 m ≡ []
unfolding part
part_none a m = refl

-- a part, its first byte apart
pub part-cons : (a n : ℕ) (m : List ℕ) → a < length m → part a (suc n) m ≡ get_or m a 0 ∷ part (a + 1) n m
unfolding part
part-cons a n m h = rw (add-one, drop-cons m a 0 h)

pub part-two : (a : ℕ) (m : List ℕ) → a + 2 ≤ length m → part a 2 m ≡ get_or m a 0 ∷ get_or m (a + 1) 0 ∷ []
part-two a m h = cc (part-cons a 1 m (omega arith), part-cons (a + 1) 0 m (omega arith), part_none (a + 1 + 1) m)

pub part-four : (a : ℕ) (m : List ℕ) → a + 4 ≤ length m
    → part a 4 m ≡ get_or m a 0 ∷ get_or m (a + 1) 0 ∷ get_or m (a + 2) 0 ∷ get_or m (a + 3) 0 ∷ []
part-four a m h =
    let e : a + 1 + 1 ≡ a + 2 = omega arith in
    let f : a + 2 + 1 ≡ a + 3 = omega arith in
    cc (part-cons a 3 m (omega arith), part-cons (a + 1) 2 m (omega arith), part-two (a + 2) m (omega arith))

-- a part of two pieces
pub part-add : (a n k : ℕ) (m : List ℕ) → part a (n + k) m ≡ part a n m ++ part (a + n) k m
unfolding part
part-add a n k m = rw (take-add, drop-drop)

-- a run of stores
pub sets_splice : (a : ℕ) (x m : List ℕ) → a + length x ≤ length m → sets m a x ≡ splice a x m
unfolding splice
sets_splice a x m h = rw (sets-eq x m a h, drop-drop, append_assoc)

-- ---- rows of s bytes, one after the other

-- row k of n rows ends where row k + 1 would start, and not past the last row
pub row_fits : (n s k : ℕ) → k < n → k * s + s ≤ n * s
row_fits n s k h = rw suc-mul at (mul-le-mul_right s h)
