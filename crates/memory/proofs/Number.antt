-- Numbers in bytes: written, read, and in pieces.
use Rattle.std.specs.Prelude.{◌≡◌, ◌≤◌, ◌+◌, ◌<◌, ◌%◌, ◌∷◌, ◌*◌, ◌++◌, ◌^◌, ◌/◌}
use Rattle.words.specs.Words.{arith, ℕ, List, length, refl, ◌∙◌, sym, ap, [], suc, zero, drop, take}
use Rattle.words.specs.Words.{add-zero, length-append, mod-eq_of_lt, zero-add, zero-mul, lit<, get_or-drop, add_assoc, mul-le-mul_right}
use native.Mathlib.Nat.{mod-one, pow-suc, pow-succ', mul-add-div_right, div-eq_of_lt, add-mul, mul_assoc}
use lib.Arith.{mod-mul}
use lib.Pow.{pow-add}
use Rattle.memory.specs.Part.{part}
use Rattle.memory.specs.Number.{number, bytes, Bytes}
use Rattle.memory.proofs.Parts.{cons-eq, part-add, length_part}

pub length-bytes : (n v : ℕ) → length (bytes n v) ≡ n
length-bytes zero v = refl
length-bytes (suc n) v = ap suc (length-bytes n v)

pos : (n : ℕ) → 0 < 256 ^ n
pos zero = lit< tt
pos (suc n) = rw pow-suc (omega (arith, pos n))

-- what is written is read, modulo what the width holds
pub number-mod : (n v : ℕ) → number (bytes n v) ≡ v % 256 ^ n
number-mod zero v = sym (mod-one v)
number-mod (suc n) v = cc (length-bytes n v, number-mod n v, pow-succ' 256 n, mod-mul v {m = 256} (lit< tt) (pos n))

pub number-bytes : (n v : ℕ) → v < 256 ^ n → number (bytes n v) ≡ v
number-bytes n v h = number-mod n v ∙ mod-eq_of_lt h

-- bytes of two pieces
pub number_append : (x y : List ℕ) → number (x ++ y) ≡ number x * 256 ^ length y + number y
number_append [] y = rw (zero-mul, zero-add)
number_append (b ∷ x) y =
    let p = 256 ^ length x in
    let q = 256 ^ length y in
    cc (
      number_append x y,
      length-append x y,
      pow-add 256 (length x) (length y),
      add-mul (b * p) (number x) q,
      mul_assoc b p q,
      add_assoc (b * (p * q)) (number x * q) (number y),
    )

pub number-part : (a n k : ℕ) (m : List ℕ) → a + (n + k) ≤ length m
    → number (part a (n + k) m) ≡ number (part a n m) * 256 ^ k + number (part (a + n) k m)
number-part a n k m h = rw (part-add, number_append, length_part (a + n) k m (omega arith))

pub number_lt : (l : List ℕ) → Bytes l → number l < 256 ^ length l
number_lt [] h = lit< tt
number_lt (b ∷ l) h = rw pow-suc (omega (arith, number_lt l (λ i. h (suc i)), mul-le-mul_right (256 ^ length l) (h 0)))

-- ---- what is read is written again

-- the last n bytes of a number do not see what stands above them
bytes_above : (n j q v : ℕ) → bytes n (q * 256 ^ (n + j) + v) ≡ bytes n v
bytes_above zero j q v = refl
bytes_above (suc n) j q v =
    let p : suc n + j ≡ j + 1 + n = omega arith in
    let r : suc n + j ≡ n + suc j = omega arith in
    let e : q * 256 ^ (suc n + j) ≡ q * 256 ^ j * 256 * 256 ^ n = rw (p, pow-add 256 (j + 1) n, pow-add 256 j 1) (simp mul_assoc) in
    let d : (q * 256 ^ j * 256 * 256 ^ n + v) / 256 ^ n ≡ q * 256 ^ j * 256 + v / 256 ^ n = mul-add-div_right (pos n) (q * 256 ^ j * 256) v in
    let h : (q * 256 ^ (suc n + j) + v) / 256 ^ n % 256 ≡ v / 256 ^ n % 256 = rw (e, d) (omega arith) in
    cons-eq h (rw r (bytes_above n (suc j) q v))

pub bytes-number : (l : List ℕ) → Bytes l → bytes (length l) (number l) ≡ l
bytes-number [] h = refl
bytes-number (b ∷ l) h =
    let t : number l < 256 ^ length l = number_lt l (λ i. h (suc i)) in
    let d : (b * 256 ^ length l + number l) / 256 ^ length l ≡ b = mul-add-div_right (pos (length l)) b (number l) ∙ rw (div-eq_of_lt t) (add-zero b) in
    let e : (b * 256 ^ length l + number l) / 256 ^ length l % 256 ≡ b = rw d (mod-eq_of_lt (h 0)) in
    let z : length l + 0 ≡ length l = add-zero (length l) in
    cons-eq e (rw z at (bytes_above (length l) 0 b (number l)) ∙ bytes-number l (λ i. h (suc i)))

-- ---- parts of bytes are bytes

bytes_take : (n : ℕ) (m : List ℕ) → Bytes m → Bytes (take n m)
bytes_take zero m h i = lit< tt
bytes_take (suc n) [] h i = lit< tt
bytes_take (suc n) (x ∷ m) h zero = h 0
bytes_take (suc n) (x ∷ m) h (suc i) = bytes_take n m (λ k. h (suc k)) i

pub bytes-part : (a n : ℕ) (m : List ℕ) → Bytes m → Bytes (part a n m)
unfolding part
bytes-part a n m h = bytes_take n (drop a m) (λ i. rw get_or-drop (h (a + i)))
