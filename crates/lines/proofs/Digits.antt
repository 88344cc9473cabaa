-- Laws of hexadecimal digits: which bytes they are, the byte that two of them write, and the bytes that digits write.
-- Index
--   digits-named: 0 to 9 and A to F
--   next_looked_at: a byte more is looked at
--   all_looked_at: every byte was looked at
--   Paired, paired
--   odd_digits: an odd number of digits
--   no_digits: a byte that is no digit
--   Bytewise: digits, and what was read of them, its k bytes at the front of a packet
--   nothing_read: nothing yet
--   all_read: all of them
--   next_digits: the next two
--   more-read: a byte more
use Rattle.std.specs.Prelude.{◌≡◌, ◌≤◌, ◌+◌, ◌<◌, ◌-◌, ◌%◌, ◌∷◌, ◌*◌, ◌++◌, ◌/◌, ◌&&◌}
use Rattle.words.specs.Words.{arith, ℕ, List, length, refl, ◌∙◌, ap, [], Some, suc, true, zero, None, get_or, false}
use Rattle.words.specs.Words.{Bool, Option, drop, take, cond, ltb, eqb, add-one, bit_xor, lt-ltb, le_of_suc-le-suc, append_assoc, set}
use Rattle.words.specs.Words.{eqb-true, append-nil, ltb-true, ⊎_elim, drop-cons, drop-length}
use mathlib.Core.Bool.{and_assoc, and-true}
use native.Mathlib.Nat.{eq-or-lt_of_le}
use lib.Bits.{bit_and, and_le_r}
use lib.Seq.{take-suc-set}
use Rattle.text.specs.Text.{digit}
use Rattle.wire.specs.Numbers.{within}
use Rattle.wire.proofs.Settings.{both, within_bounds}
use Rattle.lines.specs.Reading.{is_digit, value_of, before, bytes_in}
use Rattle.lines.specs.Inner.{all_digits}
use Rattle.lines.proofs.Hexadecimals.{digit_value}
use Rattle.lines.proofs.Options.{cond_same}

-- ---- which bytes are digits

-- 0 to 9 and A to F
pub digits-named : (b : ℕ) → ltb (value_of b) 16 ≡ cond (is_digit b) true (within 65 70 b)
unfolding value_of
digits-named b = go (is_digit b) (within 65 70 b) refl refl
  where
    go : (d l : Bool) → is_digit b ≡ d → within 65 70 b ≡ l → ltb (value_of b) 16 ≡ cond (is_digit b) true (within 65 70 b)
    go true l e f = let w = within_bounds 48 57 b e in rw e (lt-ltb (b - 48) 16 (omega arith))
    go false true e f = let w = within_bounds 65 70 b f in rw (e, f) (lt-ltb (b - 55) 16 (omega arith))
    go false false e f = rw (e, f)

module _ (line : List ℕ) (i : ℕ) (all : Bool) where
  -- a byte more is looked at
  pub next_looked_at : i < length line
      → all && all_digits (drop i line) ≡ all && ltb (value_of (get_or line i 0)) 16 && all_digits (drop (i + 1) line)
  unfolding all_digits
  next_looked_at h = rw (add-one, drop-cons line i 0 h, and_assoc)

  -- every byte was looked at
  pub all_looked_at : i ≡ length line → all && all_digits (drop i line) ≡ all
  unfolding all_digits
  all_looked_at e = rw (e, drop-length, and-true)

-- where all are digits, each is
digit_in : (l : List ℕ) → all_digits l ≡ true → (i : ℕ) → i < length l → value_of (get_or l i 0) < 16
unfolding all_digits
digit_in [] e i h = absurd (omega arith)
digit_in (b ∷ l) e zero h = ltb-true (value_of b) 16 (both (ltb (value_of b) 16) (all_digits l) e).0
digit_in (b ∷ l) e (suc i) h = digit_in l (both (ltb (value_of b) 16) (all_digits l) e).1 i (omega arith)

-- ---- the byte of two digits

-- whether all numbers below n pass a test
abbrev every : (ℕ → Bool) → ℕ → Bool
every f zero = true
every f (suc n) = f n && every f n

passed : (f : ℕ → Bool) (n k : ℕ) → every f n ≡ true → k < n → f k ≡ true
passed f zero k e h = absurd (omega arith)
passed f (suc n) k e h =
    let p = both (f n) (every f n) e in
    ⊎_elim (λ q. rw q p.0) (λ l. passed f n k p.1 l) (eq-or-lt_of_le (le_of_suc-le-suc h))

-- two digits at once: a decimal digit of value v becomes 64 + v, and a letter 39 + v
abbrev pair : (high low : ℕ) → ℕ
pair high low = bit_xor (low * 256 + high) 28784

-- 1 for a decimal digit, and 0 for a letter
abbrev decimals : (high low : ℕ) → ℕ
decimals high low = bit_and (pair high low / 64) 257

-- the values are found, for all digits
found : (i j : ℕ) → Bool
found i j = eqb (pair (digit i) (digit j)) (10023 + decimals (digit i) (digit j) * 25 + (j * 256 + i))

all_found : every (λ i. every (found i) 16) 16 ≡ true
unfolding digit found
all_found = refl

values_found : (i j : ℕ) → i < 16 → j < 16 → pair (digit i) (digit j) ≡ 10023 + decimals (digit i) (digit j) * 25 + (j * 256 + i)
unfolding found
values_found i j h l = eqb-true _ _ (passed (found i) 16 j (passed (λ n. every (found n) 16) 16 i all_found h) l)

pub record Paired (high low : ℕ) : Type 0 where
  pub values : pair high low ≡ 10023 + decimals high low * 25 + (value_of low * 256 + value_of high)
  pub small : decimals high low ≤ 257

pub paired : (high low : ℕ) → value_of high < 16 → value_of low < 16 → Paired high low
paired high low h l = record {
  values = rw (digit_value high h, digit_value low l) at (values_found (value_of high) (value_of low) h l);
  small = and_le_r (pair high low / 64) 257;
}

-- ---- the bytes of a line

-- bytes before bytes
before-before : (x y : List ℕ) (o : Option (List ℕ)) → before x (before y o) ≡ before (x ++ y) o
before-before x y None = refl
before-before x y (Some l) = rw append_assoc

-- no bytes before bytes
before_nothing : (o : Option (List ℕ)) → o ≡ before [] o
before_nothing None = refl
before_nothing (Some l) = refl

-- an odd number of digits
pub odd_digits : (l : List ℕ) → length l % 2 ≡ 1 → bytes_in l ≡ None
unfolding bytes_in
odd_digits [] h = absurd (omega arith)
odd_digits (a ∷ []) h = refl
odd_digits (a ∷ (b ∷ l)) h = rw (odd_digits l (omega arith)) (cond_same (ltb (value_of a) 16 && ltb (value_of b) 16) None)

-- a byte that is no digit
pub no_digits : (l : List ℕ) → all_digits l ≡ false → bytes_in l ≡ None
unfolding all_digits bytes_in
no_digits [] e = cc
no_digits (a ∷ []) e = refl
no_digits (a ∷ (b ∷ l)) e = go (ltb (value_of a) 16 && ltb (value_of b) 16) refl (no_digits l)
  where
    go : (t : Bool) → (ltb (value_of a) 16 && ltb (value_of b) 16) ≡ t → (all_digits l ≡ false → bytes_in l ≡ None) → bytes_in (a ∷ (b ∷ l)) ≡ None
    go true f rest = let r : all_digits l ≡ false = rw (← and_assoc, f) at e in rw (f, rest r)
    go false f rest = rw f

-- two digits
two_digits : (line : List ℕ) (j : ℕ) → j + 1 < length line → value_of (get_or line j 0) < 16 → value_of (get_or line (j + 1) 0) < 16
    → bytes_in (drop j line) ≡ before ((value_of (get_or line j 0) * 16 + value_of (get_or line (j + 1) 0)) ∷ []) (bytes_in (drop (j + 2) line))
unfolding bytes_in
two_digits line j h x y =
    let k : j + 2 ≡ suc (suc j) = omega arith in
    rw (k, add-one, drop-cons line j 0 (omega arith), drop-cons line (suc j) 0 (omega arith), lt-ltb _ 16 x, lt-ltb _ 16 (rw add-one at y))

-- digits, and what was read of them, its k bytes at the front of a packet
pub record Bytewise (digits packet : List ℕ) (k : ℕ) : Type 0 where
  pub all : all_digits digits ≡ true
  pub known : bytes_in digits ≡ before (take k packet) (bytes_in (drop (2 * k) digits))

-- nothing yet
pub nothing_read : {digits : List ℕ} (packet : List ℕ) → all_digits digits ≡ true → Bytewise digits packet 0
nothing_read {digits} packet d = record { all = d; known = before_nothing (bytes_in digits) }

module _ {digits packet : List ℕ} {k : ℕ} (b : Bytewise digits packet k) where
  -- all of them
  pub all_read : 2 * k ≡ length digits → Some (take k packet) ≡ bytes_in digits
  unfolding bytes_in
  all_read e = rw (b.known, e, drop-length, append-nil)

  -- the next two
  pub next_digits : 2 * k + 1 < length digits → (value_of (get_or digits (2 * k) 0) < 16) × (value_of (get_or digits (2 * k + 1) 0) < 16)
  next_digits h = (digit_in digits b.all (2 * k) (omega arith), digit_in digits b.all (2 * k + 1) h)

  -- a byte more
  pub more-read : {v : ℕ} → 2 * k + 1 < length digits → k < length packet
      → v ≡ value_of (get_or digits (2 * k) 0) * 16 + value_of (get_or digits (2 * k + 1) 0) → Bytewise digits (set packet k v) (k + 1)
  more-read {v} h m e = record {
    all = b.all;
    known =
        let n : 2 * (k + 1) ≡ 2 * k + 2 = omega arith in
        let d = next_digits h in
        rw (n, add-one, take-suc-set packet k v m, ← before-before, e)
        (b.known ∙ ap (before (take k packet)) (two_digits digits (2 * k) h d.0 d.1));
  }
