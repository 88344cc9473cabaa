-- A product in GF(2^8) is the sum of the multiples of one factor that the binary digits of the other choose.
use Rattle.std.specs.Prelude.{◌≡◌, ◌≤◌, ◌+◌, ◌<◌, ◌-◌, ◌%◌, ◌∷◌, ◌*◌, ◌^◌, ◌/◌}
use Rattle.words.specs.Words.{arith, ℕ, List, refl, ◌∙◌, sym, ap, [], suc, zero, ap₂, bit_xor, zero-mul}
use Rattle.words.specs.Words.{xor_zero_r, one-mul, xor_comm, dec_lt, add-one, drop, drop-cons, get_or, length}
use Rattle.std.proofs.lemmas.List.{drop_all}
use native.Mathlib.Nat.{pow-suc}
use lib.Bits.{xor_shifted}
use Rattle.field.specs.Gf256.{product, times, remainder}
use Rattle.field.specs.Powers.{power}
use Rattle.field.specs.Tables.{doublings}
use Rattle.field.proofs.Xor.{split_digit, xor_assoc}
use Rattle.field.proofs.Polynomial.{remainder-times, remainder_id, remainder-xor}
use Rattle.field.proofs.Binary.{product_selects}
use Rattle.field.proofs.Laws.{product_lt, product_comm, product_assoc, product-sum, product-zero_right}

times-two : (s : ℕ) → times 2 s ≡ s * 2
unfolding times
times-two s = simp (zero-mul, one-mul, xor_zero_r)

-- c (2 s) = (2 c) s
pub product_double : (c s : ℕ) → product c (s * 2) ≡ product (product 2 c) s
unfolding product
product_double c s =
    ap (λ (x : ℕ). remainder (times c x)) (sym (times-two s)) ∙ sym (remainder-times c (times 2 s))
    ∙ sym (product_assoc c 2 s) ∙ ap (λ (x : ℕ). product x s) (product_comm c 2)

-- the last digit of s, and the digits above it
pub product-digit : (c s : ℕ) → c < 256 → product c s ≡ bit_xor (s % 2 * c) (product (product 2 c) (s / 2))
product-digit c s h =
    product_comm c s ∙ ap (λ (x : ℕ). product x c) (sym (split_digit s)) ∙ product-sum (s % 2) (s / 2 * 2) c
    ∙ ap₂ bit_xor (product_selects (s % 2) c (omega arith) h) (product_comm (s / 2 * 2) c ∙ product_double c (s / 2))

-- the sum of the elements of a list at whose place, counted from 0, s has the binary digit 1
unfoldable pub chosen : List ℕ → ℕ → ℕ
chosen [] s = 0
chosen (m ∷ l) s = bit_xor (s % 2 * m) (chosen l (s / 2))

pub chosen_product : (n c s : ℕ) → c < 256 → s < 2 ^ n → chosen (doublings n c) s ≡ product c s
unfolding chosen doublings
chosen_product zero c s h l = let z : s ≡ 0 = omega arith in rw z (sym (product-zero_right c))
chosen_product (suc n) c s h l =
    ap (bit_xor (s % 2 * c)) (chosen_product n (product 2 c) (s / 2) (product_lt 2 c) (omega (arith, pow-suc 2 n))) ∙ sym (product-digit c s h)

-- one digit taken: what is summed, and what the other digits choose
pub chosen_more : (l : List ℕ) (i sum s : ℕ) → i < length l
    → bit_xor (bit_xor sum (s % 2 * get_or l i 0)) (chosen (drop (i + 1) l) (s / 2)) ≡ bit_xor sum (chosen (drop i l) s)
unfolding chosen
chosen_more l i sum s h =
    let e : drop i l ≡ get_or l i 0 ∷ drop (i + 1) l = rw add-one (drop-cons l i 0 h) in
    rw e (xor_assoc sum (s % 2 * get_or l i 0) (chosen (drop (i + 1) l) (s / 2)))

-- all digits taken
pub chosen_all : (l : List ℕ) (i sum s : ℕ) → length l ≤ i → sum ≡ bit_xor sum (chosen (drop i l) s)
unfolding chosen
chosen_all l i sum s h = rw (drop_all i l h) (sym (xor_zero_r sum))

-- the powers from e + k on, one by one
doublings-power : (n e k : ℕ) → doublings (suc n) (power (e + k)) ≡ power (e + k) ∷ doublings n (power (e + (k + 1)))
unfolding doublings power
doublings-power n e k = let q : e + (k + 1) ≡ suc (e + k) = omega arith in rw q

-- eight powers from e on are the doublings of the first
pub eight_powers : (e : ℕ)
    → power e ∷ power (e + 1) ∷ power (e + 2) ∷ power (e + 3) ∷ power (e + 4) ∷ power (e + 5) ∷ power (e + 6) ∷ power (e + 7) ∷ []
    ≡ doublings 8 (power e)
unfolding doublings
eight_powers e =
    let d = doublings-power in
    let z : e + 0 ≡ e = omega arith in
    cc (z, d 7 e 0, d 6 e 1, d 5 e 2, d 4 e 3, d 3 e 4, d 2 e 5, d 1 e 6)

-- ---- twice a byte: shifted, less the modulus if that reaches 256

pub twice_low : (x : ℕ) → x < 128 → x * 2 ≡ product 2 x
unfolding product
twice_low x h = sym (ap remainder (times-two x) ∙ remainder_id (x * 2) (omega arith))

pub twice_high : (x : ℕ) → 128 ≤ x → x < 256 → bit_xor ((x - 128) * 2) 29 ≡ product 2 x
unfolding product
twice_high x h l =
    let y = (x - 128) * 2 in
    let e : 256 + y ≡ x * 2 = omega arith in
    let m : remainder 256 ≡ 29 = unfold remainder in refl in
    xor_comm y 29 ∙ ap₂ bit_xor (sym m) (sym (remainder_id y (omega arith))) ∙ sym (remainder-xor 256 y)
    ∙ ap remainder (xor_shifted 1 8 y (omega arith) ∙ e ∙ sym (times-two x))

-- without a case: what passes degree 7 comes back as 29
pub twice : (x : ℕ) → x < 256 → bit_xor (x % 128 * 2) (x / 128 % 2 * 29) ≡ product 2 x
twice x h = go (dec_lt x 128)
  where
    go : Dec (x < 128) → bit_xor (x % 128 * 2) (x / 128 % 2 * 29) ≡ product 2 x
    go (yes l) =
        let low : x % 128 ≡ x = omega arith in
        let none : x / 128 % 2 ≡ 0 = omega arith in
        rw (low, none, zero-mul) (xor_zero_r (x * 2) ∙ twice_low x l)
    go (no l) =
        let high : x % 128 ≡ x - 128 = omega arith in
        let one : x / 128 % 2 ≡ 1 = omega arith in
        rw (high, one, one-mul) (twice_high x (omega arith) h)
