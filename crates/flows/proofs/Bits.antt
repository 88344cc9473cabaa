-- Bits of a byte, and what setting one does to the flows that are announced.
-- Index
--   every, at: a test that holds of every number under n
--   all_announced: the bytes that are all 255
--   or_bit, mask_bit, bit_set: a bit of an or, and of a byte with one bit set
--   same_byte, one_more: the flow's bit was set
use Rattle.std.specs.Prelude.{◌≡◌, ◌<◌, ◌%◌, ◌*◌, ◌^◌, ◌/◌, ◌&&◌, ◌||◌}
use Rattle.words.specs.Words.{arith, ℕ, List, length, refl, ◌∙◌, sym, ap, suc, true, zero, get_or, false, Bool, cond, max, set, eqb}
use Rattle.words.specs.Words.{not-suc-le-zero, ℕ_discrete, eqb-true, eq-eqb, ne_eqb}
use lib.Bits.{bit_or, or_step, or_shr}
use lib.Seq.{get_or-set_same, get_or-set_other}
use Rattle.wire.specs.Flows.{announced, all_flows}
use Rattle.wire.proofs.Settings.{both}
use Rattle.flows.specs.Promises.{Announces}

-- ---- tests

abbrev every : ℕ → (ℕ → Bool) → Bool
every zero f = true
every (suc n) f = f n && every n f

at : (n : ℕ) (f : ℕ → Bool) → every n f ≡ true → (i : ℕ) → i < n → f i ≡ true
at zero f e i h = absurd (not-suc-le-zero h)
at (suc n) f e i h = let b = both (f n) (every n f) e in go (ℕ_discrete i n) b.0 (at n f b.1 i)
  where
    go : Dec (i ≡ n) → f n ≡ true → (i < n → f i ≡ true) → f i ≡ true
    go (yes q) a r = rw q a
    go (no q) a r = r (omega arith)

-- every flow is announced by the bytes that are all 255
pub all_announced : (F : ℕ) → F < 256 → announced all_flows F ≡ true
unfolding announced
all_announced = at 256 (announced all_flows) refl

-- ---- bits

or_bit : (a b j : ℕ) → bit_or a b / 2 ^ j % 2 ≡ max (a / 2 ^ j % 2) (b / 2 ^ j % 2)
or_bit a b j =
    let x = a / 2 ^ j in
    let y = b / 2 ^ j in
    ap (λ n. n % 2) (or_shr a b j) ∙ omega (arith, or_step x y)

-- bit j of a byte whose bit k alone is set
mask_bit : (j k : ℕ) → j < 8 → k < 8 → 1 * 2 ^ k % 256 / 2 ^ j % 2 ≡ cond (eqb j k) 1 0
mask_bit j k h i = eqb-true _ _ (at 8 (right j) (at 8 (λ x. every 8 (right x)) refl j h) k i)
  where
    right : ℕ → ℕ → Bool
    right x y = eqb (1 * 2 ^ y % 256 / 2 ^ x % 2) (cond (eqb x y) 1 0)

-- a bit is 1 after an or exactly when it is set or was 1
bit_set : (x : ℕ) → x < 2 → (b : Bool) → eqb (max x (cond b 1 0)) 1 ≡ (b || eqb x 1)
bit_set x h true = eq-eqb (max x 1) 1 (omega arith)
bit_set x h false = let e : max x 0 ≡ x = omega arith in ap (λ n. eqb n 1) e

-- two flows of one byte are equal exactly when their bits are
same_byte : (F G : ℕ) → F / 8 ≡ G / 8 → eqb F G ≡ eqb (F % 8) (G % 8)
same_byte F G e = go (ℕ_discrete (F % 8) (G % 8))
  where
    go : Dec (F % 8 ≡ G % 8) → eqb F G ≡ eqb (F % 8) (G % 8)
    go (yes q) = eq-eqb F G (omega arith) ∙ sym (eq-eqb (F % 8) (G % 8) q)
    go (no q) = ne_eqb F G (λ i. q (ap (λ n. n % 8) i)) ∙ sym (ne_eqb (F % 8) (G % 8) q)

module _ (flow : ℕ) (flows : List ℕ) where
  -- the byte whose bit is the flow's alone, and the flow's byte
  abbrev mask : ℕ
  mask = 1 * 2 ^ (flow % 8) % 256

  abbrev byte : ℕ
  byte = get_or flows (flow / 8) 0

  pub one_more : flow / 8 < length flows → Announces flow flows (set flows (flow / 8) (bit_or byte mask))
  unfolding announced
  one_more h F k = go (ℕ_discrete (F / 8) (flow / 8))
    where
      go : Dec (F / 8 ≡ flow / 8)
          → eqb (get_or (set flows (flow / 8) (bit_or byte mask)) (F / 8) 0 / 2 ^ (F % 8) % 2) 1 ≡ (eqb F flow || eqb (get_or flows (F / 8) 0 / 2 ^ (F % 8) % 2) 1)
      go (yes e) =
          let m = mask_bit (F % 8) (flow % 8) (omega arith) (omega arith) in
          rw (e, get_or-set_same flows (flow / 8) (bit_or byte mask) 0 h, or_bit byte mask (F % 8), m, same_byte F flow e)
          (bit_set (byte / 2 ^ (F % 8) % 2) (omega arith) (eqb (F % 8) (flow % 8)))
      go (no n) = rw (get_or-set_other flows (flow / 8) (F / 8) (bit_or byte mask) 0 n, ne_eqb F flow (λ e. n (ap (λ x. x / 8) e)))
