-- The definition's answer is that of the division.
use Rattle.std.specs.Prelude.{◌≡◌, ◌≤◌, ◌<◌, ◌%◌, ◌*◌, ◌/◌, ◌↔◌, Result, Ok, Err}
use Rattle.words.specs.Words.{arith, ℕ, refl, ◌∙◌, sym, ap, true, false, Bool, mod-lt, add-zero, mod-eq_of_lt, true≢false}
use Rattle.words.specs.Words.{mul-le-mul}
use native.Mathlib.Nat.{mul-le-mul_left, mul-add-div_right, mul-add-mod_self_right, div-add-mod', div-eq_of_lt, le-div_iff_mul-le}
use Rattle.wire.specs.Numbers.{within}
use Rattle.wire.proofs.Settings.{both, within_bounds}
use Rattle.latency.specs.Window.{dividend, divisor, allowed, divided, refused, window_in, window_of}
use Rattle.latency.specs.Inner.{Bounds}
use Rattle.latency.specs.Promises.{Division, WindowAnswered}
use Rattle.wire.specs.declared.Refusal.{Refusal}

-- ---- any division

pub division : (n : ℕ) {d : ℕ} → 0 < d → Division n d (n / d) (n % d)
division n p = record { whole = sym (div-add-mod' n _); rest = mod-lt n p }

pub division_only : {n d q r : ℕ} → Division n d q r → (n / d ≡ q) × (n % d ≡ r)
division_only {n} {d} {q} {r} h =
    let p : 0 < d = omega (arith, h.rest) in
    (rw (h.whole, mul-add-div_right p q r, div-eq_of_lt h.rest, add-zero), rw (h.whole, mul-add-mod_self_right q d r, mod-eq_of_lt h.rest))

-- ---- allowed values

pub bounds : (budget bitrate E : ℕ) → allowed budget bitrate E ≡ true → Bounds budget bitrate E
bounds budget bitrate E a =
    let (b, rest) = both (within 1 _ budget) _ a in
    let (c, e) = both (within 1 10000000000 bitrate) (within 4 1500 E) rest in
    let size = within_bounds 4 1500 E e in
    record {
      dividend_most = mul-le-mul (within_bounds 1 _ budget b).1 (within_bounds 1 10000000000 bitrate c).1;
      size_least = size.0;
      size_most = size.1;
    }

-- ---- the promise

-- An answer that says two numbers is these.
only_divided : (answer : Result (ℕ × ℕ) Refusal) (q r : ℕ) → window_in answer ≡ divided q r → answer ≡ Ok (q, r)
only_divided (Ok (q', r')) q r e =
    let i : q' ≡ q = cc in
    let j : r' ≡ r = cc in
    rw (i, j)
only_divided (Err why) q r e = let z : ◌≡◌ {A = ℕ} 0 1 = cc in absurd (omega arith)

module _ (budget bitrate E : ℕ) (answer : Result (ℕ × ℕ) Refusal) (outright : window_in answer ≡ window_of budget bitrate E) where
  abbrev n : ℕ
  n = dividend budget bitrate

  abbrev d : ℕ
  d = divisor E

  given : (q r : ℕ) → answer ≡ Ok (q, r) → (allowed budget bitrate E ≡ true) × Division n d q r
  given q r e = go (allowed budget bitrate E) refl
    where
      go : (b : Bool) → allowed budget bitrate E ≡ b → (allowed budget bitrate E ≡ true) × Division n d q r
      go true a =
          let b = bounds budget bitrate E a in
          let f : divided (n / d) (n % d) ≡ divided q r = rw a at (sym outright ∙ ap window_in e) in
          let i : n / d ≡ q = cc in
          let j : n % d ≡ r = cc in
          (a, rw (← i, ← j) (division n (omega arith)))
      go false a =
          let f : refused 1 ≡ divided q r = rw a at (sym outright ∙ ap window_in e) in
          let i : true ≡ false = cc in
          absurd (true≢false i)

  back : (q r : ℕ) → (allowed budget bitrate E ≡ true) × Division n d q r → answer ≡ Ok (q, r)
  back q r h =
      let (i, j) = division_only h.1 in
      only_divided answer q r (outright ∙ rw (h.0, i, j))

  most : (q r w : ℕ) → answer ≡ Ok (q, r) → (w ≤ q) ↔ (w * d ≤ n)
  most q r w e =
      let v = (given q r e).1 in
      let p : 0 < d = omega (arith, v.rest) in
      rw (← (division_only v).0) (le-div_iff_mul-le p)

  small : (q r : ℕ) → answer ≡ Ok (q, r) → (q ≤ 3125000000) × (r < 12000000000)
  small q r e =
      let (a, v) = given q r e in
      let b = bounds budget bitrate E a in
      let m : q * 32000000 ≤ q * d = mul-le-mul_left q (omega arith) in
      (omega (arith, v.whole, b.dividend_most), omega (arith, v.rest))

  pub window_answered : WindowAnswered budget bitrate E answer
  window_answered = record { outright = outright; divided = λ q r. (given q r, back q r); most = most; small = small }
