-- What the call promises: its answer outright, and that this is the answer of the division.
use Rattle.std.specs.Prelude.{◌≡◌, ◌≤◌, ◌+◌, ◌<◌, ◌*◌, ◌↔◌, Result, Ok}
use Rattle.words.specs.Words.{ℕ, true}
use Rattle.latency.specs.Window.{dividend, divisor, allowed, window_in, window_of}
use Rattle.wire.specs.declared.Refusal.{Refusal}

-- n divided by d is q, and r is left over
pub record Division (n d q r : ℕ) : Type 0 where
  pub whole : n ≡ q * d + r
  pub rest : r < d

pub record WindowAnswered (budget bitrate E : ℕ) (answer : Result (ℕ × ℕ) Refusal) : Type 0 where
  -- what the answer says, outright
  pub outright : window_in answer ≡ window_of budget bitrate E
  -- Two numbers are given exactly where the three values are allowed and they are those of the division.
  pub divided : (q r : ℕ)
      → (answer ≡ Ok (q, r)) ↔ ((allowed budget bitrate E ≡ true) × Division (dividend budget bitrate) (divisor E) q r)
  -- The quotient is the most: w times the bits of a symbol come in within the budget exactly where w is at most the quotient.
  pub most : (q r w : ℕ) → answer ≡ Ok (q, r) → (w ≤ q) ↔ (w * divisor E ≤ dividend budget bitrate)
  -- Both numbers are small: of at most 32 and 34 bits.
  pub small : (q r : ℕ) → answer ≡ Ok (q, r) → (q ≤ 3125000000) × (r < 12000000000)
