-- The largest size of the decoding window (RFC 8681, appendix C.1): dw_max_size = (max_lat * br_in) / (8 * E), with the latency budget max_lat in seconds and
-- the input bitrate br_in in bits per second. Here the budget is in microseconds (document 02, No. 3), so dividend and divisor are in millionths of a bit.
use Rattle.std.specs.Prelude.{◌%◌, ◌*◌, ◌/◌, ◌&&◌, Result, Ok, Err}
use Rattle.words.specs.Words.{ℕ, Bool, cond}
use Rattle.wire.specs.Numbers.{within, number_of}
use Rattle.wire.specs.declared.Refusal.{Refusal}

-- the bits that come in within the budget, in millionths
abbrev pub dividend : (budget bitrate : ℕ) → ℕ
dividend budget bitrate = budget * bitrate

-- the bits of a symbol, in millionths
abbrev pub divisor : (E : ℕ) → ℕ
divisor E = 8 * E * 1000000

-- all three values are allowed
abbrev pub allowed : (budget bitrate E : ℕ) → Bool
allowed budget bitrate E = within 1 10000000 budget && (within 1 10000000000 bitrate && within 4 1500 E)

-- what the call says: quotient and remainder, or the number of a refusal
pub data Window : Type 0 where
  divided : (quotient remainder : ℕ) → Window
  refused : ℕ → Window

-- what an answer says
abbrev pub window_in : Result (ℕ × ℕ) Refusal → Window
window_in (Ok (q, r)) = divided q r
window_in (Err why) = refused (number_of why)

-- the quotient and the remainder, or refusal 1
abbrev pub window_of : (budget bitrate E : ℕ) → Window
window_of budget bitrate E =
    let n = dividend budget bitrate in
    let d = divisor E in
    cond (allowed budget bitrate E) (divided (n / d) (n % d)) (refused 1)
