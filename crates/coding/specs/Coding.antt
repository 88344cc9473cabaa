-- How the exported functions code what a call says as one signed number: a value is itself, 0 or more, and a refusal is minus its number.
use Rattle.std.specs.Prelude.{◌≡◌, ◌≤◌, ◌+◌, ◌<◌, ◌%◌, ◌*◌, ◌≢◌, ◌/◌, ℤ, pos, neg_ℤ, Result, Ok, Err}
use Rattle.words.specs.Words.{ℕ, Bool, cond, min}
use Rattle.wire.specs.Numbers.{number_of}
use Rattle.wire.specs.Packets.{longest_adu}
use Rattle.latency.specs.Window.{dividend, divisor}
use Rattle.latency.specs.Promises.{Division, WindowAnswered}
use Rattle.wire.specs.Answers.{Said, value, refusal}
use Rattle.receiver.specs.Promises.{handed_said}
use Rattle.wire.specs.declared.Refusal.{Refusal}

-- The largest number of 64 bits with a sign.
abbrev pub largest : ℕ
largest = 9223372036854775807

-- The coding. A value past the largest number, more than the bytes of any memory, stands as that one.
abbrev pub coded : Said → ℤ
coded (value n) = pos (min n largest)
coded (refusal n) = neg_ℤ (pos n)

-- A value and the draws beside it, as one value: 2^32 times the draws, and the value.
abbrev pub with_draws : (n draws : ℕ) → Said
with_draws n draws = value (n + 4294967296 * draws)

-- What a packet call and making repair answer, which is the same.
abbrev pub packet_said : Result (ℕ × ℕ) Refusal → Said
packet_said (Ok (n, draws)) = with_draws n draws
packet_said (Err r) = refusal (number_of r)

abbrev pub repair_said : Result (ℕ × ℕ) Refusal → Said
repair_said a = packet_said a

-- What the symbol call answers: 0, and 2^32 more where the position is heard.
abbrev pub symbol_said : Result Bool Refusal → Said
symbol_said (Ok heard) = value (4294967296 * cond heard 1 0)
symbol_said (Err r) = refusal (number_of r)

-- What the call for the window answers as a number, and what it leaves where the remainder goes: a refusal leaves what was there.
abbrev pub window_said : Result (ℕ × ℕ) Refusal → Said
window_said (Ok (q, r)) = value q
window_said (Err why) = refusal (number_of why)

abbrev pub remainder_after : Result (ℕ × ℕ) Refusal → ℕ → ℕ
remainder_after (Ok (q, r)) before = r
remainder_after (Err why) before = before

-- A code is read back: no refusal has the code of a value, and neither two refusals nor two values up to the largest number share one.
-- The code of an ADU, divided by 65,536, is its flow, and the remainder its length; that of a value with draws, divided by 2^32, is the draws, and the
-- remainder the value, where both are as small as the promises say; that of a known symbol, divided by 2^32, is 1 for one heard, else 0, and the remainder 0.
-- Where the call for the window answers a value, that and what it leaves where the remainder goes are quotient and remainder of the division; where it
-- answers a refusal, what was there is left.
pub record Readable : Type 0 where
  pub apart : (n k : ℕ) → 1 ≤ k → coded (value n) ≢ coded (refusal k)
  pub refusals : (n k : ℕ) → coded (refusal n) ≡ coded (refusal k) → n ≡ k
  pub values : (n k : ℕ) → n ≤ largest → k ≤ largest → coded (value n) ≡ coded (value k) → n ≡ k
  pub adus : (flow L k : ℕ) → flow < 256 → L ≤ longest_adu → coded (handed_said (Ok (flow, L))) ≡ pos k → (flow ≡ k / 65536) × (L ≡ k % 65536)
  pub draws : (n d k : ℕ) → n ≤ 65535 → d ≤ 69360 → coded (with_draws n d) ≡ pos k → (n ≡ k % 4294967296) × (d ≡ k / 4294967296)
  pub symbols : (heard : Bool) (k : ℕ) → coded (symbol_said (Ok heard)) ≡ pos k → (k % 4294967296 ≡ 0) × (k / 4294967296 ≡ cond heard 1 0)
  pub windows : (budget bitrate E : ℕ) (a : Result (ℕ × ℕ) Refusal) (k before : ℕ) → WindowAnswered budget bitrate E a → coded (window_said a) ≡ pos k
      → Division (dividend budget bitrate) (divisor E) k (remainder_after a before)
  pub kept : (a : Result (ℕ × ℕ) Refusal) (k before : ℕ) → 1 ≤ k → coded (window_said a) ≡ coded (refusal k) → remainder_after a before ≡ before

-- The number r codes what an answer says, and the promise holds of that answer.
pub record Codes {A : Type 0} (said : A → Said) (Promise : A → Type 0) (r : ℤ) : Type 0 where
  pub answer : A
  pub number : r ≡ coded (said answer)
  pub promise : Promise answer
