-- Laws of the coding: of a refusal; and a code read back.
use Rattle.std.specs.Prelude.{◌≡◌, ◌≤◌, ◌+◌, ◌<◌, ◌*◌, ◌≢◌, ◌^◌, ◌/◌, ◌%◌, Result, Ok, Err}
use Rattle.words.specs.Words.{arith, ℕ, refl, ◌∙◌, sym, ap, suc, zero, subst, ap₂, lit<, min}
use Rattle.words.specs.Words.{Bool, true, false, cond}
use lib.IntN.{ℤ, pos, negsuc, neg_ℤ, nat_abs, ◌-ℤ◌, +ℤ_idl}
use mir.Syntax.{w64}
use lib.Signed.{mag}
use mir.Val.{to_z, of_z}
use mir.Facts.{to_z_pos, to_z-of_z}
use Rattle.wire.specs.declared.Refusal.{Refusal}
use Rattle.wire.specs.declared.Refusal.TheVariants.{Values, Short, Unopened, Long, Form, Range, Empty, Behind, Ahead, Draws, Contradiction, Unknown, NoStart}
use Rattle.wire.specs.declared.Refusal.TheVariants.{Padding, Unannounced, Grid, Block}
use Rattle.wire.specs.Numbers.{number_of}
use Rattle.latency.specs.Window.{dividend, divisor}
use Rattle.latency.specs.Promises.{Division, WindowAnswered}
use Rattle.wire.specs.Answers.{Said, value, refusal}
use Rattle.coding.specs.Coding.{largest, coded, symbol_said, window_said, remainder_after, Readable}

-- The number that an inner function gave, handed on.
pub handed : {z w : ℤ} → mag z < 2 ^ 63 → z ≡ w → to_z w64 (of_z w64 z) ≡ w
handed fits e = to_z-of_z {w = w64} (record { sfits = fits }) ∙ e

-- A number that codes what an answer's case says codes what the answer says.
pub coded_case : {A : Type 0} (said : A → Said) {a b : A} {z : ℤ} → mag z < 2 ^ 63 → a ≡ b → z ≡ coded (said b) → to_z w64 (of_z w64 z) ≡ coded (said a)
coded_case said fits e h = handed fits h ∙ ap (λ x. coded (said x)) (sym e)

-- A number taken from 0 is the code of the refusal with that number, and has 63 bits and a sign.
pub negated : (n : ℕ) → n < 2 ^ 63 → to_z w64 0 -ℤ to_z w64 n ≡ coded (refusal n)
negated n h = ap₂ ◌-ℤ◌ (to_z_pos w64 (lit< tt)) (to_z_pos w64 h) ∙ +ℤ_idl (neg_ℤ (pos n))

refusal_small : (n : ℕ) → n < 2 ^ 63 → mag (coded (refusal n)) < 2 ^ 63
refusal_small zero h = h
refusal_small (suc n) h = omega arith

pub negated_fits : (n : ℕ) → n < 2 ^ 63 → mag (to_z w64 0 -ℤ to_z w64 n) < 2 ^ 63
negated_fits n h = rw (negated n h) (refusal_small n h)

-- ---- reading a code back

abbrev NotNegative : ℤ → Type 0
NotNegative (pos n) = Unit {0}
NotNegative (negsuc n) = ⊥

refusal_negative : (why : Refusal) → NotNegative (coded (refusal (number_of why))) → ⊥
refusal_negative Values n = n
refusal_negative Short n = n
refusal_negative Unopened n = n
refusal_negative Long n = n
refusal_negative Form n = n
refusal_negative Range n = n
refusal_negative Empty n = n
refusal_negative Behind n = n
refusal_negative Ahead n = n
refusal_negative Draws n = n
refusal_negative Contradiction n = n
refusal_negative Unknown n = n
refusal_negative NoStart n = n
refusal_negative Padding n = n
refusal_negative Unannounced n = n
refusal_negative Grid n = n
refusal_negative Block n = n

refusal_size : (n : ℕ) → nat_abs (coded (refusal n)) ≡ n
refusal_size zero = refl
refusal_size (suc n) = refl

pub readable : Readable
readable = record {
  apart = apart;
  refusals = λ n k e. sym (refusal_size n) ∙ ap nat_abs e ∙ refusal_size k;
  values = λ n k a b e. let f : min n largest ≡ min k largest = ap nat_abs e in omega (arith, f, a, b);
  adus = λ flow L k a b e. let f : min (flow * 65536 + L) largest ≡ k = ap nat_abs e in (omega (arith, f, a, b), omega (arith, f, a, b));
  draws = λ n d k a b e. let f : min (n + 4294967296 * d) largest ≡ k = ap nat_abs e in (omega (arith, f, a, b), omega (arith, f, a, b));
  symbols = symbols;
  windows = windows;
  kept = kept;
}
  where
    apart : (n k : ℕ) → 1 ≤ k → coded (value n) ≢ coded (refusal k)
    apart n zero l e = absurd (omega (arith, l))
    apart n (suc k) l e = subst NotNegative e tt

    symbols : (heard : Bool) (k : ℕ) → coded (symbol_said (Ok heard)) ≡ pos k → (k % 4294967296 ≡ 0) × (k / 4294967296 ≡ cond heard 1 0)
    symbols false k e = let f : 0 ≡ k = ap nat_abs e in (omega (arith, f), omega (arith, f))
    symbols true k e = let f : 4294967296 ≡ k = ap nat_abs e in (omega (arith, f), omega (arith, f))

    windows : (budget bitrate E : ℕ) (a : Result (ℕ × ℕ) Refusal) (k before : ℕ) → WindowAnswered budget bitrate E a → coded (window_said a) ≡ pos k
        → Division (dividend budget bitrate) (divisor E) k (remainder_after a before)
    windows budget bitrate E (Ok (q, r)) k before w e =
        let f : min q largest ≡ k = ap nat_abs e in
        let same : q ≡ k = omega (arith, f, (w.small q r refl).0) in
        subst (λ x. Division (dividend budget bitrate) (divisor E) x r) same ((w.divided q r).0 refl).1
    windows budget bitrate E (Err why) k before w e = absurd (refusal_negative why (subst NotNegative (sym e) tt))

    kept : (a : Result (ℕ × ℕ) Refusal) (k before : ℕ) → 1 ≤ k → coded (window_said a) ≡ coded (refusal k) → remainder_after a before ≡ before
    kept (Ok (q, r)) k before l e = absurd (apart q k l e)
    kept (Err why) k before l e = refl
