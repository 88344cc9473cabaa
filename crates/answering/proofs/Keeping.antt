-- The bytes that are kept of a line that has not ended.
use Rattle.std.specs.Prelude.{◌≡◌, ◌≤◌, ◌+◌, ◌<◌, ◌++◌}
use Rattle.words.specs.Words.{arith, ℕ, List, length, refl, ◌∙◌, ap, [], take, length-append}
use Rattle.lines.specs.Forms.{longest}
use Rattle.records.specs.Standing.{Kept}

-- too many bytes stay too many
pub kept_over : {have : ℕ} {line : List ℕ} (line' q bytes : List ℕ) → Kept have line q → longest < have + length bytes
    → Kept (longest + 1) line' (q ++ bytes)
kept_over line' q bytes k h = record {
  count = rw length-append (omega (arith, k.count));
  bytes = λ g. absurd (omega (arith, k.count, length-append q bytes));
}

-- bytes that fit
pub kept_more : (have : ℕ) (line line' q bytes : List ℕ) → Kept have line q → have + length bytes ≤ longest
    → take (have + length bytes) line' ≡ take have line ++ bytes → Kept (have + length bytes) line' (q ++ bytes)
kept_more have line line' q bytes k h e = record {
  count = rw length-append (omega (arith, k.count));
  bytes = λ l. e ∙ ap (λ (x : List ℕ). x ++ bytes) (k.bytes (omega (arith, k.count)));
}

-- none are kept at first
pub kept_none : (line : List ℕ) → Kept 0 line []
kept_none line = record { count = omega arith; bytes = λ h. refl }

-- all bytes of a line that is not too long are kept
pub kept_line : (have : ℕ) (line l : List ℕ) → Kept have line l → have ≤ longest → take have line ≡ l
kept_line have line l k h = k.bytes (omega (arith, k.count))

pub kept_long : (have : ℕ) (line l : List ℕ) → Kept have line l → longest < have → longest < length l
kept_long have line l k h = omega (arith, k.count)

pub kept_short : (have : ℕ) (line l : List ℕ) → Kept have line l → have ≤ longest → length l ≤ longest
kept_short have line l k h = omega (arith, k.count)
