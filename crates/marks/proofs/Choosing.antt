-- Any marks can be had: a memory that has them, and is as it was but for marks.
use Rattle.std.specs.Prelude.{◌≡◌, ◌≤◌, ◌+◌, ◌<◌, ◌%◌, ◌≢◌}
use Rattle.words.specs.Words.{arith, ℕ, List, length, refl, ◌∙◌, sym, ap, suc, true, zero, get_or, false, Bool, cond, ltb, mod-lt}
use Rattle.words.specs.Words.{ℕ_discrete, dec_lt, set}
use Rattle.table.specs.Window.{row_offset}
use Rattle.table.proofs.Offsets.{header-long}
use Rattle.starts.specs.Starts.{Starts}
use Rattle.marks.specs.Marks.{mark_at, Marks, OnlyMarks, noted_in, OnlyStarts}
use Rattle.marks.specs.MarkSteps.{mark_byte}
use Rattle.marks.proofs.Only.{flag-inside, mark_row, mark_past, mark_apart, only_refl, only_trans, starts-of, starts_trans}
use Rattle.marks.proofs.Marking.{written, written-only}
use Rattle.marks.proofs.Passing.{noted_byte, noted_only, noted_marks}

module _ (w E oldest : ℕ) (M : Starts) (pos : 0 < w) where
  -- A mark lies in the memory.
  mark_inside : (i : ℕ) (m : List ℕ) → row_offset w E w ≤ length m → mark_at w E oldest i < length m
  mark_inside i m h = go (dec_lt i w)
    where
      go : Dec (i < w) → mark_at w E oldest i < length m
      go (yes a) =
          let r = (oldest + i) % w in
          omega (arith, mark_row w E oldest i r a refl, flag-inside w E r (mod-lt (oldest + i) pos))
      go (no a) = omega (arith, header-long, mark_past w E oldest i (omega arith))

  -- The first n positions are marked so.
  record Chosen (n : ℕ) (m m' : List ℕ) : Type 0 where
    only : OnlyMarks w E m m'
    marks : (i : ℕ) → i < n → mark_byte w E oldest m' i ≡ cond (M i) 1 0

  chosen : (n : ℕ) (m : List ℕ) → n ≤ suc w → row_offset w E w ≤ length m → (m' : List ℕ) × Chosen n m m'
  chosen zero m l h = (m, record { only = only_refl; marks = λ i k. absurd (omega arith) })
  chosen (suc n) m l h =
      let (m', c) = chosen n m (omega arith) h in
      let at = mark_at w E oldest n in
      let v : ℕ = cond (M n) 1 0 in
      let f = written w E oldest n v at m' refl (mark_inside n m' (omega (arith, h, c.only.size))) in (
        set m' at v,
        record {
          only = only_trans c.only (written-only pos f);
          marks = λ i k. go m' (set m' at v) f.here f.rest c.marks i k (ℕ_discrete i n);
        },
      )
    where
      go : (m₁ m₂ : List ℕ) → mark_byte w E oldest m₂ n ≡ cond (M n) 1 0 → ((k : ℕ) → k ≢ mark_at w E oldest n → get_or m₂ k 0 ≡ get_or m₁ k 0)
          → ((i : ℕ) → i < n → mark_byte w E oldest m₁ i ≡ cond (M i) 1 0) → (i : ℕ) → i < suc n → Dec (i ≡ n)
          → mark_byte w E oldest m₂ i ≡ cond (M i) 1 0
      go m₁ m₂ here rest before i k (yes e) = ap (mark_byte w E oldest m₂) e ∙ here ∙ ap (λ j. cond (M j) 1 0) (sym e)
      go m₁ m₂ here rest before i k (no d) = rest (mark_at w E oldest i) (mark_apart w E oldest i n (omega arith) (omega arith) d) ∙ before i (omega arith)

  pub with_marks : (m : List ℕ) → row_offset w E w ≤ length m → (m' : List ℕ) × OnlyMarks w E m m' × Marks w E oldest m' M
  with_marks m h =
      let (m', c) = chosen (suc w) m (omega arith) h in
      (m', c.only, λ i l. ap (ltb 0) (c.marks i (omega arith)) ∙ test (M i))
    where
      test : (b : Bool) → ltb 0 (cond b 1 0) ≡ b
      test true = refl
      test false = refl

  -- And an end past the window is noted.
  pub with-starts : (m : List ℕ) → row_offset w E w ≤ length m → (m' : List ℕ) × OnlyStarts w E m m' × Marks w E oldest m' M × (noted_in m' ≡ 1)
  with-starts m h =
      let (m', only, marks) = with_marks m h in
      let f = noted_byte 1 m' (omega (arith, header-long, h, only.size)) in
      (set m' 11 1, starts_trans (starts-of only) (noted_only f), noted_marks w E oldest 1 m' (set m' 11 1) M pos f marks, f.here)
