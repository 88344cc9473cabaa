-- The bytes of the symbols from a position on, one after the other: where they lie in the memory, and that they are what the window knows.
use Rattle.std.specs.Prelude.{◌≡◌, ◌≤◌, ◌+◌, ◌<◌, ◌-◌, ◌%◌, ◌∷◌, ◌*◌, ◌++◌, ◌↔◌, ◌&&◌}
use Rattle.words.specs.Words.{arith, ℕ, List, length, refl, ◌∙◌, sym, ap, [], Some, suc, true, zero, None, get_or, false}
use Rattle.words.specs.Words.{Bool, Option, drop, take, ap₂, eqb, mod-lt, ℕ_discrete, add-zero, length-append, ne_eqb, not-suc-le-zero, eq-eqb}
use Rattle.words.specs.Words.{true≢false, le_of_suc-le-suc, zero-mul, length-drop, eqb-true, suc-mul, take_all, get_or-append}
use lib.Seq.{drop-append-add}
use Rattle.memory.specs.Part.{part}
use Rattle.memory.specs.Number.{number}
use Rattle.memory.proofs.Parts.{length_part, part-part, get_or-part, row_fits}
use Rattle.wire.proofs.Settings.{both}
use Rattle.table.specs.Window.{stride, row_offset, Fits}
use Rattle.table.specs.RowSteps.{ZeroFrom}
use Rattle.table.proofs.Offsets.{flags_fit}
use Rattle.starts.proofs.Packing.{part_front}
use Rattle.starts.specs.Adu.{View, before, joint, all_zero, length_in, flow_in}
use Rattle.handing.specs.HandSteps.{symbol_offset, symbol_in, text}

-- ---- What is known

before-none : (o : Option (List ℕ)) → before o None ≡ None
before-none None = refl
before-none (Some v) = refl

-- One that is not known is enough.
pub joint-none : (see : View) (i n j : ℕ) → i ≤ j → j < i + n → see j ≡ None → joint see i n ≡ None
unfolding joint
joint-none see i zero j a b h = absurd (omega arith)
joint-none see i (suc n) j a b h = go (ℕ_discrete i j) (λ c. joint-none see (suc i) n j c (omega arith) h)
  where
    go : Dec (i ≡ j) → (suc i ≤ j → joint see (suc i) n ≡ None) → before (see i) (joint see (suc i) n) ≡ None
    go (yes e) f = ap (λ k. before (see k) (joint see (suc i) n)) e ∙ ap (λ o. before o (joint see (suc i) n)) h
    go (no e) f = ap (before (see i)) (f (omega arith)) ∙ before-none (see i)

module _ (w E oldest : ℕ) (m : List ℕ) where
  pub joint-text : (see : View) (i n : ℕ) → ((j : ℕ) → i ≤ j → j < i + n → see j ≡ Some (symbol_in w E oldest m j))
      → joint see i n ≡ Some (text w E oldest m i n)
  unfolding joint text
  joint-text see i zero h = refl
  joint-text see i (suc n) h = ap₂ before (h i (omega arith) (omega arith)) (joint-text see (suc i) n (λ j a b. h j (omega arith) (omega arith)))

-- ---- Where the bytes lie

part_later : (a k : ℕ) (v y : List ℕ) → part (length v + a) k (v ++ y) ≡ part a k y
unfolding part
part_later a k v y = ap (take k) (drop-append-add v y a)

module _ (w E oldest : ℕ) (m : List ℕ) (fits : Fits w E m) where
  -- A symbol ends within the rows.
  pub symbol_ends : (i : ℕ) → symbol_offset w E oldest i + E ≤ row_offset w E w
  symbol_ends i = omega (arith, flags_fit w E, row_fits w (stride w E) ((oldest + i) % w) (mod-lt (oldest + i) fits.some_width))

  pub symbol_length : (i : ℕ) → length (symbol_in w E oldest m i) ≡ E
  symbol_length i = length_part (symbol_offset w E oldest i) E m (omega (arith, symbol_ends i, fits.room))

  pub text-length : (i n : ℕ) → length (text w E oldest m i n) ≡ n * E
  unfolding text
  text-length i zero = sym (zero-mul E)
  text-length i (suc n) =
      length-append (symbol_in w E oldest m i) (text w E oldest m (suc i) n)
      ∙ omega (arith, symbol_length i, text-length (suc i) n, suc-mul n E)

  -- A stretch of the j-th symbol.
  pub text-part : (i n j a k : ℕ) → j < n → a + k ≤ E → part (j * E + a) k (text w E oldest m i n) ≡ part a k (symbol_in w E oldest m (i + j))
  unfolding text
  text-part i zero j a k h l = absurd (not-suc-le-zero h)
  text-part i (suc n) zero a k h l =
      let e : zero * E + a ≡ a = omega (arith, zero-mul E) in
      ap (λ x. part x k (symbol_in w E oldest m i ++ text w E oldest m (suc i) n)) e
      ∙ part_front a k (symbol_in w E oldest m i) (text w E oldest m (suc i) n) (omega (arith, symbol_length i))
      ∙ ap (λ x. part a k (symbol_in w E oldest m x)) (sym (add-zero i))
  text-part i (suc n) (suc j) a k h l =
      let e : suc j * E + a ≡ length (symbol_in w E oldest m i) + (j * E + a) = omega (arith, symbol_length i, suc-mul j E) in
      let s : suc i + j ≡ i + suc j = omega arith in
      ap (λ x. part x k (symbol_in w E oldest m i ++ text w E oldest m (suc i) n)) e
      ∙ part_later (j * E + a) k (symbol_in w E oldest m i) (text w E oldest m (suc i) n)
      ∙ text-part (suc i) n j a k (le_of_suc-le-suc h) l
      ∙ ap (λ x. part a k (symbol_in w E oldest m x)) s

  -- The same in the memory.
  pub text_offset : (i n j a k : ℕ) → j < n → a + k ≤ E → part (j * E + a) k (text w E oldest m i n) ≡ part (symbol_offset w E oldest (i + j) + a) k m
  text_offset i n j a k h l = text-part i n j a k h l ∙ part-part (symbol_offset w E oldest (i + j)) E a k m l

  -- F and L are those of the first symbol.
  pub text_flow : (i n : ℕ) → 0 < n → flow_in (text w E oldest m i n) ≡ get_or m (symbol_offset w E oldest i) 0
  unfolding text
  text_flow i zero h = absurd (not-suc-le-zero h)
  text_flow i (suc n) h =
      let s = fits.some_symbol in
      get_or-append (symbol_in w E oldest m i) (text w E oldest m (suc i) n) 0 0 (omega (arith, symbol_length i))
      ∙ get_or-part (symbol_offset w E oldest i) E 0 m (omega arith)
      ∙ ap (λ x. get_or m x 0) (add-zero (symbol_offset w E oldest i))

  pub text_size : (i n : ℕ) → 0 < n → length_in (text w E oldest m i n) ≡ length_in (symbol_in w E oldest m i)
  text_size i n h =
      let e : 0 * E + 1 ≡ 1 = omega (arith, zero-mul E) in
      ap number
      (ap (λ x. part x 2 (text w E oldest m i n)) (sym e) ∙ text-part i n 0 1 2 h (omega (arith, fits.some_symbol))
      ∙ ap (λ x. part 1 2 (symbol_in w E oldest m x)) (add-zero i))

  pub symbol_size : (i : ℕ) → length_in (symbol_in w E oldest m i) ≡ number (part (symbol_offset w E oldest i + 1) 2 m)
  symbol_size i = ap number (part-part (symbol_offset w E oldest i) E 1 2 m (omega (arith, fits.some_symbol)))

  -- What follows the first `j * E + a` bytes, where the j-th symbol is the last.
  pub text_rest : (i j a : ℕ) → a ≤ E → drop (j * E + a) (text w E oldest m i (suc j)) ≡ part (symbol_offset w E oldest (i + j) + a) (E - a) m
  unfolding part
  text_rest i j a h =
      sym (all (E - a) (drop (j * E + a) (text w E oldest m i (suc j))) (length-drop (j * E + a) _ ∙ omega (arith, text-length i (suc j), suc-mul j E)))
      ∙ text_offset i (suc j) j a (E - a) (omega arith) (omega arith)
    where
      all : (k : ℕ) (l : List ℕ) → length l ≡ k → take k l ≡ l
      all k l e = take_all k l (omega arith)

-- ---- Padding

zero_all : (l : List ℕ) → ((i : ℕ) → i < length l → get_or l i 0 ≡ 0) → all_zero l ≡ true
zero_all [] h = refl
zero_all (b ∷ l) h = ap₂ ◌&&◌ (eq-eqb b 0 (h 0 (omega arith))) (zero_all l (λ i k. h (suc i) (omega arith)))

all_zero_bytes : (l : List ℕ) → all_zero l ≡ true → (i : ℕ) → i < length l → get_or l i 0 ≡ 0
all_zero_bytes [] h i k = absurd (not-suc-le-zero k)
all_zero_bytes (b ∷ l) h zero k = eqb-true b 0 (both (eqb b 0) (all_zero l) h).0
all_zero_bytes (b ∷ l) h (suc i) k = all_zero_bytes l (both (eqb b 0) (all_zero l) h).1 i (le_of_suc-le-suc k)

-- The test of the or-ed bytes.
pub zero_test : (x a z : ℕ) (m : List ℕ) → a + z ≤ length m → (x ≡ 0) ↔ ZeroFrom a (a + z) m → eqb x 0 ≡ all_zero (part a z m)
zero_test x a z m h f = go (all_zero (part a z m)) refl
  where
    cell : (i : ℕ) → i < z → get_or (part a z m) i 0 ≡ get_or m (a + i) 0
    cell i k = get_or-part a z i m k

    go : (t : Bool) → all_zero (part a z m) ≡ t → eqb x 0 ≡ t
    go true e = eq-eqb x 0 (f.1 (λ i g k.
        let s : a + (i - a) ≡ i = omega arith in
        ap (λ y. get_or m y 0) (sym s) ∙ sym (cell (i - a) (omega arith)) ∙ all_zero_bytes (part a z m) e (i - a) (omega (arith, length_part a z m h))))
    go false e = ne_eqb x 0 (λ y. true≢false (sym (zero_all (part a z m) (λ i k.
        let l : i < z = omega (arith, length_part a z m h) in
        cell i l ∙ f.0 y (a + i) (omega arith) (omega arith))) ∙ e))
