-- Loops over a row's bytes, as operations on the line that they hold.
use Rattle.std.specs.Prelude.{◌≡◌, ◌≤◌, ◌+◌, ◌<◌, ◌%◌, ◌∷◌, ◌*◌, ◌≢◌, ◌/◌}
use Rattle.words.specs.Words.{arith, ℕ, List, length, refl, ◌∙◌, sym, ap, suc, zero, get_or, drop, take, ap₂, mod-lt}
use Rattle.words.specs.Words.{ℕ_discrete, dec_lt, bit_xor, mod-eq_of_lt, drop-cons, mul-le-mul_right}
use native.Mathlib.Nat.{div-add-mod'}
use Rattle.field.specs.Gf256.{product}
use Rattle.field.proofs.Laws.{product_lt}
use Rattle.decoder.specs.Symbols.{nulls, adds, times}
use Rattle.decoder.specs.Bytes.{byte, byte-sum, byte-product, bytes}
use Rattle.decoder.specs.TableSteps.{add_line, scale_line}
use Rattle.decoder.specs.Stretch.{symbol_cut_at, Small, line_of}
use Rattle.decoder.specs.Tuples.{bytes-of}
use Rattle.decoder.proofs.Bytes.{byte-number, byte-zero, byte_nonzero}

-- A symbol is shown as the part of the row that holds it.
pub bytes-of_symbol : (n o : ℕ) (s : List ℕ) → Small s → o + n ≤ length s → bytes-of n (symbol_cut_at n o s) ≡ take n (drop o s)
bytes-of_symbol zero o s h l = refl
bytes-of_symbol (suc n) o s h l =
    rw (drop-cons s o 0 (omega arith))
    (ap₂ (λ a t. a ∷ t) (mod-eq_of_lt (h o)) (bytes-of_symbol n (suc o) s h (omega arith)))

-- Two positions of one window have two remainders.
pub remainders : (w b p q : ℕ) → b ≤ p → p < b + w → b ≤ q → q < b + w → p % w ≡ q % w → p ≡ q
remainders w b p q c l d m e = go (dec_lt (p / w) (q / w)) (dec_lt (q / w) (p / w))
  where
    go : Dec (p / w < q / w) → Dec (q / w < p / w) → p ≡ q
    go (yes h) _ = absurd (omega (arith, mul-le-mul_right w h, div-add-mod' p w, div-add-mod' q w))
    go (no _) (yes h) = absurd (omega (arith, mul-le-mul_right w h, div-add-mod' p w, div-add-mod' q w))
    go (no g) (no h) =
        let same : p / w ≡ q / w = omega arith in
        omega (arith, ap (λ x. x * w) same, div-add-mod' p w, div-add-mod' q w)

-- One byte: `a + k b` and `k b`.
cell_times : (k b : ℕ) → k < 256 → b < 256 → byte (product k b) ≡ byte-product (byte k) (byte b)
cell_times k b x z = ap byte (ap₂ product (sym (byte-number k x)) (sym (byte-number b z)))

cell_add : (k a b : ℕ) → k < 256 → a < 256 → b < 256 → byte (bit_xor a (product k b)) ≡ byte-sum (byte a) (byte-product (byte k) (byte b))
cell_add k a b x y z =
    ap byte (ap₂ bit_xor (sym (byte-number a y)) (sym (byte-number (product k b) (product_lt k b)) ∙ ap (λ t. t.0) (cell_times k b x z)))

-- A symbol's bytes.
symbol_same : (n o : ℕ) (s t : List ℕ) → ((i : ℕ) → o ≤ i → i < o + n → get_or s i 0 ≡ get_or t i 0) → symbol_cut_at n o s ≡ symbol_cut_at n o t
symbol_same zero o s t h = refl
symbol_same (suc n) o s t h =
    ap₂ (λ a v. (a, v)) (ap byte (h o (omega arith) (omega arith))) (symbol_same n (suc o) s t (λ i g l. h i (omega arith) (omega arith)))

symbol_add : (n o k : ℕ) (s r t : List ℕ) → Small s → Small r → k < 256
    → ((i : ℕ) → o ≤ i → i < o + n → get_or t i 0 ≡ bit_xor (get_or s i 0) (product k (get_or r i 0)))
    → symbol_cut_at n o t ≡ adds bytes n (symbol_cut_at n o s) (times bytes n (byte k) (symbol_cut_at n o r))
symbol_add zero o k s r t f g x h = refl
symbol_add (suc n) o k s r t f g x h =
    ap₂ (λ a v. (a, v)) (ap byte (h o (omega arith) (omega arith)) ∙ cell_add k _ _ x (f o) (g o))
    (symbol_add n (suc o) k s r t f g x (λ i c l. h i (omega arith) (omega arith)))

symbol_times : (n o k : ℕ) (s t : List ℕ) → Small s → k < 256
    → ((i : ℕ) → o ≤ i → i < o + n → get_or t i 0 ≡ product k (get_or s i 0))
    → symbol_cut_at n o t ≡ times bytes n (byte k) (symbol_cut_at n o s)
symbol_times zero o k s t f x h = refl
symbol_times (suc n) o k s t f x h =
    ap₂ (λ a v. (a, v)) (ap byte (h o (omega arith) (omega arith)) ∙ cell_times k _ x (f o))
    (symbol_times n (suc o) k s t f x (λ i c l. h i (omega arith) (omega arith)))

-- A symbol is null just where its bytes are zero.
pub symbol_null : (n o : ℕ) (s : List ℕ) → ((i : ℕ) → o ≤ i → i < o + n → get_or s i 0 ≡ 0) → symbol_cut_at n o s ≡ nulls bytes n
symbol_null zero o s h = refl
symbol_null (suc n) o s h =
    ap₂ (λ a v. (a, v)) (byte-zero _ (h o (omega arith) (omega arith))) (symbol_null n (suc o) s (λ i c l. h i (omega arith) (omega arith)))

pub symbol_nonnull : (n o i : ℕ) (s : List ℕ) → Small s → o ≤ i → i < o + n → get_or s i 0 ≢ 0 → symbol_cut_at n o s ≢ nulls bytes n
symbol_nonnull zero o i s f c l z e = omega arith
symbol_nonnull (suc n) o i s f c l z e = go (ℕ_discrete o i) (λ c'. symbol_nonnull n (suc o) i s f c' (omega arith) z)
  where
    go : Dec (o ≡ i) → (suc o ≤ i → symbol_cut_at n (suc o) s ≢ nulls bytes n) → ⊥
    go (yes x) ih = byte_nonzero (get_or s i 0) (f i) z (ap (λ k. byte (get_or s k 0)) (sym x) ∙ ap (λ t. t.0) e)
    go (no x) ih = ih (omega arith) (ap (λ t. t.1) e)

-- A whole row.
module _ (w E : ℕ) (pos : 0 < w) where
  -- A line is what its first `w + E` bytes say.
  pub line_same : (s t : List ℕ) → ((i : ℕ) → i < w + E → get_or s i 0 ≡ get_or t i 0) → line_of w E s ≡ line_of w E t
  line_same s t h i = record {
    cells = λ j. byte (h (j % w) (omega (arith, mod-lt j pos)) i);
    sym = symbol_same E w s t (λ i _ l. h i l) i;
  }

  -- The loop that adds `k` times one row to another, byte by byte, is the row operation.
  pub line-add : (k : ℕ) (s r t : List ℕ) → Small s → Small r → k < 256
      → ((i : ℕ) → i < w + E → get_or t i 0 ≡ bit_xor (get_or s i 0) (product k (get_or r i 0)))
      → line_of w E t ≡ add_line (byte k) (line_of w E r) (line_of w E s)
  unfolding add_line
  line-add k s r t f g x h i = record {
    cells = λ j. (ap byte (h (j % w) (omega (arith, mod-lt j pos))) ∙ cell_add k _ _ x (f (j % w)) (g (j % w))) i;
    sym = symbol_add E w k s r t f g x (λ i c l. h i l) i;
  }

  pub line_scale : (k : ℕ) (s t : List ℕ) → Small s → k < 256 → ((i : ℕ) → i < w + E → get_or t i 0 ≡ product k (get_or s i 0))
      → line_of w E t ≡ scale_line (byte k) (line_of w E s)
  unfolding scale_line
  line_scale k s t f x h i = record {
    cells = λ j. (ap byte (h (j % w) (omega (arith, mod-lt j pos))) ∙ cell_times k _ x (f (j % w))) i;
    sym = symbol_times E w k s t f x (λ i c l. h i l) i;
  }
