-- The symbols of an ADUI: how many there are and where the last ends, its padding, and its bytes copied symbol by symbol.
use Rattle.std.specs.Prelude.{◌≡◌, ◌≤◌, ◌+◌, ◌<◌, ◌-◌, ◌*◌, ◌↔◌}
use Rattle.words.specs.Words.{arith, ℕ, List, length, refl, ◌∙◌, sym, ap, suc, subst, drop, ap₂, eqb, dec_lt, add-one}
use Rattle.words.specs.Words.{zero-add, zero-mul, suc-mul, min}
use Rattle.memory.specs.Part.{part, splice}
use Rattle.memory.proofs.Parts.{length_part, length-splice, part-add, splice_next, row_fits}
use Rattle.wire.proofs.Adui.{room, least}
use Rattle.table.specs.Window.{row_offset, Fits}
use Rattle.table.specs.RowSteps.{RowOf, SymbolAt, ZeroFrom}
use Rattle.table.proofs.Offsets.{row_end, flags_fit}
use Rattle.starts.specs.Adu.{all_zero}
use Rattle.handing.specs.HandSteps.{symbol_offset, text, SymbolOf, Spans}
use Rattle.handing.proofs.Texts.{text-length, text_offset, text_rest, zero_test, symbol_ends}

-- Where the code finds a symbol.
pub symbol_found : (w E oldest i r at : ℕ) → RowOf w oldest i r → SymbolAt w E r at → SymbolOf w E oldest i at
symbol_found w E oldest i r at e k = record {
  start = k.start ∙ ap (λ x. row_offset w E x + w) e.is;
  end = omega (arith, flags_fit w E, k.start, row_end w E r e.small);
  small = k.small;
}

module _ (w E d n L : ℕ) (z : 4 ≤ E) (s : Spans w E d n L) where
  pub span_end : 3 + L ≤ n * E
  span_end = subst (λ k. 3 + L ≤ k * E) (sym s.count) (room E L (omega arith))

  -- There is a first symbol, and each begins before the ADU's end.
  pub span_some : 0 < n
  span_some = go (dec_lt 0 n)
    where
      go : Dec (0 < n) → 0 < n
      go (yes h) = h
      go (no h) = let e : n ≡ 0 = omega arith in absurd (omega (arith, span_end, ap (λ k. k * E) e, zero-mul E))

  pub span_start : (i : ℕ) → i < n → i * E < 3 + L
  span_start i h = omega (arith, row_fits n E i h, subst (λ k. k * E ≤ 3 + L + (E - 1)) (sym s.count) (least E L))

  pub span_last : 3 + L - (n - 1) * E ≤ E
  span_last = omega (arith, span_end, span_some, suc-mul (n - 1) E, ap (λ k. k * E) (the_last n span_some))
    where
      the_last : (n : ℕ) → 0 < n → suc (n - 1) ≡ n
      the_last n h = omega arith

-- The padding is what the last symbol has after the ADU.
pub padding_test : (w E oldest d n L : ℕ) (m : List ℕ) → Fits w E m → Spans w E d n L → (at x : ℕ) → at ≡ symbol_offset w E oldest (d + (n - 1))
    → (x ≡ 0) ↔ ZeroFrom (at + (3 + L - (n - 1) * E)) (at + E) m → eqb x 0 ≡ all_zero (drop (3 + L) (text w E oldest m d n))
padding_test w E oldest d n L m fits s at x here f =
    let z = fits.some_symbol in
    let last = span_last w E d n L z s in
    let start = span_start w E d n L z s (n - 1) (omega (arith, span_some w E d n L z s)) in
    let a : ℕ = 3 + L - (n - 1) * E in
    let more : (n - 1) * E + a ≡ 3 + L = omega arith in
    let count : suc (n - 1) ≡ n = omega (arith, span_some w E d n L z s) in
    let size : at + a + (E - a) ≡ at + E = omega arith in
    let ends : at + a + (E - a) ≤ length m = omega (arith, symbol_ends w E oldest m fits (d + (n - 1)), fits.room) in
    zero_test x (at + a) (E - a) m ends (subst (λ k. (x ≡ 0) ↔ ZeroFrom (at + a) k m) (sym size) f)
    ∙ ap all_zero
    (ap (λ k. part (k + a) (E - a) m) here ∙ sym (text_rest w E oldest m fits d (n - 1) a last)
    ∙ ap₂ (λ k i. drop k (text w E oldest m d i)) more count)

-- ---- The copies

-- After i symbols `at` bytes of the ADU have been copied, and `skip` bytes of the next symbol are left out.
pub record Copied (E n L i at skip : ℕ) (x out₀ out : List ℕ) : Type 0 where
  pub most : at ≤ L
  pub skips : skip ≤ 3
  pub here : i < n → at + 3 ≡ i * E + skip
  pub all : n ≤ i → at ≡ L
  pub bytes : out ≡ splice 0 (part 3 at x) out₀

pub copied_none : (E n L : ℕ) (x out : List ℕ) → 0 < n → Copied E n L 0 0 3 x out out
unfolding part splice
copied_none E n L x out h = record {
  most = omega arith;
  skips = omega arith;
  here = λ _. omega (arith, zero-mul E);
  all = λ k. absurd (omega arith);
  bytes = refl;
}

module _ (w E oldest d n L i at skip : ℕ) (m out₀ out : List ℕ) (fits : Fits w E m) (s : Spans w E d n L) (enough : L ≤ length out₀)
    (c : Copied E n L i at skip (text w E oldest m d n) out₀ out) where
  abbrev x : List ℕ
  x = text w E oldest m d n

  front : length (part 3 at x) ≡ at
  front = length_part 3 at x (omega (arith, c.most, text-length w E oldest m fits d n, span_end w E d n L fits.some_symbol s))

  pub copied_length : length out ≡ length out₀
  copied_length = ap length c.bytes ∙ length-splice 0 (part 3 at x) out₀ (omega (arith, front, c.most))

  pub copied_all : n ≤ i → out ≡ splice 0 (part 3 L x) out₀
  copied_all h = c.bytes ∙ ap (λ k. splice 0 (part 3 k x) out₀) (c.all h)

  module _ (h : i < n) (k : ℕ) (e : k ≡ min (E - skip) (L - at)) (from : ℕ) (offset : from ≡ symbol_offset w E oldest (d + i)) where
    -- What is copied is the ADU's next k bytes.
    next : part (from + skip) k m ≡ part (3 + at) k x
    next =
        let l : skip + k ≤ E = omega (arith, c.skips, fits.some_symbol) in
        let p : i * E + skip ≡ 3 + at = omega (arith, c.here h) in
        ap (λ y. part (y + skip) k m) offset ∙ sym (text_offset w E oldest m fits d n i skip k h l) ∙ ap (λ y. part y k x) p

    pub copied_more : (out' : List ℕ) → out' ≡ splice at (part (from + skip) k m) out → Copied E n L (i + 1) (at + k) 0 x out₀ out'
    copied_more out' q =
        let start = c.here h in
        let z = fits.some_symbol in
        let f = c.skips in
        let g = c.most in
        let step : (i + 1) * E ≡ i * E + E = ap (λ y. y * E) (add-one i) ∙ suc-mul i E in
        record {
          most = omega arith;
          skips = omega arith;
          here = λ b. omega (arith, span_start w E d n L z s (i + 1) b);
          all = λ b.
              let same : n ≡ i + 1 = omega arith in
              omega (arith, span_end w E d n L z s, ap (λ y. y * E) same);
          bytes =
              q ∙ ap₂ (splice at) next c.bytes
              ∙ ap (λ y. splice y (part (3 + at) k x) (splice 0 (part 3 at x) out₀)) (sym (zero-add _ ∙ front))
              ∙ splice_next 0 (part 3 at x) (part (3 + at) k x) out₀ (omega arith)
              ∙ ap (λ y. splice 0 y out₀) (sym (part-add 3 at k x));
        }
