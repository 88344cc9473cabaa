-- The code is the standard's, any k of its symbols tell the block, and fewer tell nothing of another.
use Rattle.std.specs.Prelude.{◌≡◌, ◌≢◌, ◌∷◌, ◌≤◌, ◌<◌}
use Rattle.words.specs.Words.{refl, sym, ap, ◌∙◌, List, [], ℕ, zero, suc, arith, not-suc-le-zero, bit_xor, xor_lt, length, get_or}
use lib.Bits.{xor_self}
use Rattle.field.specs.Gf256.{product}
use Rattle.field.specs.Powers.{power}
use Rattle.field.proofs.Xor.{xor_assoc}
use Rattle.field.proofs.Laws.{product-zero_right, power-lt}
use Rattle.memory.specs.Number.{Bytes}
use Rattle.interpolation.specs.Polynomial.{value, Under, Through}
use Rattle.interpolation.specs.Lagrange.{lagrange, encoded}
use Rattle.interpolation.specs.Code.{Block, Esis, Standard, Agree, Code}
use Rattle.interpolation.proofs.Points.{Points, fewer, powers, powers_differ}
use Rattle.interpolation.proofs.Roots.{bytes-more, value-lt, agree_same}
use Rattle.interpolation.proofs.Terms.{term-one, term-zero, interpolated, interpolated_at, interpolated_polynomial}

-- ---- a polynomial with exactly k coefficients

fit : ℕ → List ℕ → List ℕ
fit zero p = []
fit (suc k) [] = 0 ∷ fit k []
fit (suc k) (c ∷ p) = c ∷ fit k p

fit_under : (k : ℕ) (p : List ℕ) → Bytes p → Under k (fit k p)
unfolding fit
fit_under zero p b = record { size = refl; bytes = λ i. omega arith }
fit_under (suc k) [] b =
    let u = fit_under k [] b in record { size = ap suc u.size; bytes = bytes-more 0 (fit k []) (omega arith) u.bytes }
fit_under (suc k) (c ∷ p) b =
    let u = fit_under k p (λ i. b (suc i)) in record { size = ap suc u.size; bytes = bytes-more c (fit k p) (b 0) u.bytes }

fit_value : (k : ℕ) (p : List ℕ) → length p ≤ k → (x : ℕ) → value (fit k p) x ≡ value p x
unfolding fit value
fit_value zero [] h x = refl
fit_value zero (c ∷ p) h x = absurd (not-suc-le-zero h)
fit_value (suc k) [] h x = ap (product x) (fit_value k [] (omega arith) x) ∙ product-zero_right x
fit_value (suc k) (c ∷ p) h x = ap (λ (z : ℕ). bit_xor c (product x z)) (fit_value k p (omega arith) x)

-- another byte
pub other_byte : (a : ℕ) → a ≡ bit_xor a 1 → ⊥
other_byte a q =
    let z : ◌≡◌ {A = ℕ} 0 1 = sym (xor_self a) ∙ ap (bit_xor a) q ∙ sym (xor_assoc a a 1) ∙ ap (λ (n : ℕ). bit_xor n 1) (xor_self a) in
    omega arith

-- ---- the standard

module _ (k : ℕ) (fits : k ≤ 255) where
  points : Points k power
  points = fewer k fits powers

  module _ (s : ℕ → ℕ) (b : Block k s) where
    source : List ℕ
    source = fit k (interpolated_polynomial k power s).list

    source-value : (x : ℕ) → value source x ≡ interpolated k power s x
    unfolding source
    source-value x =
        let p = interpolated_polynomial k power s in
        fit_value k p.list p.size x ∙ p.value-is x

    source_through : Through k s source
    unfolding source
    source_through = record {
      under = fit_under k (interpolated_polynomial k power s).list (interpolated_polynomial k power s).bytes;
      passes = λ i h. source-value (power i) ∙ interpolated_at k power s points i h (b i h);
    }

    pub standard : Standard k s
    unfolding encoded lagrange
    standard = record {
      polynomial = source;
      through = source_through;
      only = λ q t. agree_same k k (omega arith) power points q source t.under source_through.under
          (λ i h. t.passes i h ∙ sym (source_through.passes i h));
      symbols = λ j. sym (source-value (power j));
    }

    pub encoded-is : (p : List ℕ) → Through k s p → (j : ℕ) → encoded k s j ≡ value p (power j)
    encoded-is p t j = standard.symbols j ∙ ap (λ (q : List ℕ). value q (power j)) (sym (standard.only p t))

    pub systematic : (i : ℕ) → i < k → encoded k s i ≡ s i
    systematic i h = standard.symbols i ∙ standard.through.passes i h

    pub encoded-lt : (j : ℕ) → encoded k s j < 256
    encoded-lt j = let e = standard.symbols j in rw e (value-lt standard.polynomial standard.through.under.bytes (power j))

  -- ---- any k symbols

  at_esis : (js : List ℕ) → Esis js → Points (length js) (λ l. power (get_or js l 0))
  at_esis js e = record {
    small = λ l h. power-lt (get_or js l 0);
    different = λ l m h g q. e.different l m h g (powers_differ _ _ (e.small l h) (e.small m g) q);
  }

  pub tells : (js : List ℕ) → Esis js → k ≤ length js → (s t : ℕ → ℕ) → Block k s → Block k t → Agree k js s t → (i : ℕ) → i < k → s i ≡ t i
  tells js e h s t b c a i g =
      let p = standard s b in
      let q = standard t c in
      let same : p.polynomial ≡ q.polynomial =
      agree_same k (length js) h (λ l. power (get_or js l 0)) (at_esis js e) p.polynomial q.polynomial p.through.under q.through.under
      (λ l f. sym (p.symbols (get_or js l 0)) ∙ a l f ∙ q.symbols (get_or js l 0)) in
      sym (p.through.passes i g) ∙ ap (λ (r : List ℕ). value r (power i)) same ∙ q.through.passes i g

  pub meets : (js : List ℕ) → Esis js → length js ≤ k → (v : ℕ → ℕ) → Block (length js) v
      → (s : ℕ → ℕ) × Block k s × ((l : ℕ) → l < length js → encoded k s (get_or js l 0) ≡ v l)
  meets js e h v b =
      let n = length js in
      let x : ℕ → ℕ = λ l. power (get_or js l 0) in
      let p = interpolated_polynomial n x v in
      let r = fit k p.list in
      let u = fit_under k p.list p.bytes in
      let s : ℕ → ℕ = λ i. value r (power i) in
      let bytes : Block k s = λ i g. value-lt r u.bytes (power i) in
      let t : Through k s r = record { under = u; passes = λ i g. refl } in (
        s,
        bytes,
        λ l g. encoded-is s bytes r t (get_or js l 0) ∙ fit_value k p.list (omega (arith, p.size)) (x l) ∙ p.value-is (x l)
            ∙ interpolated_at n x v (at_esis js e) l g (b l g),
      )

  -- ---- fewer

  pub one_more : (js : List ℕ) → Esis js → (i : ℕ) → i < 255 → ((l : ℕ) → l < length js → get_or js l 0 ≢ i) → Esis (i ∷ js)
  one_more js e i h d = record { small = small; different = different }
    where
      small : (l : ℕ) → l < suc (length js) → get_or (i ∷ js) l 0 < 255
      small zero g = h
      small (suc l) g = e.small l (omega arith)

      different : (l m : ℕ) → l < suc (length js) → m < suc (length js) → get_or (i ∷ js) l 0 ≡ get_or (i ∷ js) m 0 → l ≡ m
      different zero zero g f q = refl
      different zero (suc m) g f q = absurd (d m (omega arith) (sym q))
      different (suc l) zero g f q = absurd (d l (omega arith) q)
      different (suc l) (suc m) g f q = ap suc (e.different l m (omega arith) (omega arith) q)

  pub hides : (js : List ℕ) → Esis js → length js < k → (i : ℕ) → i < k → ((l : ℕ) → l < length js → get_or js l 0 ≢ i)
      → (s : ℕ → ℕ) → Block k s → (t : ℕ → ℕ) × Block k t × Agree k js s t × (s i ≢ t i)
  hides js e h i g d s b =
      let (t, c, m) = meets (i ∷ js) (one_more js e i (omega arith) d) h v bytes in
      (t, c, λ l f. sym (m (suc l) (omega arith)), λ q. other_byte (s i) (q ∙ sym (systematic t c i g) ∙ m 0 (omega arith)))
    where
      -- another byte at i, and the symbols of s
      v : ℕ → ℕ
      v zero = bit_xor (s i) 1
      v (suc l) = encoded k s (get_or js l 0)

      bytes : Block (suc (length js)) v
      bytes zero f = xor_lt 8 (s i) 1 (b i g) (omega arith)
      bytes (suc l) f = encoded-lt s b (get_or js l 0)

pub code : Code
unfolding lagrange
code = record {
  standard = λ k h s b. standard k h s b;
  own = λ k h i l. term-one power i k k (omega arith) l (points k h);
  other = λ k i j l d. term-zero power i k j l d;
  systematic = λ k h s b. systematic k h s b;
  tells = λ k h. tells k h;
  meets = λ k h. meets k h;
  hides = λ k h. hides k h;
}
