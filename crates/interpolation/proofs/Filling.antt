-- A list of coefficients that is filled one after the other.
use Rattle.std.specs.Prelude.{◌≡◌, ◌+◌, ◌≤◌, ◌<◌}
use Rattle.words.specs.Words.{sym, ap, ◌∙◌, List, ℕ, arith, ℕ_discrete, length, get_or, set, replicate, length-replicate, length-set}
use Rattle.words.specs.Words.{ext_get_or}
use lib.ListN.{get_or-replicate}
use lib.Seq.{get_or-set_same, get_or-set_other}
use Rattle.rows.proofs.Combinations.{length-tabulate, get_d_tabulate}
use Rattle.interpolation.specs.Lagrange.{lagrange, lagranges}
use Rattle.interpolation.proofs.Standard.{code}

-- the first i coefficients of symbol j
abbrev pub Filled : (k j : ℕ) → List ℕ → (i : ℕ) → Type 0
Filled k j l i = (m : ℕ) → m < i → get_or l m 0 ≡ lagrange k m j

pub filled_more : (k j : ℕ) (l : List ℕ) (i c : ℕ) → i < length l → c ≡ lagrange k i j → Filled k j l i → Filled k j (set l i c) (i + 1)
filled_more k j l i c h e f m g = go (ℕ_discrete m i)
  where
    go : Dec (m ≡ i) → get_or (set l i c) m 0 ≡ lagrange k m j
    go (yes q) = rw q (get_or-set_same l i c 0 h ∙ e)
    go (no q) = get_or-set_other l i m c 0 q ∙ f m (omega arith)

pub filled_all : (k j : ℕ) (l : List ℕ) → length l ≡ k → Filled k j l k → l ≡ lagranges k j
unfolding lagranges
filled_all k j l n f =
    ext_get_or 0 l _ (n ∙ sym (length-tabulate (λ i. lagrange k i j) k))
    (λ m h. let g : m < k = omega arith in f m g ∙ sym (get_d_tabulate (λ i. lagrange k i j) k m g))

-- the coefficients of a source symbol
pub filled_source : (k j : ℕ) (l : List ℕ) → k ≤ 255 → j < k → l ≡ replicate k 0 → set l j 1 ≡ lagranges k j
filled_source k j l h g e =
    let n : length l ≡ k = ap length e ∙ length-replicate k 0 in
    filled_all k j (set l j 1) (length-set l j 1 ∙ n) (λ m f. go m f (omega arith) (ℕ_discrete m j))
  where
    go : (m : ℕ) → m < k → j < length l → Dec (m ≡ j) → get_or (set l j 1) m 0 ≡ lagrange k m j
    go m f s (yes q) = rw q (get_or-set_same l j 1 0 s ∙ sym (code.own k h j g))
    go m f s (no q) =
        get_or-set_other l j m 1 0 q ∙ ap (λ (x : List ℕ). get_or x m 0) e ∙ get_or-replicate k m 0 0 f ∙ sym (code.other k m j g (λ p. q (sym p)))
