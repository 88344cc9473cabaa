-- The multipliers of the state's rows, collected by column.
use Rattle.std.specs.Prelude.{◌≡◌, ◌≤◌, ◌+◌, ◌<◌, ◌-◌, ◌%◌, ◌∷◌, ◌≢◌}
use Rattle.words.specs.Words.{arith, ℕ, List, length, refl, ◌∙◌, sym, ap, [], suc, true, zero, get_or, false, Bool}
use Rattle.std.specs.Prelude.{◌||◌}
use Rattle.words.specs.Words.{mod-lt, ℕ_discrete, set, length-set, eqb, eqb-true, not, min}
use lib.Seq.{get_or-set_same, get_or-set_other}
use Rattle.decoder.proofs.Stretch.{remainders}
use Rattle.memory.specs.Number.{Bytes}
use Rattle.gather.specs.GatherSteps.{if_used, multiplier, Collected, Staying}

-- Columns of one window differ.
pub columns_apart : (w first i j : ℕ) → i < w → j < w → i ≢ j → (first + i) % w ≢ (first + j) % w
columns_apart w first i j h k d e =
    let s = remainders w first (first + i) (first + j) (omega arith) (omega arith) (omega arith) (omega arith) e in d (omega arith)

pub used_zero : (t : Bool) (k : ℕ) → k ≡ 0 → 0 ≡ if_used t k
used_zero true k z = sym z
used_zero false k z = refl

bytes-set : (l : List ℕ) (i v : ℕ) → Bytes l → v < 256 → Bytes (set l i v)
bytes-set [] i v f h j = f j
bytes-set (x ∷ l) zero v f h zero = h
bytes-set (x ∷ l) zero v f h (suc j) = f (suc j)
bytes-set (x ∷ l) (suc i) v f h zero = f 0
bytes-set (x ∷ l) (suc i) v f h (suc j) = bytes-set l i v (λ k. f (suc k)) h j

module _ (w E first : ℕ) (m l : List ℕ) where
  pub collected_none : (cs : List ℕ) → Bytes cs → Collected w E first 0 false m l cs cs
  collected_none cs small = record { small = small; size = refl; on = λ i h. absurd (omega arith); off = λ j d. refl; none = λ z i h. absurd (omega arith) }

  pub collected_more : (i c v : ℕ) (any : Bool) (cs cs' : List ℕ) → i < w → w ≤ length cs → v < 256 → c ≡ (first + i) % w
      → v ≡ multiplier w E c m l → Collected w E first i any m l cs cs' → Collected w E first (i + 1) (any || not (eqb v 0)) m l cs (set cs' c v)
  collected_more i c v any cs cs' h n byte e q f = record {
    small = bytes-set cs' c v f.small byte;
    size = length-set cs' c v ∙ f.size;
    on = λ j g. at j g (ℕ_discrete j i);
    off = λ j d. get_or-set_other cs' c j v 0 (λ x. d i (omega arith) (sym e ∙ sym x)) ∙ f.off j (λ k g. d k (omega arith));
    none = λ z j g. still (neither any (eqb v 0) z) j g (ℕ_discrete j i);
  }
    where
      new : (j : ℕ) → j ≡ i → v ≡ multiplier w E ((first + j) % w) m l
      new j x = q ∙ ap (λ k. multiplier w E k m l) (e ∙ ap (λ k. (first + k) % w) (sym x))

      at : (j : ℕ) → j < i + 1 → Dec (j ≡ i) → get_or (set cs' c v) ((first + j) % w) 0 ≡ multiplier w E ((first + j) % w) m l
      at j g (yes x) =
          ap (λ k. get_or (set cs' c v) k 0) (ap (λ k. (first + k) % w) x ∙ sym e)
          ∙ get_or-set_same cs' c v 0 (omega (arith, f.size, mod-lt (first + i) {m = w} (omega arith)))
          ∙ new j x
      at j g (no x) =
          get_or-set_other cs' c ((first + j) % w) v 0 (λ y. columns_apart w first j i (omega arith) h x (y ∙ e))
          ∙ f.on j (omega arith)

      neither : (a b : Bool) → a || not b ≡ false → (a ≡ false) × (b ≡ true)
      neither false true z = (refl, refl)
      neither false false z = cc
      neither true b z = cc

      still : (any ≡ false) × (eqb v 0 ≡ true) → (j : ℕ) → j < i + 1 → Dec (j ≡ i) → multiplier w E ((first + j) % w) m l ≡ 0
      still z j g (yes x) = sym (new j x) ∙ eqb-true v 0 z.1
      still z j g (no x) = f.none z.0 j (omega arith)

-- The columns of positions that stay.
pub staying : {w oldest first count stay : ℕ} (d n : ℕ) → d < w → (oldest + d) % w ≡ first → n ≡ min count (stay - d) → Staying w oldest first count stay n
staying d n h e a = record {
  distance = d;
  near = h;
  column = e;
  few = omega arith;
  stays = λ i l. omega arith;
  all = λ i l k. omega arith;
}
