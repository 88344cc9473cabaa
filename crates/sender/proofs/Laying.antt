-- Coefficients laid by slot, one after the other around the window.
use Rattle.std.specs.Prelude.{◌≡◌, ◌≤◌, ◌+◌, ◌<◌, ◌%◌, ◌∷◌}
use Rattle.words.specs.Words.{arith, ℕ, List, length, refl, ◌∙◌, sym, ap, [], suc, zero, get_or, take, ap₂, mod-lt, ℕ_discrete}
use Rattle.words.specs.Words.{add-zero, add-one, bit_xor, mod-eq_of_lt, mod-add-mod, set, length-set, xor_zero_r, xor_comm}
use lib.Seq.{get_or-set_same, get_or-set_other}
use Rattle.field.specs.Gf256.{product}
use Rattle.field.proofs.Xor.{xor_assoc}
use Rattle.field.proofs.Laws.{product-zero}
use Rattle.wire.specs.Packets.{zeros}
use Rattle.rows.specs.Combination.{dot, coefficient}
use Rattle.sender.specs.Inner.{AllZero, Laid}
use Rattle.sender.proofs.Ring.{mod_apart}

xor_last : (a b c : ℕ) → bit_xor (bit_xor a b) c ≡ bit_xor (bit_xor a c) b
xor_last a b c = xor_assoc a b c ∙ ap (bit_xor a) (xor_comm b c) ∙ sym (xor_assoc a c b)

pub get_or-zeros : (n : ℕ) → AllZero (zeros n)
get_or-zeros zero k = refl
get_or-zeros (suc n) zero = refl
get_or-zeros (suc n) (suc k) = get_or-zeros n k

pub zero_front : (n : ℕ) (l : List ℕ) → AllZero l → AllZero (take n l)
zero_front zero l z k = refl
zero_front (suc n) [] z k = refl
zero_front (suc n) (x ∷ l) z zero = z 0
zero_front (suc n) (x ∷ l) z (suc k) = zero_front n l (λ i. z (suc i)) k

-- a sum of products with zero coefficients
dot-zero : (cs : List ℕ) (x : ℕ → ℕ) (n : ℕ) → AllZero cs → dot (coefficient cs) x n ≡ 0
dot-zero cs x zero z = refl
dot-zero cs x (suc n) z = rw (dot-zero cs x n z, z n, product-zero (x n))

-- a sum does not see what comes after it
dot_before : (cs : List ℕ) (x : ℕ → ℕ) (n k v : ℕ) → n ≤ k → dot (coefficient (set cs k v)) x n ≡ dot (coefficient cs) x n
dot_before cs x zero k v h = refl
dot_before cs x (suc n) k v h =
    ap₂ bit_xor (dot_before cs x n k v (omega arith))
    (ap (λ (c : ℕ). product c (x n)) (get_or-set_other cs k n v 0 (λ e. omega arith)))

-- a coefficient in place of a zero adds its product
pub dot-set : (cs : List ℕ) (x : ℕ → ℕ) (n k v : ℕ) → k < n → k < length cs → get_or cs k 0 ≡ 0
    → dot (coefficient (set cs k v)) x n ≡ bit_xor (dot (coefficient cs) x n) (product v (x k))
dot-set cs x zero k v h l z = absurd (omega arith)
dot-set cs x (suc n) k v h l z = go (ℕ_discrete k n) (λ lt. dot-set cs x n k v lt l z)
  where
    go : Dec (k ≡ n) → (k < n → dot (coefficient (set cs k v)) x n ≡ bit_xor (dot (coefficient cs) x n) (product v (x k)))
        → dot (coefficient (set cs k v)) x (suc n) ≡ bit_xor (dot (coefficient cs) x (suc n)) (product v (x k))
    go (yes e) f = rw (← e, dot_before cs x k k v (omega arith), get_or-set_same cs k v 0 l, z, product-zero (x k), xor_zero_r (dot (coefficient cs) x k))
    go (no d) f =
        rw (f (omega arith), get_or-set_other cs k n v 0 (λ e. d (sym e)))
        (xor_last (dot (coefficient cs) x n) (product v (x k)) (product (get_or cs n 0) (x n)))

-- the first i coefficients of list were laid, `slot` is that of the next, and from there on the slots are zero
pub record Laying (first : ℕ) (list cs : List ℕ) (slot i : ℕ) : Type 0 where
  pub next : slot ≡ (first + i) % length cs
  pub inside : slot < length cs
  pub sum : (x : ℕ → ℕ) → dot (coefficient cs) x (length cs) ≡ dot (coefficient list) (λ j. x ((first + j) % length cs)) i
  pub rest : (j : ℕ) → i ≤ j → j < length cs → get_or cs ((first + j) % length cs) 0 ≡ 0

pub laying_none : (first : ℕ) (list cs : List ℕ) → first < length cs → AllZero cs → Laying first list cs first 0
laying_none first list cs h z = record {
  next = rw (add-zero first) (sym (mod-eq_of_lt h));
  inside = h;
  sum = λ x. dot-zero cs x (length cs) z;
  rest = λ j k l. z _;
}

pub laying_more : (first : ℕ) (list cs : List ℕ) (slot next i : ℕ) → i < length cs → next ≡ (slot + 1) % length cs → Laying first list cs slot i
    → Laying first list (set cs slot (get_or list i 0)) next (i + 1)
laying_more first list cs slot next i h n l =
    let w = length cs in
    let c = get_or list i 0 in
    let len = length-set cs slot c in
    let zero-there : get_or cs slot 0 ≡ 0 = rw l.next (l.rest i (omega arith) h) in
    let apart : (j : ℕ) → i + 1 ≤ j → j < w → (first + j) % w ≡ slot → ⊥ =
    λ j k m e. mod_apart w (first + i) (first + j) (omega arith) (omega arith) (sym l.next ∙ sym e) in
    let a : first + (i + 1) ≡ first + i + 1 = omega arith in
    record {
      next = rw (len, n, l.next, mod-add-mod (first + i) w 1, a);
      inside = rw (len, n) (mod-lt (slot + 1) (omega arith));
      sum = λ x.
          rw (len, add-one i)
          (dot-set cs x w slot c l.inside l.inside zero-there ∙ ap₂ (λ (y k : ℕ). bit_xor y (product c (x k))) (l.sum x) l.next);
      rest = λ j k m.
          let m' : j < w = rw len at m in
          rw len (get_or-set_other cs slot ((first + j) % w) c 0 (apart j k m') ∙ l.rest j (omega arith) m');
    }

pub laying_done : (first : ℕ) (list cs : List ℕ) (slot i : ℕ) → i ≡ length list → Laying first list cs slot i → Laid first list cs
laying_done first list cs slot i e l = record { sum = λ x. rw e at (l.sum x) }
