-- Bytes of origins that are filled, and what the memory hears after a packet.
-- Nothing else has changed: only_refl, only_trans, only_fits. Bytes are filled one by one: filled_none, filled_more, filled_to.
-- What is brought: brought_in, brought_out. Both fills: updated.
use Rattle.std.specs.Prelude.{◌≡◌, ◌≤◌, ◌+◌, ◌<◌, ◌-◌, ◌%◌, ◌≢◌, ◌&&◌, ◌||◌, ◌⊎◌}
use Rattle.words.specs.Words.{arith, ℕ, List, length, refl, ◌∙◌, sym, ap, ap₂, get_or, true, subst, ltb, mod-lt}
use Rattle.words.specs.Words.{ℕ_discrete, dec_lt, lt-leb, le-leb, lt-ltb, le-ltb, mod-add-mod, set, length-set, add_assoc, inl, inr}
use lib.Seq.{get_or-set_same, get_or-set_other}
use Rattle.decoder.proofs.Stretch.{remainders}
use Rattle.table.specs.Window.{row_offset, Fits}
use Rattle.table.proofs.Rows.{fits_sized}
use Rattle.history.specs.Model.{Origins, bringing}
use Rattle.origins.specs.Origins.{origin_at, heard_in, Hears}
use Rattle.origins.specs.Steps.{OnlyOrigins, origin_byte, Filled, Updated}

-- ---- nothing but the bytes of origins has changed

pub only_refl : {w E : ℕ} {m : List ℕ} → OnlyOrigins w E m m
only_refl = record { size = refl; before = λ k l. refl; past = λ k l. refl }

pub only_trans : {w E : ℕ} {m m' m'' : List ℕ} → OnlyOrigins w E m m' → OnlyOrigins w E m' m'' → OnlyOrigins w E m m''
only_trans f g = record {
  size = g.size ∙ f.size;
  before = λ k l. g.before k l ∙ f.before k l;
  past = λ k l. g.past k l ∙ f.past k l;
}

pub only_fits : {w E : ℕ} {m m' : List ℕ} → Fits w E m → OnlyOrigins w E m m' → Fits w E m'
only_fits f o = fits_sized f o.size

-- ---- bytes are filled one by one

-- Other positions of a window have other bytes.
origin_apart : (w E oldest i j : ℕ) → i < w → j < w → i ≢ j → origin_at w E ((oldest + i) % w) ≢ origin_at w E ((oldest + j) % w)
origin_apart w E oldest i j h k n e =
    let same : (oldest + i) % w ≡ (oldest + j) % w = omega (arith, e) in
    n (omega (arith, remainders w oldest (oldest + i) (oldest + j) (omega arith) (omega arith) (omega arith) (omega arith) same))

pub filled_none : (w E oldest first v : ℕ) (m : List ℕ) → Filled w E oldest first 0 v m m
filled_none w E oldest first v m = record { only = only_refl; here = λ i h l. absurd (omega arith); rest = λ i l h. refl }

pub filled_more : (w E oldest first i v at r : ℕ) (m m₁ : List ℕ) → first + i < w → at ≡ row_offset w E w → r ≡ (oldest + (first + i)) % w
    → row_offset w E w + w ≤ length m₁ → Filled w E oldest first i v m m₁ → Filled w E oldest first (i + 1) v m (set m₁ (at + r) v)
filled_more w E oldest first i v at r m m₁ near start row room f = record {
  only = only_trans f.only (record {
    size = length-set m₁ (at + r) v;
    before = λ k l. get_or-set_other m₁ (at + r) k v 0 (λ e. omega (arith, e, start));
    past = λ k l. get_or-set_other m₁ (at + r) k v 0 (λ e. omega (arith, e, start, small));
  });
  here = λ j h l. go j h l (ℕ_discrete j (first + i));
  rest = λ j l h. other j l (away j h) ∙ f.rest j l (outside j h);
}
  where
    small : r < w
    small = subst (λ x. x < w) (sym row) (mod-lt (oldest + (first + i)) (omega arith))

    is : at + r ≡ origin_at w E ((oldest + (first + i)) % w)
    is = ap₂ (λ a b. a + b) start row

    other : (j : ℕ) → j < w → j ≢ first + i → origin_byte w E oldest (set m₁ (at + r) v) j ≡ origin_byte w E oldest m₁ j
    other j l n =
        get_or-set_other m₁ (at + r) (origin_at w E ((oldest + j) % w)) v 0 (λ e. origin_apart w E oldest j (first + i) l near n (e ∙ is))

    away : (j : ℕ) → (j < first) ⊎ (first + (i + 1) ≤ j) → j ≢ first + i
    away j (inl h) e = omega (arith, e)
    away j (inr h) e = omega (arith, e)

    outside : (j : ℕ) → (j < first) ⊎ (first + (i + 1) ≤ j) → (j < first) ⊎ (first + i ≤ j)
    outside j (inl h) = inl h
    outside j (inr h) = inr (omega arith)

    go : (j : ℕ) → first ≤ j → j < first + (i + 1) → Dec (j ≡ first + i) → origin_byte w E oldest (set m₁ (at + r) v) j ≡ v
    go j h l (yes e) =
        ap (λ x. origin_byte w E oldest (set m₁ (at + r) v) x) e ∙ ap (λ k. get_or (set m₁ (at + r) v) k 0) (sym is)
        ∙ get_or-set_same m₁ (at + r) v 0 (omega (arith, start, small))
    go j h l (no n) = other j (omega arith) n ∙ f.here j h (omega arith)

pub filled_to : {w E oldest first i n v : ℕ} {m m' : List ℕ} → i ≡ n → Filled w E oldest first i v m m' → Filled w E oldest first n v m m'
filled_to {w} {E} {oldest} {first} {i} {n} {v} {m} {m'} e f = subst (λ x. Filled w E oldest first x v m m') e f

-- ---- a packet was accepted

-- What is brought is heard, and the rest is as it was.
pub brought_in : (p n x : ℕ) (H : Origins) → p ≤ x → x < p + n → bringing p n H x ≡ true
brought_in p n x H h l = ap₂ (λ s t. (s && t) || H x) (le-leb p x h) (lt-ltb x (p + n) l)

pub brought_out : (p n x : ℕ) (H : Origins) → (x < p) ⊎ (p + n ≤ x) → bringing p n H x ≡ H x
brought_out p n x H (inl l) = ap (λ t. (t && ltb x (p + n)) || H x) (lt-leb p x l)
brought_out p n x H (inr l) = ap₂ (λ s t. (s && t) || H x) (le-leb p x (omega arith)) (le-ltb x (p + n) l)

-- The positions that have come into the window are cleared, all of them, and then the packet's own are set.
module _ (w E oldest stay fresh first n v : ℕ) (m m₁ m₂ : List ℕ) (f : Filled w E oldest stay fresh 0 m m₁) (g : Filled w E oldest first n v m₁ m₂)
    (all : stay + fresh ≡ w) (near : first + n ≤ w) (some : 0 < v) where
  module _ (b rise : ℕ) (H : Origins) (e : (b + rise) % w ≡ oldest) (s : stay ≡ w - rise) (h : Hears w E b m H) where
    -- The row of the i-th position.
    row : (i : ℕ) → (b + rise + i) % w ≡ (oldest + i) % w
    row i = sym (mod-add-mod (b + rise) w i) ∙ ap (λ x. (x + i) % w) e

    was : (i : ℕ) → (b + (rise + i)) % w ≡ (oldest + i) % w
    was i = ap (λ x. x % w) (sym (add_assoc b rise i)) ∙ row i

    cleared : (i : ℕ) → i < w → ltb 0 (origin_byte w E oldest m₁ i) ≡ H (b + rise + i)
    cleared i l = go (dec_lt i stay) ∙ ap H (sym (add_assoc b rise i))
      where
        go : Dec (i < stay) → ltb 0 (origin_byte w E oldest m₁ i) ≡ H (b + (rise + i))
        go (yes a) = ap (ltb 0) (f.rest i l (inl a)) ∙ ap (λ r. heard_in w E m r) (sym (was i)) ∙ h.window (rise + i) (omega arith)
        go (no a) = ap (ltb 0) (f.here i (omega arith) (omega arith)) ∙ sym (h.later (rise + i) (omega arith))

    filled : (i : ℕ) → i < w → ltb 0 (origin_byte w E oldest m₂ i) ≡ bringing (b + rise + first) n H (b + rise + i)
    filled i l = go (dec_lt i first) (dec_lt i (first + n))
      where
        rests : (i < first) ⊎ (first + n ≤ i) → (b + rise + i < b + rise + first) ⊎ (b + rise + first + n ≤ b + rise + i)
            → ltb 0 (origin_byte w E oldest m₂ i) ≡ bringing (b + rise + first) n H (b + rise + i)
        rests a c = ap (ltb 0) (g.rest i l a) ∙ cleared i l ∙ sym (brought_out (b + rise + first) n (b + rise + i) H c)

        go : Dec (i < first) → Dec (i < first + n) → ltb 0 (origin_byte w E oldest m₂ i) ≡ bringing (b + rise + first) n H (b + rise + i)
        go (yes a) d = rests (inl a) (inl (omega arith))
        go (no a) (yes c) =
            ap (ltb 0) (g.here i (omega arith) c) ∙ lt-ltb 0 v some ∙ sym (brought_in (b + rise + first) n (b + rise + i) H (omega arith) (omega arith))
        go (no a) (no c) = rests (inr (omega arith)) (inr (omega arith))

    hears_after : Hears w E (b + rise) m₂ (bringing (b + rise + first) n H)
    hears_after = record {
      window = λ i l. ap (λ r. heard_in w E m₂ r) (row i) ∙ filled i l;
      later = λ i l.
          brought_out (b + rise + first) n (b + rise + i) H (inr (omega arith)) ∙ ap H (add_assoc b rise i) ∙ h.later (rise + i) (omega arith);
    }

  pub updated : Updated w E oldest stay first n m m₂
  updated = record { only = only_trans f.only g.only; hears = hears_after }
