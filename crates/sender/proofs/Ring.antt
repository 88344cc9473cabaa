-- The window's symbols stand in the slots of their positions modulo the width: what one symbol more does.
use Rattle.std.specs.Prelude.{◌≡◌, ◌≤◌, ◌+◌, ◌<◌, ◌%◌, ◌∷◌, ◌*◌, ◌++◌, ◌/◌}
use Rattle.words.specs.Words.{arith, ℕ, List, length, refl, ◌∙◌, sym, [], get_or, mod-lt, ℕ_discrete, dec_lt}
use Rattle.words.specs.Words.{length-append, mod-add-mod, append_assoc, append-nil, suc-mul, get_or-append, mul-le-mul_right}
use native.Mathlib.Nat.{mul-le-mul_left, mul-suc, div-add-mod}
use lib.Seq.{get_or-append_seam}
use Rattle.memory.specs.Part.{part, splice}
use Rattle.memory.proofs.Parts.{length-splice, take-splice, part-splice, part-before, part-past, past-splice}
use Rattle.sender.specs.State.{header_size, InSlots}
use Rattle.sender.specs.Inner.{Placed}

-- below or not
pub below : {P : Type 0} (a b : ℕ) → (a < b → P) → (b ≤ a → P) → P
below {P} a b f g = go (dec_lt a b)
  where
    go : Dec (a < b) → P
    go (yes l) = f l
    go (no n) = g (omega arith)

-- two positions less than the width apart have slots of their own
pub mod_apart : (w p t : ℕ) → p < t → t < p + w → p % w ≡ t % w → ⊥
mod_apart w p t h k e =
    below (p / w) (t / w)
    (λ l. omega (arith, div-add-mod p w, div-add-mod t w, mul-le-mul_left w l, mul-suc w (p / w)))
    (λ g. omega (arith, div-add-mod p w, div-add-mod t w, mul-le-mul_left w g))

-- and do not overlap
before : (e r q : ℕ) → r < q → r * e + e ≤ q * e
before e r q h = omega (arith, mul-le-mul_right e h, suc-mul r e)

module _ (e w : ℕ) (z : 0 < w) where
  -- a slot lies in the memory
  pub slot_fits : (m : List ℕ) (q : ℕ) → q < w → header_size + w * e ≤ length m → header_size + q * e + e ≤ length m
  slot_fits m q l h = omega (arith, before e q w l)

  module _ (m : List ℕ) (xs : List (List ℕ)) (x : List ℕ) (lx : length x ≡ e) (room : header_size + w * e ≤ length m) (old : InSlots e w m xs) where
    ends : header_size + length xs % w * e + e ≤ length m
    ends = slot_fits m (length xs % w) (mod-lt (length xs) z) room

    new : part (header_size + length xs % w * e) e (splice (header_size + length xs % w * e) x m) ≡ x
    new = rw lx at (part-splice (header_size + length xs % w * e) x m (omega (arith, ends)))

    kept : (p : ℕ) → p < length xs → length xs < p + w → part (header_size + p % w * e) e (splice (header_size + length xs % w * e) x m) ≡ get_or xs p []
    kept p h k =
        below (p % w) (length xs % w)
        (λ b. part-before _ e _ x m (omega (arith, before e (p % w) (length xs % w) b)) (omega (arith, ends)) ∙ old p h (omega arith))
        (λ b. part-past _ e _ x m (omega (arith, before e (length xs % w) (p % w) (past b))) (omega (arith, ends)) ∙ old p h (omega arith))
      where
        past : length xs % w ≤ p % w → length xs % w < p % w
        past b = below (length xs % w) (p % w) (λ l. l) (λ g. absurd (mod_apart w p (length xs) h k (omega arith)))

    pub slots_more : InSlots e w (splice (header_size + length xs % w * e) x m) (xs ++ (x ∷ []))
    slots_more p h k = go (ℕ_discrete p (length xs))
      where
        go : Dec (p ≡ length xs) → part (header_size + p % w * e) e (splice (header_size + length xs % w * e) x m) ≡ get_or (xs ++ (x ∷ [])) p []
        go (yes i) = rw i (new ∙ sym (get_or-append_seam xs x [] []))
        go (no n) =
            let l : p < length xs = omega (arith, length-append xs (x ∷ [])) in
            kept p l (omega (arith, length-append xs (x ∷ []))) ∙ sym (get_or-append xs (x ∷ []) [] p l)

-- ---- placing symbols one after the other

module _ (e w : ℕ) (m : List ℕ) (first : ℕ) where
  pub placed_none : first < w → Placed e w m first [] m first
  placed_none h = record {
    same = refl;
    head = refl;
    past = refl;
    within = h;
    slot = λ xs q. rw append-nil q;
    slots = λ xs q old. rw append-nil old;
  }

  module _ (new : List (List ℕ)) (m' : List ℕ) (next : ℕ) (p : Placed e w m first new m' next) (x : List ℕ) (lx : length x ≡ e)
      (room : header_size + w * e ≤ length m) where
    z : 0 < w
    z = omega (arith, p.within)

    ends' : header_size + next * e + e ≤ length m'
    ends' = slot_fits e w z m' next p.within (omega (arith, p.same))

    pub placed_more : Placed e w m first (new ++ (x ∷ [])) (splice (header_size + next * e) x m') ((next + 1) % w)
    placed_more = record {
      same = length-splice (header_size + next * e) x m' (omega (arith, ends')) ∙ p.same;
      head = take-splice header_size (header_size + next * e) x m' (omega arith) (omega (arith, ends')) ∙ p.head;
      past = past-splice (header_size + w * e) (header_size + next * e) x m' (omega (arith, before e next w p.within)) (omega (arith, ends')) ∙ p.past;
      within = mod-lt (next + 1) z;
      slot = λ xs q. rw (p.slot xs q, mod-add-mod, ← append_assoc xs new (x ∷ []), length-append (xs ++ new) (x ∷ []));
      slots = λ xs q old.
          rw (← append_assoc xs new (x ∷ []), p.slot xs q)
          (slots_more e w z m' (xs ++ new) x lx (omega (arith, p.same)) (p.slots xs q old));
    }
