-- Marks that agree up to the width agree after a packet.
use Rattle.std.specs.Prelude.{◌≡◌, ◌≤◌, ◌+◌, ◌&&◌, ◌||◌}
use Rattle.words.specs.Words.{arith, ℕ, List, refl, ◌∙◌, ap, Some, suc, true, zero, None, false, Bool, Option, leb, eqb, leb-true}
use Rattle.starts.specs.Adu.{needs, View}
use Rattle.starts.specs.Starts.{Starts, also, moved, onward, pass}

-- The marks are the same up to the width.
abbrev pub Agree : (w : ℕ) → Starts → Starts → Type 0
Agree w M N = (i : ℕ) → i ≤ w → M i ≡ N i

module _ (w : ℕ) (M N : Starts) (a : Agree w M N) where
  pub also_agree : (j : ℕ) → Agree w (also j M) (also j N)
  also_agree j i l = ap (λ t. eqb i j || t) (a i l)

  pub moved_agree : (rise : ℕ) → Agree w (moved w rise M) (moved w rise N)
  moved_agree rise i l = go (leb (rise + i) w) refl
    where
      go : (b : Bool) → leb (rise + i) w ≡ b → b && M (rise + i) ≡ b && N (rise + i)
      go true e = a (rise + i) (leb-true (rise + i) w e)
      go false e = refl

  onward_agree : (E : ℕ) (b : Bool) (o : Option (List ℕ)) (n : ℕ) → Agree w (onward E b o n M) (onward E b o n N)
  onward_agree E true (Some v) n = also_agree (n + needs E v)
  onward_agree E true None n = a
  onward_agree E false o n = a

pub pass_agree : (w E : ℕ) (see : View) (M N : Starts) → Agree w M N → (n : ℕ) → n ≤ w → Agree w (pass E see n M) (pass E see n N)
unfolding pass
pass_agree w E see M N a zero h i l = a i l
pass_agree w E see M N a (suc n) h i l =
    let f = pass_agree w E see M N a n (omega arith) in
    ap (λ b. onward E b (see n) n (pass E see n M) i) (f n (omega arith))
    ∙ onward_agree w (pass E see n M) (pass E see n N) f E (pass E see n N n) (see n) n i l
