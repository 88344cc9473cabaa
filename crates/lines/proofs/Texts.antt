-- Laws of the text at the front of a line (`after`).
use Rattle.std.specs.Prelude.{◌≡◌, ◌∷◌, ◌++◌, ◌&&◌}
use Rattle.words.specs.Words.{ℕ, List, length, refl, [], Some, true, None, false, Bool, drop, take, cond, eqb, eq-eqb, eqb-true}
use lib.Pointwise.{pointwise}
use Rattle.lines.specs.Reading.{after}
use Rattle.lines.proofs.Options.{cond_some}

-- what is read after a text follows it in the line
pub after_text : (text l r : List ℕ) → after text l ≡ Some r → l ≡ text ++ r
unfolding after
after_text [] l r e = cc
after_text (t ∷ text) [] r e = cc
after_text (t ∷ text) (b ∷ l) r e =
    let p = cond_some (eqb b t) (after text l) r e in
    cc (eqb-true b t p.0, after_text text l r p.1)

-- and what follows a text is read after it
pub text-after : (text l : List ℕ) → after text (text ++ l) ≡ Some l
unfolding after
text-after [] l = refl
text-after (t ∷ text) l = rw (eq-eqb t t refl) (text-after text l)

-- a text is read where the line has its bytes at the front
after_is : (text l : List ℕ) → after text l ≡ cond (pointwise eqb (take (length text) l) text) (Some (drop (length text) l)) None
unfolding after
after_is [] l = refl
after_is (t ∷ text) [] = refl
after_is (t ∷ text) (b ∷ l) = rw (after_is text l) (go (eqb b t))
  where
    go : (e : Bool) → cond e (cond (pointwise eqb (take (length text) l) text) (Some (drop (length text) l)) None) None
        ≡ cond (e && pointwise eqb (take (length text) l) text) (Some (drop (length text) l)) None
    go true = refl
    go false = refl

pub after_found : (text l r : List ℕ) → pointwise eqb (take (length text) l) text ≡ true → r ≡ drop (length text) l → after text l ≡ Some r
after_found text l r h e = rw (after_is text l, h, e)

pub after_missing : (text l : List ℕ) → pointwise eqb (take (length text) l) text ≡ false → after text l ≡ None
after_missing text l h = rw (after_is text l, h)
