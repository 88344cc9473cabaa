-- Laws of what may be read or not.
use Rattle.std.specs.Prelude.{◌≡◌}
use Rattle.words.specs.Words.{refl, Some, true, None, false, Bool, Option, cond, none-ne-some}
use Rattle.lines.specs.Reading.{on}

-- a test whose arms are the same
pub cond_same : {A : Type 0} (b : Bool) (x : A) → cond b x x ≡ x
cond_same true x = refl
cond_same false x = refl

-- what was read after a test: the test held
pub cond_some : {A : Type 0} (b : Bool) (o : Option A) (a : A) → cond b o None ≡ Some a → (b ≡ true) × (o ≡ Some a)
cond_some true o a e = (refl, e)
cond_some false o a e = (cc, cc)

-- what was read after a reading: that one read
pub on_some : {A B : Type 0} (o : Option A) (f : A → Option B) (b : B) → on o f ≡ Some b → (a : A) × (o ≡ Some a) × (f a ≡ Some b)
on_some (Some a) f b e = (a, refl, e)
on_some None f b e = absurd (none-ne-some b e)
