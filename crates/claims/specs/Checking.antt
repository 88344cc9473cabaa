-- What each packet call of every list answers, and where it leaves the base: from the packets' bytes in plain arithmetic.
use Rattle.std.specs.Prelude.{◌≡◌, ◌∷◌, ◌++◌, ◌⊎◌, Result}
use Rattle.words.specs.Words.{ℕ, List, length, [], Some}
use Rattle.wire.specs.declared.Setting.{Setting}
use Rattle.wire.specs.Settings.{setting_of}
use Rattle.wire.specs.Answers.{Said, value, refusal, said}
use Rattle.history.specs.History.{Reading, fails, located, esi_of, IsValue, base_for, base_of}
use Rattle.history.specs.Checking.{Checked}
use Rattle.history.specs.Rising.{BaseAfter}
use Rattle.receiver.specs.Promises.{Layout, Opened}
use Rattle.claims.specs.Run.{Step, Run, history}
use Rattle.wire.specs.declared.Refusal.{Refusal}

-- A call answers the number of the first check that fails; where none fails, it is accepted or a contradiction.
abbrev pub AnsweredBy : Reading → Said → Type 0
AnsweredBy (fails n) a = a ≡ refusal n
AnsweredBy (located q) a = IsValue a ⊎ (a ≡ refusal 11)

-- The call t, after the calls ts: the base that it finds is the one that they left, or else its packet's first ESI.
pub record CallChecked (s : Setting) (flows : List ℕ) (ts : List Step) (t : Step) : Type 0 where
  pub reading : Reading
  pub checked : Checked s flows (base_for (base_of s (history s flows ts)) (esi_of t.call)) (length t.working) t.call reading
  pub answered : AnsweredBy reading (said t.answer)

-- From memory on which opening has just answered 0.
abbrev pub AllChecked : Layout → Type 0
AllChecked L =
    (scheme E w : ℕ) (flows m₀ m : List ℕ) (a : Result ℕ Refusal) → Opened L scheme E w flows m₀ m a → said a ≡ value 0
    → (ts : List Step) (t : Step) → Run L m (ts ++ (t ∷ []))
    → (s : Setting) × (setting_of scheme E w ≡ Some s) × CallChecked s flows ts t

abbrev pub BaseRises : Layout → Type 0
BaseRises L =
    (scheme E w : ℕ) (flows m₀ m : List ℕ) (a : Result ℕ Refusal) → Opened L scheme E w flows m₀ m a → said a ≡ value 0
    → (ts : List Step) (t : Step) → Run L m (ts ++ (t ∷ []))
    → (s : Setting) × (setting_of scheme E w ≡ Some s)
    × BaseAfter s (base_of s (history s flows ts)) t.call (said t.answer) (base_of s (history s flows (ts ++ (t ∷ []))))
