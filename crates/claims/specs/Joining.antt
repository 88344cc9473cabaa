-- Joining a stream (document 02, No. 2): what is claimed of packet calls before any base, and of the starts after them.
use Rattle.std.specs.Prelude.{◌≡◌, ◌∷◌, ◌++◌, ◌≢◌, Result}
use Rattle.words.specs.Words.{ℕ, List, [], Some, None}
use Rattle.wire.specs.declared.Setting.{Setting}
use Rattle.wire.specs.Settings.{setting_of}
use Rattle.wire.specs.Answers.{value, refusal, said}
use Rattle.history.specs.History.{Located, source, repair, esi_of, joined_at, IsValue, base_of, Start}
use Rattle.receiver.specs.Promises.{Layout, Opened}
use Rattle.claims.specs.Run.{Step, Run, history}
use Rattle.wire.specs.declared.Refusal.{Refusal}

-- The call t, after calls that have left no base.
pub record JoinsBy (s : Setting) (flows : List ℕ) (ts : List Step) (t : Step) : Type 0 where
  -- 8 and 9 can't stop it.
  pub not_behind : said t.answer ≢ refusal 8
  pub not-far : said t.answer ≢ refusal 9
  -- Where it is accepted, the receiver has joined at the packet's own first ESI, and that is the base.
  pub joins : IsValue (said t.answer)
      → let l = history s flows (ts ++ (t ∷ [])) in
      (joined_at l ≡ Some (esi_of t.call)) × (base_of s l ≡ Some (esi_of t.call))
  -- Where it is refused, for whatever reason, there is still no base.
  pub stays : (n : ℕ) → said t.answer ≡ refusal n → base_of s (history s flows (ts ++ (t ∷ []))) ≡ None

-- From memory on which opening has just answered 0: every call before any base.
abbrev pub Joins : Layout → Type 0
Joins L =
    (scheme E w : ℕ) (flows m₀ m : List ℕ) (a : Result ℕ Refusal) → Opened L scheme E w flows m₀ m a → said a ≡ value 0
    → (ts : List Step) (t : Step) → Run L m (ts ++ (t ∷ []))
    → (s : Setting) × (setting_of scheme E w ≡ Some s) × (base_of s (history s flows ts) ≡ None → JoinsBy s flows ts t)

-- No source packet is among them.
abbrev pub AllRepair : List Located → Type 0
AllRepair [] = Unit {0}
AllRepair (source p symbols ∷ qs) = ⊥
AllRepair (repair p n coefficients symbols ∷ qs) = AllRepair qs

-- Only a source packet marks a start: before one is accepted, no position is.
abbrev pub Unmarked : Type 0
Unmarked = (s : Setting) (qs : List Located) → AllRepair qs → (p : ℕ) → ¬ Start s qs p
