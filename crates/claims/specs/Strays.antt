-- Flows that are not announced (document 02, No. 7): what is claimed of their packets and ADUs in every list of packet calls from a fresh receiver.
use Rattle.std.specs.Prelude.{◌≡◌, ◌∷◌, ◌++◌, ◌⊎◌, Result, Ok}
use Rattle.words.specs.Words.{ℕ, List, [], Some, true, false, Bool, cond, not}
use Rattle.wire.specs.declared.Setting.{Setting}
use Rattle.wire.specs.Settings.{setting_of}
use Rattle.wire.specs.Flows.{announced}
use Rattle.wire.specs.Answers.{Said, value, refusal, said}
use Rattle.history.specs.History.{Call, source-call, repair-call}
use Rattle.receiver.specs.Promises.{Layout, Opened, AduAnswered}
use Rattle.claims.specs.Run.{Step, Run, final, history}
use Rattle.wire.specs.declared.Refusal.{Refusal}

-- The call brings a source packet of a flow that is not announced.
abbrev pub is_stray : (flows : List ℕ) → Call → Bool
is_stray flows (source-call flow packet) = not (announced flows flow)
is_stray flows (repair-call packet) = false

-- The calls of a list but these.
abbrev pub without_strays : (flows : List ℕ) → List Step → List Step
without_strays flows [] = []
without_strays flows (t ∷ ts) = cond (is_stray flows t.call) (without_strays flows ts) (t ∷ without_strays flows ts)

-- They are refused so.
abbrev pub RefusedAsStray : Said → Type 0
RefusedAsStray a = (a ≡ refusal 2) ⊎ ((a ≡ refusal 5) ⊎ (a ≡ refusal 16))

-- Of the calls ts from the memory m on.
pub record StraysTold (L : Layout) (s : Setting) (flows m : List ℕ) (ts : List Step) : Type 0 where
  -- Each of them is refused.
  pub refused : (before : List Step) (t : Step) (after : List Step) → ts ≡ before ++ (t ∷ after)
      → is_stray flows t.call ≡ true → RefusedAsStray (said t.answer)
  -- Without them the list is one of calls too, with the same packets accepted, and so the same base, and the same
  -- memory at its end.
  pub runs : Run L m (without_strays flows ts)
  pub accepted : history s flows (without_strays flows ts) ≡ history s flows ts
  pub memory : final m (without_strays flows ts) ≡ final m ts
  -- Only an ADU of a flow that is announced is handed out, whatever the ESI.
  pub handed : (e : ℕ) (out out' : List ℕ) (flow n : ℕ) → AduAnswered L (final m ts) e out out' (Ok (flow, n))
      → announced flows flow ≡ true

-- From memory on which opening with these flows has just answered 0.
abbrev pub Strays : Layout → Type 0
Strays L =
    (scheme E w : ℕ) (flows m₀ m : List ℕ) (a : Result ℕ Refusal) → Opened L scheme E w flows m₀ m a → said a ≡ value 0
    → (ts : List Step) → Run L m ts
    → (s : Setting) × (setting_of scheme E w ≡ Some s) × StraysTold L s flows m ts
