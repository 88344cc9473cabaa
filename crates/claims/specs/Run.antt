-- A list of packet calls from a fresh receiver, each as its promise allows (without the draws: `answer_of`), and the history that the list makes.
use Rattle.std.specs.Prelude.{◌∷◌, Result}
use Rattle.words.specs.Words.{ℕ, List, length, []}
use Rattle.wire.specs.declared.Setting.{Setting}
use Rattle.history.specs.History.{Call, OfBytes, Reading, Log, fresh, read_after, logged}
use Rattle.wire.specs.Answers.{said}
use Rattle.receiver.specs.Promises.{Layout, Received}
use Rattle.wire.specs.declared.Refusal.{Refusal}

-- A call: the packet with its flow, the working memory lent and as it is left, the answer, and the receiver's memory after it.
pub record Step : Type 0 where
  pub call : Call
  pub working : List ℕ
  pub left : List ℕ
  pub answer : Result ℕ Refusal
  pub memory : List ℕ

-- The calls one after the other, the first on the memory m, each on the memory that the last left.
abbrev pub Run : Layout → List ℕ → List Step → Type 0
Run L m [] = Unit {0}
Run L m (t ∷ ts) = OfBytes t.call × Received L t.call m t.memory t.working t.left t.answer × Run L t.memory ts

-- The memory after them.
abbrev pub final : List ℕ → List Step → List ℕ
final m [] = m
final m (t ∷ ts) = final t.memory ts

module _ (s : Setting) (flows : List ℕ) where
  -- What the checks before 11 make of a call, where these flows are announced.
  abbrev pub read : Log → Step → Reading
  read l t = read_after s flows l (length t.working) t.call

  -- The history of a list of calls, from their packets and answers alone.
  abbrev pub goes_on : Log → List Step → Log
  goes_on l [] = l
  goes_on l (t ∷ ts) = goes_on (logged s l (read l t) (said t.answer)) ts

  abbrev pub history : List Step → Log
  history ts = goes_on fresh ts
