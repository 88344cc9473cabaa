-- A list of calls of one encoder, each as it promises, from an opening that answered 0; and the source symbols of the ADUs that it took.
use Rattle.std.specs.Prelude.{◌≡◌, ◌<◌, ◌∷◌, ◌++◌, Result, Ok, Err}
use Rattle.words.specs.Words.{ℕ, List, []}
use Rattle.memory.specs.Number.{Bytes}
use Rattle.wire.specs.Packets.{source_symbols}
use Rattle.wire.specs.Answers.{value, said}
use Rattle.block_encoder.specs.Promises.{Opens, Adds, Makes}
use Rattle.wire.specs.declared.Refusal.{Refusal}

-- A call of an encoder after its opening: what it was given, the answer, and the memory and output that it left; making repair leaves the memory.
pub data EncoderCall : Type 0 where
  added : (flow : ℕ) (adu out : List ℕ) (answer : Result ℕ Refusal) (m' out' : List ℕ) → EncoderCall
  repaired : (esi : ℕ) (out : List ℕ) (answer : Result ℕ Refusal) (out' : List ℕ) → EncoderCall

-- Each call keeps its promise, on the memory that the call before it left; flow and ADU are bytes.
abbrev pub Calls : List ℕ → List EncoderCall → Type 0
Calls m [] = Unit {0}
Calls m (added flow adu out r m' out' ∷ l) = (flow < 256) × Bytes adu × Adds flow adu m out r m' out' × Calls m' l
Calls m (repaired esi out r out' ∷ l) = Makes esi m out r out' × Calls m l

-- The memory that they leave.
abbrev pub memory_after : List ℕ → List EncoderCall → List ℕ
memory_after m [] = m
memory_after m (added flow adu out r m' out' ∷ l) = memory_after m' l
memory_after m (repaired esi out r out' ∷ l) = memory_after m l

-- The calls follow an opening that answered 0.
pub record EncoderRun (E k total number : ℕ) (l : List EncoderCall) : Type 0 where
  pub before : List ℕ
  pub after : List ℕ
  pub answer : Result ℕ Refusal
  pub opened : Opens E k total number before answer after
  pub answered : said answer ≡ value 0
  pub calls : Calls after l

-- The source symbols of the ADUs that the calls took, in order from ESI 0: flow, length and ADU, with zero bytes up to E.
abbrev pub symbols_of : (E : ℕ) → List EncoderCall → List (List ℕ)
symbols_of E [] = []
symbols_of E (added flow adu out (Ok n) m' out' ∷ l) = source_symbols flow adu E ++ symbols_of E l
symbols_of E (added flow adu out (Err n) m' out' ∷ l) = symbols_of E l
symbols_of E (repaired esi out r out' ∷ l) = symbols_of E l
