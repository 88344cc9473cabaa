-- Opening, and taking an ADU: the memory afterwards holds the encoder that took it.
-- Sizes: symbols-room, symbol_room. Opening: opens. Taking: taken_is, took (record Took), added.
use Rattle.std.specs.Prelude.{◌≡◌, ◌≤◌, ◌+◌, ◌<◌, ◌∷◌, ◌*◌, ◌++◌, Ok}
use Rattle.words.specs.Words.{arith, ℕ, List, length, refl, ◌∙◌, sym, ap, [], Some, get_or, take}
use Rattle.words.specs.Words.{length-append, not-suc-le-zero, mul-le-mul, dec_lt, get_or-append, true, leb, leb-true}
use lib.Seq.{get_or_at}
use Rattle.memory.specs.Part.{part, splice}
use Rattle.memory.specs.Number.{number, bytes}
use Rattle.memory.specs.Contained.{Contained}
use Rattle.memory.proofs.Number.{number-bytes}
use Rattle.memory.proofs.Parts.{length-splice, past-splice, take-splice, part-splice, part-before, part-past, row_fits}
use Rattle.wire.specs.Stored.{setting_bytes}
use Rattle.wire.specs.Packets.{symbol_at}
use Rattle.history.specs.History.{memory_size}
use Rattle.blocks.specs.declared.Block.{Block}
use Rattle.blocks.specs.Block.{Valid, setting_for}
use Rattle.blocks.specs.Stored.{block_in, taken_in, block_bytes}
use Rattle.blocks.specs.Identifiers.{source_packet}
use Rattle.blocks.proofs.Symbols.{only_symbol, symbol_sized}
use Rattle.blocks.proofs.Stored.{block_written, none-taken, block_kept, headed}
use Rattle.block_encoder.specs.State.{Encoder, fresh, taken, Holds}
use Rattle.block_encoder.specs.Calls.{adding}
use Rattle.block_encoder.specs.Promises.{DoneWith, Adds}
use Rattle.block_encoder.proofs.Promising.{promise_done, adding_done}
use Rattle.block_encoder.proofs.Encoding.{source-length}

-- ---- Sizes

-- The source symbols lie in the memory that the block needs.
pub symbols-room : (b : Block) → 96 + b.k * b.size ≤ memory_size (setting_for b)
symbols-room b = let h : b.k * b.size ≤ b.k * (b.k + b.size + 4) = mul-le-mul (omega arith) (omega arith) in omega arith

pub symbol_room : (b : Block) (t : ℕ) → t < b.k → 96 + t * b.size + b.size ≤ memory_size (setting_for b)
symbol_room b t h = omega (arith, symbols-room b, row_fits b.k b.size t h)

-- ---- Opening

nothing : ◌≡◌ {A = List ℕ} [] (splice 0 [] [])
unfolding splice
nothing = refl

pub opens : (b : Block) (m : List ℕ) → Valid b → memory_size (setting_for b) ≤ length m
    → DoneWith [] (fresh b) m [] (Ok 0) (splice 0 (block_bytes 3 b) m) []
unfolding block_bytes setting_bytes
opens b m v room = record {
  answer = refl;
  output = nothing;
  holds = record {
    header = block_written 3 b m (omega arith) v room;
    count = none-taken 3 b m (omega arith) v room;
    few = omega arith;
    stored = λ i k. absurd (not-suc-le-zero k);
  };
  memory = record {
    same = length-splice 0 (block_bytes 3 b) m (omega arith);
    past = past-splice (memory_size (setting_for b)) 0 (block_bytes 3 b) m (omega arith) (omega arith);
  };
}

-- ---- Taking an ADU

-- How many ADUs were taken.
pub taken_is : (m : List ℕ) (n : ℕ) → n ≡ number (part 10 2 m) → n ≡ taken_in m
unfolding taken_in
taken_is m n e = e

-- The symbol y is put in place t, and then t + 1 is written as the number of ADUs taken.
pub record Took (b : Block) (flow : ℕ) (adu m m' : List ℕ) : Type 0 where
  pub memory : Contained (memory_size (setting_for b)) m m'
  pub holds : (e : Encoder) → Holds m e → b ≡ e.block → Holds m' (taken e flow adu)

module _ (b : Block) (flow t : ℕ) (adu m : List ℕ) (h : block_in 3 m ≡ Some b) (n : t < b.k) (l : 3 + length adu ≤ b.size) where
  abbrev y : List ℕ
  y = symbol_at flow adu b.size 0

  abbrev put : List ℕ
  put = splice (96 + t * b.size) y m

  abbrev m' : List ℕ
  m' = splice 10 (bytes 2 (t + 1)) put

  sized : length y ≡ b.size
  sized = symbol_sized flow adu b.size l

  room : memory_size (setting_for b) ≤ length m
  room = (headed 3 m b h).room

  end : 96 + t * b.size + b.size ≤ memory_size (setting_for b)
  end = symbol_room b t n

  same : length put ≡ length m
  same = length-splice (96 + t * b.size) y m (omega (arith, sized, room, end))

  front : take 10 m' ≡ take 10 m
  front = take-splice 10 10 (bytes 2 (t + 1)) put (omega arith) (omega (arith, room, same)) ∙ take-splice 10 (96 + t * b.size) y m (omega arith) (omega (arith, room, end))

  behind : part 12 4 m' ≡ part 12 4 m
  behind =
      part-past 12 4 10 (bytes 2 (t + 1)) put (omega arith) (omega (arith, room, same))
      ∙ part-before 12 4 (96 + t * b.size) y m (omega arith) (omega (arith, room, end))

  long : length m' ≡ length m
  long = length-splice 10 (bytes 2 (t + 1)) put (omega (arith, room, same)) ∙ same

  counted : taken_in m' ≡ t + 1
  unfolding taken_in
  counted =
      let v = (headed 3 m b h).valid.values in
      ap number (part-splice 10 (bytes 2 (t + 1)) put (omega (arith, room, same))) ∙ number-bytes 2 (t + 1) (omega (arith, n, v.1, v.2))

  -- The symbols before it, and itself.
  symbol : (i : ℕ) → part (96 + i * b.size) b.size m' ≡ part (96 + i * b.size) b.size put
  symbol i = part-past (96 + i * b.size) b.size 10 (bytes 2 (t + 1)) put (omega arith) (omega (arith, room, same))

  earlier : (i : ℕ) → i < t → part (96 + i * b.size) b.size m' ≡ part (96 + i * b.size) b.size m
  earlier i g =
      symbol i
      ∙ part-before (96 + i * b.size) b.size (96 + t * b.size) y m (omega (arith, row_fits t b.size i g)) (omega (arith, room, end))

  itself : part (96 + t * b.size) b.size m' ≡ y
  itself =
      symbol t ∙ ap (λ (i : ℕ). part (96 + t * b.size) i put) (sym sized) ∙ part-splice (96 + t * b.size) y m (omega (arith, room, end))

  stays : (xs : List (List ℕ)) → length xs ≡ t → ((i : ℕ) → i < length xs → part (96 + i * b.size) b.size m ≡ get_or xs i [])
      → (i : ℕ) → i < length (xs ++ (y ∷ [])) → part (96 + i * b.size) b.size m' ≡ get_or (xs ++ (y ∷ [])) i []
  stays xs c k i g = go (dec_lt i (length xs))
    where
      go : Dec (i < length xs) → part (96 + i * b.size) b.size m' ≡ get_or (xs ++ (y ∷ [])) i []
      go (yes a) = earlier i (omega arith) ∙ k i a ∙ sym (get_or-append xs (y ∷ []) [] i a)
      go (no a) =
          let e : i ≡ t = omega (arith, length-append xs (y ∷ [])) in
          ap (λ (j : ℕ). part (96 + j * b.size) b.size m') e ∙ itself ∙ sym (get_or_at xs y [] [] i (c ∙ sym e))

  pub took : t ≡ taken_in m → Took b flow adu m m'
  took c = record {
    memory = record {
      same = long;
      past = past-splice (memory_size (setting_for b)) 10 (bytes 2 (t + 1)) put (omega (arith, end)) (omega (arith, room, same))
          ∙ past-splice (memory_size (setting_for b)) (96 + t * b.size) y m (omega (arith, end, sized)) (omega (arith, room, end));
    };
    holds = λ e k q.
        let is : length e.symbols ≡ t = sym (c ∙ k.count) in
        let more : (taken e flow adu).symbols ≡ e.symbols ++ (y ∷ []) = rw (← q) (ap (λ (x : List (List ℕ)). e.symbols ++ x) (only_symbol flow adu b.size l)) in
        let count : length (taken e flow adu).symbols ≡ t + 1 = rw more (length-append e.symbols (y ∷ []) ∙ omega arith) in
        let s = rw (← q) at k.stored in
        record {
          header = block_kept 3 m m' long front behind ∙ k.header;
          count = counted ∙ sym count;
          few = omega (arith, count, ap (λ (x : Block). x.k) q);
          stored = rw (more, ← q) (stays e.symbols is s);
        };
  }

  -- The symbol was put, the number written, and the source packet.
  pub added : t ≡ taken_in m → (out m₁ m₂ out' : List ℕ) → leb (length adu + 6) (length out) ≡ true → m₁ ≡ put → m₂ ≡ splice 10 (bytes 2 (t + 1)) m₁
      → out' ≡ splice 0 (source_packet b t adu) out → Adds flow adu m out (Ok (length adu + 6)) m₂ out'
  added c out m₁ m₂ out' f e₁ e₂ o =
      let is : m₂ ≡ m' = e₂ ∙ ap (splice 10 (bytes 2 (t + 1))) e₁ in
      let k = took c in
      rw is
      (promise_done (λ e. adding e flow adu (length out)) m out b h (source_packet b t adu) (length adu + 6) m' out'
      (source-length b t adu) (leb-true (length adu + 6) (length out) f) o k.memory
      (λ e x q. (taken e flow adu, adding_done flow adu (length out) e f b q t (c ∙ x.count) n l, k.holds e x q, q)))
