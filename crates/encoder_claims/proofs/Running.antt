-- What an encoder's memory holds after every list of its calls, and that the source symbols taken have E bytes.
-- Index
--   impossible, below
--   symbols-append, ran: the list
--   opened_holds, run_holds, run_valid, run_held: from the opening on
--   wholes_at, calls-whole: the symbols
use Rattle.std.specs.Prelude.{◌≡◌, ◌≤◌, ◌+◌, ◌<◌, ◌∷◌, ◌++◌, Result, Ok, Err}
use Rattle.words.specs.Words.{arith, ℕ, List, length, refl, ◌∙◌, sym, ap, [], suc, true, zero, get_or, false, Bool, subst, leb, ltb}
use Rattle.words.specs.Words.{append_assoc, append-nil, dec_lt, lit<}
use Rattle.memory.specs.Number.{Bytes}
use Rattle.wire.specs.Packets.{source_symbols}
use Rattle.wire.specs.declared.Refusal.{Refusal}
use Rattle.wire.specs.Answers.{value, refusal, said}
use Rattle.history.specs.History.{memory_size}
use Rattle.history.proofs.Says.{Wholes}
use Rattle.history.proofs.Readings.{source-whole}
use Rattle.blocks.specs.Block.{block_of, Valid, setting_for}
use Rattle.blocks.proofs.Values.{block_from, good_names}
use Rattle.block_encoder.specs.State.{Encoder, fresh, taken, Holds}
use Rattle.block_encoder.specs.Calls.{Outcome, refused, done, unless, opening, adding}
use Rattle.block_encoder.specs.Promises.{Follows, Opens}
use Rattle.block_encoder.proofs.Promising.{opening_bad, opening_short, opening_done}
use Rattle.encoder_claims.specs.Run.{EncoderCall, added, repaired, Calls, memory_after, EncoderRun, symbols_of}
use Rattle.blocks.specs.declared.Block.{Block}

pub impossible : (n k : ℕ) → value n ≡ refusal k → ⊥
impossible n k e = let z : ◌≡◌ {A = ℕ} 0 1 = cc in omega arith

pub below : {P : Type 0} (a b : ℕ) → (a < b → P) → (b ≤ a → P) → P
below {P} a b f g = go (dec_lt a b)
  where
    go : Dec (a < b) → P
    go (yes l) = f l
    go (no l) = g (omega arith)

-- An outcome that is done passed its tests.
passed : (b : Bool) (n : ℕ) (o : Outcome) (p : List ℕ) (s : Encoder) → unless b n o ≡ done p s → o ≡ done p s
passed true n o p s e = e
passed false n o p s e = cc

-- ---- The list

-- The symbols of calls, and of those after them.
pub symbols-append : (E : ℕ) (k l : List EncoderCall) → symbols_of E (k ++ l) ≡ symbols_of E k ++ symbols_of E l
symbols-append E [] l = refl
symbols-append E (added flow adu out (Ok n) m' out' ∷ k) l =
    let new = source_symbols flow adu E in
    ap (λ (xs : List (List ℕ)). new ++ xs) (symbols-append E k l) ∙ sym (append_assoc new (symbols_of E k) (symbols_of E l))
symbols-append E (added flow adu out (Err n) m' out' ∷ k) l = symbols-append E k l
symbols-append E (repaired esi out r out' ∷ k) l = symbols-append E k l

module _ (E k total number : ℕ) where
  -- The encoder of the block that took these symbols.
  abbrev pub holding : List (List ℕ) → Encoder
  holding xs = record { block = block_from E k total number; symbols = xs }

  -- An ADU that was taken, and one that was refused.
  added_done : (xs : List (List ℕ)) (flow : ℕ) (adu : List ℕ) (n : ℕ) (m out m' out' : List ℕ) (o : Outcome) → adding (holding xs) flow adu (length out) ≡ o
      → Follows o m out (Ok n) m' out' → Holds m' (holding (xs ++ source_symbols flow adu E))
  unfolding adding
  added_done xs flow adu n m out m' out' (refused j) e f = absurd (impossible n j f.answer)
  added_done xs flow adu n m out m' out' (done p s) e f =
      let a = passed (leb (length adu + 6) (length out)) 2 _ p s e in
      let b = passed (ltb (length xs) k) 18 _ p s a in
      let c = passed (leb (3 + length adu) E) 4 _ p s b in
      let r : taken (holding xs) flow adu ≡ s = cc in
      rw r f.holds

  added-refused : (xs : List (List ℕ)) (m out m' out' : List ℕ) (n : Refusal) (o : Outcome) → Follows o m out (Err n) m' out' → Holds m (holding xs)
      → Holds m' (holding xs)
  added-refused xs m out m' out' n (refused j) f h = rw f.memory h
  added-refused xs m out m' out' n (done p s) f h = absurd (impossible (length p) _ (sym f.answer))

  -- The memory after some calls holds what they took, and the others go on from there.
  pub ran : (xs : List (List ℕ)) (m : List ℕ) (before after : List EncoderCall) → Holds m (holding xs) → Calls m (before ++ after)
      → Holds (memory_after m before) (holding (xs ++ symbols_of E before)) × Calls (memory_after m before) after
  ran xs m [] after h c = (rw append-nil h, c)
  ran xs m (added flow adu out (Ok n) m' out' ∷ l) after h (f, b, p, c) =
      let new = source_symbols flow adu E in
      let a = added_done xs flow adu n m out m' out' _ refl (p.follows (holding xs) h) in
      rw (← append_assoc xs new (symbols_of E l)) (ran (xs ++ new) m' l after a c)
  ran xs m (added flow adu out (Err n) m' out' ∷ l) after h (f, b, p, c) =
      ran xs m' l after (added-refused xs m out m' out' n (adding (holding xs) flow adu (length out)) (p.follows (holding xs) h) h) c
  ran xs m (repaired esi out r out' ∷ l) after h (p, c) = ran xs m l after h c

  -- ---- The opening

  opened_holds : (m m' : List ℕ) (r : Result ℕ Refusal) → Opens E k total number m r m' → said r ≡ value 0
      → Holds m' (holding []) × Valid (block_from E k total number)
  opened_holds m m' r f a = go (block_of E k total number) refl
    where
      comes : (o : Outcome) → opening E k total number (length m) ≡ o → Follows o m [] r m' []
      comes o e = subst (λ x. Follows x m [] r m' []) e f

      go : (x : Result Block Refusal) → block_of E k total number ≡ x → Holds m' (holding []) × Valid (block_from E k total number)
      go (Err w) q = absurd (impossible 0 _ (sym a ∙ (comes (refused _) (opening_bad E k total number m w q)).answer))
      go (Ok b) q =
          let (is, v) = good_names E k total number b q in
          below (length m) (memory_size (setting_for b))
          (λ l. absurd (impossible 0 2 (sym a ∙ (comes (refused 2) (opening_short E k total number m b q l)).answer)))
          (λ l. let g = comes (done [] (fresh b)) (opening_done E k total number m b q l) in
          (subst (λ x. Holds m' (fresh x)) is g.holds, subst Valid is v))

  module _ (l : List EncoderCall) (r : EncoderRun E k total number l) where
    pub run_holds : Holds r.after (holding [])
    run_holds = (opened_holds r.before r.after r.answer r.opened r.answered).0

    pub run_valid : Valid (block_from E k total number)
    run_valid = (opened_holds r.before r.after r.answer r.opened r.answered).1

    -- And the memory after the calls holds what they took.
    pub run_held : Holds (memory_after r.after l) (holding (symbols_of E l))
    run_held = (ran [] r.after l [] run_holds (rw append-nil r.calls)).0

-- ---- The symbols

wholes_append : (E : ℕ) (xs ys : List (List ℕ)) → Wholes E xs → Wholes E ys → Wholes E (xs ++ ys)
wholes_append E [] ys a b = b
wholes_append E (x ∷ xs) ys a b = (a.0, wholes_append E xs ys a.1 b)

pub wholes_at : (E : ℕ) (xs : List (List ℕ)) → Wholes E xs → (i : ℕ) → Bytes (get_or xs i [])
wholes_at E [] s i = λ b. lit< tt
wholes_at E (x ∷ xs) s zero = s.0.small
wholes_at E (x ∷ xs) s (suc i) = wholes_at E xs s.1 i

-- Those of some calls, of a list that keeps its promises.
pub calls-whole : (E : ℕ) → 0 < E → (m : List ℕ) (l after : List EncoderCall) → Calls m (l ++ after) → Wholes E (symbols_of E l)
calls-whole E z m [] after c = tt
calls-whole E z m (added flow adu out (Ok n) m' out' ∷ l) after (f, b, p, c) =
    wholes_append E (source_symbols flow adu E) (symbols_of E l) (source-whole flow adu E z f b) (calls-whole E z m' l after c)
calls-whole E z m (added flow adu out (Err n) m' out' ∷ l) after (f, b, p, c) = calls-whole E z m' l after c
calls-whole E z m (repaired esi out r out' ∷ l) after (p, c) = calls-whole E z m l after c
