-- From the case that a call came to, to what it promises.
-- Any call: kept, promise_unopened, promise_refused, promise_done. What each call comes to: opening_bad, opening_short, opening_done;
-- adding_short, adding_full, adding-long, adding_done; repairing_short, repairing_low, repairing_high, repairing_early, repairing_done.
use Rattle.std.specs.Prelude.{◌≡◌, ◌≤◌, ◌+◌, ◌<◌, Result, Ok, Err}
use Rattle.words.specs.Words.{arith, ℕ, List, length, refl, ◌∙◌, sym, ap, [], Some, true, None, false, subst, leb, le-leb, lt-leb}
use Rattle.words.specs.Words.{some-injective, none-ne-some, lt-ltb, le-ltb}
use Rattle.memory.specs.Part.{splice}
use Rattle.memory.specs.Contained.{Contained}
use Rattle.memory.proofs.Parts.{length-splice, past-splice}
use Rattle.wire.specs.declared.Refusal.{Refusal}
use Rattle.wire.specs.Numbers.{number_of}
use Rattle.wire.specs.Answers.{value}
use Rattle.history.specs.History.{memory_size}
use Rattle.blocks.specs.declared.Block.{Block}
use Rattle.blocks.specs.Block.{block_of, setting_for}
use Rattle.blocks.specs.Stored.{block_in}
use Rattle.blocks.specs.Identifiers.{source_packet, repair_packet}
use Rattle.block_encoder.specs.State.{Encoder, fresh, taken, symbol_of, Holds}
use Rattle.block_encoder.specs.Calls.{Outcome, refused, done, opening, adding, repairing}
use Rattle.block_encoder.specs.Promises.{RefusedWith, Follows, Kept, Promise}

pub kept : (n : Refusal) (m out : List ℕ) → RefusedWith (number_of n) m out (Err n) m out
kept n m out = record { answer = refl; memory = refl; output = refl }

-- ---- Any call

module _ (f : Encoder → Outcome) (m out : List ℕ) where
  -- No header.
  pub promise_unopened : block_in 3 m ≡ None → (r : Result ℕ Refusal) → RefusedWith 3 m out r m out → Promise f m out r m out
  promise_unopened e r k = record {
    unopened = λ _. k;
    kept = λ b q. absurd (none-ne-some b (sym e ∙ q));
    follows = λ s h. absurd (none-ne-some s.block (sym e ∙ h.header));
  }

  module _ (b : Block) (e : block_in 3 m ≡ Some b) where
    promise_opened : (r : Result ℕ Refusal) (m' out' : List ℕ) → Kept b m out r m' out'
        → ((s : Encoder) → Holds m s → b ≡ s.block → Follows (f s) m out r m' out')
        → Promise f m out r m' out'
    promise_opened r m' out' c g = record {
      unopened = λ q. absurd (none-ne-some b (sym q ∙ e));
      kept = λ k q. subst (λ x. Kept x m out r m' out') (some-injective b k (sym e ∙ q)) c;
      follows = λ s k. g s k (some-injective b s.block (sym e ∙ k.header));
    }

    -- A refusal other than 3.
    pub promise_refused : (n : Refusal) → (number_of n ≡ 3 → ⊥) → ((s : Encoder) → Holds m s → b ≡ s.block → f s ≡ refused (number_of n))
        → Promise f m out (Err n) m out
    promise_refused n z g =
        promise_opened (Err n) m out
        (record { memory = record { same = refl; past = refl }; leaves = (z, refl, refl) })
        (λ s k q. rw (g s k q) (kept n m out))

    -- A packet of n bytes was written.
    pub promise_done : (packet : List ℕ) (n : ℕ) (m' out' : List ℕ) → length packet ≡ n → n ≤ length out → out' ≡ splice 0 packet out
        → Contained (memory_size (setting_for b)) m m'
        → ((s : Encoder) → Holds m s → b ≡ s.block → (s' : Encoder) × (f s ≡ done packet s') × Holds m' s' × (b ≡ s'.block))
        → Promise f m out (Ok n) m' out'
    promise_done packet n m' out' l k o c g =
        promise_opened (Ok n) m' out'
        (record {
          memory = c;
          leaves = (
            k,
            record {
              same = rw o (length-splice 0 packet out (omega arith));
              past = rw o (past-splice n 0 packet out (omega arith) (omega arith));
            },
          );
        })
        (λ s h q.
        let (s', d, holds, t) = g s h q in
        rw d (record { answer = ap value (sym l); output = o; holds = holds; memory = rw t at c }))

-- ---- Opening

module _ (E k total number : ℕ) (m : List ℕ) where
  pub opening_bad : (r : Refusal) → block_of E k total number ≡ Err r → opening E k total number (length m) ≡ refused (number_of r)
  unfolding opening
  opening_bad r e = rw e

  module _ (b : Block) (e : block_of E k total number ≡ Ok b) where
    pub opening_short : length m < memory_size (setting_for b) → opening E k total number (length m) ≡ refused 2
    unfolding opening
    opening_short h = rw (e, lt-leb (memory_size (setting_for b)) (length m) h)

    pub opening_done : memory_size (setting_for b) ≤ length m → opening E k total number (length m) ≡ done [] (fresh b)
    unfolding opening
    opening_done h = rw (e, le-leb (memory_size (setting_for b)) (length m) h)

-- ---- Adding an ADU, by what the header says: the block b, of which t ADUs are taken

module _ (flow : ℕ) (adu : List ℕ) (room : ℕ) (e : Encoder) where
  pub adding_short : leb (length adu + 6) room ≡ false → adding e flow adu room ≡ refused 2
  unfolding adding
  adding_short f = rw f

  module _ (f : leb (length adu + 6) room ≡ true) (b : Block) (q : b ≡ e.block) (t : ℕ) (c : t ≡ length e.symbols) where
    pub adding_full : b.k ≤ t → adding e flow adu room ≡ refused 18
    unfolding adding
    adding_full h = rw (f, le-ltb (length e.symbols) e.block.k (rw (q, c) at h))

    module _ (n : t < b.k) where
      pub adding-long : b.size < 3 + length adu → adding e flow adu room ≡ refused 4
      unfolding adding
      adding-long h = rw (f, lt-ltb (length e.symbols) e.block.k (rw (q, c) at n), lt-leb (3 + length adu) e.block.size (rw q at h))

      pub adding_done : 3 + length adu ≤ b.size → adding e flow adu room ≡ done (source_packet b t adu) (taken e flow adu)
      unfolding adding
      adding_done h =
          rw (f, lt-ltb (length e.symbols) e.block.k (rw (q, c) at n), le-leb (3 + length adu) e.block.size (rw q at h), q, c)

-- ---- Making repair, the same way

module _ (esi room : ℕ) (e : Encoder) (b : Block) (q : b ≡ e.block) where
  pub repairing_short : leb (b.size + 6) room ≡ false → repairing e esi room ≡ refused 2
  unfolding repairing
  repairing_short f = rw (rw q at f)

  module _ (f : leb (b.size + 6) room ≡ true) where
    pub repairing_low : esi < b.k → repairing e esi room ≡ refused 18
    unfolding repairing
    repairing_low h = rw (rw q at f, lt-leb e.block.k esi (rw q at h))

    module _ (l : b.k ≤ esi) where
      above : leb e.block.k esi ≡ true
      above = le-leb e.block.k esi (rw q at l)

      pub repairing_high : b.total ≤ esi → repairing e esi room ≡ refused 18
      unfolding repairing
      repairing_high h = rw (rw q at f, above, le-ltb esi e.block.total (rw q at h))

      module _ (g : esi < b.total) (t : ℕ) (c : t ≡ length e.symbols) where
        pub repairing_early : t < b.k → repairing e esi room ≡ refused 7
        unfolding repairing
        repairing_early h =
            rw (
              rw q at f,
              above,
              lt-ltb esi e.block.total (rw q at g),
              lt-leb e.block.k (length e.symbols) (rw (q, c) at h),
            )

        pub repairing_done : b.k ≤ t → repairing e esi room ≡ done (repair_packet b esi (symbol_of e esi)) e
        unfolding repairing
        repairing_done h =
            rw (
              rw q at f,
              above,
              lt-ltb esi e.block.total (rw q at g),
              le-leb e.block.k (length e.symbols) (rw (q, c) at h),
              q,
            )
