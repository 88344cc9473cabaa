-- What holds on any memory: it was opened for a block, or the call says 3.
-- Laws: any_memory.
use denote.Ref.{Bor}
use Rattle.std.specs.Prelude.{◌≡◌, ◌≤◌, ◌+◌, ◌⊎◌, Result, Ok, Err}
use Rattle.words.specs.Words.{ℕ, length, List, refl, ◌∙◌, sym, ap, [], Some, None, subst, Option, inl, inr, Bool}
use Rattle.memory.specs.Part.{LiesAt}
use Rattle.wire.specs.Answers.{value, said}
use Rattle.history.specs.History.{Call}
use Rattle.history.proofs.Cases.{IsRefusal, numeral}
use Rattle.receiver.specs.Answers.{shown_of}
use Rattle.blocks.specs.declared.Block.{Block}
use Rattle.blocks.specs.Stored.{block_in}
use Rattle.blocks.proofs.Stored.{headed}
use Rattle.block_encoder.specs.State.{Encoder}
use Rattle.block_encoder.specs.Calls.{Outcome}
use Rattle.block_encoder.specs.Promises.{Leaves, Promise}
use Rattle.block_receiver.specs.Promises.{PacketAnswered, PartShown, PlaceAnswered}
use Rattle.block_receiver.specs.Layout.{block_layout}
use Rattle.recovery_claims.specs.AnyMemory.{BlockFits, EncoderKeeps, RecoveryKeeps, Lies, AnyMemory}
use Rattle.wire.specs.declared.Refusal.{Refusal}

-- A memory was opened for a block of a kind, or not.
by_block : (kind : ℕ) (m : List ℕ) (A : Type 0) → ((b : Block) → block_in kind m ≡ Some b → A) → (block_in kind m ≡ None → A) → A
by_block kind m A x y = go (block_in kind m) refl
  where
    go : (o : Option Block) → block_in kind m ≡ o → A
    go None k = y k
    go (Some b) k = x b k

fits : (kind : ℕ) (m : List ℕ) (b : Block) → block_in kind m ≡ Some b → BlockFits b (length m)
fits kind m b e = let h = headed kind m b e in record { values = h.valid; room = h.room }

-- ---- An encoder's calls

module _ (f : Encoder → Outcome) (m out : List ℕ) (a : Result ℕ Refusal) (m' out' : List ℕ) (p : Promise f m out a m' out') where
  keeps : EncoderKeeps (said a) m out m' out'
  keeps =
      by_block 3 m (EncoderKeeps (said a) m out m' out')
      (λ b e.
      let k = p.kept b e in
      record {
        refused = λ n q. let (x, y, z) = subst (λ s. Leaves s m out m' out') q k.leaves in (y, z);
        output = λ n q. subst (λ s. Leaves s m out m' out') q k.leaves;
        memory = λ n q. (b, fits 3 m b e, k.memory);
      })
      (λ e.
      let r = p.unopened e in
      record {
        refused = λ n q. (r.memory, r.output);
        output = λ n q. absurd (subst IsRefusal (sym r.answer ∙ q) tt);
        memory = λ n q. absurd (subst IsRefusal (sym r.answer ∙ q) tt);
      })

-- ---- The calls of a recovery

received : (c : Call) (m m' v v' : List ℕ) (a : Result (ℕ × ℕ) Refusal) → PacketAnswered block_layout c m m' v v' a → RecoveryKeeps a m v m' v'
received c m m' v v' a p = record {
  refused = λ n q. p.received.refused n q;
  unopened = λ q. p.received.untouched (p.received.unopened.0 q);
  within = λ n.
      by_block 4 m _ (λ b e. let (x, y) = p.received.contained b e in (b, fits 4 m b e, x, y)) (λ e. absurd (n (p.received.unopened.1 e)));
  small = p.draws;
}

zero-only : (a : Result Bool Refusal) (n : ℕ) → said (shown_of a) ≡ value n → n ≡ 0
zero-only (Ok heard) n q = sym (ap numeral q)
zero-only (Err x) n q = absurd (subst IsRefusal q tt)

part_lies : (m shown : Bor (List ℕ)) (e : ℕ) → PartShown block_layout m shown e
    → (shown.now ≡ []) ⊎ ((at : ℕ) × (b : Block) × Lies at b (length m.now) × LiesAt shown m at b.size)
part_lies m shown e p = by_block 4 m.now _ (λ b k. go b k (p.within b k)) (λ k. inl (p.unopened k))
  where
    go : (b : Block) → block_in 4 m.now ≡ Some b → (shown.now ≡ []) ⊎ ((at : ℕ) × LiesAt shown m at b.size × (at + b.size ≤ length m.now))
        → (shown.now ≡ []) ⊎ ((at : ℕ) × (b : Block) × Lies at b (length m.now) × LiesAt shown m at b.size)
    go b k (inl x) = inl x
    go b k (inr (at, x, y)) = inr (at, b, record { fits = fits 4 m.now b k; inside = y }, x)

place_lies : (m : List ℕ) (e : ℕ) (a : Result ℕ Refusal) → PlaceAnswered block_layout m e a → (at : ℕ) → said a ≡ value at → (b : Block) × Lies at b (length m)
place_lies m e a p at q =
    by_block 4 m _ (λ b k. (b, record { fits = fits 4 m b k; inside = p.within b at k q }))
    (λ k. absurd (subst IsRefusal (sym (p.unopened.1 k) ∙ q) tt))

pub any_memory : AnyMemory
any_memory = record {
  adding = λ flow adu m out a m' out' p. keeps _ m out a m' out' p;
  repairing = λ esi m out a out' p. keeps _ m out a m out' p;
  receiving = received;
  symbol = λ m e a p n q. zero-only a n q;
  part = part_lies;
  place = place_lies;
}
