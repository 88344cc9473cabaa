-- What the promises say of any memory: the header that it has, or its want, decides.
use denote.Ref.{Bor}
use Rattle.std.specs.Prelude.{◌≡◌, ◌≤◌, ◌+◌, ◌⊎◌, Result}
use Rattle.words.specs.Words.{arith, ℕ, List, length, refl, ◌∙◌, sym, ap, [], Some, None, subst, Option, inl, inr}
use Rattle.words.specs.Words.{length-take, length-drop}
use Rattle.memory.specs.Part.{part, LiesAt}
use Rattle.wire.specs.declared.Setting.{Setting}
use Rattle.wire.specs.Answers.{value, said}
use Rattle.sender.specs.State.{Sender, header_size}
use Rattle.sender.specs.Calls.{Outcome}
use Rattle.sender.specs.Promises.{Kept, Promise}
use Rattle.starts.specs.Adu.{Leaves}
use Rattle.history.specs.History.{IsValue, Call}
use Rattle.holding.specs.declared.Header.{Header}
use Rattle.holding.specs.Header.{header_in}
use Rattle.holding.proofs.Finding.{by_header}
use Rattle.holding.proofs.Headers.{headed}
use Rattle.receiver.specs.Promises.{Layout, Draws, PacketAnswered, PartShown, PlaceAnswered}
use Rattle.claims.specs.AnyMemory.{ReceiverFits, SenderKeeps, PacketKeeps, AduKeeps, Lies, AnyMemory}
use Rattle.sender.specs.declared.Header as sender-header
use Rattle.sender.specs.State as sender-state
use Rattle.sender.specs.Promises as sender
use Rattle.sender.proofs.Heads as heads
use Rattle.wire.specs.declared.Refusal.{Refusal}

-- ---- A sender's calls

module _ (f : Sender → Outcome) (m out : List ℕ) (r : Result ℕ Refusal) (m' out' : List ℕ) where
  with-header : (h : sender-header.Header) → sender-state.header_in m ≡ Some h → Kept h m out r m' out' → SenderKeeps (said r) m out m' out'
  unfolding header_size
  with-header h e k = record {
    refused = λ n z. let l = subst (λ x. sender.Leaves x m out m' out') z k.leaves in (l.1, l.2);
    output = λ n z. (k.fits n z, record { same = k.output; past = subst (λ x. sender.Leaves x m out m' out') z k.leaves });
    memory = λ n z. let o = heads.opened m h e in (h.setting, record { values = o.valid; room = o.room }, k.memory);
  }

  sender_keeps : Promise f m out r m' out' → SenderKeeps (said r) m out m' out'
  sender_keeps p = go (sender-state.header_in m) refl
    where
      go : (o : Option sender-header.Header) → sender-state.header_in m ≡ o → SenderKeeps (said r) m out m' out'
      go None e =
          let k = p.unopened e in
          record {
            refused = λ n z. (k.memory, k.output);
            output = λ n z. absurd (subst IsValue (sym z ∙ k.answer) tt);
            memory = λ n z. absurd (subst IsValue (sym z ∙ k.answer) tt);
          }
      go (Some h) e = with-header h e (p.kept h e)

-- ---- A receiver's

fits : (m : List ℕ) (h : Header) → header_in m ≡ Some h → ReceiverFits h.setting (length m)
fits m h e = let k = headed m h e in record { values = k.valid; room = k.room }

module _ (L : Layout) where
  packet_keeps : (c : Call) (m m' v v' : List ℕ) (a : Result (ℕ × ℕ) Refusal) → PacketAnswered L c m m' v v' a → PacketKeeps a m v m' v'
  packet_keeps c m m' v v' a p =
      let q = p.received in
      record {
        refused = q.refused;
        unopened = λ z. q.untouched (q.unopened.0 z);
        within = λ z. by_header m _ (λ h e. let (k, j) = q.contained h e in (h.setting, fits m h e, k, j)) (λ e. absurd (z (q.unopened.1 e)));
        small = λ n d z. (subst (Draws c m) z p.draws).small;
      }

  -- A part that is whole, of some bytes, lies in the memory.
  whole-inside : (at n : ℕ) (m : List ℕ) → 1 ≤ n → length (part at n m) ≡ n → at + n ≤ length m
  unfolding part
  whole-inside at n m h e = omega (arith, simp (length-take, length-drop) at e)

  part_lies : (m r : Bor (List ℕ)) (e : ℕ) → PartShown L m r e
      → (r.now ≡ []) ⊎ ((at : ℕ) × (s : Setting) × Lies at s (length m.now) × LiesAt r m at s.size)
  part_lies m r e p = by_header m.now _ (λ h k. go h k (p.within h k) (p.whole h k)) (λ k. inl (p.unopened k))
    where
      go : (h : Header) → header_in m.now ≡ Some h → (r.now ≡ []) ⊎ ((at : ℕ) × LiesAt r m at h.setting.size)
          → (r.now ≡ []) ⊎ (length r.now ≡ h.setting.size)
          → (r.now ≡ []) ⊎ ((at : ℕ) × (s : Setting) × Lies at s (length m.now) × LiesAt r m at s.size)
      go h k (inl z) w = inl z
      go h k (inr x) (inl z) = inl z
      go h k (inr (at, l)) (inr w) =
          let f = fits m.now h k in
          let i = whole-inside at h.setting.size m.now (omega (arith, f.values.size_least)) (sym (ap length l.bytes) ∙ w) in
          inr (at, h.setting, record { fits = f; inside = i }, l)

  place_lies : (m : List ℕ) (e : ℕ) (a : Result ℕ Refusal) → PlaceAnswered L m e a → (at : ℕ) → said a ≡ value at → (s : Setting) × Lies at s (length m)
  place_lies m e a p at z =
      by_header m _ (λ h k. (h.setting, record { fits = fits m h k; inside = p.within h at k z }))
      (λ k. absurd (subst IsValue (sym z ∙ p.unopened.1 k) tt))

  adu_keeps : (out out' : List ℕ) (a : Result (ℕ × ℕ) Refusal) → Leaves out out' a → AduKeeps a out out'
  adu_keeps out out' a p = record {
    refused = λ r z. subst (Leaves out out') z p;
    output = λ flow n z. let (k, l, s, d) = subst (Leaves out out') z p in (k, l, record { same = s; past = d });
  }

  pub any_memory : AnyMemory L
  any_memory = record {
    adding = λ flow adu m out a m' out' p. sender_keeps _ m out a m' out' p;
    repairing = λ key dt count m out a out' p.
        (sender_keeps _ m out (sender.answer_of a) m out' p.repairs, λ n d z. (subst (sender.Draws key dt count m out') z p.draws).small);
    receiving = packet_keeps;
    symbol = λ m e a p. p.zero;
    part = part_lies;
    place = place_lies;
    adu = λ m e out out' a p. adu_keeps out out' a p.leaves;
  }
