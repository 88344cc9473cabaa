-- Memory of one of the four kinds gives 3 to the calls of the others: its header names its kind.
-- Laws: kind_of; none-says: no header of a kind, and its calls say 3; four_kinds.
use Rattle.std.specs.Prelude.{◌≡◌, ◌<◌, ◌≢◌}
use Rattle.words.specs.Words.{arith, ℕ, List, refl, ◌∙◌, sym, ap, Some, None, subst, take, [], none-ne-some, length}
use Rattle.wire.specs.declared.Setting.{Setting}
use Rattle.wire.specs.Answers.{Said, refusal}
use Rattle.wire.specs.Stored.{setting_in}
use Rattle.wire.specs.Packets.{zeros}
use Rattle.wire.proofs.Settings.{zeros-none}
use Rattle.holding.proofs.Headers.{headed, none-setting}
use Rattle.claims.proofs.Left.{sender_in, sender_held, receiver_has}
use Rattle.claims.proofs.Unopened.{other_kind, says_three, sender_three, unopened}
use Rattle.blocks.specs.declared.Block.{Block}
use Rattle.blocks.specs.Stored.{block_in}
use Rattle.blocks.specs.Block.{block_of}
use Rattle.blocks.proofs.Values.{block_from, good_names}
use Rattle.blocks.proofs.Stored.{short_none}
use Rattle.block_encoder.specs.Promises.{Leaves}
use Rattle.block_receiver.specs.Layout.{block_layout}
use Rattle.encoder_claims.proofs.Running.{run_held}
use Rattle.recovery_claims.specs.FourKinds.{OfEncoder, OfRecovery, EncoderSays, by_add, by_repair, RecoverySays, by_packet, by_symbol, by_place, Kind, sender}
use Rattle.recovery_claims.specs.FourKinds.{receiver, encoder, recovery, Of, Says, FourKinds}
use Rattle.recovery_claims.proofs.Judging.{had_block, opened_stands, stands}
use Rattle.sender.proofs.Heads as heads
use Rattle.sender.specs.State as sender-state
use Rattle.blocks.proofs.Stored as blocks

-- ---- The header of each kind

abbrev kind_of : Kind → ℕ
kind_of sender = 1
kind_of receiver = 2
kind_of encoder = 3
kind_of recovery = 4

-- A recovery's memory was opened for its block.
pub recovery_header : (E k : ℕ) (m : List ℕ) → OfRecovery E k m → (b : Block) × (block_in 4 m ≡ Some b) × (b.size ≡ E) × (b.k ≡ k)
recovery_header E k m r =
    let (b, h) = had_block (block_of E k r.total r.number) (length r.before) (sym r.opened.answer ∙ r.answered) in
    let (is, v) = good_names E k r.total r.number b h in
    let g = stands block_layout b v r.calls r.after [] (opened_stands block_layout b v E k r.total r.number r.before r.after r.answer r.opened r.answered h) r.run in
    (b, subst (λ x. block_in 4 x ≡ Some b) (sym r.left) g.held.header, ap (λ (x : Block). x.size) is, ap (λ (x : Block). x.k) is)

encoder_header : (E k : ℕ) (m : List ℕ) → OfEncoder E k m → (b : Block) × (block_in 3 m ≡ Some b)
encoder_header E k m r =
    (block_from E k r.total r.number, subst (λ x. block_in 3 x ≡ Some (block_from E k r.total r.number)) (sym r.left) (run_held E k r.total r.number r.calls r.run).header)

has_kind : (kind : Kind) (m : List ℕ) → Of kind m → (s : Setting) × (setting_in (kind_of kind) m ≡ Some s)
has_kind sender m (t, s) = (_, (heads.opened m (sender-state.header_of (sender_in s)) (sender_held t m s).header).setting)
has_kind receiver m (E, w, r) = let h = receiver_has E w m r in (_, (headed m h.header h.here).setting)
has_kind encoder m (E, k, r) = let (b, h) = encoder_header E k m r in let g = blocks.headed 3 m b h in (g.setting, g.kinds)
has_kind recovery m (E, k, r) = let (b, h, s, w) = recovery_header E k m r in let g = blocks.headed 4 m b h in (g.setting, g.kinds)

-- ---- Without a header of its kind a call says 3

encoder_three : (m : List ℕ) → block_in 3 m ≡ None → (x : Said) → EncoderSays m x → x ≡ refusal 3
encoder_three m e x (by_add flow adu out a m' out' p) = (p.unopened e).answer
encoder_three m e x (by_repair esi out a out' p) = (p.unopened e).answer

recovery_three : (m : List ℕ) → block_in 4 m ≡ None → (x : Said) → RecoverySays m x → x ≡ refusal 3
recovery_three m e x (by_packet c m' v v' a p) = p.received.unopened.1 e
recovery_three m e x (by_symbol i a p) = p.unopened.1 e
recovery_three m e x (by_place i a p) = p.unopened.1 e

none-says : (kind : Kind) (m : List ℕ) → setting_in (kind_of kind) m ≡ None → (x : Said) → Says kind m x → x ≡ refusal 3
none-says sender m e x p = sender_three m (heads.none-setting m e) x p
none-says receiver m e x p = says_three m (none-setting m e) x p
none-says encoder m e x p = encoder_three m (blocks.none-setting 3 m e) x p
none-says recovery m e x p = recovery_three m (blocks.none-setting 4 m e) x p

-- With one it does not.
encoder_other : (m : List ℕ) (b : Block) → block_in 3 m ≡ Some b → (x : Said) → EncoderSays m x → x ≢ refusal 3
encoder_other m b e x (by_add flow adu out a m' out' p) z = (subst (λ y. Leaves y m out m' out') z (p.kept b e).leaves).0 refl
encoder_other m b e x (by_repair esi out a out' p) z = (subst (λ y. Leaves y m out m out') z (p.kept b e).leaves).0 refl

recovery_none : (m : List ℕ) (x : Said) → RecoverySays m x → x ≡ refusal 3 → block_in 4 m ≡ None
recovery_none m x (by_packet c m' v v' a p) z = p.received.unopened.0 z
recovery_none m x (by_symbol i a p) z = p.unopened.0 z
recovery_none m x (by_place i a p) z = p.unopened.0 z

own_kind : (kind : Kind) (m : List ℕ) → Of kind m → (x : Said) → Says kind m x → x ≢ refusal 3
own_kind sender m (t, s) x p = unopened.sender t m s x p
own_kind receiver m (E, w, r) x p = unopened.receiver E w m r x p
own_kind encoder m (E, k, r) x p = let (b, h) = encoder_header E k m r in encoder_other m b h x p
own_kind recovery m (E, k, r) x p = let (b, h, s, w) = recovery_header E k m r in λ z. none-ne-some b (sym (recovery_none m x p z) ∙ h)

-- No two kinds have one number.
apart : (kind other : Kind) → kind ≢ other → kind_of kind ≡ kind_of other → ⊥
apart sender sender n e = n refl
apart sender receiver n e = omega (arith, e)
apart sender encoder n e = omega (arith, e)
apart sender recovery n e = omega (arith, e)
apart receiver sender n e = omega (arith, e)
apart receiver receiver n e = n refl
apart receiver encoder n e = omega (arith, e)
apart receiver recovery n e = omega (arith, e)
apart encoder sender n e = omega (arith, e)
apart encoder receiver n e = omega (arith, e)
apart encoder encoder n e = n refl
apart encoder recovery n e = omega (arith, e)
apart recovery sender n e = omega (arith, e)
apart recovery receiver n e = omega (arith, e)
apart recovery encoder n e = omega (arith, e)
apart recovery recovery n e = n refl

some_number : (kind : Kind) → 0 < kind_of kind
some_number sender = omega arith
some_number receiver = omega arith
some_number encoder = omega arith
some_number recovery = omega arith

pub four_kinds : FourKinds
four_kinds = record {
  others = λ kind other m n o i x p.
      let (s, h) = has_kind kind m o in
      none-says other (take i m) (other_kind (kind_of kind) (kind_of other) m s i (apart kind other n) h) x p;
  own = own_kind;
  zero = λ kind n x p. none-says kind (zeros n) (zeros-none (kind_of kind) n (some_number kind)) x p;
  short = λ E k m r n l x p.
      let (b, h, s, w) = recovery_header E k m r in
      recovery_three (take n m) (short_none 4 m b n h (rw (s, w) l)) x p;
  part = λ m part f e a p q. q.unopened (recovery_none m.now _ (by_symbol e a p) (f _ (by_symbol e a p)));
}
