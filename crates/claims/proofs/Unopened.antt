-- What refusal 3 names: memory has no header of an end exactly where that end's calls say 3.
use Rattle.std.specs.Prelude.{◌≡◌, ◌≢◌, ◌≤◌}
use Rattle.words.specs.Words.{arith, ℕ, List, length, refl, ◌∙◌, sym, Some, None, subst, Option, take, none-ne-some, length-take}
use lib.Seq.{take-take}
use Rattle.wire.specs.declared.Setting.{Setting}
use Rattle.wire.specs.Stored.{setting_in}
use Rattle.wire.proofs.Settings.{setting-found, setting_kept, one_kind}
use Rattle.wire.specs.Answers.{Said, refusal}
use Rattle.sender.specs.State.{header_size}
use Rattle.holding.specs.declared.Header.{Header}
use Rattle.holding.specs.Header.{header_in}
use Rattle.holding.proofs.Headers.{headed, none-setting, zeros_unopened, short_unopened}
use Rattle.claims.specs.AnyMemory.{NoReceiver, all_zero_bytes, of_sender, short_receiver, NoSender, all_zeros, of_receiver, short_sender}
use Rattle.claims.specs.AnyMemory.{ReceiverSays, by_packet, by_symbol, by_place, by_adu, SenderSays, by_add, by_repair, Unopened}
use Rattle.claims.proofs.Left.{sender_in, sender_held, receiver_has}
use Rattle.sender.specs.declared.Header as sender-header
use Rattle.sender.specs.State as sender
use Rattle.sender.specs.Promises as promises
use Rattle.sender.proofs.Heads as heads

-- The first bytes of a memory of one kind, few or all, are of no other kind.
pub other_kind : (kind other : ℕ) (m : List ℕ) (s : Setting) (n : ℕ) → (kind ≡ other → ⊥) → setting_in kind m ≡ Some s → setting_in other (take n m) ≡ None
other_kind kind other m s n h e = go (setting_in other (take n m)) refl
  where
    go : (o : Option Setting) → setting_in other (take n m) ≡ o → setting_in other (take n m) ≡ None
    go None k = k
    go (Some u) k =
        let c : length (take n m) ≤ n = simp length-take (omega arith) in
        let long = (setting-found other (take n m) u k).long in
        setting_kept other (take n m) m (take-take 8 n m (omega arith)) ∙ one_kind kind other m s h e

-- ---- A receiver's calls

receiver_none : (m : List ℕ) → NoReceiver m → header_in m ≡ None
receiver_none m (all_zero_bytes n) = zeros_unopened n
receiver_none m (of_sender t m₀ s n) =
    none-setting (take n m₀) (other_kind 1 2 m₀ t n (λ z. omega arith) (heads.opened m₀ (sender.header_of (sender_in s)) (sender_held t m₀ s).header).setting)
receiver_none m (short_receiver E width m₀ r n l) =
    let h = receiver_has E width m₀ r in
    short_unopened m₀ h.header n h.here (rw (h.wide, h.size) (omega (arith, l)))

pub says_three : (m : List ℕ) → header_in m ≡ None → (x : Said) → ReceiverSays m x → x ≡ refusal 3
says_three m e x (by_packet c m' v v' a p) = p.received.unopened.1 e
says_three m e x (by_symbol i a p) = p.unopened.1 e
says_three m e x (by_place i a p) = p.unopened.1 e
says_three m e x (by_adu i out out' a p) = p.unopened.1 e

three-says : (m : List ℕ) (x : Said) → ReceiverSays m x → x ≡ refusal 3 → header_in m ≡ None
three-says m x (by_packet c m' v v' a p) = p.received.unopened.0
three-says m x (by_symbol i a p) = p.unopened.0
three-says m x (by_place i a p) = p.unopened.0
three-says m x (by_adu i out out' a p) = p.unopened.0

-- ---- A sender's calls

sender_none : (m : List ℕ) → NoSender m → sender.header_in m ≡ None
unfolding header_size
sender_none m (all_zeros n) = heads.zeros_unopened n
sender_none m (of_receiver E width m₀ r n) =
    let h = receiver_has E width m₀ r in
    heads.none-setting (take n m₀) (other_kind 2 1 m₀ h.header.setting n (λ z. omega arith) (headed m₀ h.header h.here).setting)
sender_none m (short_sender t m₀ s n l) = heads.short_unopened m₀ (sender_in s) n (sender_held t m₀ s) (omega (arith, l))

pub sender_three : (m : List ℕ) → sender.header_in m ≡ None → (x : Said) → SenderSays m x → x ≡ refusal 3
sender_three m e x (by_add flow adu out a m' out' p) = (p.unopened e).answer
sender_three m e x (by_repair key dt count out a out' p) = (p.repairs.unopened e).answer

sender_other : (m : List ℕ) (h : sender-header.Header) → sender.header_in m ≡ Some h → (x : Said) → SenderSays m x → x ≢ refusal 3
sender_other m h e x (by_add flow adu out a m' out' p) z = (subst (λ y. promises.Leaves y m out m' out') z (p.kept h e).leaves).0 refl
sender_other m h e x (by_repair key dt count out a out' p) z = (subst (λ y. promises.Leaves y m out m out') z (p.repairs.kept h e).leaves).0 refl

pub unopened : Unopened
unopened = record {
  no_receiver = λ m k x p. says_three m (receiver_none m k) x p;
  no_part = λ m part k e p. p.unopened (receiver_none m.now k);
  no_sender = λ m k x p. sender_three m (sender_none m k) x p;
  receiver = λ E width m r x p z. let h = receiver_has E width m r in none-ne-some h.header (sym (three-says m x p z) ∙ h.here);
  sender = λ t m s x p. sender_other m (sender.header_of (sender_in s)) (sender_held t m s).header x p;
}
