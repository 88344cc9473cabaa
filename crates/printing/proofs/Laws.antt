-- Laws of texts that are put into a buffer one after the other.
use Rattle.std.specs.Prelude.{◌≡◌, ◌≤◌, ◌+◌, ◌<◌, ◌-◌, ◌∷◌, ◌++◌, ◌^◌}
use Rattle.words.specs.Words.{arith, ℕ, List, length, refl, ◌∙◌, sym, ap, [], drop, add-one, length-append, set}
use Rattle.words.specs.Words.{append_assoc, length-set, length-take, drop-drop}
use lib.Seq.{take-suc-set, drop-set-lt}
use borrow.Rule.Slice.PartMut.{put_mid}
use Rattle.std.proofs.lemmas.Slice.{take-put_mid, drop-put_mid}
use Rattle.text.specs.Text.{decimal}
use Rattle.printing.specs.Printed.{record_line}
use Rattle.printing.specs.Inner.{Put}
use Rattle.text.proofs.Decimals.{decimal-length}

-- what is kept from a place on is kept from any later place on
pub past_more : (a b : List ℕ) (i j : ℕ) → i ≤ j → drop i a ≡ drop i b → drop j a ≡ drop j b
past_more a b i j h e =
    let n : i + (j - i) ≡ j = omega arith in
    ap (λ (k : ℕ). drop k a) (sym n) ∙ sym (drop-drop (j - i) i a) ∙ ap (drop (j - i)) e ∙ drop-drop (j - i) i b ∙ ap (λ (k : ℕ). drop k b) n

-- a text, and another from where it ends
pub put_then : {a b c : List ℕ} {at mid next : ℕ} {t u : List ℕ} → Put a b at mid t → Put b c mid next u → Put a c at next (t ++ u)
put_then {a} {b} {mid = mid} {next = next} p q = record {
  bytes = cc (append_assoc _ _ _);
  ends = rw length-append (omega arith);
  within = q.within;
  past = q.past ∙ past_more b a mid next (omega (arith, q.ends)) p.past;
}

-- a text that is copied
pub put_copy : (at : ℕ) (x m : List ℕ) → at + length x ≤ length m → Put m (put_mid at (at + length x - at) m x) at (at + length x) x
put_copy at x m h =
    let n : length x ≡ at + length x - at = omega arith in
    record {
      bytes = take-put_mid at _ m x _ refl (omega arith);
      ends = refl;
      within = simp (length-append, length-take) (omega arith);
      past = drop-put_mid at _ m x _ (omega arith) (omega arith) n;
    }

-- a byte that is stored
pub put_byte : (at v : ℕ) (m : List ℕ) → at < length m → Put m (set m at v) at (at + 1) (v ∷ [])
put_byte at v m h = record {
  bytes = rw add-one (take-suc-set m at v h);
  ends = refl;
  within = rw (length-set m at v) (omega arith);
  past = drop-set-lt (at + 1) m at v (omega arith);
}

-- where a name and a number end
pub put_room : (name : List ℕ) (n : ℕ) {a b : List ℕ} {at next : ℕ} → Put a b at next (name ++ decimal n) → n < 2 ^ 64
    → next ≤ at + (length name + 20)
put_room name n p h = omega (arith, p.ends, length-append name (decimal n), decimal-length n h)

-- how long the lines are
pub record_length : (n answer known : ℕ) → n < 2 ^ 64 → answer < 2 ^ 64 → known < 2 ^ 64 → length (record_line n answer known) ≤ 78
unfolding record_line
record_length n answer known h k l =
    simp length-append (omega (arith, decimal-length n h, decimal-length answer k, decimal-length known l))
