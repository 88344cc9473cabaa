-- The header of a block: what reading it finds, what refusal 3 stands for, and what writing it leaves.
-- Answers handed on: handed_on. Reading: Headed, headed, found, none-setting. Refusal 3: zeros-none, one_kind, short_none.
-- Writing: block_written, none-taken, chain, block_kept.
use Rattle.std.specs.Prelude.{◌≡◌, ◌≤◌, ◌<◌, ◌++◌, Result, Ok, Err}
use Rattle.std.specs.Result.{result_ok, IsErrAnd}
use Rattle.words.specs.Words.{arith, ℕ, List, length, refl, ◌∙◌, sym, ap, Some, true, None, false, Bool, subst, Option, take, leb}
use Rattle.words.specs.Words.{le-leb, lt-leb, leb-true, some-injective, none-ne-some, length-take, zero-add}
use lib.Seq.{take-take}
use Rattle.memory.specs.Part.{part, splice}
use Rattle.memory.specs.Number.{number, bytes}
use Rattle.memory.proofs.Parts.{length-splice, part-within, part-part, take-splice}
use Rattle.memory.proofs.Number.{number-bytes}
use Rattle.wire.specs.declared.Setting.{Setting}
use Rattle.wire.specs.Stored.{setting_in, setting_bytes}
use Rattle.wire.specs.Packets.{zeros}
use Rattle.wire.proofs.Settings as wire
use Rattle.wire.proofs.Adui.{front_next}
use Rattle.history.specs.History.{memory_size}
use Rattle.blocks.specs.declared.Block.{Block}
use Rattle.blocks.specs.Block.{block_of, Valid, setting_for}
use Rattle.blocks.specs.Stored.{block_with, block_in, taken_in, block_bytes}
use Rattle.blocks.proofs.Values.{named_good, good_names, setting_valid}
use Rattle.wire.specs.declared.Refusal.{Refusal}

-- ---- What an answer that was handed on says

-- What a `?` hands on.
pub handed_on : {T E : Type 0} {r : Result T E} {w : E} → IsErrAnd r (λ y. y ≡ w) → r ≡ Err w
handed_on {r = Ok x} h = absurd h
handed_on {r = Err y} h = rw h

-- ---- Reading

-- The numbers that stand past the setting.
abbrev pub total_in : List ℕ → ℕ
total_in m = number (part 8 2 m)

abbrev pub number_in : List ℕ → ℕ
number_in m = number (part 12 4 m)

-- What a block that was found says of the memory.
pub record Headed (kind : ℕ) (m : List ℕ) (b : Block) : Type 0 where
  pub setting : Setting
  pub kinds : setting_in kind m ≡ Some setting
  pub size : setting.size ≡ b.size
  pub width : setting.width ≡ b.k
  pub valid : Valid b
  pub room : memory_size (setting_for b) ≤ length m

pub none-setting : (kind : ℕ) (m : List ℕ) → setting_in kind m ≡ None → block_in kind m ≡ None
unfolding block_in
none-setting kind m e = rw e

module _ (kind : ℕ) (m : List ℕ) (s : Setting) (e : setting_in kind m ≡ Some s) where
  pub none_short : length m < memory_size s → block_in kind m ≡ None
  unfolding block_in
  none_short h = rw (e, lt-leb (memory_size s) (length m) h)

  pub found : memory_size s ≤ length m → block_in kind m ≡ result_ok (block_of s.size s.width (total_in m) (number_in m))
  unfolding block_in
  found h = rw (e, le-leb (memory_size s) (length m) h)

headed-with : (kind : ℕ) (m : List ℕ) (b : Block) (o : Option Setting) → setting_in kind m ≡ o → block_with m o ≡ Some b → Headed kind m b
headed-with kind m b None s e = absurd (none-ne-some b e)
headed-with kind m b (Some t) s e = go (leb (memory_size t) (length m)) refl (block_of t.size t.width (total_in m) (number_in m)) refl
  where
    go : (x : Bool) → leb (memory_size t) (length m) ≡ x → (n : Result Block Refusal) → block_of t.size t.width (total_in m) (number_in m) ≡ n → Headed kind m b
    go false f n g = absurd (none-ne-some b (rw f at e))
    go true f (Err r) g = absurd (none-ne-some b (rw (f, g) at e))
    go true f (Ok c) g =
        let same : c ≡ b = some-injective c b (rw (f, g) at e) in
        let (is, v) = good_names t.size t.width (total_in m) (number_in m) b (g ∙ ap Ok same) in
        record {
          setting = t;
          kinds = s;
          size = ap (λ (y : Block). y.size) (sym is);
          width = ap (λ (y : Block). y.k) (sym is);
          valid = v;
          room = subst (λ y. memory_size (setting_for y) ≤ length m) (sym is) (leb-true (memory_size t) (length m) f);
        }

pub headed : (kind : ℕ) (m : List ℕ) (b : Block) → block_in kind m ≡ Some b → Headed kind m b
unfolding block_in
headed kind m b e = headed-with kind m b (setting_in kind m) refl e

-- ---- What refusal 3 stands for

-- All-zero memory.
pub zeros-none : (kind n : ℕ) → 0 < kind → block_in kind (zeros n) ≡ None
zeros-none kind n h = none-setting kind (zeros n) (wire.zeros-none kind n h)

-- Memory that was opened for anything else: with a header of another kind, of a block or not.
pub one_kind : (kind other : ℕ) (m : List ℕ) (s : Setting) → (kind ≡ other → ⊥) → setting_in kind m ≡ Some s → block_in other m ≡ None
one_kind kind other m s h e = none-setting other m (wire.one_kind kind other m s h e)

-- Memory that is cut shorter than opening asked for.
pub short_none : (kind : ℕ) (m : List ℕ) (b : Block) (n : ℕ) → block_in kind m ≡ Some b → n < memory_size (setting_for b) → block_in kind (take n m) ≡ None
short_none kind m b n e l = go (setting_in kind (take n m)) refl
  where
    h : Headed kind m b
    h = headed kind m b e

    go : (o : Option Setting) → setting_in kind (take n m) ≡ o → block_in kind (take n m) ≡ None
    go None f = none-setting kind (take n m) f
    go (Some t) f =
        let c : length (take n m) ≤ n = simp length-take (omega arith) in
        let long = (wire.setting-found kind (take n m) t f).long in
        let g : setting_in kind (take n m) ≡ setting_in kind m = wire.setting_kept kind (take n m) m (take-take 8 n m (omega arith)) in
        let i : t ≡ h.setting = some-injective t h.setting (sym f ∙ g ∙ h.kinds) in
        let same : memory_size t ≡ memory_size (setting_for b) = rw (i, h.size, h.width) in
        none_short kind (take n m) t f (omega (arith, same))

-- ---- Writing

module _ (kind : ℕ) (b : Block) (m : List ℕ) (small : kind < 65536) (v : Valid b) (room : memory_size (setting_for b) ≤ length m) where
  abbrev left : List ℕ
  left = splice 0 (block_bytes kind b) m

  long : length left ≡ length m
  unfolding block_bytes setting_bytes
  long = length-splice 0 (block_bytes kind b) m (omega arith)

  total-is : total_in left ≡ b.total
  unfolding block_bytes setting_bytes part
  total-is = let w = v.values in ap number (part-within 0 8 2 (block_bytes kind b) m (omega arith) (omega arith)) ∙ number-bytes 2 b.total (omega arith)

  number_is : number_in left ≡ b.number
  unfolding block_bytes setting_bytes part
  number_is = let w = v.values in ap number (part-within 0 12 4 (block_bytes kind b) m (omega arith) (omega arith)) ∙ number-bytes 4 b.number (omega arith)

  pub none-taken : taken_in left ≡ 0
  unfolding block_bytes setting_bytes part taken_in
  none-taken = ap number (part-within 0 10 2 (block_bytes kind b) m (omega arith) (omega arith))

  setting-is : setting_in kind left ≡ Some (setting_for b)
  unfolding block_bytes setting_bytes
  setting-is =
      let head = setting_bytes kind (setting_for b) in
      let rest = bytes 2 b.total ++ (bytes 2 0 ++ bytes 4 b.number) in
      let first = splice 0 head m in
      let n : length first ≡ length m = length-splice 0 head m (omega arith) in
      ap (setting_in kind) (sym (front_next 8 head rest m refl))
      ∙ wire.setting_kept kind (splice 8 rest first) first (take-splice 8 8 rest first (omega arith) (omega (arith, n)))
      ∙ wire.setting-written kind (setting_for b) m small (setting_valid b v)

  -- A header that was written reads as its block.
  pub block_written : block_in kind left ≡ Some b
  block_written =
      found kind left (setting_for b) setting-is (omega (arith, long))
      ∙ rw (total-is, number_is, named_good b.size b.k b.total b.number v.size_least v.size_most v.values)

part_front : (m : List ℕ) → part 8 2 (take 10 m) ≡ part 8 2 m
unfolding part
part_front m = rw zero-add at (part-part 0 10 8 2 m (omega arith))

-- Stores of the setting and of the numbers one after the other write the header.
pub chain : (kind : ℕ) (b : Block) (m : List ℕ) {m₁ m₂ m₃ m₄ : List ℕ} → m₁ ≡ splice 0 (setting_bytes kind (setting_for b)) m → m₂ ≡ splice 8 (bytes 2 b.total) m₁
    → m₃ ≡ splice 10 (bytes 2 0) m₂ → m₄ ≡ splice 12 (bytes 4 b.number) m₃ → m₄ ≡ splice 0 (block_bytes kind b) m
unfolding block_bytes setting_bytes
chain kind b m e₁ e₂ e₃ e₄ =
    let x = setting_bytes kind (setting_for b) in
    let y = bytes 2 b.total in
    let z = bytes 2 0 in
    rw (e₄, e₃, e₂, e₁, front_next 8 x y m refl, front_next 10 (x ++ y) z m refl, front_next 12 ((x ++ y) ++ z) (bytes 4 b.number) m refl)

-- The header is in its first bytes, but those of the ADUs taken.
pub block_kept : (kind : ℕ) (m m' : List ℕ) → length m' ≡ length m → take 10 m' ≡ take 10 m → part 12 4 m' ≡ part 12 4 m → block_in kind m' ≡ block_in kind m
unfolding block_in
block_kept kind m m' l e f =
    ap (block_with m') (wire.setting_kept kind m' m (front 8 (omega arith))) ∙ go (setting_in kind m)
  where
    front : (n : ℕ) → n ≤ 10 → take n m' ≡ take n m
    front n h = sym (take-take n 10 m' h) ∙ ap (take n) e ∙ take-take n 10 m h

    total : part 8 2 m' ≡ part 8 2 m
    total = sym (part_front m') ∙ ap (part 8 2) e ∙ part_front m

    go : (o : Option Setting) → block_with m' o ≡ block_with m o
    go None = refl
    go (Some s) = rw (l, total, f)
