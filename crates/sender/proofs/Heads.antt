-- The header of a sender: what reading it finds, what refusal 3 stands for, and what writing it leaves.
-- sizes: header-room, area
-- reading: found, none_short, none_held, none_next, none-setting; opened (record Opened)
-- refusal 3: holds_header, zeros_unopened, other_unopened, short_unopened
-- writing: part_head, header_kept, flows_kept; counts_chain, counts_held, counts_next, counts-esi, counts-written, counts-flows
use Rattle.std.specs.Prelude.{◌≡◌, ◌≤◌, ◌+◌, ◌<◌, ◌*◌, ◌++◌, ◌^◌, ◌&&◌}
use Rattle.words.specs.Words.{arith, ℕ, List, length, refl, ◌∙◌, sym, ap, Some, true, None, false, Bool, Option, take, ltb}
use Rattle.words.specs.Words.{leb, le-leb, some-injective, none-ne-some, lt-leb, lt-ltb, zero-add, leb-true, le-ltb, ltb-true, length-take}
use Rattle.words.specs.Words.{mul-le-mul}
use lib.Seq.{take-take}
use Rattle.memory.specs.Part.{part, splice}
use Rattle.memory.specs.Number.{number, bytes}
use Rattle.memory.proofs.Number.{number-bytes}
use Rattle.memory.proofs.Parts.{length-splice, take-splice, part-within, part-past, part-part, splice_next}
use Rattle.wire.specs.declared.Setting.{Setting}
use Rattle.wire.specs.Packets.{zeros}
use Rattle.wire.specs.Flows.{flows_in}
use Rattle.wire.specs.Settings.{Valid}
use Rattle.wire.specs.Stored.{setting_in}
use Rattle.wire.proofs.Settings.{both, setting-found, setting_kept, zeros-none, one_kind}
use Rattle.sender.specs.declared.Header.{Header}
use Rattle.sender.specs.State.{Sender, header_size, memory_size, header_with, header_in, header_of, Holds}
use Rattle.sender.specs.Inner.{count_bytes}

-- ---- sizes

-- the numbers of the header and the flows lie in it
pub header-room : 64 ≤ header_size
unfolding header_size
header-room = omega arith

-- and the slots are far from filling a usize
pub area : (t : Setting) → Valid t → t.width * t.size ≤ 382500
area t v = mul-le-mul v.width_most v.size_most

-- ---- reading

-- the header's numbers, of a memory with a setting
abbrev pub numbers : Setting → List ℕ → Header
numbers t m = record { setting = t; held = number (part 8 2 m); next = number (part 10 2 m); esi = record { 0 = number (part 12 4 m) } }

-- what a header that was found says of the memory
pub record Opened (m : List ℕ) (h : Header) : Type 0 where
  pub setting : setting_in 1 m ≡ Some h.setting
  pub is : numbers h.setting m ≡ h
  pub valid : Valid h.setting
  pub room : memory_size h.setting ≤ length m
  pub held : h.held ≤ h.setting.width
  pub next : h.next < h.setting.width

module _ (m : List ℕ) (t : Setting) (e : setting_in 1 m ≡ Some t) where
  pub found : memory_size t ≤ length m → number (part 8 2 m) ≤ t.width → number (part 10 2 m) < t.width → header_in m ≡ Some (numbers t m)
  unfolding header_in
  found a b c = rw (e, le-leb (memory_size t) (length m) a, le-leb (number (part 8 2 m)) t.width b, lt-ltb (number (part 10 2 m)) t.width c)

  pub none_short : length m < memory_size t → header_in m ≡ None
  unfolding header_in
  none_short a = rw (e, lt-leb (memory_size t) (length m) a)

  pub none_held : memory_size t ≤ length m → t.width < number (part 8 2 m) → header_in m ≡ None
  unfolding header_in
  none_held a b = rw (e, le-leb (memory_size t) (length m) a, lt-leb (number (part 8 2 m)) t.width b)

  pub none_next : memory_size t ≤ length m → number (part 8 2 m) ≤ t.width → t.width ≤ number (part 10 2 m) → header_in m ≡ None
  unfolding header_in
  none_next a b c = rw (e, le-leb (memory_size t) (length m) a, le-leb (number (part 8 2 m)) t.width b, le-ltb (number (part 10 2 m)) t.width c)

pub none-setting : (m : List ℕ) → setting_in 1 m ≡ None → header_in m ≡ None
unfolding header_in
none-setting m e = rw e

opened_with : (m : List ℕ) (h : Header) (o : Option Setting) → setting_in 1 m ≡ o → header_with m o ≡ Some h → Opened m h
opened_with m h None s e = absurd (none-ne-some h e)
opened_with m h (Some t) s e = go (leb (memory_size t) (length m) && (leb (number (part 8 2 m)) t.width && ltb (number (part 10 2 m)) t.width)) refl
  where
    go : (b : Bool) → (leb (memory_size t) (length m) && (leb (number (part 8 2 m)) t.width && ltb (number (part 10 2 m)) t.width)) ≡ b → Opened m h
    go false f = absurd (none-ne-some h (rw f at e))
    go true f =
        let p = both (leb (memory_size t) (length m)) _ f in
        let q = both (leb (number (part 8 2 m)) t.width) _ p.1 in
        let i : numbers t m ≡ h = some-injective _ h (rw f at e) in
        rw (← i)
        (record {
          setting = s;
          is = refl;
          valid = (setting-found 1 m t s).named.valid;
          room = leb-true (memory_size t) (length m) p.0;
          held = leb-true (number (part 8 2 m)) t.width q.0;
          next = ltb-true (number (part 10 2 m)) t.width q.1;
        })

pub opened : (m : List ℕ) (h : Header) → header_in m ≡ Some h → Opened m h
unfolding header_in
opened m h e = opened_with m h (setting_in 1 m) refl e

-- ---- what refusal 3 stands for

-- memory that holds a sender has its header
pub holds_header : (m : List ℕ) (s : Sender) → Holds m s → header_in m ≡ Some (header_of s)
holds_header m s h = h.header

-- all_zero_bytes memory
pub zeros_unopened : (n : ℕ) → header_in (zeros n) ≡ None
zeros_unopened n = none-setting (zeros n) (zeros-none 1 n (omega arith))

-- memory with the header of another kind of end, as a receiver's, which is 2
pub other_unopened : (kind : ℕ) (m : List ℕ) (t : Setting) → (kind ≡ 1 → ⊥) → setting_in kind m ≡ Some t → header_in m ≡ None
other_unopened kind m t h e = none-setting m (one_kind kind 1 m t h e)

-- memory of a sender cut shorter than opening asked
pub short_unopened : (m : List ℕ) (s : Sender) (n : ℕ) → Holds m s → n < memory_size s.setting → header_in (take n m) ≡ None
short_unopened m s n h l = go (setting_in 1 (take n m)) refl
  where
    go : (o : Option Setting) → setting_in 1 (take n m) ≡ o → header_in (take n m) ≡ None
    go None e = none-setting (take n m) e
    go (Some t) e =
        let c : length (take n m) ≤ n = simp length-take (omega arith) in
        let long = (setting-found 1 (take n m) t e).long in
        let f : setting_in 1 (take n m) ≡ setting_in 1 m = setting_kept 1 (take n m) m (take-take 8 n m (omega arith)) in
        let i : t ≡ s.setting = some-injective t s.setting (sym e ∙ f ∙ (opened m (header_of s) h.header).setting) in
        none_short (take n m) t e (rw i (omega arith))

-- ---- writing

part_head : (a n : ℕ) (m m' : List ℕ) → a + n ≤ header_size → take header_size m ≡ take header_size m' → part a n m ≡ part a n m'
unfolding part
part_head a n m m' h e =
    let f : (l : List ℕ) → part a n (take header_size l) ≡ part a n l = λ l. rw zero-add at (part-part 0 header_size a n l h) in
    sym (f m) ∙ ap (part a n) e ∙ f m'

-- the header is in its bytes
pub header_kept : (m m' : List ℕ) (h : Header) → take header_size m' ≡ take header_size m → length m' ≡ length m → header_in m ≡ Some h
    → header_in m' ≡ Some h
header_kept m m' h e l o =
    let least = header-room in
    let a = opened m h o in
    let front : take 8 m' ≡ take 8 m = sym (take-take 8 header_size m' (omega arith)) ∙ ap (take 8) e ∙ take-take 8 header_size m (omega arith) in
    let s = setting_kept 1 m' m front in
    let x = part_head 8 2 m' m (omega arith) e in
    let y = part_head 10 2 m' m (omega arith) e in
    let i : numbers h.setting m' ≡ h = rw (x, y, part_head 12 4 m' m (omega arith) e) a.is in
    let held : number (part 8 2 m') ≡ h.held = ap (λ (k : Header). k.held) i in
    let next : number (part 10 2 m') ≡ h.next = ap (λ (k : Header). k.next) i in
    found m' h.setting (s ∙ a.setting) (rw l a.room) (rw held a.held) (rw next a.next) ∙ ap Some i

-- and so are the flows
pub flows_kept : (m m' : List ℕ) → take header_size m' ≡ take header_size m → flows_in m' ≡ flows_in m
unfolding flows_in
flows_kept m m' e = part_head 32 32 m' m header-room e

module _ (held next esi : ℕ) where
  -- stores of the numbers one after the other
  pub counts_chain : {m₁ m₂ m₃ : List ℕ} (m : List ℕ) → 8 ≤ length m
      → m₁ ≡ splice 8 (bytes 2 held) m → m₂ ≡ splice 10 (bytes 2 next) m₁ → m₃ ≡ splice 12 (bytes 4 esi) m₂
      → m₃ ≡ splice 8 (count_bytes held next esi) m
  counts_chain m h e₁ e₂ e₃ =
      rw (e₃, e₂, e₁, splice_next 8 (bytes 2 held) (bytes 2 next) m h, splice_next 8 (bytes 2 held ++ bytes 2 next) (bytes 4 esi) m h)

  counts_held : held < 2 ^ 16 → number (part 0 2 (count_bytes held next esi)) ≡ held
  unfolding part
  counts_held h = number-bytes 2 held h

  counts_next : next < 2 ^ 16 → number (part 2 2 (count_bytes held next esi)) ≡ next
  unfolding part
  counts_next h = number-bytes 2 next h

  counts-esi : esi < 2 ^ 32 → number (part 4 4 (count_bytes held next esi)) ≡ esi
  unfolding part
  counts-esi h = number-bytes 4 esi h

-- the numbers of the header that change were written
pub counts-written : (m : List ℕ) (t : Setting) (held next esi : ℕ) → setting_in 1 m ≡ Some t → Valid t → memory_size t ≤ length m
    → held ≤ t.width → next < t.width → esi < 2 ^ 32
    → header_in (splice 8 (count_bytes held next esi) m) ≡ Some (record { setting = t; held = held; next = next; esi = record { 0 = esi } })
counts-written m t held next esi e v room a b c =
    let least = header-room in
    let counts = count_bytes held next esi in
    let m' = splice 8 counts m in
    let s : setting_in 1 m' ≡ Some t = setting_kept 1 m' m (take-splice 8 8 counts m (omega arith) (omega arith)) ∙ e in
    let x : number (part 8 2 m') ≡ held = ap number (part-within 8 0 2 counts m (omega arith) (omega arith)) ∙ counts_held held next esi (omega arith) in
    let y : number (part 10 2 m') ≡ next = ap number (part-within 8 2 2 counts m (omega arith) (omega arith)) ∙ counts_next held next esi (omega arith) in
    let z : number (part 12 4 m') ≡ esi = ap number (part-within 8 4 4 counts m (omega arith) (omega arith)) ∙ counts-esi held next esi c in
    rw (x, y, z) at (found m' t s (rw (length-splice 8 counts m (omega arith)) room) (rw x a) (rw y b))

-- which leaves the flows
pub counts-flows : (held next esi : ℕ) (m : List ℕ) → 8 ≤ length m → flows_in (splice 8 (count_bytes held next esi) m) ≡ flows_in m
unfolding flows_in
counts-flows held next esi m h = part-past 32 32 8 (count_bytes held next esi) m (omega arith) h
