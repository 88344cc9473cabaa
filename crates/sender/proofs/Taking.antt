-- Taking an ADU into the window: the header and the slots afterwards are those of the sender that took it.
use Rattle.std.specs.Prelude.{◌≡◌, ◌≤◌, ◌+◌, ◌-◌, ◌%◌, ◌*◌, ◌^◌, Ok}
use Rattle.words.specs.Words.{arith, ℕ, List, length, refl, ◌∙◌, sym, ap, [], Some, drop, mod-lt, some-injective}
use Rattle.words.specs.Words.{length-append, not-suc-le-zero, mod-add-mod, length-drop, lit<, min}
use native.Mathlib.Nat.{zero-mod}
use lib.Seq.{drop-nil}
use Rattle.memory.specs.Part.{part, splice}
use Rattle.memory.proofs.Parts.{part-drop, part-splice, length-splice, take-splice, past-splice}
use Rattle.wire.specs.declared.Setting.{Setting}
use Rattle.wire.specs.Settings.{Valid}
use Rattle.wire.specs.Stored.{setting_in, setting_bytes}
use Rattle.wire.specs.Flows.{flows_in}
use Rattle.wire.specs.Inner.{esi_after}
use Rattle.wire.specs.Packets.{symbol_count, source_symbols}
use Rattle.wire.proofs.Adui.{symbols_count}
use Rattle.wire.proofs.Settings.{setting-written, setting_kept}
use Rattle.sender.specs.declared.Header.{Header}
use Rattle.sender.specs.State.{Sender, window, window_start, fresh, taken, header_size, memory_size, header_in, header_of}
use Rattle.sender.specs.Promises.{DoneWith}
use Rattle.sender.specs.Inner.{count_bytes, Placed, Took}
use Rattle.sender.proofs.Heads.{header-room, opened, header_kept, flows_kept, counts-written, counts-flows}

-- the number of symbols in the window
pub held_is : (s : Sender) → length (window s) ≡ min (length s.symbols) s.setting.width
held_is s = length-drop (window_start s) s.symbols ∙ omega arith

capped : (T w n : ℕ) → min (min T w + n) w ≡ min (T + n) w
capped T w n = omega arith

-- a change of the header leaves what is past it
counts_past : (k : ℕ) (held next esi : ℕ) (m : List ℕ) → 16 ≤ k → 8 ≤ length m → drop k (splice 8 (count_bytes held next esi) m) ≡ drop k m
counts_past k held next esi m h l = past-splice k 8 (count_bytes held next esi) m (omega arith) l

-- the header of a sender that took an ADU
taken-header : (s : Sender) (flow : ℕ) (adu : List ℕ) (held next : ℕ)
    → let n = symbol_count s.setting.size (length adu) in
    held ≡ min (length (window s) + n) s.setting.width → next ≡ length (taken s flow adu).symbols % s.setting.width
    → header_of (taken s flow adu) ≡ record { setting = s.setting; held = held; next = next; esi = record { 0 = esi_after (length s.symbols % 2 ^ 32) n } }
taken-header s flow adu held next eh en =
    let T = length s.symbols in
    let n = symbol_count s.setting.size (length adu) in
    let w = s.setting.width in
    let c : length (taken s flow adu).symbols ≡ T + n =
    length-append s.symbols _ ∙ ap (λ (k : ℕ). T + k) (symbols_count flow adu s.setting.size) in
    let a : length (window (taken s flow adu)) ≡ held = held_is (taken s flow adu) ∙ rw (c, eh, held_is s) (sym (capped T w n)) in
    let b : (T + n) % 2 ^ 32 ≡ esi_after (T % 2 ^ 32) n = sym (mod-add-mod T (2 ^ 32) n) in
    rw (a, ← en, c, b)

-- a slot past the header
behind : (m m' : List ℕ) → drop header_size m' ≡ drop header_size m → (a n : ℕ) → part (header_size + a) n m' ≡ part (header_size + a) n m
behind m m' e a n = rw (part-drop header_size a n m', part-drop header_size a n m, e)

-- symbols were placed, and then the numbers of the header written
pub took : (h : Header) (flow : ℕ) (adu m m₁ : List ℕ) (next count held : ℕ) → header_in m ≡ Some h
    → count ≡ symbol_count h.setting.size (length adu) → held ≡ min (h.held + count) h.setting.width
    → Placed h.setting.size h.setting.width m h.next (source_symbols flow adu h.setting.size) m₁ next
    → Took h flow adu m (splice 8 (count_bytes held next (esi_after h.esi.0 count)) m₁)
took h flow adu m m₁ next count held o ec eh p =
    let least = header-room in
    let t = h.setting in
    let esi = esi_after h.esi.0 count in
    let m₂ = splice 8 (count_bytes held next esi) m₁ in
    let a = opened m h o in
    let v = a.valid in
    let room : memory_size t ≤ length m₁ = omega (arith, a.room, p.same) in
    let b = opened m₁ h (header_kept m m₁ h p.head p.same o) in
    let e = counts-written m₁ t held next esi b.setting v room (omega arith) p.within (mod-lt (h.esi.0 + count) (lit< tt)) in
    record {
      same = length-splice 8 (count_bytes held next esi) m₁ (omega arith) ∙ p.same;
      past = counts_past (memory_size t) held next esi m₁ (omega arith) (omega arith) ∙ p.past;
      holds = λ s k.
          let q = some-injective h (header_of s) (sym o ∙ k.header) in
          let p' = rw q at p in
          record {
            header = e ∙ ap Some (rw (ec, q) (sym (taken-header s flow adu held next (rw (ec, q) at eh) (p'.slot s.symbols refl))));
            flows = counts-flows held next esi m₁ (omega arith) ∙ flows_kept m m₁ p.head ∙ k.flows;
            slots = λ i a b.
                behind m₁ m₂ (counts_past header_size held next esi m₁ (omega arith) (omega arith)) (i % s.setting.width * s.setting.size) s.setting.size
                ∙ p'.slots s.symbols refl k.slots i a b;
          };
    }

-- ---- opening

nothing : ◌≡◌ {A = List ℕ} [] (splice 0 [] [])
unfolding splice
nothing = refl

-- the memory with the header of a fresh sender
abbrev pub begun : (t : Setting) (flows m : List ℕ) → List ℕ
begun t flows m = splice 8 (count_bytes 0 0 0) (splice 32 flows (splice 0 (setting_bytes 1 t) m))

pub opens : (t : Setting) (flows m : List ℕ) → length flows ≡ 32 → Valid t → memory_size t ≤ length m
    → DoneWith [] (fresh t flows) m [] (Ok 0) (begun t flows m) []
unfolding setting_bytes flows_in
opens t flows m f v room =
    let least = header-room in
    let m₁ = splice 0 (setting_bytes 1 t) m in
    let m₂ = splice 32 flows m₁ in
    let l : length m₁ ≡ length m = length-splice 0 (setting_bytes 1 t) m (omega arith) in
    let k : length m₂ ≡ length m = length-splice 32 flows m₁ (omega arith) ∙ l in
    let s : setting_in 1 m₂ ≡ Some t =
    setting_kept 1 m₂ m₁ (take-splice 8 32 flows m₁ (omega arith) (omega arith)) ∙ setting-written 1 t m (omega arith) v in
    let e = counts-written m₂ t 0 0 0 s v (rw k room) (omega arith) (omega arith) (lit< tt) in
    record {
      answer = refl;
      output = nothing;
      holds = record {
        header = e ∙ ap Some first;
        flows = counts-flows 0 0 0 m₂ (omega arith) ∙ rw f at (part-splice 32 flows m₁ (omega arith));
        slots = λ p k. absurd (not-suc-le-zero k);
      };
      length = length-splice 8 (count_bytes 0 0 0) m₂ (omega arith) ∙ k;
      past = counts_past (memory_size t) 0 0 0 m₂ (omega arith) (omega arith) ∙ past-splice (memory_size t) 32 flows m₁ (omega arith) (omega arith)
          ∙ past-splice (memory_size t) 0 (setting_bytes 1 t) m (omega arith) (omega arith);
    }
  where
    first : record { setting = t; held = 0; next = 0; esi = record { 0 = 0 } } ≡ header_of (fresh t flows)
    first = rw (zero-mod t.width, drop-nil {A = List ℕ} (0 - t.width))
