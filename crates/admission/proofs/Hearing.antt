-- A packet is accepted: what is heard after it, and that the bytes which say so are no part of the state or of its marks.
-- Laws: hear_asks, accepted
use Rattle.std.specs.Prelude.{◌≡◌, ◌≤◌, ◌+◌, ◌<◌, ◌-◌, ◌%◌}
use Rattle.words.specs.Words.{arith, ℕ, length, List, ◌∙◌, sym, ap, subst, mod-add-mod}
use Rattle.wire.specs.declared.Setting.{Setting}
use Rattle.memory.specs.Contained.{Contained}
use Rattle.table.specs.Window.{row_offset, Fits}
use Rattle.table.proofs.Offsets.{header-long, flags_fit, row_end}
use Rattle.starts.specs.Starts.{Starts, seen}
use Rattle.starts.specs.Settled.{Settled}
use Rattle.marks.proofs.Only.{flag-inside}
use Rattle.origins.specs.Steps.{OnlyOrigins, Updated}
use Rattle.origins.proofs.Hearing.{hears_same}
use Rattle.history.specs.History.{memory_size}
use Rattle.history.specs.Model.{Joined}
use Rattle.holding.specs.declared.Header.{Header}
use Rattle.holding.specs.Layout.{MarksFrom}
use Rattle.holding.proofs.Headers.{memory_is}
use Rattle.admission.specs.declared.packet.Location.{Location}
use Rattle.admission.specs.Joining.{Based}
use Rattle.admission.specs.Steps.{SameMarks, SamePast, SameFlows, LocatedBy, Marked, Accepted}
use Rattle.admission.proofs.Joining.{based_fits}
use Rattle.admission.proofs.Gathering.{contained_more, contained_from}
use Rattle.admission.proofs.Marking.{SameState, state_holds, same_marks, count_again}
use Rattle.marks.specs.Marks as marks

-- ---- nothing but the bytes of origins has changed

module _ (w E : ℕ) (m m' : List ℕ) (pos : 0 < w) (o : OnlyOrigins w E m m') where
  origins_state : SameState w E m m'
  origins_state = record {
    size = o.size;
    header = λ k l n d. o.before k (omega (arith, header-long));
    rows = λ r k l n. o.before (row_offset w E r + k) (omega (arith, row_end w E r l, flags_fit w E));
  }

  origins_marks : SameMarks w E m m'
  origins_marks = record {
    header = λ k l n. o.before k (omega (arith, header-long));
    rows = λ r l. o.before (marks.flag_at w E r) (flag-inside w E r l);
  }

origins_contained : (s : Setting) (m m' : List ℕ) → OnlyOrigins s.width s.size m m' → Contained (memory_size s) m m'
origins_contained s m m' o = contained_from (memory_size s) m m' o.size (λ k h. o.past k (omega (arith, memory_is s)))

-- ---- a packet is accepted

-- What following it with the origins asks: with the packet's own symbols, at its place.
pub hear_asks : (h : Header) (at : Location) (own stay first n : ℕ) (m m₁ : List ℕ) → Based m h → LocatedBy h at own
    → Contained (memory_size h.setting) m m₁ → stay ≡ at.stay → first ≡ at.offset → n ≡ own
    → Fits at.shape.width at.shape.size m₁
    × (row_offset at.shape.width at.shape.size at.shape.width + at.shape.width ≤ length m₁)
    × (at.shape.oldest < at.shape.width) × (stay ≤ at.shape.width) × (first + n ≤ at.shape.width)
hear_asks h at own stay first n m m₁ has placed k is-stay is-first is-own =
    let (f, l, r) = count_again h at own m m₁ has placed k in
    let room : row_offset h.setting.width h.setting.size h.setting.width + h.setting.width ≤ length m₁ =
    omega (arith, memory_is h.setting, has.room, k.same) in
    (f, rw (placed.width, placed.size) room, l, omega (arith, is-stay, placed.stay), omega (arith, is-first, is-own, placed.room))

module _ (h : Header) (at : Location) (kept own count stay first n : ℕ) (work m m₁ m₂ : List ℕ) (head : Based m h) (placed : LocatedBy h at own)
    (f : Marked h at kept own count work m m₁) (past : SamePast h.setting.width h.setting.size m m₁)
    (flows : SameFlows m m₁)
    (u : Updated at.shape.width at.shape.size at.shape.oldest stay first n m₁ m₂)
    (is-stay : stay ≡ at.stay) (is-first : first ≡ at.offset) (is-own : n ≡ own) where
  -- By the header's setting.
  abbrev w : ℕ
  w = h.setting.width

  abbrev E : ℕ
  E = h.setting.size

  pos : 0 < w
  pos = (based_fits m h head).some_width

  u' : Updated w E at.shape.oldest at.stay at.offset own m₁ m₂
  u' = rw (is-stay, is-first, is-own, placed.width, placed.size) at u

  marks_kept : (s : Setting) (t : Joined s) (M : Starts) → 0 < s.width → OnlyOrigins s.width s.size m₁ m₂ → MarksFrom m₁ s t M → MarksFrom m₂ s t M
  marks_kept s t M z o k =
      let same = origins_marks s.width s.size m₁ m₂ z o in
      record {
        bytes = same_marks s.width s.size (t.base % s.width) m₁ m₂ M z same k.bytes;
        settled = subst (λ x. Settled s.size s.width (seen s.size s.width t.window) x M) (sym (same.header 11 (omega arith) (omega arith))) k.settled;
      }

  marked : Marked h at kept own count work m m₂
  marked = record {
    contained = contained_more f.contained (origins_contained h.setting m₁ m₂ u'.only);
    most = f.most;
    outcome = λ s t es is k row g.
        let (T, i, held, n, follow) = f.outcome s t es is k row g in
        let o = subst (λ (x : Header). OnlyOrigins x.setting.width x.setting.size m₁ m₂) is u'.only in
        let z = subst (λ (x : Header). 0 < x.setting.width) is pos in (
          T,
          i,
          state_holds s _ m₁ m₂ held (origins_state s.width s.size m₁ m₂ z o),
          n,
          λ M km. marks_kept s _ _ z o (follow M km),
        );
  }

  pub accepted : Accepted h at kept own count work m m₂
  accepted = record {
    marked = marked;
    flows = λ k l g. u'.only.before k (omega (arith, header-long)) ∙ flows k l g;
    hears = λ b H row k.
        let base : (b + at.rise) % w ≡ at.shape.oldest =
        sym (mod-add-mod b w at.rise) ∙ ap (λ x. (x + at.rise) % w) row ∙ ap (λ x. (h.oldest + at.rise) % x) (sym placed.width) ∙ sym placed.base in
        u'.hears b at.rise H base (placed.stay ∙ ap (λ x. x - at.rise) placed.width) (hears_same w E b m m₁ H pos past k);
  }
