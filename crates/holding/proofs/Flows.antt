-- The flows that a memory keeps: what is stored there leaves the state, and what is stored elsewhere leaves them.
use Rattle.std.specs.Prelude.{◌≡◌, ◌≤◌, ◌+◌, ◌<◌}
use Rattle.words.specs.Words.{arith, ℕ, List, length, refl, ◌∙◌, sym, ap, Some, None, Option, get_or, subst, ext_get_or}
use Rattle.memory.specs.Part.{part, splice}
use Rattle.memory.proofs.Parts.{length_part, length-splice, take-splice, part-before, part-splice, get_or-part}
use Rattle.wire.specs.declared.Setting.{Setting}
use Rattle.wire.specs.Flows.{flows_in}
use Rattle.wire.specs.Stored.{setting_in}
use Rattle.wire.proofs.Settings.{setting_kept}
use Rattle.table.specs.Window.{Fits}
use Rattle.table.proofs.Offsets.{header-long}
use Rattle.table.proofs.Holding.{window-header}
use Rattle.history.specs.Model.{State}
use Rattle.holding.specs.Header.{header_with, header_in}
use Rattle.holding.specs.Layout.{header_of, Rows, Holds, HoldsWith}
use Rattle.holding.proofs.Headers.{headed, header_fits, setting-of}

-- They are 32 bytes.
pub flows-length : (m : List ℕ) (s : Setting) (flows : List ℕ) (t : State s) → HoldsWith m s flows t → length flows ≡ 32
unfolding flows_in
flows-length m s flows t h =
    let r = (headed m (header_of s t) h.holds.header).room in
    ap length (sym h.kept) ∙ length_part 32 32 m (omega (arith, r))

-- Bytes that are as they were keep them.
pub same_flows : (m m' : List ℕ) → 64 ≤ length m → length m' ≡ length m → ((k : ℕ) → 32 ≤ k → k < 64 → get_or m' k 0 ≡ get_or m k 0)
    → flows_in m' ≡ flows_in m
unfolding flows_in
same_flows m m' room l same =
    let a : length (part 32 32 m') ≡ 32 = length_part 32 32 m' (omega (arith, l)) in
    let b : length (part 32 32 m) ≡ 32 = length_part 32 32 m room in
    ext_get_or 0 (part 32 32 m') (part 32 32 m) (a ∙ sym b)
    (λ i h.
    let j : i < 32 = omega (arith, a) in
    get_or-part 32 32 i m' j ∙ same (32 + i) (omega arith) (omega arith) ∙ sym (get_or-part 32 32 i m j))

module _ (m : List ℕ) (s : Setting) (flows : List ℕ) (q : length flows ≡ 32) where
  -- Stored in a memory that is long enough, they leave the header.
  kept_header : 64 ≤ length m → header_in (splice 32 flows m) ≡ header_in m
  unfolding header_in
  kept_header room =
      ap (header_with (splice 32 flows m)) (setting_kept 2 (splice 32 flows m) m (take-splice 8 32 flows m (omega arith) (omega arith)))
      ∙ go (setting_in 2 m)
    where
      go : (o : Option Setting) → header_with (splice 32 flows m) o ≡ header_with m o
      go None = refl
      go (Some s) =
          rw (
            length-splice 32 flows m (omega (arith, q)),
            part-before 8 2 32 flows m (omega arith) (omega arith),
            part-before 12 4 32 flows m (omega arith) (omega arith),
          )

  -- And the rows.
  kept_rows : (t : State s) → Fits s.width s.size m → Rows m s t → Rows (splice 32 flows m) s t
  kept_rows None f r = λ b. window-header s.width s.size 32 b flows m _ f (omega (arith, q, header-long)) (r b)
  kept_rows (Some t) f r = record {
    reduced = r.reduced;
    rows = window-header s.width s.size 32 t.base flows m t.window f (omega (arith, q, header-long)) r.rows;
  }

  pub with-flows : (t : State s) → Holds m s t → HoldsWith (splice 32 flows m) s flows t
  unfolding flows_in
  with-flows t h =
      let f : Fits s.width s.size m = subst (λ x. Fits x.width x.size m) (setting-of s t) (header_fits m (header_of s t) h.header) in
      let r : 64 ≤ length m = omega (arith, f.room, header-long) in
      record {
        holds = record { header = kept_header r ∙ h.header; rows = kept_rows t f h.rows };
        kept = ap (λ n. part 32 n (splice 32 flows m)) (sym q) ∙ part-splice 32 flows m (omega arith);
      }
