-- The call for a repair packet that passed its checks: its equations at its place, and what each of its answers comes to.
-- Laws: gather_asks, call_contradicts, call_done
use Rattle.std.specs.Prelude.{◌≡◌, ◌≤◌, ◌+◌, ◌<◌, ◌*◌, Ok, Err}
use Rattle.words.specs.Words.{arith, ℕ, length, List, refl, ◌∙◌, sym, ap, subst, ap₂, Option, Some, None}
use Rattle.wire.specs.Packets.{protected_count, repair_symbols}
use Rattle.decoder.specs.Bytes.{Coded}
use Rattle.table.specs.Window.{Fits}
use Rattle.table.specs.Packet.{Works}
use Rattle.admission.specs.declared.packet.Location.{Location}
use Rattle.admission.specs.declared.packet.Passed.{Passed}
use Rattle.history.specs.History.{Located, repair, Call, repair-call}
use Rattle.history.specs.Model.{packet_of}
use Rattle.receiver.specs.Promises.{Received}
use Rattle.receiver.specs.Layout.{receiver_layout}
use Rattle.admission.specs.Reading.{coefficient_lists, RepairPassed}
use Rattle.admission.specs.Steps.{firsts, Gathers, Accepted}
use Rattle.admission.specs.RepairSteps.{equation_at}
use Rattle.origins.proofs.Hearing.{bringing-none}
use Rattle.admission.proofs.Repairing.{repair_equations}
use Rattle.receiver.proofs.Receiving.{location_width, location_size, ready, received_contradiction, received_done}
use Rattle.wire.specs.declared.Refusal.TheVariants as refusals
use Rattle.decoder.specs.Receiver as decoder

module _ (p m v lists : List ℕ) (passed : Passed) (s : RepairPassed p m (length v) lists passed) where
  open s.header.setting use {size as E, width}

  abbrev c : Call
  c = repair-call p

  abbrev at : Location
  at = passed.location

  abbrev n : ℕ
  n = passed.named

  abbrev count : ℕ
  count = passed.count

  -- The packet with its first position.
  abbrev q : ℕ → Located
  q x = repair x (protected_count p) (coefficient_lists s.header.setting p) (repair_symbols E p)

  -- What gathering asks.
  pub gather_asks : Fits at.shape.width at.shape.size m × Works at.shape.width at.shape.size 0 v × (at.shape.oldest < at.shape.width)
      × (at.first < at.shape.width) × (n ≤ at.shape.width) × (count * n ≤ length lists) × (8 + count * at.shape.size ≤ length p) × (count ≤ 16)
  gather_asks =
      let k = ready c m v s.header q s.distance passed s.passes in
      let wide = location_width c m v s.header q s.distance passed s.passes in
      let l : 8 + count * at.shape.size ≤ length p =
      rw (location_size c m v s.header q s.distance passed s.passes, s.size) (omega arith) in
      (k.fits, k.works, k.base, k.first, omega (arith, s.passes.fits, wide), s.within, l, s.few)

  spelt : (b i : ℕ) → decoder.over (Coded E) width b (packet_of E (q (b + i))) ≡ firsts (equation_at width E n lists p i) count
  spelt b i =
      ap (λ (n : ℕ). decoder.over (Coded E) width b (packet_of E (repair (b + i) n (coefficient_lists s.header.setting p) (repair_symbols E p))))
      (sym s.named)
      ∙ ap₂ (λ (x y : List (List ℕ)). decoder.over (Coded E) width b (packet_of E (repair (b + i) n x y))) s.drawn s.symbols
      ∙ repair_equations width E b i n count lists p

  module _ (r : Option ℕ) (v' : List ℕ) (gathered : Gathers at n (equation_at at.shape.width at.shape.size n lists p) count r m v v') where
    pub call_contradicts : r ≡ None → Received receiver_layout c m m v v' (Err refusals.Contradiction)
    call_contradicts =
        received_contradiction c m v s.header q s.distance passed s.passes count (λ x. refl) (λ x. sym s.named)
        (λ w E. equation_at w E n lists p) spelt v' r gathered

    -- It has no symbol of its own.
    pub call_done : (own kept known : ℕ) (m' : List ℕ) → r ≡ Some kept → Accepted passed.header at kept own known v' m m' → own ≡ 0
        → Received receiver_layout c m m' v v' (Ok known)
    call_done own kept known m' z accepted no_own =
        received_done c m v s.header q s.distance passed s.passes count (λ x. refl) (λ x. sym s.named)
        (λ w E. equation_at w E n lists p) spelt v' r gathered 0 (λ y b N. refl) (λ b. bringing-none (b + at.rise + at.offset)) kept known m' z
        (subst (λ o. Accepted passed.header at kept o known v' m m') no_own accepted)
