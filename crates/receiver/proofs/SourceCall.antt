-- The call for a source packet that passed its checks: its equations at its place, and what each of its answers comes to.
-- Laws: gather_asks, call_contradicts, call_done
use Rattle.std.specs.Prelude.{◌≡◌, ◌≤◌, ◌+◌, ◌<◌, ◌-◌, Ok, Err}
use Rattle.words.specs.Words.{arith, ℕ, length, List, refl, ◌∙◌, sym, ap, subst, lt-ltb, cond, ap₂, Option, Some, None}
use Rattle.wire.specs.declared.Setting.{Setting}
use Rattle.wire.specs.Packets.{symbol_count, source_symbols, source_adu}
use Rattle.decoder.specs.Bytes.{Coded}
use Rattle.table.specs.Window.{Fits}
use Rattle.table.specs.Packet.{Works}
use Rattle.starts.specs.Starts.{Starts, also, owning}
use Rattle.admission.specs.declared.packet.Location.{Location}
use Rattle.admission.specs.declared.packet.Passed.{Passed}
use Rattle.history.specs.History.{Located, source, Call, source-call}
use Rattle.history.specs.Model.{packet_of, naming, Origins, bringing, hearing}
use Rattle.receiver.specs.Promises.{Received}
use Rattle.receiver.specs.Layout.{receiver_layout}
use Rattle.admission.specs.Reading.{SourcePassed}
use Rattle.admission.specs.Steps.{firsts, Gathers, Accepted}
use Rattle.admission.specs.SourceSteps.{equation_of}
use Rattle.admission.proofs.Sourcing.{source_equations}
use Rattle.receiver.proofs.Receiving.{location_width, location_size, ready, received_contradiction, received_done}
use Rattle.wire.specs.declared.Refusal.TheVariants as refusals
use Rattle.wire.proofs.Adui as adui
use Rattle.decoder.specs.Receiver as decoder

module _ (flow : ℕ) (p m v : List ℕ) (passed : Passed) (s : SourcePassed flow p m (length v) passed) (adu : List ℕ) (adu-is : adu ≡ source_adu p) where
  open s.header.setting use {size as E, width}

  abbrev c : Call
  c = source-call flow p

  abbrev at : Location
  at = passed.location

  abbrev count : ℕ
  count = passed.count

  -- The packet with its first symbol at a position.
  abbrev q : ℕ → Located
  q x = source x (source_symbols flow (source_adu p) E)

  -- What gathering asks.
  pub gather_asks : Fits at.shape.width at.shape.size m × Works at.shape.width at.shape.size 0 v × (at.shape.oldest < at.shape.width)
      × (at.first < at.shape.width) × (length adu ≤ 65535) × (count ≡ symbol_count at.shape.size (length adu)) × (count ≤ at.shape.width)
  gather_asks =
      let k = ready c m v s.header q s.distance passed s.passes in
      let size = location_size c m v s.header q s.distance passed s.passes in
      let wide = location_width c m v s.header q s.distance passed s.passes in
      (k.fits, k.works, k.base, k.first, rw adu-is s.short, rw (adu-is, size) s.count, omega (arith, s.passes.fits, s.named, wide))

  module _ (v' : List ℕ) (r : Option ℕ)
      (gathered : Gathers at (symbol_count at.shape.size (length adu)) (equation_of at.shape.width at.shape.size flow adu) count r m v v') where
    abbrev packet-is : List ℕ → ℕ → Type 0
    packet-is x k = Gathers at k (equation_of at.shape.width at.shape.size flow x) count r m v v'

    -- The equations are those of the packet's ADU, as many as it has symbols.
    all_gathered : packet-is (source_adu p) passed.named
    all_gathered =
        subst (packet-is (source_adu p)) (sym gather_asks.5 ∙ sym s.named)
        (subst (λ (x : List ℕ). packet-is x (symbol_count at.shape.size (length adu))) adu-is gathered)

    spelt : (b i : ℕ) → decoder.over (Coded E) width b (packet_of E (q (b + i))) ≡ firsts (equation_of width E flow (source_adu p) i) count
    spelt b i = source_equations width E b i flow (source_adu p) ∙ ap (firsts (equation_of width E flow (source_adu p) i)) (sym s.count)

    symbols : length (source_symbols flow (source_adu p) E) ≡ count
    symbols = adui.symbols_count flow (source_adu p) E ∙ sym s.count

    pub call_contradicts : r ≡ None → Received receiver_layout c m m v v' (Err refusals.Contradiction)
    call_contradicts =
        received_contradiction c m v s.header q s.distance passed s.passes count (λ x. refl) (λ x. symbols ∙ sym s.named)
        (λ w E. equation_of w E flow (source_adu p)) spelt v' r all_gathered

    -- Its symbols are its own.
    owns : (y : Setting) (b : ℕ) (N : Starts) → naming y (b + at.rise) (q (b + s.distance)) N ≡ owning at.offset count N
    owns y b N =
        let d : ℕ = s.distance in
        let k = s.passes in
        let o : at.offset ≡ d - (d + passed.named - width) = ap (λ y. y.offset) k.location in
        let z : at.rise ≡ d + passed.named - width = ap (λ y. y.rise) k.location in
        let x : b + d - (b + at.rise) ≡ at.offset = omega (arith, z, o) in
        let y : b + d + length (source_symbols flow (source_adu p) E) - (b + at.rise) ≡ at.offset + count =
        omega (arith, z, o, symbols, s.named, k.fits) in
        ap₂ (λ (j k : ℕ). also j (also k N)) x y
        ∙ sym (ap (λ t. cond t (also at.offset (also (at.offset + count) N)) N) (lt-ltb 0 count (omega (arith, s.named, k.names))))

    -- It has brought them.
    brings : (b : ℕ) (H : Origins) (x : ℕ) → bringing (b + at.rise + at.offset) count H x ≡ hearing (q (b + s.distance)) H x
    brings b H x =
        let d : ℕ = s.distance in
        let k = s.passes in
        let o : at.offset ≡ d - (d + passed.named - width) = ap (λ y. y.offset) k.location in
        let z : at.rise ≡ d + passed.named - width = ap (λ y. y.rise) k.location in
        let first : b + at.rise + at.offset ≡ b + d = omega (arith, z, o, k.fits) in
        ap₂ (λ p n. bringing p n H x) first (sym symbols)

    pub call_done : (kept known : ℕ) (m' : List ℕ) → r ≡ Some kept → Accepted passed.header at kept count known v' m m'
        → Received receiver_layout c m m' v v' (Ok known)
    call_done =
        received_done c m v s.header q s.distance passed s.passes count (λ x. refl) (λ x. symbols ∙ sym s.named)
        (λ w E. equation_of w E flow (source_adu p)) spelt v' r all_gathered count owns brings
