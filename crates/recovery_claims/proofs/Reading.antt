-- What the checks before 11 make of a call: what passes has the form of a packet, and what was written passes.
-- Laws: IsLocated, IsFails, number_is, packet_is; read_formed, reading_formed; source_reads, repair_reads.
use Rattle.std.specs.Prelude.{◌≡◌, ◌≤◌, ◌+◌, ◌<◌, ◌-◌, ◌∷◌, ◌++◌, Result, Ok, Err}
use Rattle.words.specs.Words.{arith, ℕ, length, List, refl, ◌∙◌, sym, ap, [], true, false, Bool, subst, cond, leb, le-leb}
use Rattle.words.specs.Words.{eq-eqb, lt-ltb, length-append, take, take-append_seam, take_all}
use Rattle.memory.specs.Part.{part}
use Rattle.memory.proofs.Parts.{length_part}
use Rattle.memory.proofs.Number.{bytes-part}
use Rattle.wire.specs.Packets.{symbol_at}
use Rattle.history.specs.History.{Call, source-call, repair-call, OfBytes, working_size}
use Rattle.history.proofs.Says.{Wholes}
use Rattle.history.proofs.Readings.{source-whole}
use Rattle.recovery.specs.Block.{Packet, Formed}
use Rattle.blocks.specs.declared.Block.{Block}
use Rattle.blocks.specs.Block.{setting_for, Valid}
use Rattle.blocks.proofs.Symbols.{only_symbol}
use Rattle.block_receiver.specs.Reading.{Reading, fails, located, names_source, names_repair, source_check, repair_check, read_by, read_packet, reading}
use Rattle.blocks.specs.declared.identifier.Identifier.{Identifier}
use Rattle.blocks.specs.Identifiers.{identifier_at, identifier_of, identifier_bytes}
use Rattle.blocks.proofs.Identifiers.{identifier_after}
use Rattle.block_receiver.proofs.Checking.{source_passes, repair_passes, source_good, repair_good}
use Rattle.wire.specs.declared.Refusal.{Refusal}

abbrev pub IsLocated : Reading → Type 0
IsLocated (located p) = Unit {0}
IsLocated (fails n) = ⊥

abbrev pub IsFails : Reading → Type 0
IsFails (located p) = ⊥
IsFails (fails n) = Unit {0}

abbrev pub number_is : Reading → ℕ
number_is (located p) = 0
number_is (fails n) = n

abbrev pub packet_is : Packet → Reading → Packet
packet_is q (located p) = p
packet_is q (fails n) = q

module _ (b : Block) (v : Valid b) where
  pub read_formed : (c : Call) (p : Packet) → OfBytes c → read_packet b c ≡ located p → Formed b.size p
  read_formed (source-call flow x) p (f, w) e = go (source_check b x) refl e
    where
      go : (r : Result ℕ Refusal) → source_check b x ≡ r → read_by (symbol_at flow (part 0 (length x - 6) x) b.size 0) r ≡ located p → Formed b.size p
      go (Err r) q z = absurd (subst IsLocated (sym z) tt)
      go (Ok i) q z =
          let s = source_passes b x i q in
          let adu = part 0 (length x - 6) x in
          let h : 3 + length adu ≤ b.size = omega (arith, length_part 0 (length x - 6) x (omega (arith, s.whole)), s.whole, s.short) in
          let t : Wholes b.size (symbol_at flow adu b.size 0 ∷ []) =
          subst (Wholes b.size) (only_symbol flow adu b.size h) (source-whole flow adu b.size (omega arith) f (bytes-part 0 (length x - 6) x w)) in
          subst (Formed b.size) (ap (packet_is p) z) (record { small = omega (arith, s.inside, v.values); sized = t.0.sized; bytes = t.0.small })
  read_formed (repair-call x) p w e = go (repair_check b x) refl e
    where
      go : (r : Result ℕ Refusal) → repair_check b x ≡ r → read_by (part 6 b.size x) r ≡ located p → Formed b.size p
      go (Err r) q z = absurd (subst IsLocated (sym z) tt)
      go (Ok i) q z =
          let s = repair_passes b x i q in
          subst (Formed b.size) (ap (packet_is p) z)
          (record { small = omega (arith, s.inside, v.values); sized = length_part 6 b.size x (omega (arith, s.sized)); bytes = bytes-part 6 b.size x w })

  -- What passes has the form of a packet.
  pub reading_formed : (room : ℕ) (c : Call) (p : Packet) → OfBytes c → reading b room c ≡ located p → Formed b.size p
  reading_formed room c p w e = go (leb (working_size (setting_for b)) room) e
    where
      go : (t : Bool) → cond t (read_packet b c) (fails 2) ≡ located p → Formed b.size p
      go true q = read_formed c p w q
      go false q = absurd (subst IsLocated (sym q) tt)

  -- ---- A packet that was written

  abbrev id : (esi : ℕ) → Identifier
  id esi = identifier_of b esi

  small : b.k < 65536
  small = let w = v.values in omega (arith, w.1, w.2)

  pub source_reads : (flow : ℕ) (adu : List ℕ) (esi : ℕ) → esi < b.k → 3 + length adu ≤ b.size
      → read_packet b (source-call flow (adu ++ identifier_bytes (id esi))) ≡ located (record { esi = esi; symbol = symbol_at flow adu b.size 0 })
  unfolding part
  source_reads flow adu esi l h =
      let w = v.values in
      let x = adu ++ identifier_bytes (id esi) in
      let n : length x ≡ length adu + 6 = length-append adu (identifier_bytes (id esi)) in
      let at : length x - 6 ≡ length adu = omega (arith, n) in
      let i : identifier_at x (length x - 6) ≡ id esi =
      ap (identifier_at x) at ∙ identifier_after (id esi) w.3 (omega (arith, w.1, w.2)) small adu [] in
      let e : names_source b (identifier_at x (length x - 6)) ≡ true =
      ap (names_source b) i ∙ rw (eq-eqb b.number b.number refl, eq-eqb b.k b.k refl) (lt-ltb esi b.k l) in
      let c : Ok esi ≡ source_check b x =
      ap (λ (y : Identifier). Ok y.esi) (sym i) ∙ source_good b x (le-leb 6 (length x) (omega (arith, n))) e (le-leb (length x - 3) b.size (omega (arith, n))) in
      let a : part 0 (length x - 6) x ≡ adu = ap (λ y. take y x) at ∙ take-append_seam adu (identifier_bytes (id esi)) in
      ap (read_by _) (sym c) ∙ ap (λ y. located (record { esi = esi; symbol = symbol_at flow y b.size 0 })) a

  pub repair_reads : (esi : ℕ) (y : List ℕ) → b.k ≤ esi → esi < b.total → length y ≡ b.size
      → read_packet b (repair-call (identifier_bytes (id esi) ++ y)) ≡ located (record { esi = esi; symbol = y })
  unfolding part
  repair_reads esi y l g h =
      let w = v.values in
      let x = identifier_bytes (id esi) ++ y in
      let n : length x ≡ 6 + b.size = omega (arith, h) in
      let i : identifier_at x 0 ≡ id esi = identifier_after (id esi) w.3 (omega (arith, w.2)) small [] y in
      let e : names_repair b (identifier_at x 0) ≡ true =
      ap (names_repair b) i ∙ rw (eq-eqb b.number b.number refl, eq-eqb b.k b.k refl, le-leb b.k esi l) (lt-ltb esi b.total g) in
      let c : Ok esi ≡ repair_check b x = ap (λ (z : Identifier). Ok z.esi) (sym i) ∙ repair_good b x (eq-eqb (length x) (6 + b.size) n) e in
      let a : part 6 b.size x ≡ y = take_all b.size y (omega (arith, h)) in
      ap (read_by _) (sym c) ∙ ap (λ z. located (record { esi = esi; symbol = z })) a
