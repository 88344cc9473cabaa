-- Reading a source packet: its checks in the history's order, and one law for each way that it ends.
-- Laws:
--   its fields: Fields, source-fields
--   the reading: source_form_lem, source-stray, source-long, source_many, source_out, source_passed
use Rattle.std.specs.Prelude.{◌≡◌, ◌≤◌, ◌+◌, ◌<◌, ◌-◌, ◌*◌, Ok, Err}
use Rattle.words.specs.Words.{arith, ℕ, length, List, refl, ◌∙◌, sym, ap, Some, suc, zero, true, false, le-leb}
use Rattle.words.specs.Words.{leb-true, lt-leb, leb, length-take-le, zero-mul}
use Rattle.wire.specs.declared.Refusal.{Refusal}
use Rattle.wire.specs.declared.SourceFields.{SourceFields}
use Rattle.wire.specs.Packets.{symbol_count, source_symbols, source_form, source_adu, source_esi}
use Rattle.wire.specs.Flows.{announced, flows_in}
use Rattle.wire.specs.Headers.{source_header_of}
use Rattle.holding.specs.declared.Header.{Header}
use Rattle.holding.specs.Header.{header_in}
use Rattle.history.specs.History.{Located, source, Call, source-call, located, check, side_of, from_side, working_size, read_source, reading}
use Rattle.admission.specs.declared.packet.Location.{Location}
use Rattle.admission.specs.Joining.{header_for}
use Rattle.admission.specs.Steps.{location_found}
use Rattle.admission.specs.Reading.{Failed, SourcePassed}
use Rattle.holding.proofs.Headers.{headed}
use Rattle.admission.proofs.Locating.{cond_ok, cond_err, distance}
use Rattle.admission.proofs.Reading.{failed, failed_out, reading_at, passed}
use Rattle.wire.specs.declared.Refusal.TheVariants as refusals
use Rattle.wire.proofs.Adui as adui

symbols-some : (E L : ℕ) → 0 < E → 0 < symbol_count E L
symbols-some E L pos = go (symbol_count E L) (adui.room E L pos)
  where
    go : (n : ℕ) → 3 + L ≤ n * E → 0 < n
    go zero h = absurd (omega (arith, zero-mul E))
    go (suc n) h = omega arith

-- ---- What reading the packet found

-- What the fields of a source packet say of it.
pub record Fields (p : List ℕ) (f : SourceFields) : Type 0 where
  pub form : source_form p ≡ true
  pub len : f.len ≡ length (source_adu p)
  pub esi : f.first.0 ≡ source_esi p

pub source-fields : (p : List ℕ) (f : SourceFields) → Ok f ≡ source_header_of p → Fields p f
unfolding source_adu
source-fields p f q =
    let (a, k) = cond_ok (source_form p) _ _ q in
    rw k (record { form = a; len = sym (length-take-le (length p - 4) p (omega arith)); esi = refl })

-- ---- The reading, one law for each way that it ends

module _ (flow : ℕ) (p m : List ℕ) (room : ℕ) (h : Header) (has : header_in m ≡ Some h) (lent : working_size h.setting ≤ room) where
  open h.setting use {size as E, width}

  abbrev c : Call
  c = source-call flow p

  abbrev n : ℕ
  n = symbol_count E (length (source_adu p))

  enough : leb (working_size h.setting) room ≡ true
  enough = le-leb (working_size h.setting) room lent

  pub source_form_lem : (x : Refusal) → Err x ≡ source_header_of p → Failed c m room refusals.Form
  unfolding reading check read_source
  source_form_lem x q =
      let (a, k) = cond_err (source_form p) _ _ q in
      failed c m room h has refusals.Form (λ z. omega arith) (λ b. rw (enough, a))

  pub source-stray : source_form p ≡ true → announced (flows_in m) flow ≡ false → Failed c m room refusals.Unannounced
  unfolding reading check read_source
  source-stray f l = failed c m room h has refusals.Unannounced (λ z. omega arith) (λ b. rw (enough, f, l))

  module _ (f : SourceFields) (reads : Fields p f) (flow-known : announced (flows_in m) flow ≡ true) where
    pub source-long : 65535 < f.len → Failed c m room refusals.Long
    unfolding reading check read_source
    source-long l =
        failed c m room h has refusals.Long (λ z. omega arith)
        (λ b. rw (enough, reads.form, flow-known, lt-leb (length (source_adu p)) 65535 (omega (arith, reads.len))))

    module _ (short : f.len ≤ 65535) (count : ℕ) (counts : count ≡ symbol_count E f.len) where
      short_adu : leb (length (source_adu p)) 65535 ≡ true
      short_adu = le-leb (length (source_adu p)) 65535 (omega (arith, reads.len))

      counted : n ≡ count
      counted = ap (symbol_count E) (sym reads.len) ∙ sym counts

      pub source_many : width < count → Failed c m room refusals.Long
      unfolding reading check read_source
      source_many l =
          failed c m room h has refusals.Long (λ z. omega arith)
          (λ b. rw (enough, reads.form, flow-known, short_adu, lt-leb n width (omega (arith, counted))))

      module _ (fits : count ≤ width) where
        -- The packet with its first symbol at a position.
        abbrev q : ℕ → Located
        q x = source x (source_symbols flow (source_adu p) E)

        says : (b : ℕ) → reading h.setting (flows_in m) b room c ≡ from_side count (side_of b (source_esi p)) (λ d. located (q (b + d)))
        unfolding reading check read_source
        says b =
            rw (enough, reads.form, flow-known, short_adu, le-leb n width (omega (arith, counted)))
            (ap (λ (k : ℕ). from_side k (side_of b (source_esi p)) (λ d. located (q (b + d)))) counted)

        -- The header for the packet.
        abbrev g : Header
        g = header_for h (source_esi p)

        pub source_out : (x : Refusal) → Err x ≡ location_found g (source_esi p) count → Failed c m room x
        source_out x o = failed_out c m room h has count (λ b d. located (q (b + d))) says x o

        some_symbol : 0 < count
        some_symbol = let z = symbols-some E (length (source_adu p)) (omega (arith, (headed m h has).valid.size_least)) in omega (arith, counted, z)

        pub source_passed : (based : Header) → based ≡ g → (at : Location) → Ok at ≡ location_found g (source_esi p) count
            → SourcePassed flow p m room (record { header = based; location = at; named = count; count = count; draws = 0 })
        unfolding source_form
        source_passed based is at found = record {
          header = h;
          distance = distance g (source_esi p) count;
          passes = passed c m room h has lent _ is found some_symbol fits q (reading_at c m room h has count (λ b d. located (q (b + d))) says at found);
          named = refl;
          count = sym counted;
          form = leb-true 4 (length p) reads.form;
          short = omega (arith, short, reads.len);
        }
