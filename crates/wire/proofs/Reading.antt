-- Reading what was written gives the fields back: `source-packet-read` and `source-adu`, `repair-packet-read` and `repair-symbols`.
use Rattle.std.specs.Prelude.{◌≡◌, ◌≤◌, ◌+◌, ◌<◌, ◌-◌, ◌∷◌, ◌*◌, ◌^◌, Ok}
use Rattle.words.specs.Words.{arith, ℕ, List, length, refl, ◌∙◌, sym, ap, [], true, le-leb, length-append, eq-eqb}
use Rattle.words.specs.Words.{zero-mul, suc-mul, take_at}
use Rattle.std.proofs.Common.{mul-div_cancel, drop_at}
use lib.Arith.{digits_div, digits_mod}
use Rattle.memory.specs.Part.{part}
use Rattle.memory.specs.Number.{number, bytes}
use Rattle.memory.proofs.Number.{number-bytes}
use Rattle.wire.specs.Packets.{joined, chunks, Sized, source_packet, source_form, source_adu, source_esi, repair_header, repair_packet, most_repairs}
use Rattle.wire.specs.Packets.{repair_count, repair_form, repair_key, density_threshold, protected_count, first_esi, repair_symbols}
use Rattle.wire.specs.Headers.{source_header_of, repair_header_of}

-- ---- a source packet

module _ (adu : List ℕ) (esi : ℕ) where
  pub source-length : length (source_packet adu esi) ≡ length adu + 4
  unfolding source_packet
  source-length = length-append adu (bytes 4 esi)

  pub source_form_lem : source_form (source_packet adu esi) ≡ true
  unfolding source_form
  source_form_lem = le-leb 4 (length (source_packet adu esi)) (omega (arith, source-length))

  tail : length (source_packet adu esi) - 4 ≡ length adu
  tail = omega (arith, source-length)

  pub source-adu : source_adu (source_packet adu esi) ≡ adu
  unfolding source_adu source_packet
  source-adu = rw tail (take_at adu (bytes 4 esi) (length adu) refl)

  pub source-esi : esi < 2 ^ 32 → source_esi (source_packet adu esi) ≡ esi
  unfolding source_esi source_packet part
  source-esi h = rw (tail, drop_at adu (bytes 4 esi) (length adu) refl) (number-bytes 4 esi h)

-- ---- symbols of E bytes, joined and cut

pub length-joined : (E : ℕ) (xs : List (List ℕ)) → Sized E xs → length (joined xs) ≡ length xs * E
length-joined E [] s = sym (zero-mul E)
length-joined E (x ∷ xs) s = length-append x (joined xs) ∙ omega (arith, s.0, length-joined E xs s.1, suc-mul (length xs) E)

pub cut_joined : (E : ℕ) (xs : List (List ℕ)) → Sized E xs → chunks (length xs) E (joined xs) ≡ xs
cut_joined E [] s = refl
cut_joined E (x ∷ xs) s = rw (take_at x (joined xs) E s.0, drop_at x (joined xs) E s.0) (ap (λ (l : List (List ℕ)). x ∷ l) (cut_joined E xs s.1))

-- ---- a repair packet

module _ (key dt nss first : ℕ) (E : ℕ) (xs : List (List ℕ)) (s : Sized E xs) (z : 0 < E) where
  pub repair-length : length (repair_packet key dt nss first xs) ≡ 8 + length xs * E
  unfolding repair_packet repair_header
  repair-length = omega (arith, length-joined E xs s)

  pub repair_count_lem : repair_count E (repair_packet key dt nss first xs) ≡ length xs
  unfolding repair_count
  repair_count_lem = let e : length (repair_packet key dt nss first xs) - 8 ≡ length xs * E = omega (arith, repair-length) in rw e (mul-div_cancel (length xs) z)

  pub repair_form_lem : 1 ≤ length xs → length xs ≤ 16 → repair_form E (repair_packet key dt nss first xs) ≡ true
  unfolding repair_form
  repair_form_lem l h =
      rw (repair_count_lem, le-leb 1 (length xs) l, le-leb (length xs) most_repairs (omega arith))
      (eq-eqb (length (repair_packet key dt nss first xs)) (8 + length xs * E) repair-length)

  pub repair-symbols : repair_symbols E (repair_packet key dt nss first xs) ≡ xs
  unfolding repair_symbols repair_packet repair_header
  repair-symbols = rw repair_count_lem (cut_joined E xs s)

module _ (key dt nss first : ℕ) (xs : List (List ℕ)) where
  pub repair_key_lem : key < 2 ^ 16 → repair_key (repair_packet key dt nss first xs) ≡ key
  unfolding repair_key repair_packet repair_header part
  repair_key_lem h = number-bytes 2 key h

  mixed : dt < 16 → nss < 4096 → number (part 2 2 (repair_packet key dt nss first xs)) ≡ dt * 4096 + nss
  unfolding repair_packet repair_header part
  mixed h k = number-bytes 2 (dt * 4096 + nss) (omega arith)

  pub density_threshold_lem : dt < 16 → nss < 4096 → density_threshold (repair_packet key dt nss first xs) ≡ dt
  unfolding density_threshold
  density_threshold_lem h k = rw (mixed h k) (digits_div dt k)

  pub protected_count_lem : dt < 16 → nss < 4096 → protected_count (repair_packet key dt nss first xs) ≡ nss
  unfolding protected_count
  protected_count_lem h k = rw (mixed h k) (digits_mod dt k)

  pub first-esi : first < 2 ^ 32 → first_esi (repair_packet key dt nss first xs) ≡ first
  unfolding first_esi repair_packet repair_header part
  first-esi h = number-bytes 4 first h

-- ---- what the parsers answer on every packet that can be written

pub source-packet-read : (adu : List ℕ) (esi : ℕ) → esi < 2 ^ 32
    → source_header_of (source_packet adu esi) ≡ Ok (record { len = length adu; first = record { 0 = esi } })
source-packet-read adu esi h = rw (source_form_lem adu esi, tail adu esi, source-esi adu esi h)

pub repair-packet-read : (key dt nss first : ℕ) (E : ℕ) (xs : List (List ℕ)) → key < 2 ^ 16 → dt < 16 → nss < 4096 → first < 2 ^ 32
    → 0 < E → Sized E xs → 1 ≤ length xs → length xs ≤ 16
    → repair_header_of E (repair_packet key dt nss first xs)
    ≡ Ok (record { key = record { 0 = key }; dt = dt; nss = nss; first = record { 0 = first }; count = length xs })
repair-packet-read key dt nss first E xs k d n f z s l h =
    rw (
      repair_form_lem key dt nss first E xs s z l h,
      repair_key_lem key dt nss first xs k,
      density_threshold_lem key dt nss first xs d n,
      protected_count_lem key dt nss first xs d n,
      first-esi key dt nss first xs f,
      repair_count_lem key dt nss first E xs s z,
    )
