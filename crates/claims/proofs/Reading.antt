-- Every packet that RFC 8681 can write within our sizes, its flow announced, is read at its place.
use Rattle.std.specs.Prelude.{◌≡◌, ◌≤◌, ◌+◌, ◌<◌, ◌%◌, ◌^◌}
use Rattle.words.specs.Words.{arith, ℕ, List, length, refl, ◌∙◌, true, mod-lt, le-leb, lit<}
use Rattle.wire.specs.declared.Setting.{Setting}
use Rattle.wire.specs.Packets.{Sized, symbol_count, source_symbols, source_packet, repair_packet}
use Rattle.wire.specs.Flows.{announced}
use Rattle.wire.proofs.Settings.{within_true}
use Rattle.wire.proofs.Reading.{source_form_lem, source-adu, source-esi, repair_form_lem, repair-symbols, repair_key_lem, density_threshold_lem, protected_count_lem, first-esi}
use Rattle.coefficients.specs.Coefficients.{keys, lists_of, all_ok}
use Rattle.history.specs.History.{Located, source, repair, side_of, source-call, repair-call, Reading, located, check, from_side, working_size, read_source}
use Rattle.history.specs.History.{read_repair, reading}
use Rattle.history.proofs.Sides.{side_taken, fails_behind, fails_far}
use Rattle.claims.specs.Reading.{ReadBy, Reads}

-- A reading that comes to a place.
by_side : (base d n : ℕ) (next : ℕ → Reading) (q : Located) (r : Reading) → d < 2 ^ 32 → next d ≡ located q
    → r ≡ from_side n (side_of base ((base + d) % 2 ^ 32)) next → ReadBy d n q r
by_side base d n next q r small e p = record {
  taken = λ h k. p ∙ side_taken base d small n next h k ∙ e;
  behind = λ h. p ∙ fails_behind base d small n next h;
  far = λ h k. p ∙ fails_far base d small n next h k;
}

module _ (s : Setting) (flows : List ℕ) (z : 0 < s.size) (w : s.width ≤ 255) (base room d : ℕ) (enough : working_size s ≤ room) (small : d < 2 ^ 32) where
  abbrev esi : ℕ
  esi = (base + d) % 2 ^ 32

  source-read : (flow : ℕ) (adu : List ℕ) → announced flows flow ≡ true → length adu ≤ 65535 → symbol_count s.size (length adu) ≤ s.width
      → ReadBy d (symbol_count s.size (length adu)) (source (base + d) (source_symbols flow adu s.size))
      (reading s flows base room (source-call flow (source_packet adu esi)))
  unfolding reading read_source check
  source-read flow adu a h k =
      by_side base d (symbol_count s.size (length adu)) (λ x. located (source (base + x) (source_symbols flow adu s.size))) _ _ small refl
      (rw (
        le-leb (working_size s) room enough,
        source_form_lem adu esi,
        a,
        source-adu adu esi,
        le-leb (length adu) 65535 h,
        le-leb (symbol_count s.size (length adu)) s.width k,
        source-esi adu esi (mod-lt (base + d) (lit< tt)),
      ))

  repair-read : (key dt n : ℕ) (symbols : List (List ℕ)) → key < 2 ^ 16 → dt ≤ 15 → 1 ≤ n → n ≤ s.width
      → Sized s.size symbols → 1 ≤ length symbols → length symbols ≤ 16 → all_ok s.scheme dt n (keys key (length symbols)) ≡ true
      → ReadBy d n (repair (base + d) n (lists_of s.scheme dt n (keys key (length symbols))) symbols)
      (reading s flows base room (repair-call (repair_packet key dt n esi symbols)))
  unfolding reading read_repair check
  repair-read key dt n symbols a b c e f g h ok =
      let ks = keys key (length symbols) in
      by_side base d n (λ x. check (all_ok s.scheme dt n ks) 10 (located (repair (base + x) n (lists_of s.scheme dt n ks) symbols)))
      _ _ small (rw ok)
      (rw (
        le-leb (working_size s) room enough,
        repair_form_lem key dt n esi s.size symbols f z g h,
        repair-symbols key dt n esi s.size symbols f z,
        repair_key_lem key dt n esi symbols a,
        density_threshold_lem key dt n esi symbols (omega arith) (omega arith),
        protected_count_lem key dt n esi symbols (omega arith) (omega arith),
        first-esi key dt n esi symbols (mod-lt (base + d) (lit< tt)),
        within_true 1 s.width n c e,
      ))

pub reads : Reads
reads s v flows base room d enough small =
    let z : 0 < s.size = omega (arith, v.size_least) in
    record {
      sources = source-read s flows z v.width_most base room d enough small;
      repairs = repair-read s flows z v.width_most base room d enough small;
    }
