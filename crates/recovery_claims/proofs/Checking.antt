-- The checks before 11 in plain numbers.
-- Laws: opening_judged; identifier-is; all_checked.
use Rattle.std.specs.Prelude.{◌≡◌, ◌≤◌, ◌+◌, ◌<◌, ◌-◌, ◌*◌, Result, Ok}
use Rattle.words.specs.Words.{arith, ℕ, length, List, refl, ◌∙◌, sym, ap, [], true, false, Bool, get_or, leb, eqb}
use Rattle.words.specs.Words.{le-leb, lt-leb, lt-ltb, eq-eqb, ne_eqb, eqb-true, ltb-true, leb-true}
use Rattle.memory.specs.Part.{part}
use Rattle.memory.specs.Number.{number, Bytes}
use Rattle.memory.proofs.Parts.{part-two}
use Rattle.memory.proofs.Number.{number-part}
use Rattle.wire.specs.Answers.{value, refusal, said}
use Rattle.wire.specs.Opening.{working_memory}
use Rattle.wire.specs.Packets.{symbol_at}
use Rattle.wire.proofs.Settings.{both}
use Rattle.history.specs.History.{Call, source-call, repair-call, OfBytes, memory_size}
use Rattle.blocks.specs.declared.Block.{Block}
use Rattle.blocks.specs.Block.{block_of, setting_for}
use Rattle.blocks.specs.Identifiers.{identifier_at}
use Rattle.blocks.proofs.Values.{block_from, bad_size, bad_values, named_good}
use Rattle.block_receiver.specs.Reading.{Reading, fails, located, names, names_source, names_repair, read_by, read_packet, reading}
use Rattle.block_receiver.specs.Promises.{Layout, opening}
use Rattle.block_receiver.proofs.Checking.{source_short, source_misnamed, source-long, source_good, repair_sized, repair_misnamed, repair_good}
use Rattle.recovery_claims.specs.Checking.{OpeningIsJudged, Names, SourceChecked, RepairChecked, AllChecked}
use Rattle.wire.specs.declared.Refusal.{Refusal}

pub opening_judged : (L : Layout) → OpeningIsJudged L
opening_judged L E k total number m m' a o = record {
  size = λ n. refuses 1 (ap (λ x. opening x (length m)) (bad_size E k total number n));
  block = λ s n. refuses 18 (ap (λ x. opening x (length m)) (bad_values E k total number s.0 s.1 n));
  short = λ s b l. refuses 2 (named s b ∙ too_short l);
  opens = λ s b l. (o.answer ∙ named s b ∙ long_enough l, o.contained (block_from E k total number) (named_good E k total number s.0 s.1 b));
}
  where
    refuses : (n : ℕ) → opening (block_of E k total number) (length m) ≡ refusal n → (said a ≡ refusal n) × (m' ≡ m)
    refuses n e = let q = o.answer ∙ e in (q, o.refused n q)

    named : (4 ≤ E) × (E ≤ 1500) → (1 ≤ k) × (k ≤ total) × (total ≤ 255) × (number < 16777216)
        → opening (block_of E k total number) (length m) ≡ opening (Ok (block_from E k total number)) (length m)
    named s b = ap (λ x. opening x (length m)) (named_good E k total number s.0 s.1 b)

    too_short : length m < memory_size (setting_for (block_from E k total number)) → opening (Ok (block_from E k total number)) (length m) ≡ refusal 2
    too_short l = rw (lt-leb (memory_size (setting_for (block_from E k total number))) (length m) l)

    long_enough : memory_size (setting_for (block_from E k total number)) ≤ length m → opening (Ok (block_from E k total number)) (length m) ≡ value 0
    long_enough l = rw (le-leb (memory_size (setting_for (block_from E k total number))) (length m) l)

-- ---- An identifier

module _ (p : List ℕ) (at : ℕ) (h : at + 6 ≤ length p) (w : Bytes p) where
  two : (i : ℕ) → i + 2 ≤ length p → number (part i 2 p) ≡ get_or p i 0 * 256 + get_or p (i + 1) 0
  two i l = ap number (part-two i p l) ∙ omega arith

  word : number (part at 4 p) ≡ (get_or p at 0 * 256 + get_or p (at + 1) 0) * 65536 + (get_or p (at + 2) 0 * 256 + get_or p (at + 3) 0)
  word =
      let e : at + 2 + 1 ≡ at + 3 = omega arith in
      number-part at 2 2 p (omega arith)
      ∙ omega (arith, two at (omega arith), two (at + 2) (omega arith), ap (λ i. get_or p i 0) e)

  pub block-is : (identifier_at p at).block ≡ get_or p at 0 * 65536 + get_or p (at + 1) 0 * 256 + get_or p (at + 2) 0
  block-is = omega (arith, word, w (at + 3))

  pub esi-is : (identifier_at p at).esi ≡ get_or p (at + 3) 0
  esi-is = omega (arith, word, w (at + 3))

  pub k_is : (identifier_at p at).k ≡ get_or p (at + 4) 0 * 256 + get_or p (at + 5) 0
  k_is = let e : at + 4 + 1 ≡ at + 5 = omega arith in two (at + 4) (omega arith) ∙ ap (λ i. get_or p (at + 4) 0 * 256 + get_or p i 0) e

  -- It names the block exactly where its bytes do.
  pub named : (b : Block) (esi : ℕ) → Names b p at esi → (names b (identifier_at p at) ≡ true) × ((identifier_at p at).esi ≡ esi)
  named b esi n = (rw (eq-eqb _ _ (block-is ∙ n.number), eq-eqb _ _ (k_is ∙ n.k)), esi-is ∙ n.symbol)

  pub named_by : (b : Block) → names b (identifier_at p at) ≡ true → Names b p at (identifier_at p at).esi
  named_by b e =
      let q = both (eqb (identifier_at p at).block b.number) _ e in
      record { number = sym block-is ∙ eqb-true _ _ q.0; symbol = sym esi-is; k = sym k_is ∙ eqb-true _ _ q.1 }

-- ---- The packets

too_few : (b : Block) (room : ℕ) (c : Call) → room < working_memory b.size b.k → reading b room c ≡ fails 2
too_few b room c l = rw (lt-leb (working_memory b.size b.k) room l)

pub enough : (b : Block) (room : ℕ) (c : Call) → working_memory b.size b.k ≤ room → reading b room c ≡ read_packet b c
enough b room c l = rw (le-leb (working_memory b.size b.k) room l)

-- A test that fails.
is_false : (t : Bool) → ¬ (t ≡ true) → t ≡ false
is_false true n = absurd (n refl)
is_false false n = refl

source_checked : (b : Block) (room flow : ℕ) (p : List ℕ) → OfBytes (source-call flow p) → SourceChecked b room flow p
source_checked b room flow p (f, w) = record {
  short = too_few b room (source-call flow p);
  form = λ r l. enough b room (source-call flow p) r ∙ ap by (sym (source_short b p (lt-leb 6 (length p) l)));
  named = λ r l n. enough b room (source-call flow p) r ∙ ap by (sym (source_misnamed b p (le-leb 6 (length p) l) (is_false _ (stranger l n))));
  long = λ r l esi n i g.
      enough b room (source-call flow p) r
      ∙ ap by (sym (source-long b p (le-leb 6 (length p) l) (names_it l esi n i) (lt-leb (length p - 3) b.size (omega arith))));
  passes = λ r l esi n i g.
      enough b room (source-call flow p) r
      ∙ ap by (sym (source_good b p (le-leb 6 (length p) l) (names_it l esi n i) (le-leb (length p - 3) b.size (omega arith))))
      ∙ ap (λ x. located (record { esi = x; symbol = symbol })) (named p (length p - 6) (inside l) w b esi n).1;
}
  where
    symbol : List ℕ
    symbol = symbol_at flow (part 0 (length p - 6) p) b.size 0

    by : Result ℕ Refusal → Reading
    by r = read_by symbol r

    inside : 6 ≤ length p → length p - 6 + 6 ≤ length p
    inside l = omega arith

    names_it : (l : 6 ≤ length p) (esi : ℕ) → Names b p (length p - 6) esi → esi < b.k → names_source b (identifier_at p (length p - 6)) ≡ true
    names_it l esi n i =
        let (x, y) = named p (length p - 6) (inside l) w b esi n in
        rw (x, y) (lt-ltb esi b.k i)

    stranger : (l : 6 ≤ length p) → ¬ ((esi : ℕ) × Names b p (length p - 6) esi × (esi < b.k)) → ¬ (names_source b (identifier_at p (length p - 6)) ≡ true)
    stranger l n e =
        let q = both (names b (identifier_at p (length p - 6))) _ e in
        n ((identifier_at p (length p - 6)).esi, named_by p (length p - 6) (inside l) w b q.0, ltb-true _ _ q.1)

repair_checked : (b : Block) (room : ℕ) (p : List ℕ) → OfBytes (repair-call p) → RepairChecked b room p
repair_checked b room p w = record {
  short = too_few b room (repair-call p);
  form = λ r n. enough b room (repair-call p) r ∙ ap by (sym (repair_sized b p (ne_eqb (length p) (6 + b.size) n)));
  named = λ r l n. enough b room (repair-call p) r ∙ ap by (sym (repair_misnamed b p (eq-eqb (length p) (6 + b.size) l) (is_false _ (stranger l n))));
  passes = λ r l esi n i g.
      enough b room (repair-call p) r
      ∙ ap by (sym (repair_good b p (eq-eqb (length p) (6 + b.size) l) (names_it l esi n i g)))
      ∙ ap (λ x. located (record { esi = x; symbol = part 6 b.size p })) (named p 0 (inside l) w b esi n).1;
}
  where
    by : Result ℕ Refusal → Reading
    by r = read_by (part 6 b.size p) r

    inside : length p ≡ 6 + b.size → 0 + 6 ≤ length p
    inside l = omega arith

    names_it : (l : length p ≡ 6 + b.size) (esi : ℕ) → Names b p 0 esi → b.k ≤ esi → esi < b.total → names_repair b (identifier_at p 0) ≡ true
    names_it l esi n i g =
        let (x, y) = named p 0 (inside l) w b esi n in
        rw (x, y, le-leb b.k esi i) (lt-ltb esi b.total g)

    stranger : (l : length p ≡ 6 + b.size) → ¬ ((esi : ℕ) × Names b p 0 esi × (b.k ≤ esi) × (esi < b.total))
        → ¬ (names_repair b (identifier_at p 0) ≡ true)
    stranger l n e =
        let q = both (names b (identifier_at p 0)) _ e in
        let r = both (leb b.k (identifier_at p 0).esi) _ q.1 in
        n ((identifier_at p 0).esi, named_by p 0 (inside l) w b q.0, leb-true _ _ r.0, ltb-true _ _ r.1)

pub all_checked : AllChecked
all_checked = record { source = source_checked; repair = repair_checked }
