-- What the header parsers answer, case by case.
use Rattle.std.specs.Prelude.{◌≡◌, ◌≤◌, ◌+◌, ◌<◌, ◌*◌, Ok, Err}
use Rattle.words.specs.Words.{ℕ, List, length, true, false, le-leb, lt-leb, ne_eqb, eq-eqb}
use Rattle.wire.specs.Numbers.{within}
use Rattle.wire.specs.Packets.{source_form, most_repairs, repair_form, repair_count}
use Rattle.wire.specs.Headers.{source_fields, source_header_of, repair_fields, repair_header_of}
use Rattle.wire.specs.declared.Refusal.TheVariants.{Form}

module _ (p : List ℕ) where
  pub no_source : length p < 4 → Err Form ≡ source_header_of p
  unfolding source_form
  no_source h = rw (lt-leb 4 (length p) h)

  pub source-read : 4 ≤ length p → Ok (source_fields p) ≡ source_header_of p
  unfolding source_form
  source-read h = rw (le-leb 4 (length p) h)

module _ (E : ℕ) (p : List ℕ) where
  pub no_repair : repair_form E p ≡ false → Err Form ≡ repair_header_of E p
  no_repair h = rw h

  pub no_count : within 1 most_repairs (repair_count E p) ≡ false → repair_form E p ≡ false
  unfolding repair_form
  no_count h = rw h

  -- shorter than a header, or symbols of no bytes
  pub no_symbols : repair_count E p ≡ 0 → repair_form E p ≡ false
  no_symbols e = no_count (rw e)

  pub uneven : within 1 most_repairs (repair_count E p) ≡ true → (length p ≡ 8 + repair_count E p * E → ⊥) → repair_form E p ≡ false
  unfolding repair_form
  uneven h n = rw (h, ne_eqb (length p) (8 + repair_count E p * E) n)

  even : within 1 most_repairs (repair_count E p) ≡ true → length p ≡ 8 + repair_count E p * E → repair_form E p ≡ true
  unfolding repair_form
  even h n = rw (h, eq-eqb (length p) (8 + repair_count E p * E) n)

  pub repair-read : repair_form E p ≡ true → Ok (repair_fields E p) ≡ repair_header_of E p
  repair-read h = rw h

  pub even_read : within 1 most_repairs (repair_count E p) ≡ true → length p ≡ 8 + repair_count E p * E → Ok (repair_fields E p) ≡ repair_header_of E p
  even_read h n = repair-read (even h n)
