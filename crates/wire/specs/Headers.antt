-- What a header parser answers: the fields of a packet that has the form, else refusal 5.
use Rattle.std.specs.Prelude.{◌-◌, Result, Ok, Err}
use Rattle.words.specs.Words.{ℕ, List, length, cond}
use Rattle.wire.specs.Packets.{source_form, source_esi, repair_form, repair_count, repair_key, density_threshold, protected_count, first_esi}
use Rattle.wire.specs.declared.Refusal.TheVariants.{Form}
use Rattle.wire.specs.declared.SourceFields.{SourceFields}
use Rattle.wire.specs.declared.RepairFields.{RepairFields}
use Rattle.wire.specs.declared.Refusal.{Refusal}

-- the length of the ADU, and the ESI of its first symbol
abbrev pub source_fields : List ℕ → SourceFields
source_fields p = record { len = length p - 4; first = record { 0 = source_esi p } }

abbrev pub source_header_of : List ℕ → Result SourceFields Refusal
source_header_of p = cond (source_form p) (Ok (source_fields p)) (Err Form)

-- the fields of the header, and how many repair symbols of E bytes follow it
abbrev pub repair_fields : ℕ → List ℕ → RepairFields
repair_fields E p = record {
  key = record { 0 = repair_key p };
  dt = density_threshold p;
  nss = protected_count p;
  first = record { 0 = first_esi p };
  count = repair_count E p;
}

abbrev pub repair_header_of : ℕ → List ℕ → Result RepairFields Refusal
repair_header_of E p = cond (repair_form E p) (Ok (repair_fields E p)) (Err Form)
