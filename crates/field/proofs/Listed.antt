-- The two tables of the code are those that their rules give: antt computes each and compares.
use Rattle.std.specs.Prelude.{◌≡◌}
use Rattle.words.specs.Words.{refl}
use Rattle.field.specs.Tables.{doublings, power_table, logarithm_table}
use Rattle.field.specs.declared.tables.TheConstants.{POWERS, LOGARITHMS}

-- each entry from the one before
pub powers_listed : POWERS ≡ power_table
unfolding doublings
powers_listed = refl

pub logarithms_listed : LOGARITHMS ≡ logarithm_table
unfolding logarithm_table
logarithms_listed = refl
