-- The measure is the number, of which each call of itself loses the last digit.
use Rattle.printing.proofs.+put_decimal.Given as goal

abbrev pub decreases-put_decimal : goal.decreases-put_decimal
decreases-put_decimal l = l.n
