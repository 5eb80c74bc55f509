-- The number's tenth is put first, then its last digit. The measure is the number.
use Rattle.text.proofs.decimal.+put_digits.Given as goal

abbrev pub decreases-put_digits : goal.decreases-put_digits
decreases-put_digits l = l.n
