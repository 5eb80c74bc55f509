-- Decimals: the value of digits, and the digits of a value. How many digits a number may have is its user's rule.
-- Assumes nothing.
use Rattle.std.specs.Prelude.{ℕ, zero, suc, ◌+◌, ◌-◌, ◌*◌, ◌/◌, ◌%◌, Bool, not, ◌&&◌, List, [], ◌∷◌, ◌++◌, ltb, eqb, length, get_or}
use Rattle.base.specs.Words.{pick}
use Rattle.text.specs.Bytes.{leading, digit}

-- a first digit 0 with more digits after it
abbrev pub needless_zero : List ℕ → Bool
needless_zero s = ltb 1 (length s) && eqb (get_or s 0 0) 0x30

-- digits alone, one at least, and no needless zero
abbrev pub is_decimal : List ℕ → Bool
is_decimal s = ltb 0 (length s) && eqb (leading digit s) (length s) && not (needless_zero s)

-- a digit's character and its value
abbrev pub digit_text : ℕ → ℕ
digit_text d = 0x30 + d

abbrev pub digit_value : ℕ → ℕ
digit_value b = b - 0x30

-- the value of digits: that of those before, ten times, and the next
unfoldable pub value_from : ℕ → List ℕ → ℕ
value_from value [] = value
value_from value (b ∷ s) = value_from (value * 10 + digit_value b) s

abbrev pub value_of : List ℕ → ℕ
value_of s = value_from 0 s

-- so many digits the reader takes at most: their value has 64 bits, whatever the bytes are
abbrev pub read_limit : ℕ
read_limit = 16

-- the decimal text of a number below 10 ^ places: that of its tenth, and the last digit
unfoldable pub text_within : ℕ → ℕ → List ℕ
text_within zero n = []
text_within (suc places) n = pick (ltb n 10) (digit_text n ∷ []) (text_within places (n / 10) ++ (digit_text (n % 10) ∷ []))

-- the decimal text of a number; it never has more places than the number has units, and one
unfoldable pub decimal_text : ℕ → List ℕ
decimal_text n = text_within (suc n) n
