-- An answer read from its characters, without its newline. Of the printer it has the four words and no more; that it reads back what is
-- printed is proved. It takes any bytes: a field that is not there, or shows no decimal, shows none.
-- Assumes nothing.
use Rattle.std.specs.Prelude.{ℕ, Bool, not, List, [], eqb, length, take, drop, Option, Some, None}
use Rattle.base.specs.Words.{pick}
use Rattle.text.specs.Bytes.{begins, leading}
use Rattle.text.specs.Decimal.{is_decimal, value_of}
use Rattle.lines.specs.Print.{no_word, out_word, irq_word, wdo_word}

-- a byte that is no blank
abbrev pub solid : ℕ → Bool
solid b = not (eqb b 0x20)

-- what a text shows: a decimal its value, anything else none
unfoldable pub shown_read : List ℕ → Option ℕ
shown_read s = pick (is_decimal s) (Some (value_of s)) None

-- a field that was read: what it shows, and what is left after it
pub record Field : Type 0 where
  pub shown : Option ℕ
  pub left : List ℕ

abbrev pub field : Option ℕ → List ℕ → Field
field shown left = record { shown = shown; left = left }

-- a field's text goes up to the next blank
unfoldable pub text_read : List ℕ → Field
text_read s = field (shown_read (take (leading solid s) s)) (drop (leading solid s) s)

-- what follows a word that s begins with; nothing where it does not
unfoldable pub after_word : List ℕ → List ℕ → List ℕ
after_word word s = pick (begins word s) (drop (length word) s) []

-- a field by its word
abbrev pub field_read : List ℕ → List ℕ → Field
field_read word s = text_read (after_word word s)

-- T8. The four fields of an answer, each in what the one before it left.
abbrev pub no_field : List ℕ → Field
no_field line = field_read no_word line

abbrev pub out_field : List ℕ → Field
out_field line = field_read out_word (no_field line).left

abbrev pub irq_field : List ℕ → Field
irq_field line = field_read irq_word (out_field line).left

abbrev pub wdo_field : List ℕ → Field
wdo_field line = field_read wdo_word (irq_field line).left

-- the number that is shown; the other where none is
abbrev pub shown_or : ℕ → Option ℕ → ℕ
shown_or other (Some n) = n
shown_or other None = other

-- a level is high where 1 is shown
abbrev pub high_shown : Option ℕ → Bool
high_shown out = eqb (shown_or 0 out) 1

-- T8. An answer's number. Where none is shown it is 7, which no answer has (D207), so that a text that is no answer is not read as done.
unfoldable pub number_read : List ℕ → ℕ
number_read line = shown_or 7 (no_field line).shown

-- T8. What `out` shows, and the two levels.
unfoldable pub out_read : List ℕ → Option ℕ
out_read line = (out_field line).shown

unfoldable pub irq_read : List ℕ → Bool
irq_read line = high_shown (irq_field line).shown

unfoldable pub wdo_read : List ℕ → Bool
wdo_read line = high_shown (wdo_field line).shown
