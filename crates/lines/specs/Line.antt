-- A line of a tape, without its newline: its pieces, its form, and the names. Every byte of it is a character.
-- What a line asks for is not said here: that is Request.
-- Assumes nothing.
use Rattle.std.specs.Prelude.{ℕ, suc, ◌+◌, Bool, ◌&&◌, ◌||◌, Option, List, [], ◌∷◌, ltb, eqb, length, take, drop}
use Prim.Native.String.{String}
use Rattle.record.specs.declared.Act.TheVariants.{Select, Byte, End, Wait, Cut, Up, Set}
use Rattle.record.specs.declared.Pin.TheVariants.{Evls, Evhs}
use Rattle.base.specs.Words.{pick}
use Rattle.text.specs.Bytes.{bytes_of, agreed, begins, leading, letter, digit, found}
use Rattle.text.specs.Decimal.{needless_zero}
use Rattle.lines.specs.declared.Name.{Name}
use Rattle.lines.specs.declared.Name.TheVariants.{Part as PartName, Act as ActName}

-- T3. No more than 64 characters.
abbrev pub line_limit : ℕ
line_limit = 64

abbrev pub too_long : List ℕ → Bool
too_long line = ltb line_limit (length line)

abbrev pub op_text : List ℕ
op_text = bytes_of "op="

abbrev pub arg_text : List ℕ
arg_text = bytes_of " arg="

-- The name is the small letters after `op=`.
abbrev pub after_op : List ℕ → List ℕ
after_op line = drop (length op_text) line

unfoldable pub name_size : List ℕ → ℕ
name_size line = leading letter (after_op line)

abbrev pub name_text : List ℕ → List ℕ
name_text line = take (name_size line) (after_op line)

abbrev pub after_name : List ℕ → List ℕ
after_name line = drop (name_size line) (after_op line)

-- T5, G9. The text of the number is a part of the line: what is left after one blank and `arg=`.
unfoldable pub digits_text : List ℕ → List ℕ
digits_text line = drop (length arg_text) (after_name line)

-- T1, T4. `op=`, letters, one blank, `arg=`, digits, at least one of each, and the end.
unfoldable pub in_form : List ℕ → Bool
in_form line =
    begins op_text line
    && ltb 0 (name_size line)
    && begins arg_text (after_name line)
    && ltb 0 (length (digits_text line))
    && eqb (leading digit (digits_text line)) (length (digits_text line))

-- How far a text goes along with a word and then with what follows, and with bytes of a kind, one at least, and then with what follows.
abbrev pub past_word : List ℕ → (List ℕ → ℕ) → List ℕ → ℕ
past_word word next s = pick (begins word s) (length word + next (drop (length word) s)) (agreed word s)

abbrev pub past_some : (ℕ → Bool) → (List ℕ → ℕ) → List ℕ → ℕ
past_some kind next s = pick (ltb 0 (leading kind s)) (leading kind s + next (drop (leading kind s) s)) 0

-- T13. How far a line goes along with the form. That it is the longest beginning that some line of the form has is proved.
unfoldable pub form_reach : List ℕ → ℕ
form_reach line = past_word op_text (past_some letter (past_word arg_text (leading digit))) line

-- T4, V1. A name is `part` or that of an act.
abbrev pub names : List (String × Name)
names =
    ("part", PartName)
    ∷ ("select", ActName Select)
    ∷ ("byte", ActName Byte)
    ∷ ("end", ActName End)
    ∷ ("wait", ActName Wait)
    ∷ ("cut", ActName Cut)
    ∷ ("up", ActName Up)
    ∷ ("evls", ActName (Set Evls))
    ∷ ("evhs", ActName (Set Evhs))
    ∷ []

unfoldable pub name_of : List ℕ → Option Name
name_of s = found names s

-- T2. One to eight digits, and no 0 in front of another digit. That there is one is of the form.
abbrev pub digit_limit : ℕ
digit_limit = 8

abbrev pub too_many_digits : List ℕ → Bool
too_many_digits s = ltb digit_limit (length s)

abbrev pub bad_digits : List ℕ → Bool
bad_digits s = needless_zero s || too_many_digits s

-- T12 to T15. The columns, from 1, at which a line is bad: the first past the limit; the one at which it leaves the form; the name's first; and of
-- the number the first digit, if that is a needless zero, else the first too many.
abbrev pub long_column : ℕ
long_column = suc line_limit

abbrev pub form_column : List ℕ → ℕ
form_column line = suc (form_reach line)

abbrev pub name_column : ℕ
name_column = suc (length op_text)

abbrev pub digit_column : List ℕ → ℕ
digit_column line = suc (length op_text + name_size line + length arg_text)

unfoldable pub number_column : List ℕ → ℕ
number_column line = pick (needless_zero (digits_text line)) (digit_column line) (digit_column line + digit_limit)
