-- When a line of bytes is bad by itself, and at which column, said apart from the tests that decide (Line, Request): of the form by the lines that have it,
-- of a column by the bytes before it. That a line is answered by these rows is proved. The limits stand here as numbers, on purpose: a change of a
-- limit alone is refused here.
-- Assumes nothing.
use Rattle.std.specs.Prelude.{ℕ, suc, ◌+◌, ◌<◌, ◌≤◌, ◌≡◌, Bool, List, [], ◌∷◌, ◌++◌, ◌⊎◌, ◌≢◌, length, take, get_or}
use Rattle.text.specs.Bytes.{bytes_of, leading, letter, digit, Listed}
use Rattle.lines.specs.declared.Name.{Name}
use Rattle.lines.specs.Line.{names}

-- bytes of a kind, one at least
pub record Run (kind : ℕ → Bool) (s : List ℕ) : Type 0 where
  pub each : leading kind s ≡ length s
  pub one : 0 < length s

-- T1. A line of the form: `op=` with a name in letters a to z, a single space, `arg=` with a number in decimal digits.
pub record Formed (line : List ℕ) : Type 0 where
  pub name : List ℕ
  pub number : List ℕ
  pub letters : Run letter name
  pub digits : Run digit number
  pub text : line ≡ bytes_of "op=" ++ (name ++ (bytes_of " arg=" ++ number))

-- some line of the form begins with these bytes
abbrev pub GoesOn : List ℕ → Type 0
GoesOn start = (rest : List ℕ) × Formed (start ++ rest)

-- the first k bytes are the longest beginning of the line that some line of the form has too
pub record Longest (line : List ℕ) (k : ℕ) : Type 0 where
  pub within : k ≤ length line
  pub goes : GoesOn (take k line)
  pub longer : (j : ℕ) → k < j → j ≤ length line → ¬ GoesOn (take j line)

-- 71, T12. more than 64 bytes; the column is the 65th
pub record LongRow (line : List ℕ) (column : ℕ) : Type 0 where
  pub long : 64 < length line
  pub at : column ≡ 65

-- 72, T13. not of the form; the column is the one behind the longest beginning, and so one past its end where the line stops short
pub record FormRow (line : List ℕ) (column : ℕ) : Type 0 where
  pub other : ¬ Formed line
  pub reach : ℕ
  pub longest : Longest line reach
  pub at : column ≡ suc reach

-- 73, T14. of the form, and no name stands in the list; the column is the fourth
pub record NameRow (line : List ℕ) (column : ℕ) : Type 0 where
  pub form : Formed line
  pub unknown : (x : Name) → ¬ Listed names form.name x
  pub at : column ≡ 4

-- 75, T15. of the form, and its digits, which stand from a column to the line's end, begin with a needless 0, or are more than eight
pub record DigitsRow (line : List ℕ) (column : ℕ) : Type 0 where
  pub form : Formed line
  pub first : ℕ
  pub stands : first + length form.number ≡ suc (length line)
  pub bad :
      ((get_or form.number 0 0 ≡ 0x30) × (1 < length form.number) × (column ≡ first))
      ⊎ ((get_or form.number 0 0 ≢ 0x30) × (8 < length form.number) × (column ≡ first + 8))

-- a row: its number, and when it holds at a column
pub record LineRow : Type 1 where
  pub number : ℕ
  pub holds : ℕ → Type 0

-- T16. The order of the rows of a line by itself.
abbrev pub line_rows : List ℕ → List LineRow
line_rows line =
    record { number = 71; holds = LongRow line }
    ∷ record { number = 72; holds = FormRow line }
    ∷ record { number = 73; holds = NameRow line }
    ∷ record { number = 75; holds = DigitsRow line }
    ∷ []

-- a row that holds at no column
abbrev pub Clear : LineRow → Type 0
Clear r = (column : ℕ) → ¬ r.holds column

-- number and column are those of a row that holds, no row before it holding
unfoldable pub FirstRow : List LineRow → ℕ → ℕ → Type 0
FirstRow [] number column = ⊥
FirstRow (r ∷ rows) number column = (r.holds column × (number ≡ r.number)) ⊎ (Clear r × FirstRow rows number column)

-- no row holds
unfoldable pub NoRow : List LineRow → Type 0
NoRow [] = Unit {0}
NoRow (r ∷ rows) = Clear r × NoRow rows
