-- A place in a text, or a bad line, as the reading that it stands for; and the list of numbers in a lent array, 0 where none has come.
-- Assumes nothing.
use Rattle.std.specs.Prelude.{ℕ, ◌+◌, ◌-◌, ◌≤◌, List, [], ◌∷◌, ◌++◌, ◌≡◌, length, take, drop, get_or, replicate, true, false, Result, Ok, Err}
use Rattle.numbers.specs.Tables.{number_limit}
use Rattle.saved.specs.declared.Place.{Place}
use Rattle.saved.specs.declared.Bad.{Bad}
use Rattle.saved.specs.declared.scan.Found.{Found}
use Rattle.form.specs.Table.{Row, span, rows}
use Rattle.saved.specs.Reading.{Reading, reading, Got, got, row_read, rows_read, text_read}

abbrev pub reading_at : List ℕ → Place → Reading
reading_at text p = reading (drop p.at text) p.lines false

abbrev pub stopped_at : List ℕ → Bad → Reading
stopped_at text e = reading (drop e.place.at text) e.place.lines true

-- what code answers that reads on: the place after it, or a bad line
abbrev pub reading_of : List ℕ → Result Place Bad → Reading
reading_of text (Ok p) = reading_at text p
reading_of text (Err e) = stopped_at text e

-- the same of a number
abbrev pub number_found : Result Found Bad → ℕ
number_found (Ok f) = f.value
number_found (Err e) = 0

abbrev pub after_number : List ℕ → Result Found Bad → Reading
after_number text (Ok f) = reading_at text f.place
after_number text (Err e) = stopped_at text e

unfoldable pub filled : List ℕ → List ℕ
filled b = b ++ replicate (number_limit - length b) 0

-- an array that holds a list of so many numbers, and 0 behind it
pub record Holds (m : List ℕ) (count : ℕ) : Type 0 where
  pub long : length m ≡ number_limit
  pub list : m ≡ filled (take count m)

-- a row was read after the numbers g: the array holds what its reading gives, so many numbers, and the place is the reading's; lines are never more than numbers
pub record RowRead (r : Row) (g : Got) (m : List ℕ) (s : Reading) (count : ℕ) : Type 0 where
  pub list : Holds m count
  pub whole : got (take count m) s ≡ row_read r (r.lines g.numbers) 0 g
  pub counted : count ≡ length g.numbers + span r g.numbers
  pub fewer : s.lines ≤ count

-- rows of the table by their numbers, from one to before another; and how many numbers are there at most after so many rows
unfoldable pub rows_in : ℕ → ℕ → List Row
rows_in i end = take (end - i) (drop i rows)

abbrev pub mosts : List ℕ
mosts =
    0 ∷ 1 ∷ 33 ∷ 97 ∷ 98 ∷ 99 ∷ 100 ∷ 101 ∷ 102 ∷ 103 ∷ 104 ∷ 105 ∷ 106 ∷ 107 ∷ 110 ∷ 111 ∷ 119 ∷ 120 ∷ 122 ∷ 123 ∷ 379 ∷ 395 ∷ 396 ∷ 397 ∷ 398 ∷ 399 ∷ 400 ∷ []

unfoldable pub most : ℕ → ℕ
most i = get_or mosts i 0

-- some rows were read after the numbers g
pub record RowsRead (rs : List Row) (end : ℕ) (g : Got) (m : List ℕ) (s : Reading) (count : ℕ) : Type 0 where
  pub list : Holds m count
  pub whole : got (take count m) s ≡ rows_read rs g
  pub few : count ≤ most end
  pub fewer : s.lines ≤ count

-- a whole text was read
pub record TextRead (text m : List ℕ) (s : Reading) (count : ℕ) : Type 0 where
  pub list : Holds m count
  pub whole : got (take count m) s ≡ text_read text
  pub few : count ≤ number_limit
  pub fewer : s.lines ≤ count
