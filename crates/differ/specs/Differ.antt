-- What differs between two saved chips: their numbers, line by line and place by place; the listing, as much of it as a room has; and what comparing two texts answers.
-- It knows lines by their keys, and not how code walks the table: that is Walk's.
-- Assumes nothing.
use Rattle.std.specs.Prelude.{ℕ, zero, suc, ◌+◌, ◌-◌, List, [], ◌∷◌, ◌++◌, leb, eqb, length, take}
use Rattle.base.specs.Words.{pick, over}
use Rattle.text.specs.Bytes.{is_word, newline}
use Rattle.text.specs.Decimal.{decimal_text}
use Rattle.form.specs.Lines.{comma, joined}
use Rattle.form.specs.Form.{Loaded, loaded, bad, load}
use Rattle.form.specs.Table.{Row, rows, key_of, span, numbers_at, chip_form}

-- a line of the saved form: its key, and its numbers
pub record Line : Type 0 where
  pub key : List ℕ
  pub numbers : List ℕ

abbrev pub keyed : List ℕ → List ℕ → Line
keyed key numbers = record { key = key; numbers = numbers }

-- S1, S2. The lines of a list of numbers from place k on: n lines of a row from line i on, and all rows.
unfoldable pub row_lines : Row → ℕ → ℕ → ℕ → List ℕ → List Line
row_lines r zero i k ns = []
row_lines r (suc n) i k ns = keyed (key_of r i) (numbers_at r k ns) ∷ row_lines r n (suc i) (k + r.width) ns

unfoldable pub lines_from : List Row → ℕ → List ℕ → List Line
lines_from [] k ns = []
lines_from (r ∷ rs) k ns = row_lines r (r.lines (take k ns)) 0 k ns ++ lines_from rs (k + span r (take k ns)) ns

abbrev pub lines_of : List ℕ → List Line
lines_of ns = lines_from rows 0 ns

-- S13. A number that differs: the key of its line, its place there, from 0, and what it is in the first chip and in the second.
pub record Difference : Type 0 where
  pub key : List ℕ
  pub place : ℕ
  pub first : ℕ
  pub second : ℕ

abbrev pub difference : List ℕ → ℕ → ℕ → ℕ → Difference
difference key place first second = record { key = key; place = place; first = first; second = second }

-- S13. two numbers at a place: listed where they are not the same
abbrev pub differ_at : List ℕ → ℕ → ℕ → ℕ → List Difference
differ_at key place x y = pick (eqb x y) [] (difference key place x y ∷ [])

-- S13. the numbers of two lines of one key from a place on, as far as both go
unfoldable pub line_differs : List ℕ → ℕ → List ℕ → List ℕ → List Difference
line_differs key place [] ys = []
line_differs key place (x ∷ xs) [] = []
line_differs key place (x ∷ xs) (y ∷ ys) = differ_at key place x y ++ line_differs key (suc place) xs ys

-- S13. the numbers on the line of a key; none where there is no such line
unfoldable pub numbers_on : List ℕ → List Line → List ℕ
numbers_on key [] = []
numbers_on key (l ∷ ls) = pick (is_word l.key key) l.numbers (numbers_on key ls)

-- S13. the lines of the first chip in their order, each beside the second's line of its key
unfoldable pub lines_differ : List Line → List Line → List Difference
lines_differ [] ms = []
lines_differ (l ∷ ls) ms = line_differs l.key 0 l.numbers (numbers_on l.key ms) ++ lines_differ ls ms

unfoldable pub differences : List ℕ → List ℕ → List Difference
differences ns ms = lines_differ (lines_of ns) (lines_of ms)

-- S14. a line of the listing: `key,place,first,second` and a newline
unfoldable pub difference_text : Difference → List ℕ
difference_text d =
    d.key ++ (comma ∷ (decimal_text d.place ++ (comma ∷ (decimal_text d.first ++ (comma ∷ (decimal_text d.second ++ (newline ∷ [])))))))

unfoldable pub listing : List Difference → List (List ℕ)
listing [] = []
listing (d ∷ ds) = difference_text d ∷ listing ds

-- S15. of lines those before the first for which so much room has no more place
unfoldable pub fitting : ℕ → List (List ℕ) → List (List ℕ)
fitting room [] = []
fitting room (l ∷ ls) = pick (leb (length l) room) (l ∷ fitting (room - length l) ls) []

-- a number; which text was refused, 1 or 2; its first bad line; how many numbers differ; how many bytes are listed; and the room after it
pub record Differing : Type 0 where
  pub number : ℕ
  pub text : ℕ
  pub line : ℕ
  pub count : ℕ
  pub length : ℕ
  pub room : List ℕ

-- S16. a text is refused by 8 with its first bad line, and nothing is written
abbrev pub refused_text : ℕ → ℕ → List ℕ → Differing
refused_text text line room = record { number = 8; text = text; line = line; count = 0; length = 0; room = room }

-- S15. all that differs is counted; the room begins with the lines that fit
abbrev pub put : ℕ → List ℕ → List ℕ → Differing
put count text room = record { number = 0; text = 0; line = 0; count = count; length = length text; room = over text room }

abbrev pub listed : List Difference → List ℕ → Differing
listed ds room = put (length ds) (joined (fitting (length room) (listing ds))) room

-- S16. the first text is judged before the second
abbrev pub compared : Loaded (List ℕ) → Loaded (List ℕ) → List ℕ → Differing
compared (bad n) other room = refused_text 1 n room
compared (loaded ns) (bad n) room = refused_text 2 n room
compared (loaded ns) (loaded ms) room = listed (differences ns ms) room

unfoldable pub differs : List ℕ → List ℕ → List ℕ → Differing
differs a b room = compared (load chip_form a) (load chip_form b) room
