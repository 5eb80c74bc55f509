-- A text read from left to right in one pass, with no branch at a bad line. A reading that has gone bad stays so and moves no more; what is read then is 0
-- and means nothing. In code a reading is a place in the text with the number of good lines so far, or an error with the place where it went
-- bad; then code reads no further (Place). It is no rule: ReadingLaws tie it to the form.
-- Assumes nothing.
use Rattle.std.specs.Prelude.{ℕ, zero, suc, ◌*◌, Bool, true, false, not, ◌&&◌, ◌||◌, List, [], ◌∷◌, ◌++◌, leb, eqb, length, take, drop}
use Rattle.base.specs.Words.{pick}
use Rattle.text.specs.Bytes.{begins, leading, digit, newline}
use Rattle.text.specs.Decimal.{value_of, decimal_text}
use Rattle.form.specs.Lines.{comma, head_of, number, lines_in}
use Rattle.form.specs.Form.{Form, Loaded, bad, later, judged}
use Rattle.form.specs.Table.{Row, key_of, good_after, older_rows, later_groups, in_groups, zeros_after}

pub record Reading : Type 0 where
  pub text : List ℕ
  pub lines : ℕ
  pub stopped : Bool

abbrev pub reading : List ℕ → ℕ → Bool → Reading
reading text lines stopped = record { text = text; lines = lines; stopped = stopped }

-- gone bad
abbrev pub stop : Reading → Reading
stop s = reading s.text s.lines true

-- past a word
unfoldable pub past_word : List ℕ → Reading → Reading
past_word w s = pick (s.stopped || not (begins w s.text)) (stop s) (reading (drop (length w) s.text) s.lines false)

-- the most digits that a number of the form has
abbrev pub digit_limit : ℕ
digit_limit = 8

-- a number of so many digits at most, and past it
abbrev pub digits_at : Reading → List ℕ
digits_at s = take (leading digit s.text) s.text

unfoldable pub readable : Reading → Bool
readable s = not s.stopped && (number (digits_at s) && leb (length (digits_at s)) digit_limit)

unfoldable pub number_at : Reading → ℕ
number_at s = pick (readable s) (value_of (digits_at s)) 0

unfoldable pub past_number : Reading → Reading
past_number s = pick (readable s) (reading (drop (leading digit s.text) s.text) s.lines false) (stop s)

-- numbers read, and the reading after them
pub record Got : Type 0 where
  pub numbers : List ℕ
  pub after : Reading

abbrev pub got : List ℕ → Reading → Got
got x s = record { numbers = x; after = s }

-- c more numbers, each after a comma, and the line's end
unfoldable pub more : ℕ → Reading → Got
more zero s = record { numbers = []; after = past_word (newline ∷ []) s }
more (suc c) s =
    let t = past_word (comma ∷ []) s in
    let g = more c (past_number t) in
    record { numbers = number_at t ∷ g.numbers; after = g.after }

-- a line that begins with this, then one number, and c more
unfoldable pub line_from : List ℕ → ℕ → Reading → Got
line_from head c s =
    let t = past_word head s in
    let g = more c (past_number t) in
    record { numbers = number_at t ∷ g.numbers; after = g.after }

-- a line of a key
abbrev pub line_at : List ℕ → ℕ → Reading → Got
line_at key c s = line_from (head_of key) c s

-- a line is good if it was read and passes its test
unfoldable pub settled : Bool → Reading → Reading
settled test s = pick (s.stopped || not test) (stop s) (reading s.text (suc s.lines) false)

-- c numbers, each with the byte after it: a comma, or the newline after the last
abbrev pub mark_after : ℕ → ℕ
mark_after zero = newline
mark_after (suc c) = comma

unfoldable pub run_of : ℕ → Reading → Got
run_of zero s = got [] s
run_of (suc c) s =
    let g = run_of c (past_word (mark_after c ∷ []) (past_number s)) in
    got (number_at s ∷ g.numbers) g.after

-- line i of a row after the numbers before it, so many of its lines, and all rows
unfoldable pub line_read : Row → ℕ → Got → Got
line_read r i g =
    let x = run_of r.width (past_word (head_of (key_of r i)) g.after) in
    got (g.numbers ++ x.numbers) (settled (good_after r g.numbers (i * r.width) x.numbers) x.after)

unfoldable pub row_read : Row → ℕ → ℕ → Got → Got
row_read r zero i g = g
row_read r (suc n) i g = row_read r n (suc i) (line_read r i g)

unfoldable pub rows_read : List Row → Got → Got
rows_read [] g = g
rows_read (r ∷ rs) g = rows_read rs (row_read r (r.lines g.numbers) 0 g)

-- the whole text was read, and all of it was good
unfoldable pub complete : Reading → Bool
complete s = not s.stopped && eqb (length s.text) 0

-- groups of rows that a text may lack
unfoldable pub groups_read : List (List Row) → Got → Got
groups_read [] g = g
groups_read (rs ∷ gs) g =
    pick (complete g.after) (got (g.numbers ++ zeros_after (in_groups (rs ∷ gs)) g.numbers) g.after) (groups_read gs (rows_read rs g))

-- a whole text
abbrev pub text_read : List ℕ → Got
text_read text = groups_read later_groups (rows_read older_rows (got [] (reading text 0 false)))

unfoldable pub later_by : {A : Type 0} → ℕ → Loaded A → Loaded A
later_by zero r = r
later_by (suc n) r = later_by n (later r)

-- what a file gives, read so far, with this form still to come
unfoldable pub resumed : {A : Type 0} → Form A → Reading → Loaded A
resumed f s = pick s.stopped (bad (suc s.lines)) (later_by s.lines (judged f (lines_in s.text)))

-- How code writes numbers: each with the byte after it.
unfoldable pub run_text : List ℕ → List ℕ
run_text [] = []
run_text (n ∷ x) = decimal_text n ++ (mark_after (length x) ∷ run_text x)
