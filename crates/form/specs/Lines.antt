-- A line of the saved form as bytes, written and read; and a text cut into lines. A line has its newline with it. Which lines there are, and what
-- their numbers may be, is Form's and Table's.
-- Assumes nothing.
use Rattle.std.specs.Prelude.{ℕ, Bool, true, false, not, ◌&&◌, List, [], ◌∷◌, ◌++◌, ltb, eqb, length, drop}
use Prim.Native.String.{String}
use Rattle.std.proofs.Math.Option.{Option, none, some}
use Rattle.base.specs.Words.{pick}
use Rattle.text.specs.Bytes.{bytes_of, begins, digit, newline}
use Rattle.text.specs.Decimal.{needless_zero, value_of, decimal_text}

abbrev pub equals : ℕ
equals = 0x3d

abbrev pub comma : ℕ
comma = 0x2c

-- what follows a number: the others, each after a comma, and the newline
unfoldable pub followed : List ℕ → List ℕ
followed [] = newline ∷ []
followed (n ∷ x) = comma ∷ (decimal_text n ++ followed x)

unfoldable pub numbers_text : List ℕ → List ℕ
numbers_text [] = newline ∷ []
numbers_text (n ∷ x) = decimal_text n ++ followed x

-- `key=`
abbrev pub head_of : List ℕ → List ℕ
head_of key = key ++ (equals ∷ [])

-- the line of a key and its numbers
unfoldable pub line_text : List ℕ → List ℕ → List ℕ
line_text key x = head_of key ++ numbers_text x

-- digits that write a number: one at least, no needless zero
abbrev pub number : List ℕ → Bool
number s = ltb 0 (length s) && not (needless_zero s)

-- one number more before those that were read
abbrev pub before : ℕ → Option (List ℕ) → Option (List ℕ)
before n none = none
before n (some x) = some (n ∷ x)

-- the line's end: the newline, and nothing after it
abbrev pub ends : ℕ → List ℕ → Bool
ends b [] = eqb b newline
ends b (c ∷ s) = false

-- the numbers of a line after `key=`, with the digits already read of the first; none where it is not of the form
unfoldable pub numbers_in : List ℕ → List ℕ → Option (List ℕ)
numbers_in s [] = none
numbers_in s (b ∷ t) =
    pick (digit b) (numbers_in (s ++ (b ∷ [])) t)
    (pick (number s)
    (pick (eqb b comma) (before (value_of s) (numbers_in [] t)) (pick (ends b t) (some (value_of s ∷ [])) none))
    none)

-- a line of this key read
unfoldable pub read_line : List ℕ → List ℕ → Option (List ℕ)
read_line key p = pick (begins (head_of key) p) (numbers_in [] (drop (length (head_of key)) p)) none

-- a byte before the first of some lines
abbrev pub onto : ℕ → List (List ℕ) → List (List ℕ)
onto b [] = (b ∷ []) ∷ []
onto b (p ∷ ps) = (b ∷ p) ∷ ps

-- the lines of a text, each with its newline; the last may lack it
unfoldable pub lines_in : List ℕ → List (List ℕ)
lines_in [] = []
lines_in (b ∷ s) = pick (eqb b newline) ((b ∷ []) ∷ lines_in s) (onto b (lines_in s))

-- lines one after another
unfoldable pub joined : List (List ℕ) → List ℕ
joined [] = []
joined (p ∷ ps) = p ++ joined ps

-- texts as lines, a newline after each
abbrev pub lined : List String → List ℕ
lined [] = []
lined (l ∷ ls) = bytes_of l ++ (newline ∷ lined ls)

-- no newline in it
unfoldable pub unbroken : List ℕ → Bool
unbroken [] = true
unbroken (b ∷ s) = not (eqb b newline) && unbroken s
