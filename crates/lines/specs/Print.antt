-- The text of an answer. What the numbers and levels in it are is not said here.
-- Assumes nothing.
use Rattle.std.specs.Prelude.{ℕ, Bool, true, false, List, [], ◌∷◌, ◌++◌, eqb, Option, Some, None}
use Rattle.base.specs.Words.{pick, flag}
use Rattle.record.specs.declared.Act.{Act}
use Rattle.record.specs.declared.Act.TheVariants.{Select, Byte, End, Wait, Cut, Up, Set}
use Rattle.text.specs.Bytes.{bytes_of, newline}
use Rattle.text.specs.Decimal.{decimal_text}

-- T8, G11. What `out` shows, case by case: a decimal, or z for none.
abbrev pub out_text : Option ℕ → List ℕ
out_text (Some n) = decimal_text n
out_text None = bytes_of "z"

-- A6. A wait shows its ticks, a cut its count.
abbrev pub shows_count : Act → Bool
shows_count Select = false
shows_count Byte = false
shows_count End = false
shows_count Wait = true
shows_count Cut = true
shows_count Up = false
shows_count (Set p) = false

-- T8, A4, A34, A38, G2. An act that is done shows its count, or its reply: what the chip drives, a byte or the first bits of one, or none. A refused one shows
-- none.
abbrev pub out_of : ℕ → Act → Option ℕ → ℕ → Option ℕ
out_of number act reply count = pick (eqb number 0) (pick (shows_count act) (Some count) reply) None

-- a level: 1 high, 0 low
abbrev pub level_out : Bool → Option ℕ
level_out high = Some (flag high)

-- T8. The words of an answer, each before what it shows.
abbrev pub no_word : List ℕ
no_word = bytes_of "no="

abbrev pub out_word : List ℕ
out_word = bytes_of " out="

abbrev pub irq_word : List ℕ
irq_word = bytes_of " irq="

abbrev pub wdo_word : List ℕ
wdo_word = bytes_of " wdo="

-- T8. The four fields, with what each shows.
unfoldable pub fields_text : Option ℕ → Option ℕ → Option ℕ → Option ℕ → List ℕ
fields_text number out irq wdo = (no_word ++ out_text number) ++ (out_word ++ out_text out) ++ (irq_word ++ out_text irq) ++ (wdo_word ++ out_text wdo)

-- T8. The characters of an answer: its number, `out`, and the two levels.
unfoldable pub answer_chars : ℕ → Option ℕ → Bool → Bool → List ℕ
answer_chars number out irq wdo = fields_text (Some number) out (level_out irq) (level_out wdo)

-- and as a line, which ends with a newline
unfoldable pub answer_line : ℕ → Option ℕ → Bool → Bool → List ℕ
answer_line number out irq wdo = answer_chars number out irq wdo ++ (newline ∷ [])

-- the most bytes that a number of 64 bits takes, and a whole answer
abbrev pub out_room : ℕ
out_room = 20

abbrev pub answer_room : ℕ
answer_room = 64
