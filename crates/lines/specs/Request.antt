-- What a line asks for. It is judged in this order: length, form, name, digits; a bad line has the number and the column of the first that fails. The
-- rule of the part comes last: it wants what came before the line, and is not said here.
-- Assumes nothing.
use Rattle.std.specs.Prelude.{ℕ, ◌≤◌, ◌≡◌, Bool, true, false, not, ◌||◌, Option, Some, None, Result, Ok, Err, List, [], ◌∷◌, ◌++◌, length}
use Rattle.base.specs.Words.{pick}
use Rattle.text.specs.Bytes.{Listed}
use Rattle.text.specs.Decimal.{value_of, decimal_text}
use Rattle.lines.specs.declared.Name.{Name}
use Rattle.lines.specs.declared.Name.TheVariants.{Part as PartName, Act as ActName}
use Rattle.lines.specs.declared.Request.{Request}
use Rattle.lines.specs.declared.Request.TheVariants.{Part as PartLine, Act as ActLine}
use Rattle.lines.specs.declared.Fault.{Fault}
use Rattle.lines.specs.declared.Fault.TheVariants.{TooLong, NotInForm, UnknownName, BadDigits}
use Rattle.lines.specs.Line.{too_long, op_text, arg_text, in_form, name_text, names, name_of, digits_text, digit_limit, bad_digits, long_column, form_column, name_column, number_column}

-- what a name and its number ask for
abbrev pub asked : Name → ℕ → Request
asked PartName arg = PartLine arg
asked (ActName act) arg = ActLine act arg

abbrev pub asked_by : Option Name → ℕ → Result Request Fault
asked_by None arg = Err UnknownName
asked_by (Some name) arg = Ok (asked name arg)

abbrev pub unknown_name : Option Name → Bool
unknown_name None = true
unknown_name (Some name) = false

abbrev pub is_bad : Result Request Fault → Bool
is_bad (Ok request) = false
is_bad (Err fault) = true

-- T12 to T15. The number of a fault of a line, and the column at which it is.
abbrev pub fault_number : Fault → ℕ
fault_number TooLong = 71
fault_number (NotInForm column) = 72
fault_number UnknownName = 73
fault_number (BadDigits column) = 75

abbrev pub fault_column : Fault → ℕ
fault_column TooLong = long_column
fault_column (NotInForm column) = column
fault_column UnknownName = name_column
fault_column (BadDigits column) = column

-- a line that asks for this is bad, with this number and at this column
abbrev pub Bad : Result Request Fault → ℕ → ℕ → Type 0
Bad (Ok request) number column = ⊥
Bad (Err fault) number column = (fault_number fault ≡ number) × (fault_column fault ≡ column)

-- A31, T12, T13, T14, T15. The four faults of a line by itself, in the order in which they are judged, each with whether the line has it.
abbrev pub faults_of : List ℕ → List (Bool × Fault)
faults_of line =
    (too_long line, TooLong)
    ∷ (not (in_form line), NotInForm (form_column line))
    ∷ (unknown_name (name_of (name_text line)), UnknownName)
    ∷ (bad_digits (digits_text line), BadDigits (number_column line))
    ∷ []

-- the first that a line has, else what it asks for
abbrev pub first_fault : List (Bool × Fault) → Result Request Fault → Result Request Fault
first_fault [] request = request
first_fault (f ∷ faults) request = pick f.0 (Err f.1) (first_fault faults request)

unfoldable pub request_of : List ℕ → Result Request Fault
request_of line = first_fault (faults_of line) (asked_by (name_of (name_text line)) (value_of (digits_text line)))

-- T17. A line that is bad by itself, whatever its number: the rule of number 7, as it was.
unfoldable pub bad_line : List ℕ → Bool
bad_line line = too_long line || not (in_form line) || unknown_name (name_of (name_text line)) || bad_digits (digits_text line)

-- T1. A line by its text: `op=`, the name's word, ` arg=`, and the number's decimal. A line asks for a name's thing exactly if it is this one,
-- which is proved.
pub record Spelled (line : List ℕ) (name : Name) (arg : ℕ) : Type 0 where
  pub word : List ℕ
  pub listed : Listed names word name
  pub few : length (decimal_text arg) ≤ digit_limit
  pub text : line ≡ op_text ++ (word ++ (arg_text ++ decimal_text arg))
