-- A33. The refusal table as the chain that decides: 3 for the part, 4, 6, 3 for the argument, 5, then 1 or 2. The numbers of a bad line are the tape's and come before.
-- The rows in words of their own, apart from this chain, stand in Rows.
-- Assumes nothing.
use Rattle.std.specs.Prelude.{ℕ, Bool, false, not, ◌||◌, ltb, eqb, Result, Ok, Err}
use Rattle.base.specs.Words.{pick}
use Rattle.record.specs.declared.Device.{Device}
use Rattle.record.specs.declared.Act.{Act}
use Rattle.record.specs.declared.Act.TheVariants.{Select, Byte, End, Wait, Cut, Up, Set}
use Rattle.record.specs.Part.{is_part, size_of, id_size}
use Rattle.record.specs.Registers.{wait_limit}
use Rattle.record.specs.Stages.{selected}
use Rattle.refusals.specs.declared.Refusal.{Refusal}
use Rattle.refusals.specs.declared.Refusal.TheVariants.{Selected, NotSelected, Argument, Length, Power, Range}
use Rattle.refusals.specs.Range.{out_of_range}

-- the numbers of the code's refusals
abbrev pub refusal_number : Refusal → ℕ
refusal_number Selected = 1
refusal_number NotSelected = 2
refusal_number Argument = 3
refusal_number Length = 4
refusal_number Power = 5
refusal_number Range = 6

-- the number of what the code answers: 0 where it is no refusal
abbrev pub number_of : {A : Type 0} → Result A Refusal → ℕ
number_of (Ok a) = 0
number_of (Err r) = refusal_number r

-- 4, A15. a memory has not the part's length
abbrev pub wrong_length : ℕ → ℕ → ℕ → Bool
wrong_length part ee id = not (eqb ee (size_of part)) || not (eqb id id_size)

-- 3, A10, A11, A12, A13, V1. the act does not take the argument
abbrev pub wrong_arg : Act → ℕ → Bool
wrong_arg Select arg = not (eqb arg 0)
wrong_arg Byte arg = ltb 255 arg
wrong_arg End arg = ltb 7 arg
wrong_arg Wait arg = ltb wait_limit arg
wrong_arg Cut arg = ltb 255 arg
wrong_arg Up arg = not (eqb arg 0)
wrong_arg (Set p) arg = ltb 1 arg

-- 5, A16, A17. the act does not go with the power
abbrev pub wrong_power : Act → Bool → Bool
wrong_power Select power = not power
wrong_power Byte power = not power
wrong_power End power = not power
wrong_power Wait power = false
wrong_power Cut power = not power
wrong_power Up power = power
wrong_power (Set p) power = false

-- 1, A8. selected twice; 2, A9. a byte or an end without a frame
abbrev pub wrong_select : Act → Bool → ℕ
wrong_select Select sel = pick sel 1 0
wrong_select Byte sel = pick sel 0 2
wrong_select End sel = pick sel 0 2
wrong_select Wait sel = 0
wrong_select Cut sel = 0
wrong_select Up sel = 0
wrong_select (Set p) sel = 0

-- the order of the table; 0 where no row holds
abbrev pub first_refusal : Bool → Bool → Bool → Bool → Bool → ℕ → ℕ
first_refusal part length range arg power last =
    pick part 3 (pick length 4 (pick range 6 (pick arg 3 (pick power 5 last))))

-- the number that answers an act on a record, with memories of these lengths
unfoldable pub refusal_of : ℕ → Act → ℕ → Device → ℕ → ℕ → ℕ
refusal_of part act arg d ee id =
    first_refusal (not (is_part part)) (wrong_length part ee id) (out_of_range part d) (wrong_arg act arg) (wrong_power act d.power)
    (wrong_select act (selected d.frame.stage))

-- the rows that are judged before any record is seen: 3 for the part, 4; 0 where none of them holds
abbrev pub memory_refusal : ℕ → ℕ → ℕ → ℕ
memory_refusal part ee id = first_refusal (not (is_part part)) (wrong_length part ee id) false false false 0

-- the rows that are judged whatever the act is: 3 for the part, 4, 6; 0 where none of them holds
unfoldable pub setup_refusal : ℕ → Device → ℕ → ℕ → ℕ
setup_refusal part d ee id = first_refusal (not (is_part part)) (wrong_length part ee id) (out_of_range part d) false false 0

-- the rows of the act, where none of those holds: 3 for the argument, 5, then 1 or 2
unfoldable pub act_refusal : Act → ℕ → Device → ℕ
act_refusal act arg d =
    first_refusal false false false (wrong_arg act arg) (wrong_power act d.power) (wrong_select act (selected d.frame.stage))
