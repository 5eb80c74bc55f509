-- What a caller in another language holds of a chip, and what a call answers: all of it numbers.
-- Assumes nothing.
use Rattle.std.specs.Prelude.{ℕ, Bool, true, false, not, List, [], ◌∷◌, length, get_or, Option, Some, None, Result, Ok, Err}
use Rattle.base.specs.Words.{flag, pick}
use Rattle.record.specs.declared.Device.{Device}
use Rattle.record.specs.Part.{is_part}
use Rattle.record.specs.World.{World}
use Rattle.refusals.specs.declared.Refusal.{Refusal}
use Rattle.refusals.specs.declared.Refusal.TheVariants.{Range}
use Rattle.refusals.specs.Refusal.{wrong_length, first_refusal}
use Rattle.ticks.specs.Lines.{irq_low, wdo_low}
use Rattle.form.specs.Chip.{device_of}
use Rattle.form.specs.State.{array_numbers, state_of, is_state}
use Rattle.arrays.specs.declared.Chip.{Chip}

-- I1. the state array, the EEPROM and the ID bytes
pub record Arrays : Type 0 where
  pub state : List ℕ
  pub eeprom : List ℕ
  pub id : List ℕ

abbrev pub arrays : List ℕ → List ℕ → List ℕ → Arrays
arrays state ee id = record { state = state; eeprom = ee; id = id }

-- I1. those of a chip
abbrev pub arrays_of : ℕ → World → Arrays
arrays_of part w = arrays (state_of part w.device) w.eeprom w.id

-- I1. an array begins with its part
abbrev pub part_of : List ℕ → ℕ
part_of bs = get_or bs 0 0

-- the chip of an array that is one's; from another none is read, by 6
abbrev pub chip_in : List ℕ → Chip
chip_in bs = record { part = part_of bs; device = device_of (array_numbers bs) }

abbrev pub chip_read : List ℕ → Result Chip Refusal
chip_read bs = pick (is_state bs) (Ok (chip_in bs)) (Err Range)

-- I2, I3. The first that holds: 3 for the part, 4 for a memory's length, 6 where the state array is not what it should be.
abbrev pub arrays_refusal : ℕ → ℕ → ℕ → Bool → ℕ
arrays_refusal part ee id there = first_refusal (not (is_part part)) (wrong_length part ee id) (not there) false false 0

-- I3. of the arrays of a caller
unfoldable pub state_refusal : Arrays → ℕ
state_refusal a = arrays_refusal (part_of a.state) (length a.eeprom) (length a.id) (is_state a.state)

-- I5. whether SO drives, and what
abbrev pub drives : Option ℕ → Bool
drives (Some b) = true
drives None = false

abbrev pub driven_byte : Option ℕ → ℕ
driven_byte (Some b) = b
driven_byte None = 0

-- I5. the six numbers of an answer, with the levels of a record
abbrev pub answer_of : ℕ → Option ℕ → ℕ → Device → List ℕ
answer_of number reply count d = number ∷ flag (drives reply) ∷ driven_byte reply ∷ count ∷ flag (not (irq_low d)) ∷ flag (not (wdo_low d)) ∷ []

-- I3. those where there is no chip
abbrev pub no_chip : ℕ → List ℕ
no_chip number = number ∷ 0 ∷ 0 ∷ 0 ∷ 1 ∷ 1 ∷ []
