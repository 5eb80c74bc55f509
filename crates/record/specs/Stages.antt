-- What a stage of the frame tells: whether a frame is open and heard, the code that it belongs to, and where its pointer stands. Not where
-- a byte takes it, nor what its end does.
-- Assumes nothing.
use Rattle.std.specs.Prelude.{ℕ, Bool, true, false, not, ◌&&◌}
use Rattle.record.specs.declared.Code.{Code}
use Rattle.record.specs.declared.Code.TheVariants.{Eeread, Eewrite, Eewrdi, Eewren, Srwrite, Read, Write, Unlock, Idwrite, Idread, Clrwdt, Clrram, Other}
use Rattle.record.specs.declared.Place.{Place}
use Rattle.record.specs.declared.Place.TheVariants.{EepromAt, ClockAt, IdAt}
use Rattle.record.specs.declared.Pair.{Pair}
use Rattle.record.specs.declared.Pair.TheVariants.{StatusData, UnlockData, ClearWatchdog, ClearRam}
use Rattle.record.specs.declared.Long.{Long}
use Rattle.record.specs.declared.Long.TheVariants.{StatusOver, UnlockOver, WatchdogOver, RamOver, EnableOver, DisableOver}
use Rattle.record.specs.declared.Stage.{Stage}
use Rattle.record.specs.declared.Stage.TheVariants.{Idle, Opened, Unheard, Instruction, Reading, Writing, Second, Over}
use Rattle.record.specs.declared.Target.{Target}
use Rattle.record.specs.declared.Target.TheVariants.{Eeprom, Id, Status}
use Rattle.record.specs.Codes.{heard_under_wip}

-- a frame is open: the chip is selected
abbrev pub selected : Stage → Bool
selected Idle = false
selected Opened = true
selected Unheard = true
selected (Instruction c) = true
selected (Reading p) = true
selected (Writing p) = true
selected (Second q) = true
selected (Over l) = true

-- a frame is open whose first byte came and is heard (01's term)
abbrev pub heard : Stage → Bool
heard Idle = false
heard Opened = false
heard Unheard = false
heard (Instruction c) = true
heard (Reading p) = true
heard (Writing p) = true
heard (Second q) = true
heard (Over l) = true

-- The code that a heard stage belongs to; Other where none is heard.
abbrev pub reading_code : Place → Code
reading_code (EepromAt a) = Eeread
reading_code (ClockAt a) = Read
reading_code (IdAt a) = Idread

abbrev pub writing_code : Place → Code
writing_code (EepromAt a) = Eewrite
writing_code (ClockAt a) = Write
writing_code (IdAt a) = Idwrite

abbrev pub second_code : Pair → Code
second_code (StatusData v) = Srwrite
second_code (UnlockData v) = Unlock
second_code ClearWatchdog = Clrwdt
second_code ClearRam = Clrram

abbrev pub over_code : Long → Code
over_code StatusOver = Srwrite
over_code UnlockOver = Unlock
over_code WatchdogOver = Clrwdt
over_code RamOver = Clrram
over_code EnableOver = Eewren
over_code DisableOver = Eewrdi

abbrev pub code_at : Stage → Code
code_at Idle = Other
code_at Opened = Other
code_at Unheard = Other
code_at (Instruction c) = c
code_at (Reading p) = reading_code p
code_at (Writing p) = writing_code p
code_at (Second q) = second_code q
code_at (Over l) = over_code l

-- a heard frame is at its instruction byte: one byte came, and of SRREAD or a code of none one at least
abbrev pub at_instruction : Stage → Bool
at_instruction Idle = false
at_instruction Opened = false
at_instruction Unheard = false
at_instruction (Instruction c) = true
at_instruction (Reading p) = false
at_instruction (Writing p) = false
at_instruction (Second q) = false
at_instruction (Over l) = false

-- more bytes came than the code takes
abbrev pub is_over : Stage → Bool
is_over Idle = false
is_over Opened = false
is_over Unheard = false
is_over (Instruction c) = false
is_over (Reading p) = false
is_over (Writing p) = false
is_over (Second q) = false
is_over (Over l) = true

-- a heard frame is open whose code is not heard while a write cycle runs
abbrev pub foreign_to_wip : Stage → Bool
foreign_to_wip s = heard s && not (heard_under_wip (code_at s))

-- Where the pointer of a frame stands, and that of a cycle. Where there is none it is clock address 00h: number 6 judges no clock address.
abbrev pub no_place : Place
no_place = ClockAt (record { 0 = 0 })

abbrev pub frame_place : Stage → Place
frame_place Idle = no_place
frame_place Opened = no_place
frame_place Unheard = no_place
frame_place (Instruction c) = no_place
frame_place (Reading p) = p
frame_place (Writing p) = p
frame_place (Second q) = no_place
frame_place (Over l) = no_place

abbrev pub cycle_place : Target → Place
cycle_place (Eeprom a) = EepromAt a
cycle_place (Id a) = IdAt a
cycle_place (Status p) = no_place

-- the ID pointer of a place, and its EEPROM pointer; 0 where it is of another memory
abbrev pub id_pointer : Place → ℕ
id_pointer (EepromAt a) = 0
id_pointer (ClockAt a) = 0
id_pointer (IdAt a) = a.0

abbrev pub eeprom_pointer : Place → ℕ
eeprom_pointer (EepromAt a) = a.0
eeprom_pointer (ClockAt a) = 0
eeprom_pointer (IdAt a) = 0
