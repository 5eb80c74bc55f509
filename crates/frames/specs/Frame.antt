-- Select, and a byte of a frame: where the frame goes, and what the byte does. Not what is answered: that is another definition (D10).
-- Assumes nothing.
use Rattle.std.specs.Prelude.{ℕ, ◌+◌, ◌^◌, Bool, not, ◌&&◌, set}
use Rattle.std.specs.Int.Bits.{bit_or}
use Rattle.base.specs.Words.{pick}
use Rattle.record.specs.declared.Device.{Device}
use Rattle.record.specs.declared.Load.{Load}
use Rattle.record.specs.declared.Code.{Code}
use Rattle.record.specs.declared.Code.TheVariants.{Eeread, Eewrite, Eewrdi, Eewren, Srread, Srwrite, Read, Write, Unlock, Idwrite, Idread, Clrwdt, Clrram, Other}
use Rattle.record.specs.declared.Place.{Place}
use Rattle.record.specs.declared.Place.TheVariants.{EepromAt, ClockAt, IdAt}
use Rattle.record.specs.declared.Pair.{Pair}
use Rattle.record.specs.declared.Pair.TheVariants.{StatusData, UnlockData, ClearWatchdog, ClearRam}
use Rattle.record.specs.declared.Long.{Long}
use Rattle.record.specs.declared.Long.TheVariants.{StatusOver, UnlockOver, WatchdogOver, RamOver, EnableOver, DisableOver}
use Rattle.record.specs.declared.Stage.{Stage}
use Rattle.record.specs.declared.Stage.TheVariants.{Idle, Opened, Unheard, Instruction, Reading, Writing, Second, Over}
use Rattle.record.specs.Address.{taken_eeprom, roll_eeprom, taken_id, roll_id, roll_clock, offset_of}
use Rattle.record.specs.Codes.{code_of, heard_under_wip, writes_page}
use Rattle.record.specs.Setters.{with_stage, with_load}
use Rattle.registers.specs.Write.{write_clock}
use Rattle.ticks.specs.Lines.{wip}

-- F31, F32. The instruction byte: while a cycle runs only the five codes are heard.
abbrev pub first_stage : Bool → Code → Stage
first_stage busy c = pick (busy && not (heard_under_wip c)) Unheard (Instruction c)

-- F2, F8, F9. The second byte of a heard frame: an address, the data of SRWRITE or UNLOCK, or one byte more than the code takes.
abbrev pub second_stage : ℕ → ℕ → Code → Stage
second_stage top v Eeread = Reading (EepromAt (taken_eeprom top v))
second_stage top v Eewrite = Writing (EepromAt (taken_eeprom top v))
second_stage top v Eewrdi = Over DisableOver
second_stage top v Eewren = Over EnableOver
second_stage top v Srread = Instruction Srread
second_stage top v Srwrite = Second (StatusData v)
second_stage top v Read = Reading (ClockAt (record { 0 = v }))
second_stage top v Write = Writing (ClockAt (record { 0 = v }))
second_stage top v Unlock = Second (UnlockData v)
second_stage top v Idwrite = Writing (IdAt (taken_id v))
second_stage top v Idread = Reading (IdAt (taken_id v))
second_stage top v Clrwdt = Second ClearWatchdog
second_stage top v Clrram = Second ClearRam
second_stage top v Other = Instruction Other

-- F7, F9, F10, F11. where a byte takes the pointer of a read
abbrev pub read_on : ℕ → Place → Place
read_on top (EepromAt a) = EepromAt (roll_eeprom top a)
read_on top (ClockAt a) = ClockAt (roll_clock a)
read_on top (IdAt a) = IdAt (roll_id a)

-- F10, F11, F22. of a write: that of WRITE moves; of a page write the page stays and its offset moves in the load
abbrev pub written_on : Place → Place
written_on (EepromAt a) = EepromAt a
written_on (ClockAt a) = ClockAt (roll_clock a)
written_on (IdAt a) = IdAt a

-- a third byte is one too many
abbrev pub third_byte : Pair → Long
third_byte (StatusData v) = StatusOver
third_byte (UnlockData v) = UnlockOver
third_byte ClearWatchdog = WatchdogOver
third_byte ClearRam = RamOver

-- where a byte takes the frame
abbrev pub stage_after : ℕ → Bool → ℕ → Stage → Stage
stage_after top busy v Idle = Idle
stage_after top busy v Opened = first_stage busy (code_of v)
stage_after top busy v Unheard = Unheard
stage_after top busy v (Instruction c) = second_stage top v c
stage_after top busy v (Reading p) = Reading (read_on top p)
stage_after top busy v (Writing p) = Writing (written_on p)
stage_after top busy v (Second q) = Over (third_byte q)
stage_after top busy v (Over l) = Over l

-- the address of a page write empties the load and sets the next offset
abbrev pub emptied : Load → ℕ → Load
emptied l v = record { offsets = 0; bytes = l.bytes; next = offset_of v }

-- F22. A data byte goes to the next offset, which rolls inside the page; a later byte replaces an earlier one.
abbrev pub loaded_with : Load → ℕ → Load
loaded_with l v =
    record { offsets = bit_or l.offsets (2 ^ offset_of l.next); bytes = set l.bytes (offset_of l.next) v; next = offset_of (offset_of l.next + 1) }

abbrev pub writing_load : Load → ℕ → Place → Load
writing_load l v (EepromAt a) = loaded_with l v
writing_load l v (ClockAt a) = l
writing_load l v (IdAt a) = loaded_with l v

abbrev pub load_after : Load → ℕ → Stage → Load
load_after l v Idle = l
load_after l v Opened = l
load_after l v Unheard = l
load_after l v (Instruction c) = pick (writes_page c) (emptied l v) l
load_after l v (Reading p) = l
load_after l v (Writing p) = writing_load l v p
load_after l v (Second q) = l
load_after l v (Over o) = l

-- F12, E20. WRITE stores each byte as it comes; no other byte changes registers, SRAM or WEL.
abbrev pub written_place : Bool → Device → ℕ → Place → Device
written_place boots d v (EepromAt a) = d
written_place boots d v (ClockAt a) = write_clock boots d a v
written_place boots d v (IdAt a) = d

abbrev pub written_at : Bool → Device → ℕ → Stage → Device
written_at boots d v Idle = d
written_at boots d v Opened = d
written_at boots d v Unheard = d
written_at boots d v (Instruction c) = d
written_at boots d v (Reading p) = d
written_at boots d v (Writing p) = written_place boots d v p
written_at boots d v (Second q) = d
written_at boots d v (Over l) = d

-- the device after a whole byte
unfoldable pub after_byte : Bool → ℕ → ℕ → Device → Device
after_byte boots top v d =
    with_load (with_stage (written_at boots d v d.frame.stage) (stage_after top (wip d) v d.frame.stage))
    (load_after d.load v d.frame.stage)

-- select opens a frame
unfoldable pub after_select : Device → Device
after_select d = with_stage d Opened
