-- Which write is carried into its cycle at the end of a frame with k leftover bits, what the cycle writes, and how WEL moves.
-- Assumes nothing.
use Rattle.std.specs.Prelude.{ℕ, ◌+◌, ◌*◌, ◌/◌, ◌%◌, Bool, true, false, not, ◌&&◌, ◌||◌, leb, eqb}
use Rattle.base.specs.Words.{pick}
use Rattle.record.specs.declared.Device.{Device}
use Rattle.record.specs.declared.Cycle.{Cycle}
use Rattle.record.specs.declared.Guard.{Guard}
use Rattle.record.specs.declared.Load.{Load}
use Rattle.record.specs.declared.Lock.{Lock}
use Rattle.record.specs.declared.Lock.TheVariants.{Closed, First, Open}
use Rattle.record.specs.declared.Code.{Code}
use Rattle.record.specs.declared.Code.TheVariants.{Eewrite, Eewrdi, Eewren, Srwrite, Idwrite}
use Rattle.record.specs.declared.Place.{Place}
use Rattle.record.specs.declared.Place.TheVariants.{EepromAt, ClockAt, IdAt}
use Rattle.record.specs.declared.Pair.{Pair}
use Rattle.record.specs.declared.Pair.TheVariants.{StatusData, UnlockData, ClearWatchdog, ClearRam}
use Rattle.record.specs.declared.Protection.{Protection}
use Rattle.record.specs.declared.Protection.TheVariants.{Nothing, Quarter, Half, All}
use Rattle.record.specs.declared.Stage.{Stage}
use Rattle.record.specs.declared.Stage.TheVariants.{Idle, Opened, Unheard, Instruction, Reading, Writing, Second, Over}
use Rattle.record.specs.declared.Target.{Target}
use Rattle.record.specs.declared.Target.TheVariants.{Eeprom, Id, Status}
use Rattle.record.specs.Address.{page_of}
use Rattle.record.specs.Codes.{is_code, writes_page}
use Rattle.record.specs.Numbers.{protection_of}
use Rattle.record.specs.Registers.{cycle_ticks}
use Rattle.record.specs.Stages.{code_at, at_instruction, is_over, frame_place, eeprom_pointer}

-- F29. The first address that BP1 BP0 guard: none, the last quarter, the last half, all.
abbrev pub first_protected : ℕ → Protection → ℕ
first_protected size Nothing = size
first_protected size Quarter = size / 4 * 3
first_protected size Half = size / 2
first_protected size All = 0

-- F26. the page of an address is protected
abbrev pub page_protected : ℕ → Protection → ℕ → Bool
page_protected size p a = leb (first_protected size p) (page_of a)

-- F27. the lock is open
abbrev pub is_open : Lock → Bool
is_open Closed = false
is_open First = false
is_open Open = true

-- the three codes that write through a cycle
abbrev pub is_write : Code → Bool
is_write c = writes_page c || is_code c Srwrite

-- F24. A data byte came: SRWRITE has its first after the instruction, the page writes where an offset is loaded.
abbrev pub data_came : Load → Stage → Bool
data_came l s = (is_write (code_at s) && not (at_instruction s)) && (is_code (code_at s) Srwrite || not (eqb l.offsets 0))

-- F24. and not one too many
abbrev pub data_fits : Load → Stage → Bool
data_fits l s = data_came l s && not (is_over s)

-- F26, F27. What guards the write: the page's protection, the lock.
abbrev pub allowed : ℕ → Guard → Stage → Bool
allowed top g s =
    pick (is_code (code_at s) Eewrite) (not (page_protected (top + 1) g.protection (eeprom_pointer (frame_place s))))
    (pick (is_code (code_at s) Idwrite) (is_open g.lock) true)

-- F23, F24, F25, F26, F27. A write is carried (01's term) into its cycle: WEL is set, data came, no bit is left over, the guard lets it.
unfoldable pub carried : ℕ → ℕ → Device → Bool
carried top k d =
    ((d.guard.wel && data_fits d.load d.frame.stage) && eqb k 0) && allowed top d.guard d.frame.stage

-- F6. What a carried write's cycle writes: a page, or the protection by bits 3 and 2 of SRWRITE's byte.
abbrev pub writing_target : Target → Place → Target
writing_target t (EepromAt a) = Eeprom a
writing_target t (ClockAt a) = t
writing_target t (IdAt a) = Id a

abbrev pub second_target : Target → Pair → Target
second_target t (StatusData v) = Status (protection_of (v / 4 % 4))
second_target t (UnlockData v) = t
second_target t ClearWatchdog = t
second_target t ClearRam = t

abbrev pub target_at : Target → Stage → Target
target_at t Idle = t
target_at t Opened = t
target_at t Unheard = t
target_at t (Instruction c) = t
target_at t (Reading p) = t
target_at t (Writing p) = writing_target t p
target_at t (Second q) = second_target t q
target_at t (Over l) = t

-- F28. A carried write starts its cycle.
unfoldable pub cycle_after : ℕ → ℕ → Device → Cycle
cycle_after top k d =
    pick (carried top k d) (record { target = target_at d.cycle.target d.frame.stage; left = cycle_ticks }) d.cycle

-- F19. A code that acts on the latch does so at an end after its eight bits, no more.
abbrev pub latches : Code → ℕ → Stage → Bool
latches c k s = (is_code (code_at s) c && at_instruction s) && eqb k 0

-- F19. How WEL moves: EEWREN sets it, EEWRDI clears it.
-- F30. Any other frame leaves it, a write too, whether it is carried or comes to nothing.
unfoldable pub wel_after : ℕ → Bool → Stage → Bool
wel_after k wel s = pick (latches Eewren k s) true (pick (latches Eewrdi k s) false wel)
