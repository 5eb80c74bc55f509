-- G11. The number of each case of each enum of the record and of the answer, and back: what a saved form or a reader may write for it. Codes are
-- in Codes; protection is BP1 BP0.
-- Assumes nothing.
use Rattle.std.specs.Prelude.{ℕ, eqb, Option, Some, None}
use Rattle.base.specs.Words.{pick}
use Rattle.record.specs.declared.Protection.{Protection}
use Rattle.record.specs.declared.Protection.TheVariants.{Nothing, Quarter, Half, All}
use Rattle.record.specs.declared.Lock.{Lock}
use Rattle.record.specs.declared.Lock.TheVariants.{Closed, First, Open}
use Rattle.record.specs.declared.Act.{Act}
use Rattle.record.specs.declared.Act.TheVariants.{Select, Byte, End, Wait, Cut, Up, Set}
use Rattle.record.specs.declared.Pin.{Pin}
use Rattle.record.specs.declared.Pin.TheVariants.{Evls, Evhs}
use Rattle.record.specs.declared.Place.{Place}
use Rattle.record.specs.declared.Place.TheVariants.{EepromAt, ClockAt, IdAt}
use Rattle.record.specs.declared.Pair.{Pair}
use Rattle.record.specs.declared.Pair.TheVariants.{StatusData, UnlockData, ClearWatchdog, ClearRam}
use Rattle.record.specs.declared.Long.{Long}
use Rattle.record.specs.declared.Long.TheVariants.{StatusOver, UnlockOver, WatchdogOver, RamOver, EnableOver, DisableOver}
use Rattle.record.specs.declared.Stage.{Stage}
use Rattle.record.specs.declared.Stage.TheVariants.{Idle, Opened, Unheard, Instruction, Reading, Writing, Second, Over}
use Rattle.record.specs.declared.Target.{Target}
use Rattle.record.specs.declared.Target.TheVariants.{Eeprom, Id, Status}
use Rattle.record.specs.Codes.{code_of, code_number}

-- F29. BP1 BP0
abbrev pub protection_number : Protection → ℕ
protection_number Nothing = 0
protection_number Quarter = 1
protection_number Half = 2
protection_number All = 3

abbrev pub protection_of : ℕ → Protection
protection_of n = pick (eqb n 0) Nothing (pick (eqb n 1) Quarter (pick (eqb n 2) Half All))

-- steps of UNLOCK taken: none, the first, both
abbrev pub lock_number : Lock → ℕ
lock_number Closed = 0
lock_number First = 1
lock_number Open = 2

abbrev pub lock_of : ℕ → Lock
lock_of n = pick (eqb n 0) Closed (pick (eqb n 1) First Open)

-- V1. the pins behind the acts without one
abbrev pub pin_number : Pin → ℕ
pin_number Evls = 6
pin_number Evhs = 7

-- A1. the acts in their order
abbrev pub act_number : Act → ℕ
act_number Select = 0
act_number Byte = 1
act_number End = 2
act_number Wait = 3
act_number Cut = 4
act_number Up = 5
act_number (Set p) = pin_number p

-- how many there are
abbrev pub act_count : ℕ
act_count = 8

abbrev pub act_of : ℕ → Act
act_of n = pick (eqb n 0) Select (pick (eqb n 1) Byte (pick (eqb n 2) End (pick (eqb n 3) Wait (pick (eqb n 4) Cut (pick (eqb n 5) Up (pick (eqb n 6) (Set Evls) (Set Evhs)))))))

-- a driven byte by its value; none, which no byte is
abbrev pub reply_number : Option ℕ → ℕ
reply_number (Some b) = b
reply_number None = 256

abbrev pub reply_of : ℕ → Option ℕ
reply_of n = pick (eqb n 256) None (Some n)

-- a place by its memory, and its address
abbrev pub place_kind : Place → ℕ
place_kind (EepromAt a) = 0
place_kind (ClockAt a) = 1
place_kind (IdAt a) = 2

abbrev pub place_value : Place → ℕ
place_value (EepromAt a) = a.0
place_value (ClockAt a) = a.0
place_value (IdAt a) = a.0

abbrev pub place_of : ℕ → ℕ → Place
place_of k v = pick (eqb k 0) (EepromAt (record { 0 = v })) (pick (eqb k 1) (ClockAt (record { 0 = v })) (IdAt (record { 0 = v })))

-- what a second byte brought, by its code, and the byte, 0 where it does not matter
abbrev pub pair_kind : Pair → ℕ
pair_kind (StatusData v) = 0
pair_kind (UnlockData v) = 1
pair_kind ClearWatchdog = 2
pair_kind ClearRam = 3

abbrev pub pair_value : Pair → ℕ
pair_value (StatusData v) = v
pair_value (UnlockData v) = v
pair_value ClearWatchdog = 0
pair_value ClearRam = 0

abbrev pub pair_of : ℕ → ℕ → Pair
pair_of k v = pick (eqb k 0) (StatusData v) (pick (eqb k 1) (UnlockData v) (pick (eqb k 2) ClearWatchdog ClearRam))

-- a code with a byte too many
abbrev pub long_kind : Long → ℕ
long_kind StatusOver = 0
long_kind UnlockOver = 1
long_kind WatchdogOver = 2
long_kind RamOver = 3
long_kind EnableOver = 4
long_kind DisableOver = 5

abbrev pub long_of : ℕ → Long
long_of k =
    pick (eqb k 0) StatusOver (pick (eqb k 1) UnlockOver (pick (eqb k 2) WatchdogOver (pick (eqb k 3) RamOver (pick (eqb k 4) EnableOver DisableOver))))

-- A stage as three numbers: its kind in the order of their declaration; which of its cases it is, an instruction by its byte; and the address
-- or byte that the case carries. A number that a stage has no use for is 0.
abbrev pub stage_kind : Stage → ℕ
stage_kind Idle = 0
stage_kind Opened = 1
stage_kind Unheard = 2
stage_kind (Instruction c) = 3
stage_kind (Reading p) = 4
stage_kind (Writing p) = 5
stage_kind (Second q) = 6
stage_kind (Over l) = 7

abbrev pub stage_case : Stage → ℕ
stage_case Idle = 0
stage_case Opened = 0
stage_case Unheard = 0
stage_case (Instruction c) = code_number c
stage_case (Reading p) = place_kind p
stage_case (Writing p) = place_kind p
stage_case (Second q) = pair_kind q
stage_case (Over l) = long_kind l

abbrev pub stage_value : Stage → ℕ
stage_value Idle = 0
stage_value Opened = 0
stage_value Unheard = 0
stage_value (Instruction c) = 0
stage_value (Reading p) = place_value p
stage_value (Writing p) = place_value p
stage_value (Second q) = pair_value q
stage_value (Over l) = 0

abbrev pub stage_of : ℕ → ℕ → ℕ → Stage
stage_of k c v =
    pick (eqb k 0) Idle
    (pick (eqb k 1) Opened
    (pick (eqb k 2) Unheard
    (pick (eqb k 3) (Instruction (code_of c))
    (pick (eqb k 4) (Reading (place_of c v))
    (pick (eqb k 5) (Writing (place_of c v))
    (pick (eqb k 6) (Second (pair_of c v)) (Over (long_of c))))))))

-- what a cycle writes, and where: the memories in the paper's order, then STATUS
abbrev pub target_kind : Target → ℕ
target_kind (Eeprom a) = 0
target_kind (Id a) = 1
target_kind (Status p) = 2

abbrev pub target_value : Target → ℕ
target_value (Eeprom a) = a.0
target_value (Id a) = a.0
target_value (Status p) = protection_number p

abbrev pub target_of : ℕ → ℕ → Target
target_of k v =
    pick (eqb k 0) (Eeprom (record { 0 = v }))
    (pick (eqb k 1) (Id (record { 0 = v })) (Status (protection_of v)))
