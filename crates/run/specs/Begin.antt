-- Demand 3 from any beginning: a chip that is at work, a frame open and a cycle running or not, and memories with any bytes in them. The ledger reads the
-- record once, at the beginning; from then on it is told acts and ticks alone. It is a predicate of any chip, as demand 3 from fresh is, and gives that one.
-- Assumes nothing.
use Rattle.std.specs.Prelude.{ℕ, zero, suc, ◌+◌, ◌*◌, ◌<◌, ◌≡◌, true, ◌||◌, List, [], ◌∷◌, ◌++◌, eqb, get_or}
use Rattle.base.specs.Words.{pick, bit}
use Rattle.record.specs.declared.Device.{Device}
use Rattle.record.specs.declared.Load.{Load}
use Rattle.record.specs.declared.Code.{Code}
use Rattle.record.specs.declared.Code.TheVariants.{Eewrdi, Eewren}
use Rattle.record.specs.declared.Place.{Place}
use Rattle.record.specs.declared.Place.TheVariants.{EepromAt, ClockAt, IdAt}
use Rattle.record.specs.declared.Pair.{Pair}
use Rattle.record.specs.declared.Pair.TheVariants.{StatusData, UnlockData, ClearWatchdog, ClearRam}
use Rattle.record.specs.declared.Stage.{Stage}
use Rattle.record.specs.declared.Stage.TheVariants.{Idle, Opened, Unheard, Instruction, Reading, Writing, Second, Over}
use Rattle.record.specs.declared.Lock.{Lock}
use Rattle.record.specs.declared.Lock.TheVariants.{Closed, First, Open}
use Rattle.record.specs.declared.Target.{Target}
use Rattle.record.specs.declared.Target.TheVariants.{Eeprom, Id, Status}
use Rattle.record.specs.Address.{page_of}
use Rattle.record.specs.Codes.{code_number, is_code}
use Rattle.record.specs.Numbers.{protection_number}
use Rattle.record.specs.Part.{is_part}
use Rattle.record.specs.Stages as stages
use Rattle.record.specs.Stages.{over_code, code_at}
use Rattle.record.specs.World.{World, Shaped, fresh_world}
use Rattle.refusals.specs.InRange.{InRange}
use Rattle.ledger.specs.State.{Memory, Loaded, Ledger, closed, first_step, opened, eeprom_cycle, id_cycle, status_cycle, start}
use Rattle.ledger.specs.State as ledger
use Rattle.ledger.specs.Bytes.{byte_of}
use Rattle.ledger.specs.Steps.{ledger_run}
use Rattle.run.specs.Claim.{Chip, Input, our_chip, world_after, steps_of, memory_of, memory_size, reached}

-- the chip's lock as the ledger names it
abbrev pub lock_named : Lock → ledger.Lock
lock_named Closed = closed
lock_named First = first_step
lock_named Open = opened

-- The loaded bytes of a page load: one for each offset below n that is loaded. In what order they came is forgotten, and no rule asks for it.
unfoldable pub loaded_below : ℕ → Load → List Loaded
loaded_below zero load = []
loaded_below (suc n) load =
    pick (bit load.offsets n) (record { offset = n; byte = get_or load.bytes n 0 } ∷ loaded_below n load) (loaded_below n load)

abbrev pub loaded_of : Load → List Loaded
loaded_of load = loaded_below 8 load

-- how many bytes a code takes that stands at a byte too many
abbrev pub taken : Code → ℕ
taken c = pick (is_code c Eewren || is_code c Eewrdi) 1 2

-- A frame at a stage: how many bytes came, the second one, the page, the next offset and what is loaded. A code that is forgotten is 00h, which is none of
-- the thirteen.
abbrev frame_at : Stage → ℕ → ℕ → ℕ → ℕ → List Loaded → ledger.Frame
frame_at s count second page next loaded =
    record { heard = stages.heard s; code = code_number (code_at s); second = second; count = count; page = page; next = next; loaded = loaded }

-- one of which the ledger keeps no more than its code and how many bytes came
abbrev pub plain_frame : Stage → ℕ → ledger.Frame
plain_frame s count = frame_at s count 0 0 0 []

-- A page write with its address: two bytes, and a third where some are loaded. How many data bytes came is forgotten; no rule asks more than whether any
-- did.
abbrev pub page_frame : Place → ℕ → Load → ledger.Frame
page_frame p a load = frame_at (Writing p) (pick (eqb load.offsets 0) 2 3) 0 (page_of a) load.next (loaded_of load)

abbrev pub writing_frame : Place → Load → ledger.Frame
writing_frame (EepromAt a) load = page_frame (EepromAt a) a.0 load
writing_frame (ClockAt a) load = plain_frame (Writing (ClockAt a)) 2
writing_frame (IdAt a) load = page_frame (IdAt a) a.0 load

-- the second byte of SRWRITE is loaded, that of UNLOCK is noted
abbrev pub second_frame : Pair → ledger.Frame
second_frame (StatusData v) = frame_at (Second (StatusData v)) 2 v 0 1 (record { offset = 0; byte = v } ∷ [])
second_frame (UnlockData v) = frame_at (Second (UnlockData v)) 2 v 0 0 []
second_frame ClearWatchdog = plain_frame (Second ClearWatchdog) 2
second_frame ClearRam = plain_frame (Second ClearRam) 2

-- The frame, as far as its stage knows it. Where a stage stands for several numbers of bytes it is the fewest.
abbrev pub open_frame : Stage → Load → ledger.Frame
open_frame Idle load = plain_frame Idle 0
open_frame Opened load = plain_frame Opened 0
open_frame Unheard load = plain_frame Unheard 1
open_frame (Instruction c) load = plain_frame (Instruction c) 1
open_frame (Reading p) load = plain_frame (Reading p) 2
open_frame (Writing p) load = writing_frame p load
open_frame (Second q) load = second_frame q
open_frame (Over l) load = plain_frame (Over l) (taken (over_code l) + 1)

-- The cycle, with the ticks that it has left. Of the byte of a STATUS cycle the record keeps bits 3 and 2, and the ledger asks for no other.
abbrev pub cycle_with : ℕ → Load → Target → ledger.Cycle
cycle_with left load (Eeprom a) = record { kind = eeprom_cycle; page = page_of a.0; loaded = loaded_of load; left = left }
cycle_with left load (Id a) = record { kind = id_cycle; page = page_of a.0; loaded = loaded_of load; left = left }
cycle_with left load (Status p) =
    record { kind = status_cycle; page = 0; loaded = record { offset = 0; byte = protection_number p * 4 } ∷ []; left = left }

-- R16. The ledger that begins with a record: power, whether a frame is open, WEL, BP, lock, that frame and the cycle are the record's, and there is no
-- entry. Neither the memories nor the part are asked for: an address in a record in range is already one of the part's.
unfoldable pub ledger_of : Device → Ledger
ledger_of d =
    record {
      power = d.power;
      selected = stages.selected d.frame.stage;
      wel = d.guard.wel;
      bp = protection_number d.guard.protection;
      lock = lock_named d.guard.lock;
      frame = open_frame d.frame.stage d.load;
      cycle = cycle_with d.cycle.left d.load d.cycle.target;
      entries = [];
    }

-- each byte of both memories is the one that the ledger gives for its place, else the byte that stood there at the beginning s
abbrev pub AccountedFrom : ℕ → World → World → Ledger → Type 0
AccountedFrom part s w l =
    (m : Memory) (p : ℕ) → p < memory_size m part → get_or (memory_of m w) p 0 ≡ byte_of (get_or (memory_of m s) p 0) m p l.entries

-- R16. Demand 3 from any beginning s, of any chip: whatever record in range and memories of the part's lengths it begins with, and whatever acts follow,
-- refused ones among them, each byte is the one that the ledger gives which began with that record.
unfoldable pub DemandThreeFrom : Chip → Type 0
DemandThreeFrom chip =
    (part : ℕ) → is_part part ≡ true → (s : World) → InRange part s.device → Shaped part s → (xs : List Input)
    → AccountedFrom part s (world_after chip part xs s) (ledger_run part (steps_of chip part xs s) (ledger_of s.device))

-- R19. A run from fresh may be broken off after any act and begun anew, with the record and the memories that it left: the ledger that begins there gives
-- the same bytes as the one that was told the whole run.
unfoldable pub Resumes : Type 0
Resumes =
    (part : ℕ) → is_part part ≡ true → (xs ys : List Input) (m : Memory) (p : ℕ) → p < memory_size m part
    → byte_of (get_or (memory_of m (reached part xs)) p 0) m p (ledger_run part (steps_of our_chip part ys (reached part xs)) (ledger_of (reached part xs).device)).entries
    ≡ byte_of 255 m p (ledger_run part (steps_of our_chip part (xs ++ ys) (fresh_world part)) start).entries
