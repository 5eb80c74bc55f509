-- The refusal table's rows as propositions, in words of their own and apart from the chain that decides (Refusal, Range). That the chain answers by
-- this table is proved in TableLaws. The limits stand here as numbers, on purpose: a change of a limit alone is refused here.
-- Not the numbers of a bad line, 71 to 75, which are the tape's.
-- Assumes nothing.
use Rattle.std.specs.Prelude.{ℕ, ◌<◌, ◌≤◌, ◌≡◌, ◌⊎◌, ◌≢◌, true, false, List, [], ◌∷◌, get_or}
use Rattle.std.specs.Int.Bits.{bit_and}
use Rattle.events.specs.Rows.{EventRow}
use Rattle.record.specs.declared.Device.{Device}
use Rattle.record.specs.declared.EepromAddress.{EepromAddress}
use Rattle.record.specs.declared.IdAddress.{IdAddress}
use Rattle.record.specs.declared.Code.{Code}
use Rattle.record.specs.declared.Code.TheVariants.{Srread, Read, Write, Clrwdt, Clrram}
use Rattle.record.specs.declared.Place.{Place}
use Rattle.record.specs.declared.Place.TheVariants.{EepromAt, IdAt}
use Rattle.record.specs.declared.Stage.TheVariants.{Idle}
use Rattle.record.specs.declared.Act.{Act}
use Rattle.record.specs.declared.Act.TheVariants.{Select, Byte, End, Wait, Cut, Up, Set}
use Rattle.record.specs.declared.Pin.{Pin}
use Rattle.record.specs.Part.{size_of}
use Rattle.record.specs.Registers.{st, watchdog_at, event_at, kept, period_of}
use Rattle.record.specs.Stages.{heard, code_at, frame_place, cycle_place}

-- 3, A14. the part is none of the four
abbrev pub PartRow : ℕ → Type 0
PartRow part = (part < 1) ⊎ (4 < part)

-- 4, A15. a memory has not the part's length
abbrev pub LengthRow : ℕ → ℕ → ℕ → Type 0
LengthRow part ee id = (ee ≢ size_of part) ⊎ (id ≢ 16)

-- the chip is selected, and a frame is open, unless the stage is idle
abbrev pub Selected : Device → Type 0
Selected d = d.frame.stage ≢ Idle

abbrev pub NotSelected : Device → Type 0
NotSelected d = d.frame.stage ≡ Idle

-- the places that a record's pointers stand at, in use or not: the frame's and the cycle's
pub data Pointer (d : Device) : Place → Type 0 where
  frame : Pointer d (frame_place d.frame.stage)
  cycle : Pointer d (cycle_place d.cycle.target)

-- F32. the five codes that are heard while a cycle runs (heard is 01's term)
pub data Five : Code → Type 0 where
  srread_five : Five Srread
  read_five : Five Read
  write_five : Five Write
  clrwdt_five : Five Clrwdt
  clrram_five : Five Clrram

-- 6. the record is out of range
pub data RangeRow (part : ℕ) (d : Device) : Type 0 where
  -- A18. a divider of a second or more
  divider : 32767 < d.counters.divider → RangeRow part d
  -- A19. a start-up count past OSCON
  startup : 32 < d.counters.startup → RangeRow part d
  -- A20. a countdown longer than a cycle
  countdown : 164 < d.cycle.left → RangeRow part d
  -- A21. a pulse longer than the long one
  pulse : 4096 < d.counters.pulse → RangeRow part d
  -- A22. a delay longer than 64 s
  delay : 2097152 < d.counters.delay → RangeRow part d
  -- A23. a watchdog count that has come to its period
  watchdog : period_of (get_or d.regs watchdog_at 0) ≤ d.counters.watchdog → RangeRow part d
  -- A24. a next byte outside its page
  offset : 7 < d.load.next → RangeRow part d
  -- A25. an ID pointer outside the ID bytes
  id_pointer : {p : Place} → Pointer d p → (a : IdAddress) → p ≡ IdAt a → 15 < a.0 → RangeRow part d
  -- A26. an EEPROM pointer outside the part's memory
  eeprom_pointer : {p : Place} → Pointer d p → (a : EepromAddress) → p ≡ EepromAt a → size_of part ≤ a.0 → RangeRow part d
  -- A27. a stored bit that its register does not keep
  outside : (k : ℕ) → k < 32 → bit_and (get_or d.regs k 0) (get_or kept k 0) ≢ get_or d.regs k 0 → RangeRow part d
  -- A28. a start-up count on a W part (1 and 2) that does not ask for its oscillator
  stopped : 0 < d.counters.startup → part ≤ 2 → st d.regs ≡ false → RangeRow part d
  -- A37. a power failure is marked while there is power
  marked : d.power ≡ true → d.mark ≡ true → RangeRow part d
  -- A29. a frame or a cycle without power
  unpowered : d.power ≡ false → Selected d ⊎ (0 < d.cycle.left) → RangeRow part d
  -- A30. a cycle, and an open frame that could not have been heard in it
  foreign : 0 < d.cycle.left → heard d.frame.stage ≡ true → ¬ Five (code_at d.frame.stage) → RangeRow part d
  -- V14. levels and counts of the event inputs
  event : EventRow (get_or d.regs event_at 0) d.events → RangeRow part d

-- 3, A10, A11, A12, A13, V1. the act does not take the argument
pub data ArgRow : Act → ℕ → Type 0 where
  leftover : {n : ℕ} → 7 < n → ArgRow End n
  wait : {n : ℕ} → 16777216 < n → ArgRow Wait n
  byte : {n : ℕ} → 255 < n → ArgRow Byte n
  mask : {n : ℕ} → 255 < n → ArgRow Cut n
  select : {n : ℕ} → n ≢ 0 → ArgRow Select n
  up : {n : ℕ} → n ≢ 0 → ArgRow Up n
  level : {p : Pin} {n : ℕ} → 1 < n → ArgRow (Set p) n

-- 5, A16, A17. the act does not go with the power
pub data PowerRow : Act → Device → Type 0 where
  select_off : {d : Device} → d.power ≡ false → PowerRow Select d
  byte_off : {d : Device} → d.power ≡ false → PowerRow Byte d
  end_off : {d : Device} → d.power ≡ false → PowerRow End d
  cut_off : {d : Device} → d.power ≡ false → PowerRow Cut d
  up_on : {d : Device} → d.power ≡ true → PowerRow Up d

-- 1, A8. selected twice
pub data SelectedRow : Act → Device → Type 0 where
  select_again : {d : Device} → Selected d → SelectedRow Select d

-- 2, A9. a byte or an end without a frame
pub data NotSelectedRow : Act → Device → Type 0 where
  byte_alone : {d : Device} → NotSelected d → NotSelectedRow Byte d
  end_alone : {d : Device} → NotSelected d → NotSelectedRow End d

-- a row: its number, and when it is given
pub record Row : Type 1 where
  pub number : ℕ
  pub holds : Type 0

-- A33. The order of the rows, those of a bad line before them.
abbrev pub table : ℕ → Act → ℕ → Device → ℕ → ℕ → List Row
table part act n d ee id =
    record { number = 3; holds = PartRow part }
    ∷ record { number = 4; holds = LengthRow part ee id }
    ∷ record { number = 6; holds = RangeRow part d }
    ∷ record { number = 3; holds = ArgRow act n }
    ∷ record { number = 5; holds = PowerRow act d }
    ∷ record { number = 1; holds = SelectedRow act d }
    ∷ record { number = 2; holds = NotSelectedRow act d }
    ∷ []

-- A7, A32. k is the number of a row that holds, no row before it holding; or 0 where no row holds
unfoldable pub First : List Row → ℕ → Type 0
First [] k = k ≡ 0
First (r ∷ rows) k = (r.holds × (k ≡ r.number)) ⊎ ((¬ r.holds) × First rows k)

-- what the table gives for an act of this part and argument on this record, with memories of these lengths
abbrev pub TableGives : ℕ → Act → ℕ → Device → ℕ → ℕ → ℕ → Type 0
TableGives part act n d ee id k = First (table part act n d ee id) k
