-- A chip as one list of numbers, and back; its text; and which chips are saved. The list is the device for all that reads it: text, comparison, a caller's array.
-- Assumes nothing.
use Rattle.std.specs.Prelude.{ℕ, ◌+◌, ◌<◌, ◌≡◌, Bool, true, List, [], ◌∷◌, ◌++◌, eqb, take, drop, get_or}
use Rattle.base.specs.Words.{flag}
use Rattle.events.specs.declared.Events.{Events}
use Rattle.record.specs.declared.Counters.{Counters}
use Rattle.record.specs.declared.Device.{Device}
use Rattle.record.specs.declared.Guard.{Guard}
use Rattle.record.specs.declared.Load.{Load}
use Rattle.record.specs.declared.Cycle.{Cycle}
use Rattle.record.specs.declared.Stage.{Stage}
use Rattle.record.specs.Numbers.{protection_number, protection_of, lock_number, lock_of, stage_kind, stage_case, stage_value, target_kind, target_value, target_of}
use Rattle.record.specs.Part.{is_part, size_of, id_size}
use Rattle.record.specs.World.{World, world, Sized, Shaped}
use Rattle.refusals.specs.InRange.{InRange}
use Rattle.form.specs.Table.{older_rows, rows, state_rows, chip_events, state_events, part_in, power_in, stage_in, Good, good_test, text_from}

-- S1. The numbers of a record between SRAM and page load, and after it.
abbrev pub count_numbers : Counters → List ℕ
count_numbers c = c.divider ∷ c.startup ∷ c.watchdog ∷ c.delay ∷ c.pulse ∷ []

abbrev pub guard_numbers : Guard → List ℕ
guard_numbers g = flag g.wel ∷ protection_number g.protection ∷ lock_number g.lock ∷ []

abbrev pub stage_numbers : Stage → List ℕ
stage_numbers s = stage_kind s ∷ stage_case s ∷ stage_value s ∷ []

abbrev pub head_numbers : Device → List ℕ
head_numbers d =
    count_numbers d.counters
    ++ (flag d.power ∷ flag d.mark ∷ (guard_numbers d.guard ++ (stage_numbers d.frame.stage ++ (d.load.offsets ∷ []))))

abbrev pub tail_numbers : Load → Cycle → List ℕ
tail_numbers l y = l.next ∷ target_kind y.target ∷ target_value y.target ∷ y.left ∷ []

-- S1. Those of the record, from its registers to its cycle.
abbrev pub record_numbers : Device → List ℕ
record_numbers d = (d.regs ++ d.sram) ++ head_numbers d ++ (d.load.bytes ++ tail_numbers d.load d.cycle)

-- S1. All of them: the part; registers, SRAM and the rest of the record; and what stands behind them.
abbrev pub numbers_before : ℕ → Device → List ℕ → List ℕ
numbers_before part d rest =
    part ∷ (d.regs ++ (d.sram ++ (head_numbers d ++ (d.load.bytes ++ (tail_numbers d.load d.cycle ++ rest)))))

-- S1. the event inputs: levels of EVLS and EVHS, edges, ticks since the first, debounce ticks left
abbrev pub event_numbers : Events → List ℕ
event_numbers e = e.door ∷ e.drum ∷ e.edges ∷ e.since ∷ e.debounce ∷ []

-- S1. behind them stand the memories, and the event inputs
unfoldable pub numbers_of : ℕ → World → List ℕ
numbers_of part w = numbers_before part w.device (w.eeprom ++ (w.id ++ event_numbers w.device.events))

-- I1. the event inputs alone
unfoldable pub state_numbers : ℕ → Device → List ℕ
state_numbers part d = numbers_before part d (event_numbers d.events)

-- S8. The chip of a list of numbers, whose event inputs begin at a place; its part is the first.
abbrev pub events_of : ℕ → List ℕ → Events
events_of k ns = record { door = get_or ns k 0; drum = get_or ns (k + 1) 0; edges = get_or ns (k + 2) 0; since = get_or ns (k + 3) 0; debounce = get_or ns (k + 4) 0 }

abbrev pub device_from : ℕ → List ℕ → Device
device_from k ns =
    record {
      regs = take 32 (drop 1 ns);
      sram = take 64 (drop 33 ns);
      counters = record { divider = get_or ns 97 0; startup = get_or ns 98 0; watchdog = get_or ns 99 0; delay = get_or ns 100 0; pulse = get_or ns 101 0 };
      power = power_in ns;
      mark = eqb (get_or ns 103 0) 1;
      guard = record { wel = eqb (get_or ns 104 0) 1; protection = protection_of (get_or ns 105 0); lock = lock_of (get_or ns 106 0) };
      frame = record { stage = stage_in ns };
      load = record { offsets = get_or ns 110 0; bytes = take 8 (drop 111 ns); next = get_or ns 119 0 };
      cycle = record { target = target_of (get_or ns 120 0) (get_or ns 121 0); left = get_or ns 122 0 };
      events = events_of k ns;
    }

unfoldable pub world_of : List ℕ → World
world_of ns = world (device_from (chip_events ns) ns) (take (size_of (part_in ns)) (drop 123 ns)) (take id_size (drop (123 + size_of (part_in ns)) ns))

-- I1. and the record of a state array's
abbrev pub device_of : List ℕ → Device
device_of ns = device_from (state_events ns) ns

-- S7. a list of numbers that the table has for a chip
abbrev pub IsChip : List ℕ → Type 0
IsChip ns = Good rows 0 ns

-- S7, I1. and one that it has for part and record alone
unfoldable pub is_record : List ℕ → Bool
is_record ns = good_test state_rows 0 ns

-- S2. the saved text of a list of numbers, and of a chip
unfoldable pub form_text : List ℕ → List ℕ
form_text ns = text_from rows 0 ns

abbrev pub saved_text : ℕ → World → List ℕ
saved_text part w = form_text (numbers_of part w)

-- S11. and its text in the older form, which ends before the event inputs
abbrev pub older_text : ℕ → World → List ℕ
older_text part w = text_from older_rows 0 (numbers_of part w)

-- S7. A chip in range: a part there is, a record that number 6 does not refuse, memories of the part's lengths; bytes where code holds bytes. The range has those of the
-- registers; a clock address and a second byte are the stage's value.
pub record Sound (part : ℕ) (w : World) : Type 0 where
  pub named : is_part part ≡ true
  pub range : InRange part w.device
  pub shaped : Shaped part w
  pub carried : stage_value w.device.frame.stage < 256

-- I1. The same of part and record alone.
pub record SoundRecord (part : ℕ) (d : Device) : Type 0 where
  pub named : is_part part ≡ true
  pub range : InRange part d
  pub sized : Sized d
  pub carried : stage_value d.frame.stage < 256
