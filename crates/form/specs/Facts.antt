-- What the table says of a list of numbers, place by place, as the facts that a proof uses. Not the table: FactLaws ties the two.
-- Assumes nothing.
use Rattle.std.specs.Prelude.{ℕ, ◌+◌, ◌<◌, ◌≤◌, ◌≡◌, true, List, length, get_or}
use Rattle.std.specs.Int.Bits.{bit_and}
use Rattle.record.specs.Part.{is_part, size_of, id_size}
use Rattle.record.specs.Registers.{event_at, kept, divider_ticks, long_pulse, delay_ticks}
use Rattle.form.specs.Table.{part_in, register_in, chip_events, startup_limit, watchdog_limit, mark_limit, kind_limit, case_good, value_limit, target_limit, left_limit, edges_by, since_by, debounce_by}

-- from place k on, so many numbers are bytes
abbrev pub BytesFrom : List ℕ → ℕ → ℕ → Type 0
BytesFrom ns k n = (j : ℕ) → j < n → get_or ns (k + j) 0 < 256

-- of the part and the record, whatever stands behind them
pub record RecordFacts (ns : List ℕ) : Type 0 where
  pub reach : 123 ≤ length ns
  pub part : is_part (part_in ns) ≡ true
  pub reg_bytes : BytesFrom ns 1 32
  pub regs : (j : ℕ) → j < 32 → bit_and (register_in ns j) (get_or kept j 0) ≡ register_in ns j
  pub sram : BytesFrom ns 33 64
  pub divider : get_or ns 97 0 < divider_ticks
  pub startup : get_or ns 98 0 < startup_limit ns
  pub watchdog : get_or ns 99 0 < watchdog_limit ns
  pub delay : get_or ns 100 0 < 1 + delay_ticks
  pub pulse : get_or ns 101 0 < 1 + long_pulse
  pub power : get_or ns 102 0 < 2
  pub mark : get_or ns 103 0 < mark_limit ns
  pub wel : get_or ns 104 0 < 2
  pub protection : get_or ns 105 0 < 4
  pub lock : get_or ns 106 0 < 3
  pub kind : get_or ns 107 0 < kind_limit ns
  pub which : case_good (get_or ns 107 0) (get_or ns 108 0) ≡ true
  pub value : get_or ns 109 0 < value_limit (size_of (part_in ns)) (get_or ns 107 0) (get_or ns 108 0)
  pub offsets : get_or ns 110 0 < 256
  pub load : BytesFrom ns 111 8
  pub next : get_or ns 119 0 < 8
  pub target : get_or ns 120 0 < 3
  pub place : get_or ns 121 0 < target_limit (size_of (part_in ns)) (get_or ns 120 0)
  pub left : get_or ns 122 0 < left_limit ns

-- of the event inputs, from their first place on
pub record EventFacts (k : ℕ) (ns : List ℕ) : Type 0 where
  pub door : get_or ns k 0 < 2
  pub drum : get_or ns (k + 1) 0 < 2
  pub edges : get_or ns (k + 2) 0 < edges_by (register_in ns event_at)
  pub since : get_or ns (k + 3) 0 < since_by (get_or ns (k + 2) 0)
  pub debounce : get_or ns (k + 4) 0 < debounce_by (register_in ns event_at) (get_or ns k 0)

-- of a state array's list
pub record StateFacts (ns : List ℕ) : Type 0 where
  pub first : RecordFacts ns
  pub long : length ns ≡ 128
  pub events : EventFacts 123 ns

-- of part, record and memories, whatever stands behind them
pub record MemoryFacts (ns : List ℕ) : Type 0 where
  pub first : RecordFacts ns
  pub reach : chip_events ns ≤ length ns
  pub eeprom : BytesFrom ns 123 (size_of (part_in ns))
  pub id : BytesFrom ns (123 + size_of (part_in ns)) id_size

-- of a whole list
pub record Facts (ns : List ℕ) : Type 0 where
  pub chip : MemoryFacts ns
  pub long : length ns ≡ chip_events ns + 5
  pub events : EventFacts (chip_events ns) ns
