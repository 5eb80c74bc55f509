-- What the ledger is fed, what it holds, and how it starts. Ledger is a word of document 01.
-- It is no record of the chip: codes, second bytes and places are plain numbers, loaded bytes are offsets with bytes.
-- Assumes nothing.
use Rattle.std.specs.Prelude.{Bool, true, false, List, [], ℕ}

-- A1. The six acts. Act and cut are words of document 01.
pub data Act : Type 0 where
  select : Act
  byte : Act
  end : Act
  wait : Act
  cut : Act
  up : Act

-- L1. An act with what it asks for, and of its answer the ticks alone. The part, 1 to 4, is fed beside the steps.
pub record Step : Type 0 where
  pub act : Act
  pub arg : ℕ
  -- the ticks that a wait used: 0 for a refused wait, and not read for another act
  pub used : ℕ

-- L5. The two memories that entries are about.
pub data Memory : Type 0 where
  eeprom : Memory
  id : Memory

-- L4. What a cycle writes.
pub data Kind : Type 0 where
  eeprom_cycle : Kind
  id_cycle : Kind
  status_cycle : Kind

-- F33, F34 (bench). The lock: closed, the first of its two steps taken, open.
pub data Lock : Type 0 where
  closed : Lock
  first_step : Lock
  opened : Lock

-- L3, L4. A loaded byte: the offset in the page, and the byte that came for it.
pub record Loaded : Type 0 where
  pub offset : ℕ
  pub byte : ℕ

-- L5. An entry: which memory, which place in it, and the byte that it got.
pub record Entry : Type 0 where
  pub memory : Memory
  pub place : ℕ
  pub byte : ℕ

-- L3. The frame. Heard is a word of document 01.
pub record Frame : Type 0 where
  pub heard : Bool
  pub code : ℕ
  -- the second byte, whatever it is for
  pub second : ℕ
  -- how many whole bytes came
  pub count : ℕ
  pub page : ℕ
  -- the offset that the next data byte is for
  pub next : ℕ
  -- the newest first
  pub loaded : List Loaded

-- L4. The cycle; with no tick left there is none.
pub record Cycle : Type 0 where
  pub kind : Kind
  pub page : ℕ
  pub loaded : List Loaded
  pub left : ℕ

-- L2, L3, L4, L5. The ledger.
pub record Ledger : Type 0 where
  pub power : Bool
  pub selected : Bool
  pub wel : Bool
  -- bits 3:2 of STATUS as a number, 0 to 3
  pub bp : ℕ
  pub lock : Lock
  pub frame : Frame
  pub cycle : Cycle
  -- the newest first
  pub entries : List Entry

-- L8. The frame that a select opens: no byte came, so it is not heard. A closed frame is the same.
unfoldable pub no_byte : Frame
no_byte = record { heard = false; code = 0; second = 0; count = 0; page = 0; next = 0; loaded = [] }

-- No cycle: no tick is left, and the rest is of no account.
unfoldable pub no_cycle : Cycle
no_cycle = record { kind = eeprom_cycle; page = 0; loaded = []; left = 0 }

-- L6, A35, A36. The ledger of a fresh chip: powered, not selected, not enabled, nothing protected, locked, no entry. Fresh is a
-- word of document 01.
unfoldable pub start : Ledger
start =
    record { power = true; selected = false; wel = false; bp = 0; lock = closed; frame = no_byte; cycle = no_cycle; entries = [] }
