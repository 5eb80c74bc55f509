-- The ledger's own words for the rules of frames: which one is heard, what a byte adds to it, which write starts a
-- cycle, and how WEL and the lock move at an end.
-- It gives no reply and knows neither registers nor SRAM: of a frame it keeps what a write, WEL and the lock need.
-- Assumes nothing.
use Rattle.std.specs.Prelude.{Bool, true, false, not, ◌&&◌, ◌||◌, [], ◌∷◌, ℕ, ◌+◌, ◌-◌, ◌*◌, ◌/◌, ◌%◌, leb, ltb, eqb}
use Rattle.base.specs.Words.{pick}
use Rattle.ledger.specs.State.{Lock, closed, first_step, opened, Kind, eeprom_cycle, id_cycle, status_cycle, Frame, Cycle, Ledger}

-- F1. The codes that the rules below name.
abbrev pub srwrite_code : ℕ
srwrite_code = 0x01

abbrev pub eewrite_code : ℕ
eewrite_code = 0x02

abbrev pub eewrdi_code : ℕ
eewrdi_code = 0x04

abbrev pub srread_code : ℕ
srread_code = 0x05

abbrev pub eewren_code : ℕ
eewren_code = 0x06

abbrev pub write_code : ℕ
write_code = 0x12

abbrev pub read_code : ℕ
read_code = 0x13

abbrev pub unlock_code : ℕ
unlock_code = 0x14

abbrev pub idwrite_code : ℕ
idwrite_code = 0x32

abbrev pub clrwdt_code : ℕ
clrwdt_code = 0x44

abbrev pub clrram_code : ℕ
clrram_code = 0x54

-- C8, T6. The bytes of the EEPROM: parts 1 and 3 have 1 Kbit, 2 and 4 have 2. No run has another part.
abbrev pub eeprom_size : ℕ → ℕ
eeprom_size part = pick (eqb part 1 || eqb part 3) 128 256

-- L9. WIP: the ledger's cycle has ticks left.
abbrev pub running : Cycle → Bool
running c = ltb 0 c.left

-- F31, F32. Which first byte is heard: each one where no cycle runs; five codes where one does.
abbrev pub heard_at : Cycle → ℕ → Bool
heard_at c code =
    not (running c) || eqb code srread_code || eqb code read_code || eqb code write_code || eqb code clrwdt_code || eqb code clrram_code

-- F8, F9. The writes that have an address byte.
abbrev pub addressed : ℕ → Bool
addressed code = eqb code eewrite_code || eqb code idwrite_code

-- F23. The three writes.
abbrev pub is_write : ℕ → Bool
is_write code = addressed code || eqb code srwrite_code

-- the bytes of a write before its data: its code, and the address where it has one
abbrev pub leading : ℕ → ℕ
leading code = pick (addressed code) 2 1

-- how many data bytes came in a write
abbrev pub data_count : Frame → ℕ
data_count f = f.count - leading f.code

-- F8, F9. The place that an address byte names: its rest by the EEPROM's size, which on a 1 Kbit part is all but bit 7, or by 16.
abbrev pub address_of : ℕ → ℕ → ℕ → ℕ
address_of part code b = pick (eqb code idwrite_code) (b % 16) (b % eeprom_size part)

-- whether the byte that comes is the address, or a data byte, of a write
abbrev pub address_next : Frame → Bool
address_next f = addressed f.code && eqb f.count 1

abbrev pub data_next : Frame → Bool
data_next f = is_write f.code && leb (leading f.code) f.count

-- L9. The first byte is the code, and decides whether the frame is heard.
unfoldable pub first_byte : Cycle → ℕ → Frame
first_byte c b = record { heard = heard_at c b; code = b; second = 0; count = 1; page = 0; next = 0; loaded = [] }

-- L9, F21, F22. Each later byte is counted, and the second is kept. An address sets page and offset: a page is 8 bytes, so it is
-- the address less its lowest three bits. A data byte is loaded at the offset, which goes from 7 back to 0. SRWRITE has no
-- address: its data byte is loaded at offset 0. In a frame that is not heard the bytes count alike; its end reads none of them.
unfoldable pub later_byte : ℕ → ℕ → Frame → Frame
later_byte part b f =
    record {
      heard = f.heard;
      code = f.code;
      second = pick (eqb f.count 1) b f.second;
      count = f.count + 1;
      page = pick (address_next f) (address_of part f.code b / 8 * 8) f.page;
      next = pick (address_next f) (address_of part f.code b % 8) (pick (data_next f) ((f.next + 1) % 8) f.next);
      loaded = pick (data_next f) (record { offset = f.next; byte = b } ∷ f.loaded) f.loaded;
    }

-- the frame after one more byte
abbrev pub frame_after : ℕ → Cycle → ℕ → Frame → Frame
frame_after part c b f = pick (eqb f.count 0) (first_byte c b) (later_byte part b f)

-- a frame of n whole bytes, no bit left over
abbrev pub exactly : ℕ → ℕ → Frame → Bool
exactly n leftover f = eqb f.count n && eqb leftover 0

-- F29. The first place that BP guards: 0 guards none, 1 the last quarter, 2 the last half, 3 every place.
abbrev pub first_protected : ℕ → ℕ → ℕ
first_protected bp size = pick (eqb bp 1) (size / 4 * 3) (pick (eqb bp 2) (size / 2) (pick (eqb bp 3) 0 size))

-- F26. The page lies in what BP guards, which is whole pages.
abbrev pub protected : ℕ → ℕ → ℕ → Bool
protected bp size page = leb (first_protected bp size) page

-- tests of the lock: the first step was taken, or it is open
abbrev pub is_first_step : Lock → Bool
is_first_step closed = false
is_first_step first_step = true
is_first_step opened = false

abbrev pub is_open : Lock → Bool
is_open closed = false
is_open first_step = false
is_open opened = true

-- F24. A write with data.
abbrev pub with_data : Frame → Bool
with_data f = is_write f.code && ltb 0 (data_count f)

-- F24. As much data as the write wants: any for a page, one byte for SRWRITE.
abbrev pub data_fits : Frame → Bool
data_fits f = with_data f && (not (eqb f.code srwrite_code) || eqb (data_count f) 1)

-- F26, F27. What else a write needs: EEWRITE a page that BP does not guard, IDWRITE the open lock, SRWRITE nothing.
abbrev pub allowed : ℕ → Ledger → Bool
allowed part l =
    pick (eqb l.frame.code eewrite_code) (not (protected l.bp (eeprom_size part) l.frame.page))
    (pick (eqb l.frame.code idwrite_code) (is_open l.lock) true)

-- L11, F23, F24, F25, F26, F27. Whether the end starts the write's cycle: enabled, with its data, no bit more, and allowed.
-- Carried is a word of document 01. Whether the frame was heard is asked at the end itself.
unfoldable pub carried : ℕ → ℕ → Ledger → Bool
carried part leftover l = l.wel && data_fits l.frame && eqb leftover 0 && allowed part l

-- L4. What a carried write's cycle writes, by its code.
abbrev pub kind_of : ℕ → Kind
kind_of code = pick (eqb code eewrite_code) eeprom_cycle (pick (eqb code idwrite_code) id_cycle status_cycle)

-- F28 (bench). The ticks of a cycle, 5 ms.
abbrev pub cycle_length : ℕ
cycle_length = 164

-- L11. The cycle of a carried write.
unfoldable pub cycle_of : Frame → Cycle
cycle_of f = record { kind = kind_of f.code; page = f.page; loaded = f.loaded; left = cycle_length }

-- L11, F19, F30. WEL at the end of a heard frame: EEWREN sets it and EEWRDI clears it, each if it is the frame's only byte, with no
-- bit more. A write does not move it, whatever becomes of it.
unfoldable pub wel_after : ℕ → Frame → Bool → Bool
wel_after leftover f wel =
    pick (eqb f.code eewren_code && exactly 1 leftover f) true (pick (eqb f.code eewrdi_code && exactly 1 leftover f) false wel)

-- L11, F33, F34, F35, F36 (bench). The lock at the end of a heard frame. UNLOCK of two whole bytes puts it to its first step with
-- 55h, whatever it was, and with AAh opens it from there. Every other UNLOCK closes it. EEWREN and SRREAD leave it; any other
-- code, an unknown one too, closes it once the frame has had its effect.
unfoldable pub lock_after : ℕ → Frame → Lock → Lock
lock_after leftover f k =
    pick (eqb f.code unlock_code)
    (pick (exactly 2 leftover f && eqb f.second 0x55) first_step
    (pick (exactly 2 leftover f && eqb f.second 0xaa && is_first_step k) opened closed))
    (pick (eqb f.code eewren_code || eqb f.code srread_code) k closed)
