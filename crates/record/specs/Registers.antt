-- The registers' addresses and bits, by the sheet's names (000, table 4-1), their masks, the watchdog's periods and the limits.
-- Not what a write or a tick does with them.
-- Assumes nothing.
use Rattle.std.specs.Prelude.{ℕ, ◌-◌, ◌/◌, ◌%◌, Bool, List, [], ◌∷◌, ◌++◌, eqb, get_or, replicate}
use Rattle.base.specs.Words.{bit}
use Rattle.record.specs.declared.Counters.{Counters}

abbrev pub hundredths_at : ℕ
hundredths_at = 0x00

abbrev pub seconds_at : ℕ
seconds_at = 0x01

abbrev pub minutes_at : ℕ
minutes_at = 0x02

abbrev pub hours_at : ℕ
hours_at = 0x03

abbrev pub day_at : ℕ
day_at = 0x04

abbrev pub date_at : ℕ
date_at = 0x05

abbrev pub month_at : ℕ
month_at = 0x06

abbrev pub year_at : ℕ
year_at = 0x07

abbrev pub control_at : ℕ
control_at = 0x08

abbrev pub watchdog_at : ℕ
watchdog_at = 0x0a

abbrev pub event_at : ℕ
event_at = 0x0b

-- the register of each alarm's flag, code and pin
abbrev pub alarm0_at : ℕ
alarm0_at = 0x0f

abbrev pub alarm1_at : ℕ
alarm1_at = 0x16

-- what only one of them has, and their hours
abbrev pub alarm0_month_at : ℕ
alarm0_month_at = 0x11

abbrev pub alarm1_hundredths_at : ℕ
alarm1_hundredths_at = 0x12

abbrev pub alarm0_hours_at : ℕ
alarm0_hours_at = 0x0e

abbrev pub alarm1_hours_at : ℕ
alarm1_hours_at = 0x15

-- the first register of each time-stamp, of four
abbrev pub power_down_at : ℕ
power_down_at = 0x18

abbrev pub power_up_at : ℕ
power_up_at = 0x1c

-- The bits of the registers that a rule reads.

-- 01h bit 7, ST; on B parts the sheet calls it CT
abbrev pub st : List ℕ → Bool
st regs = bit (get_or regs seconds_at 0) 7

-- 03h bit 6, 12/24: set for the 12-hour form
abbrev pub twelve : List ℕ → Bool
twelve regs = bit (get_or regs hours_at 0) 6

-- 04h bit 3, VBATEN
abbrev pub vbaten : List ℕ → Bool
vbaten regs = bit (get_or regs day_at 0) 3

-- 04h bit 4, VBAT: power failed and the battery took over
abbrev pub vbat : List ℕ → Bool
vbat regs = bit (get_or regs day_at 0) 4

-- An alarm: the number of its enable bit in 08h (ALM0 is bit 4, ALM1 bit 5) and the register of its flag.
abbrev pub alm0 : ℕ
alm0 = 4

abbrev pub alm1 : ℕ
alm1 = 5

-- K19. an alarm is active
abbrev pub active : List ℕ → ℕ → Bool
active regs k = bit (get_or regs control_at 0) k

-- of an alarm's flag register: bit 7 its pin, bits 6:4 its code, bit 3 its flag
abbrev pub alm_pin : List ℕ → ℕ → Bool
alm_pin regs a = bit (get_or regs a 0) 7

abbrev pub alm_code : List ℕ → ℕ → ℕ
alm_code regs a = get_or regs a 0 / 16 % 8

abbrev pub alm_if : List ℕ → ℕ → Bool
alm_if regs a = bit (get_or regs a 0) 3

-- of a value of 0Ah: bit 7 WDTEN, bit 6 WDTIF, bit 5 WDDEL, bit 4 WDTPLS
abbrev pub wdten : ℕ → Bool
wdten v = bit v 7

abbrev pub wdtif : ℕ → Bool
wdtif v = bit v 6

abbrev pub wddel : ℕ → Bool
wddel v = bit v 5

abbrev pub wdtpls : ℕ → Bool
wdtpls v = bit v 4

-- F13. The bits of the registers 00h to 17h: those that a WRITE may change (VBAT it only clears) are all that a register may hold.
abbrev masks : List ℕ
masks =
    0xff ∷ 0xff ∷ 0x7f ∷ 0xff ∷ 0x1f ∷ 0x3f ∷ 0x1f ∷ 0xff
    ∷ 0xff ∷ 0xff ∷ 0xff ∷ 0xff ∷ 0x7f ∷ 0x7f ∷ 0x3f ∷ 0xff
    ∷ 0x3f ∷ 0x1f ∷ 0xff ∷ 0x7f ∷ 0x7f ∷ 0x3f ∷ 0xff ∷ 0x3f ∷ []

-- F13, C5. The bits of each register that a WRITE may change, 00h to 1Fh: of a time-stamp none.
abbrev pub writable : List ℕ
writable = masks ++ replicate 8 0x00

-- F17, A27, C5. The bits that a register may hold, which number 6 judges: of a time-stamp all.
abbrev pub kept : List ℕ
kept = masks ++ replicate 8 0xff

-- K23. The watchdog's eight periods in ticks.
abbrev pub periods : List ℕ
periods = 32 ∷ 512 ∷ 2048 ∷ 4096 ∷ 32768 ∷ 524288 ∷ 1048576 ∷ 2097152 ∷ []

-- K23. The period that a value of 0Ah sets, by its bits 2:0.
abbrev pub period_of : ℕ → ℕ
period_of v = get_or periods (v % 8) 0

-- The limits, each named once.

-- F28. the ticks of a write cycle (bench)
abbrev pub cycle_ticks : ℕ
cycle_ticks = 164

-- K3. the asked ticks until OSCON sets
abbrev pub startup_ticks : ℕ
startup_ticks = 32

-- F15. OSCON is set while the start-up count stands at its end
abbrev pub oscon : Counters → Bool
oscon c = eqb c.startup startup_ticks

-- A2. the ticks of a second, and the largest divider
abbrev pub divider_ticks : ℕ
divider_ticks = 32768

abbrev pub divider_last : ℕ
divider_last = divider_ticks - 1

-- K25. the pulse on WDO, 122 us and 125 ms
abbrev pub short_pulse : ℕ
short_pulse = 4

abbrev pub long_pulse : ℕ
long_pulse = 4096

-- K27. the watchdog's delay, 64 s
abbrev pub delay_ticks : ℕ
delay_ticks = 2097152

-- A11. the longest wait
abbrev pub wait_limit : ℕ
wait_limit = 16777216
