-- The watchdog's part of a tick. `counted` says that OSCON was set before the tick.
-- Assumes nothing.
use Rattle.std.specs.Prelude.{ℕ, ◌+◌, ◌-◌, Bool, not, ◌&&◌, ltb, get_or, set}
use Rattle.std.specs.Int.Bits.{bit_or}
use Rattle.base.specs.Words.{pick}
use Rattle.record.specs.declared.Device.{Device}
use Rattle.record.specs.Registers.{wdten, wdtif, wdtpls, watchdog_at, period_of, short_pulse, long_pulse}
use Rattle.record.specs.Setters.{with_regs, with_watchdog, with_delay, with_pulse}

-- K24. The watchdog runs by the value of 0Ah: WDTEN set, WDTIF clear, the tick counted.
abbrev pub counting : Bool → ℕ → Bool
counting counted v = (wdten v && not (wdtif v)) && counted

-- K26. A pulse that runs loses one at every tick (the difference stops at 0).
abbrev pub pulse_tick : Device → Device
pulse_tick d = with_pulse d (d.counters.pulse - 1)

-- K25. At the period WDTIF is set, the count is 0, and WDO is pulsed: long if WDTPLS is set, else short.
abbrev pub time_out : Device → Device
time_out d =
    let v : ℕ = get_or d.regs watchdog_at 0 in
    with_regs (with_pulse (with_watchdog d 0) (pick (wdtpls v) long_pulse short_pulse)) (set d.regs watchdog_at (bit_or v 0x40))

-- K28. The delay runs down before the count begins; K25. the count goes up to the period.
abbrev pub counted_tick : Device → Device
counted_tick d =
    pick (ltb 0 d.counters.delay) (with_delay d (d.counters.delay - 1))
    (pick (ltb (d.counters.watchdog + 1) (period_of (get_or d.regs watchdog_at 0))) (with_watchdog d (d.counters.watchdog + 1)) (time_out d))

unfoldable pub watchdog_tick : Bool → Device → Device
watchdog_tick counted d = pick (counting counted (get_or d.regs watchdog_at 0)) (counted_tick (pulse_tick d)) (pulse_tick d)
