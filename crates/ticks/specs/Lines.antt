-- The output lines and WIP, as functions of the record, and what stops a wait.
-- Assumes nothing.
use Rattle.std.specs.Prelude.{ℕ, Bool, not, ◌&&◌, ◌||◌, List, ltb, get_or}
use Rattle.std.specs.Bool.{beq}
use Rattle.events.specs.Control.{evhif, evlif, pulls_irq}
use Rattle.record.specs.declared.Device.{Device}
use Rattle.record.specs.Registers.{active, alm_pin, alm_if, alm0, alm1, alarm0_at, alarm1_at, event_at}

-- the flag of an active alarm is set: k is its bit in 08h, a the register of its flag
abbrev pub flagged : List ℕ → ℕ → ℕ → Bool
flagged regs k a = active regs k && alm_if regs a

-- K22, V11. IRQ is held low by an alarm that is active, with its flag set and its pin bit clear, and by a flag of the event inputs.
unfoldable pub irq_low : Device → Bool
irq_low d =
    (flagged d.regs alm0 alarm0_at && not (alm_pin d.regs alarm0_at)) || (flagged d.regs alm1 alarm1_at && not (alm_pin d.regs alarm1_at))
    || pulls_irq (get_or d.regs event_at 0)

-- K22, K26. An alarm whose pin bit is set is on WDO; the pulse holds WDO low too.
unfoldable pub wdo_low : Device → Bool
wdo_low d =
    ltb 0 d.counters.pulse || (flagged d.regs alm0 alarm0_at && alm_pin d.regs alarm0_at)
    || (flagged d.regs alm1 alarm1_at && alm_pin d.regs alarm1_at)

-- WIP: a write cycle runs
abbrev pub wip : Device → Bool
wip d = ltb 0 d.cycle.left

abbrev pub differ : Bool → Bool → Bool
differ a b = not (beq a b)

-- V11. A flag of the event inputs is not what it was, by the byte of 0Bh.
unfoldable pub flags_changed : ℕ → ℕ → Bool
flags_changed v w = differ (evhif v) (evhif w) || differ (evlif v) (evlif w)

-- K30, V11. What stops a wait: IRQ, WDO, such a flag or WIP is not what it was.
unfoldable pub changed : Device → Device → Bool
changed d e =
    differ (irq_low d) (irq_low e) || differ (wdo_low d) (wdo_low e) || flags_changed (get_or d.regs event_at 0) (get_or e.regs event_at 0)
    || differ (wip d) (wip e)
