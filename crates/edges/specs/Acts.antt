-- Closed witnesses of frames, registers and power, on records that are written out, through `performed`. Each shows a rule a second time, as the
-- paper's numbers.
-- Assumes nothing.
use Rattle.std.specs.Prelude.{ℕ, ◌≡◌, refl, Bool, true, false, List, [], ◌∷◌, ◌++◌, set, replicate, Option, Some, None}
use Rattle.base.specs.Wait.{waited_by}
use Rattle.base.specs.Words.{every, members, store_under}
use Rattle.calendar.specs.Field.{valid_field}
use Rattle.calendar.specs.Date.{leap_year}
use Rattle.events.specs.Control.{pulls_irq}
use Rattle.events.specs.Tick.{events_tick}
use Rattle.events.specs.Range.{window_out, debounce_out, events_out}
use Rattle.record.specs.declared.Act.TheVariants.{Select, Byte, End, Wait, Cut, Up}
use Rattle.record.specs.declared.Protection.{Protection}
use Rattle.record.specs.declared.Lock.TheVariants.{Closed}
use Rattle.record.specs.declared.Stage.TheVariants.{Idle}
use Rattle.record.specs.declared.Protection.TheVariants.{Nothing, Quarter, Half, All}
use Rattle.record.specs.declared.Target.{Target}
use Rattle.record.specs.declared.Target.TheVariants.{Eeprom, Id, Status}
use Rattle.record.specs.Fresh.{fresh}
use Rattle.record.specs.Scene.{chip, started}
use Rattle.record.specs.Stamps.{stamped, unstamped}
use Rattle.record.specs.Setters.{counts, with_load, with_wel, with_protection, with_cycle}
use Rattle.record.specs.World.{World, world}
use Rattle.refusals.specs.Range.{out_of_range, clock_out, frame_out, cycle_out, power_out, bit_outside}
use Rattle.refusals.specs.Refusal.{refusal_of}
use Rattle.registers.specs.Read.{read_clock}
use Rattle.registers.specs.Write.{write_clock, after_write}
use Rattle.ticks.specs.Lines.{irq_low, wdo_low, flags_changed, changed}
use Rattle.ticks.specs.Oscillator.{oscillator_tick}
use Rattle.ticks.specs.Watchdog.{watchdog_tick}
use Rattle.ticks.specs.Event.{event_tick}
use Rattle.ticks.specs.Clock.{calendar_tick}
use Rattle.ticks.specs.Tick.{cycle_device, cycle_tick, clockwork, tick}
use Rattle.replies.specs.Reply.{status_byte, next_reply, leftover_reply}
use Rattle.frames.specs.Frame.{after_byte, after_select}
use Rattle.ends.specs.Write.{carried, cycle_after, wel_after}
use Rattle.ends.specs.End.{after_end}
use Rattle.power.specs.Power.{after_cut, cut_count, cut_world, after_up}
use Rattle.acts.specs.Act.{Outcome, performed}
use Rattle.run.specs.Claim.{our_chip, world_after}
use Rattle.run.specs.Script.{does, sent, ragged_frame, frame_of}
use Rattle.edges.specs.Scene.{after, bytes_answered, after_bytes, replies, waiting, lent, scene}

-- the driven bytes of a list
unfoldable pub driven_all : List ℕ → List (Option ℕ)
driven_all [] = []
driven_all (b ∷ bs) = Some b ∷ driven_all bs

-- a chip that holds something everywhere but in the time-stamps, with ST and VBATEN set and OSCON on
abbrev pub busy_regs : List ℕ
busy_regs =
    0x12 ∷ 0xb4 ∷ 0x56 ∷ 0x98 ∷ 0x0a ∷ 0x21 ∷ 0x09 ∷ 0x25 ∷ 0xc7 ∷ 0x33 ∷ 0xa5 ∷ 0x44 ∷ 0x01 ∷ 0x02 ∷ 0x03 ∷ 0x74
    ∷ 0x05 ∷ 0x06 ∷ 0x07 ∷ 0x08 ∷ 0x09 ∷ 0x10 ∷ 0x71 ∷ 0x12 ∷ replicate 8 0

abbrev pub busy : World
busy = scene busy_regs (counts 5 32 6 7 8)

-- STATUS as SRREAD answers it: by a cycle's ticks left, WEL and the protection
abbrev pub status_with : ℕ → Bool → Protection → List (Option ℕ)
status_with left wel p =
    replies 1 (5 ∷ []) (0 ∷ 0 ∷ [])
    (lent (with_cycle (with_protection (with_wel (chip started (counts 0 32 0 0 0)) wel) p) (record { target = Eeprom (record { 0 = 0 }); left = left })))

abbrev pub twice : ℕ → List (Option ℕ)
twice b = Some b ∷ Some b ∷ []

unfoldable pub RegistersShown : Type 0
RegistersShown =
    -- F13, C4, P16. each mask: FFh written everywhere; VBAT, which was clear, stays clear
    ((after 1 (frame_of (0x12 ∷ 0x00 ∷ replicate 32 0xff)) (scene (replicate 32 0) (counts 0 0 0 0 0))).device.regs
    ≡ 0xff ∷ 0xff ∷ 0x7f ∷ 0xff ∷ 0x0f ∷ 0x3f ∷ 0x1f ∷ 0xff ∷ 0xff ∷ 0xff ∷ 0xff ∷ 0xff ∷ 0x7f ∷ 0x7f ∷ 0x3f ∷ 0xff
    ∷ 0x3f ∷ 0x1f ∷ 0xff ∷ 0x7f ∷ 0x7f ∷ 0x3f ∷ 0xff ∷ 0x3f ∷ replicate 8 0)
    -- F14, F15, F16, F18, C4. every register read with all made bits: 12/24 in both alarms' hours, OSCON, a leap year
    × (replies 1 (0x13 ∷ 0x00 ∷ []) (replicate 32 0)
    (scene (0x00 ∷ 0x80 ∷ 0x00 ∷ 0xc0 ∷ 0x01 ∷ 0x01 ∷ 0x02 ∷ 0x24 ∷ 0xcf ∷ 0x55 ∷ 0x08 ∷ 0xaa ∷ replicate 20 0) (counts 0 32 0 0 0))
    ≡ driven_all (0x00 ∷ 0x80 ∷ 0x00 ∷ 0xc0 ∷ 0x21 ∷ 0x01 ∷ 0x22 ∷ 0x24 ∷ 0xcf ∷ 0x55 ∷ 0x08 ∷ 0xaa ∷ 0x00 ∷ 0x00 ∷ 0x40 ∷ 0x00
    ∷ 0x00 ∷ 0x00 ∷ 0x00 ∷ 0x00 ∷ 0x00 ∷ 0x40 ∷ replicate 10 0))
    -- F14, F15, F16, F18. and with none: OSCON one tick away, a year that is no leap year
    × (replies 1 (0x13 ∷ 0x00 ∷ []) (replicate 32 0) (scene (0x00 ∷ 0x80 ∷ 0x00 ∷ 0x80 ∷ 0x02 ∷ 0x01 ∷ 0x02 ∷ 0x25 ∷ replicate 24 0) (counts 0 31 0 0 0))
    ≡ driven_all (0x00 ∷ 0x80 ∷ 0x00 ∷ 0x80 ∷ 0x02 ∷ 0x01 ∷ 0x02 ∷ 0x25 ∷ replicate 24 0))
    -- F10. the SRAM from its first byte to its last, and round
    × ((after 1 (frame_of (0x12 ∷ 0x5e ∷ 1 ∷ 2 ∷ 3 ∷ [])) busy).device.sram ≡ 3 ∷ (replicate 61 7 ++ (1 ∷ 2 ∷ [])))
    -- F11. from 60h up a read gives 0, a write does nothing, and the pointer stands
    × (replies 1 (0x13 ∷ 0x60 ∷ []) (0 ∷ 0 ∷ []) busy ≡ twice 0)
    × (replies 1 (0x13 ∷ 0xff ∷ []) (0 ∷ 0 ∷ []) busy ≡ twice 0)
    × (after 1 (frame_of (0x12 ∷ 0x60 ∷ 1 ∷ 2 ∷ [])) busy ≡ busy)
    × (after 1 (frame_of (0x12 ∷ 0xff ∷ 1 ∷ 2 ∷ [])) busy ≡ busy)
    -- F5. each bit of STATUS, and all of them
    × (status_with 0 false Nothing ≡ twice 0x00)
    × (status_with 9 false Nothing ≡ twice 0x01)
    × (status_with 0 true Nothing ≡ twice 0x02)
    × (status_with 0 false Quarter ≡ twice 0x04)
    × (status_with 0 false Half ≡ twice 0x08)
    × (status_with 0 false All ≡ twice 0x0c)
    × (status_with 9 true All ≡ twice 0x0f)

-- a chip in a write cycle
abbrev pub in_cycle : World
in_cycle = lent (with_cycle (chip started (counts 0 32 6 0 0)) (record { target = Eeprom (record { 0 = 0 }); left = 9 }))

-- memories with something at both ends
abbrev pub ends : World
ends =
    world (chip started (counts 0 32 0 0 0)) (set (set (set (replicate 128 255) 126 7) 127 8) 0 9) (set (set (set (replicate 16 255) 14 4) 15 6) 0 5)

-- the number and the count of an outcome
abbrev pub numbered : Outcome → List ℕ
numbered o = o.number ∷ o.count ∷ []

unfoldable pub FramesShown : Type 0
FramesShown =
    -- F3, F4, F7, F8. EEREAD: none for code and address, then the last two bytes and the first; address bit 7 does not count on 1 Kbit
    (replies 1 [] (0x03 ∷ 0x7e ∷ 0 ∷ 0 ∷ 0 ∷ []) ends ≡ None ∷ None ∷ Some 7 ∷ Some 8 ∷ Some 9 ∷ [])
    × (replies 1 [] (0x03 ∷ 0xff ∷ 0 ∷ 0 ∷ []) ends ≡ None ∷ None ∷ Some 8 ∷ Some 9 ∷ [])
    -- F3, F4, F9. IDREAD: to 0Fh and on to 00h, the address by its remainder
    × (replies 1 [] (0x33 ∷ 0x0e ∷ 0 ∷ 0 ∷ 0 ∷ []) ends ≡ None ∷ None ∷ Some 4 ∷ Some 6 ∷ Some 5 ∷ [])
    × (replies 1 [] (0x33 ∷ 0x1f ∷ 0 ∷ 0 ∷ []) ends ≡ None ∷ None ∷ Some 6 ∷ Some 5 ∷ [])
    -- F3. READ and SRREAD
    × (replies 1 [] (0x13 ∷ 0x01 ∷ 0 ∷ []) ends ≡ None ∷ None ∷ Some 0x80 ∷ [])
    × (replies 1 [] (0x05 ∷ 0 ∷ []) ends ≡ None ∷ Some 0x00 ∷ [])
    -- F3. a write has no reply
    × (replies 1 [] (0x02 ∷ 0 ∷ 1 ∷ []) ends ≡ None ∷ None ∷ None ∷ [])
    × (replies 1 [] (0x12 ∷ 0x20 ∷ 1 ∷ []) ends ≡ None ∷ None ∷ None ∷ [])
    -- F2. a byte that is no code: no reply, no effect
    × (replies 1 [] (0x00 ∷ 0x20 ∷ 1 ∷ []) ends ≡ None ∷ None ∷ None ∷ [])
    × (after 1 (frame_of (0x00 ∷ 0x20 ∷ 1 ∷ [])) busy ≡ busy)
    × (after 1 (frame_of (0xff ∷ 0x20 ∷ 1 ∷ [])) busy ≡ busy)
    -- A3. no time passes in a frame
    × (after 1 (frame_of (0x13 ∷ 0x00 ∷ replicate 40 0)) busy ≡ busy)
    -- F31, F32. in a cycle: EEREAD is not heard, whatever byte follows it, nor an enable; READ, SRREAD, WRITE, CLRRAM and CLRWDT are
    × (replies 1 [] (0x03 ∷ 0x00 ∷ 0 ∷ []) in_cycle ≡ None ∷ None ∷ None ∷ [])
    × (replies 1 [] (0x03 ∷ 0x05 ∷ 0 ∷ []) in_cycle ≡ None ∷ None ∷ None ∷ [])
    × (replies 1 [] (0x13 ∷ 0x01 ∷ 0 ∷ []) in_cycle ≡ None ∷ None ∷ Some 0x80 ∷ [])
    × (replies 1 [] (0x05 ∷ 0 ∷ []) in_cycle ≡ None ∷ Some 0x01 ∷ [])
    × (after 1 (frame_of (0x06 ∷ [])) in_cycle ≡ in_cycle)
    × ((after 1 (frame_of (0x12 ∷ 0x20 ∷ 1 ∷ [])) in_cycle).device.sram ≡ 1 ∷ replicate 63 7)
    × ((after 1 (frame_of (0x54 ∷ [])) in_cycle).device.sram ≡ replicate 64 0)
    × ((after 1 (frame_of (0x44 ∷ [])) in_cycle).device.counters ≡ counts 0 32 0 0 0)
    -- F20. CLRRAM with one byte or two, no bit left over
    × ((after 1 (frame_of (0x54 ∷ [])) busy).device.sram ≡ replicate 64 0)
    × ((after 1 (frame_of (0x54 ∷ 0x99 ∷ [])) busy).device.sram ≡ replicate 64 0)
    × (after 1 (frame_of (0x54 ∷ 0x99 ∷ 0x99 ∷ [])) busy ≡ busy)
    × (after 1 (ragged_frame 1 (0x54 ∷ [])) busy ≡ busy)
    × ((after 1 (frame_of (0x54 ∷ [])) busy).device.regs ≡ busy_regs)
    -- F20, K29. CLRWDT likewise: the count alone
    × (after 1 (frame_of (0x44 ∷ [])) busy ≡ scene busy_regs (counts 5 32 0 7 8))
    × (after 1 (frame_of (0x44 ∷ 0x99 ∷ [])) busy ≡ scene busy_regs (counts 5 32 0 7 8))
    × (after 1 (frame_of (0x44 ∷ 0x99 ∷ 0x99 ∷ [])) busy ≡ busy)
    × (after 1 (ragged_frame 7 (0x44 ∷ [])) busy ≡ busy)
    -- A5, A6, A7, A34, A38. reply, number and count of each act, and of one that is refused
    × ((performed 1 Select 0 busy).reply ≡ None) × (numbered (performed 1 Select 0 busy) ≡ 0 ∷ 0 ∷ [])
    × (numbered (performed 1 Byte 0x13 (performed 1 Select 0 busy).after) ≡ 0 ∷ 0 ∷ [])
    × ((performed 1 End 0 (performed 1 Select 0 busy).after).reply ≡ None) × (numbered (performed 1 End 0 (performed 1 Select 0 busy).after) ≡ 0 ∷ 0 ∷ [])
    × ((performed 1 Wait 1 busy).reply ≡ None) × (numbered (performed 1 Wait 1 busy) ≡ 0 ∷ 1 ∷ [])
    × ((performed 1 Cut 0xff busy).reply ≡ None) × (numbered (performed 1 Cut 0xff busy) ≡ 0 ∷ 0 ∷ [])
    × ((performed 1 Up 0 (performed 1 Cut 0 busy).after).reply ≡ None) × (numbered (performed 1 Up 0 (performed 1 Cut 0 busy).after) ≡ 0 ∷ 0 ∷ [])
    × ((performed 1 Byte 0x13 busy).reply ≡ None) × (numbered (performed 1 Byte 0x13 busy) ≡ 2 ∷ 0 ∷ []) × ((performed 1 Byte 0x13 busy).after ≡ busy)

-- a cycle with three of eight offsets loaded, so many ticks before its end, and before its last tick
abbrev pub loaded_for : ℕ → Target → World
loaded_for left t =
    lent (with_load (with_wel (with_cycle (chip started (counts 0 32 0 0 0)) (record { target = t; left = left })) true) (record { offsets = 0x07; bytes = 1 ∷ 2 ∷ 3 ∷ replicate 5 0; next = 3 }))

abbrev pub loaded : Target → World
loaded t = loaded_for 1 t

-- without VBATEN, and with a time-out pulse and a delay
abbrev pub unbattered : World
unbattered = scene (set busy_regs 0x04 0x02) (counts 5 32 6 7 8)

unfoldable pub PowerShown : Type 0
PowerShown =
    -- P1, P2, P4. the count of a cut: loaded and under the mask; none without a cycle
    ((performed 1 Cut 0xff (loaded (Eeprom (record { 0 = 0x10 })))).count ≡ 3)
    × ((performed 1 Cut 0x05 (loaded (Eeprom (record { 0 = 0x10 })))).count ≡ 2)
    × ((performed 1 Cut 0xf8 (loaded (Eeprom (record { 0 = 0x10 })))).count ≡ 0)
    × ((performed 1 Cut 0x05 (loaded (Eeprom (record { 0 = 0x10 })))).after.eeprom ≡ set (set (replicate 128 255) 0x10 1) 0x12 3)
    × ((performed 1 Cut 0x02 (loaded (Id (record { 0 = 8 })))).count ≡ 1)
    × ((performed 1 Cut 0x02 (loaded (Id (record { 0 = 8 })))).after.id ≡ set (replicate 16 255) 9 2)
    × ((performed 1 Cut 0xff (loaded_for 0 (Eeprom (record { 0 = 0x10 })))).count ≡ 0)
    × ((performed 1 Cut 0xff (loaded_for 0 (Eeprom (record { 0 = 0x10 })))).after.eeprom ≡ replicate 128 255)
    -- P3. an SRWRITE goes by bit 0
    × ((performed 1 Cut 0x01 (loaded (Status Half))).count ≡ 1)
    × ((performed 1 Cut 0x01 (loaded (Status Half))).after.device.guard.protection ≡ Half)
    × ((performed 1 Cut 0xfe (loaded (Status Half))).count ≡ 0)
    × ((performed 1 Cut 0xfe (loaded (Status Half))).after.device.guard.protection ≡ Nothing)
    -- P5, P6. the cycle is gone, and WEL
    × ((performed 1 Cut 0x01 (loaded (Status Half))).after.device.cycle.left ≡ 0)
    × ((performed 1 Cut 0x01 (loaded (Status Half))).after.device.guard.wel ≡ false)
    -- P7, P9, P13. with VBATEN all stays but bit 7 of 0Ah, the watchdog's counts, VBAT and the power-down time-stamp, and the ticks go on
    × ((performed 1 Cut 0 busy).after.device.regs ≡ set (set (set (set (set (set busy_regs 0x0a 0x25) 0x04 0x1a) 0x18 0x56) 0x19 0x18) 0x1a 0x21) 0x1b 0x49)
    × ((performed 1 Cut 0 busy).after.device.sram ≡ replicate 64 7)
    × ((performed 1 Cut 0 busy).after.device.counters ≡ counts 5 32 0 0 0)
    × ((after 1 (does Cut 0 ∷ waiting 3) busy).device.counters ≡ counts 8 32 0 0 0)
    -- P10. without it registers, SRAM and counts are a fresh chip's, and a wait uses all its ticks and changes nothing
    × ((performed 1 Cut 0 unbattered).after.device.regs ≡ 0 ∷ 0 ∷ 0 ∷ 0 ∷ 1 ∷ 1 ∷ 1 ∷ replicate 25 0)
    × ((performed 1 Cut 0 unbattered).after.device.sram ≡ replicate 64 0)
    × ((performed 1 Cut 0 unbattered).after.device.counters ≡ counts 0 0 0 0 0)
    × ((performed 1 Wait 5 (performed 1 Cut 0 unbattered).after).count ≡ 5)
    × ((performed 1 Wait 5 (performed 1 Cut 0 unbattered).after).after ≡ (performed 1 Cut 0 unbattered).after)
    -- A1. power goes and comes
    × ((performed 1 Cut 0 busy).after.device.power ≡ false)
    × ((performed 1 Up 0 (performed 1 Cut 0 busy).after).after.device.power ≡ true)
    -- F28. the last tick of a cycle stores what is loaded, or moves the protection, and clears WEL; the wait stops there
    × ((performed 1 Wait 9 (loaded (Eeprom (record { 0 = 0x10 })))).count ≡ 1)
    × ((performed 1 Wait 9 (loaded (Eeprom (record { 0 = 0x10 })))).after.eeprom ≡ set (set (set (replicate 128 255) 0x10 1) 0x11 2) 0x12 3)
    × ((performed 1 Wait 9 (loaded (Id (record { 0 = 8 })))).after.id ≡ set (set (set (replicate 16 255) 8 1) 9 2) 10 3)
    × ((performed 1 Wait 9 (loaded (Status Half))).after.device.guard ≡ record { wel = false; protection = Half; lock = Closed })
    -- A35, A36. a fresh chip
    × (fresh.regs ≡ 0 ∷ 0 ∷ 0 ∷ 0 ∷ 1 ∷ 1 ∷ 1 ∷ replicate 25 0)
    × (fresh.sram ≡ replicate 64 0)
    × (fresh.counters ≡ counts 0 0 0 0 0)
    × (fresh.power ≡ true)
    × (fresh.mark ≡ false)
    × (fresh.guard ≡ record { wel = false; protection = Nothing; lock = Closed })
    × (fresh.frame.stage ≡ Idle)
    × (fresh.cycle.left ≡ 0)

unfoldable pub ActsShown : Type 0
ActsShown = RegistersShown × FramesShown × PowerShown

-- Each of them computes.
pub acts_shown : ActsShown
unfolding ActsShown RegistersShown FramesShown PowerShown valid_field after replies bytes_answered after_bytes driven_all leap_year world_after our_chip sent fresh performed refusal_of out_of_range clock_out frame_out cycle_out power_out events_out window_out debounce_out bit_outside every status_byte after_select after_byte next_reply leftover_reply read_clock write_clock after_write after_end carried cycle_after wel_after after_cut cut_count cut_world after_up stamped unstamped waited_by tick cycle_tick cycle_device clockwork changed flags_changed irq_low pulls_irq wdo_low oscillator_tick watchdog_tick event_tick events_tick calendar_tick store_under members
acts_shown = (
  (refl, refl, refl, refl, refl, refl, refl, refl, refl, refl, refl, refl, refl, refl, refl),
  (refl, refl, refl, refl, refl, refl, refl, refl, refl, refl, refl, refl, refl, refl, refl, refl, refl, refl, refl, refl, refl, refl, refl, refl, refl, refl, refl, refl, refl, refl, refl, refl, refl, refl, refl, refl, refl, refl, refl, refl, refl, refl, refl),
  (refl, refl, refl, refl, refl, refl, refl, refl, refl, refl, refl, refl, refl, refl, refl, refl, refl, refl, refl, refl, refl, refl, refl, refl, refl, refl, refl, refl, refl, refl, refl, refl, refl, refl, refl, refl, refl),
)
