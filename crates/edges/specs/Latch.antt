-- Closed witnesses of the latch, on records that are written out, through `performed`: what STATUS is answered after each act that resets it, and
-- after what does not; WEL in the record where STATUS cannot be asked. BP is 01 throughout: with no cycle STATUS is 04h with WEL clear, 06h with WEL set.
-- Assumes nothing.
use Rattle.std.specs.Prelude.{ℕ, ◌≡◌, Bool, true, false, List, [], ◌∷◌, set, Option, Some}
use Rattle.base.specs.Wait.{waited_by}
use Rattle.base.specs.Words.{every, members, store_under}
use Rattle.events.specs.Control.{pulls_irq}
use Rattle.events.specs.Tick.{events_tick}
use Rattle.events.specs.Range.{window_out, debounce_out, events_out}
use Rattle.record.specs.declared.Act.{Act}
use Rattle.record.specs.declared.Act.TheVariants.{Select, End, Wait, Cut, Up}
use Rattle.record.specs.declared.Lock.TheVariants.{Closed, Open}
use Rattle.record.specs.declared.Protection.TheVariants.{Quarter}
use Rattle.record.specs.declared.Target.{Target}
use Rattle.record.specs.declared.Target.TheVariants.{Eeprom, Id, Status}
use Rattle.record.specs.Fresh.{fresh}
use Rattle.record.specs.Scene.{chip, started}
use Rattle.record.specs.Setters.{counts, with_power, with_wel, with_protection, with_lock, with_cycle}
use Rattle.record.specs.Stamps.{stamped, unstamped}
use Rattle.record.specs.World.{World, moved}
use Rattle.refusals.specs.Range.{out_of_range, clock_out, frame_out, cycle_out, power_out, bit_outside}
use Rattle.refusals.specs.Refusal.{refusal_of}
use Rattle.registers.specs.Read.{read_clock}
use Rattle.registers.specs.Write.{write_clock, after_write}
use Rattle.ticks.specs.Lines.{irq_low, wdo_low, flags_changed, changed}
use Rattle.ticks.specs.Oscillator.{oscillator_tick}
use Rattle.ticks.specs.Watchdog.{watchdog_tick}
use Rattle.ticks.specs.Event.{event_tick}
use Rattle.ticks.specs.Clock.{calendar_tick}
use Rattle.ticks.specs.Tick.{cycle_device, cycle_tick, clockwork, tick}
use Rattle.replies.specs.Reply.{status_byte, next_reply}
use Rattle.frames.specs.Frame.{after_byte, after_select}
use Rattle.ends.specs.Write.{carried, cycle_after, wel_after}
use Rattle.ends.specs.End.{after_end}
use Rattle.power.specs.Power.{after_cut, cut_count, cut_world, after_up}
use Rattle.acts.specs.Act.{performed}
use Rattle.run.specs.Claim.{our_chip, world_after}
use Rattle.run.specs.Script.{sent, ragged_frame}
use Rattle.edges.specs.Scene.{after, bytes_answered, after_bytes, replies, lent}

-- a 1 Kbit chip whose last quarter, from 60h, is protected, with WEL so and a cycle of so many ticks
abbrev latched : List ℕ → Bool → Target → ℕ → World
latched regs wel t left = lent (with_cycle (with_protection (with_wel (chip regs (counts 0 32 0 0 0)) wel) Quarter) (record { target = t; left = left }))

abbrev enabled : World
enabled = latched started true (Eeprom (record { 0 = 0 })) 0

abbrev disabled : World
disabled = latched started false (Eeprom (record { 0 = 0 })) 0

-- each with the lock open
abbrev unlocked : World → World
unlocked w = moved w (with_lock w.device Open)

-- the first with power off, which only a record from elsewhere can have
abbrev enabled_off : World
enabled_off = moved enabled (with_power enabled.device false)

-- STATUS after a frame, a whole one or one with leftover bits
abbrev ragged_status : ℕ → List ℕ → World → List (Option ℕ)
ragged_status leftover bs w = replies 1 (5 ∷ []) (0 ∷ []) (after 1 (ragged_frame leftover bs) w)

abbrev status_after : List ℕ → World → List (Option ℕ)
status_after bs w = ragged_status 0 bs w

-- STATUS after an act
abbrev status_once : Act → ℕ → World → List (Option ℕ)
status_once act arg w = replies 1 (5 ∷ []) (0 ∷ []) (performed 1 act arg w).after

abbrev answered : ℕ → List (Option ℕ)
answered b = Some b ∷ []

unfoldable pub LatchShown : Type 0
LatchShown =
    -- F26, F30. a protected page; the last page that is free starts its cycle, WEL still set
    (status_after (0x02 ∷ 0x60 ∷ 1 ∷ []) enabled ≡ answered 0x06)
    × (status_after (0x02 ∷ 0x58 ∷ 1 ∷ []) enabled ≡ answered 0x07)
    -- F27, F30. a lock that is not open; an open one lets the cycle start
    × (status_after (0x32 ∷ 0 ∷ 1 ∷ []) enabled ≡ answered 0x06)
    × (status_after (0x32 ∷ 0 ∷ 1 ∷ []) (unlocked enabled) ≡ answered 0x07)
    -- F25, F30. leftover bits, 1 and 7, after the data of each write
    × (ragged_status 1 (0x02 ∷ 0 ∷ 1 ∷ []) enabled ≡ answered 0x06)
    × (ragged_status 7 (0x02 ∷ 0 ∷ 1 ∷ []) enabled ≡ answered 0x06)
    × (ragged_status 7 (0x32 ∷ 0 ∷ 1 ∷ []) (unlocked enabled) ≡ answered 0x06)
    × (ragged_status 7 (0x01 ∷ 0 ∷ []) enabled ≡ answered 0x06)
    -- F24, F30. SRWRITE with two data bytes, and three; no data at all
    × (status_after (0x01 ∷ 0 ∷ 0 ∷ []) enabled ≡ answered 0x06)
    × (status_after (0x01 ∷ 0 ∷ 0 ∷ 0 ∷ []) enabled ≡ answered 0x06)
    × (status_after (0x01 ∷ []) enabled ≡ answered 0x06)
    × (status_after (0x02 ∷ 0 ∷ []) enabled ≡ answered 0x06)
    × (status_after (0x32 ∷ 0 ∷ []) (unlocked enabled) ≡ answered 0x06)
    -- F23, F30. with WEL clear no write sets it, nor starts a cycle
    × (status_after (0x02 ∷ 0 ∷ 1 ∷ []) disabled ≡ answered 0x04)
    × (status_after (0x32 ∷ 0 ∷ 1 ∷ []) (unlocked disabled) ≡ answered 0x04)
    × (status_after (0x01 ∷ 0 ∷ []) disabled ≡ answered 0x04)
    -- F19. EEWRDI: eight bits; a second byte, a leftover bit, a cycle that runs
    × (status_after (0x04 ∷ []) enabled ≡ answered 0x04)
    × (status_after (0x04 ∷ 0x04 ∷ []) enabled ≡ answered 0x06)
    × (ragged_status 1 (0x04 ∷ []) enabled ≡ answered 0x06)
    × (status_after (0x04 ∷ []) (latched started true (Status Quarter) 9) ≡ answered 0x07)
    -- F19. EEWREN likewise
    × (status_after (0x06 ∷ []) disabled ≡ answered 0x06)
    × (status_after (0x06 ∷ 0x06 ∷ []) disabled ≡ answered 0x04)
    × (ragged_status 1 (0x06 ∷ []) disabled ≡ answered 0x04)
    × (status_after (0x06 ∷ []) (latched started false (Status Quarter) 9) ≡ answered 0x05)
    -- F2, F19. other codes leave it: the neighbours of both, reads, WRITE, UNLOCK, CLRWDT, CLRRAM, none
    × (status_after (0x03 ∷ 0 ∷ 0 ∷ []) enabled ≡ answered 0x06)
    × (status_after (0x05 ∷ 0 ∷ []) enabled ≡ answered 0x06)
    × (status_after (0x07 ∷ []) disabled ≡ answered 0x04)
    × (status_after (0x12 ∷ 0x20 ∷ 1 ∷ []) enabled ≡ answered 0x06)
    × (status_after (0x13 ∷ 0 ∷ 0 ∷ []) enabled ≡ answered 0x06)
    × (status_after (0x14 ∷ 0x55 ∷ []) enabled ≡ answered 0x06)
    × (status_after (0x44 ∷ []) enabled ≡ answered 0x06)
    × (status_after (0x54 ∷ []) enabled ≡ answered 0x06)
    × (status_after [] enabled ≡ answered 0x06)
    -- F28. the end of each kind of cycle, not the tick before
    × (status_once Wait 1 (latched started true (Eeprom (record { 0 = 0 })) 2) ≡ answered 0x07)
    × (status_once Wait 2 (latched started true (Eeprom (record { 0 = 0 })) 2) ≡ answered 0x04)
    × (status_once Wait 2 (latched started true (Id (record { 0 = 0 })) 2) ≡ answered 0x04)
    × (status_once Wait 2 (latched started true (Status Quarter) 2) ≡ answered 0x04)
    -- F28. a wait with no cycle leaves it
    × (status_once Wait 2 enabled ≡ answered 0x06)
    -- P6, P11. a cut, with VBATEN and without, seen in the record: WEL is clear and an open lock closed, the protection stays
    × ((performed 1 Cut 0 (unlocked (latched (set started 0x04 0x08) true (Status Quarter) 0))).after.device.guard
    ≡ record { wel = false; protection = Quarter; lock = Closed })
    × ((performed 1 Cut 0 (unlocked enabled)).after.device.guard ≡ record { wel = false; protection = Quarter; lock = Closed })
    -- P18. an up, of a record with power off and WEL set
    × ((performed 1 Up 0 enabled_off).number ≡ 0)
    × (status_once Up 0 enabled_off ≡ answered 0x04)
    -- P18. time alone does not clear it
    × ((performed 1 Wait 9 enabled_off).after.device.guard.wel ≡ true)
    -- A34. refused acts leave it: an up with power on, a cut beyond its mask, an end of eight bits after EEWRDI
    × (status_once Up 0 enabled ≡ answered 0x06)
    × (status_once Cut 256 enabled ≡ answered 0x06)
    × ((performed 1 End 8 (after_bytes 1 (0x04 ∷ []) (performed 1 Select 0 enabled).after)).after.device.guard.wel ≡ true)

-- Each of them computes.
pub latch_shown : LatchShown
unfolding LatchShown after replies bytes_answered after_bytes world_after our_chip sent fresh performed refusal_of out_of_range clock_out frame_out cycle_out power_out events_out window_out debounce_out bit_outside every status_byte after_select after_byte next_reply read_clock write_clock after_write after_end carried cycle_after wel_after after_cut cut_count cut_world after_up stamped unstamped waited_by tick cycle_tick cycle_device clockwork changed flags_changed irq_low pulls_irq wdo_low oscillator_tick watchdog_tick event_tick events_tick calendar_tick store_under members
latch_shown = search depth 1
