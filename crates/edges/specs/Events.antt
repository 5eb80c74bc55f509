-- Closed witnesses of the event inputs: acts on a record that is written out, through `performed`. Each shows a rule a second time, as the paper's numbers.
-- Assumes nothing.
use Rattle.std.specs.Prelude.{ℕ, ◌≡◌, refl, false, List, [], ◌∷◌, get_or, set}
use Rattle.base.specs.Wait.{waited_by}
use Rattle.base.specs.Words.{every, flag, store_under}
use Rattle.events.specs.declared.Events.{Events}
use Rattle.events.specs.Control.{pulls_irq}
use Rattle.events.specs.Pins.{drum_set, door_set, zeroes_watchdog}
use Rattle.events.specs.Tick.{events_tick}
use Rattle.events.specs.Range.{window_out, debounce_out, events_out}
use Rattle.record.specs.declared.Act.TheVariants.{Byte, Wait, Cut, Set}
use Rattle.record.specs.declared.Device.{Device}
use Rattle.record.specs.declared.Pin.TheVariants.{Evls, Evhs}
use Rattle.record.specs.Fresh.{fresh_events}
use Rattle.record.specs.Scene.{chip, started}
use Rattle.record.specs.Setters.{counts, with_events, with_power}
use Rattle.record.specs.Stamps.{stamped}
use Rattle.record.specs.World.{World}
use Rattle.refusals.specs.Range.{out_of_range, clock_out, frame_out, cycle_out, power_out, bit_outside}
use Rattle.refusals.specs.Refusal.{refusal_of}
use Rattle.registers.specs.Write.{write_clock, after_write}
use Rattle.ticks.specs.Lines.{irq_low, wdo_low, flags_changed, changed}
use Rattle.ticks.specs.Oscillator.{oscillator_tick}
use Rattle.ticks.specs.Watchdog.{watchdog_tick}
use Rattle.ticks.specs.Event.{event_tick}
use Rattle.ticks.specs.Clock.{calendar_tick}
use Rattle.ticks.specs.Tick.{cycle_device, cycle_tick, clockwork, tick}
use Rattle.replies.specs.Reply.{next_reply}
use Rattle.frames.specs.Frame.{after_byte, after_select}
use Rattle.power.specs.Power.{after_cut, cut_count, cut_world}
use Rattle.pins.specs.Set.{after_set}
use Rattle.acts.specs.Act.{Outcome, performed}
use Rattle.edges.specs.Scene.{after_bytes, sent_in, lent}

-- levels of EVLS and EVHS, edges, ticks since the first, debounce ticks
abbrev events : ℕ → ℕ → ℕ → ℕ → ℕ → Events
events door drum edges since debounce = record { door = door; drum = drum; edges = edges; since = since; debounce = debounce }

-- a 1 Kbit W part with the byte of 0Bh, OSCON set or not, and these inputs; its watchdog runs with a count of 5, a delay of 7 and a pulse of 9
abbrev with_0b : ℕ → ℕ → Events → World
with_0b startup v e = lent (with_events (chip (set (set started 0x0a 0x87) 0x0b v) (counts 0 startup 5 7 9)) e)

abbrev inputs : ℕ → Events → World
inputs v e = with_0b 32 v e

-- number, count, the byte of 0Bh, the five numbers of the inputs, and 1 for IRQ low
abbrev shown : Outcome → List ℕ
shown o =
    let d : Device = o.after.device in
    o.number ∷ o.count ∷ get_or d.regs 0x0b 0 ∷ d.events.door ∷ d.events.drum ∷ d.events.edges ∷ d.events.since ∷ d.events.debounce ∷ flag (irq_low d) ∷ []

-- the watchdog's count, delay and pulse
abbrev dog : Outcome → List ℕ
dog o = o.after.device.counters.watchdog ∷ o.after.device.counters.delay ∷ o.after.device.counters.pulse ∷ []

-- power off; VBATEN set
abbrev off : World → World
off w = record { device = with_power w.device false; eeprom = w.eeprom; id = w.id }

abbrev backed : ℕ → Events → World
backed v e = lent (with_events (chip (set (set started 0x04 0x08) 0x0b v) (counts 0 32 0 0 0)) e)

-- a byte written to 0Bh, or to 0Ch, in a frame of WRITE
abbrev wrote : ℕ → ℕ → World → Outcome
wrote a v w = performed 1 Byte v (sent_in 1 (0x12 ∷ a ∷ []) w)

unfoldable pub EventsShown : Type 0
EventsShown =
    -- V1. a level, and a level that is none, with power and without; V2. the level that is there
    (shown (performed 1 (Set Evls) 1 (inputs 0x00 fresh_events)) ≡ 0 ∷ 0 ∷ 0x00 ∷ 1 ∷ 0 ∷ 0 ∷ 0 ∷ 0 ∷ 0 ∷ [])
    × (shown (performed 1 (Set Evhs) 1 (off (inputs 0x00 fresh_events))) ≡ 0 ∷ 0 ∷ 0x00 ∷ 0 ∷ 1 ∷ 0 ∷ 0 ∷ 0 ∷ 0 ∷ [])
    × (shown (performed 1 (Set Evls) 2 (inputs 0x10 fresh_events)) ≡ 3 ∷ 0 ∷ 0x10 ∷ 0 ∷ 0 ∷ 0 ∷ 0 ∷ 0 ∷ 0 ∷ [])
    × (shown (performed 1 (Set Evhs) 256 (off (inputs 0x20 fresh_events))) ≡ 3 ∷ 0 ∷ 0x20 ∷ 0 ∷ 0 ∷ 0 ∷ 0 ∷ 0 ∷ 0 ∷ [])
    × (shown (performed 1 (Set Evhs) 1 (inputs 0x21 (events 0 1 2 5 0))) ≡ 0 ∷ 0 ∷ 0x21 ∷ 0 ∷ 1 ∷ 2 ∷ 5 ∷ 0 ∷ 0 ∷ [])
    × (shown (performed 1 (Set Evhs) 0 (inputs 0x21 (events 0 0 2 5 0))) ≡ 0 ∷ 0 ∷ 0x21 ∷ 0 ∷ 0 ∷ 2 ∷ 5 ∷ 0 ∷ 0 ∷ [])
    -- V4, V5. a rise counts; the one that fills the number sets the flag: 1, 4, 16, 32
    × (shown (performed 1 (Set Evhs) 1 (inputs 0x20 fresh_events)) ≡ 0 ∷ 0 ∷ 0xa0 ∷ 0 ∷ 1 ∷ 0 ∷ 0 ∷ 0 ∷ 1 ∷ [])
    × (shown (performed 1 (Set Evhs) 1 (inputs 0x21 (events 0 0 2 5 0))) ≡ 0 ∷ 0 ∷ 0x21 ∷ 0 ∷ 1 ∷ 3 ∷ 5 ∷ 0 ∷ 0 ∷ [])
    × (shown (performed 1 (Set Evhs) 1 (inputs 0x21 (events 0 0 3 8192 0))) ≡ 0 ∷ 0 ∷ 0xa1 ∷ 0 ∷ 1 ∷ 0 ∷ 0 ∷ 0 ∷ 1 ∷ [])
    × (shown (performed 1 (Set Evhs) 1 (inputs 0x22 (events 0 0 14 5 0))) ≡ 0 ∷ 0 ∷ 0x22 ∷ 0 ∷ 1 ∷ 15 ∷ 5 ∷ 0 ∷ 0 ∷ [])
    × (shown (performed 1 (Set Evhs) 1 (inputs 0x23 (events 0 0 31 5 0))) ≡ 0 ∷ 0 ∷ 0xa3 ∷ 0 ∷ 1 ∷ 0 ∷ 0 ∷ 0 ∷ 1 ∷ [])
    -- V4. a fall, a rise not enabled, under the flag, with EVWDT, and with OSCON clear do not
    × (shown (performed 1 (Set Evhs) 0 (inputs 0x21 (events 0 1 2 5 0))) ≡ 0 ∷ 0 ∷ 0x21 ∷ 0 ∷ 0 ∷ 2 ∷ 5 ∷ 0 ∷ 0 ∷ [])
    × (shown (performed 1 (Set Evhs) 1 (inputs 0x10 fresh_events)) ≡ 0 ∷ 0 ∷ 0x10 ∷ 0 ∷ 1 ∷ 0 ∷ 0 ∷ 0 ∷ 0 ∷ [])
    × (shown (performed 1 (Set Evhs) 1 (inputs 0xa1 fresh_events)) ≡ 0 ∷ 0 ∷ 0xa1 ∷ 0 ∷ 1 ∷ 0 ∷ 0 ∷ 0 ∷ 1 ∷ [])
    × (shown (performed 1 (Set Evhs) 1 (inputs 0x28 fresh_events)) ≡ 0 ∷ 0 ∷ 0x28 ∷ 0 ∷ 1 ∷ 0 ∷ 0 ∷ 0 ∷ 0 ∷ [])
    × (shown (performed 1 (Set Evhs) 1 (with_0b 31 0x20 fresh_events)) ≡ 0 ∷ 0 ∷ 0x20 ∷ 0 ∷ 1 ∷ 0 ∷ 0 ∷ 0 ∷ 0 ∷ [])
    -- V6. the 8,192nd tick is inside, the 8,193rd is not; V10. a tick that does not count moves nothing
    × (shown (performed 1 Wait 1 (inputs 0x21 (events 0 1 2 8191 0))) ≡ 0 ∷ 1 ∷ 0x21 ∷ 0 ∷ 1 ∷ 2 ∷ 8192 ∷ 0 ∷ 0 ∷ [])
    × (shown (performed 1 Wait 1 (inputs 0x21 (events 0 1 2 8192 0))) ≡ 0 ∷ 1 ∷ 0x21 ∷ 0 ∷ 1 ∷ 0 ∷ 0 ∷ 0 ∷ 0 ∷ [])
    × (shown (performed 1 Wait 1 (inputs 0x21 (events 0 1 1 5 0))) ≡ 0 ∷ 1 ∷ 0x21 ∷ 0 ∷ 1 ∷ 1 ∷ 6 ∷ 0 ∷ 0 ∷ [])
    × (shown (performed 1 Wait 1 (inputs 0x21 fresh_events)) ≡ 0 ∷ 1 ∷ 0x21 ∷ 0 ∷ 0 ∷ 0 ∷ 0 ∷ 0 ∷ 0 ∷ [])
    × (shown (performed 1 Wait 1 (with_0b 31 0x31 (events 1 1 2 7 9))) ≡ 0 ∷ 1 ∷ 0x31 ∷ 1 ∷ 1 ∷ 2 ∷ 7 ∷ 9 ∷ 0 ∷ [])
    -- V7. with EVWDT either edge zeroes the watchdog's count, not its delay and pulse, OSCON or not; EVLS does not, nor the same level, nor without EVWDT
    × (dog (performed 1 (Set Evhs) 1 (inputs 0x08 fresh_events)) ≡ 0 ∷ 7 ∷ 9 ∷ [])
    × (dog (performed 1 (Set Evhs) 0 (with_0b 31 0x08 (events 0 1 0 0 0))) ≡ 0 ∷ 7 ∷ 9 ∷ [])
    × (dog (performed 1 (Set Evhs) 1 (inputs 0x08 (events 0 1 0 0 0))) ≡ 5 ∷ 7 ∷ 9 ∷ [])
    × (dog (performed 1 (Set Evhs) 0 (inputs 0x08 fresh_events)) ≡ 5 ∷ 7 ∷ 9 ∷ [])
    × (dog (performed 1 (Set Evhs) 1 (inputs 0x20 fresh_events)) ≡ 5 ∷ 7 ∷ 9 ∷ [])
    × (dog (performed 1 (Set Evls) 1 (inputs 0x08 fresh_events)) ≡ 5 ∷ 7 ∷ 9 ∷ [])
    -- V8. a rise starts the debounce, short or long; not enabled, under its flag or with OSCON clear it starts none; a fall ends it
    × (shown (performed 1 (Set Evls) 1 (inputs 0x10 fresh_events)) ≡ 0 ∷ 0 ∷ 0x10 ∷ 1 ∷ 0 ∷ 0 ∷ 0 ∷ 1024 ∷ 0 ∷ [])
    × (shown (performed 1 (Set Evls) 1 (inputs 0x14 fresh_events)) ≡ 0 ∷ 0 ∷ 0x14 ∷ 1 ∷ 0 ∷ 0 ∷ 0 ∷ 16384 ∷ 0 ∷ [])
    × (shown (performed 1 (Set Evls) 1 (inputs 0x24 fresh_events)) ≡ 0 ∷ 0 ∷ 0x24 ∷ 1 ∷ 0 ∷ 0 ∷ 0 ∷ 0 ∷ 0 ∷ [])
    × (shown (performed 1 (Set Evls) 1 (inputs 0x50 fresh_events)) ≡ 0 ∷ 0 ∷ 0x50 ∷ 1 ∷ 0 ∷ 0 ∷ 0 ∷ 0 ∷ 1 ∷ [])
    × (shown (performed 1 (Set Evls) 1 (with_0b 31 0x10 fresh_events)) ≡ 0 ∷ 0 ∷ 0x10 ∷ 1 ∷ 0 ∷ 0 ∷ 0 ∷ 0 ∷ 0 ∷ [])
    × (shown (performed 1 (Set Evls) 0 (inputs 0x10 (events 1 0 0 0 9))) ≡ 0 ∷ 0 ∷ 0x10 ∷ 0 ∷ 0 ∷ 0 ∷ 0 ∷ 0 ∷ 0 ∷ [])
    -- V9, V11. the last tick sets the flag, pulls IRQ low and stops a wait, with IRQ low already too
    × (shown (performed 1 Wait 6 (inputs 0x10 (events 1 0 0 0 3))) ≡ 0 ∷ 3 ∷ 0x50 ∷ 1 ∷ 0 ∷ 0 ∷ 0 ∷ 0 ∷ 1 ∷ [])
    × (shown (performed 1 Wait 2 (inputs 0x10 (events 1 0 0 0 3))) ≡ 0 ∷ 2 ∷ 0x10 ∷ 1 ∷ 0 ∷ 0 ∷ 0 ∷ 1 ∷ 0 ∷ [])
    × (shown (performed 1 Wait 6 (inputs 0x90 (events 1 0 0 0 3))) ≡ 0 ∷ 3 ∷ 0xd0 ∷ 1 ∷ 0 ∷ 0 ∷ 0 ∷ 0 ∷ 1 ∷ [])
    -- V12. any byte written to 0Bh zeroes the counts and leaves the levels; V11. a flag that is written pulls IRQ; a byte to 0Ch does neither
    × (shown (wrote 0x0b 0x31 (inputs 0x31 (events 1 1 2 7 9))) ≡ 0 ∷ 0 ∷ 0x31 ∷ 1 ∷ 1 ∷ 0 ∷ 0 ∷ 0 ∷ 0 ∷ [])
    × (shown (wrote 0x0b 0x40 (inputs 0x31 (events 1 1 2 7 9))) ≡ 0 ∷ 0 ∷ 0x40 ∷ 1 ∷ 1 ∷ 0 ∷ 0 ∷ 0 ∷ 1 ∷ [])
    × (shown (wrote 0x0c 0x00 (inputs 0x31 (events 1 1 2 7 9))) ≡ 0 ∷ 0 ∷ 0x31 ∷ 1 ∷ 1 ∷ 2 ∷ 7 ∷ 9 ∷ 0 ∷ [])
    -- V13. a cut keeps the levels; with VBATEN set the counts too
    × (shown (performed 1 Cut 0 (inputs 0x31 (events 1 1 2 7 9))) ≡ 0 ∷ 0 ∷ 0x00 ∷ 1 ∷ 1 ∷ 0 ∷ 0 ∷ 0 ∷ 0 ∷ [])
    × (shown (performed 1 Cut 0 (backed 0x31 (events 1 1 2 7 9))) ≡ 0 ∷ 0 ∷ 0x31 ∷ 1 ∷ 1 ∷ 2 ∷ 7 ∷ 9 ∷ 0 ∷ [])
    -- V14. each row is 6; what no row names is in range
    × ((performed 1 Wait 0 (inputs 0x00 (events 2 0 0 0 0))).number ≡ 6) × ((performed 1 Wait 0 (inputs 0x00 (events 0 2 0 0 0))).number ≡ 6)
    × ((performed 1 Wait 0 (inputs 0x21 (events 0 1 4 0 0))).number ≡ 6) × ((performed 1 Wait 0 (inputs 0x21 (events 0 1 3 8193 0))).number ≡ 6)
    × ((performed 1 Wait 0 (inputs 0x21 (events 0 1 0 1 0))).number ≡ 6) × ((performed 1 Wait 0 (inputs 0x10 (events 1 0 0 0 1025))).number ≡ 6)
    × ((performed 1 Wait 0 (inputs 0x10 (events 0 0 0 0 1))).number ≡ 6) × ((performed 1 Wait 0 (inputs 0x11 (events 0 1 3 0 0))).number ≡ 6)
    × ((performed 1 Wait 0 (inputs 0x20 (events 1 0 0 0 1))).number ≡ 6) × ((performed 1 Wait 0 (inputs 0xf9 (events 1 1 3 8192 1024))).number ≡ 0)

-- Each of them computes.
pub events_shown : EventsShown
unfolding EventsShown after_bytes performed refusal_of out_of_range clock_out frame_out cycle_out power_out events_out window_out debounce_out bit_outside every after_select after_byte next_reply write_clock after_write after_cut cut_count cut_world stamped after_set drum_set door_set zeroes_watchdog waited_by tick cycle_tick cycle_device clockwork changed flags_changed irq_low pulls_irq wdo_low oscillator_tick watchdog_tick event_tick events_tick calendar_tick store_under
events_shown = (refl, refl, refl, refl, refl, refl, refl, refl, refl, refl, refl, refl, refl, refl, refl, refl, refl, refl, refl, refl, refl, refl, refl, refl, refl, refl, refl, refl, refl, refl, refl, refl, refl, refl, refl, refl, refl, refl, refl, refl, refl, refl, refl, refl, refl, refl, refl, refl, refl, refl, refl)
