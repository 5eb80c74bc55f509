-- Runs that are written out: their moves, the flags after each act, and what a wait uses. They show that the premises of the claims can be met, that
-- the ends of the windows are where the papers have them, and in what the chip of before is another.
-- Assumes nothing.
use Rattle.std.specs.Prelude.{ℕ, ◌/◌, ◌≡◌, refl, true, List, [], ◌∷◌, set, replicate}
use Rattle.base.specs.Words.{every, flag}
use Rattle.base.specs.Wait.{waited_by, steps}
use Rattle.events.specs.declared.Events.{Events}
use Rattle.events.specs.Control.{pulls_irq}
use Rattle.events.specs.Pins.{drum_set, door_set, zeroes_watchdog}
use Rattle.events.specs.Range.{window_out, debounce_out, events_out}
use Rattle.events.specs.Story.{Drum, Door, Tick, Write}
use Rattle.events.specs.Tick.{events_tick}
use Rattle.record.specs.declared.Act.{Act}
use Rattle.record.specs.declared.Act.TheVariants.{Select, Byte, End, Wait, Cut, Set}
use Rattle.record.specs.declared.Pin.TheVariants.{Evls, Evhs}
use Rattle.record.specs.Scene.{chip, started}
use Rattle.record.specs.Setters.{counts, with_stage, with_events}
use Rattle.record.specs.World.{World, world, moved}
use Rattle.refusals.specs.Range.{bit_outside, clock_out, frame_out, cycle_out, power_out, out_of_range}
use Rattle.refusals.specs.Refusal.{refusal_of}
use Rattle.registers.specs.Write.{after_write, write_clock}
use Rattle.ticks.specs.Lines.{irq_low, wdo_low, flags_changed, changed}
use Rattle.ticks.specs.Oscillator.{oscillator_tick}
use Rattle.ticks.specs.Watchdog.{watchdog_tick}
use Rattle.ticks.specs.Event.{event_tick}
use Rattle.ticks.specs.Clock.{calendar_tick}
use Rattle.ticks.specs.Tick.{cycle_device, cycle_tick, clockwork, tick}
use Rattle.frames.specs.Frame.{after_byte, after_select}
use Rattle.ends.specs.End.{after_end}
use Rattle.ends.specs.Write.{carried, cycle_after, wel_after}
use Rattle.power.specs.Power.{after_cut, cut_count, cut_world}
use Rattle.pins.specs.Set.{after_set}
use Rattle.acts.specs.Act.{Outcome, performed}
use Rattle.run.specs.Claim.{Input}
use Rattle.signals.specs.Moves.{tick_moves, moves_of, run_moves}
use Rattle.signals.specs.Claim.{control, to_event}
use Rattle.signals.specs.Before.{clockwork_before, tick_before, irq_before, changed_before, after_write_before, write_before, byte_before, cut_before, out_before, refusal_before, performed_before}

-- a W part that runs, with 0Bh and the event inputs as they are given
abbrev scene : ℕ → Events → World
scene v e = world (with_events (chip (set started 0x0b v) (counts 0 32 0 0 0)) e) (replicate 128 255) (replicate 16 255)

-- EVLS, EVHS, edges, ticks since the first, debounce
abbrev inputs : ℕ → ℕ → ℕ → ℕ → ℕ → Events
inputs door drum edges since debounce = record { door = door; drum = drum; edges = edges; since = since; debounce = debounce }

abbrev act : Act → ℕ → Input
act a n = record { act = a; arg = n }

-- bits 7 and 6 of 0Bh after each act, as a number: 2 EVHIF, 1 EVLIF
flags_in : List Input → World → List ℕ
flags_in [] w = []
flags_in (x ∷ xs) w =
    let v : World = (performed 1 x.act x.arg w).after in
    control v / 64 ∷ flags_in xs v

-- the debounce's count after an act; a WRITE that stands at 0Bh
abbrev debounce_after : Outcome → ℕ
debounce_after o = o.after.device.events.debounce

abbrev opened : World → World
opened w = moved w (with_stage w.device to_event)

-- WRITE of 0Bh
abbrev writing : ℕ → List Input → List Input
writing v xs = act Select 0 ∷ act Byte 0x12 ∷ act Byte 0x0b ∷ act Byte v ∷ act End 0 ∷ xs

pub SignalsShown : Type 0
SignalsShown =
    -- V18. the moves of a run, newest first: a refused pin act and a byte that is no data are none, a cut without VBATEN is a write of 0
    (run_moves 1 (act (Set Evhs) 1 ∷ act Wait 2 ∷ act (Set Evhs) 2 ∷ act (Set Evls) 1 ∷ writing 0x30 (act Cut 0 ∷ [])) (scene 0x21 (inputs 0 0 0 0 0))
    ≡ Write 0 ∷ Write 0x30 ∷ Door true 1 ∷ Tick true ∷ Tick true ∷ Drum true 1 ∷ [])
    -- V3, V5, V12. written 21h: the fourth rise is the event, and a fall is none
    × (flags_in (writing 0x21 (act (Set Evhs) 1 ∷ act (Set Evhs) 0 ∷ act (Set Evhs) 1 ∷ act (Set Evhs) 0 ∷ act (Set Evhs) 1 ∷ act (Set Evhs) 0 ∷ act (Set Evhs) 1 ∷ []))
    (scene 0x00 (inputs 0 0 0 0 0))
    ≡ 0 ∷ 0 ∷ 0 ∷ 0 ∷ 0 ∷ 0 ∷ 0 ∷ 0 ∷ 0 ∷ 0 ∷ 0 ∷ 2 ∷ [])
    -- V6. the 8,192nd tick since the first is inside, with the 8,193rd a rise is a new first
    × (flags_in (act Wait 1 ∷ act (Set Evhs) 1 ∷ []) (scene 0x21 (inputs 0 0 3 8191 0)) ≡ 0 ∷ 2 ∷ [])
    × (flags_in (act Wait 2 ∷ act (Set Evhs) 1 ∷ []) (scene 0x21 (inputs 0 0 3 8191 0)) ≡ 0 ∷ 0 ∷ [])
    -- V9, V11. a debounce of two ticks more: the wait stops at its last, with the flag; a fall before it ends it
    × ((performed 1 Wait 5 (scene 0x10 (inputs 1 0 0 0 2))).count ≡ 2)
    × (flags_in (act Wait 1 ∷ act Wait 5 ∷ []) (scene 0x10 (inputs 1 0 0 0 2)) ≡ 0 ∷ 1 ∷ [])
    × (flags_in (act Wait 1 ∷ act (Set Evls) 0 ∷ act Wait 5 ∷ []) (scene 0x10 (inputs 1 0 0 0 2)) ≡ 0 ∷ 0 ∷ 0 ∷ [])
    -- V17. the chip of before beside today's: IRQ with a flag in 0Bh
    × (flag (irq_low (scene 0x80 (inputs 0 0 0 0 0)).device) ∷ flag (irq_before (scene 0x80 (inputs 0 0 0 0 0)).device) ∷ [] ≡ 1 ∷ 0 ∷ [])
    -- the ticks that a wait uses, and what they leave of a debounce
    × ((performed 1 Wait 5 (scene 0x10 (inputs 1 0 0 0 2))).count ∷ (performed_before 1 Wait 5 (scene 0x10 (inputs 1 0 0 0 2))).count ∷ [] ≡ 2 ∷ 5 ∷ [])
    × (debounce_after (performed 1 Wait 1 (scene 0x10 (inputs 1 0 0 0 2))) ∷ debounce_after (performed_before 1 Wait 1 (scene 0x10 (inputs 1 0 0 0 2))) ∷ [] ≡ 1 ∷ 2 ∷ [])
    -- a cut without the battery, and a write of 0Bh
    × (debounce_after (performed 1 Cut 0 (scene 0x10 (inputs 1 0 0 0 2))) ∷ debounce_after (performed_before 1 Cut 0 (scene 0x10 (inputs 1 0 0 0 2))) ∷ [] ≡ 0 ∷ 2 ∷ [])
    × (debounce_after (performed 1 Byte 0x10 (opened (scene 0x10 (inputs 1 0 0 0 2)))) ∷ debounce_after (performed_before 1 Byte 0x10 (opened (scene 0x10 (inputs 1 0 0 0 2)))) ∷ []
    ≡ 0 ∷ 2 ∷ [])
    -- a level above 1
    × ((performed 1 Wait 0 (scene 0x00 (inputs 2 0 0 0 0))).number ∷ (performed_before 1 Wait 0 (scene 0x00 (inputs 2 0 0 0 0))).number ∷ [] ≡ 6 ∷ 0 ∷ [])

pub signals_shown : SignalsShown
unfolding SignalsShown flags_in run_moves moves_of tick_moves steps performed refusal_of out_of_range clock_out frame_out cycle_out power_out bit_outside every events_out window_out debounce_out after_select after_byte write_clock after_write after_end carried cycle_after wel_after after_cut cut_count cut_world after_set drum_set door_set zeroes_watchdog waited_by tick cycle_tick cycle_device clockwork oscillator_tick watchdog_tick event_tick events_tick calendar_tick changed irq_low wdo_low flags_changed pulls_irq clockwork_before tick_before irq_before changed_before after_write_before write_before byte_before cut_before out_before refusal_before performed_before
signals_shown = (refl, refl, refl, refl, refl, refl, refl, refl, refl, refl, refl, refl, refl)
