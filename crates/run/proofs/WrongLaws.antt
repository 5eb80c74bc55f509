-- None of the wrong chips has demand 3: each is refuted by a closed run. And runs of our chip that store, program and forget.
-- Assumes nothing.
use Prim.Native.Nat.{ℕ, ◌<◌}
use mathlib.Core.Path.{refl, sym, ◌∙◌, ◌≡◌}
use mathlib.Core.Bool.{false}
use mathlib.Core.List.{List}
use native.Mathlib.Omega.{arith}
use borrow.Author.Tests.{eqb-false}
use lib.Dec.{eqb}
use Rattle.base.specs.Wait.{waited_by}
use Rattle.base.specs.Words.{every, store_under, members}
use Rattle.record.specs.Fresh.{fresh}
use Rattle.refusals.specs.Range.{out_of_range, clock_out, frame_out, cycle_out, power_out, bit_outside}
use Rattle.refusals.specs.Refusal.{refusal_of}
use Rattle.events.specs.Control.{pulls_irq}
use Rattle.events.specs.Tick.{events_tick}
use Rattle.events.specs.Range.{window_out, debounce_out, events_out}
use Rattle.ticks.specs.Lines.{irq_low, wdo_low, flags_changed, changed}
use Rattle.ticks.specs.Oscillator.{oscillator_tick}
use Rattle.ticks.specs.Watchdog.{watchdog_tick}
use Rattle.ticks.specs.Event.{event_tick}
use Rattle.ticks.specs.Clock.{calendar_tick}
use Rattle.ticks.specs.Tick.{cycle_device, cycle_tick, clockwork, tick}
use Rattle.replies.specs.Reply.{next_reply}
use Rattle.frames.specs.Frame.{after_byte, after_select}
use Rattle.ends.specs.End.{after_end}
use Rattle.ends.specs.Write.{carried, cycle_after, wel_after}
use Rattle.power.specs.Power.{after_cut, cut_count, cut_world}
use Rattle.acts.specs.Act.{performed}
use Rattle.ledger.specs.State.{Memory, eeprom, id, no_byte, no_cycle, start}
use Rattle.ledger.specs.Frames as frames
use Rattle.ledger.specs.Bytes as bytes
use Rattle.ledger.specs.Steps as steps
use Rattle.run.specs.Claim.{Chip, Input, DemandThree, memory_size, our_chip, world_after, steps_of}
use Rattle.run.specs.Script.{sent}
use Rattle.run.specs.Wrong.{enableless_chip, deaf_chip, empty_chip, maskless_chip, lockless_chip, lapsing_chip, whole_case, enable_forgotten, cut_with_nothing, lock_forgotten, after_protected, Differs, Refutations, WrongChipsFail, RunsShown}

-- both statements compute
computed : Refutations × RunsShown
unfolding Refutations RunsShown world_after steps_of enableless_chip deaf_chip empty_chip maskless_chip lockless_chip lapsing_chip our_chip performed refusal_of out_of_range clock_out frame_out cycle_out power_out events_out window_out debounce_out bit_outside every fresh sent after_select after_byte next_reply after_end carried cycle_after wel_after waited_by tick cycle_tick cycle_device clockwork changed flags_changed irq_low pulls_irq wdo_low oscillator_tick watchdog_tick event_tick events_tick calendar_tick after_cut cut_count cut_world store_under members start no_byte no_cycle frames.first_byte frames.later_byte frames.carried frames.cycle_of frames.wel_after frames.lock_after bytes.is_loaded bytes.loaded_byte bytes.entries_under bytes.entries_after bytes.bp_after bytes.byte_of steps.refused steps.on_select steps.on_byte steps.on_end steps.ticked steps.waited steps.finished steps.on_wait steps.on_cut steps.follow steps.ledger_run
computed = (
  ((refl, refl), (refl, refl), (refl, refl), (refl, refl), (refl, refl), (refl, refl)),
  (
    (refl, refl, refl, refl, refl, refl, refl, refl, refl),
    (refl, refl, refl, refl, refl, refl, refl, refl, refl),
    (refl, refl, refl, refl, refl, refl, refl, refl, refl),
    (refl, refl, refl, refl, refl, refl, refl, refl, refl),
  ),
)

pub refutations : Refutations
refutations = computed.0

pub runs_shown : RunsShown
runs_shown = computed.1

-- a chip that holds another byte than the one it owes does not have demand 3
refuted :
    (chip : Chip) (xs : List Input) (m : Memory) (p a b : ℕ) → Differs chip 2 xs m p a b → p < memory_size m 2 → eqb a b ≡ false → DemandThree chip → ⊥
unfolding DemandThree
refuted chip xs m p a b d h e claim = eqb-false a b e (sym d.0 ∙ claim 2 refl xs m p h ∙ d.1)

pub wrong_chips_fail : WrongChipsFail
unfolding Refutations
wrong_chips_fail =
    record {
      enableless = refuted enableless_chip enable_forgotten eeprom 0 52 255 refutations.0 (omega arith) refl;
      deaf = refuted deaf_chip whole_case eeprom 0 255 52 refutations.1 (omega arith) refl;
      empty = refuted empty_chip whole_case eeprom 0 255 52 refutations.2 (omega arith) refl;
      maskless = refuted maskless_chip cut_with_nothing eeprom 0 52 255 refutations.3 (omega arith) refl;
      lockless = refuted lockless_chip lock_forgotten id 3 77 255 refutations.4 (omega arith) refl;
      lapsing = refuted lapsing_chip after_protected eeprom 0 255 52 refutations.5 (omega arith) refl;
    }
