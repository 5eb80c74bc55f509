-- The whole case computes: every definition between the bytes and the chip is opened, and none of the calendar's, since no tick of it counts.
-- Assumes nothing.
use mathlib.Core.Path.{refl}
use Rattle.base.specs.Wait.{waited_by}
use Rattle.base.specs.Words.{every, store_under}
use Rattle.events.specs.Control.{pulls_irq}
use Rattle.events.specs.Tick.{events_tick}
use Rattle.events.specs.Range.{window_out, debounce_out, events_out}
use Rattle.record.specs.Fresh.{fresh}
use Rattle.refusals.specs.Range.{out_of_range, clock_out, frame_out, cycle_out, power_out, bit_outside}
use Rattle.refusals.specs.Refusal.{refusal_of}
use Rattle.registers.specs.Read.{read_clock}
use Rattle.registers.specs.Write.{after_write, write_clock}
use Rattle.ticks.specs.Lines.{irq_low, wdo_low, flags_changed, changed}
use Rattle.ticks.specs.Oscillator.{oscillator_tick}
use Rattle.ticks.specs.Watchdog.{watchdog_tick}
use Rattle.ticks.specs.Event.{event_tick}
use Rattle.ticks.specs.Clock.{calendar_tick}
use Rattle.ticks.specs.Tick.{cycle_device, cycle_tick, clockwork, tick}
use Rattle.replies.specs.Reply.{next_reply, leftover_reply}
use Rattle.frames.specs.Frame.{after_byte, after_select}
use Rattle.ends.specs.End.{after_end}
use Rattle.ends.specs.Write.{carried, cycle_after, wel_after}
use Rattle.acts.specs.Act.{performed}
use Rattle.text.specs.Bytes.{agreed, leading, found}
use Rattle.text.specs.Decimal.{value_from, text_within, decimal_text}
use Rattle.lines.specs.Line.{name_size, digits_text, in_form, form_reach, name_of, number_column}
use Rattle.lines.specs.Request.{request_of}
use Rattle.lines.specs.Print.{fields_text, answer_chars, answer_line}
use Rattle.answers.specs.Answer.{line_answer, answer_text}
use Rattle.tape.specs.Tape.{lines_from, answers_to, tape_answers}
use Rattle.feeding.specs.WholeCase.{WholeCase}

pub whole_case_lem : WholeCase
unfolding WholeCase tape_answers lines_from answers_to line_answer answer_text fields_text answer_chars answer_line request_of name_size digits_text in_form form_reach name_of number_column found agreed leading value_from text_within decimal_text performed refusal_of out_of_range clock_out frame_out cycle_out power_out events_out window_out debounce_out bit_outside every fresh after_select after_byte next_reply leftover_reply read_clock after_write write_clock after_end carried cycle_after wel_after waited_by tick cycle_tick cycle_device clockwork changed flags_changed irq_low pulls_irq wdo_low oscillator_tick watchdog_tick event_tick events_tick calendar_tick store_under
whole_case_lem = (refl, refl, refl, refl, refl)
