-- `tape::chunk::feed_lines`: so far the bytes before a place are fed and their answers are in the buffer.
-- Assumes nothing.
use lib.ListN.{length, take}
use Rattle.text.specs.Buffer.{buffer}
use Rattle.answers.specs.Answer.{held_by, setup_in}
use Rattle.answers.proofs.HeldLaws.{Onward}
use Rattle.tape.specs.Tape.{state}
use Rattle.tape.proofs.TapeLaws.{Sofar}
use Rattle.tape.proofs.TurnLaws.{Bounds}
use Rattle.tape.proofs.chunk.feed_lines.Given as goal

abbrev pub invariant-loop-n : goal.invariant-loop-n
invariant-loop-n l =
    Bounds l.initial.line l.initial.into l.chunk l.line l.eeprom l.id l.into l.begun l.rest
    × Onward (held_by l.initial.p l.initial.eeprom l.initial.id) (held_by l.p l.eeprom l.id)
    × Sofar (state (setup_in (held_by l.initial.p l.initial.eeprom l.initial.id)) (take l.initial.begun l.initial.line)) l.chunk (buffer l.initial.into l.initial.p.at) l.rest
    (state (setup_in (held_by l.p l.eeprom l.id)) (take l.begun l.line)) (buffer l.into l.p.at)

abbrev pub decreases-loop-n : goal.decreases-loop-n
decreases-loop-n l = length l.rest
