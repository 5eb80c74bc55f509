-- The acts (01's term) on a chip and its two memories: for every part, act and argument one answer, one record after it and one
-- content of each memory, refused or not.
-- Assumes nothing.
use Rattle.std.specs.Prelude.{ℕ, List, eqb, length, Option, None, Result, Ok, Err}
use Rattle.base.specs.Wait.{Waited}
use Rattle.base.specs.Words.{pick}
use Rattle.record.specs.declared.Act.{Act}
use Rattle.record.specs.declared.Act.TheVariants.{Select, Byte, End, Wait, Cut, Up, Set}
use Rattle.record.specs.declared.Device.{Device}
use Rattle.record.specs.Part.{top_of, boots_of}
use Rattle.record.specs.World.{World, world, moved}
use Rattle.refusals.specs.declared.Refusal.{Refusal}
use Rattle.refusals.specs.Refusal.{refusal_number, refusal_of}
use Rattle.ticks.specs.Tick.{waited}
use Rattle.replies.specs.Reply.{next_reply, leftover_reply}
use Rattle.frames.specs.Frame.{after_byte, after_select}
use Rattle.ends.specs.End.{after_end}
use Rattle.power.specs.Power.{cut_count, cut_world, after_up}
use Rattle.pins.specs.Set.{after_set}
use Rattle.acts.specs.declared.Answer.{Answer}

-- W1. the number of the table, the reply on SO, a wait's ticks or a cut's count, and what is left
pub record Outcome : Type 0 where
  pub number : ℕ
  pub reply : Option ℕ
  pub count : ℕ
  pub after : World

abbrev pub outcome : ℕ → Option ℕ → ℕ → World → Outcome
outcome number reply count after = record { number = number; reply = reply; count = count; after = after }

-- A34. a refused act has no reply, and leaves the world as it was
abbrev pub refused : ℕ → World → Outcome
refused number w = outcome number None 0 w

-- A6. a wait answers the ticks that it used
abbrev pub waited_outcome : Waited World → Outcome
waited_outcome r = outcome 0 None r.used r.after

-- A1, A3, A5, A6, A38, V1. What each act does that no row refuses: time passes in a wait alone; a byte has a reply, an end the first
-- bits of one, a wait and a cut a count.
abbrev pub accepted : ℕ → ℕ → World → Act → Outcome
accepted part arg w Select = outcome 0 None 0 (moved w (after_select w.device))
accepted part arg w Byte =
    outcome 0 (next_reply w.eeprom w.id w.device) 0 (moved w (after_byte (boots_of part) (top_of part) arg w.device))
accepted part arg w End =
    outcome 0 (leftover_reply arg w.eeprom w.id w.device) 0 (moved w (after_end (top_of part) arg w.device))
accepted part arg w Wait = waited_outcome (waited (boots_of part) arg w)
accepted part arg w Cut = outcome 0 None (cut_count arg w.device) (cut_world arg w)
accepted part arg w Up = outcome 0 None 0 (moved w (after_up w.device))
accepted part arg w (Set p) = outcome 0 None 0 (moved w (after_set p arg w.device))

-- the number of the table for an act on a world
abbrev pub refusal_in : ℕ → Act → ℕ → World → ℕ
refusal_in part act arg w = refusal_of part act arg w.device (length w.eeprom) (length w.id)

-- W1, W6. what an act does, whatever its part, argument, record and memories
unfoldable pub performed : ℕ → Act → ℕ → World → Outcome
performed part act arg w = pick (eqb (refusal_in part act arg w) 0) (accepted part arg w act) (refused (refusal_in part act arg w) w)

-- what the code answers of an act that is done, and the memories at its return, as one outcome
abbrev pub outcome_done : Answer → List ℕ → List ℕ → Outcome
outcome_done a ee id = outcome 0 a.reply a.count (world a.device ee id)

-- what the code answers of any act on the record d, and the memories at its return, as one outcome: a refusal has no record of its own, and leaves d
abbrev pub outcome_of : Device → Result Answer Refusal → List ℕ → List ℕ → Outcome
outcome_of d (Ok a) ee id = outcome_done a ee id
outcome_of d (Err r) ee id = outcome (refusal_number r) None 0 (world d ee id)

-- an answer with no reply
abbrev pub silent_answer : ℕ → Device → Answer
silent_answer count d = record { reply = None; count = count; device = d }
