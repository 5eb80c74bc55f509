-- The four calls on a caller's arrays. What an act does, and what a text is, is not said here.
-- Assumes nothing.
use Rattle.std.specs.Prelude.{ℕ, List, [], ◌∷◌, eqb, ltb, length, replicate, None}
use Rattle.base.specs.Words.{pick}
use Rattle.record.specs.Fresh.{fresh}
use Rattle.record.specs.Numbers.{act_count, act_of}
use Rattle.record.specs.World.{World, world}
use Rattle.form.specs.Chip.{device_of}
use Rattle.form.specs.Save.{Saving, saves, Loading, loads}
use Rattle.form.specs.State.{array_numbers, state_bytes}
use Rattle.acts.specs.Act.{Outcome, performed}
use Rattle.arrays.specs.Arrays.{Arrays, arrays_of, part_of, arrays_refusal, state_refusal, answer_of, no_chip}

-- a refusal number, what else is answered, and the arrays after it
pub record Called : Type 0 where
  pub number : ℕ
  pub answer : List ℕ
  pub after : Arrays

abbrev pub called : ℕ → List ℕ → Arrays → Called
called number answer after = record { number = number; answer = answer; after = after }

-- the chip of a caller's arrays
abbrev pub world_in : Arrays → World
world_in a = world (device_of (array_numbers a.state)) a.eeprom a.id

-- I2. a fresh chip in the arrays
abbrev pub fresh_in : ℕ → Arrays → Arrays
fresh_in part a = arrays_of part (world fresh (replicate (length a.eeprom) 255) (replicate (length a.id) 255))

abbrev pub new_refusal : ℕ → Arrays → ℕ
new_refusal part a = arrays_refusal part (length a.eeprom) (length a.id) (eqb (length a.state) state_bytes)

unfoldable pub newly : ℕ → Arrays → Called
newly part a = pick (eqb (new_refusal part a) 0) (called 0 [] (fresh_in part a)) (called (new_refusal part a) [] a)

-- I4, I5. what an act leaves and answers
abbrev pub told : ℕ → Outcome → Called
told part o = called o.number (answer_of o.number o.reply o.count o.after.device) (arrays_of part o.after)

-- I4. a number that names no act
abbrev pub no_act : Arrays → Called
no_act a = called 3 (answer_of 3 None 0 (world_in a).device) a

-- I3, I4. an act by its number
unfoldable pub acts : Arrays → ℕ → ℕ → Called
acts a act arg =
    pick (eqb (state_refusal a) 0)
    (pick (ltb act act_count) (told (part_of a.state) (performed (part_of a.state) (act_of act) arg (world_in a))) (no_act a))
    (called (state_refusal a) (no_chip (state_refusal a)) a)

-- I6. a save: its number, the text's length, and the text's room after it
pub record Wrote : Type 0 where
  pub number : ℕ
  pub length : List ℕ
  pub room : List ℕ

abbrev pub wrote : ℕ → List ℕ → List ℕ → Wrote
wrote number length room = record { number = number; length = length; room = room }

abbrev pub wrote_of : Saving → Wrote
wrote_of s = wrote s.number (s.length ∷ []) s.room

unfoldable pub saves_state : Arrays → List ℕ → Wrote
saves_state a room =
    pick (eqb (state_refusal a) 0) (wrote_of (saves (part_of a.state) (world_in a) room)) (wrote (state_refusal a) (0 ∷ []) room)

-- I6. A load: its number, the first bad line, and the arrays after it. What stood in the state array does not matter, but its length does.
abbrev pub loaded_of : Loading → Arrays → Called
loaded_of l a = pick (eqb l.number 0) (called 0 (l.line ∷ []) (arrays_of l.part l.world)) (called l.number (l.line ∷ []) a)

unfoldable pub loads_state : List ℕ → Arrays → Called
loads_state text a =
    pick (eqb (length a.state) state_bytes) (loaded_of (loads text 0 (world fresh a.eeprom a.id)) a) (called 6 (0 ∷ []) a)
