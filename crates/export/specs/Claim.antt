-- What is claimed of a caller's arrays, for every array of bytes, act and argument. Read this first; it is proved in proofs/ClaimLaws.
-- Assumes nothing.
use Rattle.std.specs.Prelude.{ℕ, ◌<◌, ◌≡◌, ◌≢◌, ◌↔◌, true, List, [], ◌∷◌, length, None}
use Rattle.record.specs.declared.Act.{Act}
use Rattle.record.specs.Numbers.{act_number}
use Rattle.record.specs.Part.{is_part, size_of, id_size}
use Rattle.record.specs.World.{World, Bytes, fresh_world}
use Rattle.form.specs.Chip.{Sound}
use Rattle.acts.specs.Act.{performed}
use Rattle.run.specs.Claim.{Input, our_chip, steps_of, world_after}
use Rattle.run.specs.Begin.{ledger_of, AccountedFrom}
use Rattle.ledger.specs.Steps.{ledger_run}
use Rattle.arrays.specs.Arrays.{Arrays, arrays_of, state_refusal, answer_of, no_chip}
use Rattle.calls.specs.Calls.{called, world_in, newly, told, acts}

-- arrays of bytes, as every array of a caller is
pub record ByteArrays (a : Arrays) : Type 0 where
  pub state : Bytes a.state
  pub eeprom : Bytes a.eeprom
  pub id : Bytes a.id

-- these arrays are those of a chip in range
pub record Held (a : Arrays) : Type 0 where
  pub part : ℕ
  pub chip : World
  pub in_range : Sound part chip
  pub arrays : arrays_of part chip ≡ a

-- calls in a row: the arrays after them
unfoldable pub called_all : Arrays → List Input → Arrays
called_all a [] = a
called_all a (x ∷ xs) = called_all (acts a (act_number x.act) x.arg).after xs

-- and that all of them on the way are arrays of bytes
unfoldable pub BytesAll : Arrays → List Input → Type 0
BytesAll a [] = ByteArrays a
BytesAll a (x ∷ xs) = ByteArrays a × BytesAll (acts a (act_number x.act) x.arg).after xs

-- I7. For every part, chip in range, act and argument, and all arrays of bytes.
pub record CallsRight : Type 0 where
  -- a part and arrays of the right lengths become a fresh chip's
  pub made :
      (part : ℕ) (a : Arrays) → is_part part ≡ true → length a.state ≡ 142 → length a.eeprom ≡ size_of part → length a.id ≡ id_size
      → newly part a ≡ called 0 [] (arrays_of part (fresh_world part))
  -- an act on the arrays of a chip in range is the act on that chip, and leaves the arrays of the chip after it
  pub acted :
      (part : ℕ) (w : World) → Sound part w → (act : Act) (n : ℕ) → acts (arrays_of part w) (act_number act) n ≡ told part (performed part act n w)
  -- a number that names no act is refused by 3, with the levels of the chip
  pub unnamed :
      (part : ℕ) (w : World) → Sound part w → (m n : ℕ) → 7 < m
      → acts (arrays_of part w) m n ≡ called 3 (answer_of 3 None 0 w.device) (arrays_of part w)
  -- arrays are let through exactly if they are those of a chip in range
  pub exactly : (a : Arrays) → ByteArrays a → (state_refusal a ≡ 0) ↔ Held a
  -- others are refused, whatever the act
  pub refused : (a : Arrays) → state_refusal a ≢ 0 → (m n : ℕ) → acts a m n ≡ called (state_refusal a) (no_chip (state_refusal a)) a
  -- whatever is refused, and for whatever reason, leaves the arrays as they were
  pub kept : (a : Arrays) → Bytes a.state → (m n : ℕ) → (acts a m n).number ≢ 0 → (acts a m n).after ≡ a
  -- two chips in range with the same arrays are the same
  pub once : (part : ℕ) (w : World) (part' : ℕ) (w' : World) → Sound part w → Sound part' w' → arrays_of part w ≡ arrays_of part' w' → (part ≡ part') × (w ≡ w')
  -- calls in a row are the acts in a row
  pub in_row :
      (part : ℕ) (w : World) → Sound part w → (xs : List Input) → BytesAll (arrays_of part w) xs
      → called_all (arrays_of part w) xs ≡ arrays_of part (world_after our_chip part xs w)
  -- and the ledger, told the acts and the ticks that they used, gives every byte of both memories
  pub accounted :
      (part : ℕ) (w : World) → Sound part w → (xs : List Input) → BytesAll (arrays_of part w) xs
      → AccountedFrom part w (world_in (called_all (arrays_of part w) xs)) (ledger_run part (steps_of our_chip part xs w) (ledger_of w.device))
