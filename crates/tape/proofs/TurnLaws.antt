-- What the loop over a chunk keeps, and what a turn of it finds.
-- Assumes nothing.
use native.Mathlib.Omega.{arith}
use mathlib.Core.Path.{◌≡◌, ap}
use mathlib.Core.List.{List}
use Prim.Native.Nat.{ℕ, ◌-◌, ◌≤◌}
use lib.ListN.{length, take, drop, length-take, length-drop}
use lib.Seq.{take_all}
use Rattle.answers.specs.Answer.{eeprom_room}
use Rattle.record.specs.Part.{id_size}
use Rattle.tape.specs.Tape.{head_limit}

-- what is lent stays as long as it was; the head lies in its bounds, and what is left in the chunk
pub record Bounds (l₀ o₀ chunk l e i o : List ℕ) (begun : ℕ) (left : List ℕ) : Type 0 where
  pub line : l ≡ l₀
  pub eeprom : length e ≡ eeprom_room
  pub id : length i ≡ id_size
  pub into : length o ≡ length o₀
  pub head : begun ≤ head_limit
  pub rest : length left ≤ length chunk

pub short : (l : List ℕ) (n : ℕ) → n ≤ head_limit → length (take n l) ≤ head_limit
short l n h = simp length-take (omega arith)

-- what is left behind a place
pub behind : (s : List ℕ) (n : ℕ) → take (length s - n) (drop n s) ≡ drop n s
behind s n = take_all (length s - n) (drop n s) (omega (arith, length-drop n s))

pub behind_within : (s left : List ℕ) (n m : ℕ) → left ≡ drop n s → length s ≤ m → length left ≤ m
behind_within s left n m e h = omega (arith, ap length e, length-drop n s)
