-- Elements put into a buffer one after another: bytes, or numbers.
-- Assumes nothing.
use Rattle.std.specs.Prelude.{ℕ, ◌+◌, ◌-◌, List, length}
use Rattle.std.proofs.lemmas.List.Edits.{sets}

-- a buffer, and the place where the next element goes
pub record BufferOf (A : Type 0) : Type 0 where
  pub bytes : List A
  pub at : ℕ

abbrev pub buffer : {A : Type 0} → List A → ℕ → BufferOf A
buffer bytes at = record { bytes = bytes; at = at }

-- one of bytes, or of numbers
abbrev pub Buffer : Type 0
Buffer = BufferOf ℕ

-- the buffer with a text put at its place, and the place after it
unfoldable pub append : {A : Type 0} → BufferOf A → List A → BufferOf A
append o text = buffer (sets o.bytes o.at text) (o.at + length text)

-- the bytes from the place on, none where it lies past the end
abbrev pub room_in : Buffer → ℕ
room_in o = length o.bytes - o.at
