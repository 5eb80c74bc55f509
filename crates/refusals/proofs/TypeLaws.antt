-- What the language gives of a record that code holds: its arrays have their lengths, and hold bytes. A theorem about definitions asks for that (`Sized`).
-- Assumes nothing.
use Prim.Native.Nat.{ℕ, zero, suc}
use native.Mathlib.Omega.{arith}
use mathlib.Core.Path.{◌≡◌}
use mathlib.Core.List.{List, [], ◌∷◌}
use lib.ListN.{length}
use mir.Syntax.{w8}
use mir.Val.{Val}
use denote.Array.{Array, each}
use denote.Laws.{Is}
use denote.Plain.{UInt}
use denote.Shadow.{shadow}
use denote.Struct.Declared.{row}
use Rattle.record.specs.declared.Device.{Device}
use Rattle.record.specs.World.{Bytes, Sized}
use Rattle.record.specs.contracts.Device.{the_type}

-- each element of an array of bytes is one
each_byte : (xs : List ℕ) (us : List Val) → shadow (each ℕ (UInt w8).own_val xs us) → Bytes xs
each_byte [] us s k = omega arith
each_byte (x ∷ xs) [] s k = absurd s
each_byte (x ∷ xs) (u ∷ us) s zero = omega (arith, s.0.1)
each_byte (x ∷ xs) (u ∷ us) s (suc k) = each_byte xs us s.1 k

array_made : (n : ℕ) (xs : List ℕ) (vs : List Val) → Is (Array (UInt w8) n) xs vs → (length xs ≡ n) × Bytes xs
array_made n xs vs g = (g.1.0.1, each_byte xs g.0 g.1.1)

pub record_sized : (d : Device) (vs : List Val) → Is (row the_type) d vs → Sized d
record_sized d vs g =
    let f = g.1.1 in
    let load = f.1.1.1.1.1.1.1.0.1.1 in
    let regs = array_made 32 d.regs _ f.0 in
    let sram = array_made 64 d.sram _ f.1.0 in
    let bytes = array_made 8 d.load.bytes _ load.1.0 in
    record {
      regs = regs.0;
      sram = sram.0;
      bytes = bytes.0;
      offsets = omega (arith, load.0.1);
      sram_bytes = sram.1;
      load_bytes = bytes.1;
    }
