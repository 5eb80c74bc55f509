-- The parts' sizes and a byte taken as an address: the chip's top address and the ledger's size say the same.
-- Assumes nothing.
use Prim.Native.Nat.{ℕ, ◌*◌, ◌/◌, ◌%◌}
use native.Mathlib.Omega.{arith}
use mathlib.Core.Path.{◌≡◌, refl, sym, ap}
use mathlib.Core.Bool.{true}
use lib.Bits.{bit_and, and_mask}
use Rattle.record.specs.Part.{is_part, top_of, size_of}
use Rattle.record.specs.Address.{page_of, offset_of}
use Rattle.record.proofs.PartLaws.{part_cases}
use Rattle.ledger.specs.Frames.{eeprom_size}

pub size_agrees : (part : ℕ) → is_part part ≡ true → eeprom_size part ≡ size_of part
size_agrees = part_cases (λ (part : ℕ). eeprom_size part ≡ size_of part) refl refl refl refl

-- an address byte of EEPROM
pub taken_agrees : (part : ℕ) → is_part part ≡ true → (v : ℕ) → v % eeprom_size part ≡ bit_and v (top_of part)
taken_agrees part e v =
    part_cases (λ (n : ℕ). v % eeprom_size n ≡ bit_and v (top_of n)) (sym (and_mask v 7)) (sym (and_mask v 8)) (sym (and_mask v 7)) (sym (and_mask v 8))
    part e

pub page_agrees : (part : ℕ) → is_part part ≡ true → (v : ℕ) → v % eeprom_size part / 8 * 8 ≡ page_of (bit_and v (top_of part))
page_agrees part e v = ap (λ (n : ℕ). n / 8 * 8) (taken_agrees part e v)

pub offset_agrees : (part : ℕ) → is_part part ≡ true → (v : ℕ) → v % eeprom_size part % 8 ≡ offset_of v
offset_agrees part e v =
    part_cases (λ (n : ℕ). v % eeprom_size n % 8 ≡ offset_of v) (omega arith) (omega arith) (omega arith) (omega arith) part e
