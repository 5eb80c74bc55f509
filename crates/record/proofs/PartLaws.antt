-- Laws of the parts and of pages: the four parts are all there are, the size of each, an EEPROM is whole pages and has at most 256 bytes,
-- and the page of an address lies inside its memory.
-- Assumes nothing.
use Prim.Native.Nat.{ℕ, zero, suc, ◌+◌, ◌%◌, ◌<◌, ◌≤◌}
use native.Mathlib.Omega.{arith}
use mathlib.Core.Path.{◌≡◌, refl}
use mathlib.Core.Bool.{true, false≢true}
use borrow.Author.Tests.{leb-true}
use lib.Dec.{leb, eqb}
use Rattle.base.proofs.Tests.{both_right, pick_case}
use Rattle.record.specs.Part.{is_part, size_of}
use Rattle.record.specs.Address.{page_of}

-- what holds of each of the four parts
pub part_cases : (P : ℕ → Type 0) → P 1 → P 2 → P 3 → P 4 → (part : ℕ) → is_part part ≡ true → P part
part_cases P a b c d zero e = absurd (false≢true e)
part_cases P a b c d (suc zero) e = a
part_cases P a b c d (suc (suc zero)) e = b
part_cases P a b c d (suc (suc (suc zero))) e = c
part_cases P a b c d (suc (suc (suc (suc zero)))) e = d
part_cases P a b c d (suc (suc (suc (suc (suc n))))) e =
    let m : ℕ = suc (suc (suc (suc (suc n)))) in
    absurd (omega (arith, leb-true m 4 (both_right (leb 1 m) (leb m 4) e)))

-- the parts' lengths in bytes: 1 Kbit, 2 Kbit, 1 Kbit, 2 Kbit
pub sizes : (size_of 1 ≡ 128) × (size_of 2 ≡ 256) × (size_of 3 ≡ 128) × (size_of 4 ≡ 256)
sizes = (refl, refl, refl, refl)

-- an EEPROM is whole pages
pub whole_pages : (part : ℕ) → size_of part % 8 ≡ 0
whole_pages part = pick_case (λ (top : ℕ). (top + 1) % 8 ≡ 0) (eqb (part % 2) 1) refl refl

pub size_most : (part : ℕ) → size_of part ≤ 256
size_most part = pick_case (λ (top : ℕ). top + 1 ≤ 256) (eqb (part % 2) 1) (omega arith) (omega arith)

-- the page of an address inside a memory of whole pages is inside it
pub page_fits : (a n : ℕ) → a < n → n % 8 ≡ 0 → page_of a + 8 ≤ n
page_fits a n h e = omega arith
