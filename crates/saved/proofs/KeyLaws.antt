-- Laws of the keys as code has them, and of the head of a line in its small buffer.
-- Assumes nothing.
use mathlib.Core.Path.{◌≡◌, refl, ap, ◌∙◌}
use mathlib.Core.Bool.{Bool}
use mathlib.Core.List.{List, [], ◌∷◌, ◌++◌}
use Prim.Native.Nat.{ℕ, ◌+◌, ◌<◌, ◌≤◌}
use native.Mathlib.Nat.{zero-add}
use native.Mathlib.Omega.{arith}
use lib.ListN.{length, take, drop, length-append}
use lib.Seq.{sets, sets-eq, take-append_seam}
use Rattle.base.specs.Words.{pick, every}
use Rattle.base.proofs.Tests.{pick_case}
use Rattle.base.proofs.Every.{bound_below}
use Rattle.text.specs.Bytes.{bytes_of}
use Rattle.text.specs.Buffer.{Buffer, buffer, append}
use Rattle.text.specs.Decimal.{decimal_text}
use Rattle.text.proofs.DecimalLaws.{decimal_places}
use Rattle.form.specs.Lines.{equals}
use Rattle.form.specs.Table.{rows, part_row, register_row, sram_row, divider_row, startup_row, watchdog_row, delay_row, pulse_row, power_row, mark_row, wel_row, protection_row, lock_row, stage_row, offsets_row, load_row, next_row, target_row, left_row, eeprom_row, id_row, evls_row, evhs_row, edges_row, since_row, debounce_row}
use Rattle.numbers.specs.Tables.{row_at, row_count}

-- a key has at most eight letters, a line's number at most two digits
pub key_short : (i : ℕ) → i < row_count → length (bytes_of (row_at i).key) ≤ 8
unfolding every row_at rows part_row register_row sram_row divider_row startup_row watchdog_row delay_row pulse_row power_row mark_row wel_row protection_row lock_row stage_row offsets_row load_row next_row target_row left_row eeprom_row id_row evls_row evhs_row edges_row since_row debounce_row
key_short i h = under (bound_below (λ (k : ℕ). length (bytes_of (row_at k).key)) 9 26 refl i h)
  where
    under : {n : ℕ} → n < 9 → n ≤ 8
    under l = omega (arith, l)

pub index_short : (t : Bool) (i : ℕ) → i < 100 → length (pick t (decimal_text i) []) ≤ 2
index_short t i h = pick_case (λ (l : List ℕ). length l ≤ 2) t (decimal_places 1 i h) (omega arith)

-- room in the small buffer
pub room_index : (key into : List ℕ) → length key ≤ 8 → length into ≡ 12 → 0 + length (key ++ (0 ∷ 0 ∷ [])) ≤ length into
room_index key into h e = omega (arith, length-append key (0 ∷ 0 ∷ []))

pub room_equals :
    (key index into : List ℕ) → length key ≤ 8 → length index ≤ 2 → length into ≡ 12 → 0 + length ((key ++ index) ++ (equals ∷ [])) ≤ length into
room_equals key index into h g e = omega (arith, length-append (key ++ index) (equals ∷ []), length-append key index)

-- a buffer that a text was put into at its beginning
pub put_first : (l m text : List ℕ) (j : ℕ) → 0 + length text ≤ length l → buffer m j ≡ append (buffer l 0) text → take j m ≡ text
unfolding append
put_first l m text j h e =
    let b : m ≡ sets l 0 text = ap (λ (o : Buffer). o.bytes) e in
    let p : j ≡ length text = ap (λ (o : Buffer). o.at) e ∙ zero-add (length text) in
    (λ i. take (p i) (b i)) ∙ ap (take (length text)) (sets-eq text l 0 h) ∙ take-append_seam text (drop (0 + length text) l)
