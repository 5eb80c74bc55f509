-- One BCD field: its limits, which of its values are valid, and its step. One rule serves every plain field.
-- It is no register: the control bits that stand beside a field are put around it by `beside`.
-- Assumes nothing.
use Rattle.std.specs.Prelude.{ℕ, ◌+◌, ◌-◌, ◌%◌, Bool, true, false, ◌&&◌, ltb, leb}
use Rattle.base.specs.Words.{pick, is_bcd, bcd_value, bcd_byte}
use Rattle.calendar.specs.declared.Step.{Step}

-- K7. A value is valid if its two digits are decimal and it is neither before the first nor past the last.
unfoldable pub valid_field : ℕ → ℕ → ℕ → Bool
valid_field first last x = is_bcd x && (leb first x && leb x last)

-- K8 (bench). The step of a field: one further where the value is valid and not the last; else to the first, with a carry.
unfoldable pub next_field : ℕ → ℕ → ℕ → Step ℕ
next_field first last x =
    pick (valid_field first last x && ltb x last)
    (record { value = bcd_byte (bcd_value x + 1); carry = false })
    (record { value = first; carry = true })

-- K8. The limits of a field: its first and its last value, in BCD.
pub record Limits : Type 0 where
  pub first : ℕ
  pub last : ℕ

abbrev pub limits : ℕ → ℕ → Limits
limits first last = record { first = first; last = last }

-- K7, K8. The same two rules for a field with these limits.
abbrev pub valid_in : Limits → ℕ → Bool
valid_in l x = valid_field l.first l.last x

abbrev pub next_in : Limits → ℕ → Step ℕ
next_in l x = next_field l.first l.last x

-- K10. A field moves only where the one before it carried; else it stays, and carries nothing.
abbrev pub on_carry : Bool → ℕ → Step ℕ → Step ℕ
on_carry carry x next = pick carry next (record { value = x; carry = false })

-- K9. The byte b with v in its field, which is its bits below `width`, a power of two; the control bits above it are those of b.
abbrev pub beside : ℕ → ℕ → ℕ → ℕ
beside width b v = b - b % width + v % width

-- K9. The same of a field's step.
abbrev pub beside_step : ℕ → ℕ → Step ℕ → Step ℕ
beside_step width b s = record { value = beside width b s.value; carry = s.carry }
