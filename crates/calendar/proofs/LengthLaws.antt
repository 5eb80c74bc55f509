-- Laws of a month's length: one for each way that code finds it (a leap February, a table, past the last month), and what a year adds up to.
-- Assumes nothing.
use mathlib.Core.Path.{◌≡◌, refl, sym, ◌∙◌}
use mathlib.Core.Bool.{Bool, true, false, ◌&&◌, and-false}
use mathlib.Core.List.{List}
use Prim.Native.Nat.{ℕ, zero, suc, ◌+◌, ◌<◌}
use borrow.Author.Tests.{eqb-true, lt-leb}
use lib.Dec.{eqb}
use lib.ListN.{get_or, length}
use Rattle.base.specs.Words.{every, pick, bcd_value}
use Rattle.base.proofs.Tests.{both_left, both_right}
use Rattle.base.proofs.Every.{same_below}
use Rattle.calendar.specs.Field.{valid_field}
use Rattle.calendar.specs.Date.{valid_month, month_length}

-- K12. February has 29 days in a leap year
pub leap_february : (month : ℕ) (leap : Bool) → (leap && eqb month 0x02) ≡ true → 0x29 ≡ month_length month leap
unfolding month_length valid_field
leap_february month leap t =
    rw (both_left leap (eqb month 0x02) t, eqb-true month 0x02 (both_right leap (eqb month 0x02) t)) refl

-- K12. no other month asks which year it is
leap_elsewhere :
    (month : ℕ) (leap : Bool) → (leap && eqb month 0x02) ≡ false → month_length month leap ≡ month_length month false
unfolding month_length
leap_elsewhere month false t = refl
leap_elsewhere month true t = simp t

-- K12. a table that has the rule's length of a common year at each of its bytes has it of any year, a leap February apart
pub in_table :
    (table : List ℕ) (month : ℕ) (leap : Bool) →
    (leap && eqb month 0x02) ≡ false →
    month < length table →
    every (λ (m : ℕ). eqb (get_or table m 0) (month_length m false)) (length table) ≡ true →
    get_or table month 0 ≡ month_length month leap
in_table table month leap f h t =
    same_below (λ (m : ℕ). get_or table m 0) (λ (m : ℕ). month_length m false) (length table) t month h ∙ sym (leap_elsewhere month leap f)

-- K12. what is no month has 31 days, in every year
pub no_month : (month : ℕ) (leap : Bool) → valid_month month ≡ false → 0x31 ≡ month_length month leap
unfolding month_length
no_month month leap f = simp f

-- K12. and past the last month there is none
pub past_months : (month : ℕ) (leap : Bool) → 0x12 < month → 0x31 ≡ month_length month leap
unfolding valid_field
past_months month leap h = no_month month leap (simp (lt-leb month 0x12 h, and-false))

-- the days of the months whose bytes are below n
pub days_below : Bool → ℕ → ℕ
days_below leap zero = 0
days_below leap (suc m) = days_below leap m + pick (valid_month m) (bcd_value (month_length m leap)) 0

-- K12. the months of a year have 365 days, of a leap year 366
pub year_days : (days_below false 256 ≡ 365) × (days_below true 256 ≡ 366)
unfolding days_below month_length valid_field
year_days = (refl, refl)
