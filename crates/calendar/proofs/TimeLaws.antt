-- What is known of the eight stored bytes after an advance: control bits that stay, no bit outside the register masks, and how far
-- the carry went. Stated over `advanced`, so that no reader above the calendar opens it.
-- Assumes nothing.
use mathlib.Core.Path.{◌≡◌, refl, ap}
use mathlib.Core.Bool.{Bool, true, false}
use mathlib.Core.List.{List, [], ◌∷◌}
use Prim.Native.Nat.{ℕ, ◌-◌, ◌/◌, ◌%◌, ◌<◌, ◌^◌}
use native.Mathlib.Omega.{arith}
use lib.Bits.{bit_and, and_le_r}
use lib.Dec.{eqb}
use lib.ListN.{get_or}
use Rattle.base.specs.Words.{pick, every, bit}
use Rattle.base.proofs.Every.{bound_below}
use Rattle.base.proofs.BitLaws.{mask_below, below_mask}
use Rattle.calendar.specs.declared.Step.{Step}
use Rattle.calendar.specs.declared.Date.{Date}
use Rattle.calendar.specs.declared.Time.{Time}
use Rattle.calendar.specs.declared.Advanced.{Advanced}
use Rattle.calendar.specs.Field.{next_in, on_carry, beside, beside_step}
use Rattle.calendar.specs.Clock.{hundredths, seconds}
use Rattle.calendar.specs.Hours.{hours, twelve_hour, next_twelve, next_hours}
use Rattle.calendar.specs.Date.{years, month_step, next_date}
use Rattle.calendar.specs.Time.{date_of, with_date, on_day, hundredths_step, seconds_step, minutes_step, hours_step, clock_advanced, advanced}
use Rattle.calendar.proofs.FieldLaws.{next_byte, on_carry_below}

-- K9. What an advance leaves of each byte: what stands above its field. Hundredths and years fill their bytes, and stay bytes.
pub record Control (t u : Time) : Type 0 where
  pub hundredths : u.hundredths < 256
  pub seconds : u.seconds / 128 ≡ t.seconds / 128
  pub minutes : u.minutes / 128 ≡ t.minutes / 128
  pub hours : u.hours / 64 ≡ t.hours / 64
  pub day : u.day / 8 ≡ t.day / 8
  pub date : u.date / 64 ≡ t.date / 64
  pub month : u.month / 32 ≡ t.month / 32
  pub year : t.year < 256 → u.year < 256

-- a field that moved beside its control bits, or stayed
on_carry_beside :
    (w : ℕ) (carry : Bool) (b : ℕ) (s : Step ℕ)
    → beside w b s.value / w ≡ b / w
    → (on_carry carry b (beside_step w b s)).value / w ≡ b / w
on_carry_beside w true b s e = e
on_carry_beside w false b s e = refl

-- the clock's part of an advance
clock_control : (t : Time) → Control t (clock_advanced t)
unfolding next_hours
clock_control t =
    let b : ℕ = t.hours in
    let s : Step ℕ = pick (twelve_hour b) (next_twelve (b % 64)) (next_in hours (b % 64)) in
    record {
      hundredths = next_byte hundredths.first hundredths.last t.hundredths (omega arith) (omega arith);
      seconds = on_carry_beside 128 (hundredths_step t).carry t.seconds (next_in seconds (t.seconds % 128)) (omega arith);
      minutes = on_carry_beside 128 (seconds_step t).carry t.minutes (next_in seconds (t.minutes % 128)) (omega arith);
      hours = on_carry_beside 64 (minutes_step t).carry b s (omega arith);
      day = refl;
      date = refl;
      month = refl;
      year = λ h. h;
    }

next_year_byte : (d : Date) → d.year < 256 → (next_date d).value.year < 256
unfolding next_date
next_year_byte d h =
    on_carry_below 256 (month_step d).carry d.year (next_in years d.year) h
    (next_byte years.first years.last d.year (omega arith) (omega arith))

-- the date's part
day_control : (carry : Bool) (t u : Time) → Control t u → Control t (on_day carry u)
unfolding on_day with_date date_of
day_control true t u c =
    record {
      hundredths = c.hundredths;
      seconds = c.seconds;
      minutes = c.minutes;
      hours = c.hours;
      day = omega (arith, c.day);
      date = omega (arith, c.date);
      month = omega (arith, c.month);
      year = λ h. next_year_byte (date_of u) (c.year h);
    }
day_control false t u c = c

pub control_stays : (t : Time) → Control t (advanced t).time
unfolding advanced
control_stays t = day_control (hours_step t).carry t (clock_advanced t) (clock_control t)

-- K9, E23. The control bits that have names: ST, CALSGN, 12/24, VBAT, VBATEN.
same_bit : (m n : ℕ) → m ≡ n → eqb (m % 2) 1 ≡ eqb (n % 2) 1
same_bit m n e = ap (λ (k : ℕ). eqb (k % 2) 1) e

pub st_stays : (t : Time) → bit (advanced t).time.seconds 7 ≡ bit t.seconds 7
st_stays t = same_bit _ _ (control_stays t).seconds

pub calsgn_stays : (t : Time) → bit (advanced t).time.hours 7 ≡ bit t.hours 7
calsgn_stays t = same_bit ((advanced t).time.hours / 128) (t.hours / 128) (omega (arith, (control_stays t).hours))

pub format_stays : (t : Time) → bit (advanced t).time.hours 6 ≡ bit t.hours 6
format_stays t = same_bit _ _ (control_stays t).hours

pub vbat_stays : (t : Time) → bit (advanced t).time.day 4 ≡ bit t.day 4
vbat_stays t = same_bit ((advanced t).time.day / 16) (t.day / 16) (omega (arith, (control_stays t).day))

pub vbaten_stays : (t : Time) → bit (advanced t).time.day 3 ≡ bit t.day 3
vbaten_stays t = same_bit _ _ (control_stays t).day

-- A fact of each byte and of the register that holds it.
pub record TimeEach (P : ℕ → ℕ → Type 0) (t : Time) : Type 0 where
  pub hundredths : P 0x00 t.hundredths
  pub seconds : P 0x01 t.seconds
  pub minutes : P 0x02 t.minutes
  pub hours : P 0x03 t.hours
  pub day : P 0x04 t.day
  pub date : P 0x05 t.date
  pub month : P 0x06 t.month
  pub year : P 0x07 t.year

-- F13. How many low bits the mask of a time register has: FF FF 7F FF 1F 3F 1F FF.
abbrev kept_bits : ℕ → ℕ
kept_bits k = get_or (8 ∷ 8 ∷ 7 ∷ 8 ∷ 5 ∷ 6 ∷ 5 ∷ 8 ∷ []) k 0

-- a number with no bit above those of the mask; one that the mask leaves as it is
abbrev Fits : ℕ → ℕ → Type 0
Fits k v = v < 2 ^ kept_bits k

abbrev Masked : ℕ → ℕ → Type 0
Masked k v = bit_and v (2 ^ kept_bits k - 1) ≡ v

abbrev pub TimeFits : Time → Type 0
TimeFits t = TimeEach Fits t

abbrev pub TimeMasked : Time → Type 0
TimeMasked t = TimeEach Masked t

-- a law of one byte is a law of the eight
each_both :
    {P Q R : ℕ → ℕ → Type 0} (t : Time) → ((k : ℕ) → kept_bits k < 9 → (v : ℕ) → P k v → Q k v → R k v)
    → TimeEach P t → TimeEach Q t → TimeEach R t
each_both t law p q =
    record {
      hundredths = law 0x00 (omega arith) t.hundredths p.hundredths q.hundredths;
      seconds = law 0x01 (omega arith) t.seconds p.seconds q.seconds;
      minutes = law 0x02 (omega arith) t.minutes p.minutes q.minutes;
      hours = law 0x03 (omega arith) t.hours p.hours q.hours;
      day = law 0x04 (omega arith) t.day p.day q.day;
      date = law 0x05 (omega arith) t.date p.date q.date;
      month = law 0x06 (omega arith) t.month p.month q.month;
      year = law 0x07 (omega arith) t.year p.year q.year;
    }

-- what holds of the byte at each register holds of the eight
abbrev pub time_bytes : Time → List ℕ
time_bytes t = t.hundredths ∷ t.seconds ∷ t.minutes ∷ t.hours ∷ t.day ∷ t.date ∷ t.month ∷ t.year ∷ []

pub each_of : (P : ℕ → ℕ → Type 0) (t : Time) → ((k : ℕ) → k < 8 → P k (get_or (time_bytes t) k 0)) → TimeEach P t
each_of P t p =
    record {
      hundredths = p 0x00 (omega arith);
      seconds = p 0x01 (omega arith);
      minutes = p 0x02 (omega arith);
      hours = p 0x03 (omega arith);
      day = p 0x04 (omega arith);
      date = p 0x05 (omega arith);
      month = p 0x06 (omega arith);
      year = p 0x07 (omega arith);
    }

-- The bounds and the masks say the same of eight bytes.
power_most : (n : ℕ) → n < 9 → 2 ^ n < 257
unfolding every
power_most n h = bound_below (λ (j : ℕ). 2 ^ j) 257 9 refl n h

masked_fits : (t : Time) → TimeMasked t → TimeFits t
masked_fits t m =
    each_both t (λ k h v p q. mask_below (kept_bits k) h v (omega (arith, power_most (kept_bits k) h, and_le_r v (2 ^ kept_bits k - 1))) q) m m

fits_byte : (n : ℕ) → n < 9 → (v : ℕ) → v < 2 ^ n → v < 256
fits_byte n h v f = omega (arith, power_most n h)

fits_masked : (t : Time) → TimeFits t → TimeMasked t
fits_masked t f = each_both t (λ k h v p. below_mask (kept_bits k) h v (fits_byte (kept_bits k) h v p)) f f

-- F13, K9. An advance sets no bit outside the masks: what stands above a field is no more than it was.
advanced_fits : (t : Time) → TimeFits t → TimeFits (advanced t).time
advanced_fits t f =
    let c : Control t (advanced t).time = control_stays t in
    record {
      hundredths = c.hundredths;
      seconds = omega (arith, c.seconds);
      minutes = omega (arith, c.minutes);
      hours = omega (arith, c.hours);
      day = omega (arith, c.day);
      date = omega (arith, c.date);
      month = omega (arith, c.month);
      year = c.year f.year;
    }

pub advanced_masked : (t : Time) → TimeMasked t → TimeMasked (advanced t).time
advanced_masked t m = fits_masked (advanced t).time (advanced_fits t (masked_fits t m))

-- K10. How far the carry went: a field that did not advance keeps its byte, and the next one did not advance either.
pub record CarryEnds (t : Time) (a : Advanced) : Type 0 where
  pub seconds : a.seconds ≡ false → (a.time.seconds ≡ t.seconds) × (a.minutes ≡ false)
  pub minutes : a.minutes ≡ false → (a.time.minutes ≡ t.minutes) × (a.hours ≡ false)
  pub hours : a.hours ≡ false → (a.time.hours ≡ t.hours) × (a.days ≡ false)
  pub days :
      a.days ≡ false
      → (a.time.day ≡ t.day) × (a.time.date ≡ t.date) × (a.time.month ≡ t.month) × (a.time.year ≡ t.year)

pub carry_ends : (t : Time) → CarryEnds t (advanced t)
unfolding advanced on_day
carry_ends t =
    record {
      seconds = λ e. (simp e, simp e);
      minutes = λ e. (simp e, simp e);
      hours = λ e. (simp e, simp e);
      days = λ e. (simp e, simp e, simp e, simp e);
    }
