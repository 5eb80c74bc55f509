-- The alarms' part of a tick. It is told which fields advanced at this tick, and reads the registers as the calendar just left them.
-- Assumes nothing.
use Rattle.std.specs.Prelude.{ℕ, ◌+◌, ◌-◌, ◌%◌, Bool, true, false, ◌&&◌, List, eqb, get_or, set}
use Rattle.std.specs.Int.Bits.{bit_or}
use Rattle.base.specs.Words.{pick}
use Rattle.calendar.specs.declared.Advanced.{Advanced}
use Rattle.record.specs.Registers.{active, alm_code, alm0, alm1, hundredths_at, seconds_at, minutes_at, hours_at, day_at, date_at, month_at, alarm0_at, alarm1_at, alarm0_month_at, alarm1_hundredths_at}
use Rattle.ticks.specs.declared.alarm.Matches.{Matches}
use Rattle.ticks.specs.declared.alarm.Alarm.{Alarm}
use Rattle.ticks.specs.declared.alarm.Alarm.TheVariants.{Zero, One}

-- the register of an alarm's flag, and its bit in 08h
abbrev pub flag_at : Alarm → ℕ
flag_at Zero = alarm0_at
flag_at One = alarm1_at

abbrev pub bit_of : Alarm → ℕ
bit_of Zero = alm0
bit_of One = alm1

-- the low bits below w of two registers agree
abbrev pub agree : ℕ → List ℕ → ℕ → ℕ → Bool
agree w regs a b = eqb (get_or regs a 0 % w) (get_or regs b 0 % w)

-- K20. Which of an alarm's fields agree with the time registers. They stand around its flag register a: seconds, minutes and hours before it,
-- the day in it, the date after it. Seconds and minutes are compared by bits 6:0, hours and date by 5:0, the day by 2:0.
unfoldable pub matches_at : List ℕ → ℕ → Matches
matches_at regs a =
    record {
      seconds = agree 128 regs seconds_at (a - 3);
      minutes = agree 128 regs minutes_at (a - 2);
      hours = agree 64 regs hours_at (a - 1);
      day = agree 8 regs day_at a;
      date = agree 64 regs date_at (a + 1);
    }

abbrev pub all_match : Matches → Bool
all_match m = ((m.seconds && m.minutes) && (m.hours && m.day)) && m.date

-- the month of alarm 0, by bits 4:0, and the hundredths of alarm 1, whole
abbrev pub month_match : List ℕ → Bool
month_match regs = agree 32 regs month_at alarm0_month_at

abbrev pub hundredths_match : List ℕ → Bool
hundredths_match regs = eqb (get_or regs hundredths_at 0) (get_or regs alarm1_hundredths_at 0)

-- K17. Alarm 0 has the month beside its fields, and no hundredths; K18. alarm 1 has hundredths, which advance at every such tick.
abbrev pub month_of : Alarm → List ℕ → Bool
month_of Zero regs = month_match regs
month_of One regs = true

abbrev pub hundredths_of : Alarm → List ℕ → Bool
hundredths_of Zero regs = false
hundredths_of One regs = hundredths_match regs

-- K16, K17, K18, K19. By its code an alarm compares one field, 7 all of them; it is looked at where the finest of them advances (bench).
-- What code 7 asks beside, and what code 5 compares, are the alarm's own. Other codes never match.
unfoldable pub alarm_match : Advanced → List ℕ → ℕ → Bool → Bool → Bool
alarm_match t regs a beside hundredths =
    let m : Matches = matches_at regs a in
    let code : ℕ = alm_code regs a in
    pick (eqb code 0) (t.seconds && m.seconds)
    (pick (eqb code 1) (t.minutes && m.minutes)
    (pick (eqb code 2) (t.hours && m.hours)
    (pick (eqb code 3) (t.days && m.day)
    (pick (eqb code 4) (t.days && m.date)
    (pick (eqb code 5) hundredths
    (pick (eqb code 7) (t.seconds && (all_match m && beside)) false))))))

-- both alarms
abbrev pub match0 : Advanced → List ℕ → Bool
match0 t regs = alarm_match t regs alarm0_at (month_match regs) false

abbrev pub match1 : Advanced → List ℕ → Bool
match1 t regs = alarm_match t regs alarm1_at true (hundredths_match regs)

-- K21. A match sets the flag, bit 3.
abbrev pub flag_raised : Bool → List ℕ → ℕ → List ℕ
flag_raised go regs a = pick go (set regs a (bit_or (get_or regs a 0) 0x08)) regs

-- K19. Both alarms, where they are active.
unfoldable pub alarmed : Advanced → List ℕ → List ℕ
alarmed t regs =
    flag_raised (active regs alm1 && match1 t regs) (flag_raised (active regs alm0 && match0 t regs) regs alarm0_at) alarm1_at
