-- Number 6, tied: the tests that decide (Range), the facts of a record in range (InRange), the rows in words (Rows). Each list of tests goes by one
-- law (`none_holds`, `some_holds`). Each part's fresh record is in range.
-- Assumes nothing.
use Prim.Native.Nat.{ℕ, ◌<◌, ◌≤◌}
use native.Mathlib.Omega.{arith}
use mathlib.Core.Path.{◌≡◌, refl, sym, ap, subst}
use mathlib.Core.Logic.{inl, inr, ⊎_elim, ◌↔◌}
use mathlib.Core.Bool.{Bool, true, false, not, ◌&&◌, ◌||◌}
use mathlib.Core.List.{List, [], ◌∷◌}
use borrow.Author.Tests.{lt-ltb, lt-leb, ltb-true, ltb-false, leb-true, leb-false, eqb-true, eqb-false, not-true, not-false}
use lib.Dec.{ltb, leb}
use lib.ListN.{get_or}
use Rattle.base.specs.Words.{every}
use Rattle.base.proofs.Tests.{by_cases, both_left, both_right, both_true, either, neither_left, neither_right, true_false, none_holds, some_holds}
use Rattle.base.proofs.Every.{every_at, every_miss}
use Rattle.events.specs.declared.Events.{Events}
use Rattle.events.specs.Range.{events_out}
use Rattle.events.proofs.RangeLaws.{events_in, events_row, events_out_lem}
use Rattle.record.specs.declared.Device.{Device}
use Rattle.record.specs.declared.Counters.{Counters}
use Rattle.record.specs.declared.Cycle.{Cycle}
use Rattle.record.specs.declared.Load.{Load}
use Rattle.record.specs.declared.EepromAddress.{EepromAddress}
use Rattle.record.specs.declared.IdAddress.{IdAddress}
use Rattle.record.specs.declared.Code.{Code}
use Rattle.record.specs.declared.Code.TheVariants.{Srread, Read, Write, Clrwdt, Clrram}
use Rattle.record.specs.declared.Place.{Place}
use Rattle.record.specs.declared.Place.TheVariants.{EepromAt, ClockAt, IdAt}
use Rattle.record.specs.declared.Stage.{Stage}
use Rattle.record.specs.Part.{is_part, size_of, boots_of}
use Rattle.record.specs.Registers.{st, event_at, cycle_ticks, startup_ticks, divider_last, long_pulse, delay_ticks}
use Rattle.record.specs.Fresh.{fresh, fresh_regs}
use Rattle.record.specs.Codes.{is_code, heard_under_wip}
use Rattle.record.specs.Stages.{selected, heard, code_at, foreign_to_wip, frame_place, cycle_place, id_pointer, eeprom_pointer}
use Rattle.record.proofs.CodeLaws.{same_code}
use Rattle.record.proofs.StageLaws.{idle, not_idle}
use Rattle.refusals.specs.Range.{inside_mask, bit_outside, clock_tests, frame_tests, cycle_tests, power_tests, clock_out, frame_out, cycle_out, power_out, range_tests, out_of_range}
use Rattle.refusals.specs.InRange.{ClockRange, PlaceRange, FrameRange, CycleRange, PowerRange, InRange}
use Rattle.refusals.specs.Rows.{Pointer, frame, cycle, Five, srread_five, read_five, write_five, clrwdt_five, clrram_five, RangeRow, divider, startup, countdown, pulse, delay, watchdog, offset, id_pointer as id_row, eeprom_pointer as eeprom_row, outside, stopped, marked, unpowered, foreign, event}

-- the first of a conjunction that fails holds: the second fails
other_fails : {a b : Bool} → (a && b) ≡ false → a ≡ true → b ≡ false
other_fails e p = rw p at e

-- What a record in range has, subject by subject.
clock_range :
    (boots : Bool) (regs : List ℕ) (c : Counters) (e : Events) → clock_out boots regs c ≡ false → events_out (get_or regs event_at 0) e ≡ false
    → ClockRange boots regs c e
unfolding clock_out bit_outside
clock_range boots regs c v e o =
    let (dividerOk, (startupOk, (pulseOk, (delayOk, (watchdogOk, (stoppedOk, (insideOk, _))))))) = none_holds (clock_tests boots regs c) e in
    record {
      divider = omega (arith, ltb-false divider_last c.divider dividerOk);
      startup = ltb-false startup_ticks c.startup startupOk;
      pulse = ltb-false long_pulse c.pulse pulseOk;
      delay = ltb-false delay_ticks c.delay delayOk;
      watchdog = leb-false _ c.watchdog watchdogOk;
      stopped = λ w t. omega (arith, ltb-false 0 c.startup (other_fails stoppedOk (both_true (ap not w) (ap not t))));
      inside = λ k h. eqb-true _ _ (every_at (inside_mask regs) 32 (not-false _ insideOk) k h);
      events = events_in (get_or regs event_at 0) v o;
    }

place_range : (size : ℕ) (p : Place) → ltb 15 (id_pointer p) ≡ false → leb size (eeprom_pointer p) ≡ false → PlaceRange size p
place_range size p i e = record { id = omega (arith, ltb-false 15 (id_pointer p) i); eeprom = leb-false size (eeprom_pointer p) e }

frame_range : (size : ℕ) (s : Stage) (l : Load) → frame_out size s l ≡ false → FrameRange size s l
unfolding frame_out
frame_range size s l e =
    let (offsetOk, (id, (eeprom, _))) = none_holds (frame_tests size s l) e in
    record { offset = omega (arith, ltb-false 7 l.next offsetOk); place = place_range size (frame_place s) id eeprom }

cycle_range : (size : ℕ) (y : Cycle) → cycle_out size y ≡ false → CycleRange size y
unfolding cycle_out
cycle_range size y e =
    let (countdownOk, (id, (eeprom, _))) = none_holds (cycle_tests size y) e in
    record { countdown = ltb-false cycle_ticks y.left countdownOk; place = place_range size (cycle_place y.target) id eeprom }

power_range : (power mark : Bool) (s : Stage) (y : Cycle) → power_out power mark s y ≡ false → PowerRange power mark s y
unfolding power_out
power_range power mark s y e =
    let (markOk, (busyOk, (heardOk, _))) = none_holds (power_tests power mark s y) e in
    let off : power ≡ false → (selected s || ltb 0 y.left) ≡ false = λ o. other_fails busyOk (ap not o) in
    record {
      unmarked = λ o. other_fails markOk o;
      idle = λ o. neither_left (selected s) (ltb 0 y.left) (off o);
      still = λ o. omega (arith, ltb-false 0 y.left (neither_right (selected s) (ltb 0 y.left) (off o)));
      heard = λ h. other_fails heardOk (lt-ltb 0 y.left h);
    }

pub in_range_lem : (part : ℕ) (d : Device) → out_of_range part d ≡ false → InRange part d
unfolding out_of_range
in_range_lem part d e =
    let (clockOk, (frameOk, (cycleOk, (powerOk, (eventsOk, _))))) = none_holds (range_tests part d) e in
    record {
      clock = clock_range (boots_of part) d.regs d.counters d.events clockOk eventsOk;
      frame = frame_range (size_of part) d.frame.stage d.load frameOk;
      cycle = cycle_range (size_of part) d.cycle cycleOk;
      power = power_range d.power d.mark d.frame.stage d.cycle powerOk;
    }

-- The five, in words.
five_is : {c : Code} (d : Code) → Five d → is_code c d ≡ true → Five c
five_is {c} d f e = subst Five (sym (same_code c d e)) f

five : (c : Code) → heard_under_wip c ≡ true → Five c
five c e =
    some_holds (is_code c Srread ∷ is_code c Read ∷ is_code c Write ∷ is_code c Clrwdt ∷ is_code c Clrram ∷ []) e
    (five_is Srread srread_five, (five_is Read read_five, (five_is Write write_five, (five_is Clrwdt clrwdt_five, (five_is Clrram clrram_five, tt)))))

five_heard : {c : Code} → Five c → heard_under_wip c ≡ true
five_heard srread_five = refl
five_heard read_five = refl
five_heard write_five = refl
five_heard clrwdt_five = refl
five_heard clrram_five = refl

-- a heard frame of another code than the five, as the test has it
foreign_test : (s : Stage) → heard s ≡ true → ¬ Five (code_at s) → foreign_to_wip s ≡ true
foreign_test s h n = both_true h (by_cases (heard_under_wip (code_at s)) (λ e. absurd (n (five (code_at s) e))) (λ e. ap not e))

-- The pointers, in words: where the test reads a number other than 0 there is a pointer with that address.
id_place : (p : Place) → 15 < id_pointer p → (a : IdAddress) × (p ≡ IdAt a) × (15 < a.0)
id_place (EepromAt a) h = absurd (omega arith)
id_place (ClockAt a) h = absurd (omega arith)
id_place (IdAt a) h = (a, refl, h)

eeprom_place : (size : ℕ) → 0 < size → (p : Place) → size ≤ eeprom_pointer p → (a : EepromAddress) × (p ≡ EepromAt a) × (size ≤ a.0)
eeprom_place size z (EepromAt a) h = (a, refl, h)
eeprom_place size z (ClockAt a) h = absurd (omega arith)
eeprom_place size z (IdAt a) h = absurd (omega arith)

module _ (part : ℕ) (d : Device) where
  pointed : {p : Place} → InRange part d → Pointer d p → PlaceRange (size_of part) p
  pointed r frame = r.frame.place
  pointed r cycle = r.cycle.place

  id_row_lem : (p : Place) → Pointer d p → ltb 15 (id_pointer p) ≡ true → RangeRow part d
  id_row_lem p q t = let i = id_place p (ltb-true 15 (id_pointer p) t) in id_row q i.0 i.1 i.2

  eeprom_row_lem : (p : Place) → Pointer d p → leb (size_of part) (eeprom_pointer p) ≡ true → RangeRow part d
  eeprom_row_lem p q t =
      let i = eeprom_place (size_of part) (omega arith) p (leb-true (size_of part) (eeprom_pointer p) t) in
      eeprom_row q i.0 i.1 i.2

  -- no row holds of a record in range
  no_row : InRange part d → ¬ RangeRow part d
  no_row r (divider h) = omega (arith, r.clock.divider)
  no_row r (startup h) = omega (arith, r.clock.startup)
  no_row r (countdown h) = omega (arith, r.cycle.countdown)
  no_row r (pulse h) = omega (arith, r.clock.pulse)
  no_row r (delay h) = omega (arith, r.clock.delay)
  no_row r (watchdog h) = omega (arith, r.clock.watchdog)
  no_row r (offset h) = omega (arith, r.frame.offset)
  no_row r (id_row {p} q a e h) = let i : id_pointer p ≡ a.0 = ap id_pointer e in omega (arith, (pointed r q).id)
  no_row r (eeprom_row {p} q a e h) = let i : eeprom_pointer p ≡ a.0 = ap eeprom_pointer e in omega (arith, (pointed r q).eeprom)
  no_row r (outside k h n) = n (r.clock.inside k h)
  no_row r (stopped h w t) = omega (arith, r.clock.stopped (lt-leb 3 part (omega arith)) t)
  no_row r (marked o m) = true_false m (r.power.unmarked o)
  no_row r (unpowered o (inl s)) = s (idle d.frame.stage (r.power.idle o))
  no_row r (unpowered o (inr h)) = omega (arith, r.power.still o)
  no_row r (event v) = true_false ((events_row (get_or d.regs event_at 0) d.events).1 v) (events_out_lem (get_or d.regs event_at 0) d.events r.clock.events)
  no_row r (foreign h e n) = true_false (foreign_test d.frame.stage e n) (r.power.heard h)

  -- the row of a record out of range, subject by subject
  clock_row : clock_out (boots_of part) d.regs d.counters ≡ true → RangeRow part d
  unfolding clock_out bit_outside
  clock_row e =
      let c = d.counters in
      let w = not (boots_of part) in
      let t = not (st d.regs) in
      some_holds (clock_tests (boots_of part) d.regs c) e (
        λ h. divider (ltb-true divider_last c.divider h),
        (
          λ h. startup (omega (arith, ltb-true startup_ticks c.startup h)),
          (
            λ h. pulse (omega (arith, ltb-true long_pulse c.pulse h)),
            (
              λ h. delay (omega (arith, ltb-true delay_ticks c.delay h)),
              (
                λ h. watchdog (leb-true _ c.watchdog h),
                (
                  λ h.
                      let l = both_left (w && t) (ltb 0 c.startup) h in
                      stopped (ltb-true 0 c.startup (both_right (w && t) (ltb 0 c.startup) h))
                      (omega (arith, leb-false 3 part (not-true (boots_of part) (both_left w t l))))
                      (not-true (st d.regs) (both_right w t l)),
                  (
                    λ h. let m = every_miss (inside_mask d.regs) 32 (not-true (every (inside_mask d.regs) 32) h) in outside m.0 m.1 (eqb-false _ _ m.2),
                    tt,
                  ),
                ),
              ),
            ),
          ),
        ),
      )

  frame_row : frame_out (size_of part) d.frame.stage d.load ≡ true → RangeRow part d
  unfolding frame_out
  frame_row e =
      some_holds (frame_tests (size_of part) d.frame.stage d.load) e (
        λ h. offset (ltb-true 7 d.load.next h),
        (
          λ h. id_row_lem (frame_place d.frame.stage) frame h,
          (
            λ h. eeprom_row_lem (frame_place d.frame.stage) frame h,
            tt,
          ),
        ),
      )

  cycle_row : cycle_out (size_of part) d.cycle ≡ true → RangeRow part d
  unfolding cycle_out
  cycle_row e =
      some_holds (cycle_tests (size_of part) d.cycle) e (
        λ h. countdown (omega (arith, ltb-true cycle_ticks d.cycle.left h)),
        (
          λ h. id_row_lem (cycle_place d.cycle.target) cycle h,
          (
            λ h. eeprom_row_lem (cycle_place d.cycle.target) cycle h,
            tt,
          ),
        ),
      )

  power_row_lem : power_out d.power d.mark d.frame.stage d.cycle ≡ true → RangeRow part d
  unfolding power_out
  power_row_lem e =
      let s = d.frame.stage in
      let busy = ltb 0 d.cycle.left in
      some_holds (power_tests d.power d.mark s d.cycle) e (
        λ h. marked (both_left d.power d.mark h) (both_right d.power d.mark h),
        (
          λ h.
              unpowered (not-true d.power (both_left (not d.power) (selected s || busy) h))
              (⊎_elim (λ l. inl (not_idle s l)) (λ l. inr (ltb-true 0 d.cycle.left l)) (either (selected s) busy (both_right (not d.power) (selected s || busy) h))),
          (
            λ h.
                let f = both_right busy (foreign_to_wip s) h in
                let n = not-true (heard_under_wip (code_at s)) (both_right (heard s) (not (heard_under_wip (code_at s))) f) in
                foreign (ltb-true 0 d.cycle.left (both_left busy (foreign_to_wip s) h)) (both_left (heard s) (not (heard_under_wip (code_at s))) f)
                (λ v. true_false (five_heard v) n),
            tt,
          ),
        ),
      )

  event_row : events_out (get_or d.regs event_at 0) d.events ≡ true → RangeRow part d
  event_row e = event ((events_row (get_or d.regs event_at 0) d.events).0 e)

  some_row : out_of_range part d ≡ true → RangeRow part d
  unfolding out_of_range
  some_row e = some_holds (range_tests part d) e (clock_row, (frame_row, (cycle_row, (power_row_lem, (event_row, tt)))))

  pub out_of_range_lem : InRange part d → out_of_range part d ≡ false
  out_of_range_lem r = by_cases (out_of_range part d) (λ t. absurd (no_row r (some_row t))) (λ f. f)

  -- number 6 is given exactly when a row of its list holds
  pub range_row : (out_of_range part d ≡ true) ↔ RangeRow part d
  range_row = (some_row, λ r. by_cases (out_of_range part d) (λ t. t) (λ f. absurd (no_row (in_range_lem part d f) r)))

-- a fresh chip is in range, as each part
pub fresh_facts : (part : ℕ) → InRange part fresh
unfolding fresh every
fresh_facts part =
    record {
      clock =
          record {
            divider = omega arith;
            startup = omega arith;
            pulse = omega arith;
            delay = omega arith;
            watchdog = omega arith;
            stopped = λ w t. refl;
            inside = λ k h. eqb-true _ _ (every_at (inside_mask fresh_regs) 32 refl k h);
            events = record { door = omega arith; drum = omega arith; edges = omega arith; since = omega arith; none = λ z. refl; debounce = omega arith; low = λ z. refl; high_off_lem = λ o. refl; low_off_lem = λ o. refl };
          };
      frame = record { offset = omega arith; place = record { id = omega arith; eeprom = omega arith } };
      cycle = record { countdown = omega arith; place = record { id = omega arith; eeprom = omega arith } };
      power = record { unmarked = λ o. refl; idle = λ o. refl; still = λ o. refl; heard = λ h. refl };
    }

pub fresh_in_range : (part : ℕ) → is_part part ≡ true → out_of_range part fresh ≡ false
fresh_in_range part e = out_of_range_lem part fresh (fresh_facts part)
