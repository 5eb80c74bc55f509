-- What the end of a frame keeps: a record in range, the lengths of its lists, and bytes. And a law of a stage whose code writes through a cycle.
-- Not how WEL and the lock move.
-- Assumes nothing.
use Prim.Native.Nat.{ℕ, ◌<◌}
use native.Mathlib.Omega.{arith}
use mathlib.Core.Path.{◌≡◌, refl}
use mathlib.Core.Bool.{true, false≢true}
use mathlib.Core.List.{List}
use lib.ListN.{length, get_or, length-replicate}
use Rattle.base.proofs.Tests.{pick_case, true_false}
use Rattle.record.specs.declared.Device.{Device}
use Rattle.record.specs.declared.Code.{Code}
use Rattle.record.specs.declared.Code.TheVariants.{Clrwdt, Clrram}
use Rattle.record.specs.declared.EepromAddress.{EepromAddress}
use Rattle.record.specs.declared.IdAddress.{IdAddress}
use Rattle.record.specs.declared.Long.{Long}
use Rattle.record.specs.declared.Long.TheVariants.{StatusOver, UnlockOver, WatchdogOver, RamOver, EnableOver, DisableOver}
use Rattle.record.specs.declared.Pair.{Pair}
use Rattle.record.specs.declared.Pair.TheVariants.{StatusData, UnlockData, ClearWatchdog, ClearRam}
use Rattle.record.specs.declared.Place.{Place}
use Rattle.record.specs.declared.Place.TheVariants.{EepromAt, ClockAt, IdAt}
use Rattle.record.specs.declared.Stage.{Stage}
use Rattle.record.specs.declared.Stage.TheVariants.{Idle, Opened, Unheard, Instruction, Reading, Writing, Second, Over}
use Rattle.record.specs.declared.Target.{Target}
use Rattle.record.specs.Part.{top_of, size_of, boots_of}
use Rattle.record.specs.Registers.{watchdog_at, period_of}
use Rattle.record.specs.Stages.{writing_code, second_code, over_code, code_at, frame_place, cycle_place}
use Rattle.record.specs.World.{Bytes, Sized}
use Rattle.record.proofs.PeriodLaws.{period_least}
use Rattle.record.proofs.StageLaws.{reading_code_lem}
use Rattle.record.proofs.WorldLaws.{replicate_bytes}
use Rattle.refusals.specs.InRange.{PlaceRange, CycleRange, InRange}
use Rattle.refusals.proofs.KeepLaws.{watchdog_in}
use Rattle.ends.specs.Write.{is_write, carried, writing_target, second_target, target_at, cycle_after}
use Rattle.ends.specs.End.{clears, count_after, after_end}

-- What holds at each stage that a write may stand at holds at every stage of a code that writes through a cycle.
module _ (P : Stage → Type 0) (first : (c : Code) → is_write c ≡ true → P (Instruction c)) (eeprom : (a : EepromAddress) → P (Writing (EepromAt a)))
    (id : (a : IdAddress) → P (Writing (IdAt a))) (status : (v : ℕ) → P (Second (StatusData v))) (over : P (Over StatusOver)) where
  at_place : (p : Place) → is_write (writing_code p) ≡ true → P (Writing p)
  at_place (EepromAt a) w = eeprom a
  at_place (ClockAt a) w = absurd (false≢true w)
  at_place (IdAt a) w = id a

  at_second : (q : Pair) → is_write (second_code q) ≡ true → P (Second q)
  at_second (StatusData v) w = status v
  at_second (UnlockData v) w = absurd (false≢true w)
  at_second ClearWatchdog w = absurd (false≢true w)
  at_second ClearRam w = absurd (false≢true w)

  at_over : (l : Long) → is_write (over_code l) ≡ true → P (Over l)
  at_over StatusOver w = over
  at_over UnlockOver w = absurd (false≢true w)
  at_over WatchdogOver w = absurd (false≢true w)
  at_over RamOver w = absurd (false≢true w)
  at_over EnableOver w = absurd (false≢true w)
  at_over DisableOver w = absurd (false≢true w)

  pub write_stage : (s : Stage) → is_write (code_at s) ≡ true → P s
  write_stage Idle w = absurd (false≢true w)
  write_stage Opened w = absurd (false≢true w)
  write_stage Unheard w = absurd (false≢true w)
  write_stage (Instruction c) w = first c w
  write_stage (Reading p) w = absurd (reading_code_lem (λ (c : Code). is_write c ≡ true → ⊥) false≢true false≢true false≢true p w)
  write_stage (Writing p) w = at_place p w
  write_stage (Second q) w = at_second q w
  write_stage (Over l) w = at_over l w

-- What a carried write makes of the cycle's pointer: that of the frame, or none.
module _ (size : ℕ) (t : Target) (z : 0 < size) (h : PlaceRange size (cycle_place t)) where
  writing_aims : (p : Place) → PlaceRange size p → PlaceRange size (cycle_place (writing_target t p))
  writing_aims (EepromAt a) r = r
  writing_aims (ClockAt a) r = h
  writing_aims (IdAt a) r = r

  second_aims : (q : Pair) → PlaceRange size (cycle_place (second_target t q))
  second_aims (StatusData v) = record { id = omega arith; eeprom = z }
  second_aims (UnlockData v) = h
  second_aims ClearWatchdog = h
  second_aims ClearRam = h

  target_aims : (s : Stage) → PlaceRange size (frame_place s) → PlaceRange size (cycle_place (target_at t s))
  target_aims Idle r = h
  target_aims Opened r = h
  target_aims Unheard r = h
  target_aims (Instruction c) r = h
  target_aims (Reading p) r = h
  target_aims (Writing p) r = writing_aims p r
  target_aims (Second q) r = second_aims q
  target_aims (Over l) r = h

cycle_in : (part k : ℕ) (d : Device) → InRange part d → CycleRange (size_of part) (cycle_after (top_of part) k d)
unfolding cycle_after
cycle_in part k d r =
    pick_case (CycleRange (size_of part)) (carried (top_of part) k d)
    (record { countdown = omega arith; place = target_aims (size_of part) d.cycle.target (omega arith) r.cycle.place d.frame.stage r.frame.place })
    r.cycle

-- an end leaves a record in range, whatever the leftover
pub end_in_range : (part k : ℕ) (d : Device) → d.power ≡ true → InRange part d → InRange part (after_end (top_of part) k d)
unfolding after_end
end_in_range part k d on r =
    record {
      clock =
          watchdog_in (boots_of part) d r.clock (count_after k d)
          (pick_case (λ (n : ℕ). n < period_of (get_or d.regs watchdog_at 0)) (clears Clrwdt k d.frame.stage)
          (omega (arith, period_least (get_or d.regs watchdog_at 0))) r.clock.watchdog);
      frame = record { offset = r.frame.offset; place = record { id = omega arith; eeprom = omega arith } };
      cycle = cycle_in part k d r;
      power = record { unmarked = r.power.unmarked; idle = λ o. refl; still = λ o. absurd (true_false on o); heard = λ h. refl };
    }

pub end_sized : (top k : ℕ) (d : Device) → Sized d → Sized (after_end top k d)
unfolding after_end
end_sized top k d z =
    record {
      regs = z.regs;
      sram = pick_case (λ (m : List ℕ). length m ≡ 64) (clears Clrram k d.frame.stage) (length-replicate {A = ℕ} 64 0) z.sram;
      bytes = z.bytes;
      offsets = z.offsets;
      sram_bytes = pick_case Bytes (clears Clrram k d.frame.stage) (replicate_bytes 64 0 (omega arith)) z.sram_bytes;
      load_bytes = z.load_bytes;
    }
