-- Laws of the stages: a frame that is not selected is idle, a heard one is selected, one that is not heard has no code; and a law of a stage
-- by its code.
-- Assumes nothing.
use mathlib.Core.Path.{◌≡◌, refl, ap}
use mathlib.Core.Logic.{◌≢◌}
use mathlib.Core.Bool.{true, false, true≢false}
use Rattle.base.proofs.Tests.{true_false}
use Rattle.record.specs.declared.Stage.{Stage}
use Rattle.record.specs.declared.Stage.TheVariants.{Idle, Opened, Unheard, Instruction, Reading, Writing, Second, Over}
use Rattle.record.specs.declared.Code.{Code}
use Rattle.record.specs.declared.Code.TheVariants.{Eeread, Eewrdi, Eewren, Srwrite, Read, Unlock, Idread, Clrwdt, Clrram, Other}
use Rattle.record.specs.declared.Place.{Place}
use Rattle.record.specs.declared.Place.TheVariants.{EepromAt, ClockAt, IdAt}
use Rattle.record.specs.declared.Pair.{Pair}
use Rattle.record.specs.declared.Pair.TheVariants.{StatusData, UnlockData, ClearWatchdog, ClearRam}
use Rattle.record.specs.declared.Long.{Long}
use Rattle.record.specs.declared.Long.TheVariants.{StatusOver, UnlockOver, WatchdogOver, RamOver, EnableOver, DisableOver}
use Rattle.record.specs.Stages.{selected, heard, reading_code, second_code, over_code, code_at}

-- selected, in words: the stage is not idle
pub idle : (s : Stage) → selected s ≡ false → s ≡ Idle
idle Idle e = refl
idle Opened e = absurd (true≢false e)
idle Unheard e = absurd (true≢false e)
idle (Instruction c) e = absurd (true≢false e)
idle (Reading p) e = absurd (true≢false e)
idle (Writing p) e = absurd (true≢false e)
idle (Second q) e = absurd (true≢false e)
idle (Over l) e = absurd (true≢false e)

pub not_idle : (s : Stage) → selected s ≡ true → s ≢ Idle
not_idle s e i = true_false e (ap selected i)

pub heard_selected : (s : Stage) → heard s ≡ true → selected s ≡ true
heard_selected Idle h = h
heard_selected Opened h = refl
heard_selected Unheard h = refl
heard_selected (Instruction c) h = refl
heard_selected (Reading p) h = refl
heard_selected (Writing p) h = refl
heard_selected (Second q) h = refl
heard_selected (Over l) h = refl

-- a stage that is not heard belongs to no code
pub unheard_code : (s : Stage) → heard s ≡ false → code_at s ≡ Other
unheard_code Idle h = refl
unheard_code Opened h = refl
unheard_code Unheard h = refl
unheard_code (Instruction c) h = absurd (true≢false h)
unheard_code (Reading p) h = absurd (true≢false h)
unheard_code (Writing p) h = absurd (true≢false h)
unheard_code (Second q) h = absurd (true≢false h)
unheard_code (Over l) h = absurd (true≢false h)

-- What holds of each code that a stage may belong to holds of its code.
module _ (P : Code → Type 0) where
  pub reading_code_lem : P Eeread → P Read → P Idread → (p : Place) → P (reading_code p)
  reading_code_lem e c i (EepromAt a) = e
  reading_code_lem e c i (ClockAt a) = c
  reading_code_lem e c i (IdAt a) = i

  pub second_code_lem : P Srwrite → P Unlock → P Clrwdt → P Clrram → (q : Pair) → P (second_code q)
  second_code_lem s u w r (StatusData v) = s
  second_code_lem s u w r (UnlockData v) = u
  second_code_lem s u w r ClearWatchdog = w
  second_code_lem s u w r ClearRam = r

  pub over_code_lem : P Srwrite → P Unlock → P Clrwdt → P Clrram → P Eewren → P Eewrdi → (l : Long) → P (over_code l)
  over_code_lem s u w r e d StatusOver = s
  over_code_lem s u w r e d UnlockOver = u
  over_code_lem s u w r e d WatchdogOver = w
  over_code_lem s u w r e d RamOver = r
  over_code_lem s u w r e d EnableOver = e
  over_code_lem s u w r e d DisableOver = d
