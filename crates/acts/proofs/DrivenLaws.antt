-- When SO is driven, by the bytes of a frame: the first by its number, each later one by what the first told. Of the stages alone, with no chip.
-- Assumes nothing.
use Prim.Native.Nat.{ℕ, ◌<◌}
use mathlib.Core.Path.{◌≡◌, refl}
use mathlib.Core.Bool.{Bool, true, false, not, ◌&&◌, ◌||◌}
use mathlib.Core.Logic.{◌≢◌}
use lib.Dec.{eqb}
use Rattle.base.specs.Words.{every}
use Rattle.base.proofs.Every.{same_test_below}
use Rattle.record.specs.declared.Code.{Code}
use Rattle.record.specs.declared.Code.TheVariants.{Eeread, Eewrite, Eewrdi, Eewren, Srread, Srwrite, Read, Write, Unlock, Idwrite, Idread, Clrwdt, Clrram, Other}
use Rattle.record.specs.declared.Stage.{Stage}
use Rattle.record.specs.declared.Stage.TheVariants.{Idle, Opened, Unheard, Instruction, Reading, Writing, Second, Over}
use Rattle.record.specs.Codes.{code_of, is_code}
use Rattle.replies.proofs.ReplyLaws.{driving}
use Rattle.frames.specs.Frame.{first_stage, second_stage, stage_after}

-- The stages at which SO is driven once one byte more has come, a frame's select apart.
abbrev pub driving_on : Stage → Bool
driving_on Idle = false
driving_on Opened = false
driving_on Unheard = false
driving_on (Instruction c) = is_code c Srread || is_code c Read || is_code c Eeread || is_code c Idread
driving_on (Reading p) = true
driving_on (Writing p) = false
driving_on (Second q) = false
driving_on (Over l) = false

-- A byte past the first: SO is then, and stays, as `driving_on` told before it.
pub record GoesOn (s x : Stage) : Type 0 where
  pub now : driving x ≡ driving_on s
  pub later : driving_on x ≡ driving_on s

second_goes_on : (top v : ℕ) (c : Code) → GoesOn (Instruction c) (second_stage top v c)
second_goes_on top v Eeread = record { now = refl; later = refl }
second_goes_on top v Eewrite = record { now = refl; later = refl }
second_goes_on top v Eewrdi = record { now = refl; later = refl }
second_goes_on top v Eewren = record { now = refl; later = refl }
second_goes_on top v Srread = record { now = refl; later = refl }
second_goes_on top v Srwrite = record { now = refl; later = refl }
second_goes_on top v Read = record { now = refl; later = refl }
second_goes_on top v Write = record { now = refl; later = refl }
second_goes_on top v Unlock = record { now = refl; later = refl }
second_goes_on top v Idwrite = record { now = refl; later = refl }
second_goes_on top v Idread = record { now = refl; later = refl }
second_goes_on top v Clrwdt = record { now = refl; later = refl }
second_goes_on top v Clrram = record { now = refl; later = refl }
second_goes_on top v Other = record { now = refl; later = refl }

pub goes_on : (top : ℕ) (busy : Bool) (v : ℕ) (s : Stage) → s ≢ Opened → GoesOn s (stage_after top busy v s)
goes_on top busy v Idle n = record { now = refl; later = refl }
goes_on top busy v Opened n = absurd (n refl)
goes_on top busy v Unheard n = record { now = refl; later = refl }
goes_on top busy v (Instruction c) n = second_goes_on top v c
goes_on top busy v (Reading p) n = record { now = refl; later = refl }
goes_on top busy v (Writing p) n = record { now = refl; later = refl }
goes_on top busy v (Second q) n = record { now = refl; later = refl }
goes_on top busy v (Over l) n = record { now = refl; later = refl }

-- The first byte, by its number: 05h drives at the next one,
pub first_drives : (busy : Bool) (b : ℕ) → b < 256 → driving (first_stage busy (code_of b)) ≡ eqb b 0x05
unfolding every
first_drives true b h = same_test_below (λ (n : ℕ). driving (first_stage true (code_of n))) (λ (n : ℕ). eqb n 0x05) 256 refl b h
first_drives false b h = same_test_below (λ (n : ℕ). driving (first_stage false (code_of n))) (λ (n : ℕ). eqb n 0x05) 256 refl b h

-- 13h after an address, and so do 03h and 33h if they are heard.
abbrev pub reads_on : Bool → ℕ → Bool
reads_on busy b = eqb b 0x05 || (eqb b 0x13 || (not busy && (eqb b 0x03 || eqb b 0x33)))

pub first_goes_on : (busy : Bool) (b : ℕ) → b < 256 → driving_on (first_stage busy (code_of b)) ≡ reads_on busy b
unfolding every
first_goes_on true b h = same_test_below (λ (n : ℕ). driving_on (first_stage true (code_of n))) (reads_on true) 256 refl b h
first_goes_on false b h = same_test_below (λ (n : ℕ). driving_on (first_stage false (code_of n))) (reads_on false) 256 refl b h
