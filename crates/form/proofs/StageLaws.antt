-- Stages and targets as numbers: those of one in range are good by the table, and good numbers are those of one in range.
-- Assumes nothing.
use mathlib.Core.Path.{◌≡◌, refl, sym, ap, ◌∙◌}
use mathlib.Core.Bool.{true, false, ◌&&◌}
use Prim.Native.Nat.{ℕ, zero, suc, ◌<◌, ◌≤◌}
use native.Mathlib.Omega.{arith}
use borrow.Author.Tests.{ltb-true, eq-eqb, eqb-true}
use lib.Dec.{ltb, eqb}
use Rattle.base.specs.Words.{every}
use Rattle.base.proofs.Tests.{both_left, both_right, both_true}
use Rattle.base.proofs.Every.{same_below}
use Rattle.record.specs.declared.Code.{Code}
use Rattle.record.specs.declared.Code.TheVariants.{Eeread, Eewrite, Eewrdi, Eewren, Srread, Srwrite, Read, Write, Unlock, Idwrite, Idread, Clrwdt, Clrram, Other}
use Rattle.record.specs.declared.Place.{Place}
use Rattle.record.specs.declared.Place.TheVariants.{EepromAt, ClockAt, IdAt}
use Rattle.record.specs.declared.Pair.TheVariants.{StatusData, UnlockData, ClearWatchdog, ClearRam}
use Rattle.record.specs.declared.Long.TheVariants.{StatusOver, UnlockOver, WatchdogOver, RamOver, EnableOver, DisableOver}
use Rattle.record.specs.declared.Stage.{Stage}
use Rattle.record.specs.declared.Stage.TheVariants.{Idle, Opened, Unheard, Instruction, Reading, Writing, Second, Over}
use Rattle.record.specs.declared.Target.{Target}
use Rattle.record.specs.declared.Target.TheVariants.{Eeprom, Id, Status}
use Rattle.record.specs.Codes.{code_of, code_number}
use Rattle.record.specs.Numbers.{protection_number, protection_of, place_kind, place_value, place_of, pair_of, long_kind, long_of, stage_kind, stage_case, stage_value, stage_of, target_kind, target_value, target_of}
use Rattle.record.specs.Stages.{frame_place, cycle_place, selected}
use Rattle.record.proofs.CodeLaws.{code_back}
use Rattle.record.proofs.StageLaws.{idle}
use Rattle.record.proofs.NumberLaws.{protection_below}
use Rattle.refusals.specs.InRange.{PlaceRange}
use Rattle.form.specs.Table.{case_good, address_limit, value_limit, target_limit}

-- A stage that is there.
pub kind_below : (s : Stage) → stage_kind s < 8
kind_below Idle = omega arith
kind_below Opened = omega arith
kind_below Unheard = omega arith
kind_below (Instruction c) = omega arith
kind_below (Reading p) = omega arith
kind_below (Writing p) = omega arith
kind_below (Second q) = omega arith
kind_below (Over l) = omega arith

-- only a frame that is not open has kind 0
pub idle_kind : (s : Stage) → selected s ≡ false → stage_kind s ≡ 0
idle_kind s e = ap stage_kind (idle s e)

pub kind_idle : (s : Stage) → stage_kind s < 1 → selected s ≡ false
kind_idle Idle h = refl
kind_idle Opened h = absurd (omega arith)
kind_idle Unheard h = absurd (omega arith)
kind_idle (Instruction c) h = absurd (omega arith)
kind_idle (Reading p) h = absurd (omega arith)
kind_idle (Writing p) h = absurd (omega arith)
kind_idle (Second q) h = absurd (omega arith)
kind_idle (Over l) h = absurd (omega arith)

code_below : (c : Code) → ltb (code_number c) 256 ≡ true
code_below Eeread = refl
code_below Eewrite = refl
code_below Eewrdi = refl
code_below Eewren = refl
code_below Srread = refl
code_below Srwrite = refl
code_below Read = refl
code_below Write = refl
code_below Unlock = refl
code_below Idwrite = refl
code_below Idread = refl
code_below Clrwdt = refl
code_below Clrram = refl
code_below Other = refl

pub case_good_lem : (s : Stage) → case_good (stage_kind s) (stage_case s) ≡ true
case_good_lem Idle = refl
case_good_lem Opened = refl
case_good_lem Unheard = refl
case_good_lem (Instruction c) = both_true (code_below c) (eq-eqb (code_number (code_of (code_number c))) (code_number c) (ap code_number (code_back c)))
case_good_lem (Reading (EepromAt a)) = refl
case_good_lem (Reading (ClockAt a)) = refl
case_good_lem (Reading (IdAt a)) = refl
case_good_lem (Writing (EepromAt a)) = refl
case_good_lem (Writing (ClockAt a)) = refl
case_good_lem (Writing (IdAt a)) = refl
case_good_lem (Second (StatusData v)) = refl
case_good_lem (Second (UnlockData v)) = refl
case_good_lem (Second ClearWatchdog) = refl
case_good_lem (Second ClearRam) = refl
case_good_lem (Over StatusOver) = refl
case_good_lem (Over UnlockOver) = refl
case_good_lem (Over WatchdogOver) = refl
case_good_lem (Over RamOver) = refl
case_good_lem (Over EnableOver) = refl
case_good_lem (Over DisableOver) = refl

address_below : (size : ℕ) (p : Place) → PlaceRange size p → place_value p < 256 → place_value p < address_limit size (place_kind p)
address_below size (EepromAt a) r b = r.eeprom
address_below size (ClockAt a) r b = b
address_below size (IdAt a) r b = r.id

pub value_below :
    (size : ℕ) (s : Stage) → PlaceRange size (frame_place s) → stage_value s < 256 → stage_value s < value_limit size (stage_kind s) (stage_case s)
value_below size Idle r b = omega arith
value_below size Opened r b = omega arith
value_below size Unheard r b = omega arith
value_below size (Instruction c) r b = omega arith
value_below size (Reading p) r b = address_below size p r b
value_below size (Writing p) r b = address_below size p r b
value_below size (Second (StatusData v)) r b = b
value_below size (Second (UnlockData v)) r b = b
value_below size (Second ClearWatchdog) r b = omega arith
value_below size (Second ClearRam) r b = omega arith
value_below size (Over l) r b = omega arith

-- Numbers that are good.
pub record StageFrom (size k c v : ℕ) (s : Stage) : Type 0 where
  pub kind : stage_kind s ≡ k
  pub which : stage_case s ≡ c
  pub value : stage_value s ≡ v
  pub place : PlaceRange size (frame_place s)
  pub byte : stage_value s < 256

-- only 0 is below 1
none_below : {n : ℕ} → n < 1 → 0 ≡ n
none_below h = omega arith

module _ (size : ℕ) (some : 0 < size) (most : size ≤ 256) where
  no_place_lem : {a : ℕ} → PlaceRange size (ClockAt (record { 0 = a }))
  no_place_lem = record { id = omega arith; eeprom = some }

  -- a stage that carries nothing
  bare : (k c v : ℕ) (s : Stage) → stage_kind s ≡ k → stage_case s ≡ c → stage_value s ≡ 0 → PlaceRange size (frame_place s) → v < 1 → StageFrom size k c v s
  bare k c v s e f g p h =
      record { kind = e; which = f; value = g ∙ none_below h; place = p; byte = omega (arith, g) }

  record PlaceFrom (c v : ℕ) (p : Place) : Type 0 where
    kind : place_kind p ≡ c
    value : place_value p ≡ v
    range : PlaceRange size p
    byte : place_value p < 256

  place_from : (c v : ℕ) → c < 3 → v < address_limit size c → PlaceFrom c v (place_of c v)
  place_from zero v h l = record { kind = refl; value = refl; range = record { id = omega arith; eeprom = l }; byte = omega (arith, most, l) }
  place_from (suc zero) v h l = record { kind = refl; value = refl; range = no_place_lem; byte = l }
  place_from (suc (suc zero)) v h l = record { kind = refl; value = refl; range = record { id = l; eeprom = some }; byte = omega (arith, l) }
  place_from (suc (suc (suc c))) v h l = absurd (omega arith)

  second_from : (c v : ℕ) → c < 4 → v < value_limit size 6 c → StageFrom size 6 c v (Second (pair_of c v))
  second_from zero v h l = record { kind = refl; which = refl; value = refl; place = no_place_lem; byte = l }
  second_from (suc zero) v h l = record { kind = refl; which = refl; value = refl; place = no_place_lem; byte = l }
  second_from (suc (suc zero)) v h l = bare 6 2 v (Second ClearWatchdog) refl refl refl no_place_lem l
  second_from (suc (suc (suc zero))) v h l = bare 6 3 v (Second ClearRam) refl refl refl no_place_lem l
  second_from (suc (suc (suc (suc c)))) v h l = absurd (omega arith)

  over_from : (c v : ℕ) → c < 6 → v < 1 → StageFrom size 7 c v (Over (long_of c))
  unfolding every
  over_from c v h l = bare 7 c v (Over (long_of c)) refl (same_below (λ (k : ℕ). long_kind (long_of k)) (λ (k : ℕ). k) 6 refl c h) refl no_place_lem l

  first_case : (k c : ℕ) → case_good k c ≡ true → case_good k c ≡ ltb c 1 && true → 0 ≡ c
  first_case k c t e = none_below (ltb-true c 1 (both_left (ltb c 1) true (sym e ∙ t)))

  pub stage_from :
      (k c v : ℕ) → k < 8 → case_good k c ≡ true → v < value_limit size k c → StageFrom size k c v (stage_of k c v)
  stage_from zero c v h t l = bare 0 c v Idle refl (first_case 0 c t refl) refl no_place_lem l
  stage_from (suc zero) c v h t l = bare 1 c v Opened refl (first_case 1 c t refl) refl no_place_lem l
  stage_from (suc (suc zero)) c v h t l = bare 2 c v Unheard refl (first_case 2 c t refl) refl no_place_lem l
  stage_from (suc (suc (suc zero))) c v h t l =
      bare 3 c v (Instruction (code_of c)) refl
      (eqb-true (code_number (code_of c)) c (both_right (ltb c 256) (eqb (code_number (code_of c)) c) t)) refl no_place_lem l
  stage_from (suc (suc (suc (suc zero)))) c v h t l =
      let p = place_from c v (ltb-true c 3 (both_left (ltb c 3) true t)) l in
      record { kind = refl; which = p.kind; value = p.value; place = p.range; byte = p.byte }
  stage_from (suc (suc (suc (suc (suc zero))))) c v h t l =
      let p = place_from c v (ltb-true c 3 (both_left (ltb c 3) true t)) l in
      record { kind = refl; which = p.kind; value = p.value; place = p.range; byte = p.byte }
  stage_from (suc (suc (suc (suc (suc (suc zero)))))) c v h t l = second_from c v (ltb-true c 4 (both_left (ltb c 4) true t)) l
  stage_from (suc (suc (suc (suc (suc (suc (suc zero))))))) c v h t l = over_from c v (ltb-true c 6 (both_left (ltb c 6) true t)) l
  stage_from (suc (suc (suc (suc (suc (suc (suc (suc k)))))))) c v h t l = absurd (omega arith)

-- What a cycle writes.
pub target_kind_below : (t : Target) → target_kind t < 3
target_kind_below (Eeprom a) = omega arith
target_kind_below (Id a) = omega arith
target_kind_below (Status p) = omega arith

pub target_below : (size : ℕ) (t : Target) → PlaceRange size (cycle_place t) → target_value t < target_limit size (target_kind t)
target_below size (Eeprom a) r = r.eeprom
target_below size (Id a) r = r.id
target_below size (Status p) r = protection_below p

pub record TargetFrom (size k v : ℕ) (t : Target) : Type 0 where
  pub kind : target_kind t ≡ k
  pub value : target_value t ≡ v
  pub place : PlaceRange size (cycle_place t)

pub protection_of_lem : (n : ℕ) → n < 4 → protection_number (protection_of n) ≡ n
unfolding every
protection_of_lem n h = same_below (λ (k : ℕ). protection_number (protection_of k)) (λ (k : ℕ). k) 4 refl n h

pub target_from : (size k v : ℕ) → 0 < size → k < 3 → v < target_limit size k → TargetFrom size k v (target_of k v)
target_from size zero v s h l = record { kind = refl; value = refl; place = record { id = omega arith; eeprom = l } }
target_from size (suc zero) v s h l = record { kind = refl; value = refl; place = record { id = l; eeprom = s } }
target_from size (suc (suc zero)) v s h l = record { kind = refl; value = protection_of_lem v l; place = record { id = omega arith; eeprom = s } }
target_from size (suc (suc (suc k))) v s h l = absurd (omega arith)
