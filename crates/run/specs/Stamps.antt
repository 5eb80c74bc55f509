-- What the time-stamps promise: of one act, of a power failure with all that may come in it, and of every run from fresh. `Shows` says what a
-- time-stamp holds, in words apart from the copy.
-- Assumes nothing.
use Rattle.std.specs.Prelude.{ℕ, ◌%◌, ◌<◌, ◌≤◌, ◌≡◌, true, false, not, ◌&&◌, ◌⊎◌, ◌≢◌, List, [], ◌∷◌, get_or, Some}
use Rattle.base.specs.Words.{bit}
use Rattle.record.specs.declared.Act.{Act}
use Rattle.record.specs.declared.Act.TheVariants.{Byte, Cut, Up}
use Rattle.record.specs.declared.Device.{Device}
use Rattle.record.specs.declared.ClockAddress.{ClockAddress}
use Rattle.record.specs.declared.Place.TheVariants.{ClockAt}
use Rattle.record.specs.declared.Stage.TheVariants.{Reading}
use Rattle.record.specs.Part.{is_part}
use Rattle.record.specs.Registers.{vbaten, vbat}
use Rattle.record.specs.Stamps.{to_day, NoStamps, SameStamps, Shows}
use Rattle.record.specs.World.{World, Shaped}
use Rattle.acts.specs.Act.{Outcome, performed}
use Rattle.run.specs.Claim.{Input, our_chip, world_after, reached}

-- P17. The acts that may change register k of the time-stamps; each is one that is done.
pub data StampAct (act : Act) (arg : ℕ) (d : Device) (k : ℕ) : Type 0 where
  -- a cut on the battery, with no failure held: the power-down time-stamp
  fails : act ≡ Cut → vbaten d.regs ≡ true → vbat d.regs ≡ false → k < 0x1c → StampAct act arg d k
  -- a cut without it
  forgets : act ≡ Cut → vbaten d.regs ≡ false → StampAct act arg d k
  -- an up that finds the mark: the power-up time-stamp
  returns : act ≡ Up → d.mark ≡ true → 0x1c ≤ k → StampAct act arg d k
  -- a byte that writes VBAT 0
  clears : act ≡ Byte → d.frame.stage ≡ to_day → bit arg 4 ≡ false → StampAct act arg d k

-- no act of the list is an up that could be done
unfoldable pub NoUp : List Input → Type 0
NoUp [] = Unit {0}
NoUp (x ∷ xs) = (x.act ≡ Up → x.arg ≢ 0) × NoUp xs

-- A power failure: a cut, any acts but an up, with any arguments (waits pass, the others are refused), and the up.
abbrev pub power_off : ℕ → ℕ → List Input → World → World
power_off part mask xs w = world_after our_chip part xs (performed part Cut mask w).after

abbrev pub power_back : ℕ → ℕ → List Input → World → Outcome
power_back part mask xs w = performed part Up 0 (power_off part mask xs w)

-- what it leaves, by what the cut finds
pub record PowerFailure (part mask : ℕ) (xs : List Input) (w : World) : Type 0 where
  pub done : (power_back part mask xs w).number ≡ 0
  -- P13, P15. VBATEN set, VBAT clear: the time at the cut, the time at the up, and VBAT
  pub stamped :
      vbaten w.device.regs ≡ true → vbat w.device.regs ≡ false
      → Shows 0x18 (power_back part mask xs w).after.device.regs w.device.regs
      × Shows 0x1c (power_back part mask xs w).after.device.regs (power_off part mask xs w).device.regs
      × (vbat (power_back part mask xs w).after.device.regs ≡ true)
  -- P14. both set: nothing is copied, neither by the cut nor by its up
  pub held :
      vbaten w.device.regs ≡ true → vbat w.device.regs ≡ true
      → SameStamps w.device.regs (power_back part mask xs w).after.device.regs × (vbat (power_back part mask xs w).after.device.regs ≡ true)
  -- P14. VBATEN clear: as fresh
  pub lost :
      vbaten w.device.regs ≡ false
      → NoStamps (power_back part mask xs w).after.device.regs × (vbat (power_back part mask xs w).after.device.regs ≡ false)

-- R13. The promise.
pub record TimeStamps : Type 0 where
  -- every power failure that begins with a cut that is done
  pub failure :
      (part mask : ℕ) (xs : List Input) (w : World) → Shaped part w → (performed part Cut mask w).number ≡ 0 → NoUp xs → PowerFailure part mask xs w
  -- P13, P14. the mark after a cut: whether it took its time-stamp
  pub cut_mark :
      (part mask : ℕ) (w : World) → (performed part Cut mask w).number ≡ 0
      → (performed part Cut mask w).after.device.mark ≡ (vbaten w.device.regs && not (vbat w.device.regs))
  -- P15. an up goes by the mark alone, whatever led to the record, and leaves none
  pub marked :
      (part : ℕ) (w : World) → Shaped part w → (performed part Up 0 w).number ≡ 0 → w.device.mark ≡ true
      → Shows 0x1c (performed part Up 0 w).after.device.regs w.device.regs
  pub plain :
      (part : ℕ) (w : World) → (performed part Up 0 w).number ≡ 0 → w.device.mark ≡ false
      → (performed part Up 0 w).after.device.regs ≡ w.device.regs
  pub up_mark : (part : ℕ) (w : World) → (performed part Up 0 w).number ≡ 0 → (performed part Up 0 w).after.device.mark ≡ false
  -- P16. a byte that writes VBAT 0, and one that writes it 1
  pub cleared :
      (part arg : ℕ) (w : World) → Shaped part w → (performed part Byte arg w).number ≡ 0 → w.device.frame.stage ≡ to_day → bit arg 4 ≡ false
      → NoStamps (performed part Byte arg w).after.device.regs × (vbat (performed part Byte arg w).after.device.regs ≡ false)
  pub left :
      (part arg : ℕ) (w : World) → Shaped part w → (performed part Byte arg w).number ≡ 0 → w.device.frame.stage ≡ to_day → bit arg 4 ≡ true
      → SameStamps w.device.regs (performed part Byte arg w).after.device.regs
      × (vbat (performed part Byte arg w).after.device.regs ≡ vbat w.device.regs)
  -- in both the other bits of 04h are the byte's
  pub stored :
      (part arg : ℕ) (w : World) → Shaped part w → (performed part Byte arg w).number ≡ 0 → w.device.frame.stage ≡ to_day
      → get_or (performed part Byte arg w).after.device.regs 0x04 0 % 16 ≡ arg % 16
  -- C5. a byte of a READ that stands at one of the eight answers it as it is
  pub read :
      (part arg : ℕ) (w : World) (a : ClockAddress) → (performed part Byte arg w).number ≡ 0 → w.device.frame.stage ≡ Reading (ClockAt a)
      → 0x18 ≤ a.0 → a.0 < 0x20 → (performed part Byte arg w).reply ≡ Some (get_or w.device.regs a.0 0)
  -- P17. nothing else changes a time-stamp, VBAT or the mark: no tick, no other act, no refused one; VBAT goes with 18h
  pub only :
      (part : ℕ) (act : Act) (arg : ℕ) (w : World) (k : ℕ) → Shaped part w → 0x18 ≤ k
      → get_or (performed part act arg w).after.device.regs k 0 ≢ get_or w.device.regs k 0
      → ((performed part act arg w).number ≡ 0) × StampAct act arg w.device k
  pub only_vbat :
      (part : ℕ) (act : Act) (arg : ℕ) (w : World) → Shaped part w
      → vbat (performed part act arg w).after.device.regs ≢ vbat w.device.regs
      → ((performed part act arg w).number ≡ 0) × StampAct act arg w.device 0x18
  pub only_mark :
      (part : ℕ) (act : Act) (arg : ℕ) (w : World) → (performed part act arg w).after.device.mark ≢ w.device.mark
      → ((performed part act arg w).number ≡ 0) × ((act ≡ Cut) ⊎ (act ≡ Up))
  -- A37, P17. in every run from fresh the mark is never set while power is on, and time-stamps are held only while VBAT is set
  pub unmarked : (part : ℕ) → is_part part ≡ true → (xs : List Input) → (reached part xs).device.power ≡ true → (reached part xs).device.mark ≡ false
  pub empty : (part : ℕ) → is_part part ≡ true → (xs : List Input) → vbat (reached part xs).device.regs ≡ false → NoStamps (reached part xs).device.regs
