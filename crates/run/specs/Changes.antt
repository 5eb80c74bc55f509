-- Two claims beside demand 3: which act may change a byte of a memory, of any chip in range; and which numbers no act of a run is answered.
-- Assumes nothing.
use Rattle.std.specs.Prelude.{ℕ, ◌+◌, ◌<◌, ◌≡◌, true, ◌⊎◌, ◌≢◌, List, get_or}
use Rattle.std.specs.Int.Bits.{bit_and}
use Rattle.base.specs.Words.{bit}
use Rattle.record.specs.declared.Act.{Act}
use Rattle.record.specs.declared.Act.TheVariants.{Wait, Cut}
use Rattle.record.specs.declared.Load.{Load}
use Rattle.record.specs.declared.Target.{Target}
use Rattle.record.specs.declared.Target.TheVariants.{Eeprom, Id, Status}
use Rattle.record.specs.Address.{page_of}
use Rattle.refusals.specs.InRange.{InRange}
use Rattle.record.specs.World.{World}
use Rattle.acts.specs.Act.{performed}
use Rattle.ledger.specs.State.{Memory, eeprom, id}
use Rattle.run.specs.Claim.{Input, memory_of, reached}

-- the place is one of the page's offsets that are loaded and under the mask
abbrev pub Covers : Load → ℕ → ℕ → ℕ → Type 0
Covers load mask page p = (k : ℕ) × (k < 8) × (p ≡ page + k) × (bit (bit_and load.offsets mask) k ≡ true)

-- the cycle writes the place of that memory, under the mask
abbrev pub Writes : Memory → Load → ℕ → ℕ → Target → Type 0
Writes eeprom load mask p (Eeprom a) = Covers load mask (page_of a.0) p
Writes eeprom load mask p (Id a) = ⊥
Writes eeprom load mask p (Status s) = ⊥
Writes id load mask p (Eeprom a) = ⊥
Writes id load mask p (Id a) = Covers load mask (page_of a.0) p
Writes id load mask p (Status s) = ⊥

-- a wait that used all the ticks that a cycle over the place had left
pub record EndedOver (m : Memory) (act : Act) (used : ℕ) (w : World) (p : ℕ) : Type 0 where
  pub waits : act ≡ Wait
  pub runs : 0 < w.device.cycle.left
  pub ends : used ≡ w.device.cycle.left
  pub writes : Writes m w.device.load 255 p w.device.cycle.target

-- a cut that stored the place
pub record CutOver (m : Memory) (act : Act) (mask : ℕ) (w : World) (p : ℕ) : Type 0 where
  pub cuts : act ≡ Cut
  pub runs : 0 < w.device.cycle.left
  pub writes : Writes m w.device.load mask p w.device.cycle.target

-- R5. A byte changes only at a wait that ended a cycle over it, or at a cut that stored it.
unfoldable pub ChangesOnly : Type 0
ChangesOnly =
    (part : ℕ) (act : Act) (arg : ℕ) (w : World) (m : Memory) (p : ℕ) → InRange part w.device
    → get_or (memory_of m (performed part act arg w).after) p 0 ≢ get_or (memory_of m w) p 0
    → EndedOver m act (performed part act arg w).count w p ⊎ CutOver m act arg w p

-- R4. No act of a run is answered 4, 6 or a bad line's number.
pub record NeverAnswered (part : ℕ) (xs : List Input) (act : Act) (arg : ℕ) : Type 0 where
  pub four : (performed part act arg (reached part xs)).number ≢ 4
  pub six : (performed part act arg (reached part xs)).number ≢ 6
  pub above : (performed part act arg (reached part xs)).number < 7
