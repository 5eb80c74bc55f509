-- What a frame answers: a byte, where the record is in range and all that it holds are bytes; at which stages SO is driven; a time-stamp as it is stored.
-- Assumes nothing.
use Prim.Native.Nat.{ℕ, ◌+◌, ◌*◌, ◌<◌, ◌≤◌}
use native.Mathlib.Omega.{arith}
use mathlib.Core.Path.{◌≡◌, refl, sym, ap, subst, ◌∙◌}
use mathlib.Core.Bool.{Bool, true, false, true≢false}
use mathlib.Core.List.{List}
use lib.ListN.{get_or}
use Rattle.base.specs.Words.{flag}
use Rattle.base.proofs.Tests.{pick_case, pick_when, flag_below}
use Rattle.record.specs.declared.ClockAddress.{ClockAddress}
use Rattle.record.specs.declared.Code.TheVariants.{Srread}
use Rattle.record.specs.declared.Device.{Device}
use Rattle.record.specs.declared.Place.{Place}
use Rattle.record.specs.declared.Place.TheVariants.{EepromAt, ClockAt, IdAt}
use Rattle.record.specs.declared.Protection.{Protection}
use Rattle.std.specs.Prelude.{Option, Some, None}
use Rattle.record.specs.declared.Stage.{Stage}
use Rattle.record.specs.declared.Stage.TheVariants.{Idle, Opened, Unheard, Instruction, Reading, Writing, Second, Over}
use Rattle.record.specs.Codes.{is_code}
use Rattle.record.specs.Numbers.{protection_number}
use Rattle.record.specs.Registers.{power_down_at}
use Rattle.record.specs.World.{World, Shaped}
use Rattle.record.proofs.NumberLaws.{protection_below}
use Rattle.refusals.specs.InRange.{InRange}
use Rattle.registers.proofs.ReadLaws.{read_byte}
use Rattle.registers.proofs.StampLaws.{read_stamp}
use Rattle.ticks.specs.Lines.{wip}
use Rattle.replies.specs.Reply.{status_byte, reading_reply, reply_at, next_reply}

-- the upper four bits of STATUS are 0
pub status_fits : (a b : Bool) (p : Protection) → flag a + flag b * 2 + protection_number p * 4 < 16
status_fits a b p = omega (arith, flag_below a, flag_below b, protection_below p)

-- a reply of a byte, or of none
abbrev pub ByteOrNone : Option ℕ → Type 0
ByteOrNone (Some b) = b < 256
ByteOrNone None = Unit {0}

-- a driven reply is not none
pub driven_off : (n : ℕ) → Some n ≡ None → ⊥
driven_off n e = let z : ◌≡◌ {A = ℕ} 0 1 = cc in omega arith

module _ (part : ℕ) (w : World) (r : InRange part w.device) (z : Shaped part w) where
  status_byte_lem : status_byte w.device < 256
  unfolding status_byte
  status_byte_lem =
      let d : Device = w.device in
      omega (arith, status_fits (wip d) d.guard.wel d.guard.protection)

  reading_byte : (p : Place) → ByteOrNone (reading_reply w.eeprom w.id w.device p)
  reading_byte (EepromAt a) = z.eeprom_bytes a.0
  reading_byte (ClockAt a) = read_byte w.device a r.clock.inside z.sized.sram_bytes
  reading_byte (IdAt a) = z.id_bytes a.0

  byte_at : (s : Stage) → ByteOrNone (reply_at w.eeprom w.id w.device s)
  byte_at Idle = tt
  byte_at Opened = tt
  byte_at Unheard = tt
  byte_at (Instruction c) = pick_case ByteOrNone (is_code c Srread) status_byte_lem tt
  byte_at (Reading p) = reading_byte p
  byte_at (Writing p) = tt
  byte_at (Second q) = tt
  byte_at (Over l) = tt

  -- what the next whole exchange answers, if anything, is a byte
  pub reply_or_none : ByteOrNone (next_reply w.eeprom w.id w.device)
  unfolding next_reply
  reply_or_none = byte_at w.device.frame.stage

  pub reply_byte : (b : ℕ) → next_reply w.eeprom w.id w.device ≡ Some b → b < 256
  reply_byte b e = subst ByteOrNone e reply_or_none

-- whether a reply is driven
abbrev pub is_driven : Option ℕ → Bool
is_driven (Some b) = true
is_driven None = false

pub off_undriven : (r : Option ℕ) → is_driven r ≡ false → r ≡ None
off_undriven (Some b) e = absurd (true≢false e)
off_undriven None e = refl

-- SO is driven at these stages,
abbrev pub driving : Stage → Bool
driving Idle = false
driving Opened = false
driving Unheard = false
driving (Instruction c) = is_code c Srread
driving (Reading p) = true
driving (Writing p) = false
driving (Second q) = false
driving (Over l) = false

reading_driven : (ee id : List ℕ) (d : Device) (p : Place) → is_driven (reading_reply ee id d p) ≡ true
reading_driven ee id d (EepromAt a) = refl
reading_driven ee id d (ClockAt a) = refl
reading_driven ee id d (IdAt a) = refl

reply_driven : (ee id : List ℕ) (d : Device) (s : Stage) → is_driven (reply_at ee id d s) ≡ driving s
reply_driven ee id d Idle = refl
reply_driven ee id d Opened = refl
reply_driven ee id d Unheard = refl
reply_driven ee id d (Instruction c) =
    pick_when (λ (r : Option ℕ). is_driven r ≡ is_code c Srread) (is_code c Srread) (λ t. sym t) (λ t. sym t)
reply_driven ee id d (Reading p) = reading_driven ee id d p
reply_driven ee id d (Writing p) = refl
reply_driven ee id d (Second q) = refl
reply_driven ee id d (Over l) = refl

pub next_driven : (ee id : List ℕ) (d : Device) → is_driven (next_reply ee id d) ≡ driving d.frame.stage
unfolding next_reply
next_driven ee id d = reply_driven ee id d d.frame.stage

-- A READ answers a time-stamp as it is stored.
pub stamp_reply :
    (ee id : List ℕ) (d : Device) (a : ClockAddress) → d.frame.stage ≡ Reading (ClockAt a) → power_down_at ≤ a.0 → a.0 < 32
    → next_reply ee id d ≡ Some (get_or d.regs a.0 0)
unfolding next_reply
stamp_reply ee id d a e l h = ap (reply_at ee id d) e ∙ ap Some (read_stamp d a l h)
