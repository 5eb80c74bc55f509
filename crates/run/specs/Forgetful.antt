-- A wrong chip that only a beginning at work shows: its runs from fresh are ours. And runs from beginnings that are written out: our chip stores what
-- was under way, the wrong one loses it.
-- Assumes nothing.
use Rattle.std.specs.Prelude.{ℕ, ◌≡◌, Bool, true, false, List, [], ◌∷◌, get_or, set, replicate}
use Rattle.base.specs.Words.{pick}
use Rattle.record.specs.declared.Act.TheVariants.{End, Wait}
use Rattle.record.specs.declared.Place.TheVariants.{EepromAt}
use Rattle.record.specs.declared.Stage.{Stage}
use Rattle.record.specs.declared.Stage.TheVariants.{Idle, Writing}
use Rattle.record.specs.declared.Target.{Target}
use Rattle.record.specs.declared.Target.TheVariants.{Eeprom, Id}
use Rattle.record.specs.Fresh.{fresh}
use Rattle.record.specs.Setters.{with_wel, with_stage, with_load, with_cycle, with_left}
use Rattle.record.specs.World.{World, world, moved}
use Rattle.ledger.specs.State.{Memory, eeprom, id}
use Rattle.ledger.specs.Bytes.{byte_of}
use Rattle.ledger.specs.Steps.{ledger_run}
use Rattle.run.specs.Claim.{Chip, Input, DemandThree, our_chip, world_after, steps_of, memory_of}
use Rattle.run.specs.Script.{does}
use Rattle.run.specs.Begin.{ledger_of, DemandThreeFrom}

-- the chip with its memories whose cycle is gone
abbrev pub stilled : World → World
stilled w = moved w (with_left w.device 0)

-- R17. A chip that forgets a cycle with which it begins: before an act, a cycle that runs with WEL clear counts as none. In a run from fresh WEL is set
-- while a cycle runs; a record in range may say otherwise.
unfoldable pub forgetful_chip : Chip
forgetful_chip part act arg w = our_chip part act arg (pick w.device.guard.wel w (stilled w))

-- A chip at work: byte 07h is loaded for offset 0, and every byte of both memories is 5Ah. Stage, WEL and cycle are as given, the rest is as fresh.
abbrev pub at_work : Stage → Bool → Target → ℕ → World
at_work stage wel target left =
    world
    (with_cycle (with_stage (with_wel (with_load fresh (record { offsets = 1; bytes = set (replicate 8 0) 0 0x07; next = 1 })) wel) stage) (record { target = target; left = left }))
    (replicate 256 0x5a)
    (replicate 16 0x5a)

-- five ticks before the end of a cycle: of the EEPROM, with WEL clear; of the ID bytes
abbrev pub mid_cycle : World
mid_cycle = at_work Idle false (Eeprom (record { 0 = 0 })) 5

abbrev pub mid_id_cycle : World
mid_id_cycle = at_work Idle true (Id (record { 0 = 8 })) 5

-- in a frame of EEWRITE whose data byte has come
abbrev pub mid_frame : World
mid_frame = at_work (Writing (EepromAt (record { 0 = 0 }))) true (Eeprom (record { 0 = 0 })) 0

abbrev pub five_ticks : List Input
five_ticks = does Wait 5 ∷ []

abbrev pub ends_frame : List Input
ends_frame = does End 0 ∷ does Wait 200 ∷ []

-- the byte that a chip of part 2 holds at a place after a run from s, and the byte that the ledger gives for it
abbrev pub HoldsOwes : Chip → World → List Input → Memory → ℕ → ℕ → ℕ → Type 0
HoldsOwes chip s xs m p holds owes =
    (get_or (memory_of m (world_after chip 2 xs s)) p 0 ≡ holds)
    × (byte_of (get_or (memory_of m s) p 0) m p (ledger_run 2 (steps_of chip 2 xs s) (ledger_of s.device)).entries ≡ owes)

-- R16. Our chip holds what it owes: where a cycle or a frame was under way its byte, elsewhere the byte that was there. R17. The forgetful one does
-- not.
unfoldable pub BegunRuns : Type 0
BegunRuns =
    HoldsOwes our_chip mid_cycle five_ticks eeprom 0 0x07 0x07
    × HoldsOwes our_chip mid_cycle five_ticks eeprom 1 0x5a 0x5a
    × HoldsOwes our_chip mid_id_cycle five_ticks id 8 0x07 0x07
    × HoldsOwes our_chip mid_id_cycle five_ticks eeprom 8 0x5a 0x5a
    × HoldsOwes our_chip mid_frame ends_frame eeprom 0 0x07 0x07
    × HoldsOwes forgetful_chip mid_cycle five_ticks eeprom 0 0x5a 0x07

-- R17. Demand 3 from any beginning gives demand 3 from fresh, of any chip, and says more: the forgetful chip has the second and not the first.
pub record SaysMore : Type 0 where
  pub gives : (chip : Chip) → DemandThreeFrom chip → DemandThree chip
  pub from_fresh : DemandThree forgetful_chip
  pub fails : ¬ DemandThreeFrom forgetful_chip
