-- What the acts of a run are to the event inputs, as moves (the events' Story). A list of moves has its newest first.
-- Assumes nothing.
use Rattle.std.specs.Prelude.{ℕ, zero, suc, Bool, ◌&&◌, List, [], ◌∷◌, ◌++◌, eqb}
use Rattle.base.specs.Words.{pick}
use Rattle.base.specs.Wait.{steps}
use Rattle.events.specs.Story.{Move, Drum, Door, Tick, Write}
use Rattle.record.specs.declared.Act.{Act}
use Rattle.record.specs.declared.Act.TheVariants.{Select, Byte, End, Wait, Cut, Up, Set}
use Rattle.record.specs.declared.Device.{Device}
use Rattle.record.specs.declared.Pin.{Pin}
use Rattle.record.specs.declared.Pin.TheVariants.{Evls, Evhs}
use Rattle.record.specs.declared.Place.{Place}
use Rattle.record.specs.declared.Place.TheVariants.{EepromAt, ClockAt, IdAt}
use Rattle.record.specs.declared.Stage.{Stage}
use Rattle.record.specs.declared.Stage.TheVariants.{Idle, Opened, Unheard, Instruction, Reading, Writing, Second, Over}
use Rattle.record.specs.Part.{boots_of}
use Rattle.record.specs.Registers.{vbaten, oscon, event_at}
use Rattle.record.specs.World.{World}
use Rattle.ticks.specs.Tick.{alive, tick}
use Rattle.acts.specs.Act.{performed}
use Rattle.run.specs.Claim.{Input, our_chip, world_after}

-- the chip with its memories after a list of acts
abbrev pub run_of : ℕ → List Input → World → World
run_of part xs w = world_after our_chip part xs w

-- V10. A tick is counted if the chip is alive and OSCON is set before it.
abbrev pub counted : Device → Bool
counted d = alive d && oscon d.counters

-- V18. k ticks, each counted or not by the chip as it is before that tick
unfoldable pub tick_moves : Bool → ℕ → World → List Move
tick_moves boots zero w = []
tick_moves boots (suc k) w = Tick (counted (steps (tick boots) k w).device) ∷ tick_moves boots k w

-- V12, V18. A byte is a write of 0Bh where the frame is a WRITE whose pointer stands there.
abbrev pub place_moves : ℕ → Place → List Move
place_moves v (EepromAt a) = []
place_moves v (ClockAt a) = pick (eqb a.0 event_at) (Write v ∷ []) []
place_moves v (IdAt a) = []

abbrev pub byte_moves : ℕ → Stage → List Move
byte_moves v Idle = []
byte_moves v Opened = []
byte_moves v Unheard = []
byte_moves v (Instruction c) = []
byte_moves v (Reading p) = []
byte_moves v (Writing p) = place_moves v p
byte_moves v (Second q) = []
byte_moves v (Over l) = []

-- V13, V18. A cut with VBATEN clear is a write of 0.
abbrev pub cut_moves : Device → List Move
cut_moves d = pick (vbaten d.regs) [] (Write 0 ∷ [])

-- V1, V18. A pin that is set is one move, counted by OSCON.
abbrev pub pin_moves : Pin → ℕ → Device → List Move
pin_moves Evls level d = Door (oscon d.counters) level ∷ []
pin_moves Evhs level d = Drum (oscon d.counters) level ∷ []

-- V18. What an act is that is done; `count` is what it answers, of a wait the ticks used.
abbrev pub done_moves : ℕ → ℕ → ℕ → World → Act → List Move
done_moves part count arg w Select = []
done_moves part count arg w Byte = byte_moves arg w.device.frame.stage
done_moves part count arg w End = []
done_moves part count arg w Wait = tick_moves (boots_of part) count w
done_moves part count arg w Cut = cut_moves w.device
done_moves part count arg w Up = []
done_moves part count arg w (Set p) = pin_moves p arg w.device

-- V18. of any act: a refused one is no move
unfoldable pub moves_of : ℕ → Act → ℕ → World → List Move
moves_of part act arg w =
    pick (eqb (performed part act arg w).number 0) (done_moves part (performed part act arg w).count arg w act) []

-- V18. of a run
unfoldable pub run_moves : ℕ → List Input → World → List Move
run_moves part [] w = []
run_moves part (x ∷ xs) w = run_moves part xs (performed part x.act x.arg w).after ++ moves_of part x.act x.arg w
