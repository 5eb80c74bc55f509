-- Demand 3, proved of our chip: after every list of acts from fresh, on every part, each EEPROM and ID byte is the ledger's.
-- Assumes nothing.
use Prim.Native.Nat.{ℕ, ◌<◌}
use mathlib.Core.Path.{◌≡◌, refl, ap, ◌∙◌}
use mathlib.Core.Bool.{true}
use mathlib.Core.List.{List, [], ◌∷◌, ◌++◌}
use lib.ListN.{get_or, get_or-replicate}
use Rattle.record.specs.Part.{is_part, size_of, id_size}
use Rattle.record.specs.World.{World, fresh_world}
use Rattle.ledger.specs.State.{Memory, eeprom, id, Step, Ledger, start}
use Rattle.ledger.specs.Bytes.{byte_of}
use Rattle.ledger.specs.Steps.{follow, ledger_run}
use Rattle.run.specs.Claim.{Input, Stepped, our_chip, world_after, told, steps_of, memory_of, memory_size, DemandThree}
use Rattle.run.proofs.Agree.{Agree}
use Rattle.run.proofs.FreshAgrees.{fresh_agrees}
use Rattle.run.proofs.StepAgrees.{step_agrees}

-- steps one after the other
pub ledger_append : (part : ℕ) (ss ts : List Step) (l : Ledger) → ledger_run part (ss ++ ts) l ≡ ledger_run part ts (ledger_run part ss l)
unfolding ledger_run
ledger_append part [] ts l = refl
ledger_append part (s ∷ ss) ts l = ledger_append part ss ts (follow part s l)

-- every list of acts keeps the agreement, from any chip and ledger that agree
pub run_agrees :
    (s : World) (part : ℕ) → is_part part ≡ true → (xs : List Input) (w : World) (l : Ledger) → Agree s part w l
    → Agree s part (world_after our_chip part xs w) (ledger_run part (steps_of our_chip part xs w) l)
unfolding world_after steps_of ledger_run
run_agrees s part p [] w l a = a
run_agrees s part p (x ∷ xs) w l a =
    let o : Stepped = our_chip part x.act x.arg w in
    rw (ledger_append part (told x.act x.arg o.used) (steps_of our_chip part xs o.after) l)
    (run_agrees s part p xs _ _ (step_agrees s part w l x.act x.arg p a))

-- from fresh, a byte with no entry is FFh
pub fresh_byte : (m : Memory) (part p : ℕ) → p < memory_size m part → get_or (memory_of m (fresh_world part)) p 0 ≡ 255
fresh_byte eeprom part p h = get_or-replicate (size_of part) p 255 0 h
fresh_byte id part p h = get_or-replicate id_size p 255 0 h

pub demand_three_lem : DemandThree our_chip
unfolding DemandThree
demand_three_lem part known xs m p h =
    let l = ledger_run part (steps_of our_chip part xs (fresh_world part)) start in
    (run_agrees (fresh_world part) part known xs (fresh_world part) start (fresh_agrees part)).bytes m p h
    ∙ ap (λ (b : ℕ). byte_of b m p l.entries) (fresh_byte m part p h)
