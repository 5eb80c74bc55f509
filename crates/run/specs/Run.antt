-- A list of acts as slices: act codes, their arguments, and lent slices for the numbers answered and the ticks used. What the functions
-- `run` and `run_from` give, refused or not.
-- Assumes nothing.
use Rattle.std.specs.Prelude.{ℕ, zero, suc, min, ◌≡◌, List, [], ◌∷◌, ◌++◌, ltb, length, Result, Ok, Err}
use Rattle.base.specs.Words.{pick, over}
use Rattle.record.specs.declared.Device.{Device}
use Rattle.record.specs.Fresh.{fresh}
use Rattle.record.specs.Numbers.{act_of, act_count}
use Rattle.record.specs.World.{World, world, fresh_world}
use Rattle.refusals.specs.declared.Refusal.{Refusal}
use Rattle.refusals.specs.Refusal.{refusal_number, memory_refusal, setup_refusal}
use Rattle.acts.specs.Act.{performed}
use Rattle.ledger.specs.State.{Step, start}
use Rattle.ledger.specs.Steps.{ledger_run}
use Rattle.run.specs.declared.Ran.{Ran}
use Rattle.run.specs.Claim.{Input, Accounted, our_chip, world_after, told}
use Rattle.run.specs.Begin.{ledger_of, AccountedFrom}

-- a run is refused by the first two rows of the table, before there is a record
abbrev pub refuses_run : ℕ → ℕ → ℕ → ℕ
refuses_run = memory_refusal

-- the acts that are performed: the longest prefix for which there is an argument, room for both answers, and a code that names an act
unfoldable pub inputs_of : List ℕ → List ℕ → ℕ → List Input
inputs_of [] args room = []
inputs_of (c ∷ cs) [] room = []
inputs_of (c ∷ cs) (n ∷ ns) zero = []
inputs_of (c ∷ cs) (n ∷ ns) (suc room) = pick (ltb c act_count) (record { act = act_of c; arg = n } ∷ inputs_of cs ns room) []

-- the same of the slices that are lent
abbrev pub inputs_in : List ℕ → List ℕ → List ℕ → List ℕ → List Input
inputs_in codes args answers used = inputs_of codes args (min (length answers) (length used))

-- the numbers that the acts are answered, and the ticks that they use
unfoldable pub numbers_of : ℕ → List Input → World → List ℕ
numbers_of part [] w = []
numbers_of part (x ∷ xs) w =
    (performed part x.act x.arg w).number ∷ numbers_of part xs (our_chip part x.act x.arg w).after

unfoldable pub ticks_of : ℕ → List Input → World → List ℕ
ticks_of part [] w = []
ticks_of part (x ∷ xs) w =
    (our_chip part x.act x.arg w).used ∷ ticks_of part xs (our_chip part x.act x.arg w).after

-- L1. what the ledger is told, by the acts and the ticks that were answered
unfoldable pub steps_by : List Input → List ℕ → List Step
steps_by [] us = []
steps_by (x ∷ xs) [] = []
steps_by (x ∷ xs) (u ∷ us) = told x.act x.arg u ++ steps_by xs us

-- what a list of acts on a chip leaves: record and memories, how many acts, the numbers answered and the ticks used are what the
-- definitions give; past the acts that were performed nothing changes
pub record Performed (part : ℕ) (xs : List Input) (answers answers' used used' : List ℕ) (w w' : World) (n : ℕ) : Type 0 where
  pub after : w' ≡ world_after our_chip part xs w
  pub count : n ≡ length xs
  pub numbers : answers' ≡ over (numbers_of part xs w) answers
  pub ticks : used' ≡ over (ticks_of part xs w) used

-- what a run answers, in numbers: a refusal's or 0, how many acts were performed, and the record after them
pub record Answered : Type 0 where
  pub number : ℕ
  pub count : ℕ
  pub device : Device

-- the code's answer in numbers, where d is the record that a run begins with: a refused one performs no act and leaves d
abbrev pub answered : Device → Result Ran Refusal → Answered
answered d (Ok r) = record { number = 0; count = r.count; device = r.device }
answered d (Err e) = record { number = refusal_number e; count = 0; device = d }

-- what a run leaves: in the slices before and after, and its answer
pub record Run (part : ℕ) (codes args answers answers' used used' ee ee' id id' : List ℕ) (r : Answered) : Type 0 where
  -- refused: nothing changed
  pub refused :
      (refuses_run part (length ee) (length id) ≡ 0 → ⊥)
      → (r.number ≡ refuses_run part (length ee) (length id)) × (r.count ≡ 0) × (r.device ≡ fresh)
      × (answers' ≡ answers) × (used' ≡ used) × (ee' ≡ ee) × (id' ≡ id)
  -- done: the acts are performed, from a fresh chip
  pub done :
      refuses_run part (length ee) (length id) ≡ 0
      → (r.number ≡ 0)
      × Performed part (inputs_in codes args answers used) answers answers' used used'
      (fresh_world part) (world r.device ee' id') r.count
  -- R1. demand 3, of the memories at exit, by the acts and the ticks at exit alone
  pub demand_three :
      refuses_run part (length ee) (length id) ≡ 0
      → Accounted part (world r.device ee' id')
      (ledger_run part (steps_by (inputs_in codes args answers used) used') start)

-- R18. what a run leaves that begins with a record d and the bytes in the memories: in the slices before and after, and its answer
pub record RunFrom (part : ℕ) (d : Device) (codes args answers answers' used used' ee ee' id id' : List ℕ) (r : Answered) : Type 0 where
  -- refused, by the rows of the table that judge part, memories and record: nothing changed, and the record is answered as it was given
  pub refused :
      (setup_refusal part d (length ee) (length id) ≡ 0 → ⊥)
      → (r.number ≡ setup_refusal part d (length ee) (length id)) × (r.count ≡ 0) × (r.device ≡ d)
      × (answers' ≡ answers) × (used' ≡ used) × (ee' ≡ ee) × (id' ≡ id)
  -- done: the acts are performed, from there
  pub done :
      setup_refusal part d (length ee) (length id) ≡ 0
      → (r.number ≡ 0)
      × Performed part (inputs_in codes args answers used) answers answers' used used'
      (world d ee id) (world r.device ee' id') r.count
  -- R16. demand 3 from this beginning, of the memories at exit, by the record at entry and the acts and the ticks at exit alone
  pub demand_three :
      setup_refusal part d (length ee) (length id) ≡ 0
      → AccountedFrom part (world d ee id) (world r.device ee' id')
      (ledger_run part (steps_by (inputs_in codes args answers used) used') (ledger_of d))
