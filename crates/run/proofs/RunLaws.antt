-- What follows for every run from fresh: no act of it is answered 4, 6 or 7, and its record stays in range. And two lists of acts run as
-- their join does, on any chip.
-- Assumes nothing.
use Prim.Native.Nat.{ℕ}
use mathlib.Core.Path.{◌≡◌, refl, sym, ap, ◌∙◌}
use mathlib.Core.Bool.{true, false, ◌||◌}
use mathlib.Core.Logic.{◌≢◌}
use mathlib.Core.List.{List, [], ◌∷◌, ◌++◌, append_assoc}
use lib.Dec.{eqb}
use Rattle.record.specs.declared.Act.{Act}
use Rattle.record.specs.Part.{is_part}
use Rattle.refusals.specs.InRange.{InRange}
use Rattle.record.specs.World.{World, fresh_world}
use Rattle.acts.specs.Act.{performed}
use Rattle.acts.proofs.ValidLaws.{Valid}
use Rattle.acts.proofs.OutcomeLaws.{answered_by_table, never_seven}
use Rattle.ledger.specs.State.{Step, start}
use Rattle.ledger.specs.Steps.{ledger_run}
use Rattle.run.specs.Claim.{Input, Chip, our_chip, world_after, steps_of, told, reached}
use Rattle.run.specs.Changes.{NeverAnswered}
use Rattle.run.proofs.Agree.{Agree}
use Rattle.run.proofs.FreshAgrees.{fresh_agrees}
use Rattle.run.proofs.Refused.{never}
use Rattle.run.proofs.DemandThree.{run_agrees}

-- two lists of acts
module _ (chip : Chip) (part : ℕ) where
  pub after_append : (xs ys : List Input) (w : World) → world_after chip part (xs ++ ys) w ≡ world_after chip part ys (world_after chip part xs w)
  unfolding world_after
  after_append [] ys w = refl
  after_append (x ∷ xs) ys w = after_append xs ys (chip part x.act x.arg w).after

  pub steps_append : (xs ys : List Input) (w : World) → steps_of chip part (xs ++ ys) w ≡ steps_of chip part xs w ++ steps_of chip part ys (world_after chip part xs w)
  unfolding world_after steps_of
  steps_append [] ys w = refl
  steps_append (x ∷ xs) ys w =
      let o = chip part x.act x.arg w in
      ap (λ (s : List Step). told x.act x.arg o.used ++ s) (steps_append xs ys o.after)
      ∙ sym (append_assoc (told x.act x.arg o.used) (steps_of chip part xs o.after) (steps_of chip part ys (world_after chip part xs o.after)))

reached_agrees :
    (part : ℕ) → is_part part ≡ true → (xs : List Input)
    → Agree (fresh_world part) part (reached part xs) (ledger_run part (steps_of our_chip part xs (fresh_world part)) start)
reached_agrees part p xs = run_agrees (fresh_world part) part p xs (fresh_world part) start (fresh_agrees part)

pub reached_valid : (part : ℕ) → is_part part ≡ true → (xs : List Input) → Valid part (reached part xs)
reached_valid part p xs = (reached_agrees part p xs).valid

pub reached_in_range : (part : ℕ) → is_part part ≡ true → (xs : List Input) → InRange part (reached part xs).device
reached_in_range part p xs = (reached_valid part p xs).range

not_answered :
    (part : ℕ) → is_part part ≡ true → (xs : List Input) (act : Act) (n k : ℕ) → (eqb k 0 || eqb k 1 || eqb k 2 || eqb k 3 || eqb k 5) ≡ false
    → (performed part act n (reached part xs)).number ≢ k
not_answered part p xs act n k out e =
    never (fresh_world part) part (reached part xs) _ act n k p (reached_agrees part p xs) out (sym (answered_by_table part act n (reached part xs)) ∙ e)

-- no act of a run is ever answered 4, 6 or a bad line's number
pub never_answered : (part : ℕ) → is_part part ≡ true → (xs : List Input) (act : Act) (n : ℕ) → NeverAnswered part xs act n
never_answered part p xs act n =
    record {
      four = not_answered part p xs act n 4 refl;
      six = not_answered part p xs act n 6 refl;
      above = never_seven part act n (reached part xs);
    }
