-- The state array of a chip: piece behind piece (`state_put`).
-- Assumes nothing.
use mathlib.Core.Path.{ap, ◌∙◌}
use native.Mathlib.Omega.{arith}
use Rattle.std.proofs.Common.{rules, ◌≡◌, ◌++◌, ℕ, List, [], ◌∷◌, length, take, slice_set}
use Rattle.std.proofs.lemmas.List.{take_more_set}
use Rattle.refusals.proofs.TypeLaws.{record_sized}
use Rattle.arrays.proofs.ArrayLaws.{state_put}
use Rattle.arrays.proofs.put_state.Goals as goal

pub returns : goal.returns
returns c =
    let a = c.args in
    let l : length c.put_at-7.new.into ≡ 142 = search rules in
    let begun : take 1 (slice_set a.into.now 0 a.part) ≡ a.part ∷ [] = take_more_set a.into.now 0 a.part (omega (arith, c.requires)) in
    state_put a.part a.d _ _ _ _ _ _ _ _ _ _ _ (record_sized _ _ c.well_formed.1.0) l (c.put_at.ensures ∙ ap (λ (x : List ℕ). x ++ a.d.regs) begun) c.put_at-2.ensures c.counts_bytes.ensures c.put_at-3.ensures c.frame_bytes.ensures c.put_at-4.ensures c.put_at-5.ensures c.cycle_bytes.ensures c.put_at-6.ensures c.event_bytes.ensures c.put_at-7.ensures
