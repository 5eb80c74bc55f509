-- The chip of a state array: of what was read (`made_in`, `made_again`).
-- Assumes nothing.
use Rattle.std.proofs.Common.{rules, ◌≡◌}
use Rattle.arrays.proofs.ChipLaws.{made_in, made_again}
use Rattle.arrays.proofs.ChipTryFromRefSliceU8.try_from.Goals as goal

pub returns : goal.returns
returns c =
    let p : c.in-Some.held.bytes.now ≡ c.args.state.now = search rules in
    (made_in _ _ p c.in-Some.held.is_state c.chip.ensures, made_again _ _ p c.in-Some.held.is_state c.chip.ensures (λ k. (c.type_inv.state k).fits))
