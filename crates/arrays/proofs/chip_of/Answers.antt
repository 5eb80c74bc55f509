-- `arrays::chip_of`: the array of what was read is the same again (`made_again`).
-- Assumes nothing.
use Rattle.std.proofs.Common.{rules, ◌≡◌}
use Rattle.arrays.proofs.ChipLaws.{made_again}
use Rattle.arrays.proofs.chip_of.Goals as goal

pub returns-in-Some-clause-again : goal.returns-in-Some-clause-again
returns-in-Some-clause-again c =
    let p : c.in-Some.held.bytes.now ≡ c.args.state.now = search rules in
    made_again _ _ p c.in-Some.held.is_state c.chip.ensures (λ k. (c.type_inv.state k).fits)
