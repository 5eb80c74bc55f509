-- `arrays::Held::read`: by the array's length, else its tests (`judged`).
-- Assumes nothing.
use Rattle.std.proofs.Common.{rules, ◌≡◌, ◌≢◌, length}
use Rattle.arrays.proofs.ChipLaws.{good, none_held}
use Rattle.arrays.proofs.TestLaws.{state_short}
use Rattle.arrays.proofs.Held.read.Goals as goal

pub returns-in_default-clause-told : goal.returns-in_default-clause-told
returns-in_default-clause-told c =
    let n : length c.args.state.now ≢ 142 = search rules in
    state_short c.args.state.now n

pub returns-then-clock_bad-frame_bad-clause-told : goal.returns-then-clock_bad-frame_bad-clause-told
returns-then-clock_bad-frame_bad-clause-told c =
    let p : c.in-Ok.bytes.now ≡ c.args.state.now = search rules in
    let l : length c.args.state.now ≡ 142 = search rules in
    none_held _ _ p l (λ k. (c.type_inv.state k).fits) c.clock_bad.ensures c.frame_bad.ensures c.events_bad.ensures c.if-clock_bad-frame_bad.true

pub invariant_of-result : goal.invariant_of-result
invariant_of-result c =
    let p : c.in-Ok.bytes.now ≡ c.args.state.now = search rules in
    let l : length c.args.state.now ≡ 142 = search rules in
    record { is_state = good _ _ p l (λ k. (c.type_inv.state k).fits) c.clock_bad.ensures c.frame_bad.ensures c.events_bad.ensures c.if-clock_bad-frame_bad.false }
