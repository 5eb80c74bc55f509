-- `numbers::chip::put_load`: one piece after the other.
-- Assumes nothing.
use mathlib.Core.Path.{sym, ap, subst, ◌∙◌}
use mathlib.Core.List.{List, ◌++◌}
use Prim.Native.Nat.{ℕ, ◌+◌, ◌≤◌}
use lib.ListN.{length}
use Rattle.text.specs.Buffer.{buffer, append}
use Rattle.text.proofs.BufferLaws.{put_then, room_then, room_before}
use Rattle.numbers.proofs.chip.put_load.Goals as goal

pub put_bytes-next-requires : goal.put_bytes-next-requires
put_bytes-next-requires c =
    let a = c.args in
    let t = c.tail_numbers-tail in
    room_before a.at a.load.bytes t.result
    (subst (λ (l : List ℕ). a.at + length (a.load.bytes ++ l) ≤ length a.into.now) (sym t.ensures) c.requires)

pub put-requires : goal.put-requires
put-requires c =
    let a = c.args in
    let o = buffer a.into.now a.at in
    let t = c.tail_numbers-tail in
    room_then o a.load.bytes t.result c.put_bytes-next.ensures
    (subst (λ (l : List ℕ). a.at + length (a.load.bytes ++ l) ≤ length a.into.now) (sym t.ensures) c.requires)

pub returns : goal.returns
returns c =
    let a = c.args in
    let o = buffer a.into.now a.at in
    let t = c.tail_numbers-tail in
    put_then o a.load.bytes t.result c.put_bytes-next.ensures
    c.put.ensures ∙ ap (λ (l : List ℕ). append o (a.load.bytes ++ l)) t.ensures
