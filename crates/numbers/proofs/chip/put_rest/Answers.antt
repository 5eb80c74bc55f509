-- `numbers::chip::put_rest`: the event inputs after the memories.
-- Assumes nothing.
use mathlib.Core.Path.{sym, ap, subst, ◌∙◌}
use mathlib.Core.List.{List, ◌++◌}
use Prim.Native.Nat.{ℕ, ◌+◌, ◌≤◌}
use lib.ListN.{length}
use Rattle.text.specs.Buffer.{buffer, append}
use Rattle.text.proofs.BufferLaws.{put_then, room_then, room_before}
use Rattle.numbers.proofs.chip.put_rest.Goals as goal

pub put_memories-next-requires : goal.put_memories-next-requires
put_memories-next-requires c =
    let a = c.args in
    let m = a.eeprom.now ++ a.id.now in
    let t = c.event_numbers-numbers in
    room_before a.at m t.result
    (subst (λ (l : List ℕ). a.at + length (m ++ l) ≤ length a.into.now) (sym t.ensures) c.requires)

pub put-requires : goal.put-requires
put-requires c =
    let a = c.args in
    let m = a.eeprom.now ++ a.id.now in
    let o = buffer a.into.now a.at in
    let t = c.event_numbers-numbers in
    room_then o m t.result c.put_memories-next.ensures
    (subst (λ (l : List ℕ). a.at + length (m ++ l) ≤ length a.into.now) (sym t.ensures) c.requires)

pub returns : goal.returns
returns c =
    let a = c.args in
    let m = a.eeprom.now ++ a.id.now in
    let o = buffer a.into.now a.at in
    let t = c.event_numbers-numbers in
    put_then o m t.result c.put_memories-next.ensures c.put.ensures ∙ ap (λ (l : List ℕ). append o (m ++ l)) t.ensures
