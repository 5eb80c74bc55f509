-- `numbers::chip::put_record`: one piece after the other.
-- Assumes nothing.
use mathlib.Core.Path.{sym, ap, subst, ◌∙◌}
use mathlib.Core.List.{List, ◌++◌}
use Prim.Native.Nat.{ℕ, ◌+◌, ◌≤◌}
use lib.ListN.{length}
use Rattle.text.specs.Buffer.{buffer, append}
use Rattle.text.proofs.BufferLaws.{put_then, room_then, room_before}
use Rattle.form.specs.Chip.{tail_numbers}
use Rattle.numbers.proofs.chip.put_record.Goals as goal

pub put_arrays-arrays-requires : goal.put_arrays-arrays-requires
put_arrays-arrays-requires c =
    let a = c.args in
    let t = c.head_numbers-head in
    let r = a.d.regs ++ a.d.sram in
    let b = a.d.load.bytes ++ tail_numbers a.d.load a.d.cycle in
    room_before a.at r t.result
    (room_before a.at (r ++ t.result) b (subst (λ (l : List ℕ). a.at + length (r ++ l ++ b) ≤ length a.into.now) (sym t.ensures.value) c.requires))

pub put-next-requires : goal.put-next-requires
put-next-requires c =
    let a = c.args in
    let o = buffer a.into.now a.at in
    let t = c.head_numbers-head in
    let r = a.d.regs ++ a.d.sram in
    let b = a.d.load.bytes ++ tail_numbers a.d.load a.d.cycle in
    room_then o r t.result c.put_arrays-arrays.ensures
    (room_before a.at (r ++ t.result) b (subst (λ (l : List ℕ). a.at + length (r ++ l ++ b) ≤ length a.into.now) (sym t.ensures.value) c.requires))

pub put_load-requires : goal.put_load-requires
put_load-requires c =
    let a = c.args in
    let o = buffer a.into.now a.at in
    let t = c.head_numbers-head in
    let r = a.d.regs ++ a.d.sram in
    let b = a.d.load.bytes ++ tail_numbers a.d.load a.d.cycle in
    room_then o (r ++ t.result) b
    (put_then o r t.result c.put_arrays-arrays.ensures c.put-next.ensures)
    (subst (λ (l : List ℕ). a.at + length (r ++ l ++ b) ≤ length a.into.now) (sym t.ensures.value) c.requires)

pub returns : goal.returns
returns c =
    let a = c.args in
    let o = buffer a.into.now a.at in
    let t = c.head_numbers-head in
    let r = a.d.regs ++ a.d.sram in
    let b = a.d.load.bytes ++ tail_numbers a.d.load a.d.cycle in
    record {
      result_after = put_then o (r ++ t.result) b (put_then o r t.result c.put_arrays-arrays.ensures c.put-next.ensures) c.put_load.ensures ∙ ap (λ (l : List ℕ). append o (r ++ l ++ b)) t.ensures.value;
      stage_bound = t.ensures.stage_bound;
    }
