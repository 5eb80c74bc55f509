-- `saved::put::put_line`: its head, then its numbers (`line_text_lem`).
-- Assumes nothing.
use mathlib.Core.Path.{sym, ap, subst, ◌∙◌}
use mathlib.Core.List.{List}
use Prim.Native.Nat.{ℕ, ◌+◌, ◌≤◌}
use lib.ListN.{length, take, drop}
use Rattle.text.specs.Buffer.{buffer, append}
use Rattle.text.proofs.BufferLaws.{put_then, room_then, room_before}
use Rattle.form.specs.Lines.{head_of}
use Rattle.form.specs.Table.{key_of}
use Rattle.numbers.specs.Tables.{row_of}
use Rattle.saved.specs.Reading.{run_text}
use Rattle.saved.proofs.PutLaws.{line_split, split_room}
use Rattle.saved.proofs.put.put_line.Goals as goal

pub put-begun-requires : goal.put-begun-requires
put-begun-requires c =
    let a = c.args in
    let h = c.requires in
    let ns = a.numbers.now in
    let r = row_of a.row in
    let n = length a.into.now in
    subst (λ (l : List ℕ). a.at + length l ≤ n) (sym (c.first.ensures ∙ c.put_head-n.ensures))
    (room_before a.at (head_of (key_of r a.i)) (run_text (take a.width (drop a.from ns)))
    (split_room r a.i ns a.from a.width h.width_in_bounds h.width_nonzero a.at n h.numbers_in_bounds))

pub put_numbers-requires : goal.put_numbers-requires
put_numbers-requires c =
    let a = c.args in
    let h = c.requires in
    let o = buffer a.into.now a.at in
    let ns = a.numbers.now in
    let r = row_of a.row in
    let q = split_room r a.i ns a.from a.width h.width_in_bounds h.width_nonzero a.at (length a.into.now) h.numbers_in_bounds in
    record {
      width_in_bounds = h.width_in_bounds;
      numbers_in_bounds = room_then o (head_of (key_of r a.i)) (run_text (take a.width (drop a.from ns))) (c.put-begun.ensures ∙ ap (append o) (c.first.ensures ∙ c.put_head-n.ensures)) q;
    }

pub returns : goal.returns
returns c =
    let a = c.args in
    let h = c.requires in
    let o = buffer a.into.now a.at in
    let ns = a.numbers.now in
    let r = row_of a.row in
    put_then o (head_of (key_of r a.i)) (run_text (take a.width (drop a.from ns)))
    (c.put-begun.ensures ∙ ap (append o) (c.first.ensures ∙ c.put_head-n.ensures))
    c.put_numbers.ensures ∙ ap (append o) (line_split r a.i ns a.from a.width h.width_in_bounds h.width_nonzero)
