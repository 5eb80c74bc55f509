-- `saved::key::put_head`: key, number and `=`, one after the other.
-- Assumes nothing.
use native.Mathlib.Omega.{arith}
use mathlib.Core.Path.{sym, ap, subst, ◌∙◌}
use mathlib.Core.Bool.{Bool}
use Prim.Native.Nat.{ℕ, ◌+◌, ◌≤◌}
use mathlib.Core.List.{List, [], ◌∷◌, ◌++◌}
use lib.ListN.{length}
use Rattle.base.specs.Words.{pick}
use Rattle.text.specs.Buffer.{buffer, append}
use Rattle.text.specs.Bytes.{bytes_of}
use Rattle.text.specs.Decimal.{decimal_text}
use Rattle.form.specs.Lines.{equals}
use Rattle.numbers.specs.Tables.{row_place, row_of}
use Rattle.numbers.proofs.TableLaws.{row_in}
use Rattle.text.proofs.BufferLaws.{put_then, room_then, room_before}
use Rattle.saved.proofs.KeyLaws.{key_short, index_short, room_index, room_equals, put_first}
use Rattle.saved.proofs.key.put_head.Goals as goal

pub put-a-requires : goal.put-a-requires
put-a-requires c =
    let a = c.args in
    let q = c.requires in
    let k = bytes_of (row_of a.row).key in
    let s = key_short (row_place a.row) (row_in a.row) in
    subst (λ (l : List ℕ). 0 + length l ≤ length a.into.now) (sym c.key_of-key.ensures)
    (room_before 0 k (0 ∷ 0 ∷ []) (room_index k a.into.now s (omega arith)))

pub put_index-b-requires : goal.put_index-b-requires
put_index-b-requires c =
    let a = c.args in
    let q = c.requires in
    let o = buffer a.into.now 0 in
    let k = bytes_of (row_of a.row).key in
    let s = key_short (row_place a.row) (row_in a.row) in
    record {
      at_in_bounds = room_then o k (0 ∷ 0 ∷ []) (c.put-a.ensures ∙ ap (append o) c.key_of-key.ensures) (room_index k a.into.now s (omega arith));
      i_bound = q;
    }

pub put_one-requires : goal.put_one-requires
put_one-requires c =
    let a = c.args in
    let q = c.requires in
    let o = buffer a.into.now 0 in
    let k = bytes_of (row_of a.row).key in
    let s = key_short (row_place a.row) (row_in a.row) in
    let t = c.is_numbered-numbered in
    let i = pick t.result (decimal_text a.i) [] in
    room_then o (k ++ i) (equals ∷ [])
    (put_then o k i (c.put-a.ensures ∙ ap (append o) c.key_of-key.ensures) c.put_index-b.ensures)
    (room_equals k i a.into.now s (index_short t.result a.i q) (omega arith))

pub returns : goal.returns
returns c =
    let a = c.args in
    let q = c.requires in
    let o = buffer a.into.now 0 in
    let k = bytes_of (row_of a.row).key in
    let s = key_short (row_place a.row) (row_in a.row) in
    let t = c.is_numbered-numbered in
    let i = pick t.result (decimal_text a.i) [] in
    put_first a.into.now _ ((k ++ i) ++ (equals ∷ [])) _ (room_equals k i a.into.now s (index_short t.result a.i q) (omega arith))
    (put_then o (k ++ i) (equals ∷ []) (put_then o k i (c.put-a.ensures ∙ ap (append o) c.key_of-key.ensures) c.put_index-b.ensures) c.put_one.ensures)
    ∙ ap (λ (b : Bool). (k ++ pick b (decimal_text a.i) []) ++ (equals ∷ [])) t.ensures
