-- `saved::put::put_row`: of the row's text, the lines after the first i are to come (`Part`).
-- Assumes nothing.
use native.Mathlib.Omega.{arith}
use mathlib.Core.Path.{◌≡◌, refl, sym, subst, ◌∙◌}
use mathlib.Core.List.{List}
use Prim.Native.Nat.{ℕ, ◌+◌, ◌-◌, ◌*◌, ◌≤◌, ◌<◌}
use native.Mathlib.Nat.{zero-mul}
use Rattle.text.specs.Buffer.{buffer}
use Rattle.form.specs.Table.{row_text}
use Rattle.numbers.specs.Tables.{row_place, row_of}
use Rattle.saved.proofs.PutLaws.{Part, part_none, part_all, row_begins, row_ends, line_there, line_room, line_put, place_next}
use Rattle.numbers.proofs.TableLaws.{row_in}
use Rattle.saved.proofs.LoopLaws.{width_most}
use Rattle.saved.proofs.put.put_row.Goals as goal

first : (k w : ℕ) → k ≡ k + 0 * w
first k w = omega (arith, zero-mul w)

few : {n m : ℕ} → n < m → m ≤ 32 → n < 32
few p q = omega (arith, p, q)

pub loop-i-init : goal.loop-i-init
loop-i-init c =
    let a = c.args in
    let h = c.requires in
    let o = buffer a.into.now a.at in
    let ns = a.numbers.now in
    let r = row_of a.row in
    let all = row_text r a.lines 0 a.from ns in
    (refl, first a.from r.width, subst (λ (l : List ℕ). Part o all l o) (row_begins r a.lines a.from ns) (part_none o all))

pub put_line-end-requires : goal.put_line-end-requires
put_line-end-requires c =
    let a = c.args in
    let h = c.requires in
    let o = buffer a.into.now a.at in
    let ns = a.numbers.now in
    let r = row_of a.row in
    let w = c.width-width.ensures in
    let all = row_text r a.lines 0 a.from ns in
    let l = c.loop-i in
    let t = c.loop-i-test.true in
    let v = l.invariant in
    let b = buffer l.into l.end in
    record {
      i_bound = few t h.lines_bound;
      width_nonzero = subst (λ (z : ℕ). 0 < z) (sym w) (width_most (row_place a.row) (row_in a.row)).0;
      width_in_bounds = line_there r a.lines l.i a.from c.width-width.result l.place ns w v.1 t h.row_in_bounds;
      numbers_in_bounds = line_room r a.lines l.i a.from c.width-width.result l.place ns w v.1 t h.row_in_bounds o all b v.2 h.numbers_in_bounds;
    }

pub overflow_add-place : goal.overflow_add-place
overflow_add-place c =
    let a = c.args in
    let h = c.requires in
    let ns = a.numbers.now in
    let r = row_of a.row in
    let w = c.width-width.ensures in
    let l = c.loop-i in
    let t = c.loop-i-test.true in
    let v = l.invariant in
    let b = buffer l.into l.end in
    let z = line_there r a.lines l.i a.from c.width-width.result l.place ns w v.1 t
    h.row_in_bounds in
    record { fits = omega (arith, z) }

pub loop-i-preserved : goal.loop-i-preserved
loop-i-preserved c =
    let a = c.args in
    let h = c.requires in
    let o = buffer a.into.now a.at in
    let ns = a.numbers.now in
    let r = row_of a.row in
    let w = c.width-width.ensures in
    let all = row_text r a.lines 0 a.from ns in
    let l = c.loop-i in
    let t = c.loop-i-test.true in
    let v = l.invariant in
    let b = buffer l.into l.end in
    (c.put_line-end.auto.into ∙ v.0, place_next r a.lines l.i a.from c.width-width.result l.place ns w v.1 t h.row_in_bounds, line_put r a.lines l.i a.from c.width-width.result l.place ns w v.1 t h.row_in_bounds o all b v.2 _ c.put_line-end.ensures)

pub returns : goal.returns
returns c =
    let a = c.args in
    let h = c.requires in
    let o = buffer a.into.now a.at in
    let ns = a.numbers.now in
    let r = row_of a.row in
    let all = row_text r a.lines 0 a.from ns in
    let l = c.loop-i in
    part_all o all (row_text r (a.lines - l.i) l.i (a.from + l.i * r.width) ns) (buffer l.into l.end) l.invariant.2
    (row_ends r a.lines l.i (a.from + l.i * r.width) ns (omega arith))
