-- `saved::read::read_between`: after some of the rows what is left gives what all of them give (`Reads`).
-- Assumes nothing.
use native.Mathlib.Omega.{arith}
use mathlib.Core.Path.{refl, sym, ap, subst, ◌∙◌}
use Prim.Native.Nat.{◌+◌, ◌≤◌}
use lib.ListN.{take}
use Rattle.saved.specs.Reading.{got, row_read}
use Rattle.saved.specs.Place.{reading_at, RowRead}
use Rattle.form.specs.Table.{Row, span}
use Rattle.numbers.specs.Tables.{number_limit}
use Rattle.numbers.proofs.TableLaws.{row_here}
use Rattle.saved.proofs.LoopLaws.{reads_none, reads_more, reads_room, reads_bad, reads_all, stopped_on}
use Rattle.saved.proofs.read.read_between.Goals as goal

pub loop-i-init : goal.loop-i-init
loop-i-init c =
    let a = c.args in
    let q = c.requires in
    let s = reading_at a.text.now a.p in
    reads_none a.first a.end (got (take a.count a.numbers.now) s) a.numbers.now a.count s q.holds refl q.count_bound q.lines_le_count

pub read_row-requires : goal.read_row-requires
read_row-requires c =
    let a = c.args in
    let q = c.requires in
    let x = a.text.now in
    let l = c.loop-i in
    let t = l.invariant in
    let h = c.loop-i-test.true in
    let e = row_here _ l.i (omega (arith, h, q.end_le_row_count)) in
    record {
      numbers_bound = subst (λ (r : Row). l.at + span r (take l.at l.numbers) ≤ number_limit) (sym e) (reads_room a.first a.end _ l.i l.at l.numbers (reading_at x l.place) h q.end_le_row_count t);
      lines_le_count = t.fewer;
      holds = t.list;
    }

pub loop-i-preserved : goal.loop-i-preserved
loop-i-preserved c =
    let a = c.args in
    let q = c.requires in
    let x = a.text.now in
    let l = c.loop-i in
    let o = c.in_ok-read in
    let d = o.ensures.read in
    let h = c.loop-i-test.true in
    let e = row_here _ l.i (omega (arith, h, q.end_le_row_count)) in
    reads_more a.first a.end _ l.i l.at l.numbers (reading_at x l.place) _ (reading_at x o.read.place) o.read.count h q.end_le_row_count l.invariant
    (subst (λ (r : Row). RowRead r (got (take l.at l.numbers) (reading_at x l.place)) c.read_row.new.numbers (reading_at x o.read.place) o.read.count) e d)

pub returns-in_err-read-clause-bad : goal.returns-in_err-read-clause-bad
returns-in_err-read-clause-bad c =
    let a = c.args in
    let q = c.requires in
    let x = a.text.now in
    let l = c.loop-i in
    let h = c.loop-i-test.true in
    let s = reading_at x l.place in
    let g = got (take a.count a.numbers.now) (reading_at x a.p) in
    let d = c.in_err-read.ensures.bad in
    let e = row_here _ l.i (omega (arith, h, q.end_le_row_count)) in
    stopped_on x _ _ _ c.from_residual.ensures.1 (
      reads_bad a.first a.end g l.i l.at l.numbers s _ _ h q.end_le_row_count l.invariant
          (d.0 ∙ ap (λ (r : Row). (row_read r (r.lines (take l.at l.numbers)) 0 (got (take l.at l.numbers) s)).after) e),
      d.1,
    )

pub returns : goal.returns
returns c =
    let a = c.args in
    let l = c.loop-i in
    let r = reads_all a.first a.end _ l.i l.at l.numbers (reading_at a.text.now l.place) (omega arith) l.invariant in
    record { read = r; bad = tt }
