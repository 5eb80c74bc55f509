-- `saved::read::read_row`: after i lines what is left gives what the whole gives (`Rows`).
-- Assumes nothing.
-- after a line has been read: its numbers are in the array
use native.Mathlib.Omega.{arith}
use mathlib.Core.Path.{◌≡◌, refl, sym, subst}
use Prim.Native.Nat.{ℕ, ◌+◌, ◌≤◌, ◌<◌}
use lib.ListN.{take}
use Rattle.form.specs.Table.{span}
use Rattle.numbers.specs.Tables.{row_place, row_of}
use Rattle.numbers.proofs.TableLaws.{row_in}
use Rattle.saved.specs.Reading.{got}
use Rattle.saved.specs.Place.{reading_at}
use Rattle.saved.proofs.LoopLaws.{rows_none, rows_step, rows_all, row_bad, stopped_on, lines_are, lines_most, width_most, line_fits, held_long}
use Rattle.saved.proofs.read.read_row.Goals as goal

less : {m : ℕ} (s : ℕ) → m + s ≤ 400 → m ≤ 400
less s p = omega (arith, p)

few : {n m k : ℕ} → n < m → m ≡ k → k ≤ 32 → n < 32
few p q t = omega (arith, p, q, t)

pub loop-i-init : goal.loop-i-init
loop-i-init c =
    let a = c.args in
    let h = c.requires in
    let x = reading_at a.text.now a.p in
    let b = take a.count a.numbers.now in
    let r = row_of a.row in
    let o = h.holds in
    let k = held_long a.numbers.now a.count o (less (span r b) h.numbers_bound) in
    rows_none r c.lines-lines.result (got b x) a.numbers.now a.count x o refl k h.lines_le_count

pub read_line-requires : goal.read_line-requires
read_line-requires c =
    let a = c.args in
    let h = c.requires in
    let o = h.holds in
    let n = lines_are (row_place a.row) _ a.numbers.now a.count (row_in a.row) o c.lines-lines.ensures in
    let l = c.loop-i in
    let t = c.loop-i-test.true in
    let w = c.width-width.ensures in
    let f = l.invariant in
    let m = line_fits (row_place a.row) _ a.numbers.now a.count l.i l.at o n h.numbers_bound t f.counted in
    record {
      width_value = w;
      width_bound = subst (λ (z : ℕ). l.at + z ≤ 400) (sym w) m;
      i_bound = few t n (lines_most (take a.count a.numbers.now) (row_place a.row) (row_in a.row));
      lines_le_count = f.fewer;
      holds = f.list;
    }

pub overflow_add-at : goal.overflow_add-at
overflow_add-at c =
    let w = c.width-width.ensures in
    let n = lines_are (row_place c.args.row) _ c.args.numbers.now c.args.count (row_in c.args.row) c.requires.holds c.lines-lines.ensures in
    let m =
    line_fits (row_place c.args.row) _ c.args.numbers.now c.args.count c.loop-i.i c.loop-i.at c.requires.holds n c.requires.numbers_bound c.loop-i-test.true
    c.loop-i.invariant.counted in
    record { fits = omega (arith, m, w) }

pub loop-i-preserved : goal.loop-i-preserved
loop-i-preserved c =
    let a = c.args in
    let x = a.text.now in
    let l = c.loop-i in
    let t = c.loop-i-test.true in
    let w = c.width-width in
    let d = c.in_ok-place.ensures in
    let n = lines_are (row_place c.args.row) _ c.args.numbers.now c.args.count (row_in c.args.row) c.requires.holds c.lines-lines.ensures in
    let m =
    line_fits (row_place c.args.row) _ c.args.numbers.now c.args.count c.loop-i.i c.loop-i.at c.requires.holds n c.requires.numbers_bound c.loop-i-test.true
    c.loop-i.invariant.counted in
    let v = rows_step (row_of a.row) c.lines-lines.result (got (take a.count a.numbers.now) (reading_at x a.p))
    w.result w.ensures l.i l.at l.numbers (reading_at x l.place) _
    _ t m (width_most (row_place a.row) (row_in a.row)).0 l.invariant d.numbers_after d.result_value in
    v

pub returns-in_err-place-clause-bad : goal.returns-in_err-place-clause-bad
returns-in_err-place-clause-bad c =
    let a = c.args in
    let x = a.text.now in
    let l = c.loop-i in
    let n = lines_are (row_place a.row) _ a.numbers.now a.count (row_in a.row) c.requires.holds c.lines-lines.ensures in
    let m =
    line_fits (row_place a.row) _ a.numbers.now a.count l.i l.at c.requires.holds n c.requires.numbers_bound c.loop-i-test.true l.invariant.counted in
    stopped_on x _ _ _ c.from_residual.ensures.1
    (row_bad (row_of a.row) c.lines-lines.result (got (take a.count a.numbers.now) (reading_at x a.p)) l.i l.at l.numbers (reading_at x l.place) _ _ c.loop-i-test.true m
    (width_most (row_place a.row) (row_in a.row)).0 n l.invariant c.in_err-place.ensures.result_value)

pub returns : goal.returns
returns c =
    let a = c.args in
    let h = c.requires in
    let x = a.text.now in
    let n = lines_are (row_place a.row) _ a.numbers.now a.count (row_in a.row) h.holds c.lines-lines.ensures in
    let l = c.loop-i in
    let r = rows_all (row_of a.row) c.lines-lines.result (got (take a.count a.numbers.now) (reading_at x a.p)) l.i l.at l.numbers
    (reading_at x l.place) (omega arith) n l.invariant in
    record { read = r; bad = tt }
