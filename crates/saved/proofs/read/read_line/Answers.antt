-- `saved::read::read_line`: its head, its numbers, its end (`line_is`, `line_ends`), or a bad head (`head_bad`).
-- Assumes nothing.
use native.Mathlib.Omega.{arith}
use mathlib.Core.Path.{sym, ap, subst, ◌∙◌}
use Prim.Native.Nat.{ℕ, ◌+◌, ◌≤◌}
use lib.ListN.{take}
use Rattle.numbers.specs.Tables.{row_place, row_of, number_limit}
use Rattle.numbers.proofs.TableLaws.{row_in}
use Rattle.saved.specs.Place.{reading_at, reading_of}
use Rattle.saved.specs.Reading.{Reading}
use Rattle.saved.proofs.ReadingLaws.{word_lines}
use Rattle.saved.proofs.LoopLaws.{line_small, register_line, held_long, handed, head_bad, line_is, line_ends}
use Rattle.saved.proofs.read.read_line.Goals as goal

pub overflow_mul-i : goal.overflow_mul-i
overflow_mul-i c =
    let a = c.args in
    let h = c.requires in
    let b = take a.count a.numbers.now in
    let i = a.i in
    let m = line_small (row_place a.row) i a.width (row_in a.row) h.width_value h.i_bound in
    record { fits = omega (arith, m) }

pub read_numbers-requires : goal.read_numbers-requires
read_numbers-requires c =
    let a = c.args in
    let h = c.requires in
    let i = a.i in
    let s = reading_at a.text.now a.p in
    let k = ap (λ (r : Reading). r.lines) c.in_ok-begun.ensures ∙ word_lines _ s in
    record {
      lines_bound = omega (arith, k, h.lines_le_count, h.width_bound);
      width_bound = h.width_bound;
      width_bound_2 = line_small (row_place a.row) i a.width (row_in a.row) h.width_value h.i_bound;
      width_bound_3 = (λ e. register_line (row_place a.row) i a.width (ap row_place e) h.width_value h.i_bound);
      holds = h.holds;
    }

pub returns-in_err-begun : goal.returns-in_err-begun
returns-in_err-begun c =
    let a = c.args in
    let h = c.requires in
    let b = take a.count a.numbers.now in
    let n = held_long a.numbers.now a.count h.holds (omega (arith, h.width_bound)) in
    let r = head_bad (row_of a.row) a.i a.width b _ (reading_at a.text.now a.p) a.numbers.now _ _ h.width_value (c.first.ensures ∙ c.put_head-n.ensures)
    c.in_err-begun.ensures h.holds.list (subst (λ (k : ℕ). k + a.width ≤ number_limit) (sym n) h.width_bound) in
    record {
      numbers_after = r.0;
      result_value = ap (reading_of a.text.now) (handed _ _ c.from_residual.ensures.1) ∙ r.1;
    }

pub returns : goal.returns
returns c =
    let a = c.args in
    let h = c.requires in
    let s = reading_at a.text.now a.p in
    let b = take a.count a.numbers.now in
    let r = row_of a.row in
    let k = c.first.ensures ∙ c.put_head-n.ensures in
    let n = c.read_numbers.ensures in
    record {
      numbers_after = line_is r a.i a.width b _ s _ h.width_value k c.in_ok-begun.ensures n.numbers_after;
      result_value = line_ends r a.i a.width b _ s _ _ h.width_value k c.in_ok-begun.ensures n.result_value;
    }
