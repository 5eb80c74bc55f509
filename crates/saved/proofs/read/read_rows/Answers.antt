-- `saved::read::read_rows`: the rows that every text has, then those that one may lack (`text_ended`, `events_read`).
-- Assumes nothing.
use native.Mathlib.Omega.{arith}
use Rattle.saved.specs.Place.{most}
use Rattle.saved.proofs.LoopLaws.{none_held, few_read, text_ended, stopped_on, older_bad, events_read, events_stopped}
use Rattle.saved.proofs.read.read_rows.Goals as goal

pub read_between-requires : goal.read_between-requires
unfolding most
read_between-requires c =
    record {
      first_le_end = omega arith;
      end_le_row_count = omega arith;
      count_bound = omega arith;
      lines_le_count = omega arith;
      holds = none_held c.args.numbers.now c.requires;
    }

pub returns-in_err-older-clause-bad : goal.returns-in_err-older-clause-bad
returns-in_err-older-clause-bad c =
    let x = c.args.text.now in
    let d = c.in_err-older.ensures.bad in
    stopped_on x _ _ _ c.from_residual.ensures.1 (older_bad x c.args.numbers.now 0 0 0 _ _ d.0, d.1)

pub returns-then-place-text : goal.returns-then-place-text
returns-then-place-text c =
    let x = c.args.text.now in
    let o = c.in_ok-older in
    let p = o.older.place in
    let d = c.read_between-then-place-text.ensures in
    record {
      read = events_read x _ p.at p.lines o.older.count o.ensures.read _ _ c.if-place-text.true d.read;
      bad = events_stopped x _ p.at p.lines o.older.count o.ensures.read _ c.if-place-text.true d.bad;
    }

pub overflow_add-result : goal.overflow_add-result
overflow_add-result c =
    let x = c.args.text.now in
    let o = c.in_ok-older in
    let p = o.older.place in
    let h = few_read x _ p.at p.lines o.older.count o.ensures.read in
    record { fits = omega (arith, h) }

pub returns : goal.returns
returns c =
    let x = c.args.text.now in
    let o = c.in_ok-older in
    let p = o.older.place in
    record {
      read = text_ended x _ p.at p.lines o.older.count o.ensures.read c.if-place-text.false;
      bad = tt;
    }
