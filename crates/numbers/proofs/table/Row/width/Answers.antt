-- `numbers::table::Row::width`: the rows with a number on a line (`narrow`); the other rows are found alone.
-- Assumes nothing.
use Rattle.numbers.proofs.TableLaws.{narrow}
use Rattle.numbers.proofs.table.Row.width.Goals as goal

pub returns-in_default : goal.returns-in_default
returns-in_default c =
    let d = c.in_default in
    narrow c.args.self d.not-Sram d.not-Stage d.not-Load d.not-Target d.not-Ee d.not-Id
