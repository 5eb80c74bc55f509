-- `numbers::table::Row::lines`: the rows of one line (`short`), and those of SRAM; the other rows are found alone.
-- Assumes nothing.
use mathlib.Core.List.{[], ◌∷◌}
use mathlib.Core.Path.{refl}
use Rattle.form.specs.Table.{rows, sram_row}
use Rattle.numbers.specs.Tables.{row_at}
use Rattle.numbers.proofs.TableLaws.{short}
use Rattle.numbers.proofs.table.Row.lines.Goals as goal

pub returns-in-Sram : goal.returns-in-Sram
unfolding row_at rows sram_row
returns-in-Sram c = rw c.in-Sram.is refl

pub returns-in_default : goal.returns-in_default
returns-in_default c =
    let d = c.in_default in
    short c.args.self (c.args.part ∷ []) d.not-Reg d.not-Sram d.not-Ee d.not-Id
