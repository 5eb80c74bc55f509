-- `numbers::table::Row::good`: rows whose numbers are bytes (`byte_rows`); the other rows are found alone.
-- Assumes nothing.
use Rattle.numbers.proofs.TableLaws.{byte_rows}
use Rattle.numbers.proofs.table.Row.good.Goals as goal

pub returns-in-Sram : goal.returns-in-Sram
returns-in-Sram c =
    let a = c.args in
    byte_rows a.numbers.now a.j a.n c.in-Sram.is
