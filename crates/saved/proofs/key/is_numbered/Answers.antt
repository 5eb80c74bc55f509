-- `saved::key::is_numbered`: four rows, and the rest.
-- Assumes nothing.
use Rattle.numbers.proofs.TableLaws.{bare, numbered}
use Rattle.saved.proofs.key.is_numbered.Goals as goal

pub returns-in-Reg : goal.returns-in-Reg
returns-in-Reg c = numbered c.in-Reg.is

pub returns-in_default : goal.returns-in_default
returns-in_default c =
    let d = c.in_default in
    bare c.args.row d.not-Reg d.not-Sram d.not-Ee d.not-Id
