-- `numbers::table::foreign`: kind and case as bytes are the same stage (`foreign_by`).
-- Assumes nothing.
use Rattle.numbers.proofs.TableLaws.{foreign_by}
use Rattle.numbers.proofs.table.foreign.Goals as goal

pub returns : goal.returns
returns c =
    let b = c.byte_of-2 in
    let a = c.byte_of in
    let r = c.args in
    foreign_by r.kind r.which a.ensures b.ensures c.from-stage.ensures c.foreign_to_wip.ensures
