-- `numbers::chip::RecordNumbers::stage`: case and value fit (`fields`); the kind does alone.
-- Assumes nothing.
use Rattle.numbers.proofs.ChipLaws.{fields}
use Rattle.numbers.proofs.chip.RecordNumbers.stage.Goals as goal

pub overflow_cast-list-2 : goal.overflow_cast-list-2
overflow_cast-list-2 c =
    let n = c.args.self.now in
    record { fits = (fields n.list.now n.facts).which }

pub overflow_cast-list-3 : goal.overflow_cast-list-3
overflow_cast-list-3 c =
    let n = c.args.self.now in
    record { fits = (fields n.list.now n.facts).value }
