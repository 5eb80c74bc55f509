-- `numbers::chip::RecordNumbers::cycle`: the ticks left fit (`fields`); the other numbers do alone.
-- Assumes nothing.
use Rattle.numbers.proofs.ChipLaws.{fields}
use Rattle.numbers.proofs.chip.RecordNumbers.cycle.Goals as goal

pub overflow_cast-result : goal.overflow_cast-result
overflow_cast-result c =
    let n = c.args.self.now in
    record { fits = (fields n.list.now n.facts).left }
