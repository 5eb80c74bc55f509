-- `numbers::chip::RecordNumbers::counters`: start-up and watchdog fit (`fields`); the other numbers do alone.
-- Assumes nothing.
use Rattle.numbers.proofs.ChipLaws.{fields}
use Rattle.numbers.proofs.chip.RecordNumbers.counters.Goals as goal

pub overflow_cast-result-2 : goal.overflow_cast-result-2
overflow_cast-result-2 c =
    let n = c.args.self.now in
    record { fits = (fields n.list.now n.facts).startup }

pub overflow_cast-result-3 : goal.overflow_cast-result-3
overflow_cast-result-3 c =
    let n = c.args.self.now in
    record { fits = (fields n.list.now n.facts).watchdog }
