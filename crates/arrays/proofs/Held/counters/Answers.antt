-- `arrays::Held::counters`: each count fits its field.
-- Assumes nothing.
use Rattle.arrays.proofs.ArrayLaws.{state_long, divider_fits, startup_fits, pulse_fits, counters_by}
use Rattle.arrays.proofs.Held.counters.Goals as goal

pub overflow_cast-result : goal.overflow_cast-result
overflow_cast-result c = rw c.count_at.ensures (record { fits = divider_fits c.args.self.now.bytes.now c.args.self.now.is_state })

pub overflow_cast-result-2 : goal.overflow_cast-result-2
overflow_cast-result-2 c = rw c.count_at-2.ensures (record { fits = startup_fits c.args.self.now.bytes.now c.args.self.now.is_state })

pub overflow_cast-result-3 : goal.overflow_cast-result-3
overflow_cast-result-3 c = rw c.count_at-5.ensures (record { fits = pulse_fits c.args.self.now.bytes.now c.args.self.now.is_state })

pub returns : goal.returns
returns c =
    counters_by c.args.self.now.bytes.now (state_long _ c.args.self.now.is_state) c.count_at.ensures c.count_at-2.ensures c.count_at-3.ensures c.count_at-4.ensures c.count_at-5.ensures
