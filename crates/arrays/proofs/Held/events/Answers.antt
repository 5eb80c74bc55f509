-- `arrays::Held::events`: each count fits its field.
-- Assumes nothing.
use Rattle.arrays.proofs.ArrayLaws.{state_long, since_fits, debounce_fits, inputs_by}
use Rattle.arrays.proofs.Held.events.Goals as goal

pub overflow_cast-result : goal.overflow_cast-result
overflow_cast-result c = rw c.count_at.ensures (record { fits = since_fits c.args.self.now.bytes.now c.args.self.now.is_state })

pub overflow_cast-result-2 : goal.overflow_cast-result-2
overflow_cast-result-2 c = rw c.count_at-2.ensures (record { fits = debounce_fits c.args.self.now.bytes.now c.args.self.now.is_state })

pub returns : goal.returns
returns c = inputs_by c.args.self.now.bytes.now (state_long _ c.args.self.now.is_state) c.count_at.ensures c.count_at-2.ensures
