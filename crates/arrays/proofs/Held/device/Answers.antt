-- `arrays::Held::device`: by its calls (`device_by`).
-- Assumes nothing.
use Rattle.arrays.proofs.ArrayLaws.{state_long, device_by}
use Rattle.arrays.proofs.Held.device.Goals as goal

pub returns : goal.returns
returns c =
    device_by c.args.self.now.bytes.now (state_long _ c.args.self.now.is_state) c.bytes_at.ensures c.bytes_at-2.ensures c.counters.ensures c.from.ensures c.from-2.ensures c.from-3.ensures c.bytes_at-3.ensures c.from-4.ensures c.events.ensures
