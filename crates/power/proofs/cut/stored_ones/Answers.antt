-- `power::cut::stored_ones`: the count of ones is the number of members, at most 8 (`ones_stored`, `ones_fit`).
-- Assumes nothing.
use Rattle.power.proofs.PowerLaws.{ones_stored, ones_fit}
use Rattle.power.proofs.cut.stored_ones.Goals as goal

pub overflow_cast-result : goal.overflow_cast-result
overflow_cast-result c = ones_fit c.args.load.offsets c.args.mask c.ranges.mask.fits

pub returns : goal.returns
returns c = ones_stored c.args.load.offsets c.args.mask c.ranges.mask.fits
