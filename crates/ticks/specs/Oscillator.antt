-- The oscillator's part of a tick.
-- Assumes nothing.
use Rattle.std.specs.Prelude.{ℕ, ◌+◌, Bool, ◌&&◌, ◌||◌, List, ltb}
use Rattle.base.specs.Words.{pick}
use Rattle.record.specs.declared.Device.{Device}
use Rattle.record.specs.Registers.{st, startup_ticks}
use Rattle.record.specs.Setters.{with_startup}

-- K2. The oscillator is asked to run: always on a B part, by ST on a W part.
abbrev pub asked : Bool → List ℕ → Bool
asked boots regs = boots || st regs

-- it is asked, and has not come to its end
abbrev pub starting : Bool → Device → Bool
starting boots d = asked boots d.regs && ltb d.counters.startup startup_ticks

-- K3. Each asked tick takes the start-up count one further, up to its end, where OSCON is set.
unfoldable pub oscillator_tick : Bool → Device → Device
oscillator_tick boots d = pick (starting boots d) (with_startup d (d.counters.startup + 1)) d
