-- The end of a frame with k leftover bits. The frame's own effect is judged by the record as it was; then WEL and the lock have moved.
-- Assumes nothing.
use Rattle.std.specs.Prelude.{ℕ, Bool, not, ◌&&◌, List, eqb}
use Rattle.base.specs.Words.{pick}
use Rattle.record.specs.declared.Device.{Device}
use Rattle.record.specs.declared.Code.{Code}
use Rattle.record.specs.declared.Code.TheVariants.{Clrwdt, Clrram}
use Rattle.record.specs.declared.Stage.{Stage}
use Rattle.record.specs.declared.Stage.TheVariants.{Idle}
use Rattle.record.specs.Codes.{is_code}
use Rattle.record.specs.Fresh.{fresh_sram}
use Rattle.record.specs.Setters.{with_sram, with_watchdog, with_cycle, with_wel, with_lock, with_stage}
use Rattle.record.specs.Stages.{code_at, is_over}
use Rattle.ends.specs.Write.{cycle_after, wel_after}
use Rattle.ends.specs.Lock.{lock_after}

-- F20. A code that clears does so where its frame ends with its first byte, or its second, and no bit of another (bench).
abbrev pub clears : Code → ℕ → Stage → Bool
clears c k s = (is_code (code_at s) c && not (is_over s)) && eqb k 0

-- F20. CLRRAM zeroes the SRAM.
abbrev pub sram_after : ℕ → Device → List ℕ
sram_after k d = pick (clears Clrram k d.frame.stage) fresh_sram d.sram

-- K29. CLRWDT zeroes the watchdog's count, and nothing else of it.
abbrev pub count_after : ℕ → Device → ℕ
count_after k d = pick (clears Clrwdt k d.frame.stage) 0 d.counters.watchdog

-- the device after an end
unfoldable pub after_end : ℕ → ℕ → Device → Device
after_end top k d =
    with_stage
    (with_lock (with_wel (with_cycle (with_watchdog (with_sram d (sram_after k d)) (count_after k d)) (cycle_after top k d)) (wel_after k d.guard.wel d.frame.stage))
    (lock_after k d.guard.lock d.frame.stage))
    Idle
