-- `waits::wait::wait_device`: the wait from the start is the ticks passed and the wait from here, where a turn
-- passes over ticks in which only counts move, or is one tick.
-- Assumes nothing.
use mathlib.Core.Path.{sym, ◌∙◌}
use native.Mathlib.Omega.{arith}
use Rattle.ticks.proofs.TickLaws.{device_alive}
use Rattle.base.proofs.WaitLaws.{loop_starts, loop_goes, loop_stops, loop_ends, loop_jumps}
use Rattle.waits.proofs.JumpLaws.{wait_passes}
use Rattle.waits.proofs.TurnLaws.{quiet_got, quiet_within, jumped_alive, device_wait_dead}
use Rattle.waits.proofs.wait.wait_device.Goals as goal

pub returns-then-not-is_alive : goal.returns-then-not-is_alive
returns-then-not-is_alive c =
    let a = c.args in
    let r = device_wait_dead a.boots a.n a.d (sym c.is_alive.ensures ∙ c.if-not-is_alive.true) in
    (simp r, simp r)

pub loop-left-init : goal.loop-left-init
loop-left-init c = (omega arith, sym c.is_alive.ensures ∙ c.if-not-is_alive.false, loop_starts _ _ _ _)

pub jump-now_device-requires : goal.jump-now_device-requires
jump-now_device-requires c = quiet_got _ _ _ c.loop-left.invariant.1 c.quiet_ticks-k.ensures c.if-k-gt0.true

pub overflow_sub-left : goal.overflow_sub-left
overflow_sub-left c = let w = quiet_within _ _ _ c.quiet_ticks-k.ensures in omega arith

pub loop-left-preserved-then-k-gt0 : goal.loop-left-preserved-then-k-gt0
loop-left-preserved-then-k-gt0 c =
    let l = c.loop-left in
    let e = c.jump-now_device.ensures in
    let w = quiet_within _ _ _ c.quiet_ticks-k.ensures in
    let h = quiet_got _ _ _ l.invariant.1 c.quiet_ticks-k.ensures c.if-k-gt0.true in
    (omega arith, rw e (jumped_alive _ _ ∙ l.invariant.1), rw e (loop_jumps _ _ _ _ _ _ _ _ w l.invariant.0 (wait_passes _ _ _ _ h) l.invariant.2))

pub returns-then-stops : goal.returns-then-stops
returns-then-stops c =
    let l = c.loop-left in
    let e = c.device_tick-after.ensures in
    let s = rw e at (sym c.lines_changed-stops.ensures ∙ c.if-stops.true) in
    let r = loop_stops _ _ _ _ _ _ c.loop-left-test.true l.invariant.0 s l.invariant.2 in
    (simp r, simp (e, r))

pub loop-left-preserved : goal.loop-left-preserved
loop-left-preserved c =
    let l = c.loop-left in
    let e = c.device_tick-after.ensures in
    let s = rw e at (sym c.lines_changed-stops.ensures ∙ c.if-stops.false) in (
      omega arith,
      rw e (device_alive _ _ ∙ l.invariant.1),
      rw e (loop_goes _ _ _ _ _ _ c.loop-left-test.true l.invariant.0 s l.invariant.2),
    )

pub returns : goal.returns
returns c =
    let r = loop_ends _ _ _ _ _ _ (omega arith) c.loop-left.invariant.2 in
    (simp r, simp r)
