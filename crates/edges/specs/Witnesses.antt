-- All closed witnesses as one statement.
-- Assumes nothing.
use Rattle.edges.specs.Ticks.{WaitsShown, waits_shown}
use Rattle.edges.specs.Acts.{ActsShown, acts_shown}
use Rattle.edges.specs.Stamps.{StampsShown, stamps_shown}
use Rattle.edges.specs.Latch.{LatchShown, latch_shown}
use Rattle.edges.specs.Leftover.{LeftoverShown, leftover_shown}
use Rattle.edges.specs.Events.{EventsShown, events_shown}

pub Witnesses : Type 0
Witnesses = WaitsShown × ActsShown × StampsShown × LatchShown × LeftoverShown × EventsShown

pub witnesses : Witnesses
unfolding Witnesses
witnesses = (waits_shown, acts_shown, stamps_shown, latch_shown, leftover_shown, events_shown)
