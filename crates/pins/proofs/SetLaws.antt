-- Laws of a pin that is set: what it leaves alone, and that it keeps a record in range.
-- Assumes nothing.
use Prim.Native.Nat.{ℕ, ◌≤◌}
use native.Mathlib.Omega.{arith}
use mathlib.Core.Path.{◌≡◌, refl}
use mathlib.Core.Bool.{Bool}
use mathlib.Core.List.{List}
use lib.ListN.{length, get_or, set, length-set}
use Rattle.base.proofs.Tests.{pick_case}
use Rattle.events.specs.Pins.{drum_set, door_set, zeroes_watchdog}
use Rattle.events.proofs.EmbedLaws.{drum_embeds, door_embeds}
use Rattle.record.specs.declared.Counters.{Counters}
use Rattle.record.specs.declared.Device.{Device}
use Rattle.record.specs.declared.Pin.{Pin}
use Rattle.record.specs.declared.Pin.TheVariants.{Evls, Evhs}
use Rattle.record.specs.Part.{boots_of}
use Rattle.record.specs.Registers.{oscon, watchdog_at, event_at}
use Rattle.record.specs.Setters.{inputs_of}
use Rattle.record.specs.World.{Sized}
use Rattle.record.proofs.PeriodLaws.{period_least}
use Rattle.record.proofs.WorldLaws.{sized_by}
use Rattle.refusals.specs.InRange.{InRange}
use Rattle.refusals.proofs.KeepLaws.{ClockOf, Beside, beside, watchdog_in, inputs_in_lem, inside_byte, in_range_beside}
use Rattle.pins.specs.Set.{drum_at, after_set}

pub set_beside : (p : Pin) (level : ℕ) (d : Device) → Beside d (after_set p level d)
unfolding after_set
set_beside Evls level d = beside d
set_beside Evhs level d = pick_case (Beside d) (zeroes_watchdog level (inputs_of d)) (beside d) (beside d)

pub set_sram : (p : Pin) (level : ℕ) (d : Device) → (after_set p level d).sram ≡ d.sram
unfolding after_set
set_sram Evls level d = refl
set_sram Evhs level d = pick_case (λ (e : Device). e.sram ≡ d.sram) (zeroes_watchdog level (inputs_of d)) refl refl

-- of the registers it touches 0Bh alone
pub set_regs : (P : List ℕ → Type 0) (p : Pin) (level : ℕ) (d : Device) → ((v : ℕ) → P (set d.regs event_at v)) → P (after_set p level d).regs
unfolding after_set
set_regs P Evls level d q = q _
set_regs P Evhs level d q = pick_case (λ (e : Device). P e.regs) (zeroes_watchdog level (inputs_of d)) (q _) (q _)

-- V7. of the counts it changes the watchdog's alone
abbrev Others : Counters → Counters → Type 0
Others c e = (e.divider ≡ c.divider) × (e.startup ≡ c.startup) × (e.delay ≡ c.delay) × (e.pulse ≡ c.pulse)

pub set_counts : (p : Pin) (level : ℕ) (d : Device) → Others d.counters (after_set p level d).counters
unfolding after_set
set_counts Evls level d = (refl, refl, refl, refl)
set_counts Evhs level d =
    pick_case (λ (e : Device). Others d.counters e.counters) (zeroes_watchdog level (inputs_of d)) (refl, refl, refl, refl) (refl, refl, refl, refl)

pub set_sized : (p : Pin) (level : ℕ) (d : Device) → Sized d → Sized (after_set p level d)
set_sized p level d =
    sized_by d (after_set p level d)
    (set_regs (λ (l : List ℕ). length l ≡ length d.regs) p level d (λ v. length-set d.regs event_at v))
    (set_sram p level d) (set_beside p level d).load

set_clock : (boots : Bool) (p : Pin) (level : ℕ) (d : Device) → level ≤ 1 → ClockOf boots d → ClockOf boots (after_set p level d)
unfolding after_set
set_clock boots Evls level d l r =
    inputs_in_lem boots d r (door_set (oscon d.counters) level (inputs_of d))
    (door_embeds (inputs_of d) (inside_byte event_at (get_or d.regs event_at 0) (omega arith) (r.inside event_at (omega arith))) r.events (oscon d.counters) level l)
set_clock boots Evhs level d l r =
    let k : ClockOf boots (drum_at level d) =
    inputs_in_lem boots d r (drum_set (oscon d.counters) level (inputs_of d))
    (drum_embeds (inputs_of d) (inside_byte event_at (get_or d.regs event_at 0) (omega arith) (r.inside event_at (omega arith))) r.events (oscon d.counters) level l) in
    pick_case (ClockOf boots) (zeroes_watchdog level (inputs_of d))
    (watchdog_in boots (drum_at level d) k 0 (omega (arith, period_least (get_or (drum_at level d).regs watchdog_at 0)))) k

pub set_in_range : (part : ℕ) (p : Pin) (level : ℕ) (d : Device) → level ≤ 1 → InRange part d → InRange part (after_set p level d)
set_in_range part p level d l r =
    in_range_beside part d (after_set p level d) r (set_beside p level d) (set_clock (boots_of part) p level d l r.clock)
