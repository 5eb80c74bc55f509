-- Laws of WRITE to the clock block: what it leaves alone, the number of registers, what it leaves of the SRAM, and that it keeps a record in range.
-- Assumes nothing.
use mathlib.Core.Path.{◌≡◌, refl, sym, subst, ◌∙◌}
use mathlib.Core.Bool.{Bool, false, not, ◌&&◌}
use mathlib.Core.List.{List}
use mathlib.Core.Logic.{◌≢◌}
use Prim.Native.Nat.{ℕ, ◌<◌, ◌≤◌}
use native.Mathlib.Omega.{arith}
use borrow.Author.Tests.{ltb-true, eqb-true, eqb-false}
use lib.Bits.{bit_and}
use lib.Dec.{ltb, eqb}
use lib.ListN.{length, get_or, set, length-set}
use lib.Seq.{get_or-set_other}
use Rattle.base.specs.Words.{bit, every}
use Rattle.base.proofs.Tests.{pick_case, pick_when, true_false}
use Rattle.base.proofs.Every.{same_below}
use Rattle.base.proofs.BitLaws.{over_inside}
use Rattle.base.proofs.StoreLaws.{set_case}
use Rattle.events.specs.Pins.{no_counts}
use Rattle.events.specs.Rows.{EventsIn}
use Rattle.events.proofs.EmbedLaws.{counts_none}
use Rattle.record.specs.declared.Device.{Device}
use Rattle.record.specs.declared.ClockAddress.{ClockAddress}
use Rattle.record.specs.Part.{boots_of}
use Rattle.record.specs.Registers.{st, vbat, wdten, wdtif, wddel, seconds_at, day_at, watchdog_at, event_at, power_down_at, writable, kept, period_of, delay_ticks}
use Rattle.record.specs.Setters.{with_regs, with_sram, with_startup, with_watchdog, with_delay, with_events}
use Rattle.record.proofs.PeriodLaws.{period_least}
use Rattle.record.proofs.StampLaws.{unstamped_length, unstamped_other}
use Rattle.refusals.specs.InRange.{InRange}
use Rattle.refusals.proofs.KeepLaws.{ClockOf, Inside, AllInside, Paced, Halted, Signalled, startup_in, events_in, watchdog_in, delay_in, regs_in, regs_beside_in, set_inside, unstamped_inside, without_vbat_inside, Beside, beside, in_range_beside}
use Rattle.registers.specs.Write.{delay_after, day_written, after_write, under_mask, write_clock}

-- What holds of what each kind of WRITE leaves, holds of what WRITE leaves: a register's write with what follows from it; an SRAM byte; nothing.
pub write_case :
    (P : Device → Type 0) (boots : Bool) (d : Device) (a : ClockAddress) (v : ℕ)
    → ((s : ℕ) → a.0 < 32 → s ≡ under_mask (get_or writable a.0 0) (get_or d.regs a.0 0) v
    → P (after_write boots (vbat d.regs) a.0 (with_regs d (set d.regs a.0 s))))
    → ((k : ℕ) → P (with_sram d (set d.sram k v))) → P d → P (write_clock boots d a v)
unfolding write_clock
write_case P boots d a v p q r =
    pick_when P (ltb a.0 0x20) (λ t. p _ (ltb-true a.0 0x20 t) refl)
    (λ t. pick_case P (ltb a.0 0x60) (q _) r)

pub write_beside : (boots : Bool) (d : Device) (a : ClockAddress) (v : ℕ) → Beside d (write_clock boots d a v)
unfolding after_write
write_beside boots d a v =
    write_case (Beside d) boots d a v
    (λ s h e.
    pick_case (Beside d) (eqb a.0 seconds_at) (pick_case (Beside d) (not boots && not (st (set d.regs a.0 s))) (beside d) (beside d))
    (pick_case (Beside d) (eqb a.0 day_at) (beside d)
    (pick_case (Beside d) (eqb a.0 watchdog_at) (beside d)
    (pick_case (Beside d) (eqb a.0 event_at) (beside d) (beside d)))))
    (λ k. beside d) (beside d)

-- what follows from a write is a matter of counts and, at 04h, of VBAT and the time-stamps: no SRAM byte changes, and of other registers none
pub after_case :
    (P : List ℕ → Type 0) (boots before : Bool) (a : ℕ) (d : Device) → P d.regs → (a ≡ day_at → P (day_written before d.regs))
    → P (after_write boots before a d).regs × ((after_write boots before a d).sram ≡ d.sram)
unfolding after_write
after_case P boots before a d p q =
    let Q : Device → Type 0 = λ e. P e.regs × (e.sram ≡ d.sram) in
    pick_case Q (eqb a seconds_at) (pick_case Q (not boots && not (st d.regs)) (p, refl) (p, refl))
    (pick_when Q (eqb a day_at) (λ t. (q (eqb-true a day_at t), refl)) (λ t. pick_case Q (eqb a watchdog_at) (p, refl) (pick_case Q (eqb a event_at) (p, refl) (p, refl))))

day_length : (before : Bool) (regs : List ℕ) → length (day_written before regs) ≡ length regs
day_length before regs =
    let P : List ℕ → Type 0 = λ l. length l ≡ length regs in
    pick_case P (vbat regs) (pick_case P before refl (length-set regs day_at _)) (unstamped_length regs)

-- so that there are as many registers,
pub write_regs_length : (boots : Bool) (d : Device) (a : ClockAddress) (v : ℕ) → length (write_clock boots d a v).regs ≡ length d.regs
write_regs_length boots d a v =
    write_case (λ (e : Device). length e.regs ≡ length d.regs) boots d a v
    (λ s h e.
    let n = length-set d.regs a.0 s in
    (after_case (λ (l : List ℕ). length l ≡ length d.regs) boots (vbat d.regs) a.0 (with_regs d (set d.regs a.0 s)) n
    (λ q. day_length (vbat d.regs) (set d.regs a.0 s) ∙ n)).0)
    (λ k. refl) refl

-- and what holds of the SRAM, and of it with the byte stored, holds of the SRAM after WRITE
pub write_sram :
    (P : List ℕ → Type 0) (boots : Bool) (d : Device) (a : ClockAddress) (v : ℕ) → P d.sram → ((k : ℕ) → P (set d.sram k v))
    → P (write_clock boots d a v).sram
write_sram P boots d a v p q =
    write_case (λ (e : Device). P e.sram) boots d a v
    (λ s h e. subst P (sym (after_case (λ (l : List ℕ). Unit {0}) boots (vbat d.regs) a.0 (with_regs d (set d.regs a.0 s)) tt (λ z. tt)).1) p) q p

-- what WRITE stores is inside its mask: the writable bits are among those that a register may hold, and the others were
pub written_inside : (a old v : ℕ) → a < 32 → Inside a old → Inside a (under_mask (get_or writable a 0) old v)
unfolding every
written_inside a old v h i =
    over_inside old v (get_or writable a 0) _ (get_or kept a 0) i
    (same_below (λ (k : ℕ). bit_and (get_or writable k 0) (get_or kept k 0)) (λ (k : ℕ). get_or writable k 0) 32 refl a h)

-- at 04h what follows is inside the masks too
day_inside : (before : Bool) (regs : List ℕ) → AllInside regs → AllInside (day_written before regs)
day_inside before regs i =
    pick_case AllInside (vbat regs)
    (pick_case AllInside before i (without_vbat_inside regs i))
    (unstamped_inside regs i)

-- and leaves the registers below 18h but 04h alone
day_other : (before : Bool) (regs : List ℕ) (k : ℕ) → k < power_down_at → k ≢ day_at → get_or (day_written before regs) k 0 ≡ get_or regs k 0
day_other before regs k h n =
    let P : List ℕ → Type 0 = λ l. get_or l k 0 ≡ get_or regs k 0 in
    pick_case P (vbat regs) (pick_case P before refl (get_or-set_other regs day_at k _ 0 n)) (unstamped_other regs k h)

-- so it keeps a clock in range
day_in : (boots before : Bool) (d : Device) → ClockOf boots d → ClockOf boots (with_regs d (day_written before d.regs))
day_in boots before d r =
    let regs : List ℕ = d.regs in
    regs_beside_in boots d r (day_written before regs) (day_inside before regs r.inside)
    (day_other before regs watchdog_at (omega arith) (λ z. omega arith)) (day_other before regs seconds_at (omega arith) (λ z. omega arith))
    (day_other before regs event_at (omega arith) (λ z. omega arith))

-- What follows from a write keeps it in range, over the registers as the write left them; before it they were others.
after_in :
    (boots before : Bool) (a : ℕ) (old : List ℕ) (d : Device) → ClockOf boots (with_regs d old) → AllInside d.regs
    → (a ≢ watchdog_at → Paced d.counters d.regs) → (a ≢ seconds_at → Halted boots d.counters d.regs)
    → (a ≢ event_at → Signalled d.events d.regs) → ClockOf boots (after_write boots before a d)
unfolding after_write
after_in boots before a old d r i paced halted signalled =
    let o : Device = with_regs d old in
    pick_when (ClockOf boots) (eqb a seconds_at)
    (λ e.
    let n : a ≢ watchdog_at = λ q. omega (arith, eqb-true a seconds_at e) in
    let g : a ≢ event_at = λ q. omega (arith, eqb-true a seconds_at e) in
    pick_when (ClockOf boots) (not boots && not (st d.regs))
    (λ t. regs_in boots (with_startup o 0) (startup_in boots o r 0 (omega arith) (λ b z. refl)) d.regs i (paced n) (λ b z. refl) (signalled g))
    (λ t. regs_in boots o r d.regs i (paced n) (λ b z. absurd (true_false (simp (b, z)) t)) (signalled g)))
    (λ e.
    let m : a ≢ seconds_at = eqb-false a seconds_at e in
    pick_when (ClockOf boots) (eqb a day_at)
    (λ q.
    let n : a ≢ watchdog_at = λ z. omega (arith, eqb-true a day_at q) in
    let g : a ≢ event_at = λ z. omega (arith, eqb-true a day_at q) in
    day_in boots before d (regs_in boots o r d.regs i (paced n) (halted m) (signalled g)))
    (λ q.
    pick_when (ClockOf boots) (eqb a watchdog_at)
    (λ w.
    let v : ℕ = get_or d.regs watchdog_at 0 in
    let g : a ≢ event_at = λ z. omega (arith, eqb-true a watchdog_at w) in
    let l : delay_after v ≤ delay_ticks = pick_case (λ (n : ℕ). n ≤ delay_ticks) ((wdten v && wddel v) && not (wdtif v)) (omega arith) (omega arith) in
    regs_in boots (with_delay (with_watchdog o 0) (delay_after v))
    (delay_in boots (with_watchdog o 0) (watchdog_in boots o r 0 (omega (arith, period_least (get_or old watchdog_at 0)))) (delay_after v) l)
    d.regs i (omega (arith, period_least v)) (halted m) (signalled g))
    (λ w.
    pick_when (ClockOf boots) (eqb a event_at)
    (λ g.
    let none : (v : ℕ) → EventsIn v (no_counts d.events) = λ v. counts_none v d.events r.events.door r.events.drum in
    regs_in boots (with_events o (no_counts d.events)) (events_in boots o r (no_counts d.events) (none (get_or old event_at 0)))
    d.regs i (paced (eqb-false a watchdog_at w)) (halted m) (none (get_or d.regs event_at 0)))
    (λ g. regs_in boots o r d.regs i (paced (eqb-false a watchdog_at w)) (halted m) (signalled (eqb-false a event_at g))))))

-- a stored register and what follows from it
after_write_in :
    (boots before : Bool) (a s : ℕ) (d : Device) → Inside a s → ClockOf boots d → ClockOf boots (after_write boots before a (with_regs d (set d.regs a s)))
after_write_in boots before a s d i r =
    after_in boots before a d.regs (with_regs d (set d.regs a s)) r (set_inside d.regs a s i r.inside)
    (λ n. set_case (λ (v : ℕ). d.counters.watchdog < period_of v) d.regs a watchdog_at s (λ e. absurd (n (sym e))) r.watchdog)
    (λ n. set_case (λ (v : ℕ). boots ≡ false → bit v 7 ≡ false → d.counters.startup ≡ 0) d.regs a seconds_at s (λ e. absurd (n (sym e))) r.stopped)
    (λ n. set_case (λ (v : ℕ). EventsIn v d.events) d.regs a event_at s (λ e. absurd (n (sym e))) r.events)

-- WRITE keeps a record in range, at every address and of every value
pub write_in_range :
    (part : ℕ) (d : Device) (a : ClockAddress) (v : ℕ) → InRange part d → InRange part (write_clock (boots_of part) d a v)
write_in_range part d a v r =
    in_range_beside part d (write_clock (boots_of part) d a v) r (write_beside (boots_of part) d a v)
    (write_case (ClockOf (boots_of part)) (boots_of part) d a v
    (λ s h e.
    after_write_in (boots_of part) (vbat d.regs) a.0 s d (rw e (written_inside a.0 (get_or d.regs a.0 0) v h (r.clock.inside a.0 h))) r.clock)
    (λ k. r.clock) r.clock)
