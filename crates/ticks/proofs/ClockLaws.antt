-- Laws of the calendar's and the alarms' parts of a tick: what they do to the registers.
-- Assumes nothing.
use mathlib.Core.Path.{◌≡◌, refl, sym, subst, ◌∙◌}
use mathlib.Core.Bool.{Bool, true, false}
use mathlib.Core.Logic.{◌⊎◌, inl, inr, ⊎_elim, ◌≢◌}
use mathlib.Core.List.{List}
use Prim.Native.Nat.{ℕ, ◌<◌, ◌≤◌}
use native.Mathlib.Omega.{arith}
use lib.Bits.{bit_or}
use lib.ListN.{length, get_or, set, length-set}
use Rattle.base.specs.Words.{pick, bit}
use Rattle.base.proofs.Tests.{pick_case}
use Rattle.base.proofs.StoreLaws.{set_each}
use Rattle.calendar.specs.declared.Time.{Time}
use Rattle.calendar.specs.Time.{advanced}
use Rattle.calendar.proofs.TimeLaws.{TimeEach, time_bytes, each_of, st_stays, vbaten_stays, vbat_stays}
use Rattle.record.specs.declared.Device.{Device}
use Rattle.record.specs.Registers.{st, vbaten, vbat, seconds_at, day_at, alarm0_at, alarm1_at}
use Rattle.record.specs.Setters.{with_regs}
use Rattle.ticks.specs.Clock.{time_of, with_time, running, due, divider_tick, calendar_tick, alarm_tick}
use Rattle.ticks.proofs.AlarmLaws.{alarmed_each, alarmed_length}

-- the divider's step leaves the registers
pub divider_regs : (runs : Bool) (d : Device) → divider_tick runs d ≡ with_regs (divider_tick runs d) d.regs
divider_regs true d = refl
divider_regs false d = refl

-- where the hundredths do not advance, calendar and alarms are the divider's step
pub clock_still :
    (counted : Bool) (d : Device) → due counted d ≡ false → divider_tick (running counted d) d ≡ alarm_tick counted d (calendar_tick counted d)
unfolding calendar_tick
clock_still counted d e = divider_regs (running counted d) d ∙ simp e

-- What holds of each register, and of each new time byte at its register, holds of each register with the new time.
pub with_time_each :
    (P : ℕ → ℕ → Type 0) (regs : List ℕ) (t : Time) → TimeEach P t → ((k : ℕ) → P k (get_or regs k 0))
    → (k : ℕ) → P k (get_or (with_time regs t) k 0)
unfolding with_time
with_time_each P regs t e q =
    let l1 : List ℕ = set regs 0x00 t.hundredths in
    let l2 : List ℕ = set l1 0x01 t.seconds in
    let l3 : List ℕ = set l2 0x02 t.minutes in
    let l4 : List ℕ = set l3 0x03 t.hours in
    let l5 : List ℕ = set l4 0x04 t.day in
    let l6 : List ℕ = set l5 0x05 t.date in
    let l7 : List ℕ = set l6 0x06 t.month in
    set_each P l7 0x07 t.year e.year
    (set_each P l6 0x06 t.month e.month
    (set_each P l5 0x05 t.date e.date
    (set_each P l4 0x04 t.day e.day
    (set_each P l3 0x03 t.hours e.hours
    (set_each P l2 0x02 t.minutes e.minutes
    (set_each P l1 0x01 t.seconds e.seconds
    (set_each P regs 0x00 t.hundredths e.hundredths q)))))))

-- the same of the calendar's and the alarms' parts
pub clock_each :
    (P : ℕ → ℕ → Type 0) (counted : Bool) (d : Device)
    → TimeEach P (advanced (time_of d.regs)).time
    → ((v : ℕ) → P alarm0_at v → P alarm0_at (bit_or v 0x08))
    → ((v : ℕ) → P alarm1_at v → P alarm1_at (bit_or v 0x08))
    → ((k : ℕ) → P k (get_or d.regs k 0))
    → (k : ℕ) → P k (get_or (alarm_tick counted d (calendar_tick counted d)).regs k 0)
unfolding calendar_tick
clock_each P counted d e f g q =
    let regs : List ℕ = pick (due counted d) (with_time d.regs (advanced (time_of d.regs)).time) d.regs in
    let p : (k : ℕ) → P k (get_or regs k 0) =
    pick_case (λ (l : List ℕ). (k : ℕ) → P k (get_or l k 0)) (due counted d)
    (with_time_each P d.regs (advanced (time_of d.regs)).time e q) q
    in
    pick_case (λ (l : List ℕ). (k : ℕ) → P k (get_or l k 0)) (due counted d)
    (alarmed_each P (advanced (time_of d.regs)) regs f g p) p

-- Of one register: what holds of it, of the new time byte that goes there and of an alarm's register with its flag set, holds of it
-- after the tick.
pub clock_register :
    (Q : ℕ → Type 0) (counted : Bool) (d : Device) (k : ℕ)
    → (k < 8 → Q (get_or (time_bytes (advanced (time_of d.regs)).time) k 0))
    → ((k ≡ alarm0_at) ⊎ (k ≡ alarm1_at) → (v : ℕ) → Q v → Q (bit_or v 0x08))
    → Q (get_or d.regs k 0)
    → Q (get_or (alarm_tick counted d (calendar_tick counted d)).regs k 0)
clock_register Q counted d k p f q =
    let t : Time = (advanced (time_of d.regs)).time in
    clock_each (λ j v. j ≡ k → Q v) counted d
    (each_of (λ j v. j ≡ k → Q v) t (λ j h e. subst (λ (i : ℕ). Q (get_or (time_bytes t) i 0)) (sym e) (p (omega arith))))
    (λ v h e. f (inl (sym e)) v (h e))
    (λ v h e. f (inr (sym e)) v (h e))
    (λ j e. subst (λ (i : ℕ). Q (get_or d.regs i 0)) (sym e) q)
    k refl

-- a register that is no time register and has no alarm's flag stays
pub clock_other :
    (counted : Bool) (d : Device) (k : ℕ) → 8 ≤ k → k ≢ alarm0_at → k ≢ alarm1_at
    → get_or (alarm_tick counted d (calendar_tick counted d)).regs k 0 ≡ get_or d.regs k 0
clock_other counted d k h a b =
    clock_register (λ (v : ℕ). v ≡ get_or d.regs k 0) counted d k (λ l. absurd (omega arith)) (λ e. absurd (⊎_elim a b e)) refl

-- a bit of a time register that the calendar leaves stays; so ST, VBATEN and VBAT
clock_bit :
    (counted : Bool) (d : Device) (a k : ℕ) → a < 8
    → bit (get_or (time_bytes (advanced (time_of d.regs)).time) a 0) k ≡ bit (get_or d.regs a 0) k
    → bit (get_or (alarm_tick counted d (calendar_tick counted d)).regs a 0) k ≡ bit (get_or d.regs a 0) k
clock_bit counted d a k h s =
    clock_register (λ (v : ℕ). bit v k ≡ bit (get_or d.regs a 0) k) counted d a (λ l. s)
    (λ e. absurd (⊎_elim (λ z. omega arith) (λ z. omega arith) e))
    refl

pub clock_st :
    (counted : Bool) (d : Device)
    → st (alarm_tick counted d (calendar_tick counted d)).regs ≡ st d.regs
clock_st counted d = clock_bit counted d seconds_at 7 (omega arith) (st_stays (time_of d.regs))

pub clock_vbaten :
    (counted : Bool) (d : Device)
    → vbaten (alarm_tick counted d (calendar_tick counted d)).regs ≡ vbaten d.regs
clock_vbaten counted d = clock_bit counted d day_at 3 (omega arith) (vbaten_stays (time_of d.regs))

pub clock_vbat :
    (counted : Bool) (d : Device)
    → vbat (alarm_tick counted d (calendar_tick counted d)).regs ≡ vbat d.regs
clock_vbat counted d = clock_bit counted d day_at 4 (omega arith) (vbat_stays (time_of d.regs))

-- the number of registers
with_time_length : (regs : List ℕ) (t : Time) → length (with_time regs t) ≡ length regs
unfolding with_time
with_time_length regs t = simp length-set

pub clock_regs_length :
    (counted : Bool) (d : Device) → length (alarm_tick counted d (calendar_tick counted d)).regs ≡ length d.regs
unfolding calendar_tick
clock_regs_length counted d =
    let regs : List ℕ = pick (due counted d) (with_time d.regs (advanced (time_of d.regs)).time) d.regs in
    let p : length regs ≡ length d.regs =
    pick_case (λ (l : List ℕ). length l ≡ length d.regs) (due counted d)
    (with_time_length d.regs (advanced (time_of d.regs)).time) refl
    in
    pick_case (λ (l : List ℕ). length l ≡ length d.regs) (due counted d)
    (alarmed_length (advanced (time_of d.regs)) regs ∙ p) p
