-- EVWDT: which level set at EVHS makes the watchdog's count 0; and IRQ under a flag.
-- Assumes nothing.
use Prim.Native.Nat.{ℕ, ◌≤◌}
use native.Mathlib.Omega.{arith}
use mathlib.Core.Path.{◌≡◌, refl, ap, ◌∙◌}
use mathlib.Core.Bool.{Bool, true, false, ◌&&◌, ◌||◌, or-true}
use mathlib.Core.Logic.{◌≢◌}
use borrow.Author.Tests.{eqb-true, eqb-false, eq-eqb, lt-ltb, le-ltb, ltb-false}
use lib.Dec.{ltb, eqb}
use lib.ListN.{get_or}
use Rattle.base.proofs.Tests.{by_cases, neither}
use Rattle.events.specs.Control.{evhif, evlif, evwdt, pulls_irq}
use Rattle.events.specs.Pins.{rising, falling, zeroes_watchdog}
use Rattle.record.specs.declared.Act.TheVariants.{Set}
use Rattle.record.specs.declared.Device.{Device}
use Rattle.record.specs.declared.Pin.{Pin}
use Rattle.record.specs.declared.Pin.TheVariants.{Evls, Evhs}
use Rattle.record.specs.Registers.{event_at}
use Rattle.record.specs.Setters.{inputs_of, with_watchdog}
use Rattle.record.specs.World.{World}
use Rattle.refusals.proofs.TableLaws as table
use Rattle.ticks.specs.Lines.{irq_low}
use Rattle.pins.specs.Set.{after_set}
use Rattle.acts.specs.Act.{Outcome, performed}
use Rattle.acts.proofs.OutcomeLaws.{performed_case, done_passed, done_as}
use Rattle.acts.proofs.SuitedLaws.{passed_range}
use Rattle.signals.specs.Claim.{control}
use Rattle.signals.specs.Before.{irq_before}

-- V11
pub irq_pulled : (d : Device) → (evhif (get_or d.regs event_at 0) || evlif (get_or d.regs event_at 0)) ≡ true → irq_low d ≡ true
unfolding irq_low irq_before pulls_irq
irq_pulled d t = ap (λ (b : Bool). irq_before d || b) t ∙ or-true (irq_before d)

-- V2. the level that is there is no edge; another, of 0 and 1, is one
no_rise : (l : ℕ) → rising l l ≡ false
no_rise l = by_cases (eqb l 0) (λ t. rw (t, le-ltb 0 l (omega (arith, eqb-true l 0 t)))) (λ f. rw f)

no_fall : (l : ℕ) → falling l l ≡ false
no_fall l = by_cases (eqb l 0) (λ t. rw (le-ltb 0 l (omega (arith, eqb-true l 0 t)))) (λ f. rw f (and_no (ltb 0 l)))
  where
    and_no : (b : Bool) → (b && false) ≡ false
    and_no true = refl
    and_no false = refl

edge : (old new : ℕ) → old ≤ 1 → new ≤ 1 → new ≢ old → (rising old new || falling old new) ≡ true
edge old new a b n =
    by_cases (eqb old 0)
    (λ t. let z = eqb-true old 0 t in rw (t, lt-ltb 0 new (omega (arith, b, z, n))))
    (λ f. let z = eqb-false old 0 f in rw (f, lt-ltb 0 old (omega (arith, z)), eq-eqb new 0 (omega (arith, a, b, z, n))))

-- V7
module _ (level : ℕ) (d : Device) where
  pub drum_kicks :
      d.events.drum ≤ 1 → level ≤ 1 → evwdt (get_or d.regs event_at 0) ≡ true → level ≢ d.events.drum
      → (after_set Evhs level d).counters ≡ (with_watchdog d 0).counters
  unfolding after_set zeroes_watchdog
  drum_kicks a b t n = rw (t, edge d.events.drum level a b n)

  quiet_edge : (evwdt (get_or d.regs event_at 0) ≡ true → level ≡ d.events.drum) → zeroes_watchdog level (inputs_of d) ≡ false
  unfolding zeroes_watchdog
  quiet_edge h =
      by_cases (evwdt (get_or d.regs event_at 0))
      (λ t. rw (t, h t) (neither (no_rise d.events.drum) (no_fall d.events.drum))) (λ f. rw f)

  pub pin_leaves : (p : Pin) → (p ≡ Evhs → evwdt (get_or d.regs event_at 0) ≡ true → level ≡ d.events.drum) → (after_set p level d).counters ≡ d.counters
  unfolding after_set
  pin_leaves Evls h = refl
  pin_leaves Evhs h = rw (quiet_edge (h refl))

pub act_kicks :
    (part arg : ℕ) (w : World) → (performed part (Set Evhs) arg w).number ≡ 0 → evwdt (control w) ≡ true → arg ≢ w.device.events.drum
    → (performed part (Set Evhs) arg w).after.device.counters ≡ (with_watchdog w.device 0).counters
act_kicks part arg w e t n =
    let p = done_passed part (Set Evhs) arg w e in
    ap (λ (o : Outcome). o.after.device.counters) (done_as part (Set Evhs) arg w e)
    ∙ drum_kicks arg w.device (passed_range part (Set Evhs) arg w p).clock.events.drum
    (ltb-false 1 arg (table.accepted part (Set Evhs) arg w.device _ _ p).arg) t n

pub act_leaves :
    (part : ℕ) (p : Pin) (arg : ℕ) (w : World) → (p ≡ Evhs → evwdt (control w) ≡ true → arg ≡ w.device.events.drum)
    → (performed part (Set p) arg w).after.device.counters ≡ w.device.counters
act_leaves part p arg w h =
    performed_case (λ (x : World). x.device.counters ≡ w.device.counters) part (Set p) arg w refl (λ e. pin_leaves arg w.device p h)
