-- What a cut and an up do to the time-stamps, VBAT and the mark, in each of their cases. Where something is copied there are 32 registers.
-- Assumes nothing.
use Prim.Native.Nat.{ℕ, ◌<◌, ◌≤◌}
use native.Mathlib.Omega.{arith}
use mathlib.Core.Path.{◌≡◌, refl, sym, ap, subst, ◌∙◌}
use mathlib.Core.Bool.{true, false}
use mathlib.Core.Logic.{inl, inr, ◌≢◌}
use mathlib.Core.List.{List}
use lib.ListN.{length, get_or}
use lib.Seq.{get_or-set_other}
use Rattle.base.specs.Words.{every, bit}
use Rattle.base.proofs.Tests.{pick_when, true_false, yes, no}
use Rattle.base.proofs.Every.{same_from}
use Rattle.record.specs.declared.Device.{Device}
use Rattle.record.specs.Fresh.{fresh_regs}
use Rattle.record.specs.Registers.{vbaten, vbat, day_at, watchdog_at, power_down_at, power_up_at}
use Rattle.record.specs.Stamps.{stamped, NoStamps, SameStamps, Shows}
use Rattle.record.proofs.StampLaws.{with_vbat_lem, stamped_other, stamped_length, stamped_shows, shows_kept}
use Rattle.power.specs.Power.{failure_stamped, takes_stamp, after_cut, after_up}
use Rattle.power.proofs.PowerLaws.{cut_case, cut_beside}

-- a cut on the battery leaves every register but 0Ah to the failure's time-stamp
cut_register : (mask : ℕ) (d : Device) (k : ℕ) → vbaten d.regs ≡ true → k ≢ watchdog_at → get_or (after_cut mask d).regs k 0 ≡ get_or (failure_stamped d.regs) k 0
cut_register mask d k t n =
    cut_case (λ (e : Device). get_or e.regs k 0 ≡ get_or (failure_stamped d.regs) k 0) mask d
    (λ u. get_or-set_other (failure_stamped d.regs) watchdog_at k _ 0 n) (λ f. absurd (true_false t f))

-- the mark of a cut
pub cut_mark_lem : (mask : ℕ) (d : Device) → (after_cut mask d).mark ≡ takes_stamp d.regs
cut_mark_lem mask d = (cut_beside mask d).mark

-- VBAT is set where it was not, and beside it nothing but the time-stamp changes
failure_vbat : (regs : List ℕ) → takes_stamp regs ≡ true → day_at < length regs → vbat (failure_stamped regs) ≡ true
failure_vbat regs t l =
    pick_when (λ (x : List ℕ). vbat x ≡ true) (takes_stamp regs)
    (λ u. with_vbat_lem (stamped power_down_at regs) (omega (arith, l, stamped_length power_down_at regs))) (λ f. absurd (true_false t f))

failure_stamp : (regs : List ℕ) (k : ℕ) → takes_stamp regs ≡ true → power_down_at ≤ k → get_or (failure_stamped regs) k 0 ≡ get_or (stamped power_down_at regs) k 0
failure_stamp regs k t h =
    pick_when (λ (x : List ℕ). get_or x k 0 ≡ get_or (stamped power_down_at regs) k 0) (takes_stamp regs)
    (λ u. get_or-set_other (stamped power_down_at regs) day_at k _ 0 (λ z. omega arith)) (λ f. absurd (true_false t f))

-- P13. A cut that finds VBATEN set and VBAT clear.
pub record Stamped (d e : Device) : Type 0 where
  pub down : Shows power_down_at e.regs d.regs
  pub up : (k : ℕ) → power_up_at ≤ k → get_or e.regs k 0 ≡ get_or d.regs k 0
  pub vbat : vbat e.regs ≡ true
  pub mark : e.mark ≡ true

pub cut_stamps : (mask : ℕ) (d : Device) → vbaten d.regs ≡ true → vbat d.regs ≡ false → length d.regs ≡ 32 → Stamped d (after_cut mask d)
cut_stamps mask d t f l =
    let regs : List ℕ = d.regs in
    let s : List ℕ = stamped power_down_at regs in
    let u : takes_stamp regs ≡ true = simp (t, f) in
    let at : (k : ℕ) → power_down_at ≤ k → get_or (after_cut mask d).regs k 0 ≡ get_or s k 0 =
    λ k h. cut_register mask d k t (λ z. omega arith) ∙ failure_stamp regs k u h in
    record {
      down = shows_kept power_down_at s (after_cut mask d).regs regs (λ k h g. at k h) (stamped_shows power_down_at regs (omega (arith, l)));
      up = λ k h. at k (omega arith) ∙ stamped_other power_down_at regs k (inr h);
      vbat = ap (λ (n : ℕ). bit n 4) (cut_register mask d day_at t (λ z. omega arith)) ∙ failure_vbat regs u (omega (arith, l));
      mark = cut_mark_lem mask d ∙ u;
    }

-- P14. A cut that finds VBATEN and VBAT set leaves both time-stamps, and no mark.
pub record Held (d e : Device) : Type 0 where
  pub stamps : SameStamps d.regs e.regs
  pub vbat : vbat e.regs ≡ true
  pub mark : e.mark ≡ false

pub cut_held : (mask : ℕ) (d : Device) → vbaten d.regs ≡ true → vbat d.regs ≡ true → Held d (after_cut mask d)
cut_held mask d t v =
    let u : takes_stamp d.regs ≡ false = simp (t, v) in
    let e : failure_stamped d.regs ≡ d.regs = sym (no _ d.regs u) in
    let at : (k : ℕ) → k ≢ watchdog_at → get_or (after_cut mask d).regs k 0 ≡ get_or d.regs k 0 =
    λ k n. cut_register mask d k t n ∙ ap (λ (x : List ℕ). get_or x k 0) e in
    record {
      stamps = λ k h. at k (λ z. omega arith);
      vbat = ap (λ (n : ℕ). bit n 4) (at day_at (λ z. omega arith)) ∙ v;
      mark = cut_mark_lem mask d ∙ u;
    }

-- P14. One that finds VBATEN clear leaves both time-stamps 0, VBAT clear and no mark.
pub record Lost (e : Device) : Type 0 where
  pub stamps : NoStamps e.regs
  pub vbat : vbat e.regs ≡ false
  pub mark : e.mark ≡ false

pub fresh_stamp : NoStamps fresh_regs
unfolding every
fresh_stamp k l h = same_from (λ (n : ℕ). get_or fresh_regs n 0) 0 power_down_at 8 refl k l (omega arith)

pub cut_lost : (mask : ℕ) (d : Device) → vbaten d.regs ≡ false → Lost (after_cut mask d)
cut_lost mask d f =
    let regs : (after_cut mask d).regs ≡ fresh_regs = cut_case (λ (e : Device). e.regs ≡ fresh_regs) mask d (λ t. absurd (true_false t f)) (λ t. refl) in
    record {
      stamps = subst NoStamps (sym regs) fresh_stamp;
      vbat = ap vbat regs;
      mark = cut_mark_lem mask d ∙ simp f;
    }

-- P15. An up that finds the mark copies the time into the power-up time-stamp; one that finds none changes no register. Neither leaves a mark.
pub up_mark_lem : (d : Device) → (after_up d).mark ≡ false
unfolding after_up
up_mark_lem d = refl

pub record Returned (d e : Device) : Type 0 where
  pub up : Shows power_up_at e.regs d.regs
  pub others : (k : ℕ) → k < power_up_at → get_or e.regs k 0 ≡ get_or d.regs k 0

pub up_stamps : (d : Device) → d.mark ≡ true → length d.regs ≡ 32 → Returned d (after_up d)
unfolding after_up
up_stamps d t l =
    let regs : List ℕ = d.regs in
    let s : List ℕ = stamped power_up_at regs in
    let e : (after_up d).regs ≡ s = sym (yes s regs t) in
    record {
      up = subst (λ (x : List ℕ). Shows power_up_at x regs) (sym e) (stamped_shows power_up_at regs (omega (arith, l)));
      others = λ k h. ap (λ (x : List ℕ). get_or x k 0) e ∙ stamped_other power_up_at regs k (inl h);
    }

pub up_leaves : (d : Device) → d.mark ≡ false → (after_up d).regs ≡ d.regs
unfolding after_up
up_leaves d f = sym (no (stamped power_up_at d.regs) d.regs f)
