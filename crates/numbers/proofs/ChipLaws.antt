-- What code needs of a list that begins with the numbers of part and record: how long it is, and which field each number fits; and the list put together.
-- Assumes nothing.
use mathlib.Core.Path.{◌≡◌, refl, sym, ap, subst, ◌∙◌}
use mathlib.Core.Bool.{true, not, ◌&&◌, ◌||◌}
use mathlib.Core.List.{List, [], ◌∷◌, ◌++◌, append_assoc}
use Prim.Native.Nat.{ℕ, suc, ◌+◌, ◌-◌, ◌<◌, ◌≤◌}
use native.Mathlib.Omega.{arith}
use borrow.Author.Tests.{ltb-true, ltb-false}
use lib.Dec.{ltb, eqb}
use lib.ListN.{length, take, drop, get_or, set, length-drop}
use lib.Seq.{take-suc-set, take-suc, take_all, get_or-drop}
use native.Mathlib.Numerals.{add-one}
use Rattle.base.specs.Words.{bit, every}
use Rattle.base.proofs.Tests.{by_cases, pick_case, both_left}
use Rattle.base.proofs.Every.{bound_below}
use Rattle.events.specs.Control.{even1, even0}
use Rattle.record.specs.Codes.{code_of, code_number}
use Rattle.record.specs.Part.{boots_of}
use Rattle.record.specs.Stages.{foreign_to_wip}
use Rattle.record.specs.Registers.{seconds_at, watchdog_at, event_at, period_of}
use Rattle.record.proofs.PartLaws.{size_most}
use Rattle.record.proofs.PeriodLaws.{period_most}
use Rattle.form.specs.Table.{part_in, register_in, power_in, stage_in, case_limit}
use Rattle.record.specs.declared.Device.{Device}
use Rattle.record.specs.World.{world}
use Rattle.form.specs.Chip.{head_numbers, tail_numbers, record_numbers, event_numbers, numbers_of}
use Rattle.form.specs.Facts.{RecordFacts, EventFacts}
use Rattle.form.proofs.EventLaws.{number_most, debounce_most}
use Rattle.numbers.proofs.TableLaws.{case_limit_past}

-- every number of the record is there
pub reach : (ns : List ℕ) → RecordFacts ns → 123 ≤ length ns
reach ns f = f.reach

-- the field that each number fits
pub record Fields (ns : List ℕ) : Type 0 where
  pub divider : get_or ns 97 0 < 65536
  pub startup : get_or ns 98 0 < 256
  pub watchdog : get_or ns 99 0 < 4294967296
  pub delay : get_or ns 100 0 < 4294967296
  pub pulse : get_or ns 101 0 < 65536
  pub protection : get_or ns 105 0 < 256
  pub lock : get_or ns 106 0 < 256
  pub kind : get_or ns 107 0 < 256
  pub which : get_or ns 108 0 < 256
  pub value : get_or ns 109 0 < 256
  pub offsets : get_or ns 110 0 < 256
  pub next : get_or ns 119 0 < 256
  pub target : get_or ns 120 0 < 256
  pub place : get_or ns 121 0 < 256
  pub left : get_or ns 122 0 < 256

abbrev Low : ℕ → Type 0
Low m = m ≤ 256

low : {n m : ℕ} → n < m → Low m → n < 256
low h l = omega (arith, h, l)

far : {n m k : ℕ} → n < m → m ≤ k → n < k
far h l = omega (arith, h, l)

lit : (m k : ℕ) → ltb m k ≡ true → m ≤ k
lit m k t = omega (arith, ltb-true m k t)

low_256 : Low 256
low_256 = omega arith

case_low : (k : ℕ) → Low (case_limit k)
unfolding every
case_low k =
    by_cases (ltb k 8) (λ t. below (bound_below case_limit 257 8 refl k (ltb-true k 8 t)))
    (λ t. subst Low (case_limit_past k (ltb-false k 8 t)) (lit 1 256 refl))
  where
    below : {n : ℕ} → n < 257 → n ≤ 256
    below h = omega (arith, h)

pub fields : (ns : List ℕ) → RecordFacts ns → Fields ns
fields ns f =
    let k = get_or ns 107 0 in
    let w = get_or ns 108 0 in
    let s = size_most (part_in ns) in
    record {
      divider = far f.divider (lit 32768 65536 refl);
      startup = low f.startup (pick_case Low (boots_of (part_in ns) || bit (register_in ns seconds_at) 7) (lit 33 256 refl) (lit 1 256 refl));
      watchdog = far f.watchdog (period_low (register_in ns watchdog_at));
      delay = far f.delay (lit 2097153 4294967296 refl);
      pulse = far f.pulse (lit 4097 65536 refl);
      protection = far f.protection (lit 4 256 refl);
      lock = far f.lock (lit 3 256 refl);
      kind = low f.kind (pick_case Low (power_in ns) (lit 8 256 refl) (lit 1 256 refl));
      which = low (ltb-true w (case_limit k) (both_left (ltb w (case_limit k)) (not (eqb k 3) || eqb (code_number (code_of w)) w) f.which)) (case_low k);
      value =
          low f.value
          (pick_case Low (eqb k 4 || eqb k 5) (pick_case Low (eqb w 0) s (pick_case Low (eqb w 1) low_256 (lit 16 256 refl)))
          (pick_case Low (eqb k 6 && ltb w 2) low_256 (lit 1 256 refl)));
      offsets = f.offsets;
      next = far f.next (lit 8 256 refl);
      target = far f.target (lit 3 256 refl);
      place = low f.place (pick_case Low (eqb (get_or ns 120 0) 0) s (pick_case Low (eqb (get_or ns 120 0) 1) (lit 16 256 refl) (lit 4 256 refl)));
      left = low f.left (pick_case Low (power_in ns && not (foreign_to_wip (stage_in ns))) (lit 165 256 refl) (lit 1 256 refl));
    }
  where
    period_low : (v : ℕ) → period_of v ≤ 4294967296
    period_low v = omega (arith, period_most v)

-- the same of the event inputs
pub record EventFields (k : ℕ) (ns : List ℕ) : Type 0 where
  pub door : get_or ns k 0 < 256
  pub drum : get_or ns (k + 1) 0 < 256
  pub edges : get_or ns (k + 2) 0 < 256
  pub since : get_or ns (k + 3) 0 < 65536
  pub debounce : get_or ns (k + 4) 0 < 65536

pub event_fields : (k : ℕ) (ns : List ℕ) → EventFacts k ns → EventFields k ns
event_fields k ns f =
    record {
      door = far f.door (lit 2 256 refl);
      drum = far f.drum (lit 2 256 refl);
      edges = low f.edges (pick_case Low (even1 v) (few (number_most v)) (lit 1 256 refl));
      since = far f.since (pick_case Small (ltb 0 (get_or ns (k + 2) 0)) (lit 8193 65536 refl) (lit 1 65536 refl));
      debounce = far f.debounce (pick_case Small (even0 v && ltb 0 (get_or ns k 0)) (short (debounce_most v)) (lit 1 65536 refl));
    }
  where
    Small : ℕ → Type 0
    Small m = m ≤ 65536

    v : ℕ
    v = register_in ns event_at

    few : {n : ℕ} → n ≤ 32 → n ≤ 256
    few h = omega (arith, h)

    short : {n : ℕ} → n ≤ 16384 → suc n ≤ 65536
    short h = omega (arith, h)

-- bytes taken one by one from a list of numbers
pub take_more :
    (ns l : List ℕ) (k i : ℕ) → i < length l → k + i < length ns → take i l ≡ take i (drop k ns)
    → take (i + 1) (set l i (get_or ns (k + i) 0)) ≡ take (i + 1) (drop k ns)
take_more ns l k i h g e =
    let m : i < length (drop k ns) = left_over (length-drop k ns) g in
    ap (λ (n : ℕ). take n (set l i (get_or ns (k + i) 0))) (add-one i)
    ∙ take-suc-set l i (get_or ns (k + i) 0) h
    ∙ (λ j. e j ++ (sym (get_or-drop k ns i 0) j ∷ []))
    ∙ sym (take-suc (drop k ns) i 0 m)
    ∙ ap (λ (n : ℕ). take n (drop k ns)) (sym (add-one i))
  where
    left_over : {a b : ℕ} → a ≡ b - k → k + i < b → i < a
    left_over p q = omega (arith, p, q)

pub taken_all : (ns l m : List ℕ) (k i : ℕ) → i ≡ length m → length l ≡ length m → take i l ≡ take i (drop k ns) → l ≡ take (length m) (drop k ns)
taken_all ns l m k i e f g = sym (take_all i l (short f e)) ∙ g ∙ ap (λ (n : ℕ). take n (drop k ns)) e
  where
    short : {a b c : ℕ} → a ≡ b → c ≡ b → a ≤ c
    short p q = omega (arith, p, q)

-- the pieces of the list, one after another
pub numbers_joined :
    (part : ℕ) (d : Device) (ee id : List ℕ)
    → ((part ∷ []) ++ record_numbers d) ++ ((ee ++ id) ++ event_numbers d.events) ≡ numbers_of part (world d ee id)
unfolding numbers_of
numbers_joined part d ee id =
    ap (λ (l : List ℕ). part ∷ l)
    (pieces d.regs d.sram (head_numbers d) d.load.bytes (tail_numbers d.load d.cycle) ((ee ++ id) ++ event_numbers d.events)
    ∙ ap
    (λ (x : List ℕ). d.regs ++ (d.sram ++ (head_numbers d ++ (d.load.bytes ++ (tail_numbers d.load d.cycle ++ x)))))
    (append_assoc ee id (event_numbers d.events)))
  where
    pieces : (r s h l t m : List ℕ) → (((r ++ s) ++ h) ++ (l ++ t)) ++ m ≡ r ++ (s ++ (h ++ (l ++ (t ++ m))))
    pieces r s h l t m =
        append_assoc ((r ++ s) ++ h) (l ++ t) m
        ∙ append_assoc (r ++ s) h ((l ++ t) ++ m)
        ∙ append_assoc r s (h ++ ((l ++ t) ++ m))
        ∙ ap (λ (x : List ℕ). r ++ (s ++ (h ++ x))) (append_assoc l t m)
