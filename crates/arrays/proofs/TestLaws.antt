-- The tests of code hold of a state array exactly where the table's do.
-- Assumes nothing.
use mathlib.Core.Path.{◌≡◌, refl, sym, ap, ◌∙◌}
use mathlib.Core.Logic.{◌≢◌, ⊎_elim}
use mathlib.Core.Bool.{Bool, true, false, not, ◌&&◌, ◌||◌}
use mathlib.Core.List.{List}
use Prim.Native.Nat.{ℕ, zero, suc, ◌+◌, ◌<◌, ◌≤◌, min}
use native.Mathlib.Omega.{arith}
use native.Mathlib.Numerals.{add-one}
use borrow.Author.Tests.{lt-ltb, ltb-true, ltb-false, leb-false, leb-true, eqb-true, eq-eqb, ne_eqb, not-false}
use lib.Dec.{ltb, leb, eqb}
use lib.Bits.{bit_and}
use lib.ListN.{length, take, drop, get_or, length-drop}
use lib.Seq.{get_or-take, get_or-drop, length-take-le}
use Rattle.std.specs.List.{fold, zip}
use Rattle.std.proofs.lemmas.List.{take_all}
use Rattle.std.proofs.lemmas.List.Sums.{fold_more}
use Rattle.std.proofs.lemmas.Slice.Zip.{length-zip, get_or-zip}
use Rattle.base.specs.Words.{bit, every}
use Rattle.base.proofs.Tests.{by_cases, true_false, either, neither_left, neither_right, none_holds, some_holds}
use Rattle.base.proofs.Every.{every_at, every_all, same_below}
use Rattle.record.specs.Numbers.{stage_of}
use Rattle.record.specs.Part.{is_part, size_of, boots_of}
use Rattle.record.specs.Registers.{writable, kept, power_down_at, event_at, period_of}
use Rattle.record.specs.Stages.{foreign_to_wip}
use Rattle.record.specs.World.{Bytes}
use Rattle.record.proofs.StampLaws.{same_masks, stamp_mask}
use Rattle.form.specs.Table.{part_in, register_in, startup_by, startup_limit, watchdog_limit, mark_by, mark_limit, kind_by, kind_limit, case_good, value_limit, target_limit, left_by, left_limit, edges_by, since_by, debounce_by}
use Rattle.form.specs.Facts.{RecordFacts, EventFacts}
use Rattle.form.specs.Chip.{is_record}
use Rattle.form.specs.State.{array_numbers, state_bytes, is_state}
use Rattle.form.proofs.FactLaws.{facts_recorded, recorded_facts}
use Rattle.form.proofs.StateLaws.{low_at, count_at_lem, high_at, event_at_lem, numbers_long}
use Rattle.numbers.proofs.TableLaws.{left_told}
use Rattle.arrays.specs.Tests.{is_kept_at, outside, clock_tests, frame_tests, event_tests, clock_bad, frame_bad, events_bad}

-- a whole byte under a mask of all its bits
whole_mask_lem : (v : ℕ) → v < 256 → bit_and v 0xff ≡ v
unfolding every
whole_mask_lem v h = same_below (λ (k : ℕ). bit_and k 0xff) (λ (k : ℕ). k) 256 refl v h

-- a number below a limit, both told in another way
low : {a b m k : ℕ} → a ≡ b → m ≡ k → b < k → a < m
low e f h = omega (arith, e, f, h)

held : {t : Bool} → t ≡ true → not t ≡ true → ⊥
held p q = true_false q (ap not p)

over : {n m : ℕ} → n < m → leb m n ≡ true → ⊥
over {n} {m} h t = omega (arith, h, leb-true m n t)

module _ (bs : List ℕ) (l : length bs ≡ 142) where
  abbrev ns : List ℕ
  ns = array_numbers bs

  -- limits by the array's bytes
  part_at : part_in ns ≡ get_or bs 0 0
  part_at = low_at bs l 0 (omega arith)

  startup_at : startup_limit ns ≡ startup_by (boots_of (get_or bs 0 0)) (bit (get_or bs 2 0) 7)
  startup_at i = startup_by (boots_of (part_at i)) (bit (low_at bs l 2 (ltb-true 2 97 refl) i) 7)

  watchdog_at_lem : watchdog_limit ns ≡ period_of (get_or bs 11 0)
  watchdog_at_lem i = period_of (low_at bs l 11 (ltb-true 11 97 refl) i)

  mark_at : mark_limit ns ≡ mark_by (eqb (get_or bs 112 0) 1)
  mark_at i = mark_by (eqb (high_at bs l 0 refl i) 1)

  kind_at : kind_limit ns ≡ kind_by (eqb (get_or bs 112 0) 1)
  kind_at i = kind_by (eqb (high_at bs l 0 refl i) 1)

  case_at : case_good (get_or ns 107 0) (get_or ns 108 0) ≡ case_good (get_or bs 117 0) (get_or bs 118 0)
  case_at i = case_good (high_at bs l 5 refl i) (high_at bs l 6 refl i)

  value_at : value_limit (size_of (part_in ns)) (get_or ns 107 0) (get_or ns 108 0) ≡ value_limit (size_of (get_or bs 0 0)) (get_or bs 117 0) (get_or bs 118 0)
  value_at i = value_limit (size_of (part_at i)) (high_at bs l 5 refl i) (high_at bs l 6 refl i)

  place_at : target_limit (size_of (part_in ns)) (get_or ns 120 0) ≡ target_limit (size_of (get_or bs 0 0)) (get_or bs 130 0)
  place_at i = target_limit (size_of (part_at i)) (high_at bs l 18 refl i)

  left_at : left_limit ns ≡ left_by (eqb (get_or bs 112 0) 1) (foreign_to_wip (stage_of (get_or bs 117 0) (get_or bs 118 0) 0))
  left_at = sym (left_told ns) ∙ (λ i. left_by (eqb (high_at bs l 0 refl i) 1) (foreign_to_wip (stage_of (high_at bs l 5 refl i) (high_at bs l 6 refl i) 0)))

  register_at : (j : ℕ) → j < 32 → register_in ns j ≡ get_or bs (1 + j) 0
  register_at j h = low_at bs l (1 + j) (omega (arith, h))

  -- a register's mask, by its place
  kept_at : every (is_kept_at bs) power_down_at ≡ true → Bytes bs → (j : ℕ) → j < 32 → bit_and (get_or bs (1 + j) 0) (get_or kept j 0) ≡ get_or bs (1 + j) 0
  kept_at t b j h =
      by_cases (ltb j power_down_at)
      (λ u.
      let i = ltb-true j power_down_at u in
      ap (bit_and (get_or bs (1 + j) 0)) (sym (same_masks j i)) ∙ eqb-true _ _ (every_at (is_kept_at bs) power_down_at t j i))
      (λ u. ap (bit_and (get_or bs (1 + j) 0)) (stamp_mask j (ltb-false j power_down_at u) h) ∙ whole_mask_lem (get_or bs (1 + j) 0) (b (1 + j)))

  -- where no test holds, the facts do
  clear_facts : Bytes bs → clock_bad bs ≡ false → frame_bad bs ≡ false → RecordFacts ns
  unfolding clock_bad frame_bad
  clear_facts b e g =
      let (part, (regs, (divider, (startup, (watchdog, (delay, (pulse, _))))))) = none_holds (clock_tests bs) e in
      let (power, (mark, (wel, (bp, (lock, (kind, (which, (value, (next, (target, (place, (left, _)))))))))))) = none_holds (frame_tests bs) g in
      record {
        reach = omega (arith, numbers_long bs l);
        part = ap is_part part_at ∙ not-false _ part;
        reg_bytes = λ j h. low (register_at j h) refl (b (1 + j));
        regs = λ j h. (λ i. bit_and (register_at j h i) (get_or kept j 0)) ∙ kept_at (not-false _ regs) b j h ∙ sym (register_at j h);
        sram = λ j h. low (low_at bs l (33 + j) (omega (arith, h))) refl (b (33 + j));
        divider = low (count_at_lem bs l 0) refl (leb-false _ _ divider);
        startup = low (count_at_lem bs l 1) startup_at (leb-false _ _ startup);
        watchdog = low (count_at_lem bs l 2) watchdog_at_lem (leb-false _ _ watchdog);
        delay = low (count_at_lem bs l 3) refl (leb-false _ _ delay);
        pulse = low (count_at_lem bs l 4) refl (leb-false _ _ pulse);
        power = low (high_at bs l 0 refl) refl (leb-false _ _ power);
        mark = low (high_at bs l 1 refl) mark_at (leb-false _ _ mark);
        wel = low (high_at bs l 2 refl) refl (leb-false _ _ wel);
        protection = low (high_at bs l 3 refl) refl (leb-false _ _ bp);
        lock = low (high_at bs l 4 refl) refl (leb-false _ _ lock);
        kind = low (high_at bs l 5 refl) kind_at (leb-false _ _ kind);
        which = case_at ∙ not-false _ which;
        value = low (high_at bs l 7 refl) value_at (leb-false _ _ value);
        offsets = low (high_at bs l 8 refl) refl (b 120);
        load = λ j h. low (load_at j (lt-ltb (9 + j) 21 (omega (arith, h)))) refl (b (121 + j));
        next = low (high_at bs l 17 refl) refl (leb-false _ _ next);
        target = low (high_at bs l 18 refl) refl (leb-false _ _ target);
        place = low (high_at bs l 19 refl) place_at (leb-false _ _ place);
        left = low (high_at bs l 20 refl) left_at (leb-false _ _ left);
      }
    where
      load_at : (j : ℕ) → ltb (9 + j) 21 ≡ true → get_or ns (111 + j) 0 ≡ get_or bs (121 + j) 0
      load_at j t =
          let p : 111 + j ≡ 102 + (9 + j) = omega arith in
          let q : 112 + (9 + j) ≡ 121 + j = omega arith in
          ap (λ (k : ℕ). get_or ns k 0) p ∙ high_at bs l (9 + j) t ∙ ap (λ (k : ℕ). get_or bs k 0) q

  -- where the facts hold, no test does
  clock_clear : RecordFacts ns → clock_bad bs ≡ true → ⊥
  unfolding clock_bad
  clock_clear f e =
      let inside : (j : ℕ) → j < power_down_at → is_kept_at bs j ≡ true = λ j h.
      let i : j < 32 = omega (arith, h) in
      eq-eqb _ _ (ap (bit_and (get_or bs (1 + j) 0)) (same_masks j h) ∙ (λ k. bit_and (sym (register_at j i) k) (get_or kept j 0)) ∙ f.regs j i ∙ register_at j i) in
      some_holds (clock_tests bs) e
      (held (ap is_part (sym part_at) ∙ f.part), (held (every_all (is_kept_at bs) power_down_at inside), (over (low (sym (count_at_lem bs l 0)) refl f.divider), (over (low (sym (count_at_lem bs l 1)) (sym startup_at) f.startup), (over (low (sym (count_at_lem bs l 2)) (sym watchdog_at_lem) f.watchdog), (over (low (sym (count_at_lem bs l 3)) refl f.delay), (over (low (sym (count_at_lem bs l 4)) refl f.pulse), tt)))))))

  frame_clear : RecordFacts ns → frame_bad bs ≡ true → ⊥
  unfolding frame_bad
  frame_clear f e =
      some_holds (frame_tests bs) e
      (over (low (sym (high_at bs l 0 refl)) refl f.power), (over (low (sym (high_at bs l 1 refl)) (sym mark_at) f.mark), (over (low (sym (high_at bs l 2 refl)) refl f.wel), (over (low (sym (high_at bs l 3 refl)) refl f.protection), (over (low (sym (high_at bs l 4 refl)) refl f.lock), (over (low (sym (high_at bs l 5 refl)) (sym kind_at) f.kind), (held (sym case_at ∙ f.which), (over (low (sym (high_at bs l 7 refl)) (sym value_at) f.value), (over (low (sym (high_at bs l 17 refl)) refl f.next), (over (low (sym (high_at bs l 18 refl)) refl f.target), (over (low (sym (high_at bs l 19 refl)) (sym place_at) f.place), (over (low (sym (high_at bs l 20 refl)) (sym left_at) f.left), tt))))))))))))

  -- the same of the event inputs
  control_at_lem : register_in ns event_at ≡ get_or bs 12 0
  control_at_lem = register_at 11 (ltb-true 11 32 refl)

  clear_events : events_bad bs ≡ false → EventFacts 123 ns
  unfolding events_bad
  clear_events e =
      let (door, (drum, (edges, (since, (debounce, _))))) = none_holds (event_tests bs) e in
      record {
        door = low (event_at_lem bs l 0) refl (leb-false _ _ door);
        drum = low (event_at_lem bs l 1) refl (leb-false _ _ drum);
        edges = low (event_at_lem bs l 2) (ap edges_by control_at_lem) (leb-false _ _ edges);
        since = low (event_at_lem bs l 3) (ap since_by (event_at_lem bs l 2)) (leb-false _ _ since);
        debounce = low (event_at_lem bs l 4) (λ i. debounce_by (control_at_lem i) (event_at_lem bs l 0 i)) (leb-false _ _ debounce);
      }

  events_clear : EventFacts 123 ns → events_bad bs ≡ true → ⊥
  unfolding events_bad
  events_clear f e =
      some_holds (event_tests bs) e
      (over (low (sym (event_at_lem bs l 0)) refl f.door), (over (low (sym (event_at_lem bs l 1)) refl f.drum), (over (low (sym (event_at_lem bs l 2)) (sym (ap edges_by control_at_lem)) f.edges), (over (low (sym (event_at_lem bs l 3)) (sym (ap since_by (event_at_lem bs l 2))) f.since), (over (low (sym (event_at_lem bs l 4)) (λ i. debounce_by (sym control_at_lem i) (sym (event_at_lem bs l 0) i)) f.debounce), tt)))))

  -- an array of its length is a chip's where its numbers are
  by_numbers : is_state bs ≡ is_record ns
  unfolding is_state
  by_numbers = ap (λ (t : Bool). t && is_record ns) (eq-eqb (length bs) state_bytes l)

  pub state_told : Bytes bs → not (clock_bad bs || frame_bad bs || events_bad bs) ≡ is_state bs
  state_told b =
      let t₁ = clock_bad bs in
      let t₂ = frame_bad bs in
      let t₃ = events_bad bs in
      by_cases (t₁ || t₂ || t₃)
      (λ t.
      ap not t
      ∙ by_cases (is_record ns)
      (λ s.
      let f = recorded_facts ns s in
      absurd (⊎_elim (λ u. ⊎_elim (clock_clear f.first) (frame_clear f.first) (either t₁ t₂ u)) (events_clear f.events) (either (t₁ || t₂) t₃ t)))
      (λ s. sym (by_numbers ∙ s)))
      (λ t.
      let u = neither_left (t₁ || t₂) t₃ t in
      ap not t
      ∙ sym
      (by_numbers
      ∙ facts_recorded ns
      (record {
        first = clear_facts b (neither_left t₁ t₂ u) (neither_right t₁ t₂ u);
        long = numbers_long bs l;
        events = clear_events (neither_right (t₁ || t₂) t₃ t);
      })))

-- how a loop with no early way out builds the tests of every place
neither_not : (a b : Bool) → (not a || not b) ≡ not (a && b)
neither_not true b = refl
neither_not false b = refl

pub more_bad : (f : ℕ → Bool) (i : ℕ) (bad test : Bool) → bad ≡ not (every f i) → test ≡ not (f i) → (bad || test) ≡ not (every f (i + 1))
unfolding every
more_bad f i bad test e h = (λ k. e k || h k) ∙ neither_not (every f i) (f i) ∙ ap (λ (n : ℕ). not (every f n)) (sym (add-one i))

-- register by register is every register
pub outside_told : (bs : List ℕ) → length bs ≡ 142 → outside bs ≡ not (every (is_kept_at bs) power_down_at)
unfolding every
outside_told bs l =
    ap (fold step false) (sym (take_all 24 pairs (omega (arith, long)))) ∙ so_far 24 (omega arith)
  where
    xs : List ℕ
    xs = take 24 (drop 1 bs)

    pairs : List (ℕ × ℕ)
    pairs = zip xs writable

    step : Bool → ℕ × ℕ → Bool
    step bad p = bad || not (eqb (bit_and p.0 p.1) p.0)

    long_part : length xs ≡ 24
    long_part = length-take-le 24 (drop 1 bs) (omega (arith, l, length-drop 1 bs))

    long : length pairs ≡ 24
    long = length-zip xs writable ∙ ap (λ (n : ℕ). min n 32) long_part

    pair : (n : ℕ) → n < 24 → get_or pairs n (0, 0) ≡ (get_or bs (1 + n) 0, get_or writable n 0)
    pair n h =
        get_or-zip xs writable n (0, 0) (omega (arith, h, long_part)) (omega (arith, h))
        ∙ ap (λ (k : ℕ). (k, get_or writable n 0)) (get_or-take 24 (drop 1 bs) n 0 h ∙ get_or-drop 1 bs n 0)

    so_far : (n : ℕ) → n ≤ 24 → fold step false (take n pairs) ≡ not (every (is_kept_at bs) n)
    so_far zero h = refl
    so_far (suc n) h =
        let i : n < 24 = omega (arith, h) in
        ap (λ (k : ℕ). fold step false (take k pairs)) (sym (add-one n))
        ∙ fold_more step false pairs n (0, 0) (omega (arith, i, long))
        ∙ more_bad (is_kept_at bs) n _ _ (so_far n (omega (arith, h))) (ap (λ (p : ℕ × ℕ). not (eqb (bit_and p.0 p.1) p.0)) (pair n i))
        ∙ ap (λ (k : ℕ). not (every (is_kept_at bs) k)) (add-one n)

-- an array of another length is no chip's
pub state_short : (bs : List ℕ) → length bs ≢ 142 → false ≡ is_state bs
unfolding is_state
state_short bs h = sym (ap (λ (t : Bool). t && is_record (array_numbers bs)) (ne_eqb (length bs) state_bytes h))
