-- A list of numbers is good by the table exactly if the facts hold of it, place by place.
-- Assumes nothing.
use mathlib.Core.Path.{◌≡◌, refl, sym, ap, subst, ◌∙◌}
use mathlib.Core.Bool.{Bool, true, ◌&&◌}
use mathlib.Core.List.{List, [], ◌∷◌, ◌++◌}
use Prim.Native.Nat.{ℕ, zero, suc, ◌+◌, ◌*◌, ◌/◌, ◌<◌, ◌≤◌}
use native.Mathlib.Nat.{add-zero, le_of_suc-le-suc, not-suc-le-zero}
use native.Mathlib.Omega.{arith}
use borrow.Author.Tests.{lt-ltb, ltb-true, le-leb, leb-true, eq-eqb, eqb-true}
use lib.Dec.{ltb, leb, eqb}
use lib.Bits.{bit_and}
use lib.ListN.{length, take, get_or}
use lib.Seq.{get_or-take}
use Rattle.base.specs.Words.{bit, every}
use Rattle.base.proofs.Tests.{both_left, both_right, both_true}
use Rattle.base.proofs.Every.{every_at, every_all}
use Rattle.record.specs.Numbers.{stage_of}
use Rattle.record.specs.Part.{size_of, boots_of}
use Rattle.record.specs.Registers.{kept, event_at}
use Rattle.record.specs.Stages.{foreign_to_wip}
use Rattle.record.proofs.PartLaws.{whole_pages}
use Rattle.form.specs.Table.{part_in, register_in, startup_by, startup_limit, watchdog_by, watchdog_limit, mark_by, mark_limit, kind_by, kind_limit, case_good, value_limit, target_limit, left_by, left_limit, edges_by, since_by, debounce_by, chip_events, state_events, Row, span, Good, good_test, record_rows, memory_rows, older_rows, event_rows, rows, state_rows, part_row, register_row, sram_row, divider_row, startup_row, watchdog_row, delay_row, pulse_row, power_row, mark_row, wel_row, protection_row, lock_row, stage_row, offsets_row, load_row, next_row, target_row, left_row, eeprom_row, id_row, evls_row, evhs_row, edges_row, since_row, debounce_row}
use Rattle.form.specs.Chip.{IsChip, is_record}
use Rattle.form.specs.Facts.{RecordFacts, EventFacts, StateFacts, MemoryFacts, Facts}
use Rattle.form.proofs.TableLaws.{place_after}

-- one place, two, three
one_place : (P : ℕ → Type 0) → P 0 → (j : ℕ) → j < 1 → P j
one_place P p zero h = p
one_place P p (suc j) h = absurd (not-suc-le-zero (le_of_suc-le-suc h))

two_places : (P : ℕ → Type 0) → P 0 → P 1 → (j : ℕ) → j < 2 → P j
two_places P p q zero h = p
two_places P p q (suc zero) h = q
two_places P p q (suc (suc j)) h = absurd (not-suc-le-zero (le_of_suc-le-suc (le_of_suc-le-suc h)))

three_places : (P : ℕ → Type 0) → P 0 → P 1 → P 2 → (j : ℕ) → j < 3 → P j
three_places P p q r zero h = p
three_places P p q r (suc zero) h = q
three_places P p q r (suc (suc zero)) h = r
three_places P p q r (suc (suc (suc j))) h = absurd (not-suc-le-zero (le_of_suc-le-suc (le_of_suc-le-suc (le_of_suc-le-suc h))))

-- places of a list that is long enough
reaches : (n : ℕ) → 123 ≤ n → (k : ℕ) → leb k 123 ≡ true → k ≤ n
reaches n h k t = omega (arith, leb-true k 123 t)

reaches_eeprom : (n m : ℕ) → 123 + m + 16 ≤ n → 123 + m ≤ n
reaches_eeprom n m e = omega arith

-- Good numbers are those that pass the test.
pub good_test_lem : (rs : List Row) (k : ℕ) (ns : List ℕ) → Good rs k ns → good_test rs k ns ≡ true
unfolding Good good_test
good_test_lem [] k ns e = eq-eqb (length ns) k e
good_test_lem (r ∷ rs) k ns g =
    both_true (le-leb (k + span r (take k ns)) (length ns) g.0)
    (both_true (every_all (λ j. r.good (take (k + j) ns) j (get_or ns (k + j) 0)) (span r (take k ns)) g.1) (good_test_lem rs (k + span r (take k ns)) ns g.2))

pub test_good : (rs : List Row) (k : ℕ) (ns : List ℕ) → good_test rs k ns ≡ true → Good rs k ns
unfolding Good good_test
test_good [] k ns t = eqb-true (length ns) k t
test_good (r ∷ rs) k ns t =
    let s = span r (take k ns) in
    let each : ℕ → Bool = λ j. r.good (take (k + j) ns) j (get_or ns (k + j) 0) in
    let rest = both_right (leb (k + s) (length ns)) (every each s && good_test rs (k + s) ns) t in
    (leb-true (k + s) (length ns) (both_left (leb (k + s) (length ns)) (every each s && good_test rs (k + s) ns) t), every_at each s (both_left (every each s) (good_test rs (k + s) ns) rest), test_good rs (k + s) ns (both_right (every each s) (good_test rs (k + s) ns) rest))

-- What the numbers before a place tell is what the whole list tells.
module _ (ns : List ℕ) where
  part_told_lem : part_in (take 123 ns) ≡ part_in ns
  part_told_lem = get_or-take 123 ns 0 0 (omega arith)

  pages_told : size_of (part_in (take 123 ns)) / 8 * 8 ≡ size_of (part_in ns)
  pages_told = ap (λ (p : ℕ). size_of p / 8 * 8) part_told_lem ∙ omega (arith, whole_pages (part_in ns))

  startup_told : startup_limit (take 98 ns) ≡ startup_limit ns
  startup_told i = startup_by (boots_of (get_or-take 98 ns 0 0 (omega arith) i)) (bit (get_or-take 98 ns 2 0 (omega arith) i) 7)

  watchdog_told : watchdog_limit (take 99 ns) ≡ watchdog_limit ns
  watchdog_told = ap watchdog_by (get_or-take 99 ns 11 0 (omega arith))

  mark_told : mark_limit (take 103 ns) ≡ mark_limit ns
  mark_told i = mark_by (eqb (get_or-take 103 ns 102 0 (omega arith) i) 1)

  kind_told : kind_limit (take 107 ns) ≡ kind_limit ns
  kind_told i = kind_by (eqb (get_or-take 107 ns 102 0 (omega arith) i) 1)

  value_told :
      value_limit (size_of (part_in (take 109 ns))) (get_or (take 109 ns) 107 0) (get_or (take 109 ns) 108 0)
      ≡ value_limit (size_of (part_in ns)) (get_or ns 107 0) (get_or ns 108 0)
  value_told i =
      value_limit (size_of (get_or-take 109 ns 0 0 (omega arith) i)) (get_or-take 109 ns 107 0 (omega arith) i) (get_or-take 109 ns 108 0 (omega arith) i)

  target_told : target_limit (size_of (part_in (take 121 ns))) (get_or (take 121 ns) 120 0) ≡ target_limit (size_of (part_in ns)) (get_or ns 120 0)
  target_told i = target_limit (size_of (get_or-take 121 ns 0 0 (omega arith) i)) (get_or-take 121 ns 120 0 (omega arith) i)

  left_told : left_limit (take 122 ns) ≡ left_limit ns
  left_told i =
      left_by (eqb (get_or-take 122 ns 102 0 (omega arith) i) 1)
      (foreign_to_wip
      (stage_of (get_or-take 122 ns 107 0 (omega arith) i) (get_or-take 122 ns 108 0 (omega arith) i) (get_or-take 122 ns 109 0 (omega arith) i)))

  -- a row at its place, put before others and taken off
  places : Row → ℕ → ℕ → Type 0
  places r k m = (j : ℕ) → j < m → r.good (take (k + j) ns) j (get_or ns (k + j) 0) ≡ true

  before : (r : Row) (rs : List Row) (k m : ℕ) → span r (take k ns) ≡ m → k + m ≤ length ns → places r k m → Good rs (k + m) ns → Good (r ∷ rs) k ns
  unfolding Good places
  before r rs k m e l h g =
      subst (λ (s : ℕ). (k + s ≤ length ns) × ((j : ℕ) → j < s → r.good (take (k + j) ns) j (get_or ns (k + j) 0) ≡ true) × Good rs (k + s) ns) (sym e)
      (l, h, g)

  off : (r : Row) (rs : List Row) (k m : ℕ) → span r (take k ns) ≡ m → Good (r ∷ rs) k ns → (k + m ≤ length ns) × places r k m × Good rs (k + m) ns
  unfolding Good places
  off r rs k m e g =
      subst (λ (s : ℕ). (k + s ≤ length ns) × ((j : ℕ) → j < s → r.good (take (k + j) ns) j (get_or ns (k + j) 0) ≡ true) × Good rs (k + s) ns) e g

  ended : {k : ℕ} → length ns ≡ k → Good [] k ns
  unfolding Good
  ended e = e

  -- a number below a limit that is told in another way
  within : {n m k : ℕ} → k ≡ m → n < k → ltb n m ≡ true
  within {n} {m} e h = lt-ltb n m (omega (arith, e, h))

  which_before : case_good (get_or ns 107 0) (get_or ns 108 0) ≡ true → case_good (get_or (take 108 ns) 107 0) (get_or ns 108 0) ≡ true
  which_before e = ap (λ (k : ℕ). case_good k (get_or ns 108 0)) (get_or-take 108 ns 107 0 (omega arith)) ∙ e

  -- the rows of part and record before others, and taken off
  record_before : (rs : List Row) → RecordFacts ns → Good rs 123 ns → Good (record_rows ++ rs) 0 ns
  unfolding places part_row register_row sram_row divider_row startup_row watchdog_row delay_row pulse_row power_row mark_row wel_row protection_row lock_row stage_row offsets_row load_row next_row target_row left_row
  record_before rs f g =
      let reach : (k : ℕ) → leb k 123 ≡ true → k ≤ length ns = reaches (length ns) f.reach in
      before part_row _ 0 1 refl (reach 1 refl) (one_place _ f.part)
      (before register_row _ 1 32 refl (reach 33 refl) (λ j h. both_true (lt-ltb _ _ (f.reg_bytes j h)) (eq-eqb _ _ (f.regs j h)))
      (before sram_row _ 33 64 refl (reach 97 refl) (λ j h. lt-ltb _ _ (f.sram j h))
      (before divider_row _ 97 1 refl (reach 98 refl) (one_place _ (lt-ltb _ _ f.divider))
      (before startup_row _ 98 1 refl (reach 99 refl) (one_place _ (within (sym startup_told) f.startup))
      (before watchdog_row _ 99 1 refl (reach 100 refl) (one_place _ (within (sym watchdog_told) f.watchdog))
      (before delay_row _ 100 1 refl (reach 101 refl) (one_place _ (lt-ltb _ _ f.delay))
      (before pulse_row _ 101 1 refl (reach 102 refl) (one_place _ (lt-ltb _ _ f.pulse))
      (before power_row _ 102 1 refl (reach 103 refl) (one_place _ (lt-ltb _ _ f.power))
      (before mark_row _ 103 1 refl (reach 104 refl) (one_place _ (within (sym mark_told) f.mark))
      (before wel_row _ 104 1 refl (reach 105 refl) (one_place _ (lt-ltb _ _ f.wel))
      (before protection_row _ 105 1 refl (reach 106 refl) (one_place _ (lt-ltb _ _ f.protection))
      (before lock_row _ 106 1 refl (reach 107 refl) (one_place _ (lt-ltb _ _ f.lock))
      (before stage_row _ 107 3 refl (reach 110 refl) (three_places _ (within (sym kind_told) f.kind) (which_before f.which) (within (sym value_told) f.value))
      (before offsets_row _ 110 1 refl (reach 111 refl) (one_place _ (lt-ltb _ _ f.offsets))
      (before load_row _ 111 8 refl (reach 119 refl) (λ j h. lt-ltb _ _ (f.load j h))
      (before next_row _ 119 1 refl (reach 120 refl) (one_place _ (lt-ltb _ _ f.next))
      (before target_row _ 120 2 refl (reach 122 refl) (two_places _ (lt-ltb _ _ f.target) (within (sym target_told) f.place))
      (before left_row _ 122 1 refl (reach 123 refl) (one_place _ (within (sym left_told) f.left)) g))))))))))))))))))

  -- part, record and memories before others
  memories_before : (rs : List Row) → MemoryFacts ns → Good rs (chip_events ns) ns → Good (older_rows ++ rs) 0 ns
  unfolding places eeprom_row id_row
  memories_before rs f g =
      let size = size_of (part_in ns) in
      record_before (memory_rows ++ rs) f.first
      (before eeprom_row _ 123 size pages_told (reaches_eeprom (length ns) size f.reach) (λ j h. lt-ltb _ _ (f.eeprom j h))
      (before id_row _ (123 + size) 16 refl f.reach (λ j h. lt-ltb _ _ (f.id j h)) g))

  -- the other way
  below : {n m k : ℕ} → m ≡ k → ltb n m ≡ true → n < k
  below {n} {m} e t = omega (arith, e, ltb-true n m t)

  is_end : {k : ℕ} → Good [] k ns → length ns ≡ k
  unfolding Good
  is_end g = g

  record_off : (rs : List Row) → Good (record_rows ++ rs) 0 ns → RecordFacts ns × Good rs 123 ns
  unfolding places part_row register_row sram_row divider_row startup_row watchdog_row delay_row pulse_row power_row mark_row wel_row protection_row lock_row stage_row offsets_row load_row next_row target_row left_row
  record_off rs g =
      let is_byte : ℕ → Bool = λ j. ltb (register_in ns j) 256 in
      let inside : ℕ → Bool = λ j. eqb (bit_and (register_in ns j) (get_or kept j 0)) (register_in ns j) in
      let g-part = off part_row _ 0 1 refl g in
      let g-register = off register_row _ 1 32 refl g-part.2 in
      let g-sram = off sram_row _ 33 64 refl g-register.2 in
      let g-divider = off divider_row _ 97 1 refl g-sram.2 in
      let g-startup = off startup_row _ 98 1 refl g-divider.2 in
      let g-watchdog = off watchdog_row _ 99 1 refl g-startup.2 in
      let g-delay = off delay_row _ 100 1 refl g-watchdog.2 in
      let g-pulse = off pulse_row _ 101 1 refl g-delay.2 in
      let g-power = off power_row _ 102 1 refl g-pulse.2 in
      let g-mark = off mark_row _ 103 1 refl g-power.2 in
      let g-wel = off wel_row _ 104 1 refl g-mark.2 in
      let g-protection = off protection_row _ 105 1 refl g-wel.2 in
      let g-lock = off lock_row _ 106 1 refl g-protection.2 in
      let g-stage = off stage_row _ 107 3 refl g-lock.2 in
      let g-offsets = off offsets_row _ 110 1 refl g-stage.2 in
      let g-load = off load_row _ 111 8 refl g-offsets.2 in
      let g-next = off next_row _ 119 1 refl g-load.2 in
      let g-target = off target_row _ 120 2 refl g-next.2 in
      let g-left = off left_row _ 122 1 refl g-target.2 in (
        record {
          reach = g-left.0;
          part = g-part.1 0 (ltb-true 0 1 refl);
          reg_bytes = λ j h. ltb-true _ _ (both_left (is_byte j) (inside j) (g-register.1 j h));
          regs = λ j h. eqb-true _ _ (both_right (is_byte j) (inside j) (g-register.1 j h));
          sram = λ j h. ltb-true _ _ (g-sram.1 j h);
          divider = ltb-true _ _ (g-divider.1 0 (ltb-true 0 1 refl));
          startup = below startup_told (g-startup.1 0 (ltb-true 0 1 refl));
          watchdog = below watchdog_told (g-watchdog.1 0 (ltb-true 0 1 refl));
          delay = ltb-true _ _ (g-delay.1 0 (ltb-true 0 1 refl));
          pulse = ltb-true _ _ (g-pulse.1 0 (ltb-true 0 1 refl));
          power = ltb-true _ _ (g-power.1 0 (ltb-true 0 1 refl));
          mark = below mark_told (g-mark.1 0 (ltb-true 0 1 refl));
          wel = ltb-true _ _ (g-wel.1 0 (ltb-true 0 1 refl));
          protection = ltb-true _ _ (g-protection.1 0 (ltb-true 0 1 refl));
          lock = ltb-true _ _ (g-lock.1 0 (ltb-true 0 1 refl));
          kind = below kind_told (g-stage.1 0 (ltb-true 0 3 refl));
          which = ap (λ (k : ℕ). case_good k (get_or ns 108 0)) (sym (get_or-take 108 ns 107 0 (ltb-true 107 108 refl))) ∙ g-stage.1 1 (ltb-true 1 3 refl);
          value = below value_told (g-stage.1 2 (ltb-true 2 3 refl));
          offsets = ltb-true _ _ (g-offsets.1 0 (ltb-true 0 1 refl));
          load = λ j h. ltb-true _ _ (g-load.1 j h);
          next = ltb-true _ _ (g-next.1 0 (ltb-true 0 1 refl));
          target = ltb-true _ _ (g-target.1 0 (ltb-true 0 2 refl));
          place = below target_told (g-target.1 1 (ltb-true 1 2 refl));
          left = below left_told (g-left.1 0 (ltb-true 0 1 refl));
        },
        g-left.2,
      )

  memories_off : (rs : List Row) → Good (older_rows ++ rs) 0 ns → MemoryFacts ns × Good rs (chip_events ns) ns
  unfolding places eeprom_row id_row
  memories_off rs g =
      let g-record = record_off (memory_rows ++ rs) g in
      let g-eeprom = off eeprom_row _ 123 (size_of (part_in ns)) pages_told g-record.1 in
      let g-id = off id_row _ (123 + size_of (part_in ns)) 16 refl g-eeprom.2 in (
        record {
          first = g-record.0;
          reach = g-id.0;
          eeprom = λ j h. ltb-true _ _ (g-eeprom.1 j h);
          id = λ j h. ltb-true _ _ (g-id.1 j h);
        },
        g-id.2,
      )

  -- a row of one number at place m, with those after it from n on: put before others and taken off
  one_before :
      (r : Row) (rs : List Row) (m n : ℕ) → span r (take m ns) ≡ 1 → m + 1 ≡ n → n ≤ length ns → r.good (take m ns) 0 (get_or ns m 0) ≡ true → Good rs n ns
      → Good (r ∷ rs) m ns
  unfolding places
  one_before r rs m n e p l t g = before r rs m 1 e (fits p l) at (subst (λ (i : ℕ). Good rs i ns) (sym p) g)
    where
      fits : {a b c : ℕ} → a ≡ b → b ≤ c → a ≤ c
      fits u v = omega (arith, u, v)

      at : (j : ℕ) → j < 1 → r.good (take (m + j) ns) j (get_or ns (m + j) 0) ≡ true
      at zero h = (λ i. r.good (take (add-zero m i) ns) 0 (get_or ns (add-zero m i) 0)) ∙ t
      at (suc j) h = absurd (not-suc-le-zero (le_of_suc-le-suc h))

  one_off :
      (r : Row) (rs : List Row) (m n : ℕ) → span r (take m ns) ≡ 1 → m + 1 ≡ n → Good (r ∷ rs) m ns
      → (r.good (take m ns) 0 (get_or ns m 0) ≡ true) × (n ≤ length ns) × Good rs n ns
  unfolding places
  one_off r rs m n e p g =
      let o = off r rs m 1 e g in (
        sym (λ i. r.good (take (add-zero m i) ns) 0 (get_or ns (add-zero m i) 0)) ∙ o.1 0 (ltb-true 0 1 refl),
        subst (λ (i : ℕ). i ≤ length ns) p o.0,
        subst (λ (i : ℕ). Good rs i ns) p o.2,
      )

  -- The rows of the event inputs from place k on, which the numbers before them tell.
  module _ (place : List ℕ → ℕ) (k : ℕ) (past : 123 ≤ k) (here : (m : ℕ) → 123 ≤ m → place (take m ns) ≡ k) where
    later : (j : ℕ) → 123 ≤ k + j
    later j = omega (arith, past)

    control_told : (m : ℕ) → 123 ≤ m → register_in (take m ns) event_at ≡ register_in ns event_at
    control_told m h = get_or-take m ns 12 0 (omega (arith, h))

    edges_told : edges_by (register_in (take (k + 2) ns) event_at) ≡ edges_by (register_in ns event_at)
    edges_told = ap edges_by (control_told (k + 2) (later 2))

    since_told : since_by (get_or (take (k + 3) ns) (place (take (k + 3) ns) + 2) 0) ≡ since_by (get_or ns (k + 2) 0)
    since_told =
        (λ i. since_by (get_or (take (k + 3) ns) (here (k + 3) (later 3) i + 2) 0)) ∙ ap since_by (get_or-take (k + 3) ns (k + 2) 0 (omega arith))

    debounce_told :
        debounce_by (register_in (take (k + 4) ns) event_at) (get_or (take (k + 4) ns) (place (take (k + 4) ns)) 0)
        ≡ debounce_by (register_in ns event_at) (get_or ns k 0)
    debounce_told =
        (λ i. debounce_by (control_told (k + 4) (later 4) i) (get_or (take (k + 4) ns) (here (k + 4) (later 4) i) 0))
        ∙ ap (debounce_by (register_in ns event_at)) (get_or-take (k + 4) ns k 0 (omega arith))

    on_1 : k + 1 + 1 ≡ k + 2
    on_1 = omega arith

    on_2 : k + 2 + 1 ≡ k + 3
    on_2 = omega arith

    on_3 : k + 3 + 1 ≡ k + 4
    on_3 = omega arith

    on_4 : k + 4 + 1 ≡ k + 5
    on_4 = omega arith

    events_before : EventFacts k ns → length ns ≡ k + 5 → Good (event_rows place) k ns
    unfolding evls_row evhs_row edges_row since_row debounce_row
    events_before f l =
        one_before evls_row _ k (k + 1) refl refl (fits 1 (ltb-true 1 6 refl) l) (lt-ltb _ _ f.door)
        (one_before evhs_row _ (k + 1) (k + 2) refl on_1 (fits 2 (ltb-true 2 6 refl) l) (lt-ltb _ _ f.drum)
        (one_before edges_row _ (k + 2) (k + 3) refl on_2 (fits 3 (ltb-true 3 6 refl) l) (within (sym edges_told) f.edges)
        (one_before (since_row place) _ (k + 3) (k + 4) refl on_3 (fits 4 (ltb-true 4 6 refl) l) (within (sym since_told) f.since)
        (one_before (debounce_row place) _ (k + 4) (k + 5) refl on_4 (fits 5 (ltb-true 5 6 refl) l) (within (sym debounce_told) f.debounce) (ended l)))))
      where
        fits : (j : ℕ) {n : ℕ} → j < 6 → n ≡ k + 5 → k + j ≤ n
        fits j h e = omega (arith, h, e)

    events_off : Good (event_rows place) k ns → EventFacts k ns × (length ns ≡ k + 5)
    unfolding evls_row evhs_row edges_row since_row debounce_row
    events_off g =
        let g-evls = one_off evls_row _ k (k + 1) refl refl g in
        let g-evhs = one_off evhs_row _ (k + 1) (k + 2) refl on_1 g-evls.2 in
        let g-edges = one_off edges_row _ (k + 2) (k + 3) refl on_2 g-evhs.2 in
        let g-since = one_off (since_row place) _ (k + 3) (k + 4) refl on_3 g-edges.2 in
        let g-debounce = one_off (debounce_row place) _ (k + 4) (k + 5) refl on_4 g-since.2 in (
          record {
            door = ltb-true _ _ g-evls.0;
            drum = ltb-true _ _ g-evhs.0;
            edges = below edges_told g-edges.0;
            since = below since_told g-since.0;
            debounce = below debounce_told g-debounce.0;
          },
          is_end g-debounce.2,
        )

  -- where they are: behind the memories, or behind the record
  past_memories : (n : ℕ) → 123 ≤ 123 + n + 16
  past_memories n = omega arith

  behind_memories : (m : ℕ) → 123 ≤ m → chip_events (take m ns) ≡ chip_events ns
  behind_memories m h = ap (λ (p : ℕ). 123 + size_of p + 16) (get_or-take m ns 0 0 (omega (arith, h)))

  pub facts_good : Facts ns → IsChip ns
  unfolding rows
  facts_good f =
      memories_before (event_rows chip_events) f.chip
      (events_before chip_events (chip_events ns) (past_memories (size_of (part_in ns))) behind_memories f.events f.long)

  pub good_facts : IsChip ns → Facts ns
  unfolding rows
  good_facts g =
      let g-chip = memories_off (event_rows chip_events) g in
      let g-events = events_off chip_events (chip_events ns) (past_memories (size_of (part_in ns))) behind_memories g-chip.1 in
      record { chip = g-chip.0; long = g-events.1; events = g-events.0 }

  -- the place after part, record and memories
  pub place_older : place_after older_rows 0 ns ≡ chip_events ns
  unfolding place_after part_row register_row sram_row divider_row startup_row watchdog_row delay_row pulse_row power_row mark_row wel_row protection_row lock_row stage_row offsets_row load_row next_row target_row left_row eeprom_row id_row
  place_older = ap (λ (n : ℕ). 123 + n + 16) pages_told

  -- a list of part, record and event inputs
  pub facts_recorded : StateFacts ns → is_record ns ≡ true
  unfolding is_record
  facts_recorded f =
      good_test_lem state_rows 0 ns
      (record_before (event_rows state_events) f.first (events_before state_events 123 (leb-true 123 123 refl) (λ m h. refl) f.events f.long))

  pub recorded_facts : is_record ns ≡ true → StateFacts ns
  unfolding is_record
  recorded_facts t =
      let p = record_off (event_rows state_events) (test_good state_rows 0 ns t) in
      let q = events_off state_events 123 (leb-true 123 123 refl) (λ m h. refl) p.1 in
      record { first = p.0; long = q.1; events = q.0 }
