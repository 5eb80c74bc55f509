-- A chip and its numbers: those of a chip in range are good by the table and stand for it; good numbers are those of a chip in range.
-- Assumes nothing.
use mathlib.Core.Path.{◌≡◌, refl, sym, ap, subst, ◌∙◌}
use mathlib.Core.Bool.{Bool, true, false, not, ◌&&◌, ◌||◌}
use mathlib.Core.List.{List, [], ◌∷◌, ◌++◌, append_assoc}
use Prim.Native.Nat.{ℕ, zero, suc, ◌+◌, ◌-◌, ◌<◌, ◌≤◌}
use native.Mathlib.Nat.{add-zero}
use native.Mathlib.Omega.{arith}
use borrow.Author.Tests.{ltb-true, ltb-false, leb-true, ne_eqb}
use lib.Dec.{ltb, leb, eqb}
use lib.Bits.{bit_and, and_le_r}
use lib.ListN.{length, take, drop, get_or, length-append, length-drop, get_or-append, get_or-eq_default, take-append-drop}
use lib.Seq.{get_or-take, get_or-drop, drop-drop, drop_at, take_at, drop-cons, length-take-le}
use Rattle.base.specs.Words.{flag, bit, every}
use Rattle.base.proofs.Tests.{by_cases, neither, neither_left, neither_right, true_false, flag_below}
use Rattle.base.proofs.Every.{same_below, bound_below}
use Rattle.events.specs.Rows.{EventsIn}
use Rattle.record.specs.declared.Cycle.{Cycle}
use Rattle.record.specs.declared.Device.{Device}
use Rattle.record.specs.declared.Lock.{Lock}
use Rattle.record.specs.declared.Lock.TheVariants.{Closed, First, Open}
use Rattle.record.specs.declared.Stage.{Stage}
use Rattle.record.specs.Numbers.{protection_of, lock_number, lock_of, stage_kind, stage_of, target_of}
use Rattle.record.specs.Part.{size_of, id_size, boots_of}
use Rattle.record.specs.Registers.{st, seconds_at, event_at, kept, period_of, cycle_ticks, startup_ticks}
use Rattle.record.specs.Stages.{selected, foreign_to_wip}
use Rattle.record.specs.World.{World, world, Bytes}
use Rattle.record.proofs.NumberLaws.{protection_back, protection_below, lock_back, stage_back, target_back}
use Rattle.record.proofs.PartLaws.{size_most}
use Rattle.refusals.specs.InRange.{ClockRange, PowerRange}
use Rattle.form.specs.Table.{part_in, register_in, power_in, stage_in, startup_by, startup_limit, watchdog_by, mark_by, kind_by, case_good, value_limit, target_limit, left_by, left_limit, edges_by, since_by, debounce_by, chip_events}
use Rattle.form.specs.Chip.{head_numbers, tail_numbers, numbers_before, event_numbers, numbers_of, state_numbers, is_record, events_of, device_from, device_of, world_of, IsChip, Sound, SoundRecord}
use Rattle.form.specs.Facts.{RecordFacts, EventFacts, Facts, BytesFrom}
use Rattle.form.proofs.FactLaws.{facts_good, good_facts, facts_recorded, recorded_facts}
use Rattle.form.proofs.EventLaws.{open_limit, limit_open, edges_within, since_within, debounce_within, events_from}
use Rattle.form.proofs.StageLaws.{kind_below, idle_kind, kind_idle, case_good_lem, value_below, StageFrom, stage_from, target_kind_below, target_below, TargetFrom, protection_of_lem, target_from}

-- numbers that stand for a test, and for the lock
pub flag_back : (b : Bool) → eqb (flag b) 1 ≡ b
flag_back true = refl
flag_back false = refl

pub flag_of : (n : ℕ) → n < 2 → flag (eqb n 1) ≡ n
unfolding every
flag_of n h = same_below (λ (k : ℕ). flag (eqb k 1)) (λ (k : ℕ). k) 2 refl n h

lock_below : (x : Lock) → lock_number x < 3
lock_below Closed = omega arith
lock_below First = omega arith
lock_below Open = omega arith

pub lock_of_lem : (n : ℕ) → n < 3 → lock_number (lock_of n) ≡ n
unfolding every
lock_of_lem n h = same_below (λ (k : ℕ). lock_number (lock_of k)) (λ (k : ℕ). k) 3 refl n h

-- a register's byte
kept_byte : (k : ℕ) → k < 32 → get_or kept k 0 < 256
unfolding every
kept_byte k h = bound_below (λ (j : ℕ). get_or kept j 0) 256 32 refl k h

register_byte : (k v : ℕ) → k < 32 → bit_and v (get_or kept k 0) ≡ v → v < 256
register_byte k v h e = omega (arith, e, and_le_r v (get_or kept k 0), kept_byte k h)

size_some : (part : ℕ) → 0 < size_of part
size_some part = omega arith

-- a number below a limit, both told in another way
low : {a b m k : ℕ} → a ≡ b → m ≡ k → b < k → a < m
low e f h = omega (arith, e, f, h)

above_none : {n m : ℕ} → n ≤ m → n < suc m
above_none h = omega (arith, h)

-- the mark and the kind by power, the ticks left by power and frame
mark_below : (power mark : Bool) → (power ≡ true → mark ≡ false) → flag mark < mark_by power
mark_below true mark h = rw (h refl) (omega arith)
mark_below false mark h = flag_below mark

kind_within : (power : Bool) (s : Stage) → (power ≡ false → selected s ≡ false) → stage_kind s < kind_by power
kind_within true s h = kind_below s
kind_within false s h = rw (idle_kind s (h refl)) (ltb-true 0 1 refl)

left_none : (power foreign : Bool) (n : ℕ) → (power ≡ false → n ≡ 0) → (0 < n → foreign ≡ false) → (power && not foreign) ≡ false → n ≡ 0
left_none false foreign n h g e = h refl
left_none true false n h g e = absurd (true_false refl e)
left_none true true zero h g e = refl
left_none true true (suc n) h g e = absurd (true_false refl (g (omega arith)))

-- Part and record, whatever stands behind them.
module _ (part : ℕ) (d : Device) (rest : List ℕ) (s : SoundRecord part d) where
  abbrev ns : List ℕ
  ns = numbers_before part d rest

  abbrev size : ℕ
  size = size_of part

  -- the list from each of its pieces on
  abbrev from_tail : List ℕ
  from_tail = tail_numbers d.load d.cycle ++ rest

  abbrev from_load : List ℕ
  from_load = d.load.bytes ++ from_tail

  abbrev from_head : List ℕ
  from_head = head_numbers d ++ from_load

  from_33 : drop 33 ns ≡ d.sram ++ from_head
  from_33 = drop_at d.regs (d.sram ++ from_head) 32 s.sized.regs

  pub from_97 : drop 97 ns ≡ from_head
  from_97 = sym (drop-drop 64 33 ns) ∙ ap (drop 64) from_33 ∙ drop_at d.sram from_head 64 s.sized.sram

  from_111 : drop 111 ns ≡ from_load
  from_111 = sym (drop-drop 14 97 ns) ∙ ap (drop 14) from_97

  from_119 : drop 119 ns ≡ from_tail
  from_119 = sym (drop-drop 8 111 ns) ∙ ap (drop 8) from_111 ∙ drop_at d.load.bytes from_tail 8 s.sized.bytes

  pub from_123 : drop 123 ns ≡ rest
  from_123 = sym (drop-drop 4 119 ns) ∙ ap (drop 4) from_119

  -- a number by its piece
  at : (k : ℕ) {l : List ℕ} → drop k ns ≡ l → (j : ℕ) → get_or ns (k + j) 0 ≡ get_or l j 0
  at k e j = sym (get_or-drop k ns j 0) ∙ ap (λ (m : List ℕ). get_or m j 0) e

  inside : (x y : List ℕ) (n j : ℕ) → length x ≡ n → j < n → get_or (x ++ y) j 0 ≡ get_or x j 0
  inside x y n j e h = get_or-append x y 0 j (subst (λ (m : ℕ). j < m) (sym e) h)

  at_register : (j : ℕ) → j < 32 → register_in ns j ≡ get_or d.regs j 0
  at_register j h = at 1 refl j ∙ inside d.regs (d.sram ++ from_head) 32 j s.sized.regs h

  -- the numbers of the record that stand alone
  head_at : (j : ℕ) → get_or ns (97 + j) 0 ≡ get_or from_head j 0
  head_at j = at 97 from_97 j

  tail_at : (j : ℕ) → get_or ns (119 + j) 0 ≡ get_or from_tail j 0
  tail_at j = at 119 from_119 j

  stage_told : stage_in ns ≡ d.frame.stage
  stage_told = (λ i. stage_of (head_at 10 i) (head_at 11 i) (head_at 12 i)) ∙ stage_back d.frame.stage

  target_told : target_of (get_or ns 120 0) (get_or ns 121 0) ≡ d.cycle.target
  target_told = (λ i. target_of (tail_at 1 i) (tail_at 2 i)) ∙ target_back d.cycle.target

  power_told : power_in ns ≡ d.power
  power_told = ap (λ (n : ℕ). eqb n 1) (head_at 5) ∙ flag_back d.power

  -- the list is the record
  regs_told : take 32 (drop 1 ns) ≡ d.regs
  regs_told = take_at d.regs (d.sram ++ from_head) 32 s.sized.regs

  sram_told : take 64 (drop 33 ns) ≡ d.sram
  sram_told = ap (take 64) from_33 ∙ take_at d.sram from_head 64 s.sized.sram

  load_told : take 8 (drop 111 ns) ≡ d.load.bytes
  load_told = ap (take 8) from_111 ∙ take_at d.load.bytes from_tail 8 s.sized.bytes

  -- the event inputs, where they end the list
  module _ (k : ℕ) (end : drop k ns ≡ event_numbers d.events) where
    door_at_lem : get_or ns k 0 ≡ d.events.door
    door_at_lem = ap (λ (m : ℕ). get_or ns m 0) (sym (add-zero k)) ∙ at k end 0

    control_at_lem : register_in ns event_at ≡ get_or d.regs event_at 0
    control_at_lem = at_register 11 (ltb-true 11 32 refl)

    events_told : events_of k ns ≡ d.events
    events_told i = record { door = door_at_lem i; drum = at k end 1 i; edges = at k end 2 i; since = at k end 3 i; debounce = at k end 4 i }

    pub event_facts_lem : EventFacts k ns
    event_facts_lem =
        let v = get_or d.regs event_at 0 in
        let r = s.range.clock.events in
        record {
          door = low door_at_lem refl (one_more r.door);
          drum = low (at k end 1) refl (one_more r.drum);
          edges = low (at k end 2) (ap edges_by control_at_lem) (edges_within v d.events r);
          since = low (at k end 3) (ap since_by (at k end 2)) (since_within v d.events r);
          debounce = low (at k end 4) (λ i. debounce_by (control_at_lem i) (door_at_lem i)) (debounce_within v d.events r);
        }
      where
        one_more : {n : ℕ} → n ≤ 1 → n < 2
        one_more h = omega (arith, h)

  pub device_told : (k : ℕ) → drop k ns ≡ event_numbers d.events → device_from k ns ≡ d
  device_told k end i =
      record {
        regs = regs_told i;
        sram = sram_told i;
        counters = record { divider = head_at 0 i; startup = head_at 1 i; watchdog = head_at 2 i; delay = head_at 3 i; pulse = head_at 4 i };
        power = power_told i;
        mark = (ap (λ (n : ℕ). eqb n 1) (head_at 6) ∙ flag_back d.mark) i;
        guard =
            record {
              wel = (ap (λ (n : ℕ). eqb n 1) (head_at 7) ∙ flag_back d.guard.wel) i;
              protection = (ap protection_of (head_at 8) ∙ protection_back d.guard.protection) i;
              lock = (ap lock_of (head_at 9) ∙ lock_back d.guard.lock) i;
            };
        frame = record { stage = stage_told i };
        load = record { offsets = head_at 13 i; bytes = load_told i; next = tail_at 0 i };
        cycle = record { target = target_told i; left = tail_at 3 i };
        events = events_told k end i;
      }

  -- its length
  pub state_long : length ns ≡ 123 + length rest
  state_long =
      long d.regs d.sram (head_numbers d) d.load.bytes (tail_numbers d.load d.cycle) rest s.sized.regs s.sized.sram refl
      s.sized.bytes refl
    where
      long :
          (r q h b t m : List ℕ) → length r ≡ 32 → length q ≡ 64 → length h ≡ 14 → length b ≡ 8 → length t ≡ 4
          → length (part ∷ (r ++ (q ++ (h ++ (b ++ (t ++ m)))))) ≡ 123 + length m
      long r q h b t m lr lq lh lb lt =
          omega (arith, lr, lq, lh, lb, lt, length-append r (q ++ (h ++ (b ++ (t ++ m)))), length-append q (h ++ (b ++ (t ++ m))), length-append h (b ++ (t ++ m)), length-append b (t ++ m), length-append t m)

  -- bytes by their piece
  bytes_in : (k n : ℕ) (x y : List ℕ) → drop k ns ≡ x ++ y → length x ≡ n → Bytes x → BytesFrom ns k n
  bytes_in k n x y e l b j h = subst (λ (v : ℕ). v < 256) (sym (at k e j ∙ inside x y n j l h)) (b j)

  startup_limit_lem : startup_limit ns ≡ startup_by (boots_of part) (st d.regs)
  startup_limit_lem i = startup_by (boots_of part) (bit (at_register 1 (ltb-true 1 32 refl) i) 7)

  from_long : {n : ℕ} (m : ℕ) → n ≡ 123 + m → 123 ≤ n
  from_long m h = omega (arith, h)

  left_limit_lem : left_limit ns ≡ left_by d.power (foreign_to_wip d.frame.stage)
  left_limit_lem i = left_by (power_told i) (foreign_to_wip (stage_told i))

  pub record_facts : RecordFacts ns
  record_facts =
      let c = s.range.clock in
      let q = s.range.power in
      let g = d.frame.stage in
      record {
        reach = from_long (length rest) state_long;
        part = s.named;
        reg_bytes = λ j h. low (at_register j h) refl (register_byte j (get_or d.regs j 0) h (c.inside j h));
        regs = λ j h. (λ i. bit_and (at_register j h i) (get_or kept j 0)) ∙ c.inside j h ∙ sym (at_register j h);
        sram = bytes_in 33 64 d.sram from_head from_33 s.sized.sram s.sized.sram_bytes;
        divider = low (head_at 0) refl c.divider;
        startup =
            low (head_at 1) startup_limit_lem
            (open_limit (boots_of part || st d.regs) d.counters.startup startup_ticks (above_none c.startup)
            (λ f. c.stopped (neither_left (boots_of part) (st d.regs) f) (neither_right (boots_of part) (st d.regs) f)));
        watchdog = low (head_at 2) (ap watchdog_by (at_register 10 (ltb-true 10 32 refl))) c.watchdog;
        delay = low (head_at 3) refl (above_none c.delay);
        pulse = low (head_at 4) refl (above_none c.pulse);
        power = low (head_at 5) refl (flag_below d.power);
        mark = low (head_at 6) (λ i. mark_by (power_told i)) (mark_below d.power d.mark q.unmarked);
        wel = low (head_at 7) refl (flag_below d.guard.wel);
        protection = low (head_at 8) refl (protection_below d.guard.protection);
        lock = low (head_at 9) refl (lock_below d.guard.lock);
        kind = low (head_at 10) (λ i. kind_by (power_told i)) (kind_within d.power g q.idle);
        which = (λ i. case_good (head_at 10 i) (head_at 11 i)) ∙ case_good_lem g;
        value =
            low (head_at 12) (λ i. value_limit size (head_at 10 i) (head_at 11 i)) (value_below size g s.range.frame.place s.carried);
        offsets = low (head_at 13) refl s.sized.offsets;
        load = bytes_in 111 8 d.load.bytes from_tail from_111 s.sized.bytes s.sized.load_bytes;
        next = low (tail_at 0) refl s.range.frame.offset;
        target = low (tail_at 1) refl (target_kind_below d.cycle.target);
        place = low (tail_at 2) (λ i. target_limit size (tail_at 1 i)) (target_below size d.cycle.target s.range.cycle.place);
        left =
            low (tail_at 3) left_limit_lem
            (open_limit (d.power && not (foreign_to_wip g)) d.cycle.left cycle_ticks (above_none s.range.cycle.countdown)
            (left_none d.power (foreign_to_wip g) d.cycle.left q.still q.heard));
      }

-- With the memories behind them.
module _ (part : ℕ) (w : World) (s : Sound part w) where
  abbrev whole : List ℕ
  whole = numbers_of part w

  abbrev events : List ℕ
  events = event_numbers w.device.events

  abbrev memories : List ℕ
  memories = w.eeprom ++ (w.id ++ events)

  pub sound_record : SoundRecord part w.device
  sound_record = record { named = s.named; range = s.range; sized = s.shaped.sized; carried = s.carried }

  pub part_back : part_in whole ≡ part
  unfolding numbers_of
  part_back = refl

  from_eeprom : drop 123 whole ≡ memories
  unfolding numbers_of
  from_eeprom = from_123 part w.device memories sound_record

  from_id : drop (123 + size_of part) whole ≡ w.id ++ events
  from_id =
      sym (drop-drop (size_of part) 123 whole) ∙ ap (drop (size_of part)) from_eeprom ∙ drop_at w.eeprom (w.id ++ events) (size_of part) s.shaped.eeprom

  from_events : drop (123 + size_of part + id_size) whole ≡ events
  from_events = sym (drop-drop 16 (123 + size_of part) whole) ∙ ap (drop 16) from_id ∙ drop_at w.id events 16 s.shaped.id

  eeprom_told : take (size_of (part_in whole)) (drop 123 whole) ≡ w.eeprom
  eeprom_told =
      ap (λ (p : ℕ). take (size_of p) (drop 123 whole)) part_back
      ∙ ap (take (size_of part)) from_eeprom
      ∙ take_at w.eeprom (w.id ++ events) (size_of part) s.shaped.eeprom

  id_told : take id_size (drop (123 + size_of (part_in whole)) whole) ≡ w.id
  id_told =
      ap (λ (p : ℕ). take id_size (drop (123 + size_of p) whole)) part_back ∙ ap (take 16) from_id ∙ take_at w.id events 16 s.shaped.id

  pub world_back : world_of whole ≡ w
  unfolding world_of numbers_of
  world_back i = world (device_told part w.device memories sound_record (123 + size_of part + 16) from_events i) (eeprom_told i) (id_told i)

  chip_long : length whole ≡ 123 + size_of part + id_size + 5
  unfolding numbers_of
  chip_long =
      sum (length w.id) (state_long part w.device memories sound_record) (length-append w.eeprom (w.id ++ events)) (length-append w.id events) s.shaped.eeprom
      s.shaped.id
    where
      sum : {n m a l size : ℕ} (b : ℕ) → n ≡ 123 + m → m ≡ a + l → l ≡ b + 5 → a ≡ size → b ≡ 16 → n ≡ 123 + size + 16 + 5
      sum b p q r e i = omega (arith, p, q, r, e, i)

  pub sound_facts : Facts whole
  unfolding numbers_of
  sound_facts =
      record {
        chip =
            record {
              first = record_facts part w.device memories sound_record;
              reach = within (123 + size_of part + 16) chip_long;
              eeprom = bytes_in part w.device memories sound_record 123 (size_of part) w.eeprom (w.id ++ events) from_eeprom s.shaped.eeprom s.shaped.eeprom_bytes;
              id = bytes_in part w.device memories sound_record (123 + size_of part) 16 w.id events from_id s.shaped.id s.shaped.id_bytes;
            };
        long = chip_long;
        events = event_facts_lem part w.device memories sound_record (123 + size_of part + 16) from_events;
      }
    where
      within : {n : ℕ} (m : ℕ) → n ≡ m + 5 → m ≤ n
      within m h = omega (arith, h)

  -- The list is a beginning, whatever the event inputs are, and the event inputs.
  abbrev pub front : List ℕ
  front = numbers_before part w.device (w.eeprom ++ w.id)

  pub in_two : (t : List ℕ) → numbers_before part w.device (w.eeprom ++ (w.id ++ t)) ≡ front ++ t
  in_two t = ap (λ (l : List ℕ). part ∷ l) (pieces w.device.regs w.device.sram (head_numbers w.device) w.device.load.bytes (tail_numbers w.device.load w.device.cycle))
    where
      pieces :
          (r q h b l : List ℕ) → r ++ (q ++ (h ++ (b ++ (l ++ (w.eeprom ++ (w.id ++ t)))))) ≡ (r ++ (q ++ (h ++ (b ++ (l ++ (w.eeprom ++ w.id)))))) ++ t
      pieces r q h b l =
          sym
          (append_assoc r (q ++ (h ++ (b ++ (l ++ (w.eeprom ++ w.id))))) t
          ∙ ap (λ (x : List ℕ). r ++ x)
          (append_assoc q (h ++ (b ++ (l ++ (w.eeprom ++ w.id)))) t
          ∙ ap (λ (x : List ℕ). q ++ x)
          (append_assoc h (b ++ (l ++ (w.eeprom ++ w.id))) t
          ∙ ap (λ (x : List ℕ). h ++ x)
          (append_assoc b (l ++ (w.eeprom ++ w.id)) t
          ∙ ap (λ (x : List ℕ). b ++ x)
          (append_assoc l (w.eeprom ++ w.id) t ∙ ap (λ (x : List ℕ). l ++ x) (append_assoc w.eeprom w.id t))))))

  pub front_long : length front ≡ chip_events whole
  unfolding numbers_of
  front_long = sum (state_long part w.device (w.eeprom ++ w.id) sound_record) (length-append w.eeprom w.id) s.shaped.eeprom s.shaped.id
    where
      sum : {n m a b size : ℕ} → n ≡ 123 + m → m ≡ a + b → a ≡ size → b ≡ 16 → n ≡ 123 + size + 16
      sum p q e i = omega (arith, p, q, e, i)

-- power, mark, frame and cycle from their numbers
power_from :
    (power : Bool) (n : ℕ) (s : Stage) (y : Cycle) → n < mark_by power → stage_kind s < kind_by power
    → y.left < left_by power (foreign_to_wip s) → PowerRange power (eqb n 1) s y
power_from true n s y h k l =
    record {
      unmarked = λ p. ne_eqb n 1 (λ q. omega (arith, h, q));
      idle = λ p. absurd (true_false refl p);
      still = λ p. absurd (true_false refl p);
      heard = λ o.
          by_cases (foreign_to_wip s)
          (λ t. absurd (let z = (limit_open (not (foreign_to_wip s)) y.left cycle_ticks l).1 (ap not t) in omega (arith, z, o))) (λ t. t);
    }
power_from false n s y h k l =
    record {
      unmarked = λ p. absurd (true_false p refl);
      idle = λ p. kind_idle s k;
      still = λ p. omega (arith, l);
      heard = λ o. absurd (omega (arith, l, o));
    }

-- The other way: numbers for which the facts hold.
module _ (ms : List ℕ) (f : RecordFacts ms) (from : ℕ) where
  abbrev e : Device
  e = device_from from ms

  abbrev room : ℕ
  room = size_of (part_in ms)

  -- a piece of the list, its length and its bytes
  piece_at : (k n : ℕ) → (j : ℕ) → j < n → get_or (take n (drop k ms)) j 0 ≡ get_or ms (k + j) 0
  piece_at k n j h = get_or-take n (drop k ms) j 0 h ∙ get_or-drop k ms j 0

  piece_length : (k n : ℕ) → k + n ≤ length ms → length (take n (drop k ms)) ≡ n
  piece_length k n h = length-take-le n (drop k ms) (left_over (length-drop k ms) h)
    where
      left_over : {a b : ℕ} → a ≡ b - k → k + n ≤ b → n ≤ a
      left_over g h = omega (arith, g, h)

  piece_bytes : (k n : ℕ) → k + n ≤ length ms → BytesFrom ms k n → Bytes (take n (drop k ms))
  piece_bytes k n h b j =
      by_cases (ltb j n) (λ t. low (piece_at k n j (ltb-true j n t)) refl (b j (ltb-true j n t)))
      (λ t.
      let past : length (take n (drop k ms)) ≤ j = omega (arith, piece_length k n h, ltb-false j n t) in
      rw (get_or-eq_default (take n (drop k ms)) 0 {n = j} past) (ltb-true 0 256 refl))

  fits : (k : ℕ) → leb k 123 ≡ true → k ≤ length ms
  fits k t = within (leb-true k 123 t) f.reach
    where
      within : {a b : ℕ} → a ≤ 123 → 123 ≤ b → a ≤ b
      within h g = omega (arith, h, g)

  stage_is : StageFrom room (get_or ms 107 0) (get_or ms 108 0) (get_or ms 109 0) (stage_in ms)
  stage_is =
      stage_from room (size_some (part_in ms)) (size_most (part_in ms)) (get_or ms 107 0) (get_or ms 108 0) (get_or ms 109 0) (kind_low (power_in ms) f.kind) f.which
      f.value
    where
      kind_low : {k : ℕ} (p : Bool) → k < kind_by p → k < 8
      kind_low true h = h
      kind_low false h = omega (arith, h)

  target_is : TargetFrom room (get_or ms 120 0) (get_or ms 121 0) (target_of (get_or ms 120 0) (get_or ms 121 0))
  target_is = target_from room (get_or ms 120 0) (get_or ms 121 0) (size_some (part_in ms)) f.target f.place

  -- the registers of the piece
  register_told : (j : ℕ) → j < 32 → get_or e.regs j 0 ≡ register_in ms j
  register_told j h = piece_at 1 32 j h

  clock_in : EventFacts from ms → ClockRange (boots_of (part_in ms)) e.regs e.counters e.events
  clock_in g =
      let t = boots_of (part_in ms) || bit (register_in ms seconds_at) 7 in
      let l = limit_open t (get_or ms 98 0) startup_ticks f.startup in
      record {
        divider = f.divider;
        startup = l.0;
        pulse = no_more f.pulse;
        delay = no_more f.delay;
        watchdog = low refl (ap period_of (register_told 10 (ltb-true 10 32 refl))) f.watchdog;
        stopped = λ b o. l.1 (neither b (ap (λ (v : ℕ). bit v 7) (sym (register_told 1 (ltb-true 1 32 refl))) ∙ o));
        inside = λ k h. (λ i. bit_and (register_told k h i) (get_or kept k 0)) ∙ f.regs k h ∙ sym (register_told k h);
        events =
            subst (λ (v : ℕ). EventsIn v e.events) (sym (register_told 11 (ltb-true 11 32 refl)))
            (events_from (register_in ms event_at) e.events g.door g.drum g.edges g.since g.debounce);
      }
    where
      no_more : {n m : ℕ} → n < 1 + m → n ≤ m
      no_more h = omega (arith, h)

  power_in_lem : PowerRange e.power e.mark e.frame.stage e.cycle
  power_in_lem = power_from (power_in ms) (get_or ms 103 0) (stage_in ms) e.cycle f.mark (low stage_is.kind refl f.kind) f.left

  pub record_sound : EventFacts from ms → SoundRecord (part_in ms) e
  record_sound g =
      record {
        named = f.part;
        range =
            record {
              clock = clock_in g;
              frame = record { offset = f.next; place = stage_is.place };
              cycle = record { countdown = (limit_open (power_in ms && not (foreign_to_wip (stage_in ms))) (get_or ms 122 0) cycle_ticks f.left).0; place = target_is.place };
              power = power_in_lem;
            };
        sized =
            record {
              regs = piece_length 1 32 (fits 33 refl);
              sram = piece_length 33 64 (fits 97 refl);
              bytes = piece_length 111 8 (fits 119 refl);
              offsets = f.offsets;
              sram_bytes = piece_bytes 33 64 (fits 97 refl) f.sram;
              load_bytes = piece_bytes 111 8 (fits 119 refl) f.load;
            };
        carried = stage_is.byte;
      }

  -- one number before the rest of the list, and a piece of it
  one : (k : ℕ) {v : ℕ} {l : List ℕ} → leb (suc k) 123 ≡ true → v ≡ get_or ms k 0 → l ≡ drop (suc k) ms → ◌≡◌ {A = List ℕ} (v ∷ l) (drop k ms)
  one k t p q = (λ i. p i ∷ q i) ∙ sym (drop-cons ms k 0 (fits (suc k) t))

  piece : (k n : ℕ) {l : List ℕ} → l ≡ drop (k + n) ms → take n (drop k ms) ++ l ≡ drop k ms
  piece k n q = ap (λ (x : List ℕ). take n (drop k ms) ++ x) (q ∙ sym (drop-drop n k ms)) ∙ take-append-drop n (drop k ms)

  pub record_back : (rest : List ℕ) → rest ≡ drop 123 ms → numbers_before (part_in ms) e rest ≡ ms
  record_back rest q =
      one 0 refl refl
      (piece 1 32
      (piece 33 64
      (one 97 refl refl
      (one 98 refl refl
      (one 99 refl refl
      (one 100 refl refl
      (one 101 refl refl
      (one 102 refl (flag_of (get_or ms 102 0) f.power)
      (one 103 refl (flag_of (get_or ms 103 0) (mark_low (power_in ms) f.mark))
      (one 104 refl (flag_of (get_or ms 104 0) f.wel)
      (one 105 refl (protection_of_lem (get_or ms 105 0) f.protection)
      (one 106 refl (lock_of_lem (get_or ms 106 0) f.lock)
      (one 107 refl stage_is.kind
      (one 108 refl stage_is.which
      (one 109 refl stage_is.value
      (one 110 refl refl
      (piece 111 8
      (one 119 refl refl
      (one 120 refl target_is.kind
      (one 121 refl target_is.value
      (one 122 refl refl q)))))))))))))))))))))
    where
      mark_low : {k : ℕ} (p : Bool) → k < mark_by p → k < 2
      mark_low true h = omega (arith, h)
      mark_low false h = h

-- the last five numbers of a list
pub events_last : (ms : List ℕ) (k : ℕ) → length ms ≡ k + 5 → event_numbers (events_of k ms) ≡ drop k ms
events_last ms k l =
    (λ i. (ap (λ (m : ℕ). get_or ms m 0) (sym (add-zero k)) ∙ at 0) i ∷ at 1 i ∷ at 2 i ∷ at 3 i ∷ at 4 i ∷ [])
    ∙ sym (five (drop k ms) (left_over (length-drop k ms) l))
  where
    at : (j : ℕ) → get_or ms (k + j) 0 ≡ get_or (drop k ms) j 0
    at j = sym (get_or-drop k ms j 0)

    left_over : {a b : ℕ} → a ≡ b - k → b ≡ k + 5 → a ≡ 5
    left_over p q = omega (arith, p, q)

    five : (l : List ℕ) → length l ≡ 5 → l ≡ get_or l 0 0 ∷ get_or l 1 0 ∷ get_or l 2 0 ∷ get_or l 3 0 ∷ get_or l 4 0 ∷ []
    five [] h = absurd (omega (arith, h))
    five (a ∷ []) h = absurd (omega (arith, h))
    five (a ∷ b ∷ []) h = absurd (omega (arith, h))
    five (a ∷ b ∷ c ∷ []) h = absurd (omega (arith, h))
    five (a ∷ b ∷ c ∷ d ∷ []) h = absurd (omega (arith, h))
    five (a ∷ b ∷ c ∷ d ∷ e ∷ []) h = refl
    five (a ∷ b ∷ c ∷ d ∷ e ∷ g ∷ l) h = absurd (omega (arith, h))

-- With the memories behind the record.
module _ (ms : List ℕ) (f : Facts ms) where
  abbrev space : ℕ
  space = size_of (part_in ms)

  abbrev from : ℕ
  from = chip_events ms

  abbrev first : RecordFacts ms
  first = f.chip.first

  to_id : 123 + space ≤ length ms
  to_id = before_id space f.chip.reach
    where
      before_id : {n : ℕ} (m : ℕ) → 123 + m + 16 ≤ n → 123 + m ≤ n
      before_id m h = omega (arith, h)

  pub facts_sound : Sound (part_in ms) (world_of ms)
  unfolding world_of
  facts_sound =
      let r = record_sound ms first from f.events in
      record {
        named = r.named;
        range = r.range;
        shaped =
            record {
              sized = r.sized;
              eeprom = piece_length ms first from 123 space to_id;
              id = piece_length ms first from (123 + space) 16 f.chip.reach;
              eeprom_bytes = piece_bytes ms first from 123 space to_id f.chip.eeprom;
              id_bytes = piece_bytes ms first from (123 + space) 16 f.chip.reach f.chip.id;
            };
        carried = r.carried;
      }

  pub numbers_back : numbers_of (part_in ms) (world_of ms) ≡ ms
  unfolding numbers_of world_of
  numbers_back =
      record_back ms first from _ (piece ms first from 123 space (piece ms first from (123 + space) 16 (events_last ms from f.long)))

-- Together: the numbers of a chip in range, and the chip of good numbers.
pub sound_numbers : (part : ℕ) (w : World) → Sound part w → IsChip (numbers_of part w)
sound_numbers part w s = facts_good (numbers_of part w) (sound_facts part w s)

pub chip_sound : (ns : List ℕ) → IsChip ns → Sound (part_in ns) (world_of ns)
chip_sound ns g = facts_sound ns (good_facts ns g)

pub chip_numbers : (ns : List ℕ) → IsChip ns → numbers_of (part_in ns) (world_of ns) ≡ ns
chip_numbers ns g = numbers_back ns (good_facts ns g)

-- The state array of a record in range, and the record of an array that passes the test.
module _ (part : ℕ) (d : Device) (s : SoundRecord part d) where
  pub recorded : is_record (state_numbers part d) ≡ true
  unfolding state_numbers
  recorded =
      let e = event_numbers d.events in
      facts_recorded (state_numbers part d)
      (record {
        first = record_facts part d e s;
        long = state_long part d e s;
        events = event_facts_lem part d e s 123 (from_123 part d e s);
      })

  pub device_again : device_of (state_numbers part d) ≡ d
  unfolding state_numbers
  device_again = let e = event_numbers d.events in device_told part d e s 123 (from_123 part d e s)

pub recorded_sound : (ns : List ℕ) → is_record ns ≡ true → SoundRecord (part_in ns) (device_of ns)
recorded_sound ns t = let f = recorded_facts ns t in record_sound ns f.first 123 f.events

pub numbers_again : (ns : List ℕ) → is_record ns ≡ true → state_numbers (part_in ns) (device_of ns) ≡ ns
unfolding state_numbers
numbers_again ns t = let f = recorded_facts ns t in record_back ns f.first 123 _ (events_last ns 123 f.long)
