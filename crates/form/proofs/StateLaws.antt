-- A state array: what its numbers are, place by place; the array of a record in range stands for that record, and an array that is a chip's is its record's.
-- Assumes nothing.
use mathlib.Core.Path.{◌≡◌, refl, sym, ap, subst, ◌∙◌}
use mathlib.Core.Bool.{true}
use mathlib.Core.List.{List, [], ◌∷◌, ◌++◌, append_assoc}
use Prim.Native.Nat.{ℕ, suc, ◌+◌, ◌/◌, ◌%◌, ◌-◌, ◌<◌, ◌≤◌}
use native.Mathlib.Omega.{arith}
use borrow.Author.Tests.{leb-true, ltb-true, lt-ltb, eq-eqb}
use lib.Dec.{leb, ltb, eqb}
use lib.ListN.{length, take, drop, get_or, length-append, length-drop, get_or-append, take-append-drop}
use lib.Seq.{get_or-take, get_or-drop, drop-drop, drop_at, take_at, drop-cons, drop-length, length-take-le, ext_get_or}
use Rattle.base.specs.Words.{flag}
use Rattle.base.proofs.Tests.{both_right, both_true}
use Rattle.record.specs.declared.Device.{Device}
use Rattle.record.specs.Numbers.{stage_value}
use Rattle.record.specs.World.{Bytes, Sized}
use Rattle.record.proofs.PeriodLaws.{period_most}
use Rattle.record.specs.Registers.{watchdog_at, event_at}
use Rattle.form.specs.Table.{part_in}
use Rattle.form.specs.Chip.{tail_numbers, guard_numbers, stage_numbers, numbers_before, event_numbers, state_numbers, is_record, device_of, SoundRecord}
use Rattle.form.specs.State.{count_of, count_at, count_bytes, counts_bytes, last_numbers, array_numbers, state_bytes, is_state, event_bytes, state_of}
use Rattle.form.proofs.EventLaws.{debounce_most}
use Rattle.form.proofs.ChipLaws.{from_97, recorded, recorded_sound, numbers_again, device_again}

-- the numbers of a record behind its counts, and with others behind them
abbrev pub rest_before : Device → List ℕ → List ℕ
rest_before d t =
    flag d.power
    ∷ flag d.mark
    ∷ (guard_numbers d.guard ++ (stage_numbers d.frame.stage ++ (d.load.offsets ∷ (d.load.bytes ++ (tail_numbers d.load d.cycle ++ t)))))

abbrev pub rest_of : Device → List ℕ
rest_of d = rest_before d []

rest_split : (d : Device) (t : List ℕ) → rest_before d t ≡ rest_of d ++ t
rest_split d t =
    ap
    (λ (x : List ℕ).
    flag d.power ∷ flag d.mark ∷ (guard_numbers d.guard ++ (stage_numbers d.frame.stage ++ (d.load.offsets ∷ x))))
    (sym (append_assoc d.load.bytes (tail_numbers d.load d.cycle) t))

rest_long : (d : Device) → length d.load.bytes ≡ 8 → length (rest_of d) ≡ 21
rest_long d e = sum (length-append d.load.bytes (tail_numbers d.load d.cycle)) e
  where
    sum : {a b : ℕ} → a ≡ b + 4 → b ≡ 8 → suc (suc (suc (suc (suc (suc (suc (suc (suc a)))))))) ≡ 21
    sum p q = omega (arith, p, q)

rest_of_lem : (part : ℕ) (d : Device) → SoundRecord part d → drop 102 (state_numbers part d) ≡ rest_before d (event_numbers d.events)
unfolding state_numbers
rest_of_lem part d s = let e = event_numbers d.events in sym (drop-drop 5 97 (numbers_before part d e)) ∙ ap (drop 5) (from_97 part d e s)

-- two pieces whose numbers are the same are the same
pub same_piece :
    (a b : List ℕ) (k m n : ℕ) → k + n ≤ length a → m + n ≤ length b → ((j : ℕ) → j < n → get_or a (k + j) 0 ≡ get_or b (m + j) 0)
    → take n (drop k a) ≡ take n (drop m b)
same_piece a b k m n h g e =
    let p = piece_long a k h in
    let q = piece_long b m g in
    ext_get_or 0 (take n (drop k a)) (take n (drop m b)) (p ∙ sym q)
    (λ j l.
    let i : j < n = subst (λ (c : ℕ). j < c) p l in
    get_or-take n (drop k a) j 0 i ∙ get_or-drop k a j 0 ∙ e j i ∙ sym (get_or-take n (drop m b) j 0 i ∙ get_or-drop m b j 0))
  where
    left_over : {x y : ℕ} (i : ℕ) → x ≡ y - i → i + n ≤ y → n ≤ x
    left_over i u v = omega (arith, u, v)

    piece_long : (l : List ℕ) (i : ℕ) → i + n ≤ length l → length (take n (drop i l)) ≡ n
    piece_long l i v = length-take-le n (drop i l) (left_over i (length-drop i l) v)

-- a count of its bytes, and the bytes of a count
pub count_back : (n x y z : ℕ) → n ≡ count_of x y z → x < 256 → y < 256 → z < 256 → (n % 256 ≡ x) × (n / 256 % 256 ≡ y) × (n / 65536 % 256 ≡ z)
count_back n x y z e p q r = (omega arith, omega arith, omega arith)

pub count_again : (n : ℕ) → n < 16777216 → count_of (n % 256) (n / 256 % 256) (n / 65536 % 256) ≡ n
count_again n h = omega arith

-- The numbers of an array.
module _ (bs : List ℕ) (l : length bs ≡ 142) where
  abbrev ns : List ℕ
  ns = array_numbers bs

  abbrev from_counts : List ℕ
  from_counts =
      count_at bs 97 ∷ count_at bs 100 ∷ count_at bs 103 ∷ count_at bs 106 ∷ count_at bs 109 ∷ (take 21 (drop 112 bs) ++ last_numbers bs)

  before_counts : length (take 97 bs) ≡ 97
  before_counts = length-take-le 97 bs (omega (arith, l))

  pub low_at : (k : ℕ) → k < 97 → get_or ns k 0 ≡ get_or bs k 0
  unfolding array_numbers
  low_at k h = get_or-append (take 97 bs) from_counts 0 k (subst (λ (n : ℕ). k < n) (sym before_counts) h) ∙ get_or-take 97 bs k 0 h

  counts_first : drop 97 ns ≡ from_counts
  unfolding array_numbers
  counts_first = drop_at (take 97 bs) from_counts 97 before_counts

  pub count_at_lem : (j : ℕ) → get_or ns (97 + j) 0 ≡ get_or from_counts j 0
  count_at_lem j = sym (get_or-drop 97 ns j 0) ∙ ap (λ (x : List ℕ). get_or x j 0) counts_first

  from_102 : drop 102 ns ≡ take 21 (drop 112 bs) ++ last_numbers bs
  from_102 = sym (drop-drop 5 97 ns) ∙ ap (drop 5) counts_first

  middle_long : length (take 21 (drop 112 bs)) ≡ 21
  middle_long = length-take-le 21 (drop 112 bs) (left_over (length-drop 112 bs) l)
    where
      left_over : {a b : ℕ} → a ≡ b - 112 → b ≡ 142 → 21 ≤ a
      left_over p q = omega (arith, p, q)

  pub high_at : (j : ℕ) → ltb j 21 ≡ true → get_or ns (102 + j) 0 ≡ get_or bs (112 + j) 0
  high_at j t =
      let h = ltb-true j 21 t in
      sym (get_or-drop 102 ns j 0)
      ∙ ap (λ (x : List ℕ). get_or x j 0) from_102
      ∙ get_or-append (take 21 (drop 112 bs)) (last_numbers bs) 0 j (subst (λ (n : ℕ). j < n) (sym middle_long) h)
      ∙ get_or-take 21 (drop 112 bs) j 0 h
      ∙ get_or-drop 112 bs j 0

  pub event_at_lem : (j : ℕ) → get_or ns (123 + j) 0 ≡ get_or (last_numbers bs) j 0
  event_at_lem j =
      sym (get_or-drop 123 ns j 0)
      ∙ ap (λ (x : List ℕ). get_or x j 0)
      (sym (drop-drop 21 102 ns) ∙ ap (drop 21) from_102 ∙ drop_at (take 21 (drop 112 bs)) (last_numbers bs) 21 middle_long)

  pub numbers_long : length ns ≡ 128
  unfolding array_numbers
  numbers_long =
      sum (length-append (take 97 bs) from_counts) before_counts (length-append (take 21 (drop 112 bs)) (last_numbers bs)) middle_long
    where
      sum : {n a b c : ℕ} → n ≡ a + suc (suc (suc (suc (suc b)))) → a ≡ 97 → b ≡ c + 5 → c ≡ 21 → n ≡ 128
      sum p q r s = omega (arith, p, q, r, s)

  reaches : (k : ℕ) → leb k 123 ≡ true → k ≤ length ns
  reaches k t = omega (arith, leb-true k 123 t, numbers_long)

  within : (k : ℕ) → leb k 142 ≡ true → k ≤ length bs
  within k t = omega (arith, leb-true k 142 t, l)

  pub registers_in : take 32 (drop 1 ns) ≡ take 32 (drop 1 bs)
  registers_in = same_piece ns bs 1 1 32 (reaches 33 refl) (within 33 refl) (λ j h. low_at (1 + j) (omega (arith, h)))

  pub sram_in : take 64 (drop 33 ns) ≡ take 64 (drop 33 bs)
  sram_in = same_piece ns bs 33 33 64 (reaches 97 refl) (within 97 refl) (λ j h. low_at (33 + j) (omega (arith, h)))

  pub load_in : take 8 (drop 111 ns) ≡ take 8 (drop 121 bs)
  load_in = same_piece ns bs 111 121 8 (reaches 119 refl) (within 129 refl) (λ j h. shifted j (lt-ltb (9 + j) 21 (omega (arith, h))))
    where
      shifted : (j : ℕ) → ltb (9 + j) 21 ≡ true → get_or ns (111 + j) 0 ≡ get_or bs (121 + j) 0
      shifted j t =
          let p : 111 + j ≡ 102 + (9 + j) = omega arith in
          let q : 112 + (9 + j) ≡ 121 + j = omega arith in
          ap (λ (k : ℕ). get_or ns k 0) p ∙ high_at (9 + j) t ∙ ap (λ (k : ℕ). get_or bs k 0) q

  -- An array that is a chip's, of bytes: the array of its record.
  module _ (b : Bytes bs) (t : is_state bs ≡ true) where
    abbrev d : Device
    d = device_of ns

    is_record_lem : is_record ns ≡ true
    unfolding is_state
    is_record_lem = both_right (eqb (length bs) state_bytes) (is_record ns) t

    sound : SoundRecord (part_in ns) d
    sound = recorded_sound ns is_record_lem

    -- one byte before the rest of the array, three of a count, and a piece
    one : (k : ℕ) {v : ℕ} {x : List ℕ} → leb (suc k) 142 ≡ true → v ≡ get_or bs k 0 → x ≡ drop (suc k) bs → ◌≡◌ {A = List ℕ} (v ∷ x) (drop k bs)
    one k h p q = (λ i. p i ∷ q i) ∙ sym (drop-cons bs k 0 (within (suc k) h))

    piece : (k n : ℕ) {x y : List ℕ} → y ≡ take n (drop k bs) → x ≡ drop (k + n) bs → y ++ x ≡ drop k bs
    piece k n p q = (λ i. p i ++ (q ∙ sym (drop-drop n k bs)) i) ∙ take-append-drop n (drop k bs)

    count :
        (k : ℕ) {n : ℕ} {x : List ℕ} → leb (suc (suc (suc k))) 142 ≡ true → leb (suc (suc k)) 142 ≡ true → leb (suc k) 142 ≡ true
        → n ≡ count_of (get_or bs k 0) (get_or bs (suc k) 0) (get_or bs (suc (suc k)) 0) → x ≡ drop (suc (suc (suc k))) bs → count_bytes n ++ x ≡ drop k bs
    count k {n} h2 h1 h0 e q =
        let z = count_back n (get_or bs k 0) (get_or bs (suc k) 0) (get_or bs (suc (suc k)) 0) e (b k) (b (suc k)) (b (suc (suc k))) in
        one k h0 z.0 (one (suc k) h1 z.1 (one (suc (suc k)) h2 z.2 q))

    rest_told : rest_of d ≡ take 21 (drop 112 bs)
    rest_told =
        sym (take_at (rest_of d) (event_numbers d.events) 21 (rest_long d sound.sized.bytes))
        ∙ ap (take 21) (sym (rest_split d (event_numbers d.events)) ∙ sym (rest_of_lem (part_in ns) d sound) ∙ ap (drop 102) (numbers_again ns is_record_lem) ∙ from_102)
        ∙ take_at (take 21 (drop 112 bs)) (last_numbers bs) 21 middle_long

    -- nothing behind the last byte
    none_left : [] ≡ drop 142 bs
    none_left = sym (drop-length bs) ∙ ap (λ (n : ℕ). drop n bs) l

    events_told : event_bytes d.events ≡ drop 133 bs
    events_told =
        one 133 refl (event_at_lem 0)
        (one 134 refl (event_at_lem 1)
        (one 135 refl (event_at_lem 2)
        (count 136 refl refl refl (event_at_lem 3) (count 139 refl refl refl (event_at_lem 4) none_left))))

    end_told : rest_before d (event_bytes d.events) ≡ drop 112 bs
    end_told = rest_split d (event_bytes d.events) ∙ piece 112 21 rest_told events_told

    pub array_again : state_of (part_in ns) d ≡ bs
    unfolding state_of
    array_again =
        one 0 refl (low_at 0 (omega arith))
        (piece 1 32 registers_in
        (piece 33 64 sram_in
        (count 97 refl refl refl (count_at_lem 0)
        (count 100 refl refl refl (count_at_lem 1)
        (count 103 refl refl refl (count_at_lem 2) (count 106 refl refl refl (count_at_lem 3) (count 109 refl refl refl (count_at_lem 4) end_told)))))))

-- The array of a record, piece by piece.
module _ (part : ℕ) (d : Device) (z : Sized d) where
  abbrev bs : List ℕ
  bs = state_of part d

  abbrev front : List ℕ
  front = part ∷ (d.regs ++ d.sram)

  front_long : length front ≡ 97
  front_long = sum (length-append d.regs d.sram) z.regs z.sram
    where
      sum : {n a b : ℕ} → n ≡ a + b → a ≡ 32 → b ≡ 64 → suc n ≡ 97
      sum p q r = omega (arith, p, q, r)

  abbrev rest : List ℕ
  rest = rest_before d (event_bytes d.events)

  in_two : bs ≡ front ++ (counts_bytes d.counters ++ rest)
  unfolding state_of
  in_two = ap (λ (x : List ℕ). part ∷ x) (sym (append_assoc d.regs d.sram (counts_bytes d.counters ++ rest)))

  end_long : length rest ≡ 30
  end_long = ap length (rest_split d (event_bytes d.events)) ∙ sum (length-append (rest_of d) (event_bytes d.events)) (rest_long d z.bytes)
    where
      sum : {n a : ℕ} → n ≡ a + 9 → a ≡ 21 → n ≡ 30
      sum p q = omega (arith, p, q)

  pub array_long : length bs ≡ 142
  array_long = ap length in_two ∙ sum (length-append front (counts_bytes d.counters ++ rest)) front_long counts_long end_long
    where
      counts_long : length (counts_bytes d.counters ++ rest) ≡ 15 + length rest
      counts_long = length-append (counts_bytes d.counters) rest

      sum : {n a m b : ℕ} → n ≡ a + m → a ≡ 97 → m ≡ 15 + b → b ≡ 30 → n ≡ 142
      sum p q u r = omega (arith, p, q, u, r)

  -- from the counts on
  counts_on : drop 97 bs ≡ counts_bytes d.counters ++ rest
  counts_on = ap (drop 97) in_two ∙ drop_at front (counts_bytes d.counters ++ rest) 97 front_long

  rest_on : drop 112 bs ≡ rest
  rest_on = sym (drop-drop 15 97 bs) ∙ ap (drop 15) counts_on

  -- the record behind its counts, and the event inputs
  middle_on : take 21 (drop 112 bs) ≡ rest_of d
  middle_on =
      ap (take 21) (rest_on ∙ rest_split d (event_bytes d.events)) ∙ take_at (rest_of d) (event_bytes d.events) 21 (rest_long d z.bytes)

  event_on : (j : ℕ) → get_or bs (133 + j) 0 ≡ get_or (event_bytes d.events) j 0
  event_on j =
      sym (get_or-drop 133 bs j 0)
      ∙ ap (λ (x : List ℕ). get_or x j 0)
      (sym (drop-drop 21 112 bs) ∙ ap (drop 21) (rest_on ∙ rest_split d (event_bytes d.events))
      ∙ drop_at (rest_of d) (event_bytes d.events) 21 (rest_long d z.bytes))

  pub byte_on : (j : ℕ) → get_or bs (97 + j) 0 ≡ get_or (counts_bytes d.counters ++ rest) j 0
  byte_on j = sym (get_or-drop 97 bs j 0) ∙ ap (λ (x : List ℕ). get_or x j 0) counts_on

  -- a stage's value is a byte where the array is of bytes
  pub carried_in : Bytes bs → stage_value d.frame.stage < 256
  carried_in b = subst (λ (v : ℕ). v < 256) (byte_on 22) (b 119)

-- The array of a record in range: its numbers are the record's.
module _ (part : ℕ) (d : Device) (s : SoundRecord part d) where
  abbrev z : Sized d
  z = s.sized

  last_told : last_numbers (state_of part d) ≡ event_numbers d.events
  last_told =
      let e = s.range.clock.events in
      let on = event_on part d z in
      λ i.
      on 0 i
      ∷ on 1 i
      ∷ on 2 i
      ∷ ((λ k. count_of (on 3 k) (on 4 k) (on 5 k)) ∙ count_again d.events.since (far e.since (ltb-true 8192 16777216 refl))) i
      ∷ ((λ k. count_of (on 6 k) (on 7 k) (on 8 k)) ∙ count_again d.events.debounce (far e.debounce (below (debounce_most (get_or d.regs event_at 0))))) i
      ∷ []
    where
      far : {n m : ℕ} → n ≤ m → m < 16777216 → n < 16777216
      far p q = omega (arith, p, q)

      below : {m : ℕ} → m ≤ 16384 → m < 16777216
      below p = omega (arith, p)

  -- the numbers behind the counts
  behind_counts : take 21 (drop 112 (state_of part d)) ++ last_numbers (state_of part d) ≡ rest_before d (event_numbers d.events)
  behind_counts = (λ i. middle_on part d z i ++ last_told i) ∙ sym (rest_split d (event_numbers d.events))

  pub numbers_told : array_numbers (state_of part d) ≡ state_numbers part d
  unfolding array_numbers state_numbers
  numbers_told =
      let c = s.range.clock in
      (λ i.
      (ap (take 97) (in_two part d z) ∙ take_at (part ∷ (d.regs ++ d.sram)) (counts_bytes d.counters ++ rest part d z) 97 (front_long part d z)) i
      ++ (((λ k. count_of (byte_on part d z 0 k) (byte_on part d z 1 k) (byte_on part d z 2 k)) ∙ count_again d.counters.divider (omega (arith, c.divider))) i
      ∷ ((λ k. count_of (byte_on part d z 3 k) (byte_on part d z 4 k) (byte_on part d z 5 k)) ∙ count_again d.counters.startup (omega (arith, c.startup))) i
      ∷ ((λ k. count_of (byte_on part d z 6 k) (byte_on part d z 7 k) (byte_on part d z 8 k)) ∙ count_again d.counters.watchdog (omega (arith, c.watchdog, period_most (get_or d.regs watchdog_at 0)))) i
      ∷ ((λ k. count_of (byte_on part d z 9 k) (byte_on part d z 10 k) (byte_on part d z 11 k)) ∙ count_again d.counters.delay (omega (arith, c.delay))) i
      ∷ ((λ k. count_of (byte_on part d z 12 k) (byte_on part d z 13 k) (byte_on part d z 14 k)) ∙ count_again d.counters.pulse (omega (arith, c.pulse))) i
      ∷ behind_counts i))
      ∙ ap (λ (x : List ℕ). part ∷ x) (append_assoc d.regs d.sram _)

  pub state_good : is_state (state_of part d) ≡ true
  unfolding is_state
  state_good = both_true (eq-eqb (length (state_of part d)) state_bytes (array_long part d z)) (ap is_record numbers_told ∙ recorded part d s)

  pub device_told : device_of (array_numbers (state_of part d)) ≡ d
  device_told = ap device_of numbers_told ∙ device_again part d s
