-- The end of a frame: whether its data fit, whether the write is carried, how WEL and the lock move and which cycle starts are the same in the
-- chip and in the ledger, by the code of the frame.
-- Assumes nothing.
use Prim.Native.Nat.{ℕ, ◌+◌, ◌-◌, ◌/◌, ◌%◌, ◌<◌, ◌≤◌}
use native.Mathlib.Omega.{arith}
use mathlib.Core.Path.{◌≡◌, refl, sym, ap, subst, ◌∙◌}
use mathlib.Core.Bool.{Bool, true, false, not, ◌&&◌, ◌||◌, false≢true, and-false}
use mathlib.Core.Logic.{◌⊎◌, inl, inr, ⊎_elim}
use lib.Dec.{eqb, ltb}
use borrow.Author.Tests.{eq-eqb, ne_eqb, lt-ltb, le-ltb, ltb-true, ltb-false}
use Rattle.std.specs.Prelude.{Some, None}
use Rattle.base.specs.Words.{pick, every}
use Rattle.base.proofs.Tests.{by_cases, pick_case, both_left, both_right}
use Rattle.base.proofs.Every.{same_below}
use Rattle.record.specs.declared.Device.{Device}
use Rattle.record.specs.declared.EepromAddress.{EepromAddress}
use Rattle.record.specs.declared.IdAddress.{IdAddress}
use Rattle.record.specs.declared.Load.{Load}
use Rattle.record.specs.declared.Code.{Code}
use Rattle.record.specs.declared.Code.TheVariants.{Eewrite, Eewrdi, Eewren, Srread, Srwrite, Unlock, Idwrite, Other}
use Rattle.record.specs.declared.Long.TheVariants.{StatusOver}
use Rattle.record.specs.declared.Pair.{Pair}
use Rattle.record.specs.declared.Pair.TheVariants.{StatusData, UnlockData, ClearWatchdog, ClearRam}
use Rattle.record.specs.declared.Place.{Place}
use Rattle.record.specs.declared.Place.TheVariants.{EepromAt, ClockAt, IdAt}
use Rattle.record.specs.declared.Stage.{Stage}
use Rattle.record.specs.declared.Stage.TheVariants.{Idle, Opened, Unheard, Instruction, Reading, Writing, Second, Over}
use Rattle.record.specs.declared.Protection.{Protection}
use Rattle.record.specs.declared.Protection.TheVariants.{Nothing, Quarter, Half, All}
use Rattle.record.specs.declared.Lock.{Lock}
use Rattle.record.specs.declared.Lock.TheVariants.{Closed, First, Open}
use Rattle.record.specs.declared.Target.{Target}
use Rattle.record.specs.Address.{page_of}
use Rattle.record.specs.Codes.{code_of, code_number, is_code, writes_page}
use Rattle.record.specs.Numbers.{protection_of, protection_number}
use Rattle.record.specs.Part.{is_part, top_of}
use Rattle.record.specs.Registers.{cycle_ticks}
use Rattle.record.specs.Stages.{heard, over_code, code_at, at_instruction, is_over, frame_place, eeprom_pointer}
use Rattle.record.proofs.CodeLaws.{same_code}
use Rattle.record.proofs.StageLaws.{reading_code_lem, over_code_lem, unheard_code}
use Rattle.ends.specs.Write as chip
use Rattle.ends.specs.Lock as locks
use Rattle.ends.proofs.EndLaws.{write_stage}
use Rattle.ledger.specs.State as ledger
use Rattle.ledger.specs.State.{Ledger, closed, first_step, opened, eeprom_cycle, id_cycle}
use Rattle.ledger.specs.Frames as rules
use Rattle.run.specs.Begin.{taken}
use Rattle.run.proofs.Agree.{LockAgrees, stays, CountAgrees, Empty, PageAgrees, PairAgrees, DataAgrees, FrameAgrees, WritesPage, WritesBits, TargetAgrees, CycleAgrees, StateAgrees}
use Rattle.run.proofs.Codes.{code_at_lem, addressed_at, write_at, moves, write_moves}
use Rattle.run.proofs.PartLaws.{size_agrees}

-- a data byte came where the count says so
data_count : (n o : ℕ) → 1 < n → (n ≡ 2 → o ≡ 0) → (2 < n → 0 < o) → ltb 0 (n - 2) ≡ not (eqb o 0)
data_count n o h p q =
    by_cases (ltb 2 n)
    (λ t.
    let m : 2 < n = ltb-true 2 n t in
    let r : 0 < o = q m in
    lt-ltb 0 (n - 2) (omega arith) ∙ ap not (sym (ne_eqb o 0 (λ e. omega arith))))
    (λ t.
    let m : n ≤ 2 = ltb-false 2 n t in
    le-ltb 0 (n - 2) (omega arith) ∙ ap not (sym (eq-eqb o 0 (p (omega arith)))))

-- Of a frame whose code writes: whether as much data came as fits; and the page.
module _ (load : Load) (f : ledger.Frame) where
  -- the data bytes of a write of that code
  abbrev datas : Code → ℕ
  datas c = f.count - pick (writes_page c) 2 1

  pub record DataFits (s : Stage) : Type 0 where
    pub fits :
        (ltb 0 (datas (code_at s)) && (not (is_code (code_at s) Srwrite) || eqb (datas (code_at s)) 1))
        ≡ ((not (at_instruction s) && (is_code (code_at s) Srwrite || not (eqb load.offsets 0))) && not (is_over s))
    pub page : is_code (code_at s) Eewrite ≡ true → f.page ≡ page_of (eeprom_pointer (frame_place s))

  abbrev Fits : Stage → Type 0
  Fits s = CountAgrees s f.count → DataAgrees s load f → DataFits s

  fits_first : (c : Code) → chip.is_write c ≡ true → Fits (Instruction c)
  fits_first c w n q =
      let none : ltb 0 (datas c) ≡ false = rw (n.1 (write_moves c w)) (pick_case (λ (k : ℕ). ltb 0 (1 - k) ≡ false) (writes_page c) refl refl) in
      record { fits = rw none; page = λ e. q.page }

  fits_page : (o : ℕ) → 1 < f.count → (f.count ≡ 2 → o ≡ 0) → (2 < f.count → 0 < o) → (ltb 0 (f.count - 2) && true) ≡ (not (eqb o 0) && true)
  fits_page o n p q = ap (λ (t : Bool). t && true) (data_count f.count o n p q)

  fits_eeprom : (a : EepromAddress) → Fits (Writing (EepromAt a))
  fits_eeprom a n q =
      record { fits = fits_page load.offsets n q.none q.some; page = λ e. q.page }

  fits_id : (a : IdAddress) → Fits (Writing (IdAt a))
  fits_id a n q =
      record { fits = fits_page load.offsets n q.none q.some; page = λ e. absurd (false≢true e) }

  fits_status : (v : ℕ) → Fits (Second (StatusData v))
  fits_status v n q = record { fits = rw n; page = λ e. absurd (false≢true e) }

  fits_over : Fits (Over StatusOver)
  fits_over n q =
      let more : ltb 0 (f.count - 1) ≡ true = lt-ltb 0 (f.count - 1) (omega arith) in
      record { fits = rw (more, ne_eqb (f.count - 1) 1 (λ e. omega arith)); page = λ e. absurd (false≢true e) }

  pub fits : (s : Stage) → chip.is_write (code_at s) ≡ true → Fits s
  fits = write_stage Fits fits_first fits_eeprom fits_id fits_status fits_over

-- the same tests in another order
three : (w x y a b c : Bool) → (w ≡ true → (x && y) ≡ ((a && b) && c)) → ((w && x) && y) ≡ (((w && a) && b) && c)
three true x y a b c e = e refl
three false x y a b c e = refl

-- the page's protection, the lock
protected_agrees : (p : Protection) (size a : ℕ) → rules.protected (protection_number p) size (page_of a) ≡ chip.page_protected size p a
protected_agrees Nothing size a = refl
protected_agrees Quarter size a = refl
protected_agrees Half size a = refl
protected_agrees All size a = refl

open-agrees : (x : Lock) (y : ledger.Lock) → LockAgrees x y → rules.is_open y ≡ chip.is_open x
open-agrees Closed y e = rw e
open-agrees First y e = rw e
open-agrees Open y e = rw e

unlock_agrees :
    (z a b : Bool) (x : Lock) (y : ledger.Lock) → LockAgrees x y
    → LockAgrees (pick z (pick a First (pick b (locks.second_step x) Closed)) Closed)
    (pick (z && a) first_step (pick ((z && b) && rules.is_first_step y) opened closed))
unlock_agrees false a b x y e = refl
unlock_agrees true true b x y e = refl
unlock_agrees true false false x y e = refl
unlock_agrees true false true Closed y e = rw e
unlock_agrees true false true First y e = rw e
unlock_agrees true false true Open y e = rw e

-- A frame that is heard.
module _ (s : Stage) (load : Load) (f : ledger.Frame) (q : FrameAgrees s load f) (h : heard s ≡ true) where
  test : (c : Code) → is_code c Other ≡ false → eqb f.code (code_number c) ≡ is_code (code_at s) c
  test c o = code_at_lem f c o (code_at s) (q.code h)

  enough : rules.data_fits f ≡ chip.data_fits load s
  enough =
      (λ i.
      (write_at f (code_at s) (q.code h) i && ltb 0 (f.count - pick (addressed_at f (code_at s) (q.code h) i) 2 1))
      && (not (test Srwrite refl i) || eqb (f.count - pick (addressed_at f (code_at s) (q.code h) i) 2 1) 1))
      ∙ three (chip.is_write (code_at s)) _ _ (not (at_instruction s)) _ _ (λ w. (fits load f s w q.count q.brought).fits)

  -- one byte came just where the stage stands at the instruction
  one_byte : stays (code_at s) ≡ false → eqb f.count 1 ≡ at_instruction s
  one_byte = by s h q.count
    where
      later : 1 < f.count → eqb f.count 1 ≡ false
      later n = ne_eqb f.count 1 (λ e. omega arith)

      by : (s : Stage) → heard s ≡ true → CountAgrees s f.count → stays (code_at s) ≡ false → eqb f.count 1 ≡ at_instruction s
      by Idle h n m = absurd (false≢true h)
      by Opened h n m = absurd (false≢true h)
      by Unheard h n m = absurd (false≢true h)
      by (Instruction c) h n m = eq-eqb f.count 1 (n.1 m)
      by (Reading p) h n m = later n
      by (Writing p) h n m = later n
      by (Second p) h n m = later (omega arith)
      by (Over l) h n m = later (over_code_lem (λ (c : Code). taken c < f.count → 1 < f.count) less less less less same same l n)
        where
          less : 2 < f.count → 1 < f.count
          less o = omega arith

          same : 1 < f.count → 1 < f.count
          same o = o

  latch : (k : ℕ) (c : Code) → is_code c Other ≡ false → stays c ≡ false → (eqb f.code (code_number c) && rules.exactly 1 k f) ≡ chip.latches c k s
  latch k c o m =
      by_cases (is_code (code_at s) c) (λ t. rw (test c o, t, one_byte (moves (code_at s) c m t))) (λ t. rw (test c o, t))

  -- the second byte of UNLOCK
  abbrev Byte : Stage → Type 0
  Byte s = ((eqb f.count 2 ≡ true) × (locks.unlock_byte s ≡ Some f.second)) ⊎ ((eqb f.count 2 ≡ false) × (locks.unlock_byte s ≡ None))

  unlock_byte_lem : is_code (code_at s) Unlock ≡ true → Byte s
  unlock_byte_lem u = by s u h q.count q.brought
    where
      pair : (p : Pair) → f.count ≡ 2 → DataAgrees (Second p) load f → is_code (code_at (Second p)) Unlock ≡ true → Byte (Second p)
      pair (StatusData v) n d u = absurd (false≢true u)
      pair (UnlockData v) n d u = inl (eq-eqb f.count 2 n, ap Some (sym d))
      pair ClearWatchdog n d u = absurd (false≢true u)
      pair ClearRam n d u = absurd (false≢true u)

      place : (p : Place) → is_code (code_at (Writing p)) Unlock ≡ true → ⊥
      place (EepromAt a) u = false≢true u
      place (ClockAt a) u = false≢true u
      place (IdAt a) u = false≢true u

      by : (s : Stage) → is_code (code_at s) Unlock ≡ true → heard s ≡ true → CountAgrees s f.count → DataAgrees s load f → Byte s
      by Idle u h n d = absurd (false≢true h)
      by Opened u h n d = absurd (false≢true h)
      by Unheard u h n d = absurd (false≢true h)
      by (Instruction c) u h n d = inr (ne_eqb f.count 2 (λ e. omega (arith, n.1 (moves c Unlock refl u))), refl)
      by (Reading p) u h n d = absurd (reading_code_lem (λ (c : Code). is_code c Unlock ≡ true → ⊥) false≢true false≢true false≢true p u)
      by (Writing p) u h n d = absurd (place p u)
      by (Second p) u h n d = pair p n d u
      by (Over l) u h n d =
          let c : taken (over_code l) ≡ 2 = ap taken (same_code (over_code l) Unlock u) in
          inr (ne_eqb f.count 2 (λ e. omega (arith, c)), refl)

  lock_heard : (k : ℕ) (x : Lock) (y : ledger.Lock) → LockAgrees x y → LockAgrees (locks.lock_after k x s) (rules.lock_after k f y)
  unfolding rules.lock_after
  lock_heard k x y e =
      by_cases (is_code (code_at s) Unlock)
      (λ u.
      rw (h, test Unlock refl, u)
      (⊎_elim
      (λ b. rw (b.0, b.1) (unlock_agrees (eqb k 0) (eqb f.second 0x55) (eqb f.second 0xaa) x y e))
      (λ b. rw (b.0, b.1) refl)
      (unlock_byte_lem u)))
      (λ u.
      rw (h, test Unlock refl, u, test Eewren refl, test Srread refl)
      (by_cases (locks.leaves_lock (code_at s)) (λ t. rw t e) (λ t. rw t)))

  -- what a carried write's cycle writes
  back : (v : ℕ) → v / 4 % 4 ≡ protection_number (protection_of (v / 4 % 4))
  unfolding every
  back v = sym (same_below (λ (n : ℕ). protection_number (protection_of n)) (λ (n : ℕ). n) 4 refl (v / 4 % 4) (omega arith))

  started : (t : Target) → chip.data_fits load s ≡ true → TargetAgrees (chip.target_at t s) load (rules.cycle_of f)
  unfolding rules.cycle_of
  started t e =
      write_stage (λ (x : Stage). code_of f.code ≡ code_at x → DataAgrees x load f → chip.data_fits load x ≡ true → TargetAgrees (chip.target_at t x) load (rules.cycle_of f))
      first eeprom id status over s (both_left _ (not (at_instruction s)) (both_left _ _ (both_left _ (not (is_over s)) e))) (q.code h) q.brought e
    where
      first : (c : Code) → chip.is_write c ≡ true → code_of f.code ≡ c → Empty f → chip.data_fits load (Instruction c) ≡ true → TargetAgrees t load (rules.cycle_of f)
      first c w k d e = absurd (false≢true (rw w at e))

      eeprom : (a : EepromAddress) → code_of f.code ≡ Eewrite → PageAgrees a.0 load f → chip.data_fits load (Writing (EepromAt a)) ≡ true → WritesPage (rules.cycle_of f) eeprom_cycle a.0 load
      eeprom a k d e = record { kind = rw (code_at_lem f Eewrite refl Eewrite k); page = d.page; loaded = d.loaded }

      id : (a : IdAddress) → code_of f.code ≡ Idwrite → PageAgrees a.0 load f → chip.data_fits load (Writing (IdAt a)) ≡ true → WritesPage (rules.cycle_of f) id_cycle a.0 load
      id a k d e = record { kind = rw (code_at_lem f Eewrite refl Idwrite k, code_at_lem f Idwrite refl Idwrite k); page = d.page; loaded = d.loaded }

      status : (v : ℕ) → code_of f.code ≡ Srwrite → PairAgrees (StatusData v) f → chip.data_fits load (Second (StatusData v)) ≡ true → WritesBits (rules.cycle_of f) (protection_number (protection_of (v / 4 % 4)))
      status v k d e = record { kind = rw (code_at_lem f Eewrite refl Srwrite k, code_at_lem f Idwrite refl Srwrite k); loaded = d.0; bits = rw d.1 (back v) }

      over : code_of f.code ≡ Srwrite → Unit {0} → chip.data_fits load (Over StatusOver) ≡ true → TargetAgrees t load (rules.cycle_of f)
      over k d e = absurd (false≢true e)

-- The whole end, by whether the frame is heard: one that is not leaves WEL, lock and cycle as they are.
module _ (part k : ℕ) (d : Device) (l : Ledger) (known : is_part part ≡ true) (a : StateAgrees d l) where
  abbrev s : Stage
  s = d.frame.stage

  allowed_agrees : heard s ≡ true → rules.allowed part l ≡ chip.allowed (top_of part) d.guard s
  allowed_agrees h =
      let t = test s d.load l.frame a.frame h in
      by_cases (is_code (code_at s) Eewrite)
      (λ e.
      rw (t Eewrite refl, e, a.bp, size_agrees part known, (fits d.load l.frame s (rw e) a.frame.count a.frame.brought).page e)
      (ap not (protected_agrees d.guard.protection (top_of part + 1) (eeprom_pointer (frame_place s)))))
      (λ e.
      rw (t Eewrite refl, e, t Idwrite refl) (ap (λ (b : Bool). pick (is_code (code_at s) Idwrite) b true) (open-agrees d.guard.lock l.lock a.lock)))

  carried_heard : heard s ≡ true → rules.carried part k l ≡ chip.carried (top_of part) k d
  unfolding rules.carried chip.carried
  carried_heard h i = ((a.wel i && enough s d.load l.frame a.frame h i) && eqb k 0) && allowed_agrees h i

  -- no write is carried of a frame that is not heard
  deaf : heard s ≡ false → chip.carried (top_of part) k d ≡ false
  unfolding chip.carried
  deaf h = rw (unheard_code s h) (simp and-false)

  pub carried_agrees : (l.frame.heard && rules.carried part k l) ≡ chip.carried (top_of part) k d
  carried_agrees =
      by_cases (heard s) (λ h. ap (λ (b : Bool). b && rules.carried part k l) (a.frame.heard ∙ h) ∙ carried_heard h)
      (λ h. ap (λ (b : Bool). b && rules.carried part k l) (a.frame.heard ∙ h) ∙ sym (deaf h))

  -- how WEL moves
  wel : Bool
  wel = rules.wel_after k l.frame l.wel

  wel_heard : heard s ≡ true → wel ≡ chip.wel_after k d.guard.wel s
  unfolding wel rules.wel_after chip.wel_after
  wel_heard h i =
      pick (latch s d.load l.frame a.frame h k Eewren refl refl i) true
      (pick (latch s d.load l.frame a.frame h k Eewrdi refl refl i) false (a.wel i))

  wel_deaf : heard s ≡ false → chip.wel_after k d.guard.wel s ≡ d.guard.wel
  unfolding chip.wel_after
  wel_deaf h = rw (unheard_code s h)

  pub wel_agrees : pick l.frame.heard (rules.wel_after k l.frame l.wel) l.wel ≡ chip.wel_after k d.guard.wel s
  unfolding wel
  wel_agrees =
      by_cases (heard s) (λ h. ap (λ (b : Bool). pick b wel l.wel) (a.frame.heard ∙ h) ∙ wel_heard h)
      (λ h. ap (λ (b : Bool). pick b wel l.wel) (a.frame.heard ∙ h) ∙ a.wel ∙ sym (wel_deaf h))

  -- how the lock moves
  pub lock_agrees : LockAgrees (locks.lock_after k d.guard.lock s) (pick l.frame.heard (rules.lock_after k l.frame l.lock) l.lock)
  lock_agrees =
      let P : Bool → Type 0 = λ b. LockAgrees (locks.lock_after k d.guard.lock s) (pick b (rules.lock_after k l.frame l.lock) l.lock) in
      by_cases (heard s)
      (λ h. subst P (sym (a.frame.heard ∙ h)) (lock_heard s d.load l.frame a.frame h k d.guard.lock l.lock a.lock))
      (λ h. subst P (sym (a.frame.heard ∙ h)) (rw h a.lock))

  pub cycle_agrees :
      CycleAgrees (chip.cycle_after (top_of part) k d) d.load (pick (l.frame.heard && rules.carried part k l) (rules.cycle_of l.frame) l.cycle)
  unfolding chip.cycle_after chip.carried rules.cycle_of
  cycle_agrees =
      rw carried_agrees
      (by_cases (chip.carried (top_of part) k d) (λ c. rw c (new c)) (λ c. rw c a.cycle))
    where
      new : chip.carried (top_of part) k d ≡ true → CycleAgrees (record { target = chip.target_at d.cycle.target s; left = cycle_ticks }) d.load (rules.cycle_of l.frame)
      new c =
          by_cases (heard s)
          (λ h. record { left = refl; target = λ r. started s d.load l.frame a.frame h d.cycle.target (both_right d.guard.wel _ (both_left _ (eqb k 0) (both_left _ _ c))) })
          (λ h. absurd (false≢true (sym (deaf h) ∙ c)))
