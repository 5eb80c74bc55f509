-- Laws of a reading by the table: to read its rows line by line and go on gives what the form gives.
-- Assumes nothing.
use mathlib.Core.Path.{◌≡◌, refl, sym, ap, ◌∙◌}
use mathlib.Core.Bool.{Bool, true, false, not, ◌&&◌, ◌||◌}
use mathlib.Core.List.{List, [], ◌∷◌, ◌++◌}
use Prim.Native.Nat.{ℕ, zero, suc, ◌+◌, ◌-◌, ◌*◌, ◌<◌, ◌≤◌}
use native.Mathlib.Omega.{arith}
use borrow.Author.Tests.{eq-eqb, eqb-true, ltb-true, leb-true}
use lib.Dec.{eqb, ltb, leb}
use lib.Bits.{bit_and}
use lib.ListN.{length, get_or}
use Rattle.base.specs.Words.{pick, bit}
use Rattle.base.proofs.Tests.{by_cases, yes, no, pick_case, both_left, both_right}
use Rattle.events.specs.Control.{even1, even0, number_of, debounce_of}
use Rattle.record.specs.Codes.{code_of, code_number}
use Rattle.record.specs.Part.{is_part, size_of, boots_of}
use Rattle.record.specs.Registers.{kept, seconds_at, watchdog_at, event_at, period_of}
use Rattle.record.specs.Stages.{foreign_to_wip}
use Rattle.record.proofs.PartLaws.{size_most}
use Rattle.record.proofs.PeriodLaws.{period_most}
use Rattle.form.specs.Lines.{head_of}
use Rattle.form.specs.Form.{Form, done, Loaded, loaded, bad, load}
use Rattle.form.specs.Table.{Row, part_in, register_in, power_in, stage_in, case_limit, value_limit, target_limit, stage_good, target_good, key_of, good_after, line_good, row_form, rows_form, zeros_after, groups_form, chip_events, older_rows, event_rows, later_groups, in_groups, rows, chip_form, part_row, register_row, sram_row, divider_row, startup_row, watchdog_row, delay_row, pulse_row, power_row, mark_row, wel_row, protection_row, lock_row, stage_row, offsets_row, load_row, next_row, target_row, left_row, eeprom_row, id_row, evls_row, evhs_row, edges_row, since_row, debounce_row}
use Rattle.form.proofs.TableLaws.{RowLive, RowsLive, GroupsLive}
use Rattle.form.proofs.EventLaws.{number_most, debounce_most}
use Rattle.form.proofs.LiveLaws.{older_live, later_live}
use Rattle.saved.specs.Reading.{Reading, reading, past_word, number_at, past_number, Got, got, more, line_from, settled, complete, resumed, mark_after, run_of, line_read, row_read, rows_read, groups_read, text_read}
use Rattle.saved.proofs.ReadingLaws.{Small, line_step, reading_begins, reading_ends, reading_may_end}

-- so many numbers are read
pub run_length : (c : ℕ) (s : Reading) → length (run_of c s).numbers ≡ c
unfolding run_of
run_length zero s = refl
run_length (suc c) s = ap suc (run_length c (past_word (mark_after c ∷ []) (past_number s)))

-- one number, and more after it
run_more : (c : ℕ) (s : Reading) → run_of (suc c) s ≡ got (number_at s ∷ (more c (past_number s)).numbers) (more c (past_number s)).after
unfolding run_of more
run_more zero s = refl
run_more (suc c) s = ap (λ (g : Got). got (number_at s ∷ g.numbers) g.after) (run_more c (past_word (mark_after (suc c) ∷ []) (past_number s)))

line_run : (head : List ℕ) (c : ℕ) (s : Reading) → line_from head c s ≡ run_of (suc c) (past_word head s)
unfolding line_from
line_run head c s = sym (run_more c (past_word head s))

-- the numbers of a row have at most eight digits
abbrev pub Bounded : Row → Type 0
Bounded r = (b : List ℕ) (j n : ℕ) → r.good b j n ≡ true → n < 100000000

after_small : (r : Row) → Bounded r → (b : List ℕ) (j : ℕ) (x : List ℕ) → good_after r b j x ≡ true → Small x
unfolding good_after
after_small r h b j [] g = tt
after_small r h b j (n ∷ x) g =
    let t = r.good b j n in
    let u = good_after r (b ++ (n ∷ [])) (suc j) x in
    (h b j n (both_left t u g), after_small r h (b ++ (n ∷ [])) (suc j) x (both_right t u g))

module _ (r : Row) (live : RowLive r) (small : Bounded r) (next : List ℕ → Form (List ℕ)) where
  abbrev w : ℕ
  w = r.width

  abbrev line_of : ℕ → Got → Got
  line_of i g = run_of w (past_word (head_of (key_of r i)) g.after)

  wide : w ≡ suc (w - 1)
  wide = omega (arith, live.wide)

  fits : (i : ℕ) (b x : List ℕ) → line_good r i b x ≡ true → (length x ≡ suc (w - 1)) × Small x
  unfolding line_good
  fits i b x t =
      let p = eqb (length x) w in
      let q = good_after r b (i * w) x in
      (eqb-true (length x) w (both_left p q t) ∙ wide, after_small r small b (i * w) x (both_right p q t))

  line_good_is : (i : ℕ) (b x : List ℕ) → length x ≡ w → line_good r i b x ≡ good_after r b (i * w) x
  unfolding line_good
  line_good_is i b x e = ap (λ (t : Bool). t && good_after r b (i * w) x) (eq-eqb (length x) w e)

  row_line :
      (n i : ℕ) (g : Got) → resumed (row_form r (suc n) i g.numbers next) g.after
      ≡ resumed (row_form r n (suc i) (line_read r i g).numbers next) (line_read r i g).after
  unfolding row_form line_read
  row_line n i g =
      let b = g.numbers in
      let s = g.after in
      let go : Got → Loaded (List ℕ) = λ o. resumed (row_form r n (suc i) (b ++ o.numbers) next) (settled (line_good r i b o.numbers) o.after) in
      let x = line_of i g in
      line_step (key_of r i) (line_good r i b) (λ (y : List ℕ). row_form r n (suc i) (b ++ y) next) (w - 1) (live.keyed i) (fits i b) s
      ∙ ap go (line_run (head_of (key_of r i)) (w - 1) s ∙ ap (λ (c : ℕ). run_of c (past_word (head_of (key_of r i)) s)) (sym wide))
      ∙ ap (λ (t : Bool). resumed (row_form r n (suc i) (b ++ x.numbers) next) (settled t x.after))
      (line_good_is i b x.numbers (run_length w (past_word (head_of (key_of r i)) s)))

  pub row_reads :
      (n i : ℕ) (g : Got) → resumed (row_form r n i g.numbers next) g.after ≡ resumed (next (row_read r n i g).numbers) (row_read r n i g).after
  unfolding row_form row_read
  row_reads zero i g = refl
  row_reads (suc n) i g = row_line n i g ∙ row_reads n (suc i) (line_read r i g)

unfoldable pub RowsBounded : List Row → Type 0
RowsBounded [] = Unit {0}
RowsBounded (r ∷ rs) = Bounded r × RowsBounded rs

rows_read_lem :
    (rs : List Row) → RowsLive rs → RowsBounded rs → (next : List ℕ → Form (List ℕ)) (g : Got)
    → resumed (rows_form rs next g.numbers) g.after ≡ resumed (next (rows_read rs g).numbers) (rows_read rs g).after
unfolding rows_form rows_read RowsLive RowsBounded
rows_read_lem [] l h next g = refl
rows_read_lem (r ∷ rs) l h next g =
    row_reads r l.0 h.0 (rows_form rs next) (r.lines g.numbers) 0 g ∙ rows_read_lem rs l.1 h.1 next (row_read r (r.lines g.numbers) 0 g)

unfoldable GroupsBounded : List (List Row) → Type 0
GroupsBounded [] = Unit {0}
GroupsBounded (rs ∷ gs) = RowsBounded rs × GroupsBounded gs

groups_read_lem :
    (gs : List (List Row)) → GroupsLive gs → GroupsBounded gs → (g : Got)
    → resumed (groups_form gs g.numbers) g.after ≡ resumed (done (groups_read gs g).numbers) (groups_read gs g).after
unfolding groups_form groups_read GroupsLive GroupsBounded
groups_read_lem [] l h g = refl
groups_read_lem (rs ∷ gs) l h g =
    let b = g.numbers in
    let s = g.after in
    let z = b ++ zeros_after (in_groups (rs ∷ gs)) b in
    let on = groups_read gs (rows_read rs g) in
    let go : Got → Loaded (List ℕ) = λ o. resumed (done o.numbers) o.after in
    reading_may_end z (rows_form rs (groups_form gs) b) s
    ∙ by_cases (complete s)
    (λ t.
    sym (yes (resumed (done z) s) (resumed (rows_form rs (groups_form gs) b) s) t) ∙ ap go (yes (got z s) on t))
    (λ t.
    sym (no (resumed (done z) s) (resumed (rows_form rs (groups_form gs) b) s) t)
    ∙ rows_read_lem rs l.0 h.0 (groups_form gs) g
    ∙ groups_read_lem gs l.1 h.1 (rows_read rs g)
    ∙ ap go (no (got z s) on t))

-- of the chip's table
abbrev Low : ℕ → Type 0
Low m = m ≤ 100000000

low : (n m : ℕ) → Low m → ltb n m ≡ true → n < 100000000
low n m h t = omega (arith, h, ltb-true n m t)

lit : (m : ℕ) → leb m 100000000 ≡ true → Low m
lit m t = leb-true m 100000000 t

size_low : (part : ℕ) → Low (size_of part)
size_low part = omega (arith, size_most part)

stage_bounded : (b : List ℕ) (j n : ℕ) → stage_good b j n ≡ true → n < 100000000
stage_bounded b zero n t = low n _ (pick_case Low (power_in b) (lit 8 refl) (lit 1 refl)) t
stage_bounded b (suc zero) n t =
    let k = get_or b 107 0 in
    low n (case_limit k) (case_low k) (both_left (ltb n (case_limit k)) (not (eqb k 3) || eqb (code_number (code_of n)) n) t)
  where
    case_low : (k : ℕ) → Low (case_limit k)
    case_low zero = lit 1 refl
    case_low (suc zero) = lit 1 refl
    case_low (suc (suc zero)) = lit 1 refl
    case_low (suc (suc (suc zero))) = lit 256 refl
    case_low (suc (suc (suc (suc zero)))) = lit 3 refl
    case_low (suc (suc (suc (suc (suc zero))))) = lit 3 refl
    case_low (suc (suc (suc (suc (suc (suc zero)))))) = lit 4 refl
    case_low (suc (suc (suc (suc (suc (suc (suc zero))))))) = lit 6 refl
    case_low (suc (suc (suc (suc (suc (suc (suc (suc k)))))))) = lit 1 refl
stage_bounded b (suc (suc j)) n t =
    let k = get_or b 107 0 in
    let c = get_or b 108 0 in
    low n (value_limit (size_of (part_in b)) k c)
    (pick_case Low (eqb k 4 || eqb k 5) (pick_case Low (eqb c 0) (size_low (part_in b)) (pick_case Low (eqb c 1) (lit 256 refl) (lit 16 refl)))
    (pick_case Low (eqb k 6 && ltb c 2) (lit 256 refl) (lit 1 refl)))
    t

target_bounded : (b : List ℕ) (j n : ℕ) → target_good b j n ≡ true → n < 100000000
target_bounded b zero n t = low n 3 (lit 3 refl) t
target_bounded b (suc j) n t =
    let k = get_or b 120 0 in
    low n (target_limit (size_of (part_in b)) k) (pick_case Low (eqb k 0) (size_low (part_in b)) (pick_case Low (eqb k 1) (lit 16 refl) (lit 4 refl))) t

part_low : (n : ℕ) → is_part n ≡ true → n < 100000000
part_low n t = omega (arith, leb-true n 4 (both_right (leb 1 n) (leb n 4) t))

number_low : (v : ℕ) → Low (number_of v)
number_low v = omega (arith, number_most v)

debounce_low_lem : (v : ℕ) → Low (suc (debounce_of v))
debounce_low_lem v = omega (arith, debounce_most v)

events_bounded : (place : List ℕ → ℕ) → RowsBounded (event_rows place)
unfolding RowsBounded evls_row evhs_row edges_row since_row debounce_row
events_bounded place = (
  λ b j n. low n 2 (lit 2 refl),
  (
    λ b j n. low n 2 (lit 2 refl),
    (
      λ b j n. low n _ (pick_case Low (even1 (register_in b event_at)) (number_low (register_in b event_at)) (lit 1 refl)),
      (
        λ b j n. low n _ (pick_case Low (ltb 0 (get_or b (place b + 2) 0)) (lit 8193 refl) (lit 1 refl)),
        (
          λ b j n. low n _ (pick_case Low (even0 (register_in b event_at) && ltb 0 (get_or b (place b) 0)) (debounce_low_lem (register_in b event_at)) (lit 1 refl)),
          tt,
        ),
      ),
    ),
  ),
)

bounded_first : (rs ss : List Row) → RowsBounded (rs ++ ss) → RowsBounded rs
unfolding RowsBounded
bounded_first [] ss h = tt
bounded_first (r ∷ rs) ss h = (h.0, bounded_first rs ss h.1)

pub table_bounded : RowsBounded rows
unfolding RowsBounded rows part_row register_row sram_row divider_row startup_row watchdog_row delay_row pulse_row power_row mark_row wel_row protection_row lock_row stage_row offsets_row load_row next_row target_row left_row eeprom_row id_row evls_row evhs_row edges_row since_row debounce_row
table_bounded = (
  λ b j n t. part_low n t,
  (
    λ b j n t. low n 256 (lit 256 refl) (both_left (ltb n 256) (eqb (bit_and n (get_or kept j 0)) n) t),
    (
      λ b j n. low n 256 (lit 256 refl),
      (
        λ b j n. low n 32768 (lit 32768 refl),
        (
          λ b j n. low n _ (pick_case Low (boots_of (part_in b) || bit (register_in b seconds_at) 7) (lit 33 refl) (lit 1 refl)),
          (
            λ b j n. low n (period_of (register_in b watchdog_at)) (period_low (register_in b watchdog_at)),
            (
              λ b j n. low n 2097153 (lit 2097153 refl),
              (
                λ b j n. low n 4097 (lit 4097 refl),
                (
                  λ b j n. low n 2 (lit 2 refl),
                  (
                    λ b j n. low n _ (pick_case Low (power_in b) (lit 1 refl) (lit 2 refl)),
                    (
                      λ b j n. low n 2 (lit 2 refl),
                      (
                        λ b j n. low n 4 (lit 4 refl),
                        (
                          λ b j n. low n 3 (lit 3 refl),
                          (
                            stage_bounded,
                            (
                              λ b j n. low n 256 (lit 256 refl),
                              (
                                λ b j n. low n 256 (lit 256 refl),
                                (
                                  λ b j n. low n 8 (lit 8 refl),
                                  (
                                    target_bounded,
                                    (
                                      λ b j n. low n _ (pick_case Low (power_in b && not (foreign_to_wip (stage_in b))) (lit 165 refl) (lit 1 refl)),
                                      (
                                        λ b j n. low n 256 (lit 256 refl),
                                        (λ b j n. low n 256 (lit 256 refl), events_bounded chip_events),
                                      ),
                                    ),
                                  ),
                                ),
                              ),
                            ),
                          ),
                        ),
                      ),
                    ),
                  ),
                ),
              ),
            ),
          ),
        ),
      ),
    ),
  ),
)
  where
    period_low : (v : ℕ) → Low (period_of v)
    period_low v = omega (arith, period_most v)

older_bounded : RowsBounded older_rows
unfolding rows
older_bounded = bounded_first older_rows (in_groups later_groups) table_bounded

later_bounded : GroupsBounded later_groups
unfolding GroupsBounded
later_bounded = (events_bounded chip_events, tt)

-- what a text gives is what reading it gives
pub text_reads :
    (text : List ℕ) → load chip_form text ≡ pick (complete (text_read text).after) (loaded (text_read text).numbers) (bad (suc (text_read text).after.lines))
unfolding chip_form
text_reads text =
    let first = rows_read older_rows (got [] (reading text 0 false)) in
    reading_begins (rows_form older_rows (groups_form later_groups) []) text
    ∙ rows_read_lem older_rows older_live older_bounded (groups_form later_groups) (got [] (reading text 0 false))
    ∙ groups_read_lem later_groups later_live later_bounded first
    ∙ reading_ends (text_read text).numbers (text_read text).after
