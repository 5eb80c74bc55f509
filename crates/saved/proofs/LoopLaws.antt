-- Laws of the loops that read: the list of numbers in its array, the numbers of a line, the lines of a row, the rows.
-- Assumes nothing.
use mathlib.Core.Path.{◌≡◌, refl, sym, ap, subst, ◌∙◌}
use mathlib.Core.Bool.{Bool, true, false, not, ◌&&◌, ◌||◌}
use mathlib.Core.List.{List, [], ◌∷◌, ◌++◌, append-nil, append_assoc}
use Prim.Native.Nat.{ℕ, zero, suc, ◌+◌, ◌-◌, ◌*◌, ◌/◌, ◌<◌, ◌≤◌}
use native.Mathlib.Nat.{add-zero, zero-add, zero-mul, suc-mul}
use native.Mathlib.Numerals.{add-one}
use native.Mathlib.Omega.{arith}
use borrow.Author.Tests.{eqb-true, ltb-true, ltb-false, leb-true, lt-ltb, le-ltb}
use lib.Dec.{eqb, ltb, leb}
use lib.ListN.{length, take, drop, get_or, set, replicate, length-append, length-replicate, get_or-append, get_or-eq_default, take-append-drop}
use lib.Seq.{take_at, take_all, take-suc, drop-cons, set_at, append_snoc, get_or-append-add, length-take-le}
use Rattle.base.specs.Words.{pick, bit, every}
use Rattle.base.proofs.Tests.{by_cases, yes, no, pick_case}
use Rattle.base.proofs.Every.{every_at}
use Rattle.base.proofs.StoreLaws.{replicate_each}
use Rattle.record.specs.Numbers.{stage_of}
use Rattle.record.specs.Part.{size_of, boots_of}
use Rattle.record.specs.Registers.{period_of, startup_ticks, cycle_ticks}
use Rattle.record.specs.Stages.{foreign_to_wip}
use Rattle.record.proofs.PartLaws.{size_most}
use Rattle.form.specs.Lines.{head_of}
use Rattle.form.specs.Table.{Row, span, part_in, case_good, value_limit, target_limit, edges_by, since_by, debounce_by, chip_events, stage_good, target_good, key_of, good_after, zeros_after, older_rows, event_rows, later_groups, in_groups, rows, part_row, register_row, sram_row, divider_row, startup_row, watchdog_row, delay_row, pulse_row, power_row, mark_row, wel_row, protection_row, lock_row, stage_row, offsets_row, load_row, next_row, target_row, left_row, eeprom_row, id_row, evls_row, evhs_row, edges_row, since_row, debounce_row}
use Rattle.numbers.specs.Tables.{row_at, row_count, number_limit}
use Rattle.numbers.proofs.TableLaws.{widths, line_counts, lines_by, row_width, row_lines_lem}
use Rattle.saved.specs.Reading.{Reading, reading, past_word, number_at, past_number, Got, got, settled, mark_after, run_of, line_read, row_read, rows_read, groups_read, text_read, readable, complete}
use Rattle.std.specs.Prelude.{Result, Ok, Err, IfOk, IfErr, IsErrAnd}
use Rattle.saved.specs.declared.Bad.{Bad}
use Rattle.saved.specs.declared.read.Read.{Read}
use Rattle.saved.specs.Place.{reading_at, stopped_at, filled, Holds, RowRead, rows_in, most, RowsRead, TextRead}
use Rattle.saved.proofs.ReadingLaws.{word_lines, number_lines, complete_at}
use Rattle.saved.proofs.RowLaws.{run_length}

-- The list in its array: one number more, and what is read at a place.
pub filled_long : (b : List ℕ) → length b ≤ number_limit → length (filled b) ≡ number_limit
unfolding filled
filled_long b h = length-append b (replicate (400 - length b) 0) ∙ ap (λ (n : ℕ). length b + n) (length-replicate (400 - length b) 0) ∙ whole (length b) h
  where
    whole : (n : ℕ) → n ≤ 400 → n + (400 - n) ≡ 400
    whole n h = omega arith

pub filled_more : (b : List ℕ) (n : ℕ) → length b < number_limit → set (filled b) (length b) n ≡ filled (b ++ (n ∷ []))
unfolding filled
filled_more b n h =
    let one : 400 - length b ≡ suc (400 - (length b + 1)) = less (length b) h in
    let long : length (b ++ (n ∷ [])) ≡ length b + 1 = length-append b (n ∷ []) in
    ap (λ (k : ℕ). set (b ++ replicate k 0) (length b) n) one
    ∙ set_at b 0 (replicate (400 - (length b + 1)) 0) n (length b) refl
    ∙ sym (append_snoc b n (replicate (400 - (length b + 1)) 0))
    ∙ ap (λ (k : ℕ). (b ++ (n ∷ [])) ++ replicate (400 - k) 0) (sym long)
  where
    less : (m : ℕ) → m < 400 → 400 - m ≡ suc (400 - (m + 1))
    less m h = omega arith

zeros : (n k : ℕ) → ◌≡◌ {A = ℕ} (get_or (replicate n 0) k 0) 0
zeros n k = replicate_each (λ (v : ℕ). ◌≡◌ {A = ℕ} v 0) n 0 refl refl k

pub filled_at : (b : List ℕ) (k : ℕ) → get_or (filled b) k 0 ≡ get_or b k 0
unfolding filled
filled_at b k =
    by_cases (ltb k (length b)) (λ t. get_or-append b (replicate (400 - length b) 0) 0 k (ltb-true k (length b) t))
    (λ f.
    let l = ltb-false k (length b) f in
    let e : k ≡ length b + (k - length b) = past (length b) l in
    ap (λ (n : ℕ). get_or (b ++ replicate (400 - length b) 0) n 0) e
    ∙ get_or-append-add b (replicate (400 - length b) 0) (k - length b) 0
    ∙ zeros (400 - length b) (k - length b)
    ∙ sym (get_or-eq_default b 0 {n = k} l))
  where
    past : (m : ℕ) → m ≤ k → k ≡ m + (k - m)
    past m l = omega (arith, l)

pub filled_start : (b : List ℕ) → take (length b) (filled b) ≡ b
unfolding filled
filled_start b = take_at b (replicate (400 - length b) 0) (length b) refl

-- numbers 0 behind a list are there already
pub filled_zeros : (b : List ℕ) (k : ℕ) → length b + k ≤ number_limit → filled b ≡ filled (b ++ replicate k 0)
unfolding filled
filled_zeros b k h =
    let long : length (b ++ replicate k 0) ≡ length b + k = length-append b (replicate k 0) ∙ ap (λ (n : ℕ). length b + n) (length-replicate k 0) in
    let split : 400 - length b ≡ k + (400 - (length b + k)) = parts (length b) h in
    ap (λ (n : ℕ). b ++ replicate n 0) split
    ∙ ap (λ (x : List ℕ). b ++ x) (more k (400 - (length b + k)))
    ∙ sym (append_assoc b (replicate k 0) (replicate (400 - (length b + k)) 0))
    ∙ ap (λ (n : ℕ). (b ++ replicate k 0) ++ replicate (400 - n) 0) (sym long)
  where
    parts : (n : ℕ) → n + k ≤ 400 → 400 - n ≡ k + (400 - (n + k))
    parts n p = omega (arith, p)

    more : (i j : ℕ) → ◌≡◌ {A = List ℕ} (replicate (i + j) 0) (replicate i 0 ++ replicate j 0)
    more zero j = ap (λ (n : ℕ). replicate n 0) (zero-add j)
    more (suc i) j =
        let e : suc i + j ≡ suc (i + j) = omega arith in
        ap (λ (n : ℕ). replicate n 0) e ∙ ap (λ (x : List ℕ). 0 ∷ x) (more i j)

-- What a row says of a number goes by what is read at places.
abbrev pub Alike : List ℕ → List ℕ → Type 0
Alike m b = (k : ℕ) → get_or m k 0 ≡ get_or b k 0

stage_alike : (m b : List ℕ) → Alike m b → (j n : ℕ) → stage_good m j n ≡ stage_good b j n
stage_alike m b e zero n = λ i. ltb n (pick (eqb (e 102 i) 1) 8 1)
stage_alike m b e (suc zero) n = λ i. case_good (e 107 i) n
stage_alike m b e (suc (suc j)) n = λ i. ltb n (value_limit (size_of (e 0 i)) (e 107 i) (e 108 i))

target_alike : (m b : List ℕ) → Alike m b → (j n : ℕ) → target_good m j n ≡ target_good b j n
target_alike m b e zero n = refl
target_alike m b e (suc j) n = λ i. ltb n (target_limit (size_of (e 0 i)) (e 120 i))

pub good_alike : (i : ℕ) (m b : List ℕ) → Alike m b → (j n : ℕ) → (row_at i).good m j n ≡ (row_at i).good b j n
unfolding row_at rows part_row register_row sram_row divider_row startup_row watchdog_row delay_row pulse_row power_row mark_row wel_row protection_row lock_row stage_row offsets_row load_row next_row target_row left_row eeprom_row id_row evls_row evhs_row edges_row since_row debounce_row
good_alike zero m b e j n = refl
good_alike (suc zero) m b e j n = refl
good_alike (suc (suc zero)) m b e j n = refl
good_alike (suc (suc (suc zero))) m b e j n = refl
good_alike (suc (suc (suc (suc zero)))) m b e j n = λ q. ltb n (pick (boots_of (e 0 q) || bit (e 2 q) 7) (suc startup_ticks) 1)
good_alike (suc (suc (suc (suc (suc zero))))) m b e j n = λ q. ltb n (period_of (e 11 q))
good_alike (suc (suc (suc (suc (suc (suc zero)))))) m b e j n = refl
good_alike (suc (suc (suc (suc (suc (suc (suc zero))))))) m b e j n = refl
good_alike (suc (suc (suc (suc (suc (suc (suc (suc zero)))))))) m b e j n = refl
good_alike (suc (suc (suc (suc (suc (suc (suc (suc (suc zero))))))))) m b e j n = λ q. ltb n (pick (eqb (e 102 q) 1) 1 2)
good_alike (suc (suc (suc (suc (suc (suc (suc (suc (suc (suc zero)))))))))) m b e j n = refl
good_alike (suc (suc (suc (suc (suc (suc (suc (suc (suc (suc (suc zero))))))))))) m b e j n = refl
good_alike (suc (suc (suc (suc (suc (suc (suc (suc (suc (suc (suc (suc zero)))))))))))) m b e j n = refl
good_alike (suc (suc (suc (suc (suc (suc (suc (suc (suc (suc (suc (suc (suc zero))))))))))))) m b e j n = stage_alike m b e j n
good_alike (suc (suc (suc (suc (suc (suc (suc (suc (suc (suc (suc (suc (suc (suc zero)))))))))))))) m b e j n = refl
good_alike (suc (suc (suc (suc (suc (suc (suc (suc (suc (suc (suc (suc (suc (suc (suc zero))))))))))))))) m b e j n = refl
good_alike (suc (suc (suc (suc (suc (suc (suc (suc (suc (suc (suc (suc (suc (suc (suc (suc zero)))))))))))))))) m b e j n = refl
good_alike (suc (suc (suc (suc (suc (suc (suc (suc (suc (suc (suc (suc (suc (suc (suc (suc (suc zero))))))))))))))))) m b e j n = target_alike m b e j n
good_alike (suc (suc (suc (suc (suc (suc (suc (suc (suc (suc (suc (suc (suc (suc (suc (suc (suc (suc zero)))))))))))))))))) m b e j n = λ q. ltb n (pick (eqb (e 102 q) 1 && not (foreign_to_wip (stage_of (e 107 q) (e 108 q) (e 109 q)))) (suc cycle_ticks) 1)
good_alike (suc (suc (suc (suc (suc (suc (suc (suc (suc (suc (suc (suc (suc (suc (suc (suc (suc (suc (suc zero))))))))))))))))))) m b e j n = refl
good_alike (suc (suc (suc (suc (suc (suc (suc (suc (suc (suc (suc (suc (suc (suc (suc (suc (suc (suc (suc (suc zero)))))))))))))))))))) m b e j n = refl
good_alike (suc (suc (suc (suc (suc (suc (suc (suc (suc (suc (suc (suc (suc (suc (suc (suc (suc (suc (suc (suc (suc zero))))))))))))))))))))) m b e j n = refl
good_alike (suc (suc (suc (suc (suc (suc (suc (suc (suc (suc (suc (suc (suc (suc (suc (suc (suc (suc (suc (suc (suc (suc zero)))))))))))))))))))))) m b e j n = refl
good_alike (suc (suc (suc (suc (suc (suc (suc (suc (suc (suc (suc (suc (suc (suc (suc (suc (suc (suc (suc (suc (suc (suc (suc zero))))))))))))))))))))))) m b e j n = λ q. ltb n (edges_by (e 12 q))
good_alike (suc (suc (suc (suc (suc (suc (suc (suc (suc (suc (suc (suc (suc (suc (suc (suc (suc (suc (suc (suc (suc (suc (suc (suc zero)))))))))))))))))))))))) m b e j n = (λ q. ltb n (since_by (get_or m (123 + size_of (e 0 q) + 16 + 2) 0))) ∙ ap (λ (v : ℕ). ltb n (since_by v)) (e (chip_events b + 2))
good_alike (suc (suc (suc (suc (suc (suc (suc (suc (suc (suc (suc (suc (suc (suc (suc (suc (suc (suc (suc (suc (suc (suc (suc (suc (suc zero))))))))))))))))))))))))) m b e j n = (λ q. ltb n (debounce_by (e 12 q) (get_or m (123 + size_of (e 0 q) + 16) 0))) ∙ ap (λ (v : ℕ). ltb n (debounce_by (get_or b 12 0) v)) (e (chip_events b))
good_alike (suc (suc (suc (suc (suc (suc (suc (suc (suc (suc (suc (suc (suc (suc (suc (suc (suc (suc (suc (suc (suc (suc (suc (suc (suc (suc i)))))))))))))))))))))))))) m b e j n = refl

-- an error that `?` hands on is the one that it met
pub handed : {A : Type 0} (o : Result A Bad) (e : Bad) → IsErrAnd o (λ x. x ≡ e) → o ≡ Err e
handed (Ok x) e h = elim h [ ]
handed (Err x) e h = ap Err h

-- so what it says of a bad line stays
pub stopped_on :
    {A : Type 0} (text : List ℕ) (s : Reading) (o : Result A Bad) (e : Bad) → IsErrAnd o (λ x. x ≡ e)
    → (stopped_at text e ≡ s) × (e.place.lines ≤ number_limit) → IfErr o (λ x. (stopped_at text x ≡ s) × (x.place.lines ≤ number_limit))
stopped_on text s o e h k =
    subst (λ (r : Result _ Bad). IfErr r (λ x. (stopped_at text x ≡ s) × (x.place.lines ≤ number_limit))) (sym (handed o e h)) k

-- A reading that has stopped stays where it is, and every number is 0.
pub run_still : (c : ℕ) (t : List ℕ) (n : ℕ) → run_of c (reading t n true) ≡ got (replicate c 0) (reading t n true)
unfolding run_of number_at past_number readable past_word
run_still zero t n = refl
run_still (suc c) t n = ap (λ (g : Got). got (0 ∷ g.numbers) g.after) (run_still c t n)

run_stopped :
    (c : ℕ) (s : Reading) (t : List ℕ) (n : ℕ) → 0 ≡ number_at s → reading t n true ≡ past_number s → run_of (suc c) s ≡ got (replicate (suc c) 0) (reading t n true)
unfolding run_of past_word
run_stopped c s t n v e =
    (λ q. got (sym v q ∷ (run_of c (past_word (mark_after c ∷ []) (sym e q))).numbers) (run_of c (past_word (mark_after c ∷ []) (sym e q))).after)
    ∙ ap (λ (g : Got). got (0 ∷ g.numbers) g.after) (run_still c t n)

line_still : (r : Row) (i : ℕ) (b : List ℕ) (t : List ℕ) (n : ℕ) → (line_read r i (got b (reading t n true))).after ≡ reading t n true
unfolding line_read past_word settled
line_still r i b t n =
    ap (λ (x : Got). settled (good_after r b (i * r.width) x.numbers) x.after) (run_still r.width t n)

row_still : (r : Row) (c i : ℕ) (g : Got) (t : List ℕ) (n : ℕ) → g.after ≡ reading t n true → (row_read r c i g).after ≡ reading t n true
unfolding row_read
row_still r zero i g t n e = e
row_still r (suc c) i g t n e =
    row_still r c (suc i) (line_read r i g) t n (ap (λ (s : Reading). (line_read r i (got g.numbers s)).after) e ∙ line_still r i g.numbers t n)

rows_still : (rs : List Row) (g : Got) (t : List ℕ) (n : ℕ) → g.after ≡ reading t n true → (rows_read rs g).after ≡ reading t n true
unfolding rows_read
rows_still [] g t n e = e
rows_still (r ∷ rs) g t n e = rows_still rs (row_read r (r.lines g.numbers) 0 g) t n (row_still r (r.lines g.numbers) 0 g t n e)

groups_still : (gs : List (List Row)) (g : Got) (t : List ℕ) (n : ℕ) → g.after ≡ reading t n true → (groups_read gs g).after ≡ reading t n true
unfolding groups_read complete
groups_still [] g t n e = e
groups_still (rs ∷ gs) g t n e =
    ap (λ (x : Got). x.after)
    (sym (no (got (g.numbers ++ zeros_after (in_groups (rs ∷ gs)) g.numbers) g.after) (groups_read gs (rows_read rs g)) (ap complete e)))
    ∙ groups_still gs (rows_read rs g) t n (rows_still rs g t n e)

-- The numbers of a line, one after the other.
after_snoc : (r : Row) (b : List ℕ) (j : ℕ) (x : List ℕ) (n : ℕ) → good_after r b j (x ++ (n ∷ [])) ≡ good_after r b j x && r.good (b ++ x) (j + length x) n
unfolding good_after
after_snoc r b j [] n = (λ q. r.good (sym (append-nil b) q) (sym (add-zero j) q) n && true) ∙ and_true (r.good (b ++ []) (j + 0) n)
  where
    and_true : (t : Bool) → (t && true) ≡ t
    and_true true = refl
    and_true false = refl
after_snoc r b j (m ∷ x) n =
    let p : suc j + length x ≡ j + suc (length x) = omega arith in
    ap (λ (t : Bool). r.good b j m && t) (after_snoc r (b ++ (m ∷ [])) (suc j) x n ∙ (λ q. good_after r (b ++ (m ∷ [])) (suc j) x && r.good (append_snoc b m x q) (p q) n))
    ∙ sym (and_assoc (r.good b j m) (good_after r (b ++ (m ∷ [])) (suc j) x) (r.good (b ++ (m ∷ x)) (j + suc (length x)) n))
  where
    and_assoc : (t u v : Bool) → ((t && u) && v) ≡ (t && (u && v))
    and_assoc true u v = refl
    and_assoc false u v = refl

module _ (r : Row) (b : List ℕ) (first w : ℕ) (s₀ : Reading) where
  abbrev all : List ℕ
  all = (run_of w s₀).numbers

  -- j numbers are read: what is left gives what the whole gives; the list has them; the test is of them
  pub record Went (j : ℕ) (s : Reading) (good : Bool) (m : List ℕ) : Type 0 where
    pub left : run_of (w - j) s ≡ got (drop j all) (run_of w s₀).after
    pub list : m ≡ filled (b ++ take j all)
    pub test : good ≡ good_after r b first (take j all)

  pub went_none : Went 0 s₀ true (filled b)
  unfolding good_after
  went_none =
      let z : w - 0 ≡ w = omega arith in
      record {
        left = ap (λ (n : ℕ). run_of n s₀) z;
        list = ap filled (sym (append-nil b));
        test = refl;
      }

  -- the next number stands where the rest begins
  next_number : (j : ℕ) (s : Reading) (good : Bool) (m : List ℕ) → j < w → Went j s good m → get_or all j 0 ≡ number_at s
  unfolding run_of
  next_number j s good m h g =
      let o : w - j ≡ suc (w - (j + 1)) = omega arith in
      let l : j < length all = subst (λ (k : ℕ). j < k) (sym (run_length w s₀)) h in
      first_same (sym (drop-cons all j 0 l) ∙ ap (λ (x : Got). x.numbers) (sym g.left ∙ ap (λ (k : ℕ). run_of k s) o))
    where
      first_same : {a c : ℕ} {x y : List ℕ} → ◌≡◌ {A = List ℕ} (a ∷ x) (c ∷ y) → a ≡ c
      first_same e = ap (λ (l : List ℕ). get_or l 0 0) e

  pub went_more :
      (count : ℕ) → length b ≡ count → (j : ℕ) (s : Reading) (good : Bool) (m : List ℕ) (v : ℕ) (t u : Reading) (g : Bool) → j < w → count + w ≤ number_limit → Went j s good m
      → v ≡ number_at s → t ≡ past_number s → u ≡ past_word (mark_after (w - (j + 1)) ∷ []) t → g ≡ r.good m (first + j) v
      → ((x y : List ℕ) → Alike x y → r.good x (first + j) v ≡ r.good y (first + j) v)
      → Went (j + 1) u (good && g) (set m (count + j) v)
  unfolding run_of
  went_more count eb j s good m v t u g h room w₀ ev et eu eg alike =
      let c = w - (j + 1) in
      let o : w - j ≡ suc c = omega (arith, h) in
      let l : j < length all = subst (λ (k : ℕ). j < k) (sym (run_length w s₀)) h in
      let n : get_or all j 0 ≡ v = next_number j s good m h w₀ ∙ sym ev in
      let whole = sym (ap (λ (k : ℕ). run_of k s) o) ∙ w₀.left in
      let rest = run_of c (past_word (mark_after c ∷ []) (past_number s)) in
      let tail : rest.numbers ≡ drop (j + 1) all =
      ap (λ (x : Got). drop 1 x.numbers) whole ∙ ap (drop 1) (drop-cons all j 0 l) ∙ ap (λ (k : ℕ). drop k all) (sym (add-one j)) in
      let end : rest.after ≡ (run_of w s₀).after = ap (λ (x : Got). x.after) whole in
      let more : take (j + 1) all ≡ take j all ++ (v ∷ []) = ap (λ (k : ℕ). take k all) (add-one j) ∙ take-suc all j 0 l ∙ ap (λ (k : ℕ). take j all ++ (k ∷ [])) n in
      let taken : length (take j all) ≡ j = length-take-le j all (below l) in
      let long : length (b ++ take j all) ≡ count + j = length-append b (take j all) ∙ (λ i. eb i + taken i) in
      record {
        left = ap (run_of c) (eu ∙ ap (past_word (mark_after c ∷ [])) et) ∙ (λ i. got (tail i) (end i));
        list =
            ap (λ (x : List ℕ). set x (count + j) v) w₀.list
            ∙ ap (λ (k : ℕ). set (filled (b ++ take j all)) k v) (sym long)
            ∙ filled_more (b ++ take j all) v (inside long h room)
            ∙ ap filled (append_assoc b (take j all) (v ∷ []) ∙ ap (λ (x : List ℕ). b ++ x) (sym more));
        test =
            (λ i.
            w₀.test i
            && (eg
            ∙ alike m (b ++ take j all) (λ k. ap (λ (x : List ℕ). get_or x k 0) w₀.list ∙ filled_at (b ++ take j all) k)
            ∙ ap (λ (k : ℕ). r.good (b ++ take j all) (first + k) v) (sym taken)) i)
            ∙ sym (after_snoc r b first (take j all) v)
            ∙ ap (good_after r b first) (sym more);
      }
    where
      below : {a : ℕ} → j < a → j ≤ a
      below p = omega (arith, p)

      inside : {a : ℕ} → a ≡ count + j → j < w → count + w ≤ 400 → a < 400
      inside p q k = omega (arith, p, q, k)

  pub went_all : (s : Reading) (good : Bool) (m : List ℕ) (j : ℕ) → j ≡ w → Went j s good m
      → (m ≡ filled (b ++ all)) × (s ≡ (run_of w s₀).after) × (good ≡ good_after r b first all)
  unfolding run_of
  went_all s good m j e g =
      let t : take j all ≡ all = take_all j all (short (run_length w s₀) e) in
      let z : w - j ≡ 0 = omega (arith, e) in (
        g.list ∙ ap (λ (x : List ℕ). filled (b ++ x)) t,
        ap (λ (x : Got). x.after) (sym (ap (λ (k : ℕ). run_of k s) z) ∙ g.left),
        g.test ∙ ap (good_after r b first) t,
      )
    where
      short : {a c : ℕ} → a ≡ w → c ≡ w → a ≤ c
      short p q = omega (arith, p, q)

  -- a bad line ends them: what has not come is 0
  went_bad :
      (j : ℕ) (s : Reading) (good : Bool) (m t : List ℕ) (n : ℕ) → Went j s good m → j ≤ w → length b + w ≤ number_limit
      → run_of (w - j) s ≡ got (replicate (w - j) 0) (reading t n true)
      → (m ≡ filled (b ++ all)) × (reading t n true ≡ settled (good_after r b first all) (run_of w s₀).after)
  unfolding settled
  went_bad j s good m t n g h room e =
      let both = sym g.left ∙ e in
      let rest : drop j all ≡ replicate (w - j) 0 = ap (λ (x : Got). x.numbers) both in
      let end : (run_of w s₀).after ≡ reading t n true = ap (λ (x : Got). x.after) both in
      let taken : length (take j all) ≡ j = length-take-le j all (subst (λ (k : ℕ). j ≤ k) (sym (run_length w s₀)) h) in
      let long : length (b ++ take j all) ≡ length b + j = length-append b (take j all) ∙ ap (λ (k : ℕ). length b + k) taken in (
        g.list
            ∙ filled_zeros (b ++ take j all) (w - j) (fits (length b) long h room)
            ∙ ap filled
            (append_assoc b (take j all) (replicate (w - j) 0)
            ∙ ap (λ (x : List ℕ). b ++ x) (ap (λ (x : List ℕ). take j all ++ x) (sym rest) ∙ take-append-drop j all)),
        ap (settled (good_after r b first all)) (sym end),
      )
    where
      fits : (c : ℕ) {a : ℕ} → a ≡ c + j → j ≤ w → c + w ≤ 400 → a + (w - j) ≤ 400
      fits c p q u = omega (arith, p, q, u)

  pub number_bad :
      (j : ℕ) (s : Reading) (good : Bool) (m t : List ℕ) (n : ℕ) → Went j s good m → j < w → length b + w ≤ number_limit
      → 0 ≡ number_at s → reading t n true ≡ past_number s
      → (m ≡ filled (b ++ all)) × (reading t n true ≡ settled (good_after r b first all) (run_of w s₀).after)
  number_bad j s good m t n g h room v e =
      let o : suc (w - (j + 1)) ≡ w - j = omega (arith, h) in
      went_bad j s good m t n g (omega (arith, h)) room
      (subst (λ (k : ℕ). run_of k s ≡ got (replicate k 0) (reading t n true)) o (run_stopped (w - (j + 1)) s t n v e))

  pub mark_bad :
      (j : ℕ) (good : Bool) (m t : List ℕ) (n : ℕ) → Went (j + 1) (reading t n true) good m → j < w → length b + w ≤ number_limit
      → (m ≡ filled (b ++ all)) × (reading t n true ≡ settled (good_after r b first all) (run_of w s₀).after)
  mark_bad j good m t n g h room =
      went_bad (j + 1) (reading t n true) good m t n g (omega (arith, h)) room (run_still (w - (j + 1)) t n)

-- how many numbers an array holds
pub held_long : (m : List ℕ) (count : ℕ) → Holds m count → count ≤ number_limit → length (take count m) ≡ count
held_long m count h l = length-take-le count m (subst (λ (n : ℕ). count ≤ n) (sym h.long) l)

pub holds : (b : List ℕ) (n : ℕ) → length b ≡ n → n ≤ number_limit → Holds (filled b) n
holds b n e l =
    let t : take n (filled b) ≡ b = ap (λ (k : ℕ). take k (filled b)) (sym e) ∙ filled_start b in
    record { long = filled_long b (subst (λ (k : ℕ). k ≤ 400) (sym e) l); list = ap filled (sym t) }

-- the test that ends a line and the list after it, from the array
pub line_went :
    (r : Row) (m : List ℕ) (count first w : ℕ) (s₀ : Reading) → Holds m count → Went r (take count m) first w s₀ 0 s₀ true m
line_went r m count first w s₀ h =
    subst (Went r (take count m) first w s₀ 0 s₀ true) (sym h.list) (went_none r (take count m) first w s₀)

-- A line of a row: its numbers, its width, how many there are.
pub width_most : (i : ℕ) → i < row_count → (0 < (row_at i).width) × ((row_at i).width ≤ 8)
unfolding every
width_most i h =
    let e = row_width i h in
    let w = get_or widths i 0 in (
      subst (λ (n : ℕ). 0 < n) e (ltb-true 0 w (every_at (λ (k : ℕ). ltb 0 (get_or widths k 0)) 26 refl i h)),
      subst (λ (n : ℕ). n ≤ 8) e (leb-true w 8 (every_at (λ (k : ℕ). leb (get_or widths k 0) 8) 26 refl i h)),
    )

pub lines_most : (b : List ℕ) (i : ℕ) → i < row_count → (row_at i).lines b ≤ 32
unfolding every
lines_most b i h =
    subst (λ (n : ℕ). n ≤ 32) (sym (row_lines_lem b i h))
    (pick_case (λ (n : ℕ). n ≤ 32) (eqb i 19) (pages (size_of (part_in b)) (size_most (part_in b)))
    (leb-true (get_or line_counts i 0) 32 (every_at (λ (k : ℕ). leb (get_or line_counts k 0) 32) 26 refl i h)))
  where
    pages : (n : ℕ) → n ≤ 256 → n / 8 ≤ 32
    pages n l = omega arith

-- products that a line needs
pub times_more : (i n w : ℕ) → i < n → i * w + w ≤ n * w
times_more i zero w h = absurd (omega arith)
times_more i (suc n) w h =
    by_cases (ltb i n) (λ t. omega (arith, suc-mul n w, times_more i n w (ltb-true i n t)))
    (λ f. let e : i ≡ n = omega (arith, h, ltb-false i n f) in subst (λ (k : ℕ). k * w + w ≤ suc n * w) (sym e) (omega (arith, suc-mul n w)))

pub line_small : (row i w : ℕ) → row < row_count → w ≡ (row_at row).width → i < 32 → i * w + w ≤ 1000
line_small row i w h e l = small (times_more i 32 w l) (subst (λ (k : ℕ). k ≤ 8) (sym e) (width_most row h).1)
  where
    small : {k v : ℕ} → k ≤ 32 * v → v ≤ 8 → k ≤ 1000
    small p q = omega (arith, p, q)

pub register_line : (row i w : ℕ) → row ≡ 1 → w ≡ (row_at row).width → i < 32 → i * w + w ≤ 32
unfolding row_at rows register_row
register_line row i w e f l =
    let one : w ≡ 1 = f ∙ ap (λ (k : ℕ). (row_at k).width) e in
    subst (λ (k : ℕ). i * k + k ≤ 32) (sym one) (within l)
  where
    within : {a : ℕ} → a < 32 → a * 1 + 1 ≤ 32
    within p = omega (arith, p)

-- a line's reading keeps the count of lines until it is settled
run_lines : (c : ℕ) (s : Reading) → (run_of c s).after.lines ≡ s.lines
unfolding run_of
run_lines zero s = refl
run_lines (suc c) s = run_lines c (past_word (mark_after c ∷ []) (past_number s)) ∙ word_lines (mark_after c ∷ []) (past_number s) ∙ number_lines s

pub went_lines :
    (r : Row) (b : List ℕ) (first w : ℕ) (s₀ : Reading) (j : ℕ) (s : Reading) (good : Bool) (m : List ℕ) → Went r b first w s₀ j s good m → s.lines ≡ s₀.lines
went_lines r b first w s₀ j s good m g = sym (run_lines (w - j) s) ∙ ap (λ (x : Got). x.after.lines) g.left ∙ run_lines w s₀

settled_lines : (t : Bool) (s : Reading) → (settled t s).lines ≤ s.lines + 1
unfolding settled
settled_lines t s = pick_case (λ (x : Reading). x.lines ≤ s.lines + 1) (s.stopped || not t) (omega arith) (omega arith)

line_more : (r : Row) (i : ℕ) (g : Got) → (line_read r i g).after.lines ≤ g.after.lines + 1
unfolding line_read
line_more r i g =
    let h = head_of (key_of r i) in
    let x = run_of r.width (past_word h g.after) in
    subst (λ (k : ℕ). (settled (good_after r g.numbers (i * r.width) x.numbers) x.after).lines ≤ k + 1)
    (run_lines r.width (past_word h g.after) ∙ word_lines h g.after) (settled_lines (good_after r g.numbers (i * r.width) x.numbers) x.after)

-- the whole line
pub line_is :
    (r : Row) (i w : ℕ) (b head : List ℕ) (s t : Reading) → w ≡ r.width → head ≡ head_of (key_of r i) → t ≡ past_word head s → {m : List ℕ}
    → m ≡ filled (b ++ (run_of w t).numbers) → m ≡ filled (line_read r i (got b s)).numbers
unfolding line_read
line_is r i w b head s t e h f {m} g =
    g ∙ ap (λ (x : List ℕ). filled (b ++ x)) (λ q. (run_of (e q) ((f ∙ ap (λ (l : List ℕ). past_word l s) h) q)).numbers)

pub line_ends :
    (r : Row) (i w : ℕ) (b head : List ℕ) (s t v : Reading) → w ≡ r.width → head ≡ head_of (key_of r i) → t ≡ past_word head s
    → v ≡ settled (good_after r b (i * w) (run_of w t).numbers) (run_of w t).after → v ≡ (line_read r i (got b s)).after
unfolding line_read
line_ends r i w b head s t v e h f l =
    let p = f ∙ ap (λ (x : List ℕ). past_word x s) h in
    l ∙ (λ q. settled (good_after r b (i * e q) (run_of (e q) (p q)).numbers) (run_of (e q) (p q)).after)

-- a line that is bad at its head
pub head_bad :
    (r : Row) (i w : ℕ) (b head : List ℕ) (s : Reading) (m t : List ℕ) (n : ℕ) → w ≡ r.width → head ≡ head_of (key_of r i) → reading t n true ≡ past_word head s
    → m ≡ filled b → length b + w ≤ number_limit → (m ≡ filled (line_read r i (got b s)).numbers) × (reading t n true ≡ (line_read r i (got b s)).after)
unfolding line_read settled
head_bad r i w b head s m t n e h f g room =
    let p : past_word (head_of (key_of r i)) s ≡ reading t n true = sym (f ∙ ap (λ (x : List ℕ). past_word x s) h) in
    let x : run_of r.width (past_word (head_of (key_of r i)) s) ≡ got (replicate r.width 0) (reading t n true) = ap (run_of r.width) p ∙ run_still r.width t n in (
      g ∙ filled_zeros b r.width (subst (λ (k : ℕ). length b + k ≤ 400) e room) ∙ ap (λ (y : Got). filled (b ++ y.numbers)) (sym x),
      ap (λ (y : Got). settled (good_after r b (i * r.width) y.numbers) y.after) (sym x),
    )

pub line_long : (r : Row) (i : ℕ) (g : Got) → length (line_read r i g).numbers ≡ length g.numbers + r.width
unfolding line_read
line_long r i g =
    length-append g.numbers (run_of r.width (past_word (head_of (key_of r i)) g.after)).numbers
    ∙ ap (λ (n : ℕ). length g.numbers + n) (run_length r.width (past_word (head_of (key_of r i)) g.after))

-- Lines of a row: i of n are read, so many numbers are there.
module _ (r : Row) (n : ℕ) (g : Got) where
  pub record Rows (i at : ℕ) (m : List ℕ) (s : Reading) : Type 0 where
    pub list : Holds m at
    pub left : row_read r (n - i) i (got (take at m) s) ≡ row_read r n 0 g
    pub counted : at ≡ length g.numbers + i * r.width
    pub fewer : s.lines ≤ at

  pub rows_none : (m : List ℕ) (count : ℕ) (s : Reading) → Holds m count → g ≡ got (take count m) s → length g.numbers ≡ count → s.lines ≤ count → Rows 0 count m s
  rows_none m count s h e l f =
      let z : n - 0 ≡ n = omega arith in
      record {
        list = h;
        left = ap (λ (k : ℕ). row_read r k 0 (got (take count m) s)) z ∙ ap (row_read r n 0) (sym e);
        counted = sym l ∙ plus (length g.numbers) (zero-mul r.width);
        fewer = f;
      }
    where
      plus : (a : ℕ) {z : ℕ} → z ≡ 0 → a ≡ a + z
      plus a e = omega (arith, e)

  pub rows_more :
      (i at : ℕ) (m : List ℕ) (s : Reading) (m' : List ℕ) (s' : Reading) → i < n → at + r.width ≤ number_limit → 0 < r.width → Rows i at m s
      → m' ≡ filled (line_read r i (got (take at m) s)).numbers → s' ≡ (line_read r i (got (take at m) s)).after → Rows (i + 1) (at + r.width) m' s'
  unfolding row_read
  rows_more i at m s m' s' h room wide o e f =
      let b = got (take at m) s in
      let x = (line_read r i b).numbers in
      let here : length (take at m) ≡ at = held_long m at o.list (less r.width room) in
      let long : length x ≡ at + r.width = line_long r i b ∙ ap (λ (c : ℕ). c + r.width) here in
      let same : take (at + r.width) m' ≡ x = ap (take (at + r.width)) e ∙ ap (λ (c : ℕ). take c (filled x)) (sym long) ∙ filled_start x in
      let one : n - i ≡ suc (n - (i + 1)) = omega (arith, h) in
      record {
        list = subst (λ (l : List ℕ). Holds l (at + r.width)) (sym e) (holds x (at + r.width) long room);
        left =
            (λ q. row_read r (n - (i + 1)) (add-one i q) (got (same q) (f q)))
            ∙ sym (ap (λ (c : ℕ). row_read r c i b) one)
            ∙ o.left;
        counted = step (length g.numbers) (i * r.width) r.width o.counted (suc-mul i r.width) (ap (λ (c : ℕ). c * r.width) (add-one i));
        fewer = more at s.lines s'.lines r.width o.fewer (subst (λ (x : Reading). x.lines ≤ s.lines + 1) (sym f) (line_more r i b)) wide;
      }
    where
      less : {a : ℕ} (c : ℕ) → a + c ≤ 400 → a ≤ 400
      less c p = omega (arith, p)

      step : (c p v : ℕ) {a q t : ℕ} → a ≡ c + p → q ≡ p + v → t ≡ q → a + v ≡ c + t
      step c p v d u z = omega (arith, d, u, z)

      more : (a c d v : ℕ) → c ≤ a → d ≤ c + 1 → 0 < v → d ≤ a + v
      more a c d v p q z = omega (arith, p, q, z)

  pub rows_step :
      (v : ℕ) → v ≡ r.width → (i at : ℕ) (m : List ℕ) (s : Reading) (m' : List ℕ) (s' : Reading) → i < n → at + r.width ≤ number_limit → 0 < r.width
      → Rows i at m s → m' ≡ filled (line_read r i (got (take at m) s)).numbers → s' ≡ (line_read r i (got (take at m) s)).after → Rows (i + 1) (at + v) m' s'
  rows_step v w i at m s m' s' h room wide o e f =
      subst (λ (z : ℕ). Rows (i + 1) (at + z) m' s') (sym w) (rows_more i at m s m' s' h room wide o e f)

  -- a bad line among them
  pub row_bad :
      (i at : ℕ) (m : List ℕ) (s : Reading) (t : List ℕ) (k : ℕ) → i < n → at + r.width ≤ number_limit → 0 < r.width → n ≡ r.lines g.numbers → Rows i at m s
      → reading t k true ≡ (line_read r i (got (take at m) s)).after → (reading t k true ≡ (row_read r (r.lines g.numbers) 0 g).after) × (k ≤ number_limit)
  unfolding row_read
  row_bad i at m s t k h room wide l o e =
      let b = got (take at m) s in
      let one : n - i ≡ suc (n - (i + 1)) = omega (arith, h) in (
        sym (row_still r (n - (i + 1)) (suc i) (line_read r i b) t k (sym e))
            ∙ sym (ap (λ (c : ℕ). (row_read r c i b).after) one)
            ∙ ap (λ (x : Got). x.after) o.left
            ∙ ap (λ (c : ℕ). (row_read r c 0 g).after) l,
        few s.lines r.width o.fewer (subst (λ (x : Reading). x.lines ≤ s.lines + 1) (sym e) (line_more r i b)) wide room,
      )
    where
      few : (c v : ℕ) → c ≤ at → k ≤ c + 1 → 0 < v → at + v ≤ 400 → k ≤ 400
      few c v p q z u = omega (arith, p, q, z, u)

  pub rows_all : (i at : ℕ) (m : List ℕ) (s : Reading) → i ≡ n → n ≡ r.lines g.numbers → Rows i at m s → RowRead r g m s at
  unfolding row_read
  rows_all i at m s e l o =
      let z : n - i ≡ 0 = omega (arith, e) in
      record {
        list = o.list;
        whole = sym (ap (λ (c : ℕ). row_read r c i (got (take at m) s)) z) ∙ o.left ∙ ap (λ (c : ℕ). row_read r c 0 g) l;
        counted = o.counted ∙ ap (λ (c : ℕ). length g.numbers + c * r.width) (e ∙ l);
        fewer = o.fewer;
      }

-- how many lines code reads, and room for each
pub lines_are : (row l : ℕ) (m : List ℕ) (count : ℕ) → row < row_count → Holds m count → l ≡ (row_at row).lines (get_or m 0 0 ∷ []) → l ≡ (row_at row).lines (take count m)
lines_are row l m count h o e =
    e
    ∙ row_lines_lem (get_or m 0 0 ∷ []) row h
    ∙ ap (λ (x : List ℕ). lines_by row (get_or x 0 0)) o.list
    ∙ ap (lines_by row) (filled_at (take count m) 0)
    ∙ sym (row_lines_lem (take count m) row h)

room_line :
    (n i w at : ℕ) (b : List ℕ) → i < n → at ≡ length b + i * w → length b + n * w ≤ number_limit → at + w ≤ number_limit
room_line n i w at b h e l = fits (i * w) (n * w) (times_more i n w h) e l
  where
    fits : (p q : ℕ) → p + w ≤ q → at ≡ length b + p → length b + q ≤ 400 → at + w ≤ 400
    fits p q t u v = omega (arith, t, u, v)

-- where a row has room, line i of it has
pub line_fits :
    (row l : ℕ) (m : List ℕ) (count i at : ℕ) → Holds m count → l ≡ (row_at row).lines (take count m)
    → count + span (row_at row) (take count m) ≤ number_limit → i < l → at ≡ length (take count m) + i * (row_at row).width
    → at + (row_at row).width ≤ number_limit
line_fits row l m count i at o n room h e =
    let b = take count m in
    let r = row_at row in
    let k = held_long m count o (less (span r b) room) in
    room_line l i r.width at b h e
    (subst (λ (z : ℕ). length b + z * r.width ≤ 400) (sym n) (subst (λ (z : ℕ). z + span r b ≤ 400) (sym k) room))
  where
    less : {x : ℕ} (s : ℕ) → x + s ≤ 400 → x ≤ 400
    less s p = omega (arith, p)

-- The rows: after i of them at most so many numbers are there.
span_is : (b : List ℕ) (i : ℕ) → i < row_count → span (row_at i) b ≡ lines_by i (part_in b) * get_or widths i 0
span_is b i h = λ q. row_lines_lem b i h q * sym (row_width i h) q

pub most_more : (b : List ℕ) (i : ℕ) → i < row_count → most i + span (row_at i) b ≤ most (i + 1)
unfolding every most
most_more b i h =
    subst (λ (n : ℕ). most i + n ≤ most (i + 1)) (sym (span_is b i h))
    (by_cases (eqb i 19) (λ t. rw (eqb-true i 19 t) (pages (size_of (part_in b)) (size_most (part_in b))))
    (λ f.
    rw f
    (leb-true (most i + get_or line_counts i 0 * get_or widths i 0) (most (i + 1))
    (every_at (λ (k : ℕ). leb (most k + get_or line_counts k 0 * get_or widths k 0) (most (k + 1))) 26 refl i h))))
  where
    pages : (n : ℕ) → n ≤ 256 → 123 + n / 8 * 8 ≤ 379
    pages n l = omega arith

pub most_few : (i : ℕ) → i ≤ row_count → most i ≤ number_limit
unfolding every most
most_few i h = leb-true (most i) 400 (every_at (λ (k : ℕ). leb (most k) 400) 27 refl i (within h))
  where
    within : {n : ℕ} → n ≤ 26 → n < 27
    within p = omega (arith, p)

rows_count : length rows ≡ 26
unfolding rows
rows_count = refl

pub row_first : (i : ℕ) → i < row_count → drop i rows ≡ row_at i ∷ drop (suc i) rows
unfolding row_at
row_first i h = drop-cons rows i id_row (subst (λ (n : ℕ). i < n) (sym rows_count) h)

-- Rows from `first` on, before `end`: after some of them what is left gives what all of them give.
pub rows_first : (i end : ℕ) → i < end → end ≤ row_count → rows_in i end ≡ row_at i ∷ rows_in (i + 1) end
unfolding rows_in
rows_first i end h l =
    let one : end - i ≡ suc (end - (i + 1)) = omega (arith, h) in
    (λ q. take (one q) (row_first i (within h l) q)) ∙ ap (λ (k : ℕ). row_at i ∷ take (end - (i + 1)) (drop k rows)) (sym (add-one i))
  where
    within : {a b : ℕ} → a < b → b ≤ 26 → a < 26
    within p q = omega (arith, p, q)

module _ (first end : ℕ) (g : Got) where
  pub record Reads (i count : ℕ) (m : List ℕ) (s : Reading) : Type 0 where
    pub list : Holds m count
    pub left : rows_read (rows_in i end) (got (take count m) s) ≡ rows_read (rows_in first end) g
    pub few : count ≤ most i
    pub fewer : s.lines ≤ count

  pub reads_none : (m : List ℕ) (count : ℕ) (s : Reading) → Holds m count → g ≡ got (take count m) s → count ≤ most first → s.lines ≤ count → Reads first count m s
  reads_none m count s h e l f = record { list = h; left = ap (rows_read (rows_in first end)) (sym e); few = l; fewer = f }

  pub reads_more :
      (i count : ℕ) (m : List ℕ) (s : Reading) (m' : List ℕ) (s' : Reading) (count' : ℕ) → i < end → end ≤ row_count → Reads i count m s
      → RowRead (row_at i) (got (take count m) s) m' s' count' → Reads (i + 1) count' m' s'
  unfolding rows_read
  reads_more i count m s m' s' count' h k t r =
      let b = take count m in
      let here = within h k in
      let l : length b ≡ count = held_long m count t.list (under t.few (most_few i (le here))) in
      record {
        list = r.list;
        left =
            ap (rows_read (rows_in (i + 1) end)) r.whole
            ∙ sym (ap (λ (rs : List Row). rows_read rs (got b s)) (rows_first i end h k))
            ∙ t.left;
        few = grown (span (row_at i) b) r.counted l t.few (most_more b i here);
        fewer = r.fewer;
      }
    where
      within : {a b : ℕ} → a < b → b ≤ 26 → a < 26
      within p q = omega (arith, p, q)

      le : {n : ℕ} → n < 26 → n ≤ 26
      le p = omega (arith, p)

      under : {a c : ℕ} → a ≤ c → c ≤ 400 → a ≤ 400
      under p q = omega (arith, p, q)

      grown : {a c d e g : ℕ} (f : ℕ) → a ≡ c + f → c ≡ d → d ≤ e → e + f ≤ g → a ≤ g
      grown f p q u v = omega (arith, p, q, u, v)

  pub reads_room :
      (i count : ℕ) (m : List ℕ) (s : Reading) → i < end → end ≤ row_count → Reads i count m s → count + span (row_at i) (take count m) ≤ number_limit
  reads_room i count m s h k t =
      room (span (row_at i) (take count m)) t.few (most_more (take count m) i (within h k)) (most_few (i + 1) (le h k))
    where
      within : {a b : ℕ} → a < b → b ≤ 26 → a < 26
      within p q = omega (arith, p, q)

      le : {n b : ℕ} → n < b → b ≤ 26 → n + 1 ≤ 26
      le p q = omega (arith, p, q)

      room : {a c g : ℕ} (f : ℕ) → a ≤ c → c + f ≤ g → g ≤ 400 → a + f ≤ 400
      room f p q u = omega (arith, p, q, u)

  -- a bad line among them
  pub reads_bad :
      (i count : ℕ) (m : List ℕ) (s : Reading) (t : List ℕ) (k : ℕ) → i < end → end ≤ row_count → Reads i count m s
      → reading t k true ≡ (row_read (row_at i) ((row_at i).lines (take count m)) 0 (got (take count m) s)).after
      → reading t k true ≡ (rows_read (rows_in first end) g).after
  unfolding rows_read
  reads_bad i count m s t k h l o e =
      let b = got (take count m) s in
      sym (rows_still (rows_in (i + 1) end) (row_read (row_at i) ((row_at i).lines (take count m)) 0 b) t k (sym e))
      ∙ sym (ap (λ (rs : List Row). (rows_read rs b).after) (rows_first i end h l))
      ∙ ap (λ (x : Got). x.after) o.left

  pub reads_all : (i count : ℕ) (m : List ℕ) (s : Reading) → i ≡ end → Reads i count m s → RowsRead (rows_in first end) end g m s count
  unfolding rows_read rows_in
  reads_all i count m s e t =
      let z : end - i ≡ 0 = omega (arith, e) in
      record {
        list = t.list;
        whole = sym (ap (λ (k : ℕ). rows_read (take k (drop i rows)) (got (take count m) s)) z) ∙ t.left;
        few = subst (λ (k : ℕ). count ≤ most k) e t.few;
        fewer = t.fewer;
      }

-- an empty array
pub none_held : (m : List ℕ) → m ≡ filled [] → Holds m 0
none_held m e = subst (λ (l : List ℕ). Holds l 0) (sym e) (holds [] 0 refl (omega arith))

-- A whole text: it ends before the event inputs, or they are read.
module _ (text : List ℕ) (m : List ℕ) (at lines count : ℕ) where
  abbrev s : Reading
  s = reading (drop at text) lines false

  abbrev begun : Got
  begun = got [] (reading text 0 false)

  older_is : rows_in 0 21 ≡ older_rows
  unfolding rows_in rows
  older_is = refl

  events_are : rows_in 21 26 ≡ event_rows chip_events
  unfolding rows_in rows
  events_are = refl

  -- a bad line in the rows before them
  pub older_bad : (t : List ℕ) (k : ℕ) → reading t k true ≡ (rows_read (rows_in 0 21) begun).after → reading t k true ≡ (text_read text).after
  older_bad t k e =
      sym (groups_still later_groups (rows_read older_rows begun) t k (ap (λ (rs : List Row). (rows_read rs begun).after) (sym older_is) ∙ sym e))

  -- what is read of the rows before them
  first_read : RowsRead (rows_in 0 21) 21 begun m s count → rows_read older_rows begun ≡ got (take count m) s
  first_read r = ap (λ (rs : List Row). rows_read rs begun) (sym older_is) ∙ sym r.whole

  module _ (r : RowsRead (rows_in 0 21) 21 begun m s count) where
    text_is : text_read text ≡ groups_read later_groups (got (take count m) s)
    text_is = ap (groups_read later_groups) (first_read r)

    pub few_read : count ≤ 395
    unfolding most
    few_read = r.few

    pub text_ended : length text ≤ at → TextRead text m s (count + 5)
    unfolding groups_read zeros_after evls_row evhs_row edges_row since_row debounce_row
    text_ended t =
        let b = take count m in
        let c = complete_at text at lines false false (le-ltb at (length text) t) in
        let here : length b ≡ count = held_long m count r.list (under few_read) in
        let full : m ≡ filled (b ++ replicate 5 0) = r.list.list ∙ filled_zeros b 5 (room here few_read) in
        let long : length (b ++ replicate 5 0) ≡ count + 5 = length-append b (replicate 5 0) ∙ ap (λ (n : ℕ). n + 5) here in
        let h : Holds m (count + 5) = subst (λ (l : List ℕ). Holds l (count + 5)) (sym full) (holds (b ++ replicate 5 0) (count + 5) long (more few_read)) in
        let e : take (count + 5) m ≡ b ++ replicate 5 0 =
        ap (take (count + 5)) full ∙ ap (λ (n : ℕ). take n (filled (b ++ replicate 5 0))) (sym long) ∙ filled_start (b ++ replicate 5 0) in
        record {
          list = h;
          whole = ap (λ (x : List ℕ). got x s) e ∙ yes (got (b ++ replicate 5 0) s) (rows_read (event_rows chip_events) (got b s)) c ∙ sym text_is;
          few = more few_read;
          fewer = up r.fewer;
        }
      where
        under : {n : ℕ} → n ≤ 395 → n ≤ 400
        under p = omega (arith, p)

        room : {n k : ℕ} → n ≡ k → k ≤ 395 → n + 5 ≤ 400
        room p q = omega (arith, p, q)

        more : {n : ℕ} → n ≤ 395 → n + 5 ≤ 400
        more p = omega (arith, p)

        up : {n k : ℕ} → n ≤ k → n ≤ k + 5
        up p = omega (arith, p)

    pub text_on :
        (m' : List ℕ) (s' : Reading) (count' : ℕ) → at < length text → RowsRead (rows_in 21 26) 26 (got (take count m) s) m' s' count'
        → TextRead text m' s' count'
    unfolding groups_read most
    text_on m' s' count' t q =
        let b = take count m in
        let c = complete_at text at lines false true (lt-ltb at (length text) t) in
        record {
          list = q.list;
          whole =
              q.whole
              ∙ ap (λ (rs : List Row). rows_read rs (got b s)) events_are
              ∙ no (got (b ++ zeros_after (in_groups later_groups) b) s) (rows_read (event_rows chip_events) (got b s)) c
              ∙ sym text_is;
          few = q.few;
          fewer = q.fewer;
        }

    -- a bad line in theirs
    pub events_bad :
        (t : List ℕ) (k : ℕ) → at < length text → reading t k true ≡ (rows_read (rows_in 21 26) (got (take count m) s)).after
        → reading t k true ≡ (text_read text).after
    unfolding groups_read
    events_bad t k l e =
        let b = take count m in
        let c = complete_at text at lines false true (lt-ltb at (length text) l) in
        e
        ∙ ap (λ (rs : List Row). (rows_read rs (got b s)).after) events_are
        ∙ ap (λ (x : Got). x.after) (no (got (b ++ zeros_after (in_groups later_groups) b) s) (rows_read (event_rows chip_events) (got b s)) c ∙ sym text_is)

    -- what code answers that reads them
    pub events_read :
        (m' : List ℕ) (o : Result Read Bad) → at < length text
        → IfOk o (λ x. RowsRead (rows_in 21 26) 26 (got (take count m) s) m' (reading_at text x.place) x.count)
        → IfOk o (λ x. TextRead text m' (reading_at text x.place) x.count)
    events_read m' (Ok x) l h = text_on m' (reading_at text x.place) x.count l h
    events_read m' (Err e) l h = h

    pub events_stopped :
        (o : Result Read Bad) → at < length text
        → IfErr o (λ x. (stopped_at text x ≡ (rows_read (rows_in 21 26) (got (take count m) s)).after) × (x.place.lines ≤ number_limit))
        → IfErr o (λ x. (stopped_at text x ≡ (text_read text).after) × (x.place.lines ≤ number_limit))
    events_stopped (Ok x) l h = h
    events_stopped (Err x) l h = (events_bad (drop x.place.at text) x.place.lines l h.0, h.1)
