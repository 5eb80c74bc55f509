-- Laws of the loops that write: part of a text is put, and the rest is to come.
-- Assumes nothing.
use mathlib.Core.Path.{◌≡◌, refl, sym, ap, subst, ◌∙◌}
use mathlib.Core.Bool.{Bool, true, false, ◌||◌}
use mathlib.Core.List.{List, [], ◌∷◌, ◌++◌, append-nil, append_assoc}
use Prim.Native.Nat.{ℕ, zero, suc, ◌+◌, ◌-◌, ◌*◌, ◌/◌, ◌%◌, ◌<◌, ◌≤◌}
use native.Mathlib.Nat.{zero-mul, suc-mul}
use native.Mathlib.Numerals.{add-one}
use native.Mathlib.Omega.{arith}
use borrow.Author.Tests.{eqb-true, ltb-true}
use lib.Dec.{eqb, ltb}
use lib.ListN.{length, take, drop, get_or, length-drop}
use lib.Seq.{drop-cons, drop-length, get_or-take, get_or-drop, length-take-le}
use Rattle.base.specs.Words.{every}
use Rattle.base.proofs.Tests.{by_cases, no, pick_case, pick_when}
use Rattle.base.proofs.Every.{every_at}
use Rattle.record.specs.Part.{size_of}
use Rattle.text.specs.Buffer.{Buffer, append}
use Rattle.text.specs.Decimal.{decimal_text}
use Rattle.text.proofs.BufferLaws.{append_none, put_then, room_then, room_before}
use Rattle.form.specs.Lines.{followed, numbers_text, head_of, line_text}
use Rattle.form.specs.Table.{Row, part_in, key_of, span, numbers_at, row_text, text_from, Good, rows}
use Rattle.form.specs.Chip.{IsChip, form_text}
use Rattle.numbers.specs.Tables.{row_at, row_count}
use Rattle.numbers.proofs.TableLaws.{line_counts, lines_by, row_lines_lem}
use Rattle.saved.specs.Reading.{mark_after, run_text}
use Rattle.saved.proofs.LoopLaws.{times_more, row_first}

-- of a whole text, the rest is to come: what the buffer has is what it began with and the text before that
pub record Part (o : Buffer) (whole rest : List ℕ) (b : Buffer) : Type 0 where
  pub text : List ℕ
  pub put : b ≡ append o text
  pub joined : text ++ rest ≡ whole

module _ (o : Buffer) (whole : List ℕ) where
  pub part_none : Part o whole whole o
  part_none = record { text = []; put = sym (append_none o); joined = refl }

  pub part_more : (rest piece rest' : List ℕ) (b b' : Buffer) → Part o whole rest b → rest ≡ piece ++ rest' → b' ≡ append b piece → Part o whole rest' b'
  part_more rest piece rest' b b' p e f =
      record {
        text = p.text ++ piece;
        put = put_then o p.text piece p.put f;
        joined = append_assoc p.text piece rest' ∙ ap (λ (l : List ℕ). p.text ++ l) (sym e) ∙ p.joined;
      }

  pub part_room :
      (rest piece rest' : List ℕ) (b : Buffer) → Part o whole rest b → rest ≡ piece ++ rest' → o.at + length whole ≤ length o.bytes
      → b.at + length piece ≤ length b.bytes
  part_room rest piece rest' b p e h =
      let t = p.text in
      let w : t ++ rest ≡ whole = p.joined in
      room_before b.at piece rest'
      (room_then o t (piece ++ rest') p.put
      (subst (λ (l : List ℕ). o.at + length l ≤ length o.bytes) (sym w ∙ ap (λ (l : List ℕ). t ++ l) e) h))

  pub part_all : (rest : List ℕ) (b : Buffer) → Part o whole rest b → rest ≡ [] → b ≡ append o whole
  part_all rest b p e = p.put ∙ ap (append o) (sym (append-nil p.text) ∙ ap (λ (l : List ℕ). p.text ++ l) (sym e) ∙ p.joined)

-- The numbers of a line.
run_followed : (x : List ℕ) → mark_after (length x) ∷ run_text x ≡ followed x
unfolding run_text followed
run_followed [] = refl
run_followed (n ∷ x) = ap (λ (l : List ℕ). mark_after (suc (length x)) ∷ (decimal_text n ++ l)) (run_followed x)

run_text_lem : (x : List ℕ) → 0 < length x → run_text x ≡ numbers_text x
unfolding run_text numbers_text
run_text_lem [] h = absurd (omega arith)
run_text_lem (n ∷ x) h = ap (λ (l : List ℕ). decimal_text n ++ l) (run_followed x)

line_text_lem : (r : Row) (i : ℕ) (x : List ℕ) → 0 < length x → head_of (key_of r i) ++ run_text x ≡ line_text (key_of r i) x
unfolding line_text
line_text_lem r i x h = ap (λ (l : List ℕ). head_of (key_of r i) ++ l) (run_text_lem x h)

-- the numbers of a line that are to come after j of them: the next with its byte, and those after it
pub run_next :
    (ns : List ℕ) (k w j : ℕ) → k + w ≤ length ns → j < w
    → run_text (drop j (take w (drop k ns)))
    ≡ (decimal_text (get_or ns (k + j) 0) ++ (mark_after (w - (j + 1)) ∷ [])) ++ run_text (drop (j + 1) (take w (drop k ns)))
unfolding run_text
run_next ns k w j h g =
    let x = take w (drop k ns) in
    let l : length x ≡ w = length-take-le w (drop k ns) (left_over (length-drop k ns) h) in
    let n : get_or x j 0 ≡ get_or ns (k + j) 0 = get_or-take w (drop k ns) j 0 g ∙ get_or-drop k ns j 0 in
    let rest = drop (suc j) x in
    let s : length rest ≡ w - (j + 1) = length-drop (suc j) x ∙ shorter l in
    ap run_text (drop-cons x j 0 (subst (λ (m : ℕ). j < m) (sym l) g))
    ∙ (λ q. decimal_text (n q) ++ (mark_after (s q) ∷ run_text (drop (sym (add-one j) q) x)))
    ∙ sym (append_assoc (decimal_text (get_or ns (k + j) 0)) (mark_after (w - (j + 1)) ∷ []) (run_text (drop (j + 1) x)))
  where
    left_over : {a b : ℕ} → a ≡ b - k → k + w ≤ b → w ≤ a
    left_over p q = omega (arith, p, q)

    shorter : {a : ℕ} → a ≡ w → a - suc j ≡ w - (j + 1)
    shorter p = omega (arith, p)

pub run_end : (ns : List ℕ) (k w j : ℕ) → k + w ≤ length ns → j ≡ w → run_text (drop j (take w (drop k ns))) ≡ []
unfolding run_text
run_end ns k w j h e =
    let x = take w (drop k ns) in
    let l : length x ≡ w = length-take-le w (drop k ns) (left_over (length-drop k ns) h) in
    ap (λ (m : ℕ). run_text (drop m x)) (e ∙ sym l) ∙ ap run_text (drop-length x)
  where
    left_over : {a b : ℕ} → a ≡ b - k → k + w ≤ b → w ≤ a
    left_over p q = omega (arith, p, q)

line_some : (ns : List ℕ) (k w : ℕ) → k + w ≤ length ns → 0 < w → 0 < length (take w (drop k ns))
line_some ns k w h g = subst (λ (m : ℕ). 0 < m) (sym (length-take-le w (drop k ns) (left_over (length-drop k ns) h))) g
  where
    left_over : {a b : ℕ} → a ≡ b - k → k + w ≤ b → w ≤ a
    left_over p q = omega (arith, p, q)

-- a line is its head and its numbers, each with the byte after it, and they have the line's room
module _ (r : Row) (i : ℕ) (ns : List ℕ) (k w : ℕ) (h : k + w ≤ length ns) (g : 0 < w) where
  pub line_split : head_of (key_of r i) ++ run_text (take w (drop k ns)) ≡ line_text (key_of r i) (take w (drop k ns))
  line_split = line_text_lem r i (take w (drop k ns)) (line_some ns k w h g)

  pub split_room :
      (at n : ℕ) → at + length (line_text (key_of r i) (take w (drop k ns))) ≤ n
      → at + length (head_of (key_of r i) ++ run_text (take w (drop k ns))) ≤ n
  split_room at n = subst (λ (t : List ℕ). at + length t ≤ n) (sym line_split)

-- The lines of a row that are to come after i of n.
pub row_next :
    (r : Row) (n i k : ℕ) (ns : List ℕ) → i < n
    → row_text r (n - i) i (k + i * r.width) ns
    ≡ line_text (key_of r i) (numbers_at r (k + i * r.width) ns) ++ row_text r (n - (i + 1)) (i + 1) (k + (i + 1) * r.width) ns
unfolding row_text
row_next r n i k ns h =
    let w = r.width in
    let one : n - i ≡ suc (n - (i + 1)) = omega (arith, h) in
    let on : k + i * w + w ≡ k + (i + 1) * w = further (i * w) (suc-mul i w) (ap (λ (c : ℕ). c * w) (add-one i)) in
    ap (λ (c : ℕ). row_text r c i (k + i * w) ns) one
    ∙ (λ q. line_text (key_of r i) (numbers_at r (k + i * w) ns) ++ row_text r (n - (i + 1)) (sym (add-one i) q) (on q) ns)
  where
    further : (p : ℕ) {q t : ℕ} → q ≡ p + r.width → t ≡ q → k + p + r.width ≡ k + t
    further p d e = omega (arith, d, e)

pub row_begins : (r : Row) (n k : ℕ) (ns : List ℕ) → row_text r n 0 k ns ≡ row_text r (n - 0) 0 (k + 0 * r.width) ns
row_begins r n k ns =
    let a : n ≡ n - 0 = omega arith in
    let b : k ≡ k + 0 * r.width = omega (arith, zero-mul r.width) in
    λ q. row_text r (a q) 0 (b q) ns

pub row_ends : (r : Row) (n i k : ℕ) (ns : List ℕ) → i ≡ n → row_text r (n - i) i k ns ≡ []
unfolding row_text
row_ends r n i k ns e =
    let z : n - i ≡ 0 = omega (arith, e) in
    ap (λ (c : ℕ). row_text r c i k ns) z

-- One line more, with width and place as code has them.
module _ (r : Row) (n i k w at : ℕ) (ns : List ℕ) (ew : w ≡ r.width) (ep : at ≡ k + i * r.width) (h : i < n) (l : k + n * r.width ≤ length ns) where
  there : k + i * r.width + r.width ≤ length ns
  there = inside (i * r.width) (n * r.width) (times_more i n r.width h) l
    where
      inside : (p q : ℕ) → p + r.width ≤ q → k + q ≤ length ns → k + p + r.width ≤ length ns
      inside p q t u = omega (arith, t, u)

  pub line_there : at + w ≤ length ns
  line_there = subst (λ (c : ℕ). c ≤ length ns) (λ q. sym ep q + sym ew q) there

  line_same : line_text (key_of r i) (take w (drop at ns)) ≡ line_text (key_of r i) (numbers_at r (k + i * r.width) ns)
  line_same q = line_text (key_of r i) (take (ew q) (drop (ep q) ns))

  pub place_next : at + w ≡ k + (i + 1) * r.width
  place_next = (λ q. ep q + ew q) ∙ further (i * r.width) (suc-mul i r.width) (ap (λ (c : ℕ). c * r.width) (add-one i))
    where
      further : (p : ℕ) {q t : ℕ} → q ≡ p + r.width → t ≡ q → k + p + r.width ≡ k + t
      further p d e = omega (arith, d, e)

  module _ (o : Buffer) (all : List ℕ) (b : Buffer) (p : Part o all (row_text r (n - i) i (k + i * r.width) ns) b) where
    abbrev rest : List ℕ
    rest = row_text r (n - (i + 1)) (i + 1) (k + (i + 1) * r.width) ns

    pub line_room : o.at + length all ≤ length o.bytes → b.at + length (line_text (key_of r i) (take w (drop at ns))) ≤ length b.bytes
    line_room room =
        subst (λ (t : List ℕ). b.at + length t ≤ length b.bytes) (sym line_same)
        (part_room o all (row_text r (n - i) i (k + i * r.width) ns) (line_text (key_of r i) (numbers_at r (k + i * r.width) ns)) rest b p (row_next r n i k ns h) room)

    pub line_put : (b' : Buffer) → b' ≡ append b (line_text (key_of r i) (take w (drop at ns))) → Part o all rest b'
    line_put b' e =
        part_more o all (row_text r (n - i) i (k + i * r.width) ns) (line_text (key_of r i) (numbers_at r (k + i * r.width) ns)) rest b b' p (row_next r n i k ns h)
        (e ∙ ap (append b) line_same)

-- The rows that are to come after i of them, from place k on.
pub record Left (o : Buffer) (ns : List ℕ) (i k : ℕ) (b : Buffer) : Type 0 where
  pub part : Part o (form_text ns) (text_from (drop i rows) k ns) b
  pub good : Good (drop i rows) k ns

pub left_none : (o : Buffer) (ns : List ℕ) → IsChip ns → Left o ns 0 0 o
unfolding form_text
left_none o ns g = record { part = part_none o (text_from rows 0 ns); good = g }

module _ (o : Buffer) (ns : List ℕ) (i k n : ℕ) (b : Buffer) (h : i < row_count) (p : Left o ns i k b) (en : n ≡ (row_at i).lines (take k ns)) where
  here : Good (row_at i ∷ drop (suc i) rows) k ns
  here = subst (λ (rs : List Row). Good rs k ns) (row_first i h) p.good

  abbrev piece : List ℕ
  piece = row_text (row_at i) ((row_at i).lines (take k ns)) 0 k ns

  abbrev after : List ℕ
  after = text_from (drop (suc i) rows) (k + span (row_at i) (take k ns)) ns

  next : text_from (drop i rows) k ns ≡ piece ++ after
  unfolding text_from
  next = ap (λ (rs : List Row). text_from rs k ns) (row_first i h)

  piece_is : row_text (row_at i) n 0 k ns ≡ piece
  piece_is = ap (λ (c : ℕ). row_text (row_at i) c 0 k ns) en

  pub row_there : k + n * (row_at i).width ≤ length ns
  unfolding Good
  row_there = subst (λ (c : ℕ). k + c * (row_at i).width ≤ length ns) (sym en) here.0

  pub row_room : o.at + length (form_text ns) ≤ length o.bytes → b.at + length (row_text (row_at i) n 0 k ns) ≤ length b.bytes
  row_room room =
      subst (λ (t : List ℕ). b.at + length t ≤ length b.bytes) (sym piece_is)
      (part_room o (form_text ns) (text_from (drop i rows) k ns) piece after b p.part next room)

  pub left_more :
      (w : ℕ) (b' : Buffer) → w ≡ (row_at i).width → b' ≡ append b (row_text (row_at i) n 0 k ns) → Left o ns (i + 1) (k + n * w) b'
  unfolding Good
  left_more w b' e f =
      let m : k + span (row_at i) (take k ns) ≡ k + n * w = λ q. k + (sym en q * sym e q) in
      record {
        part =
            subst (λ (t : List ℕ). Part o (form_text ns) t b') (λ q. text_from (drop (sym (add-one i) q) rows) (m q) ns)
            (part_more o (form_text ns) (text_from (drop i rows) k ns) piece after b b' p.part next (f ∙ ap (append b) piece_is));
        good = subst (λ (c : ℕ). Good (drop c rows) (k + n * w) ns) (sym (add-one i)) (subst (λ (c : ℕ). Good (drop (suc i) rows) c ns) m here.2);
      }

pub left_all : (o : Buffer) (ns : List ℕ) (i k : ℕ) (b : Buffer) → i ≡ row_count → Left o ns i k b → b ≡ append o (form_text ns)
unfolding text_from rows
left_all o ns i k b e p = part_all o (form_text ns) (text_from (drop i rows) k ns) b p.part (ap (λ (c : ℕ). text_from (drop c rows) k ns) e)

-- how many lines code writes: the part stands before the EEPROM's rows, and no row is empty
pub lines_of : (ns : List ℕ) (i k l : ℕ) → i < row_count → i ≤ k → l ≡ (row_at i).lines (part_in ns ∷ []) → l ≡ (row_at i).lines (take k ns)
lines_of ns i k l h o e =
    e
    ∙ row_lines_lem (part_in ns ∷ []) i h
    ∙ by_cases (eqb i 19)
    (λ t. ap (lines_by i) (sym (get_or-take k ns 0 0 (past (eqb-true i 19 t) o))))
    (λ f. sym (no (size_of (part_in ns) / 8) (get_or line_counts i 0) f) ∙ no (size_of (part_in (take k ns)) / 8) (get_or line_counts i 0) f)
    ∙ sym (row_lines_lem (take k ns) i h)
  where
    past : {n m : ℕ} → n ≡ 19 → n ≤ m → 0 < m
    past p q = omega (arith, p, q)

lines_least : (i part : ℕ) → i < row_count → 0 < lines_by i part
unfolding every
lines_least i part h =
    pick_when (λ (n : ℕ). 0 < n) (eqb i 19) (λ t. pages part)
    (λ f. ltb-true 0 (get_or line_counts i 0) (other f (every_at (λ (k : ℕ). eqb k 19 || ltb 0 (get_or line_counts k 0)) 26 refl i h)))
  where
    pages : (part : ℕ) → 0 < size_of part / 8
    pages part = pick_case (λ (top : ℕ). 0 < (top + 1) / 8) (eqb (part % 2) 1) (omega arith) (omega arith)

    other : {t u : Bool} → t ≡ false → (t || u) ≡ true → u ≡ true
    other e g = rw e at g

pub place_past : (i k n w part : ℕ) → i < row_count → i ≤ k → n ≡ (row_at i).lines (part ∷ []) → 0 < w → i + 1 ≤ k + n * w
place_past i k n w part h o e g = past (some n w (subst (λ (c : ℕ). 0 < c) (sym (e ∙ row_lines_lem (part ∷ []) i h)) (lines_least i part h)) g) o
  where
    some : (n w : ℕ) → 0 < n → 0 < w → 0 < n * w
    some zero w p q = absurd (omega arith)
    some (suc n) w p q = omega (arith, suc-mul n w, q)

    past : {m : ℕ} → 0 < m → i ≤ k → i + 1 ≤ k + m
    past p q = omega (arith, p, q)

-- after a row has been put: its numbers were in the list
pub row_put :
    (o : Buffer) (ns : List ℕ) (i k n w : ℕ) (b : Buffer) → i < row_count → i ≤ k → Left o ns i k b → n ≡ (row_at i).lines (part_in ns ∷ [])
    → w ≡ (row_at i).width → k + n * w ≤ length ns
row_put o ns i k n w b h p l e f =
    subst (λ (q : ℕ). k + n * q ≤ length ns) (sym f) (row_there o ns i k n b h l (lines_of ns i k n h p e))
