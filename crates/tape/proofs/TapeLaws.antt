-- Laws of a tape as bytes: two chunks answer as their join does; the head of a line answers as the whole line; what a chunk gives with its first
-- byte, and with its first piece; and how far a chunk has been answered, from one line to the next.
-- Assumes nothing.
use mathlib.Core.Path.{◌≡◌, refl, sym, ap, ◌∙◌}
use mathlib.Core.Bool.{Bool, true, false, ◌&&◌}
use mathlib.Core.List.{List, [], ◌∷◌, ◌++◌, append-nil, append_assoc}
use Prim.Native.Nat.{ℕ, suc, ◌+◌, ◌-◌, ◌<◌, ◌≤◌}
use native.Mathlib.Nat.{zero-add}
use native.Mathlib.Numerals.{one-add}
use native.Mathlib.Omega.{arith}
use borrow.Author.Tests.{lt-ltb, le-ltb, le-leb, leb-true, leb-false, ltb-true, ltb-false, eqb-true, eq-eqb, ne_eqb, not-true, not-false}
use lib.Dec.{leb, ltb, eqb}
use Rattle.std.proofs.Common.{Some, None, cond}
use Rattle.std.specs.Prelude.{Result}
use Rattle.std.specs.List.{position}
use lib.ListN.{length, take, drop, get_or, length-append, length-take, length-drop, drop_of_length-le, take-append-drop}
use lib.Seq.{take_all, drop-cons, take-append-le, take-append-add, take-take, length-take-le, append_snoc, sets-eq}
use Rattle.base.specs.Words.{over}
use Rattle.base.proofs.OverLaws.{over_start}
use Rattle.base.proofs.Tests.{by_cases, yes, no, both_left, both_right, both_true}
use Rattle.record.specs.Part.{id_size}
use Rattle.text.specs.Bytes.{leading, newline, plain}
use Rattle.text.specs.Buffer.{Buffer, buffer, append, room_in}
use Rattle.text.proofs.BytesLaws.{leading_prefix, leading_first, leading_rest, leading_taken, leading_ends, leading_within}
use Rattle.text.proofs.BufferLaws.{append_none, append_join, room_append}
use Rattle.lines.specs.declared.Fault.{Fault}
use Rattle.lines.specs.declared.Request.{Request}
use Rattle.lines.specs.Line.{line_limit}
use Rattle.lines.specs.Request.{request_of}
use Rattle.lines.specs.Print.{answer_room}
use Rattle.lines.proofs.LineLaws.{long_asks}
use Rattle.answers.specs.Answer.{Setup, request_answer, line_answer, answer_text, eeprom_room, Held, setup_in}
use Rattle.answers.specs.Ready.{ready}
use Rattle.answers.proofs.HeldLaws.{Sound, sound_held, Onward, onward_start}
use Rattle.tape.specs.declared.Tape.{Tape}
use Rattle.tape.specs.Tape.{State, state, head, head_limit, Fed, fed_to, ended, fed_byte, ahead, fed, finished, ChunksJoin, taken_within, Taken, put_into, taken_from, Loan, loan, held_in, state_in, lending, buffers_fit, is_tape, Given, gives}

-- two chunks answer as their join does
pub ahead_join : (a b : List ℕ) (f : Fed) → ahead a (ahead b f) ≡ ahead (a ++ b) f
ahead_join a b f = ap (fed_to f.after) (sym (append_assoc a b f.answers))

pub fed_join : ChunksJoin
unfolding ChunksJoin fed
fed_join s [] b = refl
fed_join s (x ∷ a) b =
    ap (ahead (fed_byte x s).answers) (fed_join (fed_byte x s).after a b)
    ∙ ahead_join (fed_byte x s).answers (fed (fed_byte x s).after a).answers (fed (fed (fed_byte x s).after a).after b)

-- the head of a line
head_short : (l : List ℕ) → length l ≤ head_limit → head l ≡ l
head_short l h = take_all head_limit l h

pub head_join : (x y : List ℕ) → head (head x ++ y) ≡ head (x ++ y)
head_join x y =
    by_cases (leb (length x) head_limit)
    (λ e. ap (λ (l : List ℕ). head (l ++ y)) (head_short x (leb-true (length x) head_limit e)))
    (λ e.
    let h : head_limit < length x = leb-false (length x) head_limit e in
    let k : head_limit ≤ length (head x) = simp length-take (omega arith) in
    take-append-le head_limit (head x) y k ∙ take-take head_limit head_limit x (omega arith) ∙ sym (take-append-le head_limit x y (omega arith)))

-- where it is not the whole line, both are too long
head_asks : (l : List ℕ) → request_of (head l) ≡ request_of l
head_asks l =
    by_cases (leb (length l) head_limit)
    (λ e. ap request_of (head_short l (leb-true (length l) head_limit e)))
    (λ e.
    let h : head_limit < length l = leb-false (length l) head_limit e in
    let k : line_limit < length (head l) = simp length-take (omega arith) in
    long_asks (head l) (lt-ltb line_limit (length (head l)) k) ∙ sym (long_asks l (lt-ltb line_limit (length l) (omega arith))))

pub head_answers : (l : List ℕ) (s : Setup) → line_answer (head l) s ≡ line_answer l s
unfolding line_answer
head_answers l s = ap (λ (r : Result Request Fault). request_answer r s) (head_asks l)

-- a piece put behind what is there of a head: how long the head is then, and the lent bytes of the line
pub head_put :
    (l m p : List ℕ) (begun r : ℕ) → length l ≡ head_limit → begun ≤ head_limit → buffer m r ≡ append (buffer l begun) (take (head_limit - begun) p)
    → (r ≡ length (head (take begun l ++ p))) × (m ≡ over (head (take begun l ++ p)) l)
unfolding append
head_put l m p begun r h b e =
    let x = take begun l in
    let t = take (head_limit - begun) p in
    let f : length t ≤ head_limit - begun = simp length-take (omega arith) in
    let n : length x ≡ begun = length-take-le begun l (omega arith) in
    let d : length x + (head_limit - begun) ≡ head_limit = omega arith in
    let k : x ++ t ≡ head (x ++ p) = sym (take-append-add x p (head_limit - begun)) ∙ ap (λ (j : ℕ). take j (x ++ p)) d in
    let a : begun + length t ≡ length (x ++ t) = omega (arith, length-append x t) in (
      ap (λ (o : Buffer). o.at) e ∙ a ∙ ap length k,
      ap (λ (o : Buffer). o.bytes) e ∙ sets-eq t l begun (omega arith)
          ∙ ap (λ (j : ℕ). (x ++ t) ++ drop j l) a
          ∙ ap (λ (y : List ℕ). over y l) k,
    )

-- what a call gives with so many bytes taken before
abbrev pub later : ℕ → Taken → Taken
later n t = record { after = t.after; written = t.written; count = n + t.count }

same_count :
    (t : Taken) {m n : ℕ} → m ≡ n
    → ◌≡◌ {A = Taken} (record { after = t.after; written = t.written; count = m }) (record { after = t.after; written = t.written; count = n })
same_count t e = λ i. record { after = t.after; written = t.written; count = e i }

-- nothing is answered or taken
abbrev pub still : Buffer → State → Taken
still o s = record { after = s; written = o; count = 0 }

-- a chunk's first byte: there is none; its answer has no room; it is fed
feed_none : (s : State) (o : Buffer) → taken_from s [] o ≡ still o s
unfolding taken_from taken_within fed
feed_none s o = ap (λ (x : Buffer). record { after = s; written = x; count = 0 }) (append_none o)

feed_full : (r : List ℕ) (s : State) (o : Buffer) → room_in o < answer_room → taken_from s (newline ∷ r) o ≡ still o s
unfolding taken_from taken_within fed
feed_full r s o h = simp (lt-ltb (room_in o) answer_room h) (ap (λ (x : Buffer). record { after = s; written = x; count = 0 }) (append_none o))

feed_byte :
    (x : ℕ) (r : List ℕ) (s : State) (o : Buffer) → (eqb x newline && ltb (room_in o) answer_room) ≡ false
    → taken_from s (x ∷ r) o ≡ later 1 (taken_from (fed_byte x s).after r (append o (fed_byte x s).answers))
unfolding taken_from taken_within fed
feed_byte x r s o e =
    let a = (fed_byte x s).answers in
    let t = (fed_byte x s).after in
    let k = taken_within (room_in o - length a) t r in
    let g = fed t (take k r) in
    let join : put_into o (suc k) (ahead a g) ≡ later 1 (put_into (append o a) k g) =
    λ i. record { after = g.after; written = sym (append_join o a g.answers) i; count = sym (one-add k) i } in
    ap (λ (n : ℕ). put_into o n (fed s (take n (x ∷ r)))) (sym (no 0 (suc k) e)) ∙ join
    ∙ ap (λ (m : ℕ). later 1 (put_into (append o a) (taken_within m t r) (fed t (take (taken_within m t r) r)))) (sym (room_append o a))

-- a line's end with room for its answer, and bytes that end no line
feed_newline :
    (r : List ℕ) (s : State) (o : Buffer) → answer_room ≤ room_in o
    → taken_from s (newline ∷ r) o ≡ later 1 (taken_from (ended s).after r (append o (ended s).answers))
feed_newline r s o h = feed_byte newline r s o (le-ltb (room_in o) answer_room h)

feed_plain :
    (p r : List ℕ) (s : Setup) (b : List ℕ) (o : Buffer) → leading plain p ≡ length p
    → taken_from (state s (head b)) (p ++ r) o ≡ later (length p) (taken_from (state s (head (b ++ p))) r o)
feed_plain [] r s b o e =
    let t = taken_from (state s (head b)) r o in
    same_count t (sym (zero-add t.count))
    ∙ ap (λ (x : List ℕ). later 0 (taken_from (state s (head x)) r o)) (sym (append-nil b))
feed_plain (x ∷ p) r s b o e =
    let f = not-true (eqb x newline) (leading_first plain x p e) in
    let t = taken_from (state s (head (b ++ (x ∷ p)))) r o in
    feed_byte x (p ++ r) (state s (head b)) o (ap (λ (z : Bool). z && ltb (room_in o) answer_room) f)
    ∙ ap (λ (y : Fed). later 1 (taken_from y.after (p ++ r) (append o y.answers))) (sym (no _ _ f))
    ∙ ap (λ (y : Buffer). later 1 (taken_from (state s (head (head b ++ (x ∷ [])))) (p ++ r) y)) (append_none o)
    ∙ ap (λ (y : List ℕ). later 1 (taken_from (state s y) (p ++ r) o)) (head_join b (x ∷ []))
    ∙ ap (later 1) (feed_plain p r s (b ++ (x ∷ [])) o (leading_rest plain x p e))
    ∙ ap (λ (y : List ℕ). later 1 (later (length p) (taken_from (state s (head y)) r o))) (append_snoc b x p)
    ∙ same_count t (omega arith)

-- how far a chunk has been answered: what is left of it gives, with the bytes taken before, what the whole gives
abbrev pub Sofar : State → List ℕ → Buffer → List ℕ → State → Buffer → Type 0
Sofar s₀ chunk o₀ rest s o = taken_from s₀ chunk o₀ ≡ later (length chunk - length rest) (taken_from s rest o)

pub sofar_start : (s₀ : State) (chunk : List ℕ) (o₀ : Buffer) → Sofar s₀ chunk o₀ chunk s₀ o₀
sofar_start s₀ chunk o₀ = same_count (taken_from s₀ chunk o₀) (omega arith)

-- one turn, with the first n bytes of what is left, which end no line: they are all that is left; the line that they end has no room; or it is answered
module _
    (s₀ : State) (chunk : List ℕ) (o₀ : Buffer) (rest : List ℕ) (h : length rest ≤ length chunk) (s : Setup) (b : List ℕ) (o : Buffer)
    (w : length b ≤ head_limit) (f : Sofar s₀ chunk o₀ rest (state s b) o)
  where
    piece_fed :
        (n : ℕ) → n ≡ leading plain rest
        → taken_from s₀ chunk o₀ ≡ later (length chunk - length rest) (later n (taken_from (state s (head (b ++ take n rest))) (drop n rest) o))
    piece_fed n q =
        let k : leading plain (take n rest) ≡ length (take n rest) = rw q (leading_taken plain rest) in
        let l : length (take n rest) ≡ n = length-take-le n rest (omega (arith, leading_within plain rest)) in
        f
        ∙ ap (λ (x : List ℕ). later (length chunk - length rest) (taken_from (state s x) rest o)) (sym (head_short b w))
        ∙ ap (λ (x : List ℕ). later (length chunk - length rest) (taken_from (state s (head b)) x o)) (sym (take-append-drop n rest))
        ∙ ap (later (length chunk - length rest)) (feed_plain (take n rest) (drop n rest) s b o k)
        ∙ ap (λ (m : ℕ). later (length chunk - length rest) (later m (taken_from (state s (head (b ++ take n rest))) (drop n rest) o))) l

    newline_left : (n : ℕ) → n ≡ leading plain rest → n < length rest → drop n rest ≡ newline ∷ drop (suc n) rest
    newline_left n q k =
        let e : eqb (get_or rest n 0) newline ≡ true = not-false (eqb (get_or rest n 0) newline) (rw q (leading_ends plain rest (rw q at k))) in
        drop-cons rest n 0 k ∙ ap (λ (x : ℕ). x ∷ drop (suc n) rest) (eqb-true (get_or rest n 0) newline e)

    pub turn_ends :
        length rest ≡ leading plain rest
        → ◌≡◌ {A = Taken} (record { after = state s (head (b ++ rest)); written = o; count = length chunk }) (taken_from s₀ chunk o₀)
    turn_ends q =
        let x = state s (head (b ++ rest)) in
        let n = length rest in
        let k = length chunk - n in
        let m : length chunk ≡ k + (n + 0) = omega arith in
        same_count (still o x) m
        ∙ sym
        (piece_fed n q
        ∙ ap (λ (l : List ℕ). later k (later n (taken_from (state s (head (b ++ l))) (drop n rest) o))) (take_all n rest (omega arith))
        ∙ ap (λ (l : List ℕ). later k (later n (taken_from x l o))) (drop_of_length-le rest {i = n} (omega arith))
        ∙ ap (λ (y : Taken). later k (later n y)) (feed_none x o))

    pub turn_stops :
        (n : ℕ) → n ≡ leading plain rest → n < length rest → room_in o < answer_room
        → ◌≡◌ {A = Taken} (record { after = state s (head (b ++ take n rest)); written = o; count = length chunk - length rest + n }) (taken_from s₀ chunk o₀)
    turn_stops n q k r =
        let x = state s (head (b ++ take n rest)) in
        let stopped : taken_from x (drop n rest) o ≡ still o x =
        ap (λ (y : List ℕ). taken_from x y o) (newline_left n q k) ∙ feed_full (drop (suc n) rest) x o r in
        same_count (still o x) (omega arith)
        ∙ sym (piece_fed n q ∙ ap (λ (y : Taken). later (length chunk - length rest) (later n y)) stopped)

    pub turn_line :
        (n : ℕ) → n ≡ leading plain rest → n < length rest → answer_room ≤ room_in o → (s' : Setup) (o' : Buffer)
        → s' ≡ (line_answer (head (b ++ take n rest)) s).after → o' ≡ append o (answer_text (line_answer (head (b ++ take n rest)) s))
        → (left : List ℕ) → left ≡ drop (n + 1) rest → Sofar s₀ chunk o₀ left (state s' []) o'
    turn_line n q k r s' o' e q' left d =
        let y = state s (head (b ++ take n rest)) in
        let c = length chunk - length rest in
        let m : n + 1 ≡ suc n = omega arith in
        piece_fed n q
        ∙ ap (λ (l : List ℕ). later c (later n (taken_from y l o))) (newline_left n q k ∙ ap (λ (j : ℕ). newline ∷ drop j rest) (sym m))
        ∙ ap (λ (z : Taken). later c (later n z)) (feed_newline (drop (n + 1) rest) y o r)
        ∙ same_count (taken_from (ended y).after (drop (n + 1) rest) (append o (ended y).answers)) (omega (arith, length-drop (n + 1) rest))
        ∙ (λ i. later (length chunk - length (sym d i)) (taken_from (state (sym e i) []) (sym d i) (sym q' i)))

-- The search for a newline finds the place behind the first bytes that end no line; or there is none.
placed : (t : Bool) {m n l : ℕ} → ltb m l ≡ t → Some n ≡ cond t (Some m) None → (n ≡ m) × (n < l)
placed true {m = m} {n = n} {l = l} h e = let q : n ≡ m = cc in (q, omega (arith, ltb-true m l h))
placed false h e = absurd (cc)

unplaced : (t : Bool) {m l : ℕ} → ltb m l ≡ t → None ≡ cond t (Some m) None → l ≤ m
unplaced true h e = absurd (cc)
unplaced false {m = m} {l = l} h e = ltb-false m l h

pub newline_at : (s : List ℕ) (n : ℕ) → Some n ≡ position (λ b. eqb b newline) s → (n ≡ leading plain s) × (n < length s)
newline_at s n e = let k = placed _ refl e in (k.0 ∙ sym (leading_prefix plain s), k.1)

pub newline_none : (s : List ℕ) → None ≡ position (λ b. eqb b newline) s → length s ≡ leading plain s
newline_none s e = omega (arith, unplaced _ refl e, leading_prefix plain s, leading_within plain s)

-- what a tape is, test by test
pub record TapeFacts (l : Loan) : Type 0 where
  pub begun : l.tape.begun ≤ head_limit
  pub line : length l.line ≡ head_limit
  pub eeprom : length l.eeprom ≡ eeprom_room
  pub id : length l.id ≡ id_size
  pub goes : ready l.tape.part l.tape.device ≡ true

pub tape_facts : (l : Loan) → is_tape l ≡ true → TapeFacts l
unfolding is_tape buffers_fit
tape_facts l e =
    let t1 = leb l.tape.begun head_limit in
    let t2 = eqb (length l.line) head_limit in
    let t3 = eqb (length l.eeprom) eeprom_room in
    let t4 = eqb (length l.id) id_size in
    let e4 : (t1 && t2 && t3 && t4) ≡ true = both_left (t1 && t2 && t3 && t4) (ready l.tape.part l.tape.device) e in
    let e3 : (t1 && t2 && t3) ≡ true = both_left (t1 && t2 && t3) t4 e4 in
    let e2 : (t1 && t2) ≡ true = both_left (t1 && t2) t3 e3 in
    record {
      begun = leb-true l.tape.begun head_limit (both_left t1 t2 e2);
      line = eqb-true (length l.line) head_limit (both_right t1 t2 e2);
      eeprom = eqb-true (length l.eeprom) eeprom_room (both_right (t1 && t2) t3 e3);
      id = eqb-true (length l.id) id_size (both_right (t1 && t2 && t3) t4 e4);
      goes = both_right (t1 && t2 && t3 && t4) (ready l.tape.part l.tape.device) e;
    }

pub facts_tape : (l : Loan) → TapeFacts l → is_tape l ≡ true
unfolding is_tape buffers_fit
facts_tape l f =
    both_true
    (both_true (both_true (both_true (le-leb _ _ f.begun) (eq-eqb _ _ f.line)) (eq-eqb _ _ f.eeprom)) (eq-eqb _ _ f.id))
    f.goes

-- what lacks one of these facts is none
pub no_tape : (l : Loan) → (TapeFacts l → ⊥) → is_tape l ≡ false
no_tape l n = by_cases (is_tape l) (λ e. absurd (n (tape_facts l e))) (λ e. e)

-- in what has the sizes of a tape the other tests decide
others : (t r : Bool) → (t && true && true && true && r) ≡ (t && r)
others true r = refl
others false r = refl

pub tape_judged :
    (l : Loan) {r : Bool} → length l.line ≡ head_limit → length l.eeprom ≡ eeprom_room → length l.id ≡ id_size → r ≡ ready l.tape.part l.tape.device
    → is_tape l ≡ (leb l.tape.begun head_limit && r)
unfolding is_tape buffers_fit
tape_judged l {r = r} line ee id e =
    let t = leb l.tape.begun head_limit in
    (λ i. t && eq-eqb _ _ line i && eq-eqb _ _ ee i && eq-eqb _ _ id i && sym e i) ∙ others t r

-- the lent lists by other names
pub loan_same : (t : Tape) {line ee id l e i : List ℕ} → line ≡ l → ee ≡ e → id ≡ i → loan t line ee id ≡ loan t l e i
loan_same t p q r = λ j. loan t (p j) (q j) (r j)

-- what is lent at first has a sound setup
pub tape_sound : (l : Loan) → TapeFacts l → Sound (setup_in (held_in l))
tape_sound l f = sound_held (held_in l) f.eeprom f.id f.goes

-- all that is lent after a call: by what is held, and by what is kept of a line
pub lent_after :
    (l₀ : Loan) (h : Held) (kept line : List ℕ) (begun : ℕ) → Onward (held_in l₀) h → begun ≡ length kept → line ≡ over kept l₀.line
    → loan (record { part = h.part; device = h.device; begun = begun }) line h.eeprom h.id ≡ lending l₀ (state (setup_in h) kept)
lent_after l₀ h kept line begun o b e =
    λ i. loan (record { part = (o.beyond i).part; device = (o.beyond i).device; begun = b i }) (e i) (o.beyond i).eeprom (o.beyond i).id

-- what is lent, with its own state in its place
pub lent_same : (l : Loan) → TapeFacts l → l ≡ lending l (state_in l)
lent_same l f =
    let b = l.tape.begun in
    lent_after l (held_in l) (take b l.line) l.line b (onward_start (held_in l) (tape_sound l f))
    (sym (length-take-le b l.line (omega (arith, f.begun, f.line)))) (sym (over_start b l.line))

-- what a call gives, by what is lent after it and by what its state becomes
pub given :
    (l₀ l : Loan) (s : State) (o : Buffer) (n : ℕ) (t : Taken) → l ≡ lending l₀ s → ◌≡◌ {A = Taken} (record { after = s; written = o; count = n }) t
    → ◌≡◌ {A = Given} (record { after = l; written = o; count = n }) (gives l₀ t)
given l₀ l s o n t e f = (λ i. record { after = e i; written = o; count = n }) ∙ ap (gives l₀) f

-- the end of a tape, with no line begun and with one
pub finish_none : (s : State) (o : Buffer) → length s.begun ≡ 0 → still o s ≡ put_into o 0 (finished s)
unfolding finished
finish_none s o e =
    ap (λ (x : Buffer). record { after = s; written = x; count = 0 }) (sym (append_none o))
    ∙ ap (put_into o 0) (yes (fed_to s []) (ended s) (eq-eqb (length s.begun) 0 e))

pub finish_some :
    (s : State) (o o' : Buffer) (s' : Setup) → 0 < length s.begun → s' ≡ (line_answer s.begun s.setup).after
    → o' ≡ append o (answer_text (line_answer s.begun s.setup))
    → ◌≡◌ {A = Taken} (record { after = state s' []; written = o'; count = 0 }) (put_into o 0 (finished s))
unfolding finished
finish_some s o o' s' h e q =
    (λ i. record { after = state (e i) []; written = q i; count = 0 })
    ∙ ap (put_into o 0) (no (fed_to s []) (ended s) (ne_eqb (length s.begun) 0 (λ z. omega arith)))
