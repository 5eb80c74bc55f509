-- Laws of a line's answer: that a refused line changes nothing; as the code shows it: a refused line, a fresh chip, an
-- act's outcome; and that a tape stays one with which the acts may go on.
-- Assumes nothing.
use mathlib.Core.Path.{◌≡◌, refl, sym, ap, subst, ◌∙◌}
use mathlib.Core.Logic.{◌≢◌}
use mathlib.Core.Bool.{Bool, true, false, true≢false, ◌||◌, or-true}
use mathlib.Core.List.{List, ◌++◌}
use Prim.Native.Nat.{ℕ}
use native.Mathlib.Omega.{arith}
use lib.Dec.{eqb}
use lib.ListN.{length, take, drop, replicate, length-replicate}
use lib.Seq.{take_all, length-take-le}
use borrow.Author.Tests.{eqb-true, eq-eqb}
use Rattle.std.specs.Prelude.{Option, None, Result, Ok, Err}
use Rattle.base.specs.Words.{over}
use Rattle.base.proofs.OverLaws.{over_start, over_whole}
use Rattle.base.proofs.Tests.{by_cases, yes, no, pick_when}
use Rattle.record.specs.declared.Act.{Act}
use Rattle.record.specs.declared.Act.TheVariants.{Select, Byte, End, Wait, Cut, Up, Set}
use Rattle.record.specs.declared.Device.{Device}
use Rattle.record.specs.Part.{is_part, size_of, id_size}
use Rattle.record.proofs.PartLaws.{size_most}
use Rattle.record.specs.Fresh.{fresh}
use Rattle.record.specs.World.{World, world}
use Rattle.refusals.specs.InRange.{InRange}
use Rattle.refusals.specs.Refusal.{setup_refusal}
use Rattle.refusals.proofs.RangeLaws.{in_range_lem, out_of_range_lem, fresh_facts}
use Rattle.refusals.proofs.TableLaws.{setup_passed, setup_passes}
use Rattle.acts.specs.Act.{Outcome, refusal_in, performed}
use Rattle.acts.proofs.OutcomeLaws.{done_zero, refused_same}
use Rattle.acts.proofs.SuitedLaws.{performed_follows}
use Rattle.lines.specs.declared.Fault.{Fault}
use Rattle.lines.specs.declared.Request.{Request}
use Rattle.lines.specs.declared.Request.TheVariants.{Part as PartLine, Act as ActLine}
use Rattle.text.specs.Buffer.{Buffer, append}
use Rattle.lines.specs.Request.{request_of}
use Rattle.lines.specs.Print.{shows_count, out_of}
use Rattle.answers.specs.Answer.{Setup, setup, no_part, fresh_setup, LineAnswer, answer, outcome_answer, act_answer, request_answer, line_answer, misplaced, RepliesShown, answer_text, Held, eeprom_bytes, id_bytes, setup_in, holding, eeprom_room, Shown, shown_in, line_in}
use Rattle.answers.specs.Ready.{ready}

-- what is shown of an act without a count: its reply, where it is done, and none, which is a refused act's reply too
reply_shown : (part : ℕ) (act : Act) (arg : ℕ) (s : Setup) → shows_count act ≡ false
    → (outcome_answer part act (performed part act arg s.chip)).out ≡ (performed part act arg s.chip).reply
reply_shown part act arg s c =
    by_cases (eqb (performed part act arg s.chip).number 0)
    (λ t. sym (yes _ None t) ∙ sym (no _ _ c))
    (λ t. sym (no _ None t) ∙ sym (ap (λ (o : Outcome). o.reply) (refused_same part act arg s.chip t)))

line_shown :
    (line : List ℕ) (act : Act) (arg : ℕ) (s : Setup) → request_of line ≡ Ok (ActLine act arg) → no_part s ≡ false → shows_count act ≡ false
    → (line_answer line s).out ≡ (performed s.part act arg s.chip).reply
unfolding line_answer
line_shown line act arg s e f c =
    ap (λ (r : Result Request Fault). (request_answer r s).out) e
    ∙ ap (λ (a : LineAnswer). a.out) (sym (no (misplaced s) _ f))
    ∙ reply_shown s.part act arg s c

-- a wait and a cut alone show a count
counts_not : (act : Act) → act ≢ Wait → act ≢ Cut → shows_count act ≡ false
counts_not Select w c = refl
counts_not Byte w c = refl
counts_not End w c = refl
counts_not Wait w c = absurd (w refl)
counts_not Cut w c = absurd (c refl)
counts_not Up w c = refl
counts_not (Set p) w c = refl

pub replies_shown_lem : RepliesShown
unfolding RepliesShown
replies_shown_lem line act arg s e f w c =
    let q = line_shown line act arg s e f (counts_not act w c) in
    (λ n r. q ∙ r, λ r. q ∙ r)

-- A refused line changes nothing: a part that is refused does not count, and an act that is refused leaves the chip as it was.
abbrev LeavesSetup : Setup → LineAnswer → Type 0
LeavesSetup s x = eqb x.number 0 ≡ false → x.after ≡ s

act_kept : (act : Act) (arg : ℕ) (s : Setup) → LeavesSetup s (outcome_answer s.part act (performed s.part act arg s.chip))
unfolding performed
act_kept act arg s =
    pick_when (λ (o : Outcome). LeavesSetup s (outcome_answer s.part act o)) (eqb (refusal_in s.part act arg s.chip) 0)
    (λ t h. absurd (true≢false (sym (ap (λ (k : ℕ). eqb k 0) (done_zero s.part arg s.chip act)) ∙ h)))
    (λ f h. refl)

request_kept : (r : Result Request Fault) (s : Setup) → LeavesSetup s (request_answer r s)
request_kept (Ok (PartLine arg)) s =
    pick_when (LeavesSetup s) (no_part s) (λ t. pick_when (LeavesSetup s) (is_part arg) (λ p h. absurd (true≢false h)) (λ p h. refl)) (λ f h. refl)
request_kept (Ok (ActLine act arg)) s = pick_when (LeavesSetup s) (no_part s) (λ t h. refl) (λ f. act_kept act arg s)
request_kept (Err fault) s = λ h. refl

pub refused_setup : (line : List ℕ) (s : Setup) → eqb (line_answer line s).number 0 ≡ false → (line_answer line s).after ≡ s
unfolding line_answer
refused_setup line s = request_kept (request_of line) s

-- a line's answer is that of its request
pub asked_shown :
    (line : List ℕ) (h : Held) (o : Buffer) (r : Result Request Fault) {x : Shown} → request_of line ≡ r → x ≡ shown_in h o (request_answer r (setup_in h))
    → x ≡ shown_in h o (line_answer line (setup_in h))
unfolding line_answer
asked_shown line h o r e f = f ∙ ap (λ (y : Result Request Fault). shown_in h o (request_answer y (setup_in h))) (sym e)

-- what an answer leaves held, and what it writes
pub shown_held : (h : Held) (o : Buffer) (a : LineAnswer) {x : Shown} → x ≡ shown_in h o a → x.after ≡ holding h a.after
unfolding shown_in
shown_held h o a e = ap (λ (y : Shown). y.after) e

pub shown_written : (h : Held) (o : Buffer) (a : LineAnswer) {x : Shown} → x ≡ shown_in h o a → x.written ≡ append o (answer_text a)
unfolding shown_in
shown_written h o a e = ap (λ (y : Shown). y.written) e

-- The setup that is held, put back, leaves all as it is: so does a refused line.
pub same_held : (h : Held) → holding h (setup_in h) ≡ h
same_held h =
    λ i. record { part = h.part; device = h.device; eeprom = over_start (eeprom_bytes h.part) h.eeprom i; id = over_start (id_bytes h.part) h.id i }

pub refused_shown : (h : Held) (o : Buffer) (number : ℕ) (out : Option ℕ) → line_in h o number out ≡ shown_in h o (answer number out (setup_in h))
unfolding shown_in answer_text
refused_shown h o number out = ap (λ (x : Held). line_in x o number out) (sym (same_held h))

-- a part has the first of the lent bytes
held_eeprom : (part : ℕ) → eqb part 0 ≡ false → eeprom_bytes part ≡ size_of part
held_eeprom part e = sym (no 0 (size_of part) e)

held_id : (part : ℕ) → eqb part 0 ≡ false → id_bytes part ≡ id_size
held_id part e = sym (no 0 id_size e)

-- of the lent bytes those of a part are as many as its size
pub part_bytes : (k part : ℕ) (ee : List ℕ) → length ee ≡ eeprom_room → k ≡ size_of part → length (take k ee) ≡ size_of part
part_bytes k part ee l e = length-take-le k ee (omega (arith, l, size_most part, e)) ∙ e

-- the code's fresh chip: the part's own bytes are erased, the EEPROM's others stay
pub fresh_shown :
    (h : Held) (o : Buffer) (part : ℕ) (d : Device) (x ee id : List ℕ) → length h.id ≡ id_size → d ≡ fresh
    → x ≡ replicate (size_of part) 0xff → ee ≡ x ++ drop (size_of part) h.eeprom → id ≡ replicate (length h.id) 0xff
    → line_in (record { part = part; device = d; eeprom = ee; id = id }) o 0 None ≡ shown_in h o (answer 0 None (fresh_setup part))
unfolding shown_in answer_text
fresh_shown h o part d x ee id l f e m k =
    let s : List ℕ = replicate (size_of part) 0xff in
    let r : List ℕ = replicate id_size 0xff in
    let p : ee ≡ over s h.eeprom =
    m ∙ ap (λ (y : List ℕ). y ++ drop (size_of part) h.eeprom) e
    ∙ ap (λ (n : ℕ). s ++ drop n h.eeprom) (sym (length-replicate {A = ℕ} (size_of part) 0xff)) in
    let q : id ≡ over r h.id =
    k ∙ ap (λ (n : ℕ). replicate n 0xff) l ∙ sym (over_whole r h.id (length-replicate {A = ℕ} id_size 0xff ∙ sym l)) in
    λ i. line_in (record { part = part; device = f i; eeprom = p i; id = q i }) o 0 None

-- the code's outcome of an act on the part's own bytes
pub outcome_shown :
    (h : Held) (o : Buffer) (act : Act) (arg : ℕ) (a : Outcome) (out : Option ℕ) → eqb h.part 0 ≡ false → length h.id ≡ id_size
    → length a.after.eeprom ≡ size_of h.part → length a.after.id ≡ length h.id → out ≡ out_of a.number act a.reply a.count
    → a ≡ performed h.part act arg (world h.device (take (size_of h.part) h.eeprom) h.id)
    → line_in (record { part = h.part; device = a.after.device; eeprom = a.after.eeprom ++ drop (size_of h.part) h.eeprom; id = a.after.id }) o a.number out
    ≡ shown_in h o (act_answer act arg (setup_in h))
unfolding shown_in answer_text
outcome_shown h o act arg a out some l m n e f =
    let x = a.after.eeprom in
    let id = a.after.id in
    let part = h.part in
    let w = world h.device (take (size_of part) h.eeprom) h.id in
    let chip : w ≡ (setup_in h).chip =
    λ i. world h.device (take (sym (held_eeprom part some) i) h.eeprom)
    ((sym (take_all id_size h.id (omega arith)) ∙ ap (λ (k : ℕ). take k h.id) (sym (held_id part some))) i) in
    let p : x ++ drop (size_of part) h.eeprom ≡ over x h.eeprom = ap (λ (k : ℕ). x ++ drop k h.eeprom) (sym m) in
    let q : id ≡ over id h.id = sym (over_whole id h.id n) in
    let made : LineAnswer = outcome_answer part act a in
    let laid : line_in (record { part = part; device = a.after.device; eeprom = x ++ drop (size_of part) h.eeprom; id = id }) o a.number out ≡ shown_in h o made =
    λ i. line_in (record { part = part; device = a.after.device; eeprom = p i; id = q i }) o a.number (e i) in
    laid
    ∙ ap (λ (y : Outcome). shown_in h o (outcome_answer part act y)) (f ∙ ap (performed part act arg) chip)
    ∙ ap (shown_in h o) (no (misplaced (setup_in h)) (outcome_answer part act (performed part act arg (setup_in h).chip)) some)

-- what an act may go on with: the setup of a part that is ready, with memories of its lengths
pub ready_suits :
    (part : ℕ) (d : Device) (ee id : ℕ) → eqb part 0 ≡ false → ready part d ≡ true → ee ≡ size_of part → id ≡ id_size
    → setup_refusal part d ee id ≡ 0
unfolding ready
ready_suits part d ee id some r e i =
    let z : setup_refusal part d (size_of part) id_size ≡ 0 =
    eqb-true _ 0 (ap (λ (b : Bool). b || eqb (setup_refusal part d (size_of part) id_size) 0) (sym some) ∙ r) in
    ap (λ (n : ℕ). setup_refusal part d n id) e ∙ ap (λ (n : ℕ). setup_refusal part d (size_of part) n) i ∙ z

-- and a line leaves it so
abbrev ReadySetup : Setup → Type 0
ReadySetup s = ready s.part s.chip.device ≡ true

pub ready_in_range : (part : ℕ) (d : Device) → is_part part ≡ true → InRange part d → ready part d ≡ true
unfolding ready
ready_in_range part d p r =
    let s = setup_passes part d (size_of part) id_size (record { known = p; eeprom = refl; ids = refl; ranged = out_of_range_lem part d r }) in
    simp (eq-eqb (setup_refusal part d (size_of part) id_size) 0 s, or-true)

act_ready : (act : Act) (arg : ℕ) (s : Setup) → no_part s ≡ false → ReadySetup s → ReadySetup (setup s.part (performed s.part act arg s.chip).after)
act_ready act arg s some r =
    let g = setup_passed s.part s.chip.device (size_of s.part) id_size (ready_suits s.part s.chip.device _ _ some r refl refl) in
    let k = performed_follows s.part act arg s.chip (in_range_lem s.part s.chip.device g.ranged) in
    ready_in_range s.part (performed s.part act arg s.chip).after.device g.known k.range

-- so does an act that the code performed
pub act_done :
    (part : ℕ) (act : Act) (arg : ℕ) (w : World) (d : Device) → eqb part 0 ≡ false → ready part w.device ≡ true → d ≡ (performed part act arg w).after.device
    → ready part d ≡ true
act_done part act arg w d some r e = subst (λ (x : Device). ready part x ≡ true) (sym e) (act_ready act arg (setup part w) some r)

request_ready : (r : Result Request Fault) (s : Setup) → ReadySetup s → ReadySetup (request_answer r s).after
request_ready (Ok (PartLine arg)) s h =
    let P : LineAnswer → Type 0 = λ a. ReadySetup a.after in
    pick_when P (no_part s) (λ t. pick_when P (is_part arg) (λ p. ready_in_range arg fresh p (fresh_facts arg)) (λ p. h)) (λ f. h)
request_ready (Ok (ActLine act arg)) s h = pick_when (λ (a : LineAnswer). ReadySetup a.after) (no_part s) (λ t. h) (λ f. act_ready act arg s f h)
request_ready (Err fault) s h = h

pub line_ready : (line : List ℕ) (s : Setup) → ReadySetup s → ReadySetup (line_answer line s).after
unfolding line_answer
line_ready line s h = request_ready (request_of line) s h
