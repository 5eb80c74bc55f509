-- Every way to feed a tape, proved: a state that a tape comes to stays fine, so that its answers have room and can be laid into what is lent and read
-- from it again; one call feeds what it takes; and calls, one after another, feed the tape.
-- Assumes nothing.
use mathlib.Core.Path.{◌≡◌, refl, sym, ap, subst, ◌∙◌}
use mathlib.Core.Bool.{Bool, true, false, not, ◌&&◌, and-false, true≢false}
use mathlib.Core.List.{List, [], ◌∷◌, ◌++◌, append_assoc, append-nil}
use Prim.Native.Nat.{ℕ, zero, suc, ◌+◌, ◌*◌, ◌-◌, ◌<◌, ◌≤◌}
use native.Mathlib.Omega.{arith}
use borrow.Author.Tests.{le-leb, le-ltb, leb-true, ltb-true, ltb-false, eqb-true, not-true}
use lib.Dec.{ltb, leb, eqb}
use lib.ListN.{length, take, drop, length-append, length-take, length-drop, take-append-drop}
use lib.Seq.{take_at, take_all, drop_at, take-take, length-take-le, sets-eq}
use Rattle.base.proofs.OverLaws.{take_over, length_over}
use Rattle.base.proofs.Tests.{by_cases, yes, no, pick_case, pick_when, both_left, both_right, both_true}
use Rattle.record.specs.declared.Device.{Device}
use Rattle.record.specs.Part.{is_part, size_of, id_size}
use Rattle.record.specs.World.{World, world, Bytes, Shaped}
use Rattle.record.proofs.PartLaws.{size_most}
use Rattle.refusals.specs.InRange.{InRange}
use Rattle.refusals.proofs.RangeLaws.{in_range_lem}
use Rattle.refusals.proofs.TableLaws.{setup_passed}
use Rattle.ledger.specs.State.{Step}
use Rattle.ledger.specs.Steps.{ledger_run}
use Rattle.run.specs.Begin.{ledger_of, AccountedFrom, DemandThreeFrom}
use Rattle.run.specs.Claim.{Input, our_chip, world_after, steps_of}
use Rattle.run.proofs.BeginAgrees.{demand_three_from}
use Rattle.text.specs.Bytes.{newline}
use Rattle.text.specs.Buffer.{Buffer, append, room_in}
use Rattle.lines.specs.Print.{answer_room}
use Rattle.answers.specs.Ready.{ready}
use Rattle.answers.specs.Answer.{Setup, setup, no_part, eeprom_room, eeprom_bytes, id_bytes, setup_in}
use Rattle.answers.proofs.AnswerLaws.{ready_suits}
use Rattle.answers.proofs.HeldLaws.{Sound, line_sound, held_setup}
use Rattle.answers.proofs.BoundLaws.{SetupValid, answer_valid, answer_room_lem}
use Rattle.tape.specs.Tape.{lines_from, State, state, head_limit, Fed, fed_to, ended, fed_byte, ahead, fed, finished, ChunksJoin, taken_within, put_into, taken_from, Loan, loan, held_in, state_in, lending, is_tape, start_tape, resumes, Given, gives, unchanged, feed_into, finish_into, tape_answers, empty_setup}
use Rattle.tape.specs.declared.Tape.{Tape}
use Rattle.feeding.specs.Told.{steps_told}
use Rattle.feeding.specs.Steps.{AccountsFor, told_by, left_after, BytesAccounted}
use Rattle.feeding.specs.Begin.{answers_with, left_with, Begun, HasFed, ResumesWith, CutInTwo}
use Rattle.feeding.specs.Feeding.{Offer, wrote, Course, course_of, last_call, printed, gets_on, getting_on, Begins, AnyFeeding, AnyResumed, ResumedAccounted, CutFeeding, EndsWhole}
use Rattle.tape.proofs.TapeLaws.{fed_join, ahead_join, TapeFacts, tape_facts, facts_tape}
use Rattle.feeding.proofs.WholeLaws.{lines_fed, to_end, fed_lines, answers_lines, setup_lines, taken_within_lem, taken_some}
use Rattle.feeding.proofs.LedgerLaws.{bytes_accounted}
use Rattle.feeding.proofs.BeginLaws.{cut_in_two, tape_owed}

-- a state that a tape comes to: its setup is sound and its chip valid, and no more is kept of a line than tells that it is too long
pub record Fine (s : State) : Type 0 where
  pub sound : Sound s.setup
  pub valid : SetupValid s.setup
  pub short : length s.begun ≤ head_limit

byte_fine : (b : ℕ) (s : State) → Fine s → Fine (fed_byte b s).after
byte_fine b s f =
    pick_case (λ (g : Fed). Fine g.after) (eqb b newline)
    (record { sound = line_sound s.begun s.setup f.sound; valid = answer_valid s.begun s.setup f.valid; short = omega arith })
    (record { sound = f.sound; valid = f.valid; short = simp length-take (omega arith) })

fed_fine : (bytes : List ℕ) (s : State) → Fine s → Fine (fed s bytes).after
unfolding fed
fed_fine [] s f = f
fed_fine (b ∷ bytes) s f = fed_fine bytes (fed_byte b s).after (byte_fine b s f)

finished_fine : (s : State) → Fine s → Fine (finished s).after
unfolding finished
finished_fine s f =
    pick_case (λ (g : Fed). Fine g.after) (eqb (length s.begun) 0) f
    (record { sound = line_sound s.begun s.setup f.sound; valid = answer_valid s.begun s.setup f.valid; short = omega arith })

-- The answers to what is taken have room.
byte_room : (b room : ℕ) (s : State) → Fine s → (eqb b newline && ltb room answer_room) ≡ false → length (fed_byte b s).answers ≤ room
byte_room b room s f e =
    pick_when (λ (g : Fed). length g.answers ≤ room) (eqb b newline)
    (λ t. omega (arith, answer_room_lem s.begun s.setup f.valid, ltb-false room answer_room (rw t at e)))
    (λ t. omega arith)

taken_room :
    (bytes : List ℕ) (room : ℕ) (s : State) → Fine s → length (fed s (take (taken_within room s bytes) bytes)).answers ≤ room
unfolding taken_within fed
taken_room [] room s f = omega arith
taken_room (b ∷ bytes) room s f =
    let a = (fed_byte b s).answers in
    let t = (fed_byte b s).after in
    let k = taken_within (room - length a) t bytes in
    pick_when (λ (n : ℕ). length (fed s (take n (b ∷ bytes))).answers ≤ room) (eqb b newline && ltb room answer_room)
    (λ e. omega arith)
    (λ e.
    let h : length a ≤ room = byte_room b room s f e in
    let i = taken_room bytes (room - length a) t (byte_fine b s f) in
    omega (arith, length-append a (fed t (take k bytes)).answers))

finished_room : (s : State) → Fine s → length (finished s).answers ≤ answer_room
unfolding finished
finished_room s f =
    pick_case (λ (g : Fed). length g.answers ≤ answer_room) (eqb (length s.begun) 0) (omega arith)
    (answer_room_lem s.begun s.setup f.valid)

-- so what a call wrote are they
wrote_text : (o : Buffer) (text : List ℕ) → length text ≤ room_in o → wrote o (append o text) ≡ text
unfolding append
wrote_text o [] h =
    let n : o.at + 0 - o.at ≡ 0 = omega arith in
    ap (λ (k : ℕ). take k (drop o.at (append o []).bytes)) n
wrote_text o (b ∷ bs) h =
    let m = o.bytes in
    let k = o.at in
    let text = b ∷ bs in
    let rest = drop (k + length text) m in
    let q : drop k (append o text).bytes ≡ text ++ rest =
    ap (drop k) (sets-eq text m k (omega arith) ∙ append_assoc (take k m) text rest)
    ∙ drop_at (take k m) (text ++ rest) k (length-take-le k m (omega arith)) in
    ap (take (k + length text - k)) q ∙ take_at text rest (k + length text - k) (omega arith)

-- A fine state that is laid into what is lent to a tape can be read again, and it is a tape again.
laid_state : (l : Loan) (s : State) → Fine s → state_in (lending l s) ≡ s
laid_state l s f =
    λ i. state (held_setup (held_in l) s.setup f.sound i) (take_over s.begun l.line (length s.begun) refl i)

laid_facts : (l : Loan) (s : State) → TapeFacts l → Fine s → TapeFacts (lending l s)
laid_facts l s t f =
    let p = s.setup.part in
    let e : eeprom_bytes p ≤ eeprom_room = pick_case (λ (n : ℕ). n ≤ eeprom_room) (eqb p 0) (omega arith) (size_most p) in
    let i : id_bytes p ≤ id_size = pick_case (λ (n : ℕ). n ≤ id_size) (eqb p 0) (omega arith) (omega arith) in
    record {
      begun = f.short;
      line = length_over s.begun l.line (omega (arith, f.short, t.line)) ∙ t.line;
      eeprom = length_over s.setup.chip.eeprom l.eeprom (omega (arith, f.sound.eeprom, t.eeprom)) ∙ t.eeprom;
      id = length_over s.setup.chip.id l.id (omega (arith, f.sound.id, t.id)) ∙ t.id;
      goes = f.sound.goes;
    }

-- What is lent in the course of a feeding: a tape, with a fine state in it.
pub record Good (l : Loan) : Type 0 where
  pub facts : TapeFacts l
  pub fine : Fine (state_in l)

laid_good : (l : Loan) (s : State) → Good l → Fine s → Good (lending l s)
laid_good l s g f = record { facts = laid_facts l s g.facts f; fine = subst Fine (sym (laid_state l s f)) f }

-- One call feeds the bytes that it takes: it leaves and writes what they do.
pub record Called (l : Loan) (chunk : List ℕ) (o : Buffer) (g : Given) : Type 0 where
  pub count : g.count ≤ length chunk
  pub good : Good g.after
  pub after : state_in g.after ≡ (fed (state_in l) (take g.count chunk)).after
  pub wrote : wrote o g.written ≡ (fed (state_in l) (take g.count chunk)).answers

one_call : (l : Loan) (chunk : List ℕ) (o : Buffer) → Good l → Called l chunk o (feed_into l chunk o)
unfolding feed_into taken_from
one_call l chunk o g =
    let s = state_in l in
    let k = taken_within (room_in o) s chunk in
    let f = fed_fine (take k chunk) s g.fine in
    subst (Called l chunk o) (yes (gives l (taken_from s chunk o)) _ (facts_tape l g.facts))
    (record {
      count = taken_within_lem chunk (room_in o) s;
      good = laid_good l (fed s (take k chunk)).after g f;
      after = laid_state l (fed s (take k chunk)).after f;
      wrote = wrote_text o (fed s (take k chunk)).answers (taken_room chunk (room_in o) s g.fine);
    })

-- The last one feeds the end of the tape.
pub record Finished (l : Loan) (o : Buffer) (g : Given) : Type 0 where
  pub good : Good g.after
  pub after : state_in g.after ≡ (finished (state_in l)).after
  pub wrote : wrote o g.written ≡ (finished (state_in l)).answers

last_call_lem : (l : Loan) (o : Buffer) → Good l → answer_room ≤ room_in o → Finished l o (finish_into l o)
unfolding finish_into
last_call_lem l o g r =
    let s = state_in l in
    let f = finished_fine s g.fine in
    subst (Finished l o) (yes (gives l (put_into o 0 (finished s))) _ (both_true (facts_tape l g.facts) (le-leb answer_room (room_in o) r)))
    (record {
      good = laid_good l (finished s).after g f;
      after = laid_state l (finished s).after f;
      wrote = wrote_text o (finished s).answers (omega (arith, finished_room s g.fine));
    })

-- Calls, one after another: what was written, and then all that is left, is the whole.
pub record Runs (l : Loan) (left : List ℕ) (c : Course) : Type 0 where
  pub good : Good c.loan
  pub whole : ahead c.written (to_end (fed (state_in c.loan) c.left)) ≡ to_end (fed (state_in l) left)

-- the bytes that a call takes of what it is offered are the first of what is left
taken_first : (n k : ℕ) (left : List ℕ) → k ≤ length (take n left) → take k (take n left) ++ drop k left ≡ left
taken_first n k left h =
    let m : k ≤ n = omega (arith, length-take n left) in
    ap (λ (x : List ℕ). x ++ drop k left) (take-take k n left m) ∙ take-append-drop k left

to_end_lem : (a : List ℕ) (f : Fed) → ahead a (to_end f) ≡ to_end (ahead a f)
to_end_lem a f = ahead_join a f.answers (finished f.after)

runs : (xs : List Offer) (l : Loan) (left : List ℕ) → Good l → Runs l left (course_of l left xs)
unfolding course_of ChunksJoin
runs [] l left g = record { good = g; whole = refl }
runs (x ∷ xs) l left g =
    let chunk = take x.size left in
    let d = feed_into l chunk x.into in
    let k = d.count in
    let o = one_call l chunk x.into g in
    let s = state_in l in
    let f = fed s (take k chunk) in
    let c = course_of d.after (drop k left) xs in
    let r = runs xs d.after (drop k left) o.good in
    record {
      good = r.good;
      whole =
          sym (ahead_join (wrote x.into d.written) c.written (to_end (fed (state_in c.loan) c.left)))
          ∙ ap (ahead (wrote x.into d.written)) r.whole
          ∙ (λ i. ahead (o.wrote i) (to_end (fed (o.after i) (drop k left))))
          ∙ to_end_lem f.answers (fed f.after (drop k left))
          ∙ ap to_end (sym (fed_join s (take k chunk) (drop k left)))
          ∙ ap (λ (y : List ℕ). to_end (fed s y)) (taken_first x.size k left o.count);
    }

-- a call that gets on takes a byte at least, where one is left; so each leaves less
takes_some :
    (n : ℕ) (o : Buffer) (l : Loan) (b : ℕ) (left : List ℕ) → Good l → 0 < n → answer_room ≤ room_in o → 0 < (feed_into l (take n (b ∷ left)) o).count
unfolding feed_into taken_from
takes_some zero o l b left g h r = absurd (omega arith)
takes_some (suc n) o l b left g h r =
    let s = state_in l in
    subst (λ (x : Given). 0 < x.count) (yes (gives l (taken_from s (b ∷ take n left) o)) _ (facts_tape l g.facts))
    (taken_some b (take n left) (room_in o) s r)

less_left :
    (x : Offer) (l : Loan) (left : List ℕ) → Good l → gets_on x ≡ true
    → length (drop (feed_into l (take x.size left) x.into).count left) ≤ length left - 1
less_left x l [] g t = let e : List ℕ = [] in omega (arith, length-drop (feed_into l (take x.size e) x.into).count e)
less_left x l (b ∷ left) g t =
    omega (arith, length-drop (feed_into l (take x.size (b ∷ left)) x.into).count (b ∷ left), takes_some x.size x.into l b left g (ltb-true 0 x.size (both_left (ltb 0 x.size) (leb answer_room (room_in x.into)) t)) (leb-true answer_room (room_in x.into) (both_right (ltb 0 x.size) (leb answer_room (room_in x.into)) t)))

ends_by : (xs : List Offer) (l : Loan) (left : List ℕ) → Good l → length left ≤ getting_on xs → (course_of l left xs).left ≡ []
unfolding course_of getting_on
ends_by [] l [] g h = refl
ends_by [] l (b ∷ left) g h = absurd (omega arith)
ends_by (x ∷ xs) l left g h =
    let k = (feed_into l (take x.size left) x.into).count in
    let o = one_call l (take x.size left) x.into g in
    let less : length (drop k left) ≤ getting_on xs =
    by_cases (gets_on x)
    (λ t. omega (arith, less_left x l left g t, rw t at h))
    (λ t. omega (arith, length-drop k left, rw t at h)) in
    ends_by xs (feed_into l (take x.size left) x.into).after _ o.good less

-- What a tape may begin with is a fine state before its first line; and a fine state's setup is one.
begun_fine : (s : Setup) → Begun s → Fine (state s [])
begun_fine s b =
    record {
      sound = record { goes = b.goes; eeprom = b.eeprom; id = b.id };
      valid =
          λ e.
          let k = setup_passed s.part s.chip.device (size_of s.part) id_size (ready_suits s.part s.chip.device _ _ e b.goes refl refl) in
          record { range = in_range_lem s.part s.chip.device k.ranged; shaped = b.shaped e };
      short = omega arith;
    }

fine_begun : (s : State) → Fine s → Begun s.setup
fine_begun s f = record { goes = f.sound.goes; eeprom = f.sound.eeprom; id = f.sound.id; shaped = λ e. (f.valid e).shaped }

has_good : (s : Setup) (l : Loan) (bytes : List ℕ) → HasFed s l bytes → Good l
has_good s l bytes h =
    record { facts = tape_facts l h.tape; fine = subst Fine (sym h.reached) (fed_fine bytes (state s []) (begun_fine s h.begun)) }

-- Calls, from what a tape begins with.
pub any_resumed : AnyResumed
unfolding AnyResumed fed
any_resumed s l h bytes xs =
    let g = has_good s l [] h in
    let c = course_of l bytes xs in
    let r = runs xs l bytes g in
    let t = state_in c.loan in
    let lines : to_end (fed (state_in l) bytes) ≡ lines_fed s (lines_from [] bytes) =
    ap (λ (x : State). to_end (fed x bytes)) h.reached ∙ fed_lines bytes s [] in
    let end : c.left ≡ [] → ahead c.written (finished t) ≡ lines_fed s (lines_from [] bytes) =
    λ z. ap (λ (y : List ℕ). ahead c.written (to_end (fed t y))) (sym z) ∙ r.whole ∙ lines in
    record {
      ends = ends_by xs l bytes g;
      begins = ((to_end (fed t c.left)).answers, ap (λ (f : Fed). f.answers) (r.whole ∙ lines));
      whole =
          λ z o m. ap (λ (x : List ℕ). c.written ++ x) (last_call_lem c.loan o r.good m).wrote ∙ ap (λ (f : Fed). f.answers) (end z);
      leaves =
          λ z o m.
          let k = last_call_lem c.loan o r.good m in
          let e : state_in (last_call c o).after ≡ state (left_with s bytes) [] = k.after ∙ ap (λ (f : Fed). f.after) (end z) in
          record {
            begun = subst (λ (x : State). Begun x.setup) e (fine_begun (state_in (last_call c o).after) k.good.fine);
            tape = facts_tape (last_call c o).after k.good.facts;
            reached = e;
          };
    }

-- What is owed after every run of acts from a chip is owed of the memories that are lent at last, by the bytes of the tape and the bytes written.
module _
    (Owed : ℕ → World → World → List Step → Type 0)
    (owed :
    (part : ℕ) → is_part part ≡ true → (s : World) → InRange part s.device → Shaped part s → (xs : List Input)
    → Owed part s (world_after our_chip part xs s) (steps_of our_chip part xs s))
  where
    pub feeding_owed :
        (s : Setup) (l : Loan) → HasFed s l [] → no_part s ≡ false → (bytes : List ℕ) (xs : List Offer) → (course_of l bytes xs).left ≡ [] → (o : Buffer)
        → answer_room ≤ room_in o
        → Owed s.part s.chip (setup_in (held_in (last_call (course_of l bytes xs) o).after)).chip
        (steps_told (lines_from [] bytes) (lines_from [] (printed (course_of l bytes xs) o)))
    unfolding AnyResumed fed
    feeding_owed s l h f bytes xs z o m =
        let r = any_resumed s l h bytes xs in
        let c = course_of l bytes xs in
        subst (λ (x : List ℕ). Owed s.part s.chip (setup_in (held_in (last_call c o).after)).chip (steps_told (lines_from [] bytes) (lines_from [] x))) (sym (r.whole z o m))
        (subst (λ (x : State). Owed s.part s.chip x.setup.chip (steps_told (lines_from [] bytes) (lines_from [] (answers_with s bytes)))) (sym (r.leaves z o m).reached)
        (tape_owed Owed owed s h.begun f bytes))

-- demand 3 is owed so
pub resumed_accounted : ResumedAccounted
unfolding DemandThreeFrom ResumedAccounted
resumed_accounted =
    feeding_owed (λ part s w steps. AccountedFrom part s w (ledger_run part steps (ledger_of s.device))) demand_three_from

-- a tape that is cut in two at a line
pub cut_feeding_lem : CutFeeding
unfolding CutFeeding AnyResumed CutInTwo
cut_feeding_lem s a b c l m xs ys h k y z o p n q =
    (λ i. (any_resumed s l h a xs).whole y o n i ++ (any_resumed (left_with s a) m k b ys).whole z p q i) ∙ sym (cut_in_two s a b c).answers

-- What a tape begins with that `start` answered: it has no part, so nothing is asked of its chip.
begins_facts : (l : Loan) → Begins l → TapeFacts l
unfolding ready
begins_facts l b =
    record {
      begun = omega (arith, ap (λ (t : Tape). t.begun) b.tape);
      line = b.line;
      eeprom = b.eeprom;
      id = b.id;
      goes = ap (λ (t : Tape). ready t.part t.device) b.tape;
    }

begins_state : (l : Loan) → Begins l → state_in l ≡ state empty_setup []
begins_state l b = ap (λ (t : Tape). state_in (loan t l.line l.eeprom l.id)) b.tape

empty_begun : Begun empty_setup
unfolding ready
empty_begun = record { goes = refl; eeprom = refl; id = refl; shaped = λ e. absurd (true≢false e) }

pub has_start : (l : Loan) → Begins l → HasFed empty_setup l []
unfolding fed
has_start l b = record { begun = empty_begun; tape = facts_tape l (begins_facts l b); reached = begins_state l b }

pub any_feeding : AnyFeeding
unfolding AnyFeeding AnyResumed BytesAccounted tape_answers fed
any_feeding l b bytes xs =
    let c = course_of l bytes xs in
    let r = any_resumed empty_setup l (has_start l b) bytes xs in
    let left : c.left ≡ [] → (o : Buffer) → answer_room ≤ room_in o → setup_in (held_in (last_call c o).after) ≡ left_after empty_setup.chip bytes =
    λ z o h. ap (λ (x : State). x.setup) (r.leaves z o h).reached ∙ sym (setup_lines bytes empty_setup []) in
    record {
      ends = r.ends;
      begins = r.begins;
      whole = r.whole;
      accounts =
          λ z o h.
          subst (λ (x : List ℕ). AccountsFor (told_by bytes x) (setup_in (held_in (last_call c o).after))) (sym (r.whole z o h))
          (subst (AccountsFor (told_by bytes (tape_answers bytes))) (sym (left z o h)) (bytes_accounted bytes empty_setup.chip));
    }

-- What `resume` answers begins a tape.
take_bytes : (n : ℕ) (l : List ℕ) → Bytes l → Bytes (take n l)
take_bytes zero l b k = omega arith
take_bytes (suc n) [] b k = b k
take_bytes (suc n) (x ∷ l) b zero = b 0
take_bytes (suc n) (x ∷ l) b (suc k) = take_bytes n l (λ j. b (suc j)) k

resume_known : (part : ℕ) (d : Device) (ee id : ℕ) → resumes part d ee id ≡ true → (eqb part 0 ≡ false) × (ready part d ≡ true) × (ee ≡ eeprom_room) × (id ≡ id_size)
unfolding resumes
resume_known part d ee id t =
    let n = not (eqb part 0) in
    let e = both_right (n && ready part d) (eqb ee eeprom_room && eqb id id_size) t in
    let k = both_left (n && ready part d) (eqb ee eeprom_room && eqb id id_size) t in (
      not-true (eqb part 0) (both_left n (ready part d) k),
      both_right n (ready part d) k,
      eqb-true ee eeprom_room (both_left (eqb ee eeprom_room) (eqb id id_size) e),
      eqb-true id id_size (both_right (eqb ee eeprom_room) (eqb id id_size) e),
    )

pub resumes_with : ResumesWith
unfolding ResumesWith fed
resumes_with part d line ee id t n r =
    let k = resume_known part d (length ee) (length id) r in
    let l : Loan = loan (record { part = part; device = d; begun = 0 }) line ee id in
    let s : Setup = setup part (world d (take (size_of part) ee) (take id_size id)) in
    let m : size_of part ≤ length ee = omega (arith, size_most part, k.2) in
    let i : id_size ≤ length id = omega (arith, k.3) in
    let a : length s.chip.eeprom ≡ size_of part = length-take-le (size_of part) ee m in
    let b : length s.chip.id ≡ id_size = length-take-le id_size id i in
    subst (λ (x : Tape). HasFed s (loan x line ee id) []) (yes l.tape start_tape r)
    (record {
      begun =
          record {
            goes = k.1;
            eeprom = a ∙ no 0 (size_of part) k.0;
            id = b ∙ no 0 id_size k.0;
            shaped =
                λ e.
                record { sized = t.sized; eeprom = a; id = b; eeprom_bytes = take_bytes (size_of part) ee t.eeprom; id_bytes = take_bytes id_size id t.id };
          };
      tape =
          facts_tape l
          (record { begun = omega arith; line = n; eeprom = k.2; id = k.3; goes = k.1 });
      reached = λ j. state (setup part (world d (take (sym (no 0 (size_of part) k.0) j) ee) (take (sym (no 0 id_size k.0) j) id))) [];
    })

-- How far a caller is that reads piece by piece: a call feeds what it takes of its chunk, and where it has room that is all of it.
pub has_more :
    (s : Setup) (l : Loan) (bytes chunk : List ℕ) (o : Buffer) → HasFed s l bytes
    → HasFed s (feed_into l chunk o).after (bytes ++ take (feed_into l chunk o).count chunk)
unfolding ChunksJoin
has_more s l bytes chunk o h =
    let c = one_call l chunk o (has_good s l bytes h) in
    let k = take (feed_into l chunk o).count chunk in
    record {
      begun = h.begun;
      tape = facts_tape _ c.good.facts;
      reached = c.after ∙ ap (λ (x : State). (fed x k).after) h.reached ∙ sym (ap (λ (f : Fed). f.after) (fed_join (state s []) bytes k));
    }

-- the end of a tape leads where a last newline leads
finished_fed : (s : State) → (piece : List ℕ) × ((finished s).after ≡ (fed s piece).after)
unfolding finished fed
finished_fed s =
    by_cases (eqb (length s.begun) 0)
    (λ t. ([], ap (λ (f : Fed). f.after) (sym (yes (fed_to s []) (ended s) t))))
    (λ t. (newline ∷ [], ap (λ (f : Fed). f.after) (sym (no (fed_to s []) (ended s) t))))

pub has_ended :
    (s : Setup) (l : Loan) (bytes : List ℕ) (o : Buffer) → HasFed s l bytes → (piece : List ℕ) × HasFed s (finish_into l o).after (bytes ++ piece)
unfolding finish_into ChunksJoin
has_ended s l bytes o h =
    let t = is_tape l && leb answer_room (room_in o) in
    by_cases t
    (λ e.
    let c = last_call_lem l o (has_good s l bytes h) (leb-true answer_room (room_in o) (both_right (is_tape l) (leb answer_room (room_in o)) e)) in
    let p = finished_fed (state_in l) in (
      p.0,
      record {
        begun = h.begun;
        tape = facts_tape (finish_into l o).after c.good.facts;
        reached =
            c.after ∙ p.1 ∙ ap (λ (x : State). (fed x p.0).after) h.reached
            ∙ sym (ap (λ (f : Fed). f.after) (fed_join (state s []) bytes p.0));
      },
    ))
    (λ e.
    ([], subst (λ (g : Given). HasFed s g.after (bytes ++ [])) (no _ (unchanged l o) e) (subst (HasFed s l) (sym (append-nil bytes)) h)))

pub ends_whole : EndsWhole
unfolding EndsWhole
ends_whole s l bytes h o r =
    let f = fed (state s []) bytes in
    ap (λ (x : List ℕ). f.answers ++ x) ((last_call_lem l o (has_good s l bytes h) r).wrote ∙ ap (λ (x : State). (finished x).answers) h.reached)
    ∙ answers_lines bytes s []

-- A call whose buffer has room for an answer to each byte of its chunk takes the chunk whole.
taken_all : (bytes : List ℕ) (room : ℕ) (s : State) → Fine s → answer_room * length bytes ≤ room → taken_within room s bytes ≡ length bytes
unfolding taken_within
taken_all [] room s f r = refl
taken_all (b ∷ bytes) room s f r =
    let a = (fed_byte b s).answers in
    let m : length a ≤ answer_room = pick_case (λ (g : Fed). length g.answers ≤ answer_room) (eqb b newline) (answer_room_lem s.begun s.setup f.valid) (omega arith) in
    let t : ltb room answer_room ≡ false = le-ltb room answer_room (omega arith) in
    let u : (eqb b newline && ltb room answer_room) ≡ false = ap (λ (x : Bool). eqb b newline && x) t ∙ and-false (eqb b newline) in
    sym (no 0 (suc (taken_within (room - length a) (fed_byte b s).after bytes)) u)
    ∙ ap suc (taken_all bytes (room - length a) (fed_byte b s).after (byte_fine b s f) (omega arith))

call_whole :
    (s : Setup) (l : Loan) (bytes chunk : List ℕ) (o : Buffer) → HasFed s l bytes → answer_room * length chunk ≤ room_in o → take (feed_into l chunk o).count chunk ≡ chunk
unfolding feed_into taken_from
call_whole s l bytes chunk o h r =
    let g = has_good s l bytes h in
    let e = taken_all chunk (room_in o) (state_in l) g.fine r in
    subst (λ (x : Given). take x.count chunk ≡ chunk) (yes (gives l (taken_from (state_in l) chunk o)) _ (facts_tape l g.facts))
    (take_all (taken_within (room_in o) (state_in l) chunk) chunk (omega (arith, e)))

pub has_all :
    (s : Setup) (l : Loan) (bytes chunk : List ℕ) (o : Buffer) → HasFed s l bytes → answer_room * length chunk ≤ room_in o
    → HasFed s (feed_into l chunk o).after (bytes ++ chunk)
has_all s l bytes chunk o h r =
    subst (λ (x : List ℕ). HasFed s (feed_into l chunk o).after (bytes ++ x)) (call_whole s l bytes chunk o h r) (has_more s l bytes chunk o h)

-- and what it wrote are the answers
pub wrote_all_lem :
    (s : Setup) (l : Loan) (bytes chunk : List ℕ) (o : Buffer) → HasFed s l bytes → answer_room * length chunk ≤ room_in o
    → wrote o (feed_into l chunk o).written ≡ (fed (state_in l) chunk).answers
wrote_all_lem s l bytes chunk o h r =
    (one_call l chunk o (has_good s l bytes h)).wrote ∙ ap (λ (x : List ℕ). (fed (state_in l) x).answers) (call_whole s l bytes chunk o h r)
