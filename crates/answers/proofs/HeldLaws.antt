-- Laws of what is held from line to line: a setup with which a tape may go on and whose memories have its part's sizes stays one; it can be read
-- again from what is held; and what lies past its bytes stays as it was from the first line on.
-- Assumes nothing.
use mathlib.Core.Path.{◌≡◌, refl, sym, ap, subst, ◌∙◌}
use mathlib.Core.Bool.{true, false}
use mathlib.Core.List.{List}
use Prim.Native.Nat.{ℕ, ◌≤◌}
use native.Mathlib.Omega.{arith}
use lib.Dec.{eqb}
use lib.ListN.{length, length-replicate}
use lib.Seq.{length-take-le}
use Rattle.std.specs.Prelude.{Result, Ok, Err}
use Rattle.base.proofs.OverLaws.{over_over, take_over}
use Rattle.base.proofs.Tests.{by_cases, yes, no, pick_case, pick_when}
use Rattle.record.specs.Part.{is_part, size_of, id_size}
use Rattle.record.proofs.PartLaws.{part_cases, size_most}
use Rattle.record.specs.declared.Act.{Act}
use Rattle.record.specs.World.{world}
use Rattle.refusals.proofs.RangeLaws.{in_range_lem}
use Rattle.refusals.proofs.TableLaws.{setup_passed}
use Rattle.acts.specs.Act.{performed}
use Rattle.acts.proofs.SuitedLaws.{performed_follows}
use Rattle.lines.specs.declared.Fault.{Fault}
use Rattle.lines.specs.declared.Request.{Request}
use Rattle.lines.specs.declared.Request.TheVariants.{Part as PartLine, Act as ActLine}
use Rattle.lines.specs.Request.{request_of}
use Rattle.answers.specs.Answer.{Setup, setup, no_part, fresh_setup, LineAnswer, misplaced, request_answer, line_answer, Held, eeprom_bytes, id_bytes, setup_in, holding, eeprom_room}
use Rattle.answers.specs.Ready.{ready}
use Rattle.answers.proofs.AnswerLaws.{ready_suits, line_ready, same_held}

-- a setup with which a tape may go on, and whose memories have the sizes of its part
pub record Sound (s : Setup) : Type 0 where
  pub goes : ready s.part s.chip.device ≡ true
  pub eeprom : length s.chip.eeprom ≡ eeprom_bytes s.part
  pub id : length s.chip.id ≡ id_bytes s.part

-- what is lent has one
pub sound_held : (h : Held) → length h.eeprom ≡ eeprom_room → length h.id ≡ id_size → ready h.part h.device ≡ true → Sound (setup_in h)
sound_held h l m r =
    let e : eeprom_bytes h.part ≤ eeprom_room = pick_case (λ (n : ℕ). n ≤ eeprom_room) (eqb h.part 0) (omega arith) (size_most h.part) in
    let i : id_bytes h.part ≤ id_size = pick_case (λ (n : ℕ). n ≤ id_size) (eqb h.part 0) (omega arith) (omega arith) in
    record {
      goes = r;
      eeprom = length-take-le (eeprom_bytes h.part) h.eeprom (omega arith);
      id = length-take-le (id_bytes h.part) h.id (omega arith);
    }

-- a part that there is is not 0
pub is_some : (n : ℕ) → is_part n ≡ true → eqb n 0 ≡ false
is_some = part_cases (λ (n : ℕ). eqb n 0 ≡ false) refl refl refl refl

-- the memories after a line have its part's sizes
abbrev Lengths : Setup → Type 0
Lengths s = (length s.chip.eeprom ≡ eeprom_bytes s.part) × (length s.chip.id ≡ id_bytes s.part)

fresh_lengths : (n : ℕ) → is_part n ≡ true → Lengths (fresh_setup n)
fresh_lengths n p = (
  length-replicate {A = ℕ} (size_of n) 255 ∙ no 0 (size_of n) (is_some n p),
  length-replicate {A = ℕ} id_size 255 ∙ no 0 id_size (is_some n p),
)

act_lengths : (act : Act) (arg : ℕ) (s : Setup) → no_part s ≡ false → Sound s → Lengths (setup s.part (performed s.part act arg s.chip).after)
act_lengths act arg s f g =
    let k = setup_passed s.part s.chip.device (size_of s.part) id_size (ready_suits s.part s.chip.device _ _ f g.goes refl refl) in
    let q = performed_follows s.part act arg s.chip (in_range_lem s.part s.chip.device k.ranged) in
    (q.eeprom ∙ g.eeprom, q.id ∙ g.id)

request_lengths : (r : Result Request Fault) (s : Setup) → Sound s → Lengths (request_answer r s).after
request_lengths (Ok (PartLine arg)) s g =
    let P : LineAnswer → Type 0 = λ a. Lengths a.after in
    let same : Lengths s = (g.eeprom, g.id) in
    pick_case P (no_part s) (pick_when P (is_part arg) (fresh_lengths arg) (λ p. same)) same
request_lengths (Ok (ActLine act arg)) s g =
    pick_when (λ (a : LineAnswer). Lengths a.after) (no_part s) (λ t. (g.eeprom, g.id)) (λ f. act_lengths act arg s f g)
request_lengths (Err fault) s g = (g.eeprom, g.id)

pub line_sound : (line : List ℕ) (s : Setup) → Sound s → Sound (line_answer line s).after
unfolding line_answer
line_sound line s g =
    let l = request_lengths (request_of line) s g in
    record { goes = line_ready line s g.goes; eeprom = l.0; id = l.1 }

-- a part that was accepted stays
request_part : (r : Result Request Fault) (s : Setup) → no_part s ≡ false → (request_answer r s).after.part ≡ s.part
request_part (Ok (PartLine arg)) s f = ap (λ (a : LineAnswer). a.after.part) (sym (no _ (misplaced s) f))
request_part (Ok (ActLine act arg)) s f = pick_case (λ (a : LineAnswer). a.after.part ≡ s.part) (no_part s) refl refl
request_part (Err fault) s f = refl

-- so the memories do not become shorter: there are none before a part
line_longer :
    (line : List ℕ) (s : Setup) → Sound s
    → (length s.chip.eeprom ≤ length (line_answer line s).after.chip.eeprom) × (length s.chip.id ≤ length (line_answer line s).after.chip.id)
unfolding line_answer
line_longer line s g =
    let t = (line_answer line s).after in
    let k = line_sound line s g in
    by_cases (no_part s)
    (λ e. (omega (arith, g.eeprom, yes 0 (size_of s.part) e), omega (arith, g.id, yes 0 id_size e)))
    (λ e.
    let p = sym (request_part (request_of line) s e) in (
      omega (arith, g.eeprom, ap eeprom_bytes p, k.eeprom),
      omega (arith, g.id, ap id_bytes p, k.id),
    ))

-- a setup that is put into what is held can be read again
pub held_setup : (h : Held) (s : Setup) → Sound s → setup_in (holding h s) ≡ s
held_setup h s g =
    λ i. setup s.part
    (world s.chip.device (take_over s.chip.eeprom h.eeprom (eeprom_bytes s.part) g.eeprom i)
    (take_over s.chip.id h.id (id_bytes s.part) g.id i))

-- one whose memories are not shorter, put over another
held_over :
    (h : Held) (s t : Setup) → length s.chip.eeprom ≤ length t.chip.eeprom → length s.chip.id ≤ length t.chip.id
    → holding (holding h s) t ≡ holding h t
held_over h s t e i =
    λ j. record {
      part = t.part;
      device = t.chip.device;
      eeprom = over_over s.chip.eeprom t.chip.eeprom h.eeprom e j;
      id = over_over s.chip.id t.chip.id h.id i j;
    }

-- What is held, by what was held at first: a sound setup, and past its bytes what was there at first.
pub record Onward (h₀ h : Held) : Type 0 where
  pub sound : Sound (setup_in h)
  pub beyond : h ≡ holding h₀ (setup_in h)

pub onward_start : (h : Held) → Sound (setup_in h) → Onward h h
onward_start h g = record { sound = g; beyond = sym (same_held h) }

-- a line leads from one to the next, and its answer's setup is in it
pub onward_line :
    (h₀ h h' : Held) (line : List ℕ) → Onward h₀ h → h' ≡ holding h (line_answer line (setup_in h)).after
    → Onward h₀ h' × (setup_in h' ≡ (line_answer line (setup_in h)).after)
onward_line h₀ h h' line o e =
    let s = setup_in h in
    let t = (line_answer line s).after in
    let k = line_sound line s o.sound in
    let l = line_longer line s o.sound in
    let q : setup_in h' ≡ t = ap setup_in e ∙ held_setup h t k in
    let b : h' ≡ holding h₀ t = e ∙ ap (λ (x : Held). holding x t) o.beyond ∙ held_over h₀ s t l.0 l.1 in
    (record { sound = subst Sound (sym q) k; beyond = b ∙ ap (holding h₀) (sym q) }, q)
