-- A line's answer leaves a valid chip valid, and its text has room. Not what it says.
-- Assumes nothing.
use mathlib.Core.Path.{◌≡◌, refl}
use mathlib.Core.Bool.{false}
use mathlib.Core.List.{List}
use Prim.Native.Nat.{ℕ, ◌<◌, ◌≤◌}
use native.Mathlib.Omega.{arith}
use lib.Dec.{eqb}
use lib.ListN.{length}
use Rattle.std.specs.Prelude.{Option, None, Result, Ok, Err}
use Rattle.base.proofs.Tests.{pick_case, pick_when}
use Rattle.record.specs.declared.Act.{Act}
use Rattle.std.specs.Prelude.{Option, Some, None}
use Rattle.record.specs.Part.{is_part}
use Rattle.acts.specs.Act.{Outcome, performed}
use Rattle.acts.proofs.BoundLaws.{Small, performed_small}
use Rattle.acts.proofs.ValidLaws.{Valid, performed_valid, fresh_valid}
use Rattle.text.specs.Decimal.{decimal_text}
use Rattle.text.proofs.DecimalLaws.{decimal_places}
use Rattle.lines.specs.declared.Fault.{Fault}
use Rattle.lines.specs.declared.Request.{Request}
use Rattle.lines.specs.declared.Request.TheVariants.{Part as PartLine, Act as ActLine}
use Rattle.lines.specs.Print.{out_text, shows_count, out_room, answer_room}
use Rattle.lines.specs.Request.{request_of, fault_number, fault_column}
use Rattle.lines.proofs.PrintLaws.{answer_most}
use Rattle.lines.proofs.LineLaws.{TwoDigits, fault_small}
use Rattle.answers.specs.Answer.{Setup, no_part, LineAnswer, answer, faulty_line, outcome_answer, request_answer, line_answer, answer_text}

-- a setup without a part, or with a valid chip of its part
abbrev pub SetupValid : Setup → Type 0
SetupValid s = no_part s ≡ false → Valid s.part s.chip

-- a line's answer keeps that
request_valid : (r : Result Request Fault) (s : Setup) → SetupValid s → SetupValid (request_answer r s).after
request_valid (Ok (PartLine arg)) s v =
    let P : LineAnswer → Type 0 = λ x. SetupValid x.after in
    pick_case P (no_part s) (pick_case P (is_part arg) (λ e. fresh_valid arg) v) v
request_valid (Ok (ActLine act arg)) s v =
    pick_when (λ (x : LineAnswer). SetupValid x.after) (no_part s) (λ t. v) (λ f e. performed_valid s.part act arg s.chip (v f))
request_valid (Err fault) s v = v

pub answer_valid : (line : List ℕ) (s : Setup) → SetupValid s → SetupValid (line_answer line s).after
unfolding line_answer
answer_valid line s = request_valid (request_of line) s

-- an answer whose number has two digits at most, and that shows no more than there is room for
record Short (x : LineAnswer) : Type 0 where
  number : x.number < 100
  out : length (out_text x.out) ≤ out_room

none_short : (number : ℕ) (s : Setup) → number < 100 → Short (answer number None s)
none_short number s h = record { number = h; out = omega arith }

-- a count and a byte have eight places at most
value_most : (n : ℕ) → n < 100000000 → length (decimal_text n) ≤ out_room
value_most n h = omega (arith, decimal_places 7 n h)

reply_most : (r : Option ℕ) → ((b : ℕ) → r ≡ Some b → b < 256) → length (out_text r) ≤ out_room
reply_most (Some b) h = value_most b (omega (arith, h b refl))
reply_most None h = omega arith

outcome_short : (part : ℕ) (act : Act) (o : Outcome) → Small o → Short (outcome_answer part act o)
outcome_short part act o m =
    let P : Option ℕ → Type 0 = λ x. length (out_text x) ≤ out_room in
    record {
      number = omega (arith, m.number);
      out =
          pick_case P (eqb o.number 0)
          (pick_case P (shows_count act) (value_most o.count (omega (arith, m.count))) (reply_most o.reply m.reply))
          (omega arith);
    }

fault_short : (number column : ℕ) (s : Setup) → number < 100 → column < 100 → Short (faulty_line number column s)
fault_short number column s n c = record { number = n; out = value_most column (omega arith) }

request_short : (r : Result Request Fault) (s : Setup) → TwoDigits r → SetupValid s → Short (request_answer r s)
request_short (Ok (PartLine arg)) s d v =
    pick_case Short (no_part s) (pick_case Short (is_part arg) (none_short 0 _ (omega arith)) (none_short 3 _ (omega arith))) (fault_short 74 0 _ (omega arith) (omega arith))
request_short (Ok (ActLine act arg)) s d v =
    pick_when Short (no_part s) (λ t. fault_short 74 0 s (omega arith) (omega arith))
    (λ f. outcome_short s.part act (performed s.part act arg s.chip) (performed_small s.part act arg s.chip (v f)))
request_short (Err fault) s d v = fault_short (fault_number fault) (fault_column fault) s d.1 d.2

-- the text of an answer has room
pub answer_room_lem : (line : List ℕ) (s : Setup) → SetupValid s → length (answer_text (line_answer line s)) ≤ answer_room
unfolding line_answer answer_text
answer_room_lem line s v =
    let x = request_answer (request_of line) s in
    let b = request_short (request_of line) s (fault_small line) v in
    answer_most x.number x.out _ _ b.number b.out
