-- How a frame comes to the instruction of a code that a second byte moves on and that is not heard while a cycle runs: by the code's byte as its
-- first, with no cycle running. No later byte brings it there.
-- Assumes nothing.
use Prim.Native.Nat.{ℕ}
use native.Mathlib.Omega.{arith}
use mathlib.Core.Path.{◌≡◌, refl, sym, ap, ◌∙◌}
use mathlib.Core.Bool.{Bool, false, not, ◌&&◌}
use mathlib.Core.Logic.{◌↔◌, ◌≢◌}
use borrow.Author.Tests.{eq-eqb}
use Rattle.base.proofs.Tests.{by_cases, pick_case, pick_when, true_false}
use Rattle.record.specs.declared.Code.{Code}
use Rattle.record.specs.declared.Code.TheVariants.{Eeread, Eewrite, Eewrdi, Eewren, Srread, Srwrite, Read, Write, Unlock, Idwrite, Idread, Clrwdt, Clrram, Other}
use Rattle.record.specs.declared.Stage.{Stage}
use Rattle.record.specs.declared.Stage.TheVariants.{Idle, Opened, Unheard, Instruction, Reading, Writing, Second, Over}
use Rattle.record.specs.Codes.{code_of, code_number, is_code, heard_under_wip}
use Rattle.record.specs.Numbers.{stage_kind}
use Rattle.record.specs.Stages.{code_at}
use Rattle.record.proofs.CodeLaws.{code_back, code_byte}
use Rattle.frames.specs.Frame.{first_stage, second_stage, stage_after}

-- a first byte opens no frame anew
pub first_begun : (busy : Bool) (x : Code) → first_stage busy x ≢ Opened
first_begun busy x =
    pick_case (λ (s : Stage). s ≢ Opened) (busy && not (heard_under_wip x)) (λ e. omega (arith, ap stage_kind e)) (λ e. omega (arith, ap stage_kind e))

module _ (c : Code) (top : ℕ) (known : is_code c Other ≡ false) (moved : is_code c Srread ≡ false) where
  -- a stage that a further byte does not bring to the code's instruction
  abbrev pub Past : Stage → Type 0
  Past s = (s ≢ Opened) × (s ≢ Instruction c)

  past : (s : Stage) → stage_kind s ≢ 1 → stage_kind s ≢ 3 → Past s
  past s o i = (λ e. o (ap stage_kind e), λ e. i (ap stage_kind e))

  at_other : (x : Code) → is_code c x ≡ false → Past (Instruction x)
  at_other x n = (
    λ e. omega (arith, ap stage_kind e),
    λ e. true_false (ap (λ (s : Stage). is_code (code_at s) x) (sym e) ∙ eq-eqb (code_number x) (code_number x) refl) n,
  )

  second_past : (v : ℕ) (x : Code) → Past (second_stage top v x)
  second_past v Eeread = past _ (λ e. omega arith) (λ e. omega arith)
  second_past v Eewrite = past _ (λ e. omega arith) (λ e. omega arith)
  second_past v Eewrdi = past _ (λ e. omega arith) (λ e. omega arith)
  second_past v Eewren = past _ (λ e. omega arith) (λ e. omega arith)
  second_past v Srread = at_other Srread moved
  second_past v Srwrite = past _ (λ e. omega arith) (λ e. omega arith)
  second_past v Read = past _ (λ e. omega arith) (λ e. omega arith)
  second_past v Write = past _ (λ e. omega arith) (λ e. omega arith)
  second_past v Unlock = past _ (λ e. omega arith) (λ e. omega arith)
  second_past v Idwrite = past _ (λ e. omega arith) (λ e. omega arith)
  second_past v Idread = past _ (λ e. omega arith) (λ e. omega arith)
  second_past v Clrwdt = past _ (λ e. omega arith) (λ e. omega arith)
  second_past v Clrram = past _ (λ e. omega arith) (λ e. omega arith)
  second_past v Other = at_other Other known

  pub stage_past : (busy : Bool) (v : ℕ) (s : Stage) → s ≢ Opened → Past (stage_after top busy v s)
  stage_past busy v Idle n = past _ (λ e. omega arith) (λ e. omega arith)
  stage_past busy v Opened n = absurd (n refl)
  stage_past busy v Unheard n = past _ (λ e. omega arith) (λ e. omega arith)
  stage_past busy v (Instruction x) n = second_past v x
  stage_past busy v (Reading p) n = past _ (λ e. omega arith) (λ e. omega arith)
  stage_past busy v (Writing p) n = past _ (λ e. omega arith) (λ e. omega arith)
  stage_past busy v (Second q) n = past _ (λ e. omega arith) (λ e. omega arith)
  stage_past busy v (Over l) n = past _ (λ e. omega arith) (λ e. omega arith)

  module _ (deaf : heard_under_wip c ≡ false) where
    told : (busy : Bool) (b : ℕ) → first_stage busy (code_of b) ≡ Instruction c → (b ≡ code_number c) × (busy ≡ false)
    told busy b =
        pick_when (λ (s : Stage). s ≡ Instruction c → (b ≡ code_number c) × (busy ≡ false)) (busy && not (heard_under_wip (code_of b)))
        (λ t e. absurd (omega (arith, ap stage_kind e)))
        (λ t e.
        let q : code_of b ≡ c = ap code_at e in (
          sym (code_byte b (ap (λ (x : Code). is_code x Other) q ∙ known)) ∙ ap code_number q,
          by_cases busy (λ u. absurd (true_false (rw (u, q, deaf)) t)) (λ u. u),
        ))

    pub first_exactly : (busy : Bool) (b : ℕ) → (first_stage busy (code_of b) ≡ Instruction c) ↔ ((b ≡ code_number c) × (busy ≡ false))
    first_exactly busy b = (told busy b, λ p. rw (p.0, p.1) (ap Instruction (code_back c)))

-- nor does a later one
pub stage_begun : (top : ℕ) (busy : Bool) (v : ℕ) (s : Stage) → s ≢ Opened → stage_after top busy v s ≢ Opened
stage_begun top busy v s n = (stage_past Eewren top refl refl busy v s n).0
