-- A number that names an act, and one that names none, as the conversion answers.
-- Assumes nothing.
use mathlib.Core.Path.{◌≡◌, sym, ◌∙◌}
use Prim.Native.Nat.{ℕ, ◌<◌, ◌≤◌}
use borrow.Author.Tests.{ltb-true, ltb-false}
use lib.Dec.{ltb}
use Rattle.std.specs.Prelude.{Result, Ok, Err}
use Rattle.base.specs.Words.{pick}
use Rattle.base.proofs.Tests.{by_cases, yes, no}
use Rattle.record.specs.declared.Act.{Act}
use Rattle.record.specs.declared.number.NoAct.{NoAct}
use Rattle.record.specs.Numbers.{act_of, act_count}

-- what the conversion answers
abbrev pub act_at : ℕ → Result Act NoAct
act_at n = pick (ltb n act_count) (Ok (act_of n)) (Err (record { 0 = n }))

abbrev found : Act → Result Act NoAct
found a = Ok a

abbrev missed : NoAct → Result Act NoAct
missed e = Err e

pub named : (n : ℕ) (a : Act) → found a ≡ act_at n → (n < act_count) × (a ≡ act_of n)
named n a e =
    by_cases (ltb n act_count)
    (λ t. let f : found a ≡ found (act_of n) = e ∙ sym (yes _ _ t) in (ltb-true n act_count t, (cc)))
    (λ t. let f : found a ≡ missed (record { 0 = n }) = e ∙ sym (no _ _ t) in absurd (cc))

pub unnamed : (n : ℕ) (e : NoAct) → missed e ≡ act_at n → act_count ≤ n
unnamed n e f =
    by_cases (ltb n act_count)
    (λ t. let g : missed e ≡ found (act_of n) = f ∙ sym (yes _ _ t) in absurd (cc))
    (λ t. ltb-false n act_count t)
