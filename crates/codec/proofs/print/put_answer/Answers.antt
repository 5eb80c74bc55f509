-- `codec::print::put_answer`: four fields and the line's end, one after the other.
-- Assumes nothing.
use native.Mathlib.Omega.{arith}
use mathlib.Core.Path.{◌≡◌, ap, ◌∙◌}
use mathlib.Core.Bool.{Bool, true, false}
use mathlib.Core.List.{List, [], ◌∷◌, ◌++◌}
use Prim.Native.Nat.{ℕ, ◌+◌, ◌^◌, ◌<◌, ◌≤◌}
use lib.ListN.{length}
use mir.Val.{bool_byte}
use Rattle.std.specs.Prelude.{Option, Some}
use Rattle.text.specs.Buffer.{Buffer, buffer, append}
use Rattle.text.specs.Bytes.{newline}
use Rattle.text.specs.Decimal.{decimal_text}
use Rattle.text.proofs.BufferLaws.{put_then}
use Rattle.lines.specs.Print.{no_word, irq_word, wdo_word, level_out, fields_text, answer_chars, answer_line, out_room, answer_room}
use Rattle.lines.proofs.PrintLaws.{number_room, level_room}
use Rattle.codec.proofs.print.put_answer.Goals as goal

-- the room that the second field leaves
second :
    (number : ℕ) {n : ℕ} (o : Buffer) (q : List ℕ) {p : Buffer} {r : ℕ} → n ≡ number → p ≡ append o (no_word ++ decimal_text n) → length p.bytes ≡ length o.bytes
    → number < 256 → o.at + answer_room ≤ length o.bytes → r ≤ p.at + 5 + out_room → length q ≡ length p.bytes → r + 33 ≤ length q
second number {n} o q same e l k h b f =
    let few : n < 10 ^ 3 = omega (arith, k, same) in
    omega (arith, number_room 2 n 58 o no_word few e l h, b, f)

-- a level as it is shown
level_is : {n : ℕ} (high : Bool) → n ≡ bool_byte high → ◌≡◌ {A = Option ℕ} (Some n) (level_out high)
level_is true e = ap Some e
level_is false e = ap Some e

-- the line, with the number and the levels that it shows
line_is :
    {n i w : ℕ} (o : Buffer) (number : ℕ) (out : Option ℕ) (irq wdo : Bool) → n ≡ number → i ≡ bool_byte irq → w ≡ bool_byte wdo
    → append o (fields_text (Some n) out (Some i) (Some w) ++ (newline ∷ [])) ≡ append o (answer_line number out irq wdo)
unfolding answer_line answer_chars
line_is o number out irq wdo d e f =
    λ k. append o (fields_text (Some (d k)) out (level_is irq e k) (level_is wdo f k) ++ (newline ∷ []))

pub put_field-c-requires : goal.put_field-c-requires
put_field-c-requires c =
    omega (arith, second c.args.number (buffer c.args.into.now c.args.at) c.put_field-b.new.into c.from.ensures c.put_field-a.ensures.0 c.put_field-a.auto.into c.ranges.number.fits c.requires c.put_field-b.ensures.1 c.put_field-b.auto.into)

pub put_field-d-requires : goal.put_field-d-requires
put_field-d-requires c =
    let two = second c.args.number (buffer c.args.into.now c.args.at) c.put_field-b.new.into c.from.ensures c.put_field-a.ensures.0 c.put_field-a.auto.into c.ranges.number.fits c.requires c.put_field-b.ensures.1 c.put_field-b.auto.into in
    let three =
    level_room 27 (buffer c.put_field-b.new.into c.put_field-b.result) irq_word c.args.irq (level_is c.args.irq c.from-2.ensures) c.put_field-c.ensures.0 (omega arith) two in
    omega (arith, three)

pub put_one-requires : goal.put_one-requires
put_one-requires c =
    let two = second c.args.number (buffer c.args.into.now c.args.at) c.put_field-b.new.into c.from.ensures c.put_field-a.ensures.0 c.put_field-a.auto.into c.ranges.number.fits c.requires c.put_field-b.ensures.1 c.put_field-b.auto.into in
    let three =
    level_room 27 (buffer c.put_field-b.new.into c.put_field-b.result) irq_word c.args.irq (level_is c.args.irq c.from-2.ensures) c.put_field-c.ensures.0 (omega arith) two in
    let four =
    level_room 21 (buffer c.put_field-c.new.into c.put_field-c.result) wdo_word c.args.wdo (level_is c.args.wdo c.from-3.ensures) c.put_field-d.ensures.0 (omega arith) three in
    omega (arith, four)

pub returns : goal.returns
unfolding fields_text
returns c =
    let a = c.args in
    let o = buffer a.into.now a.at in
    put_then o _ _ (put_then o _ _ (put_then o _ _ (put_then o _ _ c.put_field-a.ensures.0 c.put_field-b.ensures.0)
    c.put_field-c.ensures.0) c.put_field-d.ensures.0) c.put_one.ensures
    ∙ line_is o a.number a.out a.irq a.wdo c.from.ensures c.from-2.ensures c.from-3.ensures
