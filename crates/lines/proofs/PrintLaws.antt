-- Laws of the printer: a word and what it shows, put one after the other, and the place after them; how long an answer's line is.
-- Assumes nothing.
use mathlib.Core.Path.{◌≡◌, sym, ap, ◌∙◌}
use mathlib.Core.Bool.{Bool}
use mathlib.Core.List.{List, ◌++◌}
use Prim.Native.Nat.{ℕ, suc, ◌+◌, ◌^◌, ◌<◌, ◌≤◌}
use native.Mathlib.Omega.{arith}
use lib.ListN.{length, length-append}
use Rattle.std.specs.Prelude.{Option}
use Rattle.base.specs.Words.{flag}
use Rattle.base.proofs.Tests.{flag_below}
use Rattle.text.specs.Buffer.{Buffer, append}
use Rattle.text.specs.Decimal.{decimal_text}
use Rattle.lines.specs.Print.{out_text, level_out, fields_text, answer_chars, answer_line, out_room, answer_room}
use Rattle.text.proofs.BufferLaws.{put_place, put_then}
use Rattle.text.proofs.DecimalLaws.{decimal_places}

-- what is shown is out, by its case
pub field_put :
    (o : Buffer) {p q : Buffer} (word : List ℕ) (out x : Option ℕ) → out ≡ x → length (out_text x) ≤ out_room → p ≡ append o word → q ≡ append p (out_text x)
    → (q ≡ append o (word ++ out_text out)) × (q.at ≤ o.at + length word + out_room)
field_put o word out x e h d f = (
  put_then o word (out_text x) d f ∙ ap (λ (y : Option ℕ). append o (word ++ out_text y)) (sym e),
  omega (arith, put_place o (word ++ out_text x) (put_then o word (out_text x) d f), length-append word (out_text x)),
)

-- the room after a number of so many places, and after a level
pub number_room :
    (k n m : ℕ) (o : Buffer) {p : Buffer} (word : List ℕ) → n < 10 ^ suc k → p ≡ append o (word ++ decimal_text n) → length p.bytes ≡ length
    o.bytes
    → o.at + (length word + suc k + m) ≤ length o.bytes → p.at + m ≤ length p.bytes
number_room k n m o word h e l r =
    omega (arith, put_place o (word ++ decimal_text n) e, length-append word (decimal_text n), decimal_places k n h)

pub level_room :
    (m : ℕ) (o : Buffer) {p : Buffer} (word : List ℕ) (high : Bool) {out : Option ℕ} → out ≡ level_out high → p ≡ append o (word ++ out_text out)
    → length p.bytes ≡ length o.bytes → o.at + (length word + 1 + m) ≤ length o.bytes → p.at + m ≤ length p.bytes
level_room m o word high e f l r =
    let b : flag high < 10 = omega (arith, flag_below high) in
    number_room 0 (flag high) m o word b (f ∙ ap (λ (y : Option ℕ). append o (word ++ out_text y)) e) l r

-- how long five texts are together, and a level
five_length : (a b c d e : List ℕ) → length (a ++ b ++ c ++ d ++ e) ≡ length a + length b + length c + length d + length e
five_length a b c d e =
    omega (arith, length-append (a ++ b ++ c ++ d) e, length-append (a ++ b ++ c) d, length-append (a ++ b) c, length-append a b)

level_most : (high : Bool) → length (out_text (level_out high)) ≤ 1
level_most high = decimal_places 0 (flag high) (omega (arith, flag_below high))

-- an answer's line has room, where its number has two digits at most and what it shows no more bytes than a number of 64 bits
pub answer_most :
    (number : ℕ) (out : Option ℕ) (irq wdo : Bool) → number < 100 → length (out_text out) ≤ out_room → length (answer_line number out irq wdo) ≤ answer_room
unfolding answer_line answer_chars fields_text
answer_most number out irq wdo n o = rw (answer_line, five_length) (omega (arith, decimal_places 1 number n, level_most irq, level_most wdo))
