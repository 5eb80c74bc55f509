-- What lines ask for, and answers as text, with the bytes written out: a second statement beside the contracts, so that code and definition cannot
-- go wrong together.
-- Assumes nothing.
use Prim.Native.String.{String}
use Rattle.std.specs.Prelude.{ℕ, ◌≡◌, refl, true, false, Some, None, Ok}
use Rattle.record.specs.declared.Act.TheVariants.{Select, Byte, End, Wait, Cut, Up, Set}
use Rattle.record.specs.declared.Pin.TheVariants.{Evls, Evhs}
use Rattle.text.specs.Bytes.{bytes_of, agreed, leading, found}
use Rattle.text.specs.Decimal.{value_from, text_within, decimal_text}
use Rattle.lines.specs.declared.Request.{Request}
use Rattle.lines.specs.declared.Request.TheVariants.{Part as PartLine, Act as ActLine}
use Rattle.lines.specs.Line.{name_size, digits_text, in_form, form_reach, name_of, number_column}
use Rattle.lines.specs.Request.{request_of, Bad}
use Rattle.lines.specs.Print.{out_of, fields_text, answer_chars, answer_line}

-- a line asks for this, or is bad, with a number and at a column
abbrev Asks : String → Request → Type 0
Asks line r = request_of (bytes_of line) ≡ Ok r

abbrev Faulty : String → ℕ → ℕ → Type 0
Faulty line number column = Bad (request_of (bytes_of line)) number column

pub LinesShown : Type 0
LinesShown =
    -- T4. every name
    Asks "op=part arg=2" (PartLine 2)
    × Asks "op=select arg=0" (ActLine Select 0)
    × Asks "op=byte arg=255" (ActLine Byte 255)
    × Asks "op=end arg=7" (ActLine End 7)
    × Asks "op=wait arg=200" (ActLine Wait 200)
    × Asks "op=cut arg=3" (ActLine Cut 3)
    × Asks "op=up arg=0" (ActLine Up 0)
    × Asks "op=evls arg=1" (ActLine (Set Evls) 1)
    × Asks "op=evhs arg=2" (ActLine (Set Evhs) 2)
    × Faulty "op=ups arg=0" 73 4
    -- T2, T15. eight digits and nine, a 0 alone and in front, and in front of too many
    × Asks "op=wait arg=16777217" (ActLine Wait 16777217)
    × Faulty "op=wait arg=123456789" 75 21
    × Asks "op=byte arg=0" (ActLine Byte 0)
    × Faulty "op=byte arg=07" 75 13
    × Faulty "op=up arg=0123456789" 75 11
    -- T1, T13. what is not of the form: nothing, the beginnings of a line, no name, two blanks, more after the number, a capital
    × Faulty "" 72 1
    × Faulty "o" 72 2
    × Faulty "op=" 72 4
    × Faulty "op=u" 72 5
    × Faulty "op=up" 72 6
    × Faulty "op=up arg" 72 10
    × Faulty "op=up arg=" 72 11
    × Faulty "op= arg=0" 72 4
    × Faulty "op=up  arg=0" 72 7
    × Faulty "op=up arg=0 " 72 12
    × Faulty "op=Up arg=0" 72 4
    × Faulty "po=up arg=0" 72 1
    -- T16. the form before the name, the name before the digits
    × Faulty "op=foo arg" 72 11
    × Faulty "op=foo arg=007" 73 4
    -- T3, T12. 64 bytes and 65, of the form or not
    × Faulty "op=abcdefghijklmnopqrstuvwxyzabcdefghijklmnopqrstuvwxyzabcd arg=" 72 65
    × Faulty "op=abcdefghijklmnopqrstuvwxyzabcdefghijklmnopqrstuvwxyzabc arg=1" 73 4
    × Faulty "op=abcdefghijklmnopqrstuvwxyzabcdefghijklmnopqrstuvwxyzabcd arg=1" 71 65
    × Faulty "#                                                                " 71 65
    -- T8. an answer's text: a number, none, and the two levels
    × (answer_line 0 (Some 164) true false ≡ bytes_of "no=0 out=164 irq=1 wdo=0\n")
    × (answer_line 3 None false true ≡ bytes_of "no=3 out=z irq=0 wdo=1\n")
    × (answer_line 72 (Some 6) true true ≡ bytes_of "no=72 out=6 irq=1 wdo=1\n")
    -- T8, A6, A38. what it shows: a byte's reply, none where SO is off, a wait's and a cut's count, an end's bits, none where it is refused
    × (out_of 0 Byte (Some 0) 0 ≡ Some 0)
    × (out_of 0 Byte None 0 ≡ None)
    × (out_of 0 Wait None 164 ≡ Some 164)
    × (out_of 0 Cut None 0 ≡ Some 0)
    × (out_of 0 End None 0 ≡ None)
    × (out_of 0 End (Some 0) 0 ≡ Some 0)
    × (out_of 0 End (Some 82) 0 ≡ Some 82)
    × (out_of 3 Wait None 0 ≡ None)

pub lines_shown : LinesShown
unfolding LinesShown request_of name_size digits_text in_form form_reach name_of number_column found agreed leading value_from answer_line answer_chars fields_text decimal_text text_within
lines_shown = (refl, refl, refl, refl, refl, refl, refl, refl, refl, (refl, refl), refl, (refl, refl), refl, (refl, refl), (refl, refl), (refl, refl), (refl, refl), (refl, refl), (refl, refl), (refl, refl), (refl, refl), (refl, refl), (refl, refl), (refl, refl), (refl, refl), (refl, refl), (refl, refl), (refl, refl), (refl, refl), (refl, refl), (refl, refl), (refl, refl), (refl, refl), refl, refl, refl, refl, refl, refl, refl, refl, refl, refl, refl)
