-- The whole case as text, what comes before a part, the two levels at work and frames that are broken off: the bytes of a tape, and the bytes of its
-- answers. It is one closed statement about `tape_answers`, so about what `feed` and `finish` put into a buffer; not about any other tape.
-- Assumes nothing.
use Rattle.std.specs.Prelude.{ℕ, ◌≡◌, List, [], ◌∷◌, ◌++◌}
use Prim.Native.String.{String}
use Rattle.text.specs.Bytes.{bytes_of, newline}
use Rattle.tape.specs.Tape.{tape_answers}

-- T10, T11. The sixteen lines, and beside each its answer: the 11th shows the wait's 164 ticks, the 15th the byte that was stored.
abbrev pub whole_case : List (String × String)
whole_case =
    ("op=part arg=2", "no=0 out=z irq=1 wdo=1")
    ∷ ("op=select arg=0", "no=0 out=z irq=1 wdo=1")
    ∷ ("op=byte arg=6", "no=0 out=z irq=1 wdo=1")
    ∷ ("op=end arg=0", "no=0 out=z irq=1 wdo=1")
    ∷ ("op=select arg=0", "no=0 out=z irq=1 wdo=1")
    ∷ ("op=byte arg=2", "no=0 out=z irq=1 wdo=1")
    ∷ ("op=byte arg=7", "no=0 out=z irq=1 wdo=1")
    ∷ ("op=byte arg=18", "no=0 out=z irq=1 wdo=1")
    ∷ ("op=byte arg=52", "no=0 out=z irq=1 wdo=1")
    ∷ ("op=end arg=0", "no=0 out=z irq=1 wdo=1")
    ∷ ("op=wait arg=200", "no=0 out=164 irq=1 wdo=1")
    ∷ ("op=select arg=0", "no=0 out=z irq=1 wdo=1")
    ∷ ("op=byte arg=3", "no=0 out=z irq=1 wdo=1")
    ∷ ("op=byte arg=0", "no=0 out=z irq=1 wdo=1")
    ∷ ("op=byte arg=0", "no=0 out=52 irq=1 wdo=1")
    ∷ ("op=end arg=0", "no=0 out=z irq=1 wdo=1")
    ∷ []

-- T6, T7, T9, T16. Before there is a part both levels show 1, whatever is asked, and a line that is bad by itself is told so; a part that is none leaves it so; a
-- second part is refused.
abbrev pub part_case : List (String × String)
part_case =
    ("op=select arg=0", "no=74 out=0 irq=1 wdo=1")
    ∷ ("op=part arg=5", "no=3 out=z irq=1 wdo=1")
    ∷ ("op=up", "no=72 out=6 irq=1 wdo=1")
    ∷ ("op=up arg=00", "no=75 out=11 irq=1 wdo=1")
    ∷ ("op=down arg=00", "no=73 out=4 irq=1 wdo=1")
    ∷ ("op=part arg=4", "no=0 out=z irq=1 wdo=1")
    ∷ ("op=part arg=4", "no=74 out=0 irq=1 wdo=1")
    ∷ ("op=up arg=0", "no=5 out=z irq=1 wdo=1")
    ∷ []

-- T8. The levels shown are those after the act, each its own. WRITE of 0Fh = 08h sets alarm 0's flag; of 08h = 10h makes the alarm active, and IRQ is low;
-- of 0Fh = 88h puts it on WDO, and IRQ is high again; a refused line shows the levels too; of 0Fh = 80h clears the flag, and both are high.
abbrev pub level_case : List (String × String)
level_case =
    ("op=part arg=1", "no=0 out=z irq=1 wdo=1")
    ∷ ("op=select arg=0", "no=0 out=z irq=1 wdo=1")
    ∷ ("op=byte arg=18", "no=0 out=z irq=1 wdo=1")
    ∷ ("op=byte arg=15", "no=0 out=z irq=1 wdo=1")
    ∷ ("op=byte arg=8", "no=0 out=z irq=1 wdo=1")
    ∷ ("op=end arg=0", "no=0 out=z irq=1 wdo=1")
    ∷ ("op=select arg=0", "no=0 out=z irq=1 wdo=1")
    ∷ ("op=byte arg=18", "no=0 out=z irq=1 wdo=1")
    ∷ ("op=byte arg=8", "no=0 out=z irq=1 wdo=1")
    ∷ ("op=byte arg=16", "no=0 out=z irq=0 wdo=1")
    ∷ ("op=end arg=0", "no=0 out=z irq=0 wdo=1")
    ∷ ("op=select arg=0", "no=0 out=z irq=0 wdo=1")
    ∷ ("op=byte arg=18", "no=0 out=z irq=0 wdo=1")
    ∷ ("op=byte arg=15", "no=0 out=z irq=0 wdo=1")
    ∷ ("op=byte arg=136", "no=0 out=z irq=1 wdo=0")
    ∷ ("op=end arg=0", "no=0 out=z irq=1 wdo=0")
    ∷ ("op=part arg=3", "no=74 out=0 irq=1 wdo=0")
    ∷ ("op=select arg=0", "no=0 out=z irq=1 wdo=0")
    ∷ ("op=byte arg=18", "no=0 out=z irq=1 wdo=0")
    ∷ ("op=byte arg=15", "no=0 out=z irq=1 wdo=0")
    ∷ ("op=byte arg=128", "no=0 out=z irq=1 wdo=1")
    ∷ ("op=end arg=0", "no=0 out=z irq=1 wdo=1")
    ∷ []

-- T8, A38. WRITE of A5h, 1010 0101, at 20h; then frames that are broken off: READ of it after five bits, READ at 60h, where SO drives 0, and a READ
-- without its address, where SO is off. An end with eight leftover bits is refused, one with none shows z, and one without a frame is refused.
abbrev pub broken_case : List (String × String)
broken_case =
    ("op=part arg=2", "no=0 out=z irq=1 wdo=1")
    ∷ ("op=select arg=0", "no=0 out=z irq=1 wdo=1")
    ∷ ("op=byte arg=18", "no=0 out=z irq=1 wdo=1")
    ∷ ("op=byte arg=32", "no=0 out=z irq=1 wdo=1")
    ∷ ("op=byte arg=165", "no=0 out=z irq=1 wdo=1")
    ∷ ("op=end arg=0", "no=0 out=z irq=1 wdo=1")
    ∷ ("op=select arg=0", "no=0 out=z irq=1 wdo=1")
    ∷ ("op=byte arg=19", "no=0 out=z irq=1 wdo=1")
    ∷ ("op=byte arg=32", "no=0 out=z irq=1 wdo=1")
    ∷ ("op=end arg=5", "no=0 out=20 irq=1 wdo=1")
    ∷ ("op=select arg=0", "no=0 out=z irq=1 wdo=1")
    ∷ ("op=byte arg=19", "no=0 out=z irq=1 wdo=1")
    ∷ ("op=byte arg=96", "no=0 out=z irq=1 wdo=1")
    ∷ ("op=end arg=7", "no=0 out=0 irq=1 wdo=1")
    ∷ ("op=select arg=0", "no=0 out=z irq=1 wdo=1")
    ∷ ("op=byte arg=19", "no=0 out=z irq=1 wdo=1")
    ∷ ("op=end arg=5", "no=0 out=z irq=1 wdo=1")
    ∷ ("op=select arg=0", "no=0 out=z irq=1 wdo=1")
    ∷ ("op=byte arg=19", "no=0 out=z irq=1 wdo=1")
    ∷ ("op=byte arg=32", "no=0 out=z irq=1 wdo=1")
    ∷ ("op=end arg=8", "no=3 out=z irq=1 wdo=1")
    ∷ ("op=end arg=0", "no=0 out=z irq=1 wdo=1")
    ∷ ("op=end arg=5", "no=2 out=z irq=1 wdo=1")
    ∷ []

-- T6. the third part; the tapes above have the others
abbrev pub third_part : List (String × String)
third_part = ("op=part arg=3", "no=0 out=z irq=1 wdo=1") ∷ []

-- the tape of such rows, and the answers, a newline after each line
abbrev pub tape_of : List (String × String) → List ℕ
tape_of [] = []
tape_of (row ∷ rows) = bytes_of row.0 ++ (newline ∷ tape_of rows)

abbrev pub answers_of : List (String × String) → List ℕ
answers_of [] = []
answers_of (row ∷ rows) = bytes_of row.1 ++ (newline ∷ answers_of rows)

-- a tape's answers are those beside its lines
abbrev pub AnsweredAs : List (String × String) → Type 0
AnsweredAs rows = tape_answers (tape_of rows) ≡ answers_of rows

unfoldable pub WholeCase : Type 0
WholeCase = AnsweredAs whole_case × AnsweredAs part_case × AnsweredAs level_case × AnsweredAs broken_case × AnsweredAs third_part
