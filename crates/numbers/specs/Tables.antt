-- The table of the form as code has it: a row by its place, and by its name.
-- Assumes nothing.
use Rattle.std.specs.Prelude.{ℕ, get_or}
use Rattle.form.specs.Table.{Row, rows, id_row}
use Rattle.numbers.specs.declared.table.Row.{Row as Name}
use Rattle.numbers.specs.declared.table.Row.TheVariants.{Part, Reg, Sram, Divider, Startup, Watchdog, Delay, Pulse, Power, Mark, Wel, Bp, Lock, Stage, Offsets, Load, Next, Target, Left, Ee, Id, Evls, Evhs, Edges, Since, Debounce}

-- how many rows there are, and how many numbers the largest part has
abbrev pub row_count : ℕ
row_count = 26

abbrev pub number_limit : ℕ
number_limit = 400

unfoldable pub row_at : ℕ → Row
row_at i = get_or rows i id_row

-- the place of a row that code names, and the form's row there
abbrev pub row_place : Name → ℕ
row_place Part = 0
row_place Reg = 1
row_place Sram = 2
row_place Divider = 3
row_place Startup = 4
row_place Watchdog = 5
row_place Delay = 6
row_place Pulse = 7
row_place Power = 8
row_place Mark = 9
row_place Wel = 10
row_place Bp = 11
row_place Lock = 12
row_place Stage = 13
row_place Offsets = 14
row_place Load = 15
row_place Next = 16
row_place Target = 17
row_place Left = 18
row_place Ee = 19
row_place Id = 20
row_place Evls = 21
row_place Evhs = 22
row_place Edges = 23
row_place Since = 24
row_place Debounce = 25

abbrev pub row_of : Name → Row
row_of r = row_at (row_place r)
