-- `tape::chunk::add_to_head`: as much of the piece as has room, put behind the head.
-- Assumes nothing.
use mathlib.Core.Path.{ap, ◌∙◌}
use Prim.Native.Nat.{ℕ}
use lib.ListN.{take}
use Rattle.text.specs.Buffer.{buffer, append}
use Rattle.tape.proofs.TapeLaws.{head_put}
use Rattle.tape.proofs.chunk.add_to_head.Goals as goal

pub returns : goal.returns
returns c =
    let a = c.args in
    let t = c.first.ensures ∙ ap (λ (n : ℕ). take n a.piece.now) c.room-n.ensures in
    head_put a.line.now _ a.piece.now a.begun _ c.told-line c.requires
    (c.put.ensures ∙ ap (append (buffer a.line.now a.begun)) t)
