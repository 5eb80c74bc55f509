-- `numbers::chip::put_arrays`: one piece after the other.
-- Assumes nothing.
use Rattle.text.specs.Buffer.{buffer}
use Rattle.text.proofs.BufferLaws.{put_then, room_then, room_before}
use Rattle.numbers.proofs.chip.put_arrays.Goals as goal

pub put_bytes-next-requires : goal.put_bytes-next-requires
put_bytes-next-requires c =
    let a = c.args in
    room_before a.at a.regs a.sram c.requires

pub put_bytes-requires : goal.put_bytes-requires
put_bytes-requires c =
    let a = c.args in
    let o = buffer a.into.now a.at in
    room_then o a.regs a.sram c.put_bytes-next.ensures
    c.requires

pub returns : goal.returns
returns c =
    let a = c.args in
    let o = buffer a.into.now a.at in
    put_then o a.regs a.sram c.put_bytes-next.ensures
    c.put_bytes.ensures
