-- `numbers::chip::put_memories`: one piece after the other.
-- Assumes nothing.
use Rattle.text.specs.Buffer.{buffer}
use Rattle.text.proofs.BufferLaws.{put_then, room_then, room_before}
use Rattle.numbers.proofs.chip.put_memories.Goals as goal

pub put_bytes-next-requires : goal.put_bytes-next-requires
put_bytes-next-requires c =
    let a = c.args in
    room_before a.at a.eeprom.now a.id.now c.requires

pub put_bytes-requires : goal.put_bytes-requires
put_bytes-requires c =
    let a = c.args in
    let o = buffer a.into.now a.at in
    room_then o a.eeprom.now a.id.now c.put_bytes-next.ensures
    c.requires

pub returns : goal.returns
returns c =
    let a = c.args in
    let o = buffer a.into.now a.at in
    put_then o a.eeprom.now a.id.now c.put_bytes-next.ensures
    c.put_bytes.ensures
