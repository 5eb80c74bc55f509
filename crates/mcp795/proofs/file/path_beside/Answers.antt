-- `file::path_beside`: a name as long as an argument can be, and five bytes, have room.
-- Assumes nothing.
use Rattle.std.proofs.Common.{◌≤◌, length, arith}
use Rattle.std.proofs.Math.ListN.{length-take}
use Rattle.text.proofs.BufferLaws.{put_place}
use Rattle.mcp795.proofs.file.path_beside.Goals as goal

pub put-n-requires : goal.put-n-requires
put-n-requires c = rw c.first.ensures (simp length-take (omega arith))

pub put-m-requires : goal.put-m-requires
put-m-requires c =
    let short : length c.first.result.now ≤ 4096 = rw c.first.ensures (simp length-take (omega arith)) in
    omega (arith, put_place _ _ c.put-n.ensures)

pub put_one-length-requires : goal.put_one-length-requires
put_one-length-requires c =
    let short : length c.first.result.now ≤ 4096 = rw c.first.ensures (simp length-take (omega arith)) in
    omega (arith, put_place _ _ c.put-m.ensures, put_place _ _ c.put-n.ensures)
