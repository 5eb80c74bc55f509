-- `saved::scan::settle`: by the test.
-- Assumes nothing.
use lib.ListN.{drop}
use Rattle.saved.proofs.ScanLaws.{settle_stops, settle_goes}
use Rattle.saved.proofs.scan.settle.Goals as goal

pub returns-then-not-good : goal.returns-then-not-good
returns-then-not-good c =
    let a = c.args in
    λ text. settle_stops (drop a.p.at text) a.p.lines a.good c.if-not-good.true

pub returns : goal.returns
returns c =
    let a = c.args in
    λ text. settle_goes (drop a.p.at text) a.p.lines a.good c.if-not-good.false
