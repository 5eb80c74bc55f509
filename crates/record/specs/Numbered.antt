-- G11. A stage's three numbers in one, and back.
-- Assumes nothing.
use Rattle.record.specs.declared.Stage.{Stage}
use Rattle.record.specs.declared.numbered.Numbered.{Numbered}
use Rattle.record.specs.Numbers.{stage_kind, stage_case, stage_value, stage_of}

abbrev pub stage_numbered : Stage → Numbered
stage_numbered s = record { kind = stage_kind s; which = stage_case s; value = stage_value s }

abbrev pub stage_from : Numbered → Stage
stage_from n = stage_of n.kind n.which n.value
