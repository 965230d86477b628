use Rattle.std.proofs.Common.{ap, ◌∙◌}
use Rattle.record_file.specs.CellRecord.{cell_of}
use Rattle.record_file.proofs.Cells.{cell_of-is, cell_of-record}
use Rattle.record_file.proofs.laws.records_are_spellings.Goals as goal

pub returns : goal.returns
returns c bytes e = (cell_of-is bytes e, λ h. ap cell_of h.1 ∙ cell_of-record e h.0)
