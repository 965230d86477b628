use Rattle.tables_file.proofs.ReadRanges.{texts_are_in_range}
use Rattle.tables_file.proofs.laws.texts_are_in_range.Goals as goal

pub returns : goal.returns
returns c = record { law = texts_are_in_range }
