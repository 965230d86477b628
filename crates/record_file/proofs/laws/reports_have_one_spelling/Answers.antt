use Rattle.record_file.proofs.Spellings.{reports_have_one_spelling}
use Rattle.record_file.proofs.laws.reports_have_one_spelling.Goals as goal

pub returns : goal.returns
returns c = reports_have_one_spelling
