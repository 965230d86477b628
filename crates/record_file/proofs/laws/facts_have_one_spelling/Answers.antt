use Rattle.record_file.proofs.StoreFiles.{one_spelling}
use Rattle.record_file.proofs.laws.facts_have_one_spelling.Goals as goal

pub returns : goal.returns
returns c = one_spelling
