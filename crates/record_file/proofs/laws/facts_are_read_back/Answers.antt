use Rattle.record_file.proofs.StoreFiles.{read_back}
use Rattle.record_file.proofs.laws.facts_are_read_back.Goals as goal

pub returns : goal.returns
returns c = read_back
