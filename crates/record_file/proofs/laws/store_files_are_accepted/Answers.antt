use Rattle.record_file.proofs.StoreFiles.{store_files_are_accepted}
use Rattle.record_file.proofs.laws.store_files_are_accepted.Goals as goal

pub returns : goal.returns
returns c = store_files_are_accepted
