use Rattle.record_file.proofs.StoreFiles.{absorbing_reads_back}
use Rattle.record_file.proofs.laws.absorbing_reads_back.Goals as goal

pub returns : goal.returns
returns g c = absorbing_reads_back g.S.Source.state
