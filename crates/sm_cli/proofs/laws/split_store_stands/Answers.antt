use Rattle.sm_cli.proofs.FileLaws.{split_store_stands}
use Rattle.sm_cli.proofs.laws.split_store_stands.Goals as goal

pub returns : goal.returns
returns c = split_store_stands
