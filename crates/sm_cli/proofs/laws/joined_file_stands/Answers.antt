use Rattle.sm_cli.proofs.FileLaws.{joined_file_stands}
use Rattle.sm_cli.proofs.laws.joined_file_stands.Goals as goal

pub returns : goal.returns
returns c = joined_file_stands
