use Rattle.sm_cli.proofs.FileLaws.{split_file_stands}
use Rattle.sm_cli.proofs.laws.split_file_stands.Goals as goal

pub returns : goal.returns
returns c = split_file_stands
