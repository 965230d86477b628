use Rattle.cli_task.proofs.WellFormed.{well_formed_asks}
use Rattle.cli_task.proofs.laws.well_formed_words_ask.Goals as goal

pub returns : goal.returns
returns c = record { law = well_formed_asks }
