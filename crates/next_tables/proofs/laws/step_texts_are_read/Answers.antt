use Rattle.next_tables.proofs.NextText.{step_texts_are_read}
use Rattle.next_tables.proofs.laws.step_texts_are_read.Goals as goal

pub returns : goal.returns
returns c = record { law = step_texts_are_read }
