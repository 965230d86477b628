use Rattle.next_tables.proofs.NextText.{next_texts_are_read}
use Rattle.next_tables.proofs.laws.next_texts_are_read.Goals as goal

pub returns : goal.returns
returns c = record { law = next_texts_are_read }
