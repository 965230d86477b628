use Rattle.table_laws.proofs.step_ends.Texts.{ways_meet_at_most_all}
use Rattle.table_laws.proofs.laws.step_ends.ways_meet_at_most_all.Goals as goal

pub returns : goal.returns
returns c = record { law = ways_meet_at_most_all }
