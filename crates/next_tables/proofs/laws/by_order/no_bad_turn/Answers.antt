use Rattle.next_tables.proofs.by_order.Turns.{no_bad_turn}
use Rattle.next_tables.proofs.laws.by_order.no_bad_turn.Goals as goal

pub returns : goal.returns
returns c = record { law = no_bad_turn }
