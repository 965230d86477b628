-- By induction on the list of stores.
use Rattle.fact_store.proofs.Groupings.{merging_in_turn}
use Rattle.fact_store.proofs.laws.merging_in_turn.Goals as goal

pub returns : goal.returns
returns c = merging_in_turn
