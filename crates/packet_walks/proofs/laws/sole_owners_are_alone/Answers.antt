use Rattle.held_tables.proofs.Once.{sole_owners_are_alone}
use Rattle.packet_walks.proofs.laws.sole_owners_are_alone.Goals as goal

pub returns : goal.returns
returns c = record { law = sole_owners_are_alone }
