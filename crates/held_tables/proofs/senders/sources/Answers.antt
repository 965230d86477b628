-- The switches rise.
use Rattle.std.proofs.Common.{subst, sym}
use Rattle.std.specs.List.Sorted.{IsStrictlyIncreasing}
use Rattle.subnet_view.proofs.GraphSwitches.{switches_increase}
use Rattle.held_tables.proofs.senders.sources.Goals as goal

pub index-switch-requires : goal.index-switch-requires
index-switch-requires c = subst IsStrictlyIncreasing (sym c.switches.ensures) (switches_increase c.args.subnet.now)
