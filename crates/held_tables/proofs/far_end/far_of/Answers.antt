-- The switches rise.
use Rattle.std.proofs.Common.{subst, sym}
use Rattle.std.specs.List.Sorted.{IsStrictlyIncreasing}
use Rattle.subnet_view.proofs.GraphSwitches.{switches_increase}
use Rattle.held_tables.proofs.far_end.far_of.Goals as goal

pub index-requires : goal.index-requires
index-requires c = subst IsStrictlyIncreasing (sym c.switches.ensures) (switches_increase c.args.subnet.now)
