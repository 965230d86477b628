use Rattle.std.proofs.Common.{sym, subst}
use Rattle.std.specs.List.Sorted.{IsStrictlyIncreasing}
use Rattle.subnet_view.proofs.GraphSwitches.{switches_increase}
use Rattle.multicast_tree.proofs.tree.tree_by.Goals as goal

pub tree_ports-requires-clause-rising : goal.tree_ports-requires-clause-rising
tree_ports-requires-clause-rising c = subst IsStrictlyIncreasing (sym c.requires.usable) (switches_increase c.args.wires.now)
