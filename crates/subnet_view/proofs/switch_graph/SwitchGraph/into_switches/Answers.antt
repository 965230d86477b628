-- The graph has the GUIDs.
use Rattle.std.proofs.Common.{sym}
use Rattle.subnet_view.proofs.SwitchGraphs.{guids_are}
use Rattle.subnet_view.proofs.switch_graph.SwitchGraph.into_switches.Goals as goal

pub returns : goal.returns
returns c = sym (guids_are c.self.inside.guids.items c.self.inside.edges c.self.invariant c.args.self c.self.view_is)
