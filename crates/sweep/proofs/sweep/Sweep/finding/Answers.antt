use Rattle.std.proofs.Common.{ap, sym, ◌∙◌}
use Rattle.attr_codec.specs.NodeInfo.{node_info_in}
use Rattle.sweep.specs.Finding.{finding_of, node_found}
use Rattle.sweep.proofs.sweep.Sweep.finding.Goals as goal

pub returns-in-Node : goal.returns-in-Node
returns-in-Node c =
    c.node_found.ensures
    ∙ ap (node_found c.args.self.now c.args.request.now.path) (c.decode.ensures.value ∙ ap node_info_in c.attribute_data-data.ensures)
    ∙ ap (finding_of c.args.self.now c.args.request.now c.args.smp.now) (sym c.in-Node.is)
