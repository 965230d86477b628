-- What is found is one of those given.
use Rattle.std.proofs.Common.{◌∙◌, sym}
use Rattle.smp_bytes.specs.Ports.{node_port_cmp}
use Rattle.smp_bytes.proofs.NodePorts.{node_port_exact}
use Rattle.audit_counts.proofs.Found.{found_there}
use Rattle.audit_counts.proofs.fact_gaps.ports.is_known_by.Goals as goal

pub returns-then-is_ok : goal.returns-then-is_ok
returns-then-is_ok c =
    let search = c.binary_search in
    c.if-is_ok.true
    ∙ sym
    (c.requires (c.args.node, c.args.port)
    (found_there node_port_cmp node_port_exact (c.args.node, c.args.port) c.args.known.now search.result search.ensures.bound search.ensures.ok
    (sym c.is_ok.ensures.value ∙ c.if-is_ok.true)))
