-- Sorted, and then each once.
use Rattle.std.proofs.Common.{◌∙◌}
use Rattle.std.proofs.lemmas.List.Filters.{dedup_is}
use Rattle.smp_bytes.specs.Ports.{node_port_cmp}
use Rattle.smp_bytes.proofs.NodePorts.{node_port_exact, node_port_total}
use Rattle.audit_counts.proofs.Rising.{sorted_once}
use Rattle.audit_counts.proofs.Ties.{port_equiv, port_same, port_ties}
use Rattle.audit_counts.proofs.fact_gaps.in_order.order_ports.Goals as goal

pub returns : goal.returns
returns c =
    dedup_is _ _ _ c.dedup.ensures.filtered
    ∙ sorted_once node_port_cmp node_port_total node_port_exact _ port_equiv port_same port_ties _ _
    c.sort_unstable.ensures.permutation c.sort_unstable.ensures.sorted
