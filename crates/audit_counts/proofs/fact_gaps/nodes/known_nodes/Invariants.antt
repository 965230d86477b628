use Rattle.std.proofs.Common.{◌≡◌, ◌++◌}
use Rattle.std.specs.List.{filter_map}
use Rattle.fact_store.specs.View.{cells_of}
use Rattle.fact_store.specs.Iter.{cells_left}
use Rattle.audit_counts.specs.Gaps.{is_known_node}
use Rattle.audit_counts.specs.NamedPorts.{kept, node_key}
use Rattle.audit_counts.proofs.fact_gaps.nodes.known_nodes.Given as goal

-- what was found, and what the rest has, are all that there is
abbrev pub invariant-loop-sighting : goal.invariant-loop-sighting
invariant-loop-sighting l =
    l.known.items ++ filter_map (kept (is_known_node (cells_of l.store)) node_key) (cells_left l.sighting-iterator) ≡ filter_map (kept (is_known_node (cells_of l.store)) node_key) (cells_of l.store)
