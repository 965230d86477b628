use Rattle.std.proofs.Common.{◌≡◌, ◌++◌}
use Rattle.std.specs.Prelude.{not}
use Rattle.std.specs.List.{filter_map}
use Rattle.fact_store.specs.View.{cells_of}
use Rattle.fact_store.specs.Iter.{cells_left}
use Rattle.audit_counts.specs.Gaps.{is_known_node}
use Rattle.audit_counts.specs.NamedPorts.{far_node, kept}
use Rattle.audit_counts.proofs.fact_gaps.nodes.add_far_nodes.Given as goal

-- what was added, and what the rest has, are all that there is
abbrev pub invariant-loop-sighting : goal.invariant-loop-sighting
invariant-loop-sighting l =
    l.guids.items ++ filter_map (kept (λ g. not (is_known_node (cells_of l.store) g)) far_node) (cells_left l.sighting-iterator)
    ≡ l.initial.guids.items ++ filter_map (kept (λ g. not (is_known_node (cells_of l.store) g)) far_node) (cells_of l.store)
