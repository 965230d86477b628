use Rattle.std.proofs.Common.{◌≡◌, ◌++◌}
use Rattle.std.specs.List.{filter_map}
use Rattle.fact_store.specs.View.{cells_of}
use Rattle.fact_store.specs.Iter.{cells_left}
use Rattle.audit_counts.specs.Gaps.{is_known_port}
use Rattle.audit_counts.specs.NamedPorts.{kept, link_key}
use Rattle.audit_counts.proofs.fact_gaps.ports.known_ports.Given as goal

-- what was found, and what the rest has, are all that there is
abbrev pub invariant-loop-sighting : goal.invariant-loop-sighting
invariant-loop-sighting l =
    l.known.items ++ filter_map (kept (is_known_port (cells_of l.wires)) link_key) (cells_left l.sighting-iterator) ≡ filter_map (kept (is_known_port (cells_of l.wires)) link_key) (cells_of l.wires)
