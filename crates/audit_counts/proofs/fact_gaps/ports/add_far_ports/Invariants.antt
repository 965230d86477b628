use Rattle.std.proofs.Common.{◌≡◌, ◌++◌}
use Rattle.std.specs.Prelude.{not}
use Rattle.std.specs.List.{filter_map}
use Rattle.fact_store.specs.View.{cells_of}
use Rattle.fact_store.specs.Iter.{cells_left}
use Rattle.audit_counts.specs.Gaps.{is_known_port}
use Rattle.audit_counts.specs.NamedPorts.{far_port, kept}
use Rattle.audit_counts.proofs.fact_gaps.ports.add_far_ports.Given as goal

-- what was added, and what the rest has, are all that there is
abbrev pub invariant-loop-sighting : goal.invariant-loop-sighting
invariant-loop-sighting l =
    l.ports.items ++ filter_map (kept (λ e. not (is_known_port (cells_of l.wires) e)) far_port) (cells_left l.sighting-iterator)
    ≡ l.initial.ports.items ++ filter_map (kept (λ e. not (is_known_port (cells_of l.wires) e)) far_port) (cells_of l.wires)
