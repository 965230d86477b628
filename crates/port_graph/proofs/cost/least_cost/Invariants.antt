use Rattle.std.proofs.Common.{◌≡◌, drop}
use Rattle.std.specs.Prelude.{None, slice_index_or}
use Rattle.std.specs.List.{filter_map}
use Rattle.port_graph.specs.Slopes.{least_of, lesser_of}
use Rattle.port_graph.proofs.cost.least_cost.Given as goal

-- the least so far, and the least of the rest
abbrev pub invariant-loop-edge : goal.invariant-loop-edge
invariant-loop-edge l = lesser_of l.least (least_of (filter_map (λ e. slice_index_or l.costs e.to None) (drop l.edge-index l.edges)))
    ≡ least_of (filter_map (λ e. slice_index_or l.costs e.to None) l.edges)
