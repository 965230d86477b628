use Rattle.std.proofs.Common.{◌≡◌, ◌≤◌, length}
use Rattle.std.specs.Prelude.{filter}
use Rattle.std.specs.List.{range_with_len}
use Rattle.subnet_view.specs.View.{cells_of}
use Rattle.spread_routes.specs.Adapters.{has_adapter_at}
use Rattle.spread_routes.proofs.adapters.adapters_at.Given as goal

-- the ports so far
abbrev pub invariant-loop-before : goal.invariant-loop-before
invariant-loop-before l =
    record {
      count : l.count ≡ length (filter (has_adapter_at (cells_of l.wires) l.switch) (range_with_len 1 l.before));
      few : l.count ≤ l.before;
    }
