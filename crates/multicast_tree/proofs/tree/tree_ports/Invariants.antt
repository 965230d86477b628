use Rattle.std.proofs.Common.{◌≡◌}
use Rattle.std.specs.Prelude.{filter}
use Rattle.std.specs.List.{range_with_len}
use Rattle.fact_store.specs.View.{cells_of}
use Rattle.multicast_tree.specs.Tree.{is_tree_port, parent_in}
use Rattle.multicast_tree.proofs.tree.tree_ports.Given as goal

-- the ports so far
abbrev pub invariant-loop-before : goal.invariant-loop-before
invariant-loop-before l = l.ports.items ≡ filter (is_tree_port (cells_of l.wires) (parent_in l.guids l.parents) l.guid) (range_with_len 1 l.before)
