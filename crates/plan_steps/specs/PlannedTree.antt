-- The multicast tree that a manager writes: that of its rule, or none.
use Rattle.std.specs.Prelude.{List, [], if◌then◌else◌}
use Rattle.subnet_view.specs.Reading.{Cells}
use Rattle.lft_blocks.specs.Planning.{Planning}
use Rattle.multicast_tree.specs.Tree.{TreePorts, tree_of}

-- the tree in the order of the planning's rule; empty if the planning writes none
abbrev pub planned_tree : Planning → Cells → List TreePorts
planned_tree planning cells = if planning.multicast then tree_of planning.rule cells else []
