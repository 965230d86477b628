-- The numbers of node types (InfiniBand Architecture Specification, Volume 1: subnet management, NodeInfo: NodeType).
use Rattle.std.specs.Prelude.{ℕ, Option, [], ◌∷◌, find, ◌==◌}
use Rattle.smp_bytes.specs.declared.node_type.NodeType.{NodeType}
use Rattle.smp_bytes.specs.declared.node_type.NodeType.TheVariants.{ChannelAdapter, Switch, Router}

-- the number of a node type
abbrev pub number_of_type : NodeType → ℕ
number_of_type ChannelAdapter = 1
number_of_type Switch = 2
number_of_type Router = 3

-- the node type with the number `number`; None if no node type has this number
abbrev pub type_of_number : ℕ → Option NodeType
type_of_number number = find (λ kind. number == number_of_type kind) (ChannelAdapter ∷ Switch ∷ Router ∷ [])
