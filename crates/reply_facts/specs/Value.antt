-- When two values, or two cells, are equal.
use Rattle.std.specs.Prelude.{Bool, true, false, not, ◌==◌, ◌&&◌}
use Rattle.smp_bytes.specs.declared.node_type.NodeType.{NodeType}
use Rattle.smp_bytes.specs.declared.node_type.NodeType.TheVariants.{ChannelAdapter, Switch, Router}
use Rattle.fact_join.specs.declared.cell.Cell.{Cell}
use Rattle.fact_join.specs.declared.cell.Cell.TheVariants.{Known, Disputed}
use Rattle.reply_facts.specs.declared.value.Value.{Value}
use Rattle.reply_facts.specs.declared.value.Value.TheVariants.{Kind, Guid, Peer, Up, Lid, Count}

-- whether two node types are equal
abbrev pub is_same_type : NodeType → NodeType → Bool
is_same_type ChannelAdapter ChannelAdapter = true
is_same_type Switch Switch = true
is_same_type Router Router = true
is_same_type _ _ = false

-- whether two flags are both set or both clear
abbrev pub is_same_flag : Bool → Bool → Bool
is_same_flag true b = b
is_same_flag false b = not b

-- whether two values are of the same kind and have equal parts
abbrev pub is_same_value : Value → Value → Bool
is_same_value (Kind a m) (Kind b n) = is_same_type a b && m == n
is_same_value (Guid a) (Guid b) = a == b
is_same_value (Peer a m) (Peer b n) = a == b && m == n
is_same_value (Up a) (Up b) = is_same_flag a b
is_same_value (Lid a) (Lid b) = a == b
is_same_value (Count a) (Count b) = a == b
is_same_value _ _ = false

-- whether two cells are equal: both known in the same generation with equal values, or both disputed in the same
-- generation
abbrev pub is_same_cell : Cell Value → Cell Value → Bool
is_same_cell (Known g a) (Known h b) = g == h && is_same_value a b
is_same_cell (Known g a) (Disputed h) = false
is_same_cell (Disputed g) (Known h b) = false
is_same_cell (Disputed g) (Disputed h) = g == h
