-- Numbers of ports, and the order of ports of several nodes.
use Rattle.std.specs.Prelude.{ℕ, Bool, ◌&&◌, nat_le}
use Rattle.std.specs.declared.cmp.Ordering.{Ordering}
use Rattle.std.specs.Ordering.{nat_cmp, ordering_then}

-- whether `port` is from 1 to `count`
abbrev pub is_within : ℕ → ℕ → Bool
is_within port count = nat_le 1 port && nat_le port count

-- the order of pairs of a node and a port: by node, and then by port
abbrev pub node_port_cmp : ℕ × ℕ → ℕ × ℕ → Ordering
node_port_cmp a b = ordering_then (nat_cmp a.0 b.0) (nat_cmp a.1 b.1)
