-- The keys that order vertices: distance class first, then distance.
use Rattle.std.specs.Prelude.{ℕ, Bool, not, ◌&&◌, ◌||◌, ◌==◌, nat_lt, List, slice_index_or}
use Rattle.spread_labels.specs.declared.key_order.VertexKey.{VertexKey}
use Rattle.spread_labels.specs.Orders.{AreKeys}

-- whether key `k` is earlier than key `l`: its distance class is less, or equal and its distance is less
abbrev pub key_less : VertexKey → VertexKey → Bool
key_less k l = nat_lt k.distance_class l.distance_class
    || ((k.distance_class == l.distance_class) && nat_lt k.distance l.distance)

-- the key of vertex `a`; distance class 0 and distance 0 past the end
abbrev pub key_at : List VertexKey → ℕ → VertexKey
key_at keys a = slice_index_or keys a (record { distance_class = 0; distance = 0 })

-- whether vertex `a` comes before vertex `b`: its key is earlier, or the keys are equal and `a` is less
abbrev pub before_by : List VertexKey → ℕ → ℕ → Bool
before_by keys a b =
    key_less (key_at keys a) (key_at keys b) || (not (key_less (key_at keys b) (key_at keys a)) && nat_lt a b)

-- `before_by` of any keys is a strict total order of vertices (`AreKeys`)
abbrev pub KeysTellApart : Type 0
KeysTellApart = (keys : List VertexKey) → AreKeys (before_by keys)
