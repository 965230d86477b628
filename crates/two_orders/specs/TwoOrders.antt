-- Two orders of vertices, with the positions of the vertices in each order.
use Rattle.std.specs.Prelude.{ℕ, List, reverse}
use Rattle.two_orders.specs.Growth.{positions_in}

-- the positions of vertices in a first order and in a second order, and the vertices in the second order, forwards and
-- backwards
pub record TwoOrders : Type 0 where
  pub first : List ℕ
  pub second : List ℕ
  pub rising : List ℕ
  pub falling : List ℕ

-- two orders of `n` vertices, from the positions in the first order and the vertices in the second order
abbrev pub two_orders : List ℕ → List ℕ → ℕ → TwoOrders
two_orders first rising n = record {
  first = first;
  second = positions_in rising n;
  rising = rising;
  falling = reverse rising;
}
