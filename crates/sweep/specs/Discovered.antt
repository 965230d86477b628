-- What a sweep has found, in ascending order of GUID and port.
use Rattle.std.specs.Prelude.{ℕ, List}
use Rattle.sweep.specs.declared.vertex.Vertex.{Vertex}
use Rattle.sweep.specs.declared.vertex.SeenState.{SeenState}

-- the vertices and the states of ports that a sweep found, the number of ports that lead too far, and the numbers of
-- further vertices and states for which there is memory
pub record Discovered : Type 0 where
  pub reached : List Vertex
  pub states : List SeenState
  pub too_far : ℕ
  pub vertex_room : ℕ
  pub state_room : ℕ
