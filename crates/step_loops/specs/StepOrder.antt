-- Which channels wait for each other in a step, in any mixtures of the two tables. Channels that wait in a cycle
-- (`IsCycle`) are a credit loop of the step; if numbers rise (`Rise`), there is none.
use Rattle.std.specs.Prelude.{◌≡◌, ◌↔◌, ◌⊎◌, ◌≤◌, ℕ, List, Option, length}
use Rattle.port_graph.specs.declared.edge.Edge.{Edge}
use Rattle.subnet_view.specs.Reading.{Cells}
use Rattle.held_tables.specs.Held.{HeldPlan}
use Rattle.audit_channels.specs.ChannelOrders.{Follows}
use Rattle.next_tables.specs.Mixtures.{TakesInStep, WaitsInStep}

-- in `new`, a channel `b` follows a channel `a` exactly when it does in `old`, or packets take `a` and then `b`, each
-- along an edge of `held` or of `next`
pub record IsWithStep (old : List (List ℕ)) (held next : List (Option Edge)) (new : List (List ℕ)) : Type 0 where
  pub as_many : length new ≡ length old
  pub follows : (a b : ℕ) → Follows new a b ↔ (Follows old a b ⊎ TakesInStep held next a b)

-- in `waits`, a channel `b` follows a channel `a` if packets take `a` and then `b`, each along an edge of `held` or of
-- `next`
abbrev pub IsAddedInStep : List (Option Edge) → List (Option Edge) → List (List ℕ) → Type 0
IsAddedInStep held next waits = (a b : ℕ) → TakesInStep held next a b → Follows waits a b

-- in the step, packets for some LID, whether or not an end port holds it, hold channel `a` and wait for `b`
pub record WaitsFor (cells : Cells) (held next : HeldPlan) (a b : ℕ) : Type 0 where
  pub lid : ℕ
  pub is_lid : 1 ≤ lid
  pub waits : WaitsInStep cells held next lid a b
