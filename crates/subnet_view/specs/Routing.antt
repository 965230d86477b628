-- What every rule of routing between switches must satisfy: it leads to every switch of a component, passes no switch
-- twice, and takes channels of rising numbers.
use Rattle.std.specs.Prelude.{◌≡◌, ◌≢◌, ℕ, ◌==◌, true, false, List, [], ◌∷◌, map, length, AllPairs, Contains, Option, Some}
use Rattle.std.specs.List.Sorted.{IsStrictlyIncreasing}
use Rattle.port_graph.specs.declared.edge.Edge.{Edge}
use Rattle.subnet_view.specs.SwitchEdges.{SwitchEdges}
use Rattle.subnet_view.specs.Graph.{edges_at}
use Rattle.subnet_view.specs.GraphLaws.{IsSwitch}
use Rattle.subnet_view.specs.Components.{in_one_component}

-- a rule of routing. `next` is the port by which a packet for a LID leaves a switch towards another switch. `cost` is
-- the number of wires from the one to the other. `channel` is the number of the channel from a switch to a neighbor
pub record Routing : Type 0 where
  pub next : ℕ → ℕ → ℕ → Option ℕ
  pub cost : ℕ → ℕ → Option ℕ
  pub channel : ℕ → ℕ → ℕ

-- the edges lead on from one another in the graph: the first is an edge of switch `s`, and each further edge is one of
-- the switch that the edge before it leads to
abbrev pub Passes : List SwitchEdges → ℕ → List Edge → Type 0
Passes graph s [] = Unit {0}
Passes graph s (e ∷ es) = Contains (edges_at graph s) e × Passes graph e.to es

-- from switch `s` until they reach switch `t`, the edges follow the ports of `rule` for the LID `lid`
abbrev pub FollowsRule : Routing → ℕ → ℕ → ℕ → List Edge → Type 0
FollowsRule rule lid t s [] = s ≡ t
FollowsRule rule lid t s (e ∷ es) =
    ((s == t) ≡ false) × (rule.next lid s t ≡ Some e.port) × FollowsRule rule lid t e.to es

-- the switches along the edges, beginning with `s`
abbrev pub stops : ℕ → List Edge → List ℕ
stops s es = s ∷ map (λ e. e.to) es

-- the numbers of the channels that the edges take, starting at switch `s`
abbrev pub numbers_along : (ℕ → ℕ → ℕ) → ℕ → List Edge → List ℕ
numbers_along number s [] = []
numbers_along number s (e ∷ es) = number s e.to ∷ numbers_along number e.to es

-- `rule` leads a packet for the LID `lid` from switch `s` to switch `t` along `n` edges of the graph. The packet
-- passes no switch twice, and the numbers of the channels that it takes rise
pub record Leads (graph : List SwitchEdges) (rule : Routing) (lid s t n : ℕ) : Type 0 where
  pub edges : List Edge
  pub by_rule : FollowsRule rule lid t s edges
  pub passes : Passes graph s edges
  pub wires : length edges ≡ n
  pub no_switch_twice : AllPairs (λ a b. a ≢ b) (stops s edges)
  pub channels_rise : IsStrictlyIncreasing (numbers_along rule.channel s edges)

-- `rule` is a rule of routing on the graph. Each switch has a cost to each switch of its component. If a switch has a
-- cost to a target, `rule` leads to the target along as many wires, for each LID
pub record IsRouting (graph : List SwitchEdges) (rule : Routing) : Type 0 where
  pub reaches : (s t : ℕ) → IsSwitch graph s → IsSwitch graph t → in_one_component graph s t ≡ true → (n : ℕ)
      × (rule.cost s t ≡ Some n)
  pub leads : (lid s t n : ℕ) → IsSwitch graph s → rule.cost s t ≡ Some n → Leads graph rule lid s t n
