-- A rule of routing has a port only if it has a cost, and the port is that of a wire between switches.
use Rattle.std.proofs.Common.{◌≡◌, ℕ, true, false, List, [], ◌∷◌, Option, None, Some, refl, sym, ◌∙◌, ◌==◌}
use Rattle.std.specs.Prelude.{Contains, option_map}
use Rattle.std.proofs.lemmas.Bool.{eqb-false}
use Rattle.std.proofs.lemmas.Option.{same_Some, none-some}
use Rattle.fact_store.specs.View.{Facts, cells_of}
use Rattle.port_graph.specs.declared.edge.Edge.{Edge}
use Rattle.subnet_view.specs.SwitchEdges.{SwitchEdges}
use Rattle.subnet_view.specs.Graph.{edges_at, graph_of}
use Rattle.subnet_view.specs.GraphLaws.{IsSwitch}
use Rattle.subnet_view.specs.Components.{in_one_component}
use Rattle.subnet_view.specs.Routing.{Routing, FollowsRule, Passes}
use Rattle.lft_blocks.proofs.ComponentCosts.{cost_in_component}
use Rattle.subnet_view.proofs.Graphs.{graph_law}
use Rattle.lft_blocks.proofs.LeastCosts.{no_cost_between}
use Rattle.lft_blocks.specs.Mark.{Mark}
use Rattle.lft_blocks.specs.Labels.{candidates_by, marks}
use Rattle.lft_blocks.specs.Adapters.{adapters_of}
use Rattle.lft_blocks.specs.SpreadRule.{Spreading, by_positions, position, taken}
use Rattle.lft_blocks.specs.Rule.{RuleValue, routing_by, spread_in, up_and_down}
use Rattle.lft_blocks.specs.Spread.{grading_of, keys_by, number_there, spread_by}
use Rattle.lft_blocks.specs.SwitchOrder.{OrderValue}
use Rattle.lft_blocks.proofs.RulesRoute.{rules_are_routings}
use Rattle.lft_blocks.specs.Lids.{lids}
use Rattle.lft_blocks.specs.LidNumbers.{lid_numbers}
use Rattle.lft_blocks.specs.Plan.{lid_routing}

abbrev HasCost : Routing → ℕ → ℕ → Type 0
HasCost rule s t = (n : ℕ) × (rule.cost s t ≡ Some n)

-- candidates are of a vertex with a mark
marked : (edges : List (List Edge)) (by : Spreading) (lid p q port : ℕ) (mark : Option Mark)
    → option_map (λ (e : Edge). e.port) (taken by lid p q (candidates_by edges q p mark)) ≡ Some port → (n : ℕ)
    × (option_map (λ (m : Mark). m.cost) mark ≡ Some n)
marked edges by lid p q port None h = absurd (cc)
marked edges by lid p q port (Some m) h = (m.cost, refl)

spread_has_cost : (graph : List SwitchEdges) (adapters : List ℕ) (order : OrderValue) (lid s t port : ℕ)
    → (spread_by graph adapters order).next lid s t ≡ Some port → HasCost (spread_by graph adapters order) s t
unfolding spread_by
spread_has_cost graph adapters order lid s t port h =
    let keys = keys_by graph adapters order in
    let edges = by_positions graph keys in
    let by : Spreading = record { keys = keys; number = number_there (grading_of graph adapters order) } in
    marked edges by lid (position graph keys s) (position graph keys t) port (marks edges (position graph keys t) (position graph keys s)) h

pub next_has_cost : (rule : RuleValue) (facts : Facts) (lid s t port : ℕ) → IsSwitch (graph_of (cells_of facts)) s → IsSwitch (graph_of (cells_of facts)) t
    → (routing_by rule (cells_of facts)).next lid s t ≡ Some port → HasCost (routing_by rule (cells_of facts)) s t
next_has_cost up_and_down facts lid s t port is_s is_t h =
    let graph = graph_of (cells_of facts) in
    let good = graph_law facts in
    elim (in_one_component graph s t) as (λ b. in_one_component graph s t ≡ b → HasCost (routing_by up_and_down (cells_of facts)) s t) [
      | true ↦ λ j. cost_in_component graph good s t is_s is_t j
      | false ↦ λ j. absurd (none-some port (sym (no_cost_between graph good s t is_s j).1 ∙ h))
    ] refl
next_has_cost (spread_in order) facts lid s t port is_s is_t h =
    spread_has_cost (graph_of (cells_of facts)) (adapters_of (cells_of facts)) order lid s t port h

first_edge : (graph : List SwitchEdges) (rule : Routing) (lid s t port : ℕ) (es : List Edge) → (s == t) ≡ false → rule.next lid s t ≡ Some port
    → FollowsRule rule lid t s es → Passes graph s es → (e : Edge) × Contains (edges_at graph s) e × (e.port ≡ port)
first_edge graph rule lid s t port [] apart h follows passes = absurd (eqb-false s t apart follows)
first_edge graph rule lid s t port (e ∷ es) apart h (_, its, _) (there, _) = (e, there, same_Some e.port port (sym its ∙ h))

pub next_is_edge : (rule : RuleValue) (facts : Facts) (lid s t port : ℕ) → IsSwitch (graph_of (cells_of facts)) s → IsSwitch (graph_of (cells_of facts)) t
    → (s == t) ≡ false → (routing_by rule (cells_of facts)).next lid s t ≡ Some port
    → (e : Edge) × Contains (edges_at (graph_of (cells_of facts)) s) e × (e.port ≡ port)
next_is_edge rule facts lid s t port is_s is_t apart h =
    let (n, cost) = next_has_cost rule facts lid s t port is_s is_t h in
    let way = (rules_are_routings rule facts).leads lid s t n is_s cost in
    first_edge (graph_of (cells_of facts)) (routing_by rule (cells_of facts)) lid s t port way.edges apart h way.by_rule way.passes

-- the routing of LIDs
pub lid_has_cost : (rule : RuleValue) (lmc : ℕ) (facts : Facts) (lid s t port : ℕ) → IsSwitch (graph_of (cells_of facts)) s → IsSwitch (graph_of (cells_of facts)) t
    → (lid_routing rule lmc (cells_of facts) (lids lmc (cells_of facts))).next lid s t ≡ Some port
    → HasCost (lid_routing rule lmc (cells_of facts) (lids lmc (cells_of facts))) s t
lid_has_cost rule lmc facts lid s t port is_s is_t h =
    next_has_cost rule facts (lid_numbers lmc (cells_of facts) (lids lmc (cells_of facts)) lid) s t port is_s is_t h
