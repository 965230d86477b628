use Rattle.std.proofs.Common.{◌≡◌, ◌<◌, ℕ, List, sym, ap, ◌∙◌, subst, arith, length, map, get_or}
use Rattle.std.proofs.lemmas.List.{get_or_default}
use Rattle.std.specs.Prelude.{Contains, IfOk}
use Rattle.spread_labels.specs.KeyOrder.{before_by}
use Rattle.port_graph.specs.Heads.{LeadToVertices}
use Rattle.spread_labels.specs.Orders.{by_position, order}
use Rattle.spread_labels.specs.VertexPositions.{StandOnce}
use Rattle.spread_labels.proofs.ByPositions.{orders_in_words}
use Rattle.trial_loads.specs.TrialLoads.{loads_by, trial_loads}
use Rattle.trial_loads.proofs.trials.trial_loads.Goals as goal

pub positions-requires : goal.positions-requires
positions-requires c =
    let edges = c.args.graph.now.edges.now in
    let grows = (orders_in_words edges (before_by c.args.keys.now) c.args.graph.now.lead c.requires.symmetric).is_grown in
    let is : c.deref.result.now ≡ order edges (before_by c.args.keys.now) = c.deref.ensures.value ∙ c.in_ok-vertices.ensures in
    subst (λ (x : ℕ × List ℕ). StandOnce x.0 x.1) (λ i. (sym c.len.ensures i, sym is i)) (record { within = grows.vertex; once = grows.once })

pub by_positions-requires-clause-all : goal.by_positions-requires-clause-all
by_positions-requires-clause-all c =
    let edges = c.args.graph.now.edges.now in
    let grows = (orders_in_words edges (before_by c.args.keys.now) c.args.graph.now.lead c.requires.symmetric).is_grown in
    let is : c.deref-2.result.now ≡ order edges (before_by c.args.keys.now) = c.deref-2.ensures.value ∙ c.in_ok-vertices.ensures in
    λ s h. subst (λ (xs : List ℕ). Contains xs s) (sym is) (grows.all s h)

pub counts_at-requires : goal.counts_at-requires
counts_at-requires c k d h =
    let edges = c.args.graph.now.edges.now in
    let vertices = order edges (before_by c.args.keys.now) in
    let grows = (orders_in_words edges (before_by c.args.keys.now) c.args.graph.now.lead c.requires.symmetric).is_grown in
    let is : c.deref-4.result.now ≡ vertices = c.deref-4.ensures.value ∙ c.in_ok-vertices.ensures in
    let inside : k < length vertices = omega (arith, h, ap length is) in
    let here : get_or c.deref-4.result.now k d ≡ get_or vertices k 0 = ap (λ xs. get_or xs k d) is ∙ get_or_default vertices k d 0 inside in
    omega (arith, here, grows.vertex k inside, c.args.graph.now.have_adapters)

pub invariant_of-positioned-clause-lead : goal.invariant_of-positioned-clause-lead
invariant_of-positioned-clause-lead c =
    let edges = c.args.graph.now.edges.now in
    let before = before_by c.args.keys.now in
    let is : c.deref-2.result.now ≡ order edges before = c.deref-2.ensures.value ∙ c.in_ok-vertices.ensures in
    let graph : c.in_ok-graph_by_position.graph_by_position ≡ by_position edges (order edges before) = c.in_ok-graph_by_position.ensures ∙ ap (by_position edges) is in
    subst LeadToVertices (sym graph) (orders_in_words edges before c.args.graph.now.lead c.requires.symmetric).graph.lead

pub returns : goal.returns
unfolding trial_loads
returns c =
    let edges = c.args.graph.now.edges.now in
    let vertices = order edges (before_by c.args.keys.now) in
    let counts : List ℕ → List ℕ = map (λ v. get_or c.args.graph.now.adapters.now v 0) in
    let graph : c.in_ok-graph_by_position.graph_by_position ≡ by_position edges vertices =
    c.in_ok-graph_by_position.ensures ∙ ap (by_position edges) (c.deref-2.ensures.value ∙ c.in_ok-vertices.ensures) in
    let adapters : c.deref-5.result.now ≡ counts vertices =
    c.deref-5.ensures.value ∙ c.in_ok-adapters.ensures ∙ ap counts (c.deref-4.ensures.value ∙ c.in_ok-vertices.ensures) in
    subst (λ (ls : List ℕ). IfOk c.loads_by.result (λ loads. loads.items ≡ ls)) (λ i. loads_by (graph i) (adapters i)) c.loads_by.ensures
