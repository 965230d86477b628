-- Vertex by vertex.
use Rattle.std.proofs.Common.{◌≡◌, ◌+◌, List, ℕ, sym, ap, ◌∙◌, subst, arith, length}
use Rattle.std.specs.Prelude.{Option, None, slice_index_or}
use Rattle.port_graph.specs.NextPorts.{port_by, indexed, AreCosts}
use Rattle.port_graph.specs.Slopes.{next_port}
use Rattle.port_graph.proofs.Indexing.{ups_lead, distance_short}
use Rattle.port_graph.proofs.NextPorts.{AreFirstPorts, ports_more, is_next_port}
use Rattle.port_graph.proofs.next_port.next_ports.Goals as goal

pub distances-requires-clause-lead : goal.distances-requires-clause-lead
distances-requires-clause-lead c = ups_lead c.args.ups.now c.args.downs.now c.requires.slopes

pub costs-requires-clause-less : goal.costs-requires-clause-less
costs-requires-clause-less c =
    λ a d h. distance_short c.args.ups.now c.args.target c.in_ok-distances.distances.items c.in_ok-distances.ensures a d
    (ap (λ xs. slice_index_or xs a None) (sym c.deref.ensures.value) ∙ h)

pub loop-vertex-preserved : goal.loop-vertex-preserved
loop-vertex-preserved c =
    let ups = c.args.ups.now in
    let downs = c.args.downs.now in
    let n = c.loop-vertex.vertex in
    let Costs : List (Option ℕ) → Type 0 = λ distances. AreCosts ups distances (length ups) c.in_ok-costs.costs.items in
    let costs = subst Costs c.deref.ensures.value c.in_ok-costs.ensures in
    let port : c.next_port.result ≡ next_port (indexed ups downs) n c.args.target =
    c.next_port.ensures ∙ (λ i. port_by ups downs (c.deref-in-loop-vertex.ensures.value i) (c.deref-in-loop-vertex-2.ensures.value i) n)
    ∙ is_next_port ups downs c.requires.slopes c.args.target c.requires.target c.in_ok-distances.distances.items c.in_ok-costs.costs.items
    c.in_ok-distances.ensures costs n
    (omega (arith, c.loop-vertex-test.true, c.len-vertex-end.ensures)) in
    let Are : List (Option ℕ) → Type 0 = λ ports. AreFirstPorts ups downs c.args.target (n + 1) ports in
    subst Are (sym c.in_ok-push.ensures.items) (ports_more ups downs c.args.target n c.loop-vertex.ports.items c.next_port.result c.loop-vertex.invariant port)
