-- Switch by switch.
use Rattle.std.proofs.Common.{◌+◌, sym, ap, ◌∙◌, subst, List, ℕ, length, map, ◌++◌, ◌∷◌, []}
use Rattle.fact_store.specs.View.{cells_of}
use Rattle.port_graph.specs.declared.edge.Edge.{Edge}
use Rattle.subnet_view.specs.Graph.{edges_of}
use Rattle.subnet_view.specs.SwitchGraph.{by_guid}
use Rattle.subnet_view.proofs.EdgeLists.{AllLeadBelow, AreRows, one_row, no_more_rows, all_lead_more, lead_to_rows, same_length}
use Rattle.subnet_view.proofs.switch_graph.edges.Goals as goal

pub loop-guid-preserved : goal.loop-guid-preserved
loop-guid-preserved c =
    let guids = c.args.guids.now in
    let row_of : ℕ → List Edge = edges_of (cells_of c.args.wires.now) in
    let rows = c.loop-guid.edges in
    let i = c.loop-guid.guid-index in
    let guid = c.guid-item.result in
    let row = c.in_ok-found.found.items in
    let Stands : List (List Edge) → Type 0 = λ xs. AreRows guids row_of xs (i + 1) × AllLeadBelow (length guids) xs in
    subst Stands (sym (c.in_ok-push_vertex.ensures.added ∙ ap (λ r. rows ++ r ∷ []) c.deref.ensures.value)) (
      one_row guids row_of rows i guid row c.loop-guid-test.true c.guid-item.is c.loop-guid.invariant.0 c.in_ok-found.ensures.wires,
      all_lead_more (length guids) rows row c.loop-guid.invariant.1 c.in_ok-found.ensures.to_switches,
    )

pub returns-clause-to_switches : goal.returns-clause-to_switches
returns-clause-to_switches c =
    let guids = c.args.guids.now in
    let row_of : ℕ → List Edge = edges_of (cells_of c.args.wires.now) in
    let all = no_more_rows guids row_of c.loop-guid.edges c.loop-guid.guid-index c.loop-guid-test.false c.loop-guid.invariant.0 in
    lead_to_rows (length guids) c.loop-guid.edges (same_length (map (by_guid guids)) row_of c.loop-guid.edges guids all) c.loop-guid.invariant.1
