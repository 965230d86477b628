-- Port by port.
use Rattle.std.proofs.Common.{◌≡◌, ◌+◌, sym, ap, ◌∙◌, subst, List, ℕ, length}
use Rattle.std.specs.Prelude.{Option, Some, option_map}
use Rattle.fact_store.specs.View.{cells_of}
use Rattle.port_graph.specs.declared.edge.Edge.{Edge}
use Rattle.subnet_view.specs.Graph.{edge_at, edges_of}
use Rattle.subnet_view.specs.SwitchGraph.{by_guid, LeadBelow}
use Rattle.subnet_view.proofs.EdgeLists.{AreAll, port_without, port_with, no_more_ports, lead_below_more}
use Rattle.subnet_view.proofs.switch_graph.edges_of.Goals as goal
use Rattle.subnet_view.proofs.switch_graph.edges_of.Goals.{in-Some+in_ok-push, in_default}

pub loop-before-preserved : goal.loop-before-preserved
loop-before-preserved c =
    let guids = c.args.guids.now in
    let edge : ℕ → Option Edge = edge_at (cells_of c.args.wires.now) c.args.guid in
    let all = edges_of (cells_of c.args.wires.now) c.args.guid in
    let before = c.loop-before.before in
    let count = c.port_count-before-end.result in
    let found = c.loop-before.found.items in
    let is = ap edge (sym c.new.ensures) ∙ sym c.edge_at.ensures.wire in
    let Stands : List Edge → Type 0 = λ xs. AreAll guids edge all count xs (before + 1) × LeadBelow (length guids) xs in
    elim c.match-edge_at.branch [
      | in-Some+in_ok-push w ↦
          let there : edge (before + 1) ≡ Some (by_guid guids w.in-Some.edge) = is ∙ ap (option_map (by_guid guids)) w.in-Some.is in
          subst Stands (sym (ap (λ v. v.items) w.found-is ∙ w.in_ok-push.ensures.items)) (
            port_with guids edge all count found before w.in-Some.edge c.loop-before-test.true c.loop-before.invariant.0 there,
            lead_below_more (length guids) found w.in-Some.edge c.loop-before.invariant.1 w.in-Some.ensures.to_switch,
          )
      | in_default w ↦
          subst Stands (sym (ap (λ v. v.items) w.found-is)) (
            port_without guids edge all count found before c.loop-before-test.true c.loop-before.invariant.0 (is
                ∙ ap (option_map (by_guid guids)) w.in_default.is),
            c.loop-before.invariant.1,
          )
    ]

pub returns-clause-wires : goal.returns-clause-wires
returns-clause-wires c = no_more_ports c.args.guids.now (edge_at (cells_of c.args.wires.now) c.args.guid) (edges_of (cells_of c.args.wires.now) c.args.guid)
    c.port_count-before-end.result c.loop-before.found.items c.loop-before.before c.loop-before-test.false c.loop-before.invariant.0
