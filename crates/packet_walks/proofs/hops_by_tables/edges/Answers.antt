-- A switch more.
use Rattle.std.proofs.Common.{◌≡◌, ◌∙◌, ◌+◌, ◌++◌, List, [], ◌∷◌, None, Option, Some, Vec, Global, map, take, sym, ap}
use Rattle.port_graph.specs.declared.edge.Edge.{Edge}
use Rattle.packet_walks.specs.Edges.{edge_by, edge_of}
use Rattle.held_tables.proofs.Mapped.{mapped_more}
use Rattle.packet_walks.proofs.ToSwitches.{edge_there, none_there}
use Rattle.packet_walks.proofs.hops_by_tables.edges.Goals as goal
use Rattle.packet_walks.proofs.hops_by_tables.edges.Goals.{in-Some+in_ok-push-in-Some, in-None+in_ok-push-in-None}

pub loop-node-preserved : goal.loop-node-preserved
loop-node-preserved c =
    let rows = c.args.rows.now in
    let lid = c.args.lid in
    let nodes = c.args.nodes.now in
    let i = c.loop-node.node-index in
    let node = c.node-item.result in
    let entry = c.entry_of-entry.result in
    let its = λ (v : Vec (Option Edge) Global). v.items in
    let first : List (Option Edge) = map (edge_of rows lid) (take i nodes) in
    let here : edge_of rows lid node ≡ edge_by node.row entry = ap (edge_by node.row) (sym c.entry_of-entry.ensures) in
    let more : first ++ edge_of rows lid node ∷ [] ≡ map (edge_of rows lid) (take (i + 1) nodes) =
    ap (λ x. first ++ edge_of rows lid x ∷ []) c.node-item.is ∙ sym (mapped_more (edge_of rows lid) nodes i node c.loop-node-test.true) in
    elim c.match-switch_by.branch [
      | in-Some+in_ok-push-in-Some w ↦
          let to = w.in-Some.to in
          let edge : Option Edge = Some (record { port = w.new.result; to = to }) in
          let is : edge_of rows lid node ≡ edge =
          here ∙ edge_there node.row entry to (sym w.in-Some.ensures) ∙ ap (λ p. Some (record { port = p; to = to })) (sym w.new.ensures) in
          ap its w.edges-is ∙ w.in_ok-push-in-Some.ensures.items ∙ ap (λ xs. xs ++ edge ∷ []) c.loop-node.invariant
          ∙ ap (λ x. first ++ x ∷ []) (sym is) ∙ more
      | in-None+in_ok-push-in-None w ↦
          let is : edge_of rows lid node ≡ None = here ∙ none_there node.row entry (sym w.in-None.ensures) in
          ap its w.edges-is ∙ w.in_ok-push-in-None.ensures.items ∙ ap (λ xs. xs ++ None ∷ []) c.loop-node.invariant
          ∙ ap (λ x. first ++ x ∷ []) (sym is) ∙ more
    ]
