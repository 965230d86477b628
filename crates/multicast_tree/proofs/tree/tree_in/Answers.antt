use Rattle.std.proofs.Common.{◌≡◌, ◌∙◌, ℕ, List, ap, subst}
use Rattle.std.specs.Prelude.{IfOk, map}
use Rattle.fact_store.specs.View.{cells_of}
use Rattle.subnet_view.specs.SwitchEdges.{SwitchEdges}
use Rattle.subnet_view.specs.Graph.{graph_of, guids_of}
use Rattle.subnet_view.specs.Reading.{switches}
use Rattle.subnet_view.proofs.GraphSwitches.{graph_guids}
use Rattle.multicast_tree.specs.Tree.{TreePorts, parent_in, parent_port, position_in, tree_by, tree_in}
use Rattle.multicast_tree.proofs.ParentPorts.{tree_is}
use Rattle.multicast_tree.proofs.tree.tree_in.Goals as goal

pub tree_by-requires-clause-usable : goal.tree_by-requires-clause-usable
tree_by-requires-clause-usable c = c.switches.ensures

pub returns : goal.returns
returns c =
    let cells = cells_of c.args.wired.now.wires.now in
    let positions = c.args.positions.now in
    let guids : c.switches.result.now ≡ switches cells = c.switches.ensures in
    let found = c.in_ok-parents.ensures in
    let parents : c.deref.result.now ≡ map (parent_port (graph_of cells) (position_in (switches cells) positions)) (switches cells) =
    c.deref.ensures.value ∙ found
    ∙ ap (λ (g : List SwitchEdges). map (parent_port g (position_in (guids_of g) positions)) (guids_of g)) c.args.wired.now.is_graph
    ∙ ap (λ (gs : List ℕ). map (parent_port (graph_of cells) (position_in gs positions)) gs) (graph_guids cells) in
    let same : tree_by cells (parent_in c.switches.result.now c.deref.result.now) ≡ tree_in cells positions =
    ap (λ (gs : List ℕ). tree_by cells (parent_in gs c.deref.result.now)) guids ∙ tree_is cells positions c.deref.result.now parents in
    subst (λ (t : List TreePorts). IfOk c.tree_by.result (λ tree. tree.items ≡ t)) same c.tree_by.ensures
