-- What the facts give is a graph.
use Rattle.std.proofs.Common.{◌≡◌, sym, subst, List, ℕ, map}
use Rattle.fact_store.specs.View.{cells_of}
use Rattle.subnet_view.specs.Graph.{edges_of}
use Rattle.subnet_view.specs.GraphLaws.{IsGraph}
use Rattle.subnet_view.specs.SwitchGraph.{by_guid}
use Rattle.subnet_view.proofs.EdgeLists.{same_length}
use Rattle.subnet_view.proofs.Graphs.{graph_law}
use Rattle.subnet_view.proofs.SwitchGraphs.{named_is_graph}
use Rattle.subnet_view.proofs.switch_graph.SwitchGraph.of_switches.Goals as goal

pub returns : goal.returns
returns c =
    let guids = c.args.guids.items in
    let edges = c.in_ok-edges.edges in
    let cells = cells_of c.args.wires.now in
    let Rows : List ℕ → Type 0 = λ gs. map (map (by_guid gs)) edges ≡ map (edges_of cells) gs in
    named_is_graph cells guids edges c.requires (subst Rows c.deref.ensures.value c.in_ok-edges.ensures.wires)

pub invariant_of-result : goal.invariant_of-result
invariant_of-result c =
    let guids = c.args.guids.items in
    let edges = c.in_ok-edges.edges in
    let cells = cells_of c.args.wires.now in
    let Rows : List ℕ → Type 0 = λ gs. map (map (by_guid gs)) edges ≡ map (edges_of cells) gs in
    let rows = subst Rows c.deref.ensures.value c.in_ok-edges.ensures.wires in
    record {
      as_many = same_length (map (by_guid guids)) (edges_of cells) edges guids rows;
      to_switches = c.in_ok-edges.ensures.to_switches;
      is_graph = subst IsGraph (sym (named_is_graph cells guids edges c.requires rows)) (graph_law c.args.wires.now);
    }
