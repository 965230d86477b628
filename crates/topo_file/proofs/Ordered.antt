-- What is read stands in the order of its lines: the links, by their first ends' nodes.
use Rattle.std.proofs.Common.{◌≡◌, ℕ, zero, suc, ◌+◌, ◌<◌, ◌≤◌, List, [], ◌∷◌, ◌++◌, length, Option, None, Some, Result, Ok, Err, refl, arith}
use Rattle.std.proofs.Common.{cond, leb, ltb, length-append}
use Rattle.std.specs.Prelude.{IfOk, IfSome, All, is_some, slice_get, option_and_then, ◌||◌}
use Rattle.std.specs.List.{AllPairs, AllByRecursion}
use Rattle.std.proofs.lemmas.Result.{IfOk-at_ok}
use Rattle.std.proofs.lemmas.List.Elements.{All-push}
use Rattle.std.proofs.lemmas.List.Quantifiers.{all_pairs_push}
use Rattle.fabric_model.specs.Cables.{other_end}
use Rattle.fabric_model.specs.declared.cable.Cable.{Cable}
use Rattle.fabric_model.specs.declared.cable.NodePort.{NodePort}
use Rattle.text_words.specs.Text.{lines}
use Rattle.text_words.proofs.Ranges.{tested}
use Rattle.topo_file.specs.declared.topo_fault.TopoFault.{TopoFault}
use Rattle.topo_file.specs.declared.topo_fault.TopoFault.TheVariants.{Name, TooManyNodes, Linked}
use Rattle.topo_file.specs.declared.topology_line.TopologyLine.{TopologyLine}
use Rattle.topo_file.specs.declared.topology_line.TopologyLine.TheVariants as line
use Rattle.topo_file.specs.declared.topology_line.LinkLine.{LinkLine}
use Rattle.topo_file.specs.declared.draft.LinkAt.{LinkAt}
use Rattle.topo_file.specs.declared.node.Node.{Node}
use Rattle.topo_file.specs.TopologyLine.{line_of}
use Rattle.topo_file.specs.Topology.{Layout, id_of}
use Rattle.topo_file.specs.Reading.{◌>>=◌, Lines, node_of, with_node, with_link_line, with_line, with_lines, port_at, link_between, link_to, link_of}
use Rattle.topo_file.specs.Reading.{is_end, with_link, with_links, topology_in, nodes_of_lines, topology_of}
use Rattle.topo_file.specs.Printed.{IsInOrder, ReadTopologiesAreInOrder}
use Rattle.topo_file.proofs.Printed.{Pairs, pairs, all_weaker}
use Rattle.topo_file.proofs.WellFormed.{read_then, unless, where_true, kept_or}

-- the link lines stand in the order of their nodes, and each node is there
record AreInOrder (told : Lines) : Type 0 where
  pairs : AllPairs (λ x y. x.node ≤ y.node) told.links
  below : All (λ at. at.node < length told.nodes) told.links

-- anything
anything : {A : Type 0} (r : Result A TopoFault) → IfOk r (λ x. Unit {0})
anything (Ok x) = tt
anything (Err fault) = tt

node_added : (number : ℕ) (nodes : List Node) (node : Node) → IfOk (with_node number nodes node) (λ now. length nodes ≤ length now)
node_added number nodes node =
    let Longer : List Node → Type 0 = λ now. length nodes ≤ length now in
    unless Longer (is_some (id_of nodes node.name)) (Name number) _ (λ e.
    where_true Longer (ltb (length nodes) 1024) (TooManyNodes number) (Ok (nodes ++ node ∷ [])) (λ few. omega (arith, length-append nodes (node ∷ []))))

link_line_added : (number count : ℕ) (before : Lines) (link : LinkLine) → count ≡ length before.nodes → AreInOrder before
    → IfOk (with_link_line number count before.links link >>= λ links. Ok (record before { links = links })) AreInOrder
link_line_added number zero before link e is = tt
link_line_added number (suc last) before link e is =
    let at : LinkAt = record { line = number; node = last; link = link } in
    record {
      pairs = all_pairs_push (λ (x y : LinkAt). x.node ≤ y.node) before.links at is.pairs (λ k d h. let below = is.below k d h in omega arith);
      below = All-push (λ (x : LinkAt). x.node < length before.nodes) before.links at is.below (omega arith);
    }

line_read : (number : ℕ) (before : Lines) (told : Option TopologyLine) → AreInOrder before → IfOk (with_line number before told) AreInOrder
line_read number before None is = tt
line_read number before (Some line.Empty) is = is
line_read number before (Some (line.Node node)) is =
    let Longer : List Node → Type 0 = λ now. length before.nodes ≤ length now in
    read_then Longer AreInOrder (node_of number node >>= with_node number before.nodes) _
    (read_then (λ x. Unit {0}) Longer (node_of number node) (with_node number before.nodes) (anything (node_of number node))
    (λ n _. node_added number before.nodes n))
    (λ nodes h. record { pairs = is.pairs; below = λ k d l. let below = is.below k d l in omega arith })
line_read number before (Some (line.Link link)) is = link_line_added number (length before.nodes) before link refl is

lines_read : (number : ℕ) (before : Lines) (ls : List (List ℕ)) → AreInOrder before → IfOk (with_lines number before ls) AreInOrder
lines_read number before [] is = is
lines_read number before (l ∷ ls) is =
    read_then AreInOrder AreInOrder (with_line number before (line_of l)) (λ now. with_lines (number + 1) now ls)
    (line_read number before (line_of l) is) (λ now h. lines_read (number + 1) now ls h)

-- a link is at the node of its line
port_here : (nodes : List Node) (id p : ℕ) (found : Option Node)
    → IfSome (option_and_then (λ node. cond (leb p node.ports) (Some (record { node = id; port = p })) None) found) (λ (q : NodePort). q.node ≡ id)
port_here nodes id p None = tt
port_here nodes id p (Some node) = tested (λ (q : NodePort). q.node ≡ id) (leb p node.ports) _ (λ h. refl)

port_is : (nodes : List Node) (id : ℕ) (port : Option ℕ) → IfSome (port_at nodes id port) (λ q. q.node ≡ id)
port_is nodes id None = tt
port_is nodes id (Some p) = port_here nodes id p (slice_get nodes id)

between : (number id : ℕ) (one other : Option NodePort) → IfSome one (λ q. q.node ≡ id)
    → IfOk (link_between number one other) (λ link. link.one.node ≡ id)
between number id (Some one) (Some other) is = is
between number id (Some one) None is = tt
between number id None other is = tt

link_here : (nodes : List Node) (at : LinkAt) (id : Option ℕ) → IfOk (link_to nodes at id) (λ link. link.one.node ≡ at.node)
link_here nodes at None = tt
link_here nodes at (Some id) = between at.line at.node _ _ (port_is nodes at.node at.link.port)

-- the links so far, before those of the lines to come
record Before (links : List Cable) (ats : List LinkAt) : Type 0 where
  pairs : AllPairs (λ x y. x.one.node ≤ y.one.node) links
  before : AllByRecursion (λ at. All (λ x. x.one.node ≤ at.node) links) ats

pushed : (links : List Cable) (link : Cable) (ats : List LinkAt) → AllByRecursion (λ at. All (λ x. x.one.node ≤ at.node) links) ats
    → AllByRecursion (λ at. link.one.node ≤ at.node) ats → AllByRecursion (λ at. All (λ x. x.one.node ≤ at.node) (links ++ link ∷ [])) ats
pushed links link [] h g = tt
pushed links link (at ∷ ats) h g = (All-push (λ (x : Cable). x.one.node ≤ at.node) links link h.0 g.0, pushed links link ats h.1 g.1)

link_added : (number : ℕ) (links : List Cable) (link : Cable) (at : LinkAt) (ats : List LinkAt) → Before links (at ∷ ats) → link.one.node ≡ at.node
    → AllByRecursion (λ later. at.node ≤ later.node) ats → IfOk (with_link number links link) (λ now. Before now ats)
link_added number links link at ats is here order =
    let Kept : List Cable → Type 0 = λ now. Before now ats in
    kept_or Kept (is_end link.other (other_end links link.one)) (Ok links) _ (record { pairs = is.pairs; before = is.before.1 })
    (unless Kept (is_some (other_end links link.one) || is_some (other_end links link.other)) (Linked number) (Ok (links ++ link ∷ [])) (λ e.
    record {
      pairs = all_pairs_push (λ (x y : Cable). x.one.node ≤ y.one.node) links link is.pairs (λ k d h. let below = is.before.0 k d h in omega arith);
      before = pushed links link ats is.before.1 (all_weaker (λ (later : LinkAt). at.node ≤ later.node) (λ (later : LinkAt). link.one.node ≤ later.node) ats
          (λ later h. omega arith) order);
    }))

links_read : (nodes : List Node) (links : List Cable) (ats : List LinkAt) → Before links ats → Pairs (λ x y. x.node ≤ y.node) ats
    → IfOk (with_links nodes links ats) IsInOrder
links_read nodes links [] is order = is.pairs
links_read nodes links (at ∷ ats) is order =
    let Here : Cable → Type 0 = λ link. link.one.node ≡ at.node in
    let Kept : List Cable → Type 0 = λ now. Before now ats in
    read_then Kept IsInOrder (link_of nodes at >>= with_link at.line links) (λ now. with_links nodes now ats)
    (read_then Here Kept (link_of nodes at) (with_link at.line links) (link_here nodes at (id_of nodes at.link.peer))
    (λ link h. link_added at.line links link at ats is h order.0))
    (λ now h. links_read nodes now ats h order.1)

none_before : (ats : List LinkAt) → AllByRecursion (λ at. All {X = Cable} (λ x. x.one.node ≤ at.node) []) ats
none_before [] = tt
none_before (at ∷ ats) = (λ k d h. absurd (omega arith), none_before ats)

topology_ordered : (told : Lines) → AreInOrder told → IfOk (topology_in told) (λ t. IsInOrder t.links)
topology_ordered told is =
    read_then IsInOrder (λ (t : Layout). IsInOrder t.links) (with_links told.nodes [] told.links) _
    (links_read told.nodes [] told.links (record { pairs = λ i j d h k. absurd (omega arith); before = none_before told.links })
    (pairs (λ x y. x.node ≤ y.node) told.links is.pairs))
    (λ links h. h)

pub read_in_order : ReadTopologiesAreInOrder
unfolding topology_of
read_in_order text t e =
    IfOk-at_ok (λ (t : Layout). IsInOrder t.links) e
    (read_then AreInOrder (λ (t : Layout). IsInOrder t.links) (nodes_of_lines (lines text)) topology_in
    (lines_read 1 (record { nodes = []; links = [] }) (lines text)
    (record { pairs = λ i j d h k. absurd (omega arith); below = λ k d h. absurd (omega arith) }))
    topology_ordered)
