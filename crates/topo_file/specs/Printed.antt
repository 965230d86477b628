-- The text of a topology, which is read back as that topology.
use Rattle.std.specs.Prelude.{ℕ, suc, ◌≡◌, ◌≤◌, ◌==◌, List, [], ◌∷◌, ◌++◌, Ok, codes, decimal, filter, map, slice_get, if◌then◌else◌}
use Rattle.std.specs.List.{AllPairs}
use Rattle.std.specs.Option.{option_map_or}
use Rattle.smp_bytes.specs.NodeType.{is_switch}
use Rattle.smp_bytes.specs.Text.{guid_text}
use Rattle.fabric_model.specs.declared.cable.Cable.{Cable}
use Rattle.text_words.specs.Printed.{lines_text, quoted_text, bracketed_text, named_text}
use Rattle.topo_file.specs.declared.node.Node.{Node}
use Rattle.topo_file.specs.Topology.{Layout, IsTopology}
use Rattle.topo_file.specs.Reading.{topology_of}

-- the words of a node's line: its type, port count, name and GUID, and the size of a switch's forwarding table
abbrev pub node_words : Node → List (List ℕ)
node_words node =
    (if is_switch node.kind then codes "Switch" else codes "Hca") ∷ decimal node.ports ∷ quoted_text node.name
    ∷ codes "guid" ∷ (codes "0x" ++ guid_text node.guid)
    ∷ (if is_switch node.kind then codes "cap" ∷ decimal node.cap ∷ [] else [])

-- the name of the node `id`; empty if there is no such node
abbrev pub name_at : List Node → ℕ → List ℕ
name_at nodes id = option_map_or (λ node. node.name) (slice_get nodes id) []

-- the words of the line of `link`, which stands below the node of its first end
abbrev pub link_words : List Node → Cable → List (List ℕ)
link_words nodes link = bracketed_text link.one.port ∷ named_text (name_at nodes link.other.node) link.other.port ∷ []

-- the links whose first end is at the node `id`
abbrev pub links_at : List Cable → ℕ → List Cable
links_at links id = filter (λ link. link.one.node == id) links

-- the lines of the given nodes, whose ids start at `id`; below each node are its links in `t` whose first end is
-- there
abbrev pub lines_from : Layout → ℕ → List Node → List (List (List ℕ))
lines_from t id [] = []
lines_from t id (node ∷ later) =
    node_words node ∷ (map (link_words t.nodes) (links_at t.links id) ++ lines_from t (suc id) later)

-- the text of a topology: each node, in ascending order of id, and below it the links whose first end is there
abbrev pub topology_text : Layout → List ℕ
topology_text t = lines_text (lines_from t 0 t.nodes)

-- the links of the list are in the order of the nodes of their first ends
abbrev pub IsInOrder : List Cable → Type 0
IsInOrder links = AllPairs (λ x y. x.one.node ≤ y.one.node) links

-- if the links of a topology are in the order of the nodes of their first ends, the text of the topology is read as
-- that topology
abbrev pub PrintedTopologiesAreRead : Type 0
PrintedTopologiesAreRead = (t : Layout) → IsTopology t → IsInOrder t.links → topology_of (topology_text t) ≡ Ok t

-- the links of every topology that is read from a text are in the order of the nodes of their first ends
abbrev pub ReadTopologiesAreInOrder : Type 0
ReadTopologiesAreInOrder = (text : List ℕ) (t : Layout) → topology_of text ≡ Ok t → IsInOrder t.links
