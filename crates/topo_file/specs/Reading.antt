-- What a text of a topology says: its nodes and links, or its first fault.
use Rattle.std.specs.Prelude.{ℕ, zero, suc, ◌+◌, ◌^◌, ◌||◌, Bool, false, List, [], ◌∷◌, ◌++◌, Option, None, Some, Result, Ok, Err, length, is_some, nat_le}
use Rattle.std.specs.Prelude.{nat_lt, option_and_then, slice_get, if◌then◌else◌}
use Rattle.std.specs.Option.{option_map_or}
use Rattle.smp_bytes.specs.NodeType.{is_switch}
use Rattle.fabric_model.specs.declared.cable.Cable.{Cable}
use Rattle.fabric_model.specs.declared.cable.NodePort.{NodePort}
use Rattle.topo_file.specs.declared.topo_fault.TopoFault.{TopoFault}
use Rattle.topo_file.specs.declared.topo_fault.TopoFault.TheVariants.{Syntax, Name, Ports, Peer, Port, Linked, GuidRange, TooManyNodes}
use Rattle.topo_file.specs.declared.topology_line.TopologyLine.{TopologyLine}
use Rattle.topo_file.specs.declared.topology_line.TopologyLine.TheVariants as line
use Rattle.topo_file.specs.declared.topology_line.NodeLine.{NodeLine}
use Rattle.topo_file.specs.declared.topology_line.LinkLine.{LinkLine}
use Rattle.topo_file.specs.declared.draft.LinkAt.{LinkAt}
use Rattle.topo_file.specs.declared.node.Node.{Node}
use Rattle.text_words.specs.Text.{lines}
use Rattle.topo_file.specs.TopologyLine.{line_of}
use Rattle.fabric_model.specs.Cables.{is_same_port, other_end}
use Rattle.topo_file.specs.Topology.{Layout, id_of}

-- `next` applied to the value, or the fault
infixl 10 ◌>>=◌
abbrev pub ◌>>=◌ : {A B : Type 0} → Result A TopoFault → (A → Result B TopoFault) → Result B TopoFault
(Ok value) >>= next = next value
(Err fault) >>= next = Err fault

-- the nodes and the link lines that were read
pub record Lines : Type 0 where
  pub nodes : List Node
  pub links : List LinkAt

-- whether `node` is not a switch, and the GUID of its last port, `node.guid` plus `ports`, does not fit in 64 bits
abbrev pub is_beyond : NodeLine → ℕ → Bool
is_beyond node ports = if is_switch node.kind then false else nat_le (2 ^ 64) (node.guid + ports)

-- the node of the node line `node`, with this port count and table size, or the fault of the line `number`: the port
-- count or the table size is None because it is out of range, or the GUID of the last port does not fit in 64 bits
abbrev pub node_with : ℕ → NodeLine → Option ℕ → Option ℕ → Result Node TopoFault
node_with number node (Some ports) (Some cap) =
    if is_beyond node ports then Err (GuidRange number)
    else Ok (record { name = node.name; kind = node.kind; ports = ports; guid = node.guid; cap = cap })
node_with number node (Some ports) None = Err (Ports number)
node_with number node None cap = Err (Ports number)

-- the node that the node line `node` gives, or the fault of the line `number`
abbrev pub node_of : ℕ → NodeLine → Result Node TopoFault
node_of number node = node_with number node node.ports node.cap

-- `nodes` with `node` appended, or the fault of the line `number`: the name is used, or there are 1,024 nodes already
abbrev pub with_node : ℕ → List Node → Node → Result (List Node) TopoFault
with_node number nodes node =
    if is_some (id_of nodes node.name) then Err (Name number)
    else (if nat_lt (length nodes) 1024 then Ok (nodes ++ node ∷ []) else Err (TooManyNodes number))

-- `links` with `link` appended, which is from the line `number`, as a link of the last node so far; `Syntax` if there
-- is no node. The second argument is the number of nodes so far
abbrev pub with_link_line : ℕ → ℕ → List LinkAt → LinkLine → Result (List LinkAt) TopoFault
with_link_line number zero links link = Err (Syntax number)
with_link_line number (suc last) links link = Ok (links ++ record { line = number; node = last; link = link } ∷ [])

-- `before`, which is from the lines so far, with the node or the link that the line `number` adds, or the fault of
-- this line
abbrev pub with_line : ℕ → Lines → Option TopologyLine → Result Lines TopoFault
with_line number before None = Err (Syntax number)
with_line number before (Some line.Empty) = Ok before
with_line number before (Some (line.Node node)) =
    node_of number node >>= with_node number before.nodes >>= λ nodes. Ok (record before { nodes = nodes })
with_line number before (Some (line.Link link)) =
    with_link_line number (length before.nodes) before.links link >>= λ links. Ok (record before { links = links })

-- `before`, which is from the lines so far, with the nodes and links that the given lines add, or the first fault;
-- the first of these lines has the number `number`
abbrev pub with_lines : ℕ → Lines → List (List ℕ) → Result Lines TopoFault
with_lines number before [] = Ok before
with_lines number before (line ∷ later) =
    with_line number before (line_of line) >>= λ now. with_lines (number + 1) now later

-- the port of the node `id` with the number `port`; None if `port` is None, if there is no such node, or if the
-- number is above the port count of the node
abbrev pub port_at : List Node → ℕ → Option ℕ → Option NodePort
port_at nodes id port =
    option_and_then (λ p. option_and_then (λ node. if nat_le p node.ports then Some (record {
      node = id;
      port =
          p;
    }) else None)
    (slice_get nodes id)) port

-- the link between two ports, or the fault of the line `number` if one of them is None, since it does not exist
abbrev pub link_between : ℕ → Option NodePort → Option NodePort → Result Cable TopoFault
link_between number (Some one) (Some other) = Ok (record { one = one; other = other })
link_between number (Some one) None = Err (Port number)
link_between number None other = Err (Port number)

-- the link that the link line `at` gives, to the peer with the id `id`, or the line's fault; None stands for a peer
-- that does not exist
abbrev pub link_to : List Node → LinkAt → Option ℕ → Result Cable TopoFault
link_to nodes at None = Err (Peer at.line)
link_to nodes at (Some id) =
    link_between at.line (port_at nodes at.node at.link.port) (port_at nodes id at.link.peer_port)

-- the link that the link line `at` gives, or the line's fault
abbrev pub link_of : List Node → LinkAt → Result Cable TopoFault
link_of nodes at = link_to nodes at (id_of nodes at.link.peer)

-- whether `found` is the port `p`
abbrev pub is_end : NodePort → Option NodePort → Bool
is_end p found = option_map_or (is_same_port p) found false

-- `links` with `link` appended, unless it is there already; the fault of the line `number` if one of its ports has
-- another link
abbrev pub with_link : ℕ → List Cable → Cable → Result (List Cable) TopoFault
with_link number links link =
    if is_end link.other (other_end links link.one) then Ok links
    else (if is_some (other_end links link.one)
    || is_some (other_end links link.other) then Err (Linked number) else Ok (links ++ link ∷ []))

-- `links` with the links in the lines appended, each once, or the first fault
abbrev pub with_links : List Node → List Cable → List LinkAt → Result (List Cable) TopoFault
with_links nodes links [] = Ok links
with_links nodes links (at ∷ later) = link_of nodes at >>= with_link at.line links >>= λ now. with_links nodes now later

-- the topology of the nodes and link lines `told`, or the first fault of a link
abbrev pub topology_in : Lines → Result Layout TopoFault
topology_in told = with_links told.nodes [] told.links >>= λ links. Ok (record { nodes = told.nodes; links = links })

-- the nodes and the link lines of all lines, or the first fault
abbrev pub nodes_of_lines : List (List ℕ) → Result Lines TopoFault
nodes_of_lines lines = with_lines 1 (record { nodes = []; links = [] }) lines

-- the topology that a text says, or its first fault
unfoldable pub topology_of : List ℕ → Result Layout TopoFault
topology_of text = nodes_of_lines (lines text) >>= topology_in
