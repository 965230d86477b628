-- What a line of a topology says: nothing, a node or a link.
use Rattle.std.specs.Prelude.{ℕ, List, [], ◌∷◌, Option, None, Some, option_map, option_and_then, codes, ◌||◌, if◌then◌else◌}
use Rattle.std.specs.Str.{bytes_eq}
use Rattle.smp_bytes.specs.declared.node_type.NodeType.{NodeType}
use Rattle.smp_bytes.specs.declared.node_type.NodeType.TheVariants.{ChannelAdapter, Switch, Router}
use Rattle.topo_file.specs.declared.topology_line.TopologyLine.{TopologyLine}
use Rattle.topo_file.specs.declared.topology_line.TopologyLine.TheVariants.{Empty, Node, Link}
use Rattle.topo_file.specs.declared.topology_line.NodeLine.{NodeLine}
use Rattle.topo_file.specs.declared.topology_line.LinkLine.{LinkLine}
use Rattle.text_words.specs.Text.{words}
use Rattle.text_words.specs.Numbers.{count_of, guid_of}
use Rattle.text_words.specs.Quoted.{quoted_name, bracketed_port, named_port}

-- the type of node that a word names, which is a switch or a channel adapter; None if the word names no type
abbrev pub kind_of : List ℕ → Option NodeType
kind_of word =
    if bytes_eq word (codes "Switch") then Some Switch else (if bytes_eq word (codes "Hca")
    || bytes_eq word (codes "Ca") then Some ChannelAdapter else None)

-- the size of a node's forwarding table, as the words after its GUID give it: 0 for an adapter; for a switch, the
-- number after `cap`, or 1024 if there are no words; None for other words and for a router. The inner value is None
-- if the number is out of range
abbrev pub cap_of : NodeType → List (List ℕ) → Option (Option ℕ)
cap_of Switch [] = Some (Some 1024)
cap_of Switch (word ∷ cap ∷ []) = if bytes_eq word (codes "cap") then count_of 0xC000 cap else None
cap_of Switch _ = None
cap_of ChannelAdapter [] = Some (Some 0)
cap_of ChannelAdapter _ = None
cap_of Router _ = None

-- a node of the type `kind`, from the words after its type: its port count, its name, 'guid', its GUID, and the size
-- of a switch's table; None if the words do not give a node
abbrev pub node_line : NodeType → List (List ℕ) → Option NodeLine
node_line kind (ports ∷ name ∷ word ∷ guid ∷ rest) =
    if bytes_eq word (codes "guid") then
    option_and_then (λ p. option_and_then
    (λ n. option_and_then (λ g. option_map (λ c. record { kind = kind; ports = p; name = n; guid = g; cap = c })
    (cap_of kind rest)) (guid_of guid)) (quoted_name name)) (count_of 254 ports)
    else None
node_line kind _ = None

-- a link: a port, and the peer's name with the peer's port; None if the words do not give a link
abbrev pub link_line : List (List ℕ) → Option LinkLine
link_line (port ∷ end ∷ []) =
    option_and_then (λ p. option_map (λ x. record { port = p; peer = x.0; peer_port = x.1 }) (named_port end))
    (bracketed_port port)
link_line _ = None

-- what a line with these words says, given the type that its first word names: a node if there is a type, otherwise a
-- link; None if the grammar has no such line
abbrev pub line_of_kind : Option NodeType → List (List ℕ) → Option TopologyLine
line_of_kind (Some kind) (word ∷ rest) = option_map Node (node_line kind rest)
line_of_kind None words = option_map Link (link_line words)
line_of_kind _ [] = None

-- what a line with these words says; None if the grammar has no such line
abbrev pub line_in : List (List ℕ) → Option TopologyLine
line_in [] = Some Empty
line_in (word ∷ rest) = line_of_kind (kind_of word) (word ∷ rest)

-- what a line says; None if the grammar has no such line
unfoldable pub line_of : List ℕ → Option TopologyLine
line_of line = line_in (words line)
