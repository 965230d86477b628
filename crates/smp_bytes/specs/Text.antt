-- The texts of numbers, nodes, ports and node types.
use Rattle.std.specs.Prelude.{ℕ, zero, suc, ◌/◌, ◌%◌, List, [], ◌∷◌, ◌++◌, false, codes, decimal}
use Rattle.std.specs.Fmt.{digit_glyph}
use Rattle.smp_bytes.specs.declared.node_type.NodeType.{NodeType}
use Rattle.smp_bytes.specs.declared.node_type.NodeType.TheVariants.{ChannelAdapter, Switch, Router}

-- the lowest `digits` hex digits of `n`, in lower case, with leading zeros
unfoldable pub hex_text : ℕ → ℕ → List ℕ
hex_text zero n = []
hex_text (suc digits) n = hex_text digits (n / 16) ++ digit_glyph false (n % 16) ∷ []

-- the text of a GUID: sixteen hex digits
abbrev pub guid_text : ℕ → List ℕ
guid_text guid = hex_text 16 guid

-- the text of the port `port` of the node with the GUID `guid`: the GUID, a slash and the port's number
abbrev pub port_text : ℕ → ℕ → List ℕ
port_text guid port = guid_text guid ++ codes "/" ++ decimal port

-- the word for a node type
abbrev pub type_word : NodeType → List ℕ
type_word ChannelAdapter = codes "ca"
type_word Switch = codes "switch"
type_word Router = codes "router"
