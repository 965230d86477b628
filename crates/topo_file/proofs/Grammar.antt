-- What lines tell is in its ranges.
use Rattle.std.proofs.Common.{◌≡◌, ℕ, ◌<◌, ◌≤◌, ◌^◌, List, [], ◌∷◌, Option, sym, arith}
use Rattle.std.specs.Prelude.{IfSome, IsTrue, Some, None, codes}
use Rattle.std.specs.Str.{bytes_eq}
use Rattle.smp_bytes.specs.declared.node_type.NodeType.{NodeType}
use Rattle.smp_bytes.specs.declared.node_type.NodeType.TheVariants.{ChannelAdapter, Switch, Router}
use Rattle.topo_file.specs.declared.topology_line.TopologyLine.{TopologyLine}
use Rattle.topo_file.specs.declared.topology_line.TopologyLine.TheVariants.{Empty, Node, Link}
use Rattle.topo_file.specs.declared.topology_line.NodeLine.{NodeLine}
use Rattle.text_words.specs.Text.{words}
use Rattle.text_words.specs.NodeName.{is_name}
use Rattle.text_words.specs.Numbers.{count_of, guid_of}
use Rattle.text_words.specs.Quoted.{quoted_name, bracketed_port, named_port}
use Rattle.text_words.proofs.Ranges.{then_some, mapped, tested, IsWithin, count_range, guid_range, quoted_range, bracketed_range, named_range}
use Rattle.topo_file.specs.TopologyLine.{kind_of, cap_of, node_line, link_line, line_of_kind, line_in, line_of}
use Rattle.topo_file.specs.ReadingLaws.{IsLinkLine}

-- the room that a kind of node may have
abbrev pub HasRoom : NodeType → ℕ → Type 0
HasRoom Switch c = (1 ≤ c) × (c ≤ 0xC000)
HasRoom ChannelAdapter c = c ≡ 0
HasRoom Router c = ⊥

abbrev MayHaveRoom : NodeType → Option ℕ → Type 0
MayHaveRoom kind o = (c : ℕ) → o ≡ Some c → HasRoom kind c

cap_range : (kind : NodeType) (rest : List (List ℕ)) → IfSome (cap_of kind rest) (MayHaveRoom kind)
cap_range Switch [] = λ c e. let same : 1024 ≡ c = cc in (omega arith, omega arith)
cap_range Switch (word ∷ []) = tt
cap_range Switch (word ∷ cap ∷ []) = tested (MayHaveRoom Switch) (bytes_eq word (codes "cap")) (count_of 0xC000 cap) (λ _. count_range 0xC000 cap)
cap_range Switch (word ∷ cap ∷ more ∷ rest) = tt
cap_range ChannelAdapter [] = λ c e. let same : 0 ≡ c = cc in sym same
cap_range ChannelAdapter (word ∷ rest) = tt
cap_range Router rest = tt

-- a node's line
pub record IsNodeLine (node : NodeLine) : Type 0 where
  pub ports : IsWithin 254 node.ports
  pub named : IsTrue (is_name node.name)
  pub guid : node.guid < 2 ^ 64
  pub room : MayHaveRoom node.kind node.cap

node_range : (kind : NodeType) (words : List (List ℕ)) → IfSome (node_line kind words) IsNodeLine
node_range kind [] = tt
node_range kind (a ∷ []) = tt
node_range kind (a ∷ b ∷ []) = tt
node_range kind (a ∷ b ∷ c ∷ []) = tt
node_range kind (ports ∷ name ∷ word ∷ guid ∷ rest) =
    tested IsNodeLine (bytes_eq word (codes "guid")) _ (λ _.
    then_some (IsWithin 254) IsNodeLine (count_of 254 ports) _ (count_range 254 ports) (λ p ps.
    then_some (λ n. IsTrue (is_name n)) IsNodeLine (quoted_name name) _ (quoted_range name) (λ n ns.
    then_some (λ g. g < 2 ^ 64) IsNodeLine (guid_of guid) _ (guid_range guid) (λ g gs.
    mapped (MayHaveRoom kind) IsNodeLine (cap_of kind rest) _ (cap_range kind rest) (λ c cs. record { ports = ps; named = ns; guid = gs; room = cs })))))

link_range : (words : List (List ℕ)) → IfSome (link_line words) IsLinkLine
link_range [] = tt
link_range (a ∷ []) = tt
link_range (port ∷ end ∷ []) =
    then_some (IsWithin 254) IsLinkLine (bracketed_port port) _ (bracketed_range port) (λ p ps.
    mapped (λ x. IsWithin 254 x.1) IsLinkLine (named_port end) _ (named_range end)
    (λ x qs. record { port = λ k e. (ps k e).0; peer_port = λ k e. (qs k e).0 }))
link_range (a ∷ b ∷ c ∷ rest) = tt

abbrev pub IsLine : TopologyLine → Type 0
IsLine Empty = Unit {0}
IsLine (Node node) = IsNodeLine node
IsLine (Link link) = IsLinkLine link

kind_range : (kind : Option NodeType) (word : List ℕ) (rest : List (List ℕ)) → IfSome (line_of_kind kind (word ∷ rest)) IsLine
kind_range (Some kind) word rest = mapped IsNodeLine IsLine (node_line kind rest) Node (node_range kind rest) (λ n h. h)
kind_range None word rest = mapped IsLinkLine IsLine (link_line (word ∷ rest)) Link (link_range (word ∷ rest)) (λ l h. h)

line_range : (words : List (List ℕ)) → IfSome (line_in words) IsLine
line_range [] = tt
line_range (word ∷ rest) = kind_range (kind_of word) word rest

pub line_fits : (line : List ℕ) → IfSome (line_of line) IsLine
unfolding line_of
line_fits line = line_range (words line)
