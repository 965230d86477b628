-- The names of the nodes alone tell the first fault of a text's lines.
use Rattle.std.proofs.Common.{◌≡◌, ℕ, ◌+◌, ◌≤◌, Bool, true, false, List, [], ◌∷◌, ◌++◌, Option, None, Some, Result, Ok, Err, length, refl, sym, ap, subst, ◌∙◌, zero, suc, arith}
use Rattle.std.specs.Prelude.{map, is_some, option_map, nat_lt, ◌||◌, if◌then◌else◌}
use Rattle.std.specs.Str.{bytes_eq}
use Rattle.text_words.specs.Text.{lines}
use Rattle.topo_file.specs.declared.draft.LinkAt.{LinkAt}
use Rattle.topo_file.specs.declared.topo_fault.TopoFault.{TopoFault}
use Rattle.topo_file.specs.declared.topo_fault.TopoFault.TheVariants.{Syntax, Name, Ports, Peer, Port, Linked, GuidRange, TooManyNodes, Memory}
use Rattle.topo_file.specs.declared.topology_line.TopologyLine.{TopologyLine}
use Rattle.topo_file.specs.declared.topology_line.TopologyLine.TheVariants as line
use Rattle.topo_file.specs.declared.topology_line.LinkLine.{LinkLine}
use Rattle.topo_file.specs.declared.node.Node.{Node}
use Rattle.topo_file.specs.TopologyLine.{line_of}
use Rattle.topo_file.specs.Topology.{id_of}
use Rattle.topo_file.specs.Reading.{◌>>=◌, Lines, node_of, nodes_of_lines, topology_in, topology_of, node_with, is_beyond, with_line, with_lines, with_link_line, with_node}
use Rattle.topo_file.specs.TopoFault.{IsRefused}
use Rattle.topo_file.specs.declared.topology_line.NodeLine.{NodeLine}
use Rattle.topo_file.proofs.Folds.{refused_then}
use Rattle.topo_file.specs.FirstFault.{below_node, fault_of, first_line_fault, is_used, with_name, with_names, with_new_name}

-- the names of nodes
abbrev names_of : List Node → List (Option (List ℕ))
names_of nodes = map (λ node. Some node.name) nodes

names_count : (nodes : List Node) → length (names_of nodes) ≡ length nodes
names_count [] = refl
names_count (node ∷ nodes) = ap suc (names_count nodes)

names_more : (nodes : List Node) (node : Node) → names_of (nodes ++ node ∷ []) ≡ names_of nodes ++ Some node.name ∷ []
names_more [] node = refl
names_more (first ∷ nodes) node = ap (λ names. Some first.name ∷ names) (names_more nodes node)

still_some : (o : Option ℕ) → is_some (option_map suc o) ≡ is_some o
still_some None = refl
still_some (Some n) = refl

used_same : (nodes : List Node) (name : List ℕ) → is_used (names_of nodes) name ≡ is_some (id_of nodes name)
used_same [] name = refl
used_same (node ∷ nodes) name =
    elim (bytes_eq node.name name) as (λ b. (b || is_used (names_of nodes) name) ≡ is_some (if b then Some 0 else option_map suc (id_of nodes name))) [
      | true ↦ refl
      | false ↦ used_same nodes name ∙ sym (still_some (id_of nodes name))
    ]

-- what lines tell, by the names of its nodes
abbrev seen : Result Lines TopoFault → Result (List (Option (List ℕ))) TopoFault
seen (Ok told) = Ok (names_of told.nodes)
seen (Err fault) = Err fault

tested : (a b : Bool) (number : ℕ) (before : Lines) (node : Node)
    → seen ((if a then Err (Name number) else (if b then Ok (before.nodes ++ node ∷ []) else Err (TooManyNodes number))) >>= λ nodes. Ok
    (record before { nodes = nodes }))
    ≡ (if a then Err (Name number) else (if b then Ok (names_of before.nodes ++ Some node.name ∷ []) else Err (TooManyNodes number)))
tested true b number before node = refl
tested false true number before node = ap Ok (names_more before.nodes node)
tested false false number before node = refl

node_same : (number : ℕ) (before : Lines) (node : Result Node TopoFault)
    → seen (node >>= with_node number before.nodes >>= λ nodes. Ok (record before { nodes = nodes }))
    ≡ (node >>= λ n. with_new_name number (names_of before.nodes) n.name)
node_same number before (Err fault) = refl
node_same number before (Ok node) =
    tested (is_some (id_of before.nodes node.name)) (nat_lt (length before.nodes) 1024) number before node
    ∙ ap (λ a. if a then Err (Name number) else (if nat_lt (length before.nodes) 1024 then Ok (names_of before.nodes ++ Some node.name
    ∷ []) else Err (TooManyNodes number))) (sym (used_same before.nodes node.name))
    ∙ ap (λ n. if is_used (names_of before.nodes) node.name then Err (Name number) else (if nat_lt n 1024 then Ok (names_of before.nodes ++ Some node.name
    ∷ []) else Err (TooManyNodes number))) (sym (names_count before.nodes))

link_same : (number : ℕ) (nodes : List Node) (links : List LinkAt) (link : LinkLine)
    → seen (with_link_line number (length nodes) links link >>= λ now. Ok (record { nodes = nodes; links = now })) ≡ below_node number (names_of nodes)
link_same number [] links link = refl
link_same number (node ∷ nodes) links link = refl

line_same : (number : ℕ) (before : Lines) (told : Option TopologyLine) → seen (with_line number before told) ≡ with_name number (names_of before.nodes) told
line_same number before None = refl
line_same number before (Some line.Empty) = refl
line_same number before (Some (line.Node node)) = node_same number before (node_of number node)
line_same number before (Some (line.Link link)) = link_same number before.nodes before.links link

then_same : (told : Result Lines TopoFault) (names : Result (List (Option (List ℕ))) TopoFault)
    (f : Lines → Result Lines TopoFault) (g : List (Option (List ℕ)) → Result (List (Option (List ℕ))) TopoFault)
    → seen told ≡ names → ((now : Lines) → fault_of (f now) ≡ fault_of (g (names_of now.nodes))) → fault_of (told >>= f) ≡ fault_of (names >>= g)
then_same (Ok now) names f g e h = h now ∙ ap (λ r. fault_of (r >>= g)) e
then_same (Err fault) names f g e h = ap (λ r. fault_of (r >>= g)) e

lines_same : (number : ℕ) (before : Lines) (ls : List (List ℕ)) → fault_of (with_lines number before ls)
    ≡ fault_of (with_names number (names_of before.nodes) ls)
lines_same number before [] = refl
lines_same number before (l ∷ ls) =
    then_same (with_line number before (line_of l)) (with_name number (names_of before.nodes) (line_of l)) (λ now. with_lines (number
    + 1) now ls) (λ now. with_names (number + 1) now ls)
    (line_same number before (line_of l)) (λ now. lines_same (number + 1) now ls)

-- the lines so far left these names, and their fault is that of the lines to come
pub record HasJudged (text rest : List ℕ) (names : List (Option (List ℕ))) (number : ℕ) : Type 0 where
  pub told : fault_of (with_names (number + 1) names (lines rest)) ≡ first_line_fault text
  pub counted : number + length rest ≤ length text

pub judged_none : (text : List ℕ) → HasJudged text text [] 0
unfolding first_line_fault
judged_none text = record {
  told = sym (lines_same 1 (record { nodes = []; links = [] }) (lines text));
  counted = omega arith;
}

-- no text says that memory is wanting -----------------------------------------------------------

-- it is a value, or a fault that is not out of memory
abbrev IsPlain : {T : Type 0} → Result T TopoFault → Type 0
IsPlain (Err Memory) = ⊥
IsPlain _ = Unit {0}

plain_then : {A B : Type 0} (r : Result A TopoFault) (f : A → Result B TopoFault) → IsPlain r → ((x : A) → IsPlain (f x)) → IsPlain (r >>= f)
plain_then (Ok x) f p q = q x
plain_then (Err Memory) f p q = absurd p
plain_then (Err (Syntax line)) f p q = tt
plain_then (Err (Name line)) f p q = tt
plain_then (Err (Ports line)) f p q = tt
plain_then (Err (Peer line)) f p q = tt
plain_then (Err (Port line)) f p q = tt
plain_then (Err (Linked line)) f p q = tt
plain_then (Err (GuidRange line)) f p q = tt
plain_then (Err (TooManyNodes line)) f p q = tt

plain_either : {T : Type 0} (b : Bool) (x y : Result T TopoFault) → IsPlain x → IsPlain y → IsPlain (if b then x else y)
plain_either true x y p q = p
plain_either false x y p q = q

node_plain : (number : ℕ) (node : NodeLine) (ports cap : Option ℕ) → IsPlain (node_with number node ports cap)
node_plain number node (Some ports) (Some cap) = plain_either (is_beyond node ports) _ _ tt tt
node_plain number node (Some ports) None = tt
node_plain number node None cap = tt

with_plain : (number : ℕ) (nodes : List Node) (node : Node) → IsPlain (with_node number nodes node)
with_plain number nodes node = plain_either (is_some (id_of nodes node.name)) _ _ tt (plain_either (nat_lt (length nodes) 1024) _ _ tt tt)

below_plain : (number count : ℕ) (links : List LinkAt) (link : LinkLine) → IsPlain (with_link_line number count links link)
below_plain number zero links link = tt
below_plain number (suc last) links link = tt

line_plain : (number : ℕ) (before : Lines) (told : Option TopologyLine) → IsPlain (with_line number before told)
line_plain number before None = tt
line_plain number before (Some line.Empty) = tt
line_plain number before (Some (line.Node node)) =
    plain_then (node_of number node >>= with_node number before.nodes) _
    (plain_then (node_of number node) (with_node number before.nodes) (node_plain number node node.ports node.cap) (with_plain number before.nodes))
    (λ nodes. tt)
line_plain number before (Some (line.Link link)) =
    plain_then (with_link_line number (length before.nodes) before.links link) _ (below_plain number (length before.nodes) before.links link) (λ links. tt)

lines_plain : (number : ℕ) (before : Lines) (ls : List (List ℕ)) → IsPlain (with_lines number before ls)
lines_plain number before [] = tt
lines_plain number before (l ∷ ls) =
    plain_then (with_line number before (line_of l)) _ (line_plain number before (line_of l)) (λ now. lines_plain (number + 1) now ls)

-- what is answered ------------------------------------------------------------------------------

refuses : {T : Type 0} (fault : TopoFault) (told : Result T TopoFault) → told ≡ Err fault → IsRefused fault told
refuses Memory told e = tt
refuses (Syntax line) told e = e
refuses (Name line) told e = e
refuses (Ports line) told e = e
refuses (Peer line) told e = e
refuses (Port line) told e = e
refuses (Linked line) told e = e
refuses (GuidRange line) told e = e
refuses (TooManyNodes line) told e = e

told_fault : (told : Result Lines TopoFault) (fault : TopoFault) → fault_of told ≡ Some fault → told ≡ Err fault
told_fault (Ok told) fault e = absurd (cc)
told_fault (Err f) fault e = cc

-- the first fault of the lines is the first of the text
pub first_refuses : (text : List ℕ) (fault : TopoFault) → first_line_fault text ≡ Some fault → IsRefused fault (topology_of text)
unfolding first_line_fault topology_of
first_refuses text fault e =
    refused_then fault (nodes_of_lines (lines text)) topology_in
    (refuses fault (nodes_of_lines (lines text)) (told_fault (nodes_of_lines (lines text)) fault e))

-- and it is never out of memory
pub first_plain : (text : List ℕ) → first_line_fault text ≡ Some Memory → ⊥
unfolding first_line_fault
first_plain text e =
    let told = told_fault (nodes_of_lines (lines text)) Memory e in
    subst (λ (r : Result Lines TopoFault). IsPlain r) told (lines_plain 1 (record { nodes = []; links = [] }) (lines text))

-- lines that tell something have no fault
pub told_soundly : (text : List ℕ) (told : Lines) → nodes_of_lines (lines text) ≡ Ok told → first_line_fault text ≡ None
unfolding first_line_fault
told_soundly text told e = ap fault_of e
