-- The first fault of a topology's lines, except for faults of its links, found from the names of the nodes alone.
use Rattle.std.specs.Prelude.{◌≡◌, ℕ, ◌+◌, Bool, false, List, [], ◌∷◌, ◌++◌, Option, None, Some, Result, Ok, Err, length, nat_lt, if◌then◌else◌}
use Rattle.std.specs.List.{list_any}
use Rattle.std.specs.Option.{option_map_or}
use Rattle.std.specs.Str.{bytes_eq}
use Rattle.text_words.specs.Text.{lines}
use Rattle.topo_file.specs.declared.topo_fault.TopoFault.{TopoFault}
use Rattle.topo_file.specs.declared.topo_fault.TopoFault.TheVariants.{Syntax, Name, TooManyNodes}
use Rattle.topo_file.specs.declared.topology_line.TopologyLine.{TopologyLine}
use Rattle.topo_file.specs.declared.topology_line.TopologyLine.TheVariants as line
use Rattle.topo_file.specs.TopologyLine.{line_of}
use Rattle.topo_file.specs.Reading.{◌>>=◌, node_of, nodes_of_lines}

-- the fault of a result; None if it is a value
abbrev pub fault_of : {T : Type 0} → Result T TopoFault → Option TopoFault
fault_of (Ok value) = None
fault_of (Err fault) = Some fault

-- the first fault of the lines of `text`; None if they have none. Three faults of links do not count: a peer that does
-- not exist, a port that does not exist, and a port with two links
unfoldable pub first_line_fault : List ℕ → Option TopoFault
first_line_fault text = fault_of (nodes_of_lines (lines text))

-- whether `name` is one of `names`
abbrev pub is_used : List (Option (List ℕ)) → List ℕ → Bool
is_used names name = list_any (λ used. option_map_or (λ n. bytes_eq n name) used false) names

-- `names` with `name` appended, or the fault of line `number`: the name is used, or there are 1,024 names already
abbrev pub with_new_name : ℕ → List (Option (List ℕ)) → List ℕ → Result (List (Option (List ℕ))) TopoFault
with_new_name number names name =
    if is_used names name then Err (Name number)
    else (if nat_lt (length names) 1024 then Ok (names ++ Some name ∷ []) else Err (TooManyNodes number))

-- `names`, or the fault of the line `number`, which is a link, if there is no node above it
abbrev pub below_node : ℕ → List (Option (List ℕ)) → Result (List (Option (List ℕ))) TopoFault
below_node number [] = Err (Syntax number)
below_node number (name ∷ names) = Ok (name ∷ names)

-- `names` with the name in a line appended, if it is the line of a node, or the line's fault
abbrev pub with_name : ℕ → List (Option (List ℕ)) → Option TopologyLine → Result (List (Option (List ℕ))) TopoFault
with_name number names None = Err (Syntax number)
with_name number names (Some line.Empty) = Ok names
with_name number names (Some (line.Node node)) = node_of number node >>= λ n. with_new_name number names n.name
with_name number names (Some (line.Link link)) = below_node number names

-- `names` with the names in the lines appended, or the first fault; the first line has the number `number`
abbrev pub with_names : ℕ → List (Option (List ℕ)) → List (List ℕ) → Result (List (Option (List ℕ))) TopoFault
with_names number names [] = Ok names
with_names number names (line ∷ later) =
    with_name number names (line_of line) >>= λ now. with_names (number + 1) now later

-- a call that should give the first result did so: it left the value in this result as `new`, or returned the fault
-- in it
abbrev pub Leaves : {T : Type 0} → Result T TopoFault → Result (Unit {0}) TopoFault → T → Type 0
Leaves (Ok now) (Ok u) new = new ≡ now
Leaves (Err fault) (Err answered) new = answered ≡ fault
Leaves _ _ new = ⊥
