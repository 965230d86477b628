-- The cells that a walk gives are the store's, and say what is known.
use Rattle.std.proofs.Common.{◌≡◌, ℕ, Bool, true, ◌&&◌, [], ◌∷◌, ◌++◌, sym, ap, ◌∙◌}
use Rattle.std.proofs.lemmas.List.{append_assoc}
use Rattle.std.specs.Prelude.{Contains, Option, None, Some, is_some, option_map, if◌then◌else◌}
use Rattle.smp_bytes.specs.declared.node_type.NodeType.{NodeType}
use Rattle.fact_join.specs.declared.cell.Cell.{Cell}
use Rattle.reply_facts.specs.declared.key.Key.{Key}
use Rattle.reply_facts.specs.declared.key.Key.TheVariants.{Node, PortGuid}
use Rattle.reply_facts.specs.declared.value.Value.{Value}
use Rattle.reply_facts.specs.Known.{guid_in, kind_in, value_in, cap_of, known_in, port_guid_of}
use Rattle.fact_store.specs.View.{Facts, cell_for, cells_of}
use Rattle.fact_store.proofs.Entries.{cell_is_found}
use Rattle.fact_store.proofs.Orders.{contained_get}
use Rattle.subnet_view.specs.Reading.{Cells, is_switch_in, usable_guid}
use Rattle.subnet_view.specs.declared.end_port.EndPort.{EndPort}
use Rattle.subnet_view.specs.EndPort.{guid_and_port, is_end_port_number}
use Rattle.subnet_view.proofs.Members.{contains_here, contains_later, contains_in}

-- what stands between two lists
contains_between : (given rest : Cells) (x : Key × Cell Value) → Contains (given ++ x ∷ rest) x
contains_between [] rest x = contains_here x rest
contains_between (y ∷ given) rest x = contains_later y x (given ++ x ∷ rest) (contains_between given rest x)

-- the next cell of a walk is that of its key
pub cell_given : (facts : Facts) (given left rest : Cells) (x : Key × Cell Value) → given ++ left ≡ cells_of facts → left ≡ x ∷ rest
    → cell_for facts x.0 ≡ Some x.1
cell_given facts given left rest x all next =
    contained_get facts.found x.0 x.1 (contains_in x (ap (λ (s : Cells). given ++ s) (sym next) ∙ all) (contains_between given rest x))

-- and then one more was given
pub given_more : (cells given left rest : Cells) (x : Key × Cell Value) → given ++ left ≡ cells → left ≡ x ∷ rest
    → (given ++ x ∷ []) ++ rest ≡ cells
given_more cells given left rest x all next = append_assoc given (x ∷ []) rest ∙ ap (λ (s : Cells). given ++ s) (sym next) ∙ all

-- a key's cell says what is known of it
pub known_by_cell : (facts : Facts) (key : Key) (c : Cell Value) → cell_for facts key ≡ Some c
    → known_in (cells_of facts) key ≡ value_in (Some c)
known_by_cell facts key c e = ap value_in (sym (cell_is_found facts key) ∙ e)

-- an end port with its port GUID, where it is known
abbrev pub end_at : ℕ → ℕ → Option ℕ → Option (ℕ × EndPort)
end_at g p guid = option_map (λ n. (n, record { node = g; port = p })) guid

-- the port GUID of an end port's cell is what the cell says
pub guid_at : (facts : Facts) (s : Key × Cell Value) (g p : ℕ) → cell_for facts s.0 ≡ Some s.1 → s.0 ≡ PortGuid g p
    → is_end_port_number (cells_of facts) g p ≡ true
    → guid_and_port (cells_of facts) s ≡ end_at g p (guid_in (value_in (Some s.1)))
guid_at facts s g p held is there =
    let known : known_in (cells_of facts) (PortGuid g p) ≡ value_in (Some s.1)
    = known_by_cell facts (PortGuid g p) s.1 (ap (cell_for facts) (sym is) ∙ held) in
    ap (λ (k : Key). guid_and_port (cells_of facts) (k, s.1)) is
    ∙ ap (λ (b : Bool). if b then end_at g p (port_guid_of (cells_of facts) g p) else None) there
    ∙ ap (λ (o : Option Value). end_at g p (guid_in o)) known

-- a switch whose table room is known, by what a cell says of its node
abbrev pub usable_said : ℕ → Option (NodeType × ℕ) → Bool → Option ℕ
usable_said g node capped = if is_switch_in node && capped then Some g else None

-- a node's cell says whether it is a switch
pub usable_at : (facts : Facts) (s : Key × Cell Value) (g : ℕ) → cell_for facts s.0 ≡ Some s.1 → s.0 ≡ Node g
    → usable_guid (cells_of facts) s ≡ usable_said g (kind_in (value_in (Some s.1))) (is_some (cap_of (cells_of facts) g))
usable_at facts s g held is =
    ap (λ (k : Key). usable_guid (cells_of facts) (k, s.1)) is
    ∙ ap (λ (o : Option Value). usable_said g (kind_in o) (is_some (cap_of (cells_of facts) g)))
    (known_by_cell facts (Node g) s.1 (ap (cell_for facts) (sym is) ∙ held))
