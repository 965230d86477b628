-- The ports that can have a wire, with the far ends of their links, found in one walk.
use Rattle.std.specs.Prelude.{◌≡◌, ℕ, Bool, false, Option, None, Some, List, is_some, option_map, ◌&&◌, not, if◌then◌else◌}
use Rattle.std.specs.Option.{option_map_or}
use Rattle.std.specs.List.{filter_map}
use Rattle.std.specs.FinMap.{find}
use Rattle.smp_bytes.specs.declared.node_type.NodeType.{NodeType}
use Rattle.smp_bytes.specs.Ports.{is_within}
use Rattle.fact_join.specs.declared.cell.Cell.{Cell}
use Rattle.reply_facts.specs.declared.key.Key.{Key}
use Rattle.reply_facts.specs.declared.key.Key.TheVariants.{Node, PortGuid, Link, Port, Cap}
use Rattle.reply_facts.specs.declared.value.Value.{Value}
use Rattle.reply_facts.specs.Key.{key_cmp}
use Rattle.reply_facts.specs.Known.{peer_in, value_in, node_of, port_guid_of, link_of, cap_of}
use Rattle.subnet_view.specs.declared.port_reader.PortReader.{PortReader}
use Rattle.subnet_view.specs.Reading.{Cells, is_up, is_switch_in}
use Rattle.subnet_view.specs.CellCursor.{KeepsFrom, is_before}
use Rattle.subnet_view.specs.Wires.{is_at, is_wire_end}

-- the far end of the link in port `p` of node `g`; None if it is not known, or if the port cannot have a wire
abbrev pub end_link : Cells → ℕ → ℕ → Option (ℕ × ℕ)
end_link cells g p = if is_wire_end cells g p then link_of cells g p else None

-- the port whose link a cell gives, and the far end of this link. None if the cell is not of a link, if the link is
-- disputed, or if the port cannot have a wire
abbrev pub wire_end : Cells → Key × Cell Value → Option ((ℕ × ℕ) × (ℕ × ℕ))
wire_end cells ((Link g p), c) = option_map (λ q. ((g, p), q)) (end_link cells g p)
wire_end cells (_, c) = None

-- all ports that can have a wire and whose links are known, each with the far end of its link, in ascending order of
-- GUID and port
abbrev pub wire_ends : Cells → List ((ℕ × ℕ) × (ℕ × ℕ))
wire_ends cells = filter_map (wire_end cells) cells

-- whether `near` and `far` are different ports and `back` is `near`; false if `back` is None. `back` is the far end of
-- the link at `far`
abbrev pub is_pair : ℕ × ℕ → ℕ × ℕ → Option (ℕ × ℕ) → Bool
is_pair near far back = not (is_at near.0 near.1 far) && option_map_or (is_at near.0 near.1) back false

-- according to what a reader has left: -----------------------------------------------------------

-- the number of ports in `node`, which is what is known of a node; 0 if nothing is known
abbrev pub count_of : Option (NodeType × ℕ) → ℕ
count_of node = option_map_or (λ n. n.1) node 0

-- whether port `p` of node `g` can have a wire, according to the cells that the reader has not passed
abbrev pub is_end_read : PortReader → ℕ → ℕ → Bool
is_end_read r g p = let node = node_of r.nodes g in is_up r.ports g p && is_within p (count_of node)
    && (if is_switch_in node then is_some (cap_of r.caps g) else is_some (port_guid_of r.guids g p))

-- the port whose link a cell gives, and the far end of this link, according to the cells that the reader has not
-- passed. None if the cell is not of a link, if the link is disputed, or if the port cannot have a wire
abbrev pub end_read : PortReader → Key × Cell Value → Option ((ℕ × ℕ) × (ℕ × ℕ))
end_read r ((Link g p), c) =
    if is_end_read r g p then option_map (λ q. ((g, p), q)) (peer_in (value_in (Some c))) else None
end_read r (_, c) = None

-- the reader has not passed what `cells` say of node `g` and of its port `p`
pub record HasNotPassed (cells : Cells) (r : PortReader) (g p : ℕ) : Type 0 where
  pub node : find key_cmp (Node g) r.nodes ≡ find key_cmp (Node g) cells
  pub guid : find key_cmp (PortGuid g p) r.guids ≡ find key_cmp (PortGuid g p) cells
  pub port : find key_cmp (Port g p) r.ports ≡ find key_cmp (Port g p) cells
  pub cap : find key_cmp (Cap g) r.caps ≡ find key_cmp (Cap g) cells

-- from `old` to `new`, the reader passes nothing about a port if the key of the port's link is `key` or a later key
abbrev pub PassesNone : Key → PortReader → PortReader → Type 0
PassesNone key old new = (cells : Cells) (h q : ℕ) → is_before (Link h q) key ≡ false → HasNotPassed cells old h q
    → HasNotPassed cells new h q

-- from `old` to `new`, the reader passes nothing about port `p` of node `g` or about later ports
pub record KeepsPort (g p : ℕ) (old new : PortReader) : Type 0 where
  pub node : KeepsFrom (Node g) old.nodes new.nodes
  pub guid : KeepsFrom (PortGuid g p) old.guids new.guids
  pub port : KeepsFrom (Port g p) old.ports new.ports
  pub cap : KeepsFrom (Cap g) old.caps new.caps

-- the reader has passed none of `cells`
pub record ReadsAll (cells : Cells) (r : PortReader) : Type 0 where
  pub node : r.nodes ≡ cells
  pub guid : r.guids ≡ cells
  pub port : r.ports ≡ cells
  pub cap : r.caps ≡ cells
