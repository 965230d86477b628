-- A small fabric that holds the plan of the facts that tell of it, with LMC 1: three switches in a triangle, with an adapter on the second and on the third.
use Rattle.std.proofs.Common.{◌≡◌, ℕ, suc, true, List, [], ◌∷◌, ◌++◌, map}
use Rattle.std.specs.Prelude.{slice_index_or}
use Rattle.fabric_model.specs.declared.cable.Cable.{Cable}
use Rattle.smp_bytes.specs.declared.node_type.NodeType.TheVariants.{ChannelAdapter, Switch}
use Rattle.fabric_model.specs.Cables.{other_end}
use Rattle.fabric_model.specs.Fabric.{Node, Fabric}
use Rattle.fabric_model.proofs.FabricWalks.{port_at}
use Rattle.fact_join.specs.declared.cell.Cell.{Cell}
use Rattle.fact_join.specs.declared.cell.Cell.TheVariants.{Known}
use Rattle.reply_facts.specs.declared.key.Key.{Key}
use Rattle.reply_facts.specs.declared.key.Key.TheVariants as key
use Rattle.reply_facts.specs.declared.value.Value.{Value}
use Rattle.reply_facts.specs.declared.value.Value.TheVariants.{Kind, Guid, Peer, Up, Count}
use Rattle.fact_store.specs.View.{Facts, view, cells_of}
use Rattle.fact_store.proofs.Entries.{entries-view}
use Rattle.subnet_view.specs.Reading.{Cells}

-- the fabric: nodes 0 to 2 are the switches, 3 and 4 the adapters -----------------------------

abbrev pub switch : ℕ → Node
switch g = record { guid = g; kind = Switch; ports = 4; cap = 1024; port_guid = λ p. g }

abbrev pub adapter : ℕ → Node
adapter g = record { guid = g; kind = ChannelAdapter; ports = 1; cap = 0; port_guid = λ p. suc g }

abbrev cable : ℕ → ℕ → ℕ → ℕ → Cable
cable n p m q = record { one = port_at n p; other = port_at m q }

abbrev pub cables : List Cable
cables = cable 0 1 1 1 ∷ cable 0 2 2 1 ∷ cable 1 2 2 2 ∷ cable 1 3 3 1 ∷ cable 2 3 4 1 ∷ []

-- what each switch's table has for the LIDs from 0 to 7, of which each adapter has two; it has 255 for all others
abbrev pub tables : List (List ℕ)
tables =
    (255 ∷ 0 ∷ 1 ∷ 2 ∷ 1 ∷ 1 ∷ 2 ∷ 2 ∷ [])
    ∷ (255 ∷ 1 ∷ 0 ∷ 2 ∷ 3 ∷ 3 ∷ 2 ∷ 2 ∷ [])
    ∷ (255 ∷ 1 ∷ 2 ∷ 0 ∷ 2 ∷ 2 ∷ 3 ∷ 3 ∷ [])
    ∷ []

abbrev pub triangle : Fabric
triangle =
    record {
      nodes = switch 16 ∷ switch 32 ∷ switch 48 ∷ adapter 256 ∷ adapter 512 ∷ [];
      across = other_end cables;
      base_lid = λ p. slice_index_or (1 ∷ 2 ∷ 3 ∷ 4 ∷ 6 ∷ []) p.node 0;
      lmc = λ p. slice_index_or (0 ∷ 0 ∷ 0 ∷ 1 ∷ 1 ∷ []) p.node 0;
      entry = λ n lid. slice_index_or (slice_index_or tables n []) lid 255;
      top = λ n. 7;
    }

-- the facts -------------------------------------------------------------------------------------

abbrev told : Key → Value → Key × Cell Value
told k value = (k, Known 1 value)

-- a wire out of a port of a node, to a port of another
pub record NamedWire : Type 0 where
  pub guid : ℕ
  pub port : ℕ
  pub peer : ℕ
  pub via : ℕ

abbrev wire : ℕ → ℕ → ℕ → ℕ → NamedWire
wire g p h q = record { guid = g; port = p; peer = h; via = q }

abbrev pub wires : List NamedWire
wires =
    wire 16 1 32 1 ∷ wire 16 2 48 1 ∷ wire 32 1 16 1 ∷ wire 32 2 48 2 ∷ wire 32 3 256 1
    ∷ wire 48 1 16 2 ∷ wire 48 2 32 2 ∷ wire 48 3 512 1 ∷ wire 256 1 32 3 ∷ wire 512 1 48 3 ∷ []

abbrev pub nodes_told : Cells
nodes_told =
    told (key.Node 16) (Kind Switch 4) ∷ told (key.Node 32) (Kind Switch 4) ∷ told (key.Node 48) (Kind Switch 4)
    ∷ told (key.Node 256) (Kind ChannelAdapter 1) ∷ told (key.Node 512) (Kind ChannelAdapter 1) ∷ []

abbrev pub ports_told : Cells
ports_told =
    told (key.PortGuid 16 0) (Guid 16) ∷ told (key.PortGuid 32 0) (Guid 32) ∷ told (key.PortGuid 48 0) (Guid 48)
    ∷ told (key.PortGuid 256 1) (Guid 257) ∷ told (key.PortGuid 512 1) (Guid 513) ∷ []

abbrev pub link_told : NamedWire → Key × Cell Value
link_told w = told (key.Link w.guid w.port) (Peer w.peer w.via)

abbrev pub up_told : NamedWire → Key × Cell Value
up_told w = told (key.Port w.guid w.port) (Up true)

abbrev pub caps_told : Cells
caps_told = told (key.Cap 16) (Count 1024) ∷ told (key.Cap 32) (Count 1024) ∷ told (key.Cap 48) (Count 1024) ∷ []

abbrev pub cells : Cells
cells = nodes_told ++ ports_told ++ map link_told wires ++ map up_told wires ++ caps_told

pub facts : Facts
facts = view cells

-- the facts have these cells
pub facts_have : cells_of facts ≡ cells
unfolding facts
facts_have = entries-view cells
