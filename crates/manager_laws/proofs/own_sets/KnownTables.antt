-- A usable switch that is known only by what is true has a table that is as long as the room for LIDs, and as many ports
-- as are known.
use Rattle.std.proofs.Common.{◌≡◌, ◌≤◌, ℕ, true, refl, sym, ap, ◌∙◌, subst}
use Rattle.std.proofs.lemmas.Option.{same_Some}
use Rattle.std.specs.Prelude.{Contains, IsSome, Option, Some, None}
use Rattle.std.specs.List.{AllByRecursion}
use Rattle.std.specs.Option.{option_map_or}
use Rattle.smp_bytes.specs.declared.node_type.NodeType.{NodeType}
use Rattle.smp_bytes.specs.declared.node_type.NodeType.TheVariants.{Switch}
use Rattle.smp_bytes.specs.NodeType.{is_switch}
use Rattle.fabric_model.specs.Fabric as fabric
use Rattle.fabric_model.specs.Fabric.{Fabric}
use Rattle.reply_facts.specs.declared.key.Key.TheVariants.{Cap, Node}
use Rattle.reply_facts.specs.declared.value.Value.{Value}
use Rattle.reply_facts.specs.declared.value.Value.TheVariants.{Count, Kind}
use Rattle.reply_facts.specs.Known.{cap_of, count_in, kind_in, known_in, node_of}
use Rattle.reply_facts.specs.Report.{Sightings}
use Rattle.fact_store.specs.View.{cells_of, view}
use Rattle.subnet_view.specs.Reading.{Cells, port_count_of, switches}
use Rattle.subnet_view.proofs.UsableSwitches.{switches_law}
use Rattle.lid_assign.specs.Claims.{room}
use Rattle.manager_laws.specs.Truth.{AreGuidsDistinct, HasNode, IsTrueSighting}
use Rattle.manager_laws.proofs.Known.{same_node, sighted_of, true_sighting}
use Rattle.manager_laws.proofs.own_sets.Rooms.{room_in_table}

-- the node is a switch, with a table that is as long as the room for LIDs, and the ports that are known of it
pub record HasTable (cells : Cells) (node : fabric.Node) : Type 0 where
  pub switch : is_switch node.kind ≡ true
  pub long : room cells ≤ node.cap
  pub ports : port_count_of cells node.guid ≡ node.ports

count_known : (o : Option Value) (n : ℕ) → count_in o ≡ Some n → o ≡ Some (Count n)
count_known None n e = absurd (cc)
count_known (Some (Count count)) n e = ap (λ k. Some (Count k)) (same_Some count n e)
count_known (Some value) n e = absurd (cc)

kind_known : (o : Option Value) (kind : NodeType) (ports : ℕ) → kind_in o ≡ Some (kind, ports) → o ≡ Some (Kind kind ports)
kind_known None kind ports e = absurd (cc)
kind_known (Some (Kind is n)) kind ports e =
    let same : ◌≡◌ {A = NodeType × ℕ} (is, n) (kind, ports) = same_Some _ _ e in ap (λ (x : NodeType × ℕ). Some (Kind x.0 x.1)) same
kind_known (Some value) kind ports e = absurd (cc)

module _ (f : Fabric) (distinct : AreGuidsDistinct f) (told : Sightings) (all : AllByRecursion (IsTrueSighting f) told) where
  known_ports : (guid id : ℕ) (node : fabric.Node) → HasNode f guid id node → (kind : NodeType) (ports : ℕ)
      → node_of (cells_of (view told)) guid ≡ Some (kind, ports) → port_count_of (cells_of (view told)) guid ≡ node.ports
  known_ports guid id node has kind ports e =
      let sighted = sighted_of told (Node guid) (Kind kind ports) (kind_known (known_in (cells_of (view told)) (Node guid)) kind ports e) in
      let (at, other, its, kind_is, ports_is) = true_sighting f distinct told all (Node guid) (Kind kind ports) sighted in
      let same = (same_node f distinct its has).1 in
      ap (λ o. option_map_or (λ n. n.1) o 0) e ∙ sym ports_is ∙ ap (λ (n : fabric.Node). n.ports) same

  known_table : (guid id : ℕ) (node : fabric.Node) → HasNode f guid id node → Contains (switches (cells_of (view told))) guid
      → port_count_of (cells_of (view told)) guid ≡ node.ports → (o : Option ℕ) → cap_of (cells_of (view told)) guid ≡ o → IsSome o → HasTable (cells_of (view told)) node
  known_table guid id node has there counted None e some = absurd (cc)
  known_table guid id node has there counted (Some cap) e some =
      let sighted = sighted_of told (Cap guid) (Count cap) (count_known (known_in (cells_of (view told)) (Cap guid)) cap e) in
      let (at, other, its, switch, cap_is) = true_sighting f distinct told all (Cap guid) (Count cap) sighted in
      let same = (same_node f distinct its has).1 in
      record {
        switch = ap (λ (n : fabric.Node). is_switch n.kind) (sym same) ∙ switch;
        long = subst (λ (n : fabric.Node). room (cells_of (view told)) ≤ n.cap) same
            (subst (λ n. room (cells_of (view told)) ≤ n) (sym cap_is) (room_in_table (cells_of (view told)) guid cap there e));
        ports = ap (port_count_of (cells_of (view told))) has.named ∙ counted;
      }

  pub table_known : (guid id : ℕ) (node : fabric.Node) → HasNode f guid id node → Contains (switches (cells_of (view told))) guid
      → HasTable (cells_of (view told)) node
  table_known guid id node has there =
      let (ports, kind, known) = ((switches_law (view told)).0 guid).0 there in
      known_table guid id node has there (known_ports guid id node has Switch ports kind) (cap_of (cells_of (view told)) guid) refl known
