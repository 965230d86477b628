-- The owner of a LID is a port of the part that has it; who has it is the owner; and facts know where it lies.
use Rattle.std.proofs.Common.{◌≡◌, ◌≢◌, ◌↔◌, ℕ, List, sym, ap, ◌∙◌, subst, true, false, cond}
use Rattle.std.proofs.lemmas.Bool.{and_left}
use Rattle.std.proofs.lemmas.Option.{same_Some}
use Rattle.std.specs.Prelude.{IsTrue, Option, None, Some, Contains, is_some, option_map, option_and_then, slice_get}
use Rattle.fabric_model.specs.declared.cable.NodePort.{NodePort}
use Rattle.fabric_model.specs.Fabric.{Node, Fabric, IsEndPort, is_switch_at, owns, IsPortNamed}
use Rattle.fabric_model.specs.FabricWalks.{IsJoinedTo}
use Rattle.smp_bytes.specs.LidRange.{has_lid}
use Rattle.fabric_model.proofs.FabricWalks.{same_port, type_at, adapter_vertex}
use Rattle.subnet_view.specs.declared.end_port.EndPort.{EndPort}
use Rattle.reply_facts.specs.Known.{cap_of}
use Rattle.subnet_view.specs.Reading.{Cells, is_switch_node, is_usable}
use Rattle.subnet_view.specs.EndPort.{HasEndPorts, end_ports}
use Rattle.subnet_view.specs.Wires.{across, attached}
use Rattle.subnet_view.specs.FabricAgreement.{IsEndPortIn, HasEndPort, AgreesOn}
use Rattle.subnet_view.proofs.Apart.{contains_map}
use Rattle.subnet_view.proofs.WireLaws.{wire_law}
use Rattle.lid_assign.specs.Lids.{lids, lid_of, lmc_of, owner_of}
use Rattle.lid_assign.specs.LidLaws.{AreLids}
use Rattle.lid_assign.proofs.Owners.{given-from_owner}
use Rattle.subnet_view.specs.Routing.{Routing}
use Rattle.subnet_view.proofs.PartWires.{IsTold, switch_at_index, switch_port, switch_known, switch_usable, known_type}
use Rattle.subnet_view.proofs.Joined.{LiesAt, HasAttachment, itself, by_wire}
use Rattle.subnet_view.specs.Wires.{attachment_of}
use Rattle.lft_blocks.specs.Plan.{plan_by}
use Rattle.lft_blocks.specs.InForce.{HoldsPlan}
use Rattle.lft_blocks.proofs.HeldEntries.{HasBlocks}

-- the LID has this owner in the plan, and the part holds the plan
pub record IsPlanned (rule : Routing) (lmc : ℕ) (cells : Cells) (f : Fabric) (origin : NodePort) (lid : ℕ) (owner : EndPort) : Type 0 where
  pub are_lids : AreLids lmc cells (lids lmc cells).ports
  pub inverse : (e : EndPort) (n : ℕ) → (owner_of (lids lmc cells) n ≡ Some e)
      ↔ ((base : ℕ) × (lid_of (lids lmc cells) e ≡ Some base) × IsTrue (has_lid base (lmc_of (lids lmc cells) e) n))
  pub end_ports_listed : HasEndPorts cells (end_ports cells)
  pub blocks : HasBlocks rule lmc cells
  pub held : HoldsPlan (IsJoinedTo f origin) (plan_by rule lmc cells) f
  pub owned : owner_of (lids lmc cells) lid ≡ Some owner

-- the port of the part that facts name so, and that has the LID
pub record OwnerPort (f : Fabric) (origin : NodePort) (lid : ℕ) (owner : EndPort) : Type 0 where
  pub port : NodePort
  pub named : IsPortNamed f owner.node owner.port port
  pub is_end : IsEndPort f port
  pub joined : IsJoinedTo f origin port
  pub own_lid : owns f port lid ≡ true

-- a LID and an LMC that are given
given_parts : (m : Option ℕ) (of base lmc : ℕ) → option_map {U = ℕ × ℕ} (λ lid. (lid, of)) m ≡ Some (base, lmc) → (m ≡ Some base) × (lmc ≡ of)
given_parts None of base lmc e = absurd (cc)
given_parts (Some lid) of base lmc e =
    let same : (lid, of) ≡ (base, lmc) = same_Some (lid, of) (base, lmc) e in
    (ap (λ (x : ℕ × ℕ). Some x.0) same, ap (λ (x : ℕ × ℕ). x.1) (sym same))

name_is : (node : Node) (port : NodePort) (e : EndPort) → node.guid ≡ e.node → port.port ≡ e.port
    → ◌≡◌ {A = EndPort} (record { node = node.guid; port = port.port }) e
name_is node port e h k = λ i. record { node = h i; port = k i }

-- it is an end port of the part
pub owner_in_part : {f : Fabric} {origin : NodePort} {lid : ℕ} {owner : EndPort} (target : OwnerPort f origin lid owner)
    → IsEndPortIn (IsJoinedTo f origin) f target.port target.named.node
owner_in_part target = record { node_there = target.named.node_there; end_port = target.is_end; in_part = target.joined }

module _ {rule : Routing} {lmc : ℕ} {cells : Cells} {f : Fabric} {origin : NodePort} {lid : ℕ} {owner : EndPort} (told : IsTold cells f origin)
    (planned : IsPlanned rule lmc cells f origin lid owner) where
  -- where the facts tell of no others, the owner is there
  pub owner_there : AgreesOn (IsJoinedTo f origin) cells f → HasEndPort (IsJoinedTo f origin) f owner.node owner.port
  owner_there agrees =
      let its = given-from_owner (lids lmc cells) owner lid planned.owned in
      let given = contains_map (λ (x : EndPort × ℕ). x.0) (lids lmc cells).ports (owner, its.0) its.1 in
      let listed = subst (λ (es : List EndPort). Contains es owner) planned.are_lids.end_ports_in_order given in
      agrees.end_ports_exist owner.node owner.port ((planned.end_ports_listed owner).0 listed)

  pub owner_port : HasEndPort (IsJoinedTo f origin) f owner.node owner.port → OwnerPort f origin lid owner
  owner_port it =
      let here : IsEndPortIn (IsJoinedTo f origin) f it.port it.named.node =
      record { node_there = it.named.node_there; end_port = it.end_port; in_part = it.in_part } in
      let name : EndPort = record { node = it.named.node.guid; port = it.port.port } in
      let same : name ≡ owner = name_is it.named.node it.port owner it.named.guid_is it.named.port_is in
      let parts = given_parts (lid_of (lids lmc cells) name) (lmc_of (lids lmc cells) name) (f.base_lid it.port) (f.lmc it.port)
      (planned.held it.port it.named.node here).lids in
      let has = (planned.inverse owner lid).0 planned.owned in
      let base : has.0 ≡ f.base_lid it.port = same_Some has.0 (f.base_lid it.port) (sym has.1 ∙ ap (lid_of (lids lmc cells)) (sym same) ∙ parts.0) in
      let lmc_is : lmc_of (lids lmc cells) owner ≡ f.lmc it.port = ap (lmc_of (lids lmc cells)) (sym same) ∙ sym parts.1 in
      record { port = it.port; named = it.named; is_end = it.end_port; joined = it.in_part; own_lid = (λ i. has_lid (sym base i) (sym lmc_is i) lid) ∙ has.2 }

  -- an end port of the part that has the LID is the owner's
  pub lid_is_owners : (target : OwnerPort f origin lid owner) (v : NodePort) (node : Node) → IsEndPortIn (IsJoinedTo f origin) f v node
      → owns f v lid ≡ true → v ≡ target.port
  lid_is_owners target v node here own =
      let name : EndPort = record { node = node.guid; port = v.port } in
      let parts = given_parts (lid_of (lids lmc cells) name) (lmc_of (lids lmc cells) name) (f.base_lid v) (f.lmc v) (planned.held v node here).lids in
      let owned_by_v : owner_of (lids lmc cells) lid ≡ Some name = (planned.inverse name lid).1
      (f.base_lid v, parts.0, ap (λ m. has_lid (f.base_lid v) m lid) (sym parts.1) ∙ own) in
      let same : name ≡ owner = same_Some name owner (sym owned_by_v ∙ planned.owned) in
      let guid : node.guid ≡ target.named.node.guid = ap (λ (e : EndPort). e.node) same ∙ sym target.named.guid_is in
      same_port v target.port (told.covers.guids_distinct v target.port node target.named.node here (owner_in_part target) guid)
      (ap (λ (e : EndPort). e.port) same ∙ sym target.named.port_is)

  -- facts know the owner's attachment
  pub owner_attachment : (target : OwnerPort f origin lid owner) {h : NodePort} {g : ℕ} → HasAttachment f origin target.port h g
      → attachment_of cells owner ≡ Some (g, h.port)
  owner_attachment target {h = h} {g = g} attachment = where_it_lies attachment.lies
    where
      of_type : is_switch_node cells owner.node ≡ is_switch_at f target.port.node
      of_type =
          ap (is_switch_node cells) (sym target.named.guid_is)
          ∙ known_type told target.port target.named.node (owner_in_part target)
          ∙ sym (type_at f target.port.node target.named.node target.named.node_there)

      where_it_lies : LiesAt f target.port h → attachment_of cells owner ≡ Some (g, h.port)
      where_it_lies (itself s z e) =
          let node : target.named.node ≡ attachment.there.node = same_Some target.named.node attachment.there.node
          (sym target.named.node_there ∙ ap (λ (p : NodePort). slice_get f.nodes p.node) e ∙ attachment.there.at) in
          let guid : owner.node ≡ g = sym target.named.guid_is ∙ ap (λ (n : Node). n.guid) node ∙ attachment.there.guid in
          let number : 0 ≡ h.port = sym z ∙ ap (λ (p : NodePort). p.port) e in
          let usable : is_usable cells owner.node ≡ true = ap (is_usable cells) guid ∙ switch_usable told attachment.there in
          ap (λ t. cond t (Some (owner.node, 0)) (attached cells owner.node owner.port)) usable ∙ (λ i. Some (guid i, number i))
      where_it_lies (by_wire s e) =
          let apart : target.port ≢ h = λ same. cc (s, ap (λ (p : NodePort). is_switch_at f p.node) same, switch_at_index attachment.there) in
          let its_vertex = subst (IsJoinedTo f origin) (sym (adapter_vertex f target.port s)) target.joined in
          let wire : across cells owner.node owner.port ≡ Some (g, h.port) =
          (wire_law cells owner.node owner.port g h.port).1 (told.covers.wires_told owner.node owner.port g h.port
          (record {
            from = target.port;
            to = h;
            from_named = target.named;
            to_named = switch_port attachment.there h.port;
            wire = record { cable = e; different = apart };
            in_part = its_vertex;
          })) in
          let no_switch : is_switch_node cells owner.node ≡ false = of_type ∙ s in
          ap (λ t. cond t (Some (owner.node, 0)) (attached cells owner.node owner.port))
          (and_left (is_switch_node cells owner.node) (is_some (cap_of cells owner.node)) no_switch)
          ∙ ap (λ t. cond t None (option_and_then (λ q. cond (is_switch_node cells q.0) (Some q) None) (across cells owner.node owner.port))) no_switch
          ∙ ap (option_and_then (λ q. cond (is_switch_node cells q.0) (Some q) None)) wire
          ∙ ap (λ t. cond t (Some (g, h.port)) None) (switch_known told attachment.there)
