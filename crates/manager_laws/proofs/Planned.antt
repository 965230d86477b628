-- A part of a fabric that is as the facts say holds their plan, where each end port that is known was reached, and what was
-- reached holds the plan.
use Rattle.std.proofs.Common.{◌≡◌, ℕ, ◌≤◌, Bool, true, false, List, refl, sym, ap, ◌∙◌, subst, arith}
use Rattle.std.proofs.lemmas.Bool.{eqb-true}
use Rattle.std.proofs.lemmas.Option.{same_Some}
use Rattle.std.specs.Prelude.{Contains, Option, Some, None, MatchBool, slice_get, option_map, option_and_then, is_some, ◌==◌}
use Rattle.std.specs.List.{find}
use Rattle.fabric_model.specs.declared.cable.NodePort.{NodePort}
use Rattle.smp_bytes.specs.declared.node_type.NodeType.{NodeType}
use Rattle.smp_bytes.specs.declared.node_type.NodeType.TheVariants.{ChannelAdapter, Switch, Router}
use Rattle.smp_bytes.specs.NodeType.{is_switch}
use Rattle.fabric_model.specs.Fabric as fabrics
use Rattle.fabric_model.specs.Fabric.{Node, Fabric}
use Rattle.fact_store.specs.View.{Facts, cells_of}
use Rattle.subnet_view.specs.declared.end_port.EndPort.{EndPort}
use Rattle.reply_facts.specs.Known as values
use Rattle.subnet_view.specs.Reading.{Cells, switches}
use Rattle.subnet_view.specs.EndPort.{IsEndPort}
use Rattle.subnet_view.specs.FabricAgreement.{Part, AgreesOn, IsEndPortIn, TellsEndPort}
use Rattle.subnet_view.proofs.Apart.{found_there, contains_map, contains-from_map}
use Rattle.subnet_view.proofs.EndPortList.{end_ports_law}
use Rattle.subnet_view.proofs.UsableSwitches.{switches_law}
use Rattle.lid_assign.specs.Lids.{IsNoRoom, lids, lid_of, lmc_of, range_of, top_of}
use Rattle.lid_assign.proofs.LidLaws.{lids_law, ports_apart}
use Rattle.lid_assign.proofs.Owners.{lid-from_given}
use Rattle.lft_blocks.specs.InForce.{HoldsBlock, HoldsPlan, HoldsPlanAt}
use Rattle.lft_blocks.specs.Plan.{SwitchTable, plan_of, block_at, switches_of, lid_routing}
use Rattle.lft_blocks.specs.Entries.{attachment_of_lid, block_count, blocks}
use Rattle.lft_blocks.specs.Rule.{RuleValue}
use Rattle.sweep.specs.Sweep.{Sweep, IsReached}
use Rattle.manager_laws.specs.Truth.{HasNode}
use Rattle.manager_laws.specs.Written.{IsHeldWhere}

pub switch_is : (kind : NodeType) → is_switch kind ≡ true → kind ≡ Switch
switch_is ChannelAdapter e = absurd (cc)
switch_is Switch e = refl
switch_is Router e = absurd (cc)

-- an end port is one by its number, and is known as one by what is told of it
module _ (part : Part) (f : Fabric) (port : NodePort) (node : Node) (end : IsEndPortIn part f port node) where
  pub end_number : fabrics.IsEndPortNumber node port.port
  end_number =
      let (other, there, its_number) = end.end_port in
      subst (λ (n : Node). fabrics.IsEndPortNumber n port.port) (same_Some _ _ (sym there ∙ end.node_there)) its_number

  pub known_end : (cells : Cells) → TellsEndPort cells node port.port → IsEndPort cells node.guid port.port
  known_end cells tells = (node.kind, node.ports, tells.kind, end_number, ap is_some tells.port_guid)

module _ (rule : RuleValue) (lmc : ℕ) (facts : Facts) where
  table_of : ℕ → SwitchTable
  table_of s = record {
    guid = s;
    blocks = blocks (attachment_of_lid (cells_of facts) (lids lmc (cells_of facts))) (lid_routing rule lmc (cells_of facts) (lids lmc (cells_of facts))).next
        (block_count (top_of (lids lmc (cells_of facts)))) s;
  }

  -- the switches of the plan are the usable ones
  pub to_switches : (guid : ℕ) → Contains (switches (cells_of facts)) guid → Contains (switches_of (plan_of rule lmc (cells_of facts))) guid
  unfolding table_of
  to_switches guid there =
      contains_map (λ (t : SwitchTable). t.guid) (plan_of rule lmc (cells_of facts)).tables (table_of guid)
      (contains_map table_of (switches (cells_of facts)) guid there)

  -- only they have blocks
  pub has_table : (guid b : ℕ) (block : List ℕ) → block_at (plan_of rule lmc (cells_of facts)) guid b ≡ Some block → Contains (switches (cells_of facts)) guid
  unfolding table_of
  has_table guid b block e = by_table (find (λ table. table.guid == guid) (plan_of rule lmc (cells_of facts)).tables) refl e
    where
      by_table : (m : Option SwitchTable) → find (λ table. table.guid == guid) (plan_of rule lmc (cells_of facts)).tables ≡ m
          → option_and_then (λ table. slice_get table.blocks b) m ≡ Some block
          → Contains (switches (cells_of facts)) guid
      by_table None found h = absurd (cc)
      by_table (Some table) found h =
          let is = found_there (λ (t : SwitchTable). t.guid == guid) (plan_of rule lmc (cells_of facts)).tables table found in
          let (s, there, same) = contains-from_map table_of (switches (cells_of facts)) table is.0 in
          subst (Contains (switches (cells_of facts))) (ap (λ (t : SwitchTable). t.guid) same ∙ eqb-true _ _ is.1) there

module _ (rule : RuleValue) (lmc : ℕ) (facts : Facts) (has_room : ¬ (IsNoRoom lmc (cells_of facts))) (part : Part) (f : Fabric) (sweep : Sweep)
    (agrees : AgreesOn part (cells_of facts) f)
    (held : IsHeldWhere (plan_of rule lmc (cells_of facts)) sweep f) (known : (g p : ℕ) → IsEndPort (cells_of facts) g p → IsReached sweep g p) where
  module _ (port : NodePort) (node : Node) (end : IsEndPortIn part f port node) where
    tells : TellsEndPort (cells_of facts) node port.port
    tells = agrees.tells_end_ports port node end

    is_end : IsEndPort (cells_of facts) node.guid port.port
    is_end = known_end part f port node end (cells_of facts) tells

    reached : IsReached sweep node.guid port.port
    reached = known node.guid port.port is_end

    -- it is known as an end port, so it was given a LID
    record Given : Type 0 where
      pub lid : ℕ
      pub there : Contains (lids lmc (cells_of facts)).ports (record { node = node.guid; port = port.port }, lid)

    given : Given
    given =
        let listed = ((end_ports_law facts).0 (record { node = node.guid; port = port.port })).1 is_end in
        let among = subst (λ es. Contains es (record { node = node.guid; port = port.port })) (sym (lids_law lmc facts has_room).end_ports_in_order) listed in
        let (x, there, same) =
        contains-from_map (λ (x : EndPort × ℕ). x.0) (lids lmc (cells_of facts)).ports (record { node = node.guid; port = port.port }) among in
        record { lid = x.1; there = subst (λ (e : EndPort). Contains (lids lmc (cells_of facts)).ports (e, x.1)) same there }

    has_lid : lid_of (lids lmc (cells_of facts)) (record { node = node.guid; port = port.port }) ≡ Some given.lid
    has_lid = lid-from_given (lids lmc (cells_of facts)) (ports_apart lmc facts has_room) (record { node = node.guid; port = port.port }) given.lid given.there

    range : ℕ × ℕ
    range = (given.lid, lmc_of (lids lmc (cells_of facts)) (record { node = node.guid; port = port.port }))

    has_range : range_of (lids lmc (cells_of facts)) (record { node = node.guid; port = port.port }) ≡ Some range
    unfolding range
    has_range = ap (option_map (λ lid. (lid, lmc_of (lids lmc (cells_of facts)) (record { node = node.guid; port = port.port })))) has_lid

    has : HasNode f node.guid port.node node
    has = record { there = end.node_there; named = refl }

    -- a switch
    module _ (switch : is_switch node.kind ≡ true) where
      at_zero : port.port ≡ 0
      at_zero = by_kind (is_switch node.kind) switch (end_number part f port node end)
        where
          by_kind : (b : Bool) → b ≡ true → MatchBool b (port.port ≡ 0) ((1 ≤ port.port) × (port.port ≤ node.ports)) → port.port ≡ 0
          by_kind true e z = z
          by_kind false e z = absurd (cc)

      reached_switch : IsReached sweep node.guid 0
      reached_switch = subst (IsReached sweep node.guid) at_zero reached

      usable : Contains (switches (cells_of facts)) node.guid
      usable =
          let kind : values.node_of (cells_of facts) node.guid ≡ Some (Switch, node.ports) = tells.kind
          ∙ ap (λ k. Some (k, node.ports)) (switch_is node.kind switch) in
          ((switches_law facts).0 node.guid).1 (node.ports, kind, ap is_some (tells.cap switch))

      top_held : (top : ℕ) → top_of (lids lmc (cells_of facts)) ≡ Some top → top ≤ f.top port.node
      top_held top is_top =
          let same = held.tops node.guid top port.node node is_top (to_switches rule lmc facts node.guid usable) reached_switch has in
          omega (arith, same)

    blocks_held : (b : ℕ) (block : List ℕ) → block_at (plan_of rule lmc (cells_of facts)) node.guid b ≡ Some block → HoldsBlock f port.node b block
    blocks_held b block is_block = by_kind (is_switch node.kind) refl
      where
        by_kind : (k : Bool) → is_switch node.kind ≡ k → HoldsBlock f port.node b block
        by_kind true switch = held.blocks node.guid b port.node block node is_block (reached_switch switch) has
        by_kind false adapter =
            let (ports, kind, cap) = ((switches_law facts).0 node.guid).0 (has_table rule lmc facts node.guid b block is_block) in
            let same = same_Some _ _ (sym tells.kind ∙ kind) in
            let clash : is_switch node.kind ≡ true = ap (λ (x : NodeType × ℕ). is_switch x.0) same in
            absurd (cc (sym adapter ∙ clash))

    holds_at : HoldsPlanAt (plan_of rule lmc (cells_of facts)) f port node
    holds_at =
        record {
          lids = has_range ∙ ap (λ n. Some n) (sym (held.lids (record { node = node.guid; port = port.port }) range port has_range reached
              (record { node = node; node_there = end.node_there; guid_is = refl; port_is = refl })));
          top = λ switch. top_held switch;
          blocks = blocks_held;
        }

  pub holds_plan : HoldsPlan part (plan_of rule lmc (cells_of facts)) f
  holds_plan = holds_at
