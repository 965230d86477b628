-- The plans of views with room are whole.
use Rattle.std.proofs.Common.{◌≡◌, ◌∙◌, ◌<◌, ◌≤◌, ◌⊎◌, ℕ, true, false, cond, List, [], ◌∷◌, Option, Some, length, sym, ap, subst, arith, inl, inr}
use Rattle.std.specs.Prelude.{Contains, slice_get}
use Rattle.std.specs.Option.{option_map_or}
use Rattle.std.proofs.lemmas.Nat.{pow_pos}
use Rattle.std.proofs.lemmas.Option.{same_Some}
use Rattle.fact_store.specs.View.{AreInRange, Facts, cells_of}
use Rattle.port_graph.proofs.Lists.{contains_map}
use Rattle.subnet_view.specs.declared.end_port.EndPort.{EndPort}
use Rattle.subnet_view.specs.EndPort.{end_ports}
use Rattle.subnet_view.specs.Reading.{Cells, is_usable, switches}
use Rattle.subnet_view.specs.Wires.{attached}
use Rattle.subnet_view.specs.Graph.{graph_of}
use Rattle.subnet_view.specs.GraphLaws.{IsSwitch}
use Rattle.subnet_view.proofs.Components.{component_itself}
use Rattle.subnet_view.proofs.Graphs.{graph_law}
use Rattle.subnet_view.proofs.GraphSwitches.{graph_guids, switch_usable}
use Rattle.lid_assign.specs.Lids.{Given, IsNoRoom, lids, lmc_of, owner_of, top_of as greatest_of}
use Rattle.lid_assign.proofs.LidLaws.{lids_law}
use Rattle.subnet_view.specs.Wires.{attachment_of}
use Rattle.lft_blocks.specs.Plan.{plan_of}
use Rattle.lft_blocks.specs.Rule.{RuleValue}
use Rattle.lft_blocks.proofs.HeldEntries.{owned_from_one, owned_to_top}
use Rattle.held_tables.specs.declared.held.HeldLid.{HeldLid}
use Rattle.held_tables.specs.Held.{HeldPlan, nothing_held}
use Rattle.plan_tables.specs.PlanTables.{held_plan}
use Rattle.held_tables.specs.Tables.{is_owner, owners_of, top_of}
use Rattle.plan_tables.proofs.HeldPlans.{made, top_of_switch}
use Rattle.plan_tables.proofs.OwnedLids.{owner_at, owner_listed as owner_has_line}
use Rattle.packet_walks.specs.declared.packet_end.End.TheVariants.{Taken}
use Rattle.packet_walks.specs.declared.next_hop.NextHop.TheVariants.{Ends}
use Rattle.packet_walks.proofs.OwnerLines.{line_owner}
use Rattle.plan_tables.proofs.PlanPackets.{from_switch}
use Rattle.next_tables.specs.SwitchPositions.{switch_at}
use Rattle.next_tables.specs.SettledRule.{step_at}
use Rattle.next_tables.proofs.Entries.{member}
use Rattle.next_tables.proofs.Hops.{placed}
use Rattle.next_run.specs.GoalLaws.{IsGoalLine}
use Rattle.next_run.specs.HandedStages.{IsOwnLid}
use Rattle.next_run.proofs.Arrivals.{arrives_at, own_switch}
use Rattle.table_laws.specs.WholePlans.{PlansAreWhole, PlansGiveOwnLids}
use Rattle.table_laws.proofs.step_ends.Alone.{each_alone, given as given_line, line_there}
use Rattle.table_laws.proofs.step_ends.Reached.{plans_deliver_what_tables_can}

not_both : true ≡ false → ⊥
not_both e = absurd (cc)

module _ (rule : RuleValue) (lmc : ℕ) (facts : Facts) (has_room : ¬ (IsNoRoom lmc (cells_of facts))) where
  abbrev cells : Cells
  cells = cells_of facts

  abbrev given : Given
  given = lids lmc (cells_of facts)

  abbrev plan : HeldPlan
  plan = held_plan (plan_of rule lmc (cells_of facts))

  abbrev made_if : Option ℕ → HeldPlan
  made_if o = option_map_or (λ top. made rule lmc (cells_of facts) top) o nothing_held

  owner_is : (lid : ℕ) (x : EndPort) → owners_of plan lid ≡ x ∷ [] → owner_of given lid ≡ Some x
  owner_is lid x own = given_line rule lmc facts has_room (greatest_of given) (record { lid = lid; port = x }) (line_there rule lmc facts lid x own)

  -- no top is below a LID that is given
  within : (lid : ℕ) (x : EndPort) → owner_of given lid ≡ Some x → (g : ℕ) → Contains (switches cells) g → lid ≤ top_of plan g
  within lid x owned g there =
      let most = owned_to_top given x lid owned in
      let same : plan ≡ made rule lmc cells most.0 = ap made_if most.1 in
      let top : top_of plan g ≡ most.0 = ap (λ (t : HeldPlan). top_of t g) same ∙ top_of_switch rule lmc facts has_room most.0 most.1 g there in
      omega (arith, top, most.2)

  goal_line : (lid : ℕ) (x : EndPort) → 1 ≤ lid → owners_of plan lid ≡ x ∷ [] → IsGoalLine cells plan (record { lid = lid; port = x })
  goal_line lid x some own = record {
    some = some;
    first = ap (λ (os : List EndPort). slice_get os 0) own;
    within = λ g there. within lid x (owner_is lid x own) g there;
  }

  owner_first : (x : EndPort) (lid : ℕ) → Contains given.ports (x, lid) → owner_of given lid ≡ Some x
  owner_first x lid there = owner_at lmc facts has_room x lid lid there (omega arith) (omega (arith, pow_pos (lmc_of given x)))

  owned_not_empty : (lid : ℕ) (x : EndPort) → owner_of given lid ≡ Some x → owners_of plan lid ≡ [] → ⊥
  owned_not_empty lid x owned empty =
      let most = owned_to_top given x lid owned in
      let same : plan ≡ made rule lmc cells most.0 = ap made_if most.1 in
      let line : HeldLid = record { lid = lid; port = x } in
      let owner : is_owner (owners_of (made rule lmc cells most.0) lid) x ≡ true =
      line_owner (made rule lmc cells most.0) line (owner_has_line lmc facts has_room x lid owned) in
      not_both (sym owner ∙ ap (λ (t : HeldPlan). is_owner (owners_of t lid) x) (sym same) ∙ ap (λ (os : List EndPort). is_owner os x) empty)

  -- the LID of an end port
  module _ (range : AreInRange facts) (i : ℕ) (less : i < length (switches cells))
      (is_end : Contains (end_ports cells) (record { node = switch_at cells i; port = 0 })) where
    abbrev e : EndPort
    e = record { node = switch_at (cells_of facts) i; port = 0 }

    abbrev g : ℕ
    g = switch_at (cells_of facts) i

    has_lid : (x : EndPort × ℕ) × Contains given.ports x × (x.0 ≡ e)
    has_lid =
        let are = lids_law lmc facts has_room in
        contains_map (λ (x : EndPort × ℕ). x.0) given.ports e (subst (λ (es : List EndPort). Contains es e) (sym are.end_ports_in_order) is_end)

    own_lid : (x : EndPort × ℕ) → Contains given.ports x → x.0 ≡ e → (lid : ℕ) × IsOwnLid cells plan i lid
    own_lid x there is_e =
        let lid = x.1 in
        let owned : owner_of given lid ≡ Some e = owner_first e lid (subst (λ (y : EndPort). Contains given.ports (y, x.1)) is_e there) in
        let most = owned_to_top given e lid owned in
        let same : plan ≡ made rule lmc cells most.0 = ap made_if most.1 in
        let line : HeldLid = record { lid = lid; port = e } in
        let held : Contains (made rule lmc cells most.0).lids line = owner_has_line lmc facts has_room e lid owned in
        let usable : is_usable cells g ≡ true = switch_usable facts g (member (switches cells) i less) in
        let at : attachment_of cells e ≡ Some (g, 0) = ap (λ t. cond t (Some (g, 0)) (attached cells g 0)) usable in
        let is_switch : IsSwitch (graph_of cells) g =
        subst (λ (xs : List ℕ). Contains xs g) (sym (graph_guids cells)) (member (switches cells) i less) in
        let d = from_switch rule lmc facts range has_room most.0 most.1 line held is_end (g, 0) at g i (placed (switches cells) i less)
        (component_itself (graph_of cells) (graph_law facts) g is_switch) in
        let its = arrives_at facts (made rule lmc cells most.0) lid e d.0 i less d.1 in
        let last = own_switch facts (made rule lmc cells most.0) lid its.last i its.within less its.ends in
        let takes = subst (λ (k : ℕ). step_at cells (made rule lmc cells most.0) lid (switch_at cells k) ≡ Ends (Taken e)) last its.ends in (
          lid,
          record {
            some = owned_from_one lmc cells (lids_law lmc facts has_room) lid e owned;
            alone = alone_with lid owned (each_alone rule lmc facts has_room lid);
            takes = subst (λ (t : HeldPlan). step_at cells t lid g ≡ Ends (Taken e)) (sym same) takes;
          },
        )
      where
        alone_with : (lid : ℕ) → owner_of given lid ≡ Some e → (owners_of plan lid ≡ []) ⊎ ((y : EndPort) × (owners_of plan lid ≡ y ∷ []))
            → owners_of plan lid ≡ e ∷ []
        alone_with lid owned (inl none) = absurd (owned_not_empty lid e owned none)
        alone_with lid owned (inr y) =
            let same : y.0 ≡ e = same_Some y.0 e (sym (owner_is lid y.0 y.1) ∙ owned) in
            y.1 ∙ ap (λ (z : EndPort). z ∷ []) same

pub plans_are_whole : PlansAreWhole
plans_are_whole rule lmc facts range has_room = record {
  lines = λ lid some. (elim (each_alone rule lmc facts has_room lid) [
    | inl none ↦ inl none
    | inr x ↦ inr (x.0, x.1, goal_line rule lmc facts has_room lid x.0 some x.1)
  ]);
  delivers = λ tables line kept i d. plans_deliver_what_tables_can rule lmc facts range has_room tables line kept i d.0 d.1;
}

pub plans_give_own_lids : PlansGiveOwnLids
plans_give_own_lids rule lmc facts range has_room are i less =
    let is_end = are (switch_at (cells_of facts) i) (member (switches (cells_of facts)) i less) in
    let x = has_lid rule lmc facts has_room range i less is_end in
    own_lid rule lmc facts has_room range i less is_end x.0 x.1 x.2
