-- The steps of a plan set other attributes than SMInfo.
use Rattle.std.proofs.Common.{◌≡◌, ◌<◌, ◌^◌, ℕ, false, List, [], ◌∷◌, ◌++◌, refl, arith}
use Rattle.std.proofs.lemmas.Bool.{cond_both}
use Rattle.std.specs.Prelude.{◌*◌, ◌==◌, Option, None, Some, option_and_then, option_map}
use Rattle.std.specs.Option.{option_map_or}
use Rattle.std.specs.List.{AllByRecursion, cons_option, filter_map, flat_map, range_with_len}
use Rattle.attr_codec.specs.declared.port_state.PortState.{PortState}
use Rattle.attr_codec.specs.declared.port_state.PortState.TheVariants.{Active, Armed}
use Rattle.smp_bytes.specs.Header.{linear_forwarding_table, port_info, sm_info, switch_info, multicast_forwarding_table}
use Rattle.fact_store.specs.View.{cells_of}
use Rattle.subnet_view.specs.declared.end_port.EndPort.{EndPort}
use Rattle.subnet_view.specs.Reading.{Cells}
use Rattle.lid_assign.specs.Lids.{Given, lmc_of, owner_of, rising_lids, top_of}
use Rattle.sweep.specs.Sweep.{Sweep, path_to, seen_state, switch_image}
use Rattle.plan_steps.specs.declared.step.Step.{Step}
use Rattle.plan_steps.specs.BlockSteps.{block_step, block_steps, switch_steps, top_step, top_steps}
use Rattle.plan_steps.specs.LidSteps.{lid_step, lid_steps, own_lid, owner_step}
use Rattle.plan_steps.specs.MaskSteps.{clear_steps, has_table, mask_step, position_count, switch_mask_steps, tree_steps}
use Rattle.plan_steps.specs.Phase.{phases_by as phases_along}
use Rattle.plan_steps.specs.PlannedTree.{planned_tree}
use Rattle.plan_steps.specs.Tree.{TreePorts}
use Rattle.plan_steps.specs.Plan.{PlanValue, block_at, plan_of, switches_of}
use Rattle.plan_steps.specs.StateSteps.{is_due, state_step, state_steps, wired_ports}
use Rattle.plan_steps.specs.Step.{step_at}
use Rattle.sm_manager.specs.Manager.{Manager}
use Rattle.sm_manager.specs.Writing.{phases_by}
use Rattle.manager_laws.specs.WritingEnds.{planned_steps, steps_of}

-- the step sets another attribute, which fits its field
abbrev pub IsOther : Step → Type 0
IsOther s = ((s.attribute == sm_info) ≡ false) × (s.attribute < 2 ^ 16)

abbrev pub AreOthers : List Step → Type 0
AreOthers steps = AllByRecursion IsOther steps

abbrev IfOther : Option Step → Type 0
IfOther None = Unit {0}
IfOther (Some s) = IsOther s

-- lists ------------------------------------------------------------------------------------------------

pub others_both : (xs ys : List Step) → AreOthers xs → AreOthers ys → AreOthers (xs ++ ys)
others_both [] ys all rest = rest
others_both (x ∷ xs) ys all rest = (all.0, others_both xs ys all.1 rest)

pub others_parts : (xs ys : List Step) → AreOthers (xs ++ ys) → AreOthers xs × AreOthers ys
others_parts [] ys all = (tt, all)
others_parts (x ∷ xs) ys all = let parts = others_parts xs ys all.1 in ((all.0, parts.0), parts.1)

first_other : (o : Option Step) (steps : List Step) → IfOther o → AreOthers steps → AreOthers (cons_option o steps)
first_other None steps other all = all
first_other (Some s) steps other all = (other, all)

module _ {X : Type 0} where
  mapped : (f : X → Option Step) → ((x : X) → IfOther (f x)) → (xs : List X) → AreOthers (filter_map f xs)
  mapped f each [] = tt
  mapped f each (x ∷ xs) = first_other (f x) (filter_map f xs) (each x) (mapped f each xs)

  all_mapped : (f : X → List Step) → ((x : X) → AreOthers (f x)) → (xs : List X) → AreOthers (flat_map f xs)
  all_mapped f each [] = tt
  all_mapped f each (x ∷ xs) = others_both (f x) (flat_map f xs) (each x) (all_mapped f each xs)

-- steps ------------------------------------------------------------------------------------------------

step_other : (sweep : Sweep) (guid vertex attribute modifier : ℕ) (payload : List ℕ) → (attribute == sm_info) ≡ false
    → attribute < 2 ^ 16 → IfOther (step_at sweep guid vertex attribute modifier payload)
step_other sweep guid vertex attribute modifier payload other small = by_path (path_to sweep guid vertex)
  where
    by_path : (o : Option (List ℕ))
        → IfOther (option_map (λ path. record {
          path = path;
          attribute = attribute;
          modifier = modifier;
          payload =
              payload;
        }) o)
    by_path None = tt
    by_path (Some path) = (other, small)

lids_other : (cells : Cells) (sweep : Sweep) (master : ℕ) (given : Given)
    → AreOthers (lid_steps cells sweep master given)
lids_other cells sweep master given =
    mapped (owner_step cells sweep master given) (λ lid. by_owner lid (owner_of given lid)) (rising_lids given)
  where
    by_owner : (lid : ℕ) (o : Option EndPort)
        → IfOther (option_and_then (λ e. lid_step cells sweep master (lid, lmc_of given e) e) o)
    by_owner lid None = tt
    by_owner lid (Some e) = step_other sweep e.node e.port port_info e.port _ refl (omega arith)

module _ (sweep : Sweep) (plan : PlanValue) where
  blocks_other : AreOthers (block_steps sweep plan)
  blocks_other = all_mapped (switch_steps sweep plan) at_switch (switches_of plan)
    where
      by_block : (guid b : ℕ) (o : Option (List ℕ))
          → IfOther (option_and_then (step_at sweep guid 0 linear_forwarding_table b) o)
      by_block guid b None = tt
      by_block guid b (Some block) = step_other sweep guid 0 linear_forwarding_table b block refl (omega arith)

      at_switch : (guid : ℕ) → AreOthers (switch_steps sweep plan guid)
      at_switch guid = mapped (block_step sweep plan guid) (λ b. by_block guid b (block_at plan guid b)) _

  tops_other : AreOthers (top_steps sweep plan)
  tops_other = by_top (top_of plan.given)
    where
      by_top : (o : Option ℕ)
          → AreOthers (option_map_or (λ top. filter_map (top_step sweep top) (switches_of plan)) o [])
      by_top None = tt
      by_top (Some top) =
          mapped (top_step sweep top) (λ guid. step_other sweep guid 0 switch_info 0 _ refl (omega arith))
          (switches_of plan)

states_other : (cells : Cells) (sweep : Sweep) (given : Given) (master : ℕ) (state : PortState)
    → AreOthers (state_steps cells sweep given master state)
states_other cells sweep given master state =
    mapped (state_step cells sweep given master state)
    (λ at. cond_both (option_map_or (is_due state) (seen_state sweep at.0 at.1) false) _ _ IfOther
    (λ _. step_other sweep at.0 _ port_info at.1 _ refl (omega arith)) (λ _. tt))
    (wired_ports cells)

-- plans ------------------------------------------------------------------------------------------------

masks_other : (cells : Cells) (sweep : Sweep) (tree : List TreePorts) (ports : TreePorts → List ℕ)
    → AreOthers (flat_map (λ x. switch_mask_steps cells sweep (ports x) x.guid) tree)
masks_other cells sweep tree ports = all_mapped (λ x. switch_mask_steps cells sweep (ports x) x.guid) at_switch tree
  where
    at_switch : (x : TreePorts) → AreOthers (switch_mask_steps cells sweep (ports x) x.guid)
    at_switch x =
        cond_both (has_table (switch_image sweep x.guid)) _ _ AreOthers
        (λ _. mapped (mask_step sweep x.guid (ports x))
        (λ position. step_other sweep x.guid 0 multicast_forwarding_table (0x10000000 * position) _ refl (omega arith))
        (range_with_len 0 (position_count cells x.guid))) (λ _. tt)

phases_other : (plan : PlanValue) (tree : List TreePorts) (cells : Cells) (sweep : Sweep) (master : ℕ)
    → AreOthers (steps_of (phases_along plan tree cells sweep master))
phases_other plan tree cells sweep master =
    others_both (lid_steps cells sweep master plan.given) _ (lids_other cells sweep master plan.given)
    (others_both (clear_steps cells sweep tree) _ (masks_other cells sweep tree (λ x. []))
    (others_both (block_steps sweep plan) _ (blocks_other sweep plan)
    (others_both (top_steps sweep plan) _ (tops_other sweep plan)
    (others_both (tree_steps cells sweep tree) _ (masks_other cells sweep tree (λ x. x.ports))
    (others_both (state_steps cells sweep plan.given master Armed) _ (states_other cells sweep plan.given master Armed)
    (others_both (state_steps cells sweep plan.given master Active) []
    (states_other cells sweep plan.given master Active) tt))))))

pub plan_other : (m : Manager) → AreOthers (planned_steps m)
plan_other m = by_sweep m.sweep
  where
    by_sweep : (o : Option Sweep) → AreOthers (steps_of (phases_by m o))
    by_sweep None = tt
    by_sweep (Some s) =
        let cells = cells_of m.store in
        let plan = plan_of m.planning.rule m.planning.lmc cells in
        phases_other plan (planned_tree m.planning cells) cells s (own_lid cells plan.given.ports m.standing.guid m.port)
