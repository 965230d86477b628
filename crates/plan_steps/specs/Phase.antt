-- The phases in which a plan is written: the steps of a phase are sent together, and the next phase follows once all of
-- them were answered or timed out. InfiniBand Architecture Specification, Volume 1: subnet management, initialization.
use Rattle.std.specs.Prelude.{ℕ, Bool, true, false, List, [], ◌∷◌}
use Rattle.attr_codec.specs.declared.port_state.PortState.TheVariants.{Armed, Active}
use Rattle.subnet_view.specs.Reading.{Cells}
use Rattle.lft_blocks.specs.Plan.{PlanValue}
use Rattle.sweep.specs.Sweep.{Sweep}
use Rattle.plan_steps.specs.declared.step.Step.{Step}
use Rattle.plan_steps.specs.LidSteps.{own_lid, lid_steps}
use Rattle.plan_steps.specs.BlockSteps.{block_steps, top_steps}
use Rattle.plan_steps.specs.MaskSteps.{clear_steps, tree_steps}
use Rattle.multicast_tree.specs.Tree.{TreePorts}
use Rattle.plan_steps.specs.StateSteps.{state_steps}

-- the steps of a phase, and whether the plan counts as written only if all of them succeed
pub record Phase : Type 0 where
  pub counts : Bool
  pub steps : List Step

-- the phases in which a manager with the LID `master` writes a plan and a multicast tree: LIDs, blocks, tops, and then
-- the port states Armed and Active. No data moves before the plan is set. Before the blocks all ports are taken out of
-- multicast masks, and after the tops those of the tree are set, so that no masks of two trees are in force together.
-- Without a tree, masks stay
abbrev pub phases_by : PlanValue → List TreePorts → Cells → Sweep → ℕ → List Phase
phases_by plan tree cells sweep master =
    record { counts = true; steps = lid_steps cells sweep master plan.given }
    ∷ record { counts = true; steps = clear_steps cells sweep tree }
    ∷ record { counts = true; steps = block_steps sweep plan }
    ∷ record { counts = true; steps = top_steps sweep plan }
    ∷ record { counts = true; steps = tree_steps cells sweep tree }
    ∷ record { counts = false; steps = state_steps cells sweep plan.given master Armed }
    ∷ record { counts = false; steps = state_steps cells sweep plan.given master Active }
    ∷ []

-- the phases of a plan and a tree, as the manager at the port with the GUID `port_guid` and the number `port` writes
-- them, along the paths of the manager's last sweep
abbrev pub phases_of : PlanValue → List TreePorts → Cells → Sweep → ℕ → ℕ → List Phase
phases_of plan tree cells sweep port_guid port =
    phases_by plan tree cells sweep (own_lid cells plan.given.ports port_guid port)
