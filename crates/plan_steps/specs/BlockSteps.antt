-- The steps that set forwarding tables at switches: the blocks of the tables, and the greatest LID as their top.
-- InfiniBand Architecture Specification, Volume 1: subnet management, LinearForwardingTable, SwitchInfo.
use Rattle.std.specs.Prelude.{ℕ, List, [], Option, option_and_then}
use Rattle.std.specs.Option.{option_map_or}
use Rattle.std.specs.List.{filter_map, flat_map, range_with_len}
use Rattle.smp_bytes.specs.Header.{linear_forwarding_table, switch_info}
use Rattle.smp_bytes.specs.Field.{with_number}
use Rattle.attr_codec.specs.SwitchInfo.{linear_fdb_top}
use Rattle.lid_assign.specs.Lids.{top_of}
use Rattle.lft_blocks.specs.Entries.{block_count}
use Rattle.lft_blocks.specs.Plan.{PlanValue, block_at, switches_of}
use Rattle.sweep.specs.Sweep.{Sweep, switch_image}
use Rattle.plan_steps.specs.declared.step.Step.{Step}
use Rattle.plan_steps.specs.Carried.{carried_switch}
use Rattle.plan_steps.specs.Step.{step_at}

-- the step that sets block `b` of the switch `guid`; None if the plan has no such block, or the sweep did not reach the
-- switch
abbrev pub block_step : Sweep → PlanValue → ℕ → ℕ → Option Step
block_step sweep plan guid b = option_and_then (step_at sweep guid 0 linear_forwarding_table b) (block_at plan guid b)

-- the steps that set the blocks of the switch `guid`, from block 0 to the block of the greatest LID; none if the
-- sweep did not reach the switch
abbrev pub switch_steps : Sweep → PlanValue → ℕ → List Step
switch_steps sweep plan guid =
    filter_map (block_step sweep plan guid) (range_with_len 0 (block_count (top_of plan.given)))

-- the steps that set the blocks of each usable switch that the sweep reached, in ascending order of GUID
abbrev pub block_steps : Sweep → PlanValue → List Step
block_steps sweep plan = flat_map (switch_steps sweep plan) (switches_of plan)

-- SwitchInfo with the LinearFDBTop `top`, and with all else as a Set carries it (`carried_switch`)
abbrev pub top_data : Option (List ℕ) → ℕ → List ℕ
top_data read top = with_number linear_fdb_top top (carried_switch read)

-- the step that sets the top of the switch `guid` to `top`; None if the sweep did not reach the switch
abbrev pub top_step : Sweep → ℕ → ℕ → Option Step
top_step sweep top guid = step_at sweep guid 0 switch_info 0 (top_data (switch_image sweep guid) top)

-- the steps that set the top of each usable switch that the sweep reached to the greatest LID, in ascending order of
-- GUID; none if there is no LID
abbrev pub top_steps : Sweep → PlanValue → List Step
top_steps sweep plan = option_map_or (λ top. filter_map (top_step sweep top) (switches_of plan)) (top_of plan.given) []
