-- The tables of a plan, as the lines of its text give them: LIDs, switches and blocks.
use Rattle.std.specs.Prelude.{ℕ, suc, ◌+◌, List, [], ◌∷◌, ◌++◌, map, Option, option_map}
use Rattle.std.specs.Option.{option_map_or}
use Rattle.std.specs.List.{enumerate_from, filter_map, flat_map}
use Rattle.subnet_view.specs.declared.end_port.EndPort.{EndPort}
use Rattle.lft_blocks.specs.Lids.{Given, lmc_of, owner_of, top_of, rising_lids}
use Rattle.lft_blocks.specs.Plan.{SwitchTable, PlanValue, plan_of}
use Rattle.held_tables.specs.declared.held.HeldLid.{HeldLid}
use Rattle.held_tables.specs.declared.held.HeldSwitch.{HeldSwitch}
use Rattle.held_tables.specs.declared.held.HeldBlock.{HeldBlock}
use Rattle.held_tables.specs.Held.{HeldPlan, LidRange, lids_of, nothing_held}
use Rattle.fact_store.specs.View.{Facts, cells_of}
use Rattle.lft_blocks.specs.Rule.{RuleValue}

-- the range of the LIDs of `port`, the first of which is `lid`, under the port's LMC
abbrev pub range_from : Given → ℕ → EndPort → LidRange
range_from given lid port = record { first = record { lid = lid; port = port }; lmc = lmc_of given port }

-- if an end port owns `lid`, the range of its LIDs, the first of which is `lid`; otherwise None
abbrev pub owned_range : Given → ℕ → Option LidRange
owned_range given lid = option_map (range_from given lid) (owner_of given lid)

-- each LID of each end port that has LIDs, with this end port; the end ports are in ascending order of first LID
abbrev pub owned_lids : Given → List HeldLid
owned_lids given = flat_map lids_of (filter_map (owned_range given) (rising_lids given))

-- the blocks of the switch at `index`; the first block has the number `number`
abbrev pub blocks_from : ℕ → ℕ → List (List ℕ) → List HeldBlock
blocks_from index number blocks =
    map (λ x. record { switch = index; number = x.0; entries = x.1 }) (enumerate_from number blocks)

-- the blocks of all switches; the first switch has the index `index`
abbrev pub blocks_of : ℕ → List SwitchTable → List HeldBlock
blocks_of index [] = []
blocks_of index (table ∷ tables) = blocks_from index 0 table.blocks ++ blocks_of (suc index) tables

-- the switch of `table`, with the top `top`
abbrev pub with_top : ℕ → SwitchTable → HeldSwitch
with_top top table = record { guid = table.guid; top = top }

-- the tables of `plan`: the LIDs with their owners, and the switches with their blocks and with the greatest LID as
-- their top; empty if the plan has no LID
abbrev pub held_plan : PlanValue → HeldPlan
held_plan plan =
    option_map_or (λ top. record {
      lids = owned_lids plan.given;
      switches = map (with_top top) plan.tables;
      blocks = blocks_of 0 plan.tables;
    }) (top_of plan.given) nothing_held

-- the tables of the plan that `rule` makes of `facts` under the LMC `lmc`
abbrev pub planned : ℕ → RuleValue → Facts → HeldPlan
planned lmc rule facts = held_plan (plan_of rule lmc (cells_of facts))
