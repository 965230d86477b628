-- The plan of a view: a LID for each end port, and the blocks of each usable switch.
use Rattle.std.specs.Prelude.{◌≡◌, ℕ, List, map, Option, ◌==◌, option_and_then, slice_get}
use Rattle.std.specs.List.{find}
use Rattle.std.specs.List.Sorted.{IsStrictlyIncreasing}
use Rattle.subnet_view.specs.Reading.{Cells, switches}
use Rattle.lid_assign.specs.Lids.{Given, lids, top_of}
use Rattle.subnet_view.specs.Routing.{Routing}
use Rattle.lft_blocks.specs.Rule.{RuleValue, routing_by}
use Rattle.lft_blocks.specs.LidNumbers.{lid_numbers, numbered}
use Rattle.lft_blocks.specs.Entries.{Next, attachment_of_lid, block_count, blocks}

-- the table of a switch: its GUID, and its blocks, starting at block 0
pub record SwitchTable : Type 0 where
  pub guid : ℕ
  pub blocks : List (List ℕ)

-- a plan: the end ports in the order of `end_ports`, each with its LID, and the tables of the usable switches in
-- ascending order of GUID
pub record PlanValue : Type 0 where
  pub given : Given
  pub tables : List SwitchTable

-- the tables of a plan: the table of each of the switches `guids`, with `count` blocks
abbrev pub tables_of : (ℕ → Option (ℕ × ℕ)) → Next → ℕ → List ℕ → List SwitchTable
tables_of attachments next count guids = map (λ s. record { guid = s; blocks = blocks attachments next count s }) guids

-- the tables of the plan of a view under a rule of routing, if end ports have the LIDs `given`
abbrev pub tables_by : Routing → Cells → Given → List SwitchTable
tables_by rule cells given =
    tables_of (attachment_of_lid cells given) rule.next (block_count (top_of given)) (switches cells)

-- the plan of a view under a rule of routing and the LMC `lmc`
abbrev pub plan_by : Routing → ℕ → Cells → PlanValue
plan_by rule lmc cells =
    let given = lids lmc cells in
    record {
      given = given;
      tables =
          tables_of (attachment_of_lid cells given) rule.next (block_count (top_of given)) (switches cells);
    }

-- the routing of LIDs under a rule that can be asked for: packets for a LID take the routes that the rule has for the
-- LID's number
abbrev pub lid_routing : RuleValue → ℕ → Cells → Given → Routing
lid_routing rule lmc cells given = numbered (lid_numbers lmc cells given) (routing_by rule cells)

-- the plan of a view under a rule that can be asked for and the LMC `lmc`
abbrev pub plan_of : RuleValue → ℕ → Cells → PlanValue
plan_of rule lmc cells = plan_by (lid_routing rule lmc cells (lids lmc cells)) lmc cells

-- block `b` of the switch `guid` in a plan; None if the plan does not have this switch or this block
abbrev pub block_at : PlanValue → ℕ → ℕ → Option (List ℕ)
block_at plan guid b =
    option_and_then (λ table. slice_get table.blocks b) (find (λ table. table.guid == guid) plan.tables)

-- the GUIDs of the switches of a plan, in the order of its tables
abbrev pub switches_of : PlanValue → List ℕ
switches_of plan = map (λ table. table.guid) plan.tables

-- `guids` are the GUIDs of the tables, and are in strictly ascending order
pub record AreTables (guids : List ℕ) (tables : List SwitchTable) : Type 0 where
  pub theirs : guids ≡ map (λ table. table.guid) tables
  pub rising : IsStrictlyIncreasing guids
