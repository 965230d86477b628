-- A plan as text.
use Rattle.std.specs.Prelude.{ℕ, List, [], ◌++◌, ◌==◌, codes, decimal, if◌then◌else◌}
use Rattle.std.specs.Option.{option_map_or}
use Rattle.std.specs.List.{flat_map, enumerate_from}
use Rattle.hex.specs.Hex.{encode_lower}
use Rattle.smp_bytes.specs.Text.{guid_text, port_text}
use Rattle.subnet_view.specs.declared.end_port.EndPort.{EndPort}
use Rattle.lid_assign.specs.Lids.{Given, owner_of, lmc_of, top_of, rising_lids}
use Rattle.lft_blocks.specs.Plan.{SwitchTable, PlanValue}

-- the text of an LMC in the line of a LID; empty for 0
abbrev pub lmc_text : ℕ → List ℕ
lmc_text lmc = if lmc == 0 then [] else codes " lmc " ++ decimal lmc

-- the line of a LID, with the end port that has it and the LMC of this port
abbrev pub lid_line : ℕ × ℕ × EndPort → List ℕ
lid_line x = codes "lid " ++ decimal x.0 ++ codes " " ++ port_text x.2.node x.2.port ++ lmc_text x.1 ++ codes "\n"

-- the line of a LID; empty if no end port has it
abbrev pub owner_line : Given → ℕ → List ℕ
owner_line given lid = option_map_or (λ port. lid_line (lid, lmc_of given port, port)) (owner_of given lid) []

-- the lines of all LIDs, in ascending order
abbrev pub lids_text : Given → List ℕ
lids_text given = flat_map (owner_line given) (rising_lids given)

-- the line of switch `guid`, with its top
abbrev pub switch_line : ℕ → ℕ → List ℕ
switch_line top guid = codes "switch " ++ guid_text guid ++ codes " top " ++ decimal top ++ codes "\n"

-- the line of a block, with its number and two hex digits for each entry
abbrev pub block_line : ℕ × List ℕ → List ℕ
block_line x = codes "block " ++ decimal x.0 ++ codes " " ++ encode_lower x.1 ++ codes "\n"

-- the lines of blocks, numbered from 0
abbrev pub blocks_text : List (List ℕ) → List ℕ
blocks_text blocks = flat_map block_line (enumerate_from 0 blocks)

-- the line of a switch with its top, and the lines of its blocks
abbrev pub table_text : ℕ → SwitchTable → List ℕ
table_text top table = switch_line top table.guid ++ blocks_text table.blocks

-- the lines of all switches and their blocks; empty if the plan has no LID
abbrev pub tables_text : PlanValue → List ℕ
tables_text plan = option_map_or (λ top. flat_map (table_text top) plan.tables) (top_of plan.given) []

-- the text of a plan: the lines of its LIDs, and then the lines of its switches and their blocks
abbrev pub plan_text : PlanValue → List ℕ
plan_text plan = lids_text plan.given ++ tables_text plan
