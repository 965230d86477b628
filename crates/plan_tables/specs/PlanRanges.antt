-- When the numbers of a plan are in range: LIDs, tops, GUIDs and entries of blocks.
use Rattle.std.specs.Prelude.{◌≡◌, ℕ, ◌+◌, ◌<◌, ◌≤◌, ◌^◌, List, map, length, Some}
use Rattle.std.specs.List.{AllByRecursion}
use Rattle.std.specs.List.Sorted.{IsStrictlyIncreasing}
use Rattle.hex.specs.Hex.{IsBytes}
use Rattle.subnet_view.specs.declared.end_port.EndPort.{EndPort}
use Rattle.lft_blocks.specs.Lids.{Given, lmc_of, owner_of, top_of, rising_lids}
use Rattle.lft_blocks.specs.Plan.{SwitchTable, PlanValue}

-- all LIDs of the end port whose first LID is `lid` are from 1 to 0xBFFF, and its GUID and port number are in range
pub record IsLidInRange (given : Given) (lid : ℕ) : Type 0 where
  pub some : 1 ≤ lid
  pub most : lid ≤ 0xBFFF
  pub node : (e : EndPort) → owner_of given lid ≡ Some e → e.node < 2 ^ 64
  pub port : (e : EndPort) → owner_of given lid ≡ Some e → e.port ≤ 254
  pub last : (e : EndPort) → owner_of given lid ≡ Some e → lid + 2 ^ lmc_of given e ≤ 0xC000

-- a block has 64 entries, each a byte
pub record IsBlock (entries : List ℕ) : Type 0 where
  pub whole : length entries ≡ 64
  pub bytes : IsBytes entries

-- the GUID of `table` is below 2^64, and `table` has at most 768 blocks, each of 64 bytes
pub record IsTableInRange (table : SwitchTable) : Type 0 where
  pub guid : table.guid < 2 ^ 64
  pub blocks : AllByRecursion IsBlock table.blocks
  pub few : length table.blocks ≤ 768

-- the LMC, the LIDs, the top and the tables of `plan` are in range, and the GUIDs of its switches rise
pub record IsPlanInRange (plan : PlanValue) : Type 0 where
  pub lmc : plan.given.lmc ≤ 7
  pub lids : AllByRecursion (IsLidInRange plan.given) (rising_lids plan.given)
  pub top : (top : ℕ) → top_of plan.given ≡ Some top → top ≤ 0xBFFF
  pub rising : IsStrictlyIncreasing (map (λ table. table.guid) plan.tables)
  pub tables : AllByRecursion IsTableInRange plan.tables
