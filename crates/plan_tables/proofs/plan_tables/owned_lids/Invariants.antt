use Rattle.std.proofs.Common.{◌≡◌, ◌++◌, drop}
use Rattle.std.specs.List.{filter_map, flat_map}
use Rattle.lft_blocks.specs.Lids.{rising_lids}
use Rattle.held_tables.specs.Held.{lids_of}
use Rattle.plan_tables.specs.PlanTables.{owned_lids, owned_range}
use Rattle.plan_tables.proofs.plan_tables.owned_lids.Given as goal

-- the LIDs so far, and those of the end ports that are left, are all that there are
abbrev pub invariant-loop-lid : goal.invariant-loop-lid
invariant-loop-lid l =
    l.lids.items ++ flat_map lids_of (filter_map (owned_range l.map) (drop l.lid-index (rising_lids l.map))) ≡ owned_lids l.map
