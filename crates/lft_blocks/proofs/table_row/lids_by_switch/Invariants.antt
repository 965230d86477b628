use Rattle.std.proofs.Common.{map}
use Rattle.lft_blocks.specs.TableRow.{AreLidsAt}
use Rattle.lft_blocks.proofs.table_row.lids_by_switch.Given as goal

-- the LIDs so far
abbrev pub invariant-loop-lid : goal.invariant-loop-lid
invariant-loop-lid l = AreLidsAt l.attachments l.lid l.switches (map (λ lids. lids.items) l.lists.items)
