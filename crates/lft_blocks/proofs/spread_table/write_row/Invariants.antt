use Rattle.std.proofs.Common.{get_or}
use Rattle.subnet_view.specs.Graph.{guids_of}
use Rattle.spread_routes.specs.Spread.{spread_at}
use Rattle.lft_blocks.specs.LidNumbers.{numbered}
use Rattle.lft_blocks.specs.TableRow.{IsRow}
use Rattle.lft_blocks.proofs.spread_table.write_row.Given as goal

-- the entries for the LIDs at the targets so far
abbrev pub invariant-loop-target : goal.invariant-loop-target
invariant-loop-target l = IsRow (numbered (λ lid. get_or l.numbers lid 0) (spread_at l.spread)).next (guids_of l.spread.graph) l.attachments l.target l.own l.row
