use Rattle.std.proofs.Common.{get_or}
use Rattle.subnet_view.specs.Graph.{guids_of}
use Rattle.spread_routes.specs.Spread.{spread_at}
use Rattle.lft_blocks.specs.LidNumbers.{numbered}
use Rattle.lft_blocks.proofs.RowSteps.{AreRowsUpTo}
use Rattle.lft_blocks.proofs.spread_table.write_rows.Given as goal

-- the rows so far are written, and the others are as they were
abbrev pub invariant-loop-own : goal.invariant-loop-own
invariant-loop-own l = AreRowsUpTo (numbered (λ lid. get_or l.numbers lid 0) (spread_at l.spread)).next (guids_of l.spread.graph) l.attachments l.towards.first l.towards.end l.own l.rows
