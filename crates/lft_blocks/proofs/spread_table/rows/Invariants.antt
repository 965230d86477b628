use Rattle.std.proofs.Common.{◌≤◌, ◌-◌, get_or}
use Rattle.subnet_view.specs.Graph.{guids_of}
use Rattle.spread_routes.specs.Spread.{spread_at}
use Rattle.lft_blocks.specs.LidNumbers.{numbered}
use Rattle.lft_blocks.specs.TableRow.{AreRows}
use Rattle.lft_blocks.proofs.spread_table.rows.Given as goal

-- the entries for the LIDs at the switches so far
abbrev pub invariant-block : goal.invariant-block
invariant-block l =
    record {
      within : l.first ≤ l.switches;
      rows : AreRows (numbered (λ lid. get_or l.numbers lid 0) (spread_at l.spread)).next (guids_of l.spread.graph) l.attachments l.first l.rows.items;
    }

abbrev pub decreases-block : goal.decreases-block
decreases-block l = l.switches - l.first
