-- A plan by an order that names the switches as they are ordered is the plan by their order.
use Rattle.std.proofs.Common.{◌≡◌, ℕ, List, [], ◌∷◌, Option, refl, ap}
use Rattle.std.specs.Prelude.{map}
use Rattle.fact_store.specs.View.{Facts, cells_of}
use Rattle.subnet_view.specs.Graph.{graph_of}
use Rattle.subnet_view.specs.Reading.{Cells, switches}
use Rattle.subnet_view.specs.Routing.{Routing}
use Rattle.subnet_view.proofs.Graphs.{graph_law}
use Rattle.lid_assign.specs.Lids.{lids, top_of}
use Rattle.spread_routes.specs.Adapters.{adapters_of}
use Rattle.spread_routes.specs.SwitchOrder.{OrderValue, named_in}
use Rattle.spread_routes.proofs.OrderLaws.{orders_stand}
use Rattle.lft_blocks.specs.Entries.{Next, attachment_of_lid, block_count}
use Rattle.lft_blocks.specs.LidNumbers.{lid_numbers, numbered}
use Rattle.lft_blocks.specs.Plan.{SwitchTable, lid_routing, plan_by, plan_of, switches_of, tables_of}
use Rattle.lft_blocks.specs.Rule.{RuleValue, order_of, spread_in}

pub named_plan : (order : OrderValue) (lmc : ℕ) (facts : Facts)
    → plan_of (spread_in (named_in order (order_of order (cells_of facts)))) lmc (cells_of facts) ≡ plan_of (spread_in order) lmc (cells_of facts)
named_plan order lmc facts =
    let cells = cells_of facts in
    ap (λ (r : Routing). plan_by (numbered (lid_numbers lmc cells (lids lmc cells)) r) lmc cells)
    (orders_stand (graph_of cells) (adapters_of cells) order (graph_law facts)).routing

guids_again : (attachments : ℕ → Option (ℕ × ℕ)) (next : Next) (count : ℕ) (guids : List ℕ)
    → map (λ (t : SwitchTable). t.guid) (tables_of attachments next count guids) ≡ guids
guids_again attachments next count [] = refl
guids_again attachments next count (g ∷ guids) = ap (λ rest. g ∷ rest) (guids_again attachments next count guids)

-- the switches of a plan are the usable ones
pub plan_guids : (rule : RuleValue) (lmc : ℕ) (cells : Cells) → switches_of (plan_of rule lmc cells) ≡ switches cells
plan_guids rule lmc cells =
    guids_again (attachment_of_lid cells (lids lmc cells)) (lid_routing rule lmc cells (lids lmc cells)).next
    (block_count (top_of (lids lmc cells))) (switches cells)
