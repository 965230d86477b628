-- Laws of plans: when a plan stays the same, and which blocks it has.
use Rattle.std.specs.Prelude.{◌≡◌, ◌<◌, ℕ, ◌+◌, ◌*◌, List, Option, MatchOption, Some, slice_get}
use Rattle.fact_store.specs.View.{Facts, cells_of}
use Rattle.subnet_view.specs.declared.end_port.EndPort.{EndPort}
use Rattle.subnet_view.specs.Reading.{Cells, IsUsable}
use Rattle.lid_assign.specs.Lids.{IsNoRoom, lids, lid_of, top_of}
use Rattle.lid_assign.specs.Stability.{IsClaimed, GrowsFrom}
use Rattle.subnet_view.specs.Routing.{Routing}
use Rattle.spread_routes.specs.SwitchOrder.{OrderValue, named_in}
use Rattle.lft_blocks.specs.Rule.{RuleValue, order_of, spread_in}
use Rattle.lft_blocks.specs.Entries.{Next, attachment_of_lid, entry, block, block_count, blocks}
use Rattle.lft_blocks.specs.Plan.{plan_by, plan_of, block_at}

-- suppose the set of facts `x` has room for its LIDs, `y` differs from `x` only in claims, and in `y` each end port
-- claims the LID that it has under `x` (`IsClaimed`). Then `y` has room for its LIDs too, and the plan of `y` is that
-- of `x`
abbrev pub PlansStay : Type 0
PlansStay = (rule : RuleValue) (lmc : ℕ) (x y : Facts) → ¬ (IsNoRoom lmc (cells_of x)) → IsClaimed lmc x y
    → ¬ (IsNoRoom lmc (cells_of y)) × (plan_of rule lmc (cells_of y) ≡ plan_of rule lmc (cells_of x))

-- suppose the sets of facts `x` and `z` have room for their LIDs, and `z` grows from `x`: in `z`, the end ports of
-- `x` claim the LIDs that they have under `x`, and all others claim nothing or 0 (`GrowsFrom`). Then each end port
-- keeps the LID of the plan of `x` in the plan of `z`
abbrev pub LidsStayInPlans : Type 0
LidsStayInPlans = (rule : RuleValue) (lmc : ℕ) (x z : Facts) → ¬ (IsNoRoom lmc (cells_of x))
    → ¬ (IsNoRoom lmc (cells_of z)) → GrowsFrom lmc (cells_of x) (cells_of z)
    → (e : EndPort) (lid : ℕ) → lid_of (plan_of rule lmc (cells_of x)).given e ≡ Some lid
    → lid_of (plan_of rule lmc (cells_of z)).given e ≡ Some lid

-- block `b` of a switch has the entry for the LID 64 `b` + `i` at index `i`
abbrev pub BlocksHoldEntries : Type 0
BlocksHoldEntries = (attachments : ℕ → Option (ℕ × ℕ)) (next : Next) (count s b i : ℕ) (ports : List ℕ)
    → slice_get (blocks attachments next count s) b ≡ Some ports → i < 64 → slice_get ports i
    ≡ Some (entry attachments next s (64 * b + i))

-- `g` is a usable switch, and the greatest LID is in block `b` or a later one
abbrev pub HasBlock : ℕ → Cells → ℕ → ℕ → Type 0
HasBlock lmc cells g b = IsUsable cells g × (b < block_count (top_of (lids lmc cells)))

-- block `b` of switch `g` in the plan of a view under `rule`
abbrev pub block_of : Routing → ℕ → Cells → ℕ → ℕ → List ℕ
block_of rule lmc cells g b = block (attachment_of_lid cells (lids lmc cells)) rule.next g b

-- a plan under any rule has exactly the blocks of usable switches up to the block of the greatest LID, with the
-- switches' entries
abbrev pub BlocksAreOfSwitches : Type 0
BlocksAreOfSwitches = (rule : Routing) (lmc : ℕ) (facts : Facts) (g b : ℕ)
    → MatchOption (block_at (plan_by rule lmc (cells_of facts)) g b) (¬ (HasBlock lmc (cells_of facts) g b))
    (λ x. HasBlock lmc (cells_of facts) g b × (x ≡ block_of rule lmc (cells_of facts) g b))

-- a list that names the switches in the order of a plan gives that order again, and gives an equal plan
pub record OrderHolds (order : OrderValue) (lmc : ℕ) (cells : Cells) : Type 0 where
  pub order_stands : order_of (named_in order (order_of order cells)) cells ≡ order_of order cells
  pub plan_stands : plan_of (spread_in (named_in order (order_of order cells))) lmc cells
      ≡ plan_of (spread_in order) lmc cells

-- each order satisfies `OrderHolds`, for each set of facts and under each LMC
abbrev pub OrdersHold : Type 0
OrdersHold = (order : OrderValue) (lmc : ℕ) (facts : Facts) → OrderHolds order lmc (cells_of facts)
