-- When a part of a fabric holds a plan, and when the plan is in force there.
use Rattle.std.specs.Prelude.{◌≡◌, ◌<◌, ◌≤◌, ℕ, ◌+◌, ◌*◌, List, Some, IsTrue, slice_get}
use Rattle.fabric_model.specs.declared.cable.NodePort.{NodePort}
use Rattle.smp_bytes.specs.NodeType.{is_switch}
use Rattle.fabric_model.specs.Fabric.{Node, Fabric, IsFabric, range_at}
use Rattle.subnet_view.specs.Reading.{Cells}
use Rattle.subnet_view.specs.FabricAgreement.{Part, IsEndPortIn, AgreesOn, Covers}
use Rattle.lid_assign.specs.Lids.{range_of, top_of}
use Rattle.lft_blocks.specs.Plan.{PlanValue, block_at}

-- the table of the node at index `node` has the entries of `block` for the 64 LIDs that start at 64 `b`
abbrev pub HoldsBlock : Fabric → ℕ → ℕ → List ℕ → Type 0
HoldsBlock f node b block = (i : ℕ) → i < 64 → slice_get block i ≡ Some (f.entry node (64 * b + i))

-- the end port `port` has the LID and the LMC that the plan gives it. If `node` is a switch, its top is at least the
-- plan's greatest LID, and its table has the plan's blocks
pub record HoldsPlanAt (plan : PlanValue) (f : Fabric) (port : NodePort) (node : Node) : Type 0 where
  pub lids : range_of plan.given (record { node = node.guid; port = port.port }) ≡ Some (range_at f port)
  pub top : IsTrue (is_switch node.kind) → (top : ℕ) → top_of plan.given ≡ Some top → top ≤ f.top port.node
  pub blocks : (b : ℕ) (block : List ℕ) → block_at plan node.guid b ≡ Some block → HoldsBlock f port.node b block

-- the part holds the plan: each of its end ports has the LID and the LMC that the plan gives it, and each of its
-- switches has the top and the blocks, as in `HoldsPlanAt`
abbrev pub HoldsPlan : Part → PlanValue → Fabric → Type 0
HoldsPlan part plan f = (port : NodePort) (node : Node) → IsEndPortIn part f port node → HoldsPlanAt plan f port node

-- the plan is in force in the part: the facts describe the part exactly, and the part holds the plan
pub record IsInForce (part : Part) (cells : Cells) (plan : PlanValue) (f : Fabric) : Type 0 where
  pub is_fabric : IsFabric f
  pub agrees : AgreesOn part cells f
  pub holds : HoldsPlan part plan f

-- the facts describe the part, perhaps among other things, and the part holds the plan
pub record IsInForceWithin (part : Part) (cells : Cells) (plan : PlanValue) (f : Fabric) : Type 0 where
  pub is_fabric : IsFabric f
  pub covers : Covers part cells f
  pub holds : HoldsPlan part plan f
