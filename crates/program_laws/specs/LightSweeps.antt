-- What a light sweep stands for: if no cable of a switch has changed, the part of a fabric that is joined to a manager is
-- what it was, and facts that described it describe it still. InfiniBand Architecture Specification, Volume 1: subnet
-- management, SwitchInfo (PortStateChange).
use Rattle.std.specs.Prelude.{◌≡◌, IsTrue}
use Rattle.fabric_model.specs.declared.cable.NodePort.{NodePort}
use Rattle.fabric_model.specs.Fabric.{Fabric, IsFabric, is_switch_at}
use Rattle.fabric_model.specs.FabricWalks.{IsJoinedTo, vertex_of}
use Rattle.subnet_view.specs.FabricAgreement.{AgreesOn}
use Rattle.subnet_view.specs.Reading.{Cells}

-- `before` has become `now`, and no cable has come to or gone from the port `origin`, or a port of a switch that was
-- joined to it. What is set at agents may have changed, and so may all other cables
pub record AreQuiet (before now : Fabric) (origin : NodePort) : Type 0 where
  pub nodes : now.nodes ≡ before.nodes
  pub own : now.across origin ≡ before.across origin
  pub switches : (p : NodePort) → IsTrue (is_switch_at before p.node)
      → IsJoinedTo before origin (vertex_of before p) → now.across p ≡ before.across p

-- if so, facts that described exactly what was joined to `origin` describe exactly what is joined to it now
abbrev pub QuietSwitchesKeepThePart : Type 0
QuietSwitchesKeepThePart =
    (before now : Fabric) → IsFabric before → IsFabric now → (origin : NodePort) → AreQuiet before now origin
    → (cells : Cells) → AgreesOn (IsJoinedTo before origin) cells before → AgreesOn (IsJoinedTo now origin) cells now
