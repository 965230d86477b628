-- Once a manager's tree was taken, each adapter gets each multicast packet once.
-- InfiniBand Architecture Specification, Volume 1: subnet management, initialization; MulticastForwardingTable.
use Rattle.std.specs.Prelude.{◌≡◌, ◌≢◌, true, List, Contains}
use Rattle.fabric_model.specs.declared.cable.NodePort.{NodePort}
use Rattle.fabric_model.specs.FabricWalks.{IsJoinedTo}
use Rattle.fabric_sim.specs.Simulation.{fabric_of}
use Rattle.sweep.specs.Sweep.{Sweep, switch_image}
use Rattle.multicast_tree.specs.FabricCopies.{IsAdapterPortIn, IsOneCopy, IsSenderIn, pair_of}
use Rattle.multicast_tree.specs.Tree.{TreePorts}
use Rattle.plan_steps.specs.MaskSteps.{has_table}
use Rattle.manager_laws.specs.Managing.{Managing, ManagerEvent}
use Rattle.manager_laws.specs.MulticastHeld.{copying_of}
use Rattle.manager_laws.specs.TreeTaken.{AreStepsTakenAtLast, own_tree, own_tree_steps}
use Rattle.manager_laws.specs.WritingPings.{WritesWholeSweep}
use Rattle.manager_laws.specs.Written.{at_end, at_first_steps, at_writing}

-- each switch of the tree has a multicast table, by what the sweep read of it
abbrev pub HaveTables : List TreePorts → Sweep → Type 0
HaveTables tree s = (x : TreePorts) → Contains tree x → has_table (switch_image s x.guid) ≡ true

-- a manager that writes trees writes the plan of one sweep with every answer (`WritesWholeSweep`), which has read at
-- each switch that it has a multicast table. From some moment on after the writing began, agents take the Set of each
-- step of the tree, and no other Sets of multicast masks
pub record WritesTree (w : Managing) (before between after : List ManagerEvent) : Type 0 where
  pub planned : WritesWholeSweep w before between after
  pub asked : (at_writing w before between).manager.planning.multicast ≡ true
  pub tables : HaveTables (own_tree (at_writing w before between).manager) planned.sweep
  pub taken : AreStepsTakenAtLast (fabric_of w.scene.fabric) w.seat
      (own_tree_steps (at_writing w before between).manager planned.sweep) after
      (at_first_steps w before between)

-- if a manager's tree was taken (`WritesTree`), of a packet for the first multicast LID that an adapter port joined to
-- the seat sends to a switch, exactly one copy comes to each other adapter port joined to the seat
abbrev pub EachGetsOneCopyOnceTaken : Type 0
EachGetsOneCopyOnceTaken =
    (w : Managing) (before between after : List ManagerEvent) → WritesTree w before between after
    → let s = (at_end w before between after).scene.fabric in
    (sender at receiver : NodePort) → IsSenderIn (IsJoinedTo (fabric_of s) w.seat) (fabric_of s) sender at
    → IsAdapterPortIn (IsJoinedTo (fabric_of s) w.seat) (fabric_of s) receiver → sender ≢ receiver
    → IsOneCopy (copying_of s) (pair_of at) (pair_of receiver)
