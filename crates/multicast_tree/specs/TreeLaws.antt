-- The laws of the tree in the order of a plan: each port gets at most one copy of a packet, if all masks are within the
-- tree; and each adapter in the component of the sender gets one, if the masks are the tree.
use Rattle.std.specs.Prelude.{◌≡◌, ◌≢◌, ◌<◌, ◌≤◌, ◌↔◌, true, ℕ, Bool, IsTrue, List, length, None, Option, Some}
use Rattle.fact_store.specs.View.{Facts, cells_of}
use Rattle.port_graph.specs.Walks.{Walk}
use Rattle.subnet_view.specs.Reading.{is_usable, switches}
use Rattle.subnet_view.specs.Wires.{attached}
use Rattle.subnet_view.specs.Graph.{graph_of, neighbors}
use Rattle.lft_blocks.specs.Rule.{RuleValue, routing_by}
use Rattle.plan_order.specs.PlanOrder.{positions_by}
use Rattle.multicast_tree.specs.Copies.{CopyGoes, GoesUpThenDown, IsCopied}
use Rattle.multicast_tree.specs.Tree.{InTree, TreePorts, copying_in, masks_of, parent_port, position_in}
use Rattle.multicast_tree.specs.Tree.{tree_in, tree_of}

-- each port that the masks of a group have is in the tree
abbrev pub IsWithin : List TreePorts → (ℕ → ℕ → Bool) → Type 0
IsWithin tree group = (g p : ℕ) → group g p ≡ true → InTree tree g p

-- the masks of a group have exactly the ports of the tree
abbrev pub IsWhole : List TreePorts → (ℕ → ℕ → Bool) → Type 0
IsWhole tree group = (g p : ℕ) → (group g p ≡ true) ↔ InTree tree g p

-- the masks of a tree have exactly its ports
abbrev pub MasksAreWhole : Type 0
MasksAreWhole = (tree : List TreePorts) → IsWhole tree (masks_of tree)

-- for any positions of switches and any group within their tree, two copies of a packet that came in by one port, and
-- that arrive at one port, go by the same ports. So a packet comes to no port twice, and none goes round
abbrev pub NoPortTwice : Type 0
NoPortTwice = (facts : Facts) (positions : List ℕ) (group : ℕ → ℕ → Bool)
    → IsWithin (tree_in (cells_of facts) positions) group → (at end : ℕ × ℕ) (ports others : List ℕ)
    → CopyGoes (copying_in (cells_of facts) group) at ports end
    → CopyGoes (copying_in (cells_of facts) group) at others end → ports ≡ others

-- for any positions of switches and any group within their tree, a copy of a packet passes at most as many switches as
-- there are usable ones
abbrev pub NoLongWay : Type 0
NoLongWay = (facts : Facts) (positions : List ℕ) (group : ℕ → ℕ → Bool)
    → IsWithin (tree_in (cells_of facts) positions) group → (at end : ℕ × ℕ) (ports : List ℕ)
    → CopyGoes (copying_in (cells_of facts) group) at ports end → length ports ≤ length (switches (cells_of facts))

-- for any positions of switches and any group within their tree, each copy goes up and then down by these positions
abbrev pub NoUpAfterDown : Type 0
NoUpAfterDown = (facts : Facts) (positions : List ℕ) (group : ℕ → ℕ → Bool)
    → IsWithin (tree_in (cells_of facts) positions) group → (at end : ℕ × ℕ) (ports : List ℕ)
    → CopyGoes (copying_in (cells_of facts) group) at ports end
    → GoesUpThenDown (copying_in (cells_of facts) group) (position_in (switches (cells_of facts)) positions) at ports

-- for any positions of switches and any group within their tree, no copy of a packet comes back to the adapter port
-- that sent it
abbrev pub NoneToTheSender : Type 0
NoneToTheSender = (facts : Facts) (positions : List ℕ) (group : ℕ → ℕ → Bool)
    → IsWithin (tree_in (cells_of facts) positions) group → (sender at : ℕ × ℕ) (ports : List ℕ)
    → attached (cells_of facts) sender.0 sender.1 ≡ Some at
    → CopyGoes (copying_in (cells_of facts) group) at ports sender → ⊥

-- if the masks of a group have exactly the ports of the tree of a rule, a copy of what an adapter port sends comes to
-- each other adapter port that is attached to a usable switch in the sender's component
abbrev pub EachGetsACopy : Type 0
EachGetsACopy = (rule : RuleValue) (facts : Facts) (group : ℕ → ℕ → Bool)
    → IsWhole (tree_of rule (cells_of facts)) group
    → (sender receiver at there : ℕ × ℕ) (n : ℕ) → sender ≢ receiver
    → attached (cells_of facts) sender.0 sender.1 ≡ Some at
    → attached (cells_of facts) receiver.0 receiver.1 ≡ Some there
    → Walk (neighbors (graph_of (cells_of facts))) at.0 there.0 n
    → (ports : List ℕ) × CopyGoes (copying_in (cells_of facts) group) at ports receiver

-- for any group within the tree of a rule, if a copy that came from one switch to a second is copied to a third, the
-- rule's number of the second channel is greater than that of the first. Numbers of channels rise in the same way along
-- the ways of the rule's plan, so packets of both kinds together never wait for one another in a credit loop
abbrev pub CopyTurnsRise : Type 0
CopyTurnsRise = (rule : RuleValue) (facts : Facts) (group : ℕ → ℕ → Bool)
    → IsWithin (tree_of rule (cells_of facts)) group → (first second third : ℕ × ℕ) (p q : ℕ)
    → IsCopied (copying_in (cells_of facts) group) first p second
    → IsCopied (copying_in (cells_of facts) group) second q third → IsTrue (is_usable (cells_of facts) third.0)
    → (routing_by rule (cells_of facts)).channel first.0 second.0
    < (routing_by rule (cells_of facts)).channel second.0 third.0

-- the port of switch `g` to its parent in the tree of a rule
abbrev pub parent_by : RuleValue → Facts → ℕ → Option ℕ
parent_by rule facts =
    parent_port (graph_of (cells_of facts))
    (position_in (switches (cells_of facts)) (positions_by rule (cells_of facts)))

-- in the tree of a rule, of the usable switches of one component at most one has no parent
abbrev pub OneWithoutParent : Type 0
OneWithoutParent = (rule : RuleValue) (facts : Facts) (g h n : ℕ) → IsTrue (is_usable (cells_of facts) g)
    → IsTrue (is_usable (cells_of facts) h) → Walk (neighbors (graph_of (cells_of facts))) g h n
    → parent_by rule facts g ≡ None → parent_by rule facts h ≡ None → g ≡ h
