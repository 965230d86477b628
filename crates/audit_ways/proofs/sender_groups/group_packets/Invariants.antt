-- The packets of the end ports so far.
use Rattle.fact_store.specs.View.{cells_of}
use Rattle.audit_ways.specs.SenderGroups.{AreGrouped}
use Rattle.audit_ways.specs.Ways.{reaches}
use Rattle.audit_ways.proofs.Grouped.{first_of}
use Rattle.audit_ways.proofs.sender_groups.group_packets.Given as goal

abbrev pub invariant-loop-index : goal.invariant-loop-index
invariant-loop-index l =
    AreGrouped (cells_of l.network.facts) (first_of (cells_of l.network.facts) (reaches (cells_of l.network.facts) l.network.held l.line) l.index) l.groups
