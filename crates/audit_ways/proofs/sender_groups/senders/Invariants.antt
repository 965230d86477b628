-- The end ports so far.
use Rattle.fact_store.specs.View.{cells_of}
use Rattle.audit_ways.specs.SenderGroups.{AreGrouped}
use Rattle.audit_ways.specs.Ways.{is_adapter}
use Rattle.audit_ways.proofs.Grouped.{first_of}
use Rattle.audit_ways.proofs.sender_groups.senders.Given as goal

abbrev pub invariant-loop-source : goal.invariant-loop-source
invariant-loop-source l = AreGrouped (cells_of l.network.facts) (first_of (cells_of l.network.facts) is_adapter l.source-index) l.groups
