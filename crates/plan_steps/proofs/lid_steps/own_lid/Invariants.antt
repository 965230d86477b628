use Rattle.std.proofs.Common.{◌≡◌, drop}
use Rattle.fact_store.specs.View.{cells_of}
use Rattle.plan_steps.specs.LidSteps.{own_lid}
use Rattle.plan_steps.proofs.lid_steps.own_lid.Given as goal

-- it is not among the end ports so far
abbrev pub invariant-loop-end : goal.invariant-loop-end
invariant-loop-end l = own_lid (cells_of l.store) l.lids.ports l.own_guid l.port ≡ own_lid (cells_of l.store) (drop l.end-index l.lids.ports) l.own_guid l.port
