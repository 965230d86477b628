-- One more waits, and no step.
use Rattle.sm_manager.specs.ManagerRequests.{counts_as, is_for_step}
use Rattle.sm_manager.proofs.Numbers.{counted_with, counts_for_none, none_more}
use Rattle.sm_manager.proofs.manager_requests.ManagerRequests.send_info.Goals as goal

pub invariant_of-self : goal.invariant_of-self
invariant_of-self c =
    let inside = c.self.inside in
    counted_with inside.table.requests c.push.new.self.requests _ inside.steps inside.counting inside.steps inside.counting c.self.invariant
    c.push.ensures.requests (none_more inside.steps (is_for_step c.args.purpose) c.requires.purpose)
    (none_more inside.counting (counts_as c.args.purpose) (counts_for_none c.args.purpose c.requires.purpose))
