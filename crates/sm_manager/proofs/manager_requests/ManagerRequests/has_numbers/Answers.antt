use Rattle.std.proofs.Common.{subst}
use Rattle.sm_manager.specs.ManagerRequests.{AreNumbered, ManagerRequests}
use Rattle.sm_manager.proofs.manager_requests.ManagerRequests.has_numbers.Goals as goal

pub returns-clause-numbered : goal.returns-clause-numbered
returns-clause-numbered c = subst (λ (v : ManagerRequests). AreNumbered v.counter v.pending) c.self.view_is c.has_numbers.ensures.numbered
