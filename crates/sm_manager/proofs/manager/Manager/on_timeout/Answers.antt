-- The request at the index is the one of the number.
use Rattle.std.proofs.Common.{◌<◌, length, subst}
use Rattle.std.proofs.lemmas.Option.{slice_get_within}
use Rattle.sm_manager.specs.Manager.{Manager}
use Rattle.sm_manager.proofs.manager.Manager.on_timeout.Goals as goal

pub end_request-requires : goal.end_request-requires
end_request-requires c =
    subst (λ (x : Manager). c.in-Some.index < length x.pending) c.self.view_is
    (slice_get_within c.self.inside.requests.pending c.in-Some.index (c.in-Some.ensures.0) (c.in-Some.ensures.1))
