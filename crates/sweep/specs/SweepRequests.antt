-- The requests of a sweep: those that are outstanding, and those that are to be sent.
use Rattle.std.specs.Prelude.{◌≡◌, ℕ, ◌+◌, ◌≤◌, List, ◌++◌, length}
use Rattle.sweep.specs.declared.request.Request.{Request}
use Rattle.sweep.specs.Sweep.{Asking, numbered}

-- the number of a sweep's next request, the outstanding requests, the queued requests, and the number of further
-- requests for which there is memory
pub record SweepRequests : Type 0 where
  pub next : ℕ
  pub outstanding : List Request
  pub queued : List Request
  pub room : ℕ

-- `new` is `old` with the questions `asked` queued; the number of further requests for which there is memory falls by
-- at most the number of questions
pub record HasAsked (asked : List Asking) (old new : SweepRequests) : Type 0 where
  pub next : new.next ≡ old.next + length asked
  pub outstanding : new.outstanding ≡ old.outstanding
  pub queued : new.queued ≡ old.queued ++ numbered old.next asked
  pub room : old.room ≤ new.room + length asked
