-- What a reply does to the requests of a sweep.
use Rattle.std.specs.Prelude.{◌≡◌, ℕ, ◌+◌, ◌^◌, ◌≤◌, ◌++◌, length, slice_get, Some}
use Rattle.sweep.specs.declared.finding.Finding.{Finding}
use Rattle.sweep.specs.declared.request.Request.{Request}
use Rattle.sweep.specs.Sweep.{numbered, without_number}
use Rattle.sweep.specs.Finding.{IsWithinReach}
use Rattle.sweep.specs.Questions.{questions}
use Rattle.sweep.specs.SweepRequests.{SweepRequests}

-- the request at `index` is outstanding. At most 256 questions follow from the finding `found` of its reply, there
-- are numbers and memory for these questions, and none needs a path of more than 63 ports
pub record CanTake (requests : SweepRequests) (index : ℕ) (found : Finding) : Type 0 where
  pub request : Request
  pub waits : slice_get requests.outstanding index ≡ Some request
  pub reach : IsWithinReach request.path found
  pub few : length (questions request.path found) ≤ 256
  pub room : length (questions request.path found) ≤ requests.room
  pub number : requests.next + length (questions request.path found) ≤ 2 ^ 32

-- `new` is `old` after the request at `index` was removed and the questions that follow from the finding `found` were
-- queued
pub record HasTaken (index : ℕ) (found : Finding) (old new : SweepRequests) : Type 0 where
  pub request : Request
  pub waited : slice_get old.outstanding index ≡ Some request
  pub next : new.next ≡ old.next + length (questions request.path found)
  pub outstanding : new.outstanding ≡ without_number request.number old.outstanding
  pub queued : new.queued ≡ old.queued ++ numbered old.next (questions request.path found)
