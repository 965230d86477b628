-- When a sweep accepts a reply, and what is then known of the reply.
use Rattle.std.specs.Prelude.{◌≡◌, ℕ, ◌+◌, ◌^◌, ◌≤◌, List, length, slice_get, Some, Ok}
use Rattle.sweep.specs.declared.on_reply.Accepted.{Accepted}
use Rattle.sweep.specs.declared.request.Request.{Request}
use Rattle.sweep.specs.Sweep.{Sweep}
use Rattle.sweep.specs.Finding.{finding, IsWithinReach}
use Rattle.sweep.specs.Questions.{questions}
use Rattle.sweep.specs.Replies.{judged, request_of, sightings_by}

-- the sweep `s` accepts the reply `packet`. `accepted` has the index, the question and the context of the request that
-- the reply belongs to, the finding, the answer, and the answer's facts
pub record IsAccepted (s : Sweep) (packet : List ℕ) (accepted : Accepted) : Type 0 where
  pub request : Request
  pub waits : slice_get s.outstanding accepted.index ≡ Some request
  pub belongs : request_of s packet ≡ Some request
  pub question : accepted.question ≡ request.question
  pub context : accepted.context ≡ request.context
  pub finding : accepted.finding ≡ finding s request packet
  pub reach : IsWithinReach request.path accepted.finding
  pub few : length (questions request.path accepted.finding) ≤ 256
  pub number : s.next + length (questions request.path accepted.finding) ≤ 2 ^ 32
  pub answer : judged s packet ≡ Ok accepted.answer
  pub sightings : accepted.sightings.items ≡ sightings_by accepted.answer
