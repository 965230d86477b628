-- A sweep: its queued and outstanding requests, and what it has found.
-- InfiniBand Architecture Specification, Volume 1: subnet management, topology discovery; directed route SMPs.
use Rattle.std.specs.Prelude.{ℕ, ◌+◌, ◌*◌, ◌^◌, ◌≤◌, Bool, true, false, ◌&&◌, List, [], ◌∷◌, ◌++◌, length, find}
use Rattle.std.specs.Prelude.{replicate, ◌==◌, if◌then◌else◌, Option, Some, None, option_map, is_some, slice_get}
use Rattle.std.specs.Prelude.{IsSome}
use Rattle.smp_bytes.specs.Header.{get, node_info, switch_info, port_info, sm_info}
use Rattle.smp_bytes.specs.Requests.{directed}
use Rattle.attr_codec.specs.declared.port_state.PortState.{PortState}
use Rattle.reply_facts.specs.declared.report.Context.{Context}
use Rattle.reply_facts.specs.declared.report.Context.TheVariants.{Start}
use Rattle.sweep.specs.declared.fault.SweepFault.{SweepFault}
use Rattle.sweep.specs.declared.fault.SweepFault.TheVariants.{NotOutstanding}
use Rattle.sweep.specs.declared.question.Question.{Question}
use Rattle.sweep.specs.declared.question.Question.TheVariants as ask
use Rattle.sweep.specs.declared.request.Request.{Request}
use Rattle.sweep.specs.declared.vertex.Vertex.{Vertex}
use Rattle.sweep.specs.declared.vertex.SeenState.{SeenState}
use Rattle.request_table.specs.Numbers as numbers
use Rattle.sweep.specs.Images.{Images, image_at, no_images}
use Rattle.sweep.specs.Order.{AreInOrder, found_at}

-- the port that the sweep starts from, and its generation; the number of its next request; the requests that are
-- queued and those that are outstanding, each list in ascending order of number; the vertices that were reached and
-- the states of ports that were seen, in ascending order of GUID and port; the images; the number of requests that
-- timed out, and the number of these that were for SMInfo; and the number of ports that lead too far
pub record Sweep : Type 0 where
  pub origin : ℕ
  pub generation : ℕ
  pub next : ℕ
  pub queued : List Request
  pub outstanding : List Request
  pub reached : List Vertex
  pub states : List SeenState
  pub images : Images
  pub unanswered : ℕ
  pub silent_managers : ℕ
  pub too_far : ℕ

-- requests as packets ---------------------------------------------------------------------

-- the attribute that a question asks for
abbrev pub attribute_asked : Question → ℕ
attribute_asked ask.Node = node_info
attribute_asked ask.Switch = switch_info
attribute_asked (ask.Port port) = port_info
attribute_asked (ask.Manager guid port) = sm_info

-- the attribute modifier of a question: the port for PortInfo, else 0
abbrev pub modifier_asked : Question → ℕ
modifier_asked ask.Node = 0
modifier_asked ask.Switch = 0
modifier_asked (ask.Port port) = port
modifier_asked (ask.Manager guid port) = 0

-- 1 if a question asks a manager for SMInfo, else 0
abbrev pub managers_asked : Question → ℕ
managers_asked ask.Node = 0
managers_asked ask.Switch = 0
managers_asked (ask.Port port) = 0
managers_asked (ask.Manager guid port) = 1

-- the TransactionID of the request with the number `number`: the generation in the high half, the number in the low
-- half
abbrev pub transaction_of : ℕ → ℕ → ℕ
transaction_of generation number = generation * 2 ^ 32 + number

-- the packet of the request `r`: a Get along its path, with no data
abbrev pub packet_of : ℕ → Request → List ℕ
packet_of generation r =
    directed get (attribute_asked r.question) (modifier_asked r.question) (transaction_of generation r.number) r.path
    (replicate 64 0)

-- questions ------------------------------------------------------------------------------

-- a question that is to be asked along a path, before it has a number
pub record Asking : Type 0 where
  pub question : Question
  pub path : List ℕ
  pub context : Context

-- the questions as requests, with numbers that rise from `number`
abbrev pub numbered : ℕ → List Asking → List Request
numbered number [] = []
numbered number (a ∷ asked) =
    record { number = number; question = a.question; path = a.path; context = a.context } ∷ numbered (number + 1) asked

-- the sweep with the questions `asked` queued, numbered upwards from the sweep's next number
abbrev pub asking : Sweep → List Asking → Sweep
asking s asked = record s { next = s.next + length asked; queued = s.queued ++ numbered s.next asked }

-- a sweep that has asked nothing; its first number is `first`, and it keeps images if `keeps`
abbrev pub empty_sweep : ℕ → ℕ → ℕ → Bool → Sweep
empty_sweep origin generation first keeps =
    record {
      origin = origin;
      generation = generation;
      next = first;
      queued = [];
      outstanding = [];
      reached = [];
      states = [];
      images = no_images keeps;
      unanswered = 0;
      silent_managers = 0;
      too_far = 0;
    }

-- the first question of a sweep: NodeInfo of the manager's own node
abbrev pub first_question : Asking
first_question = record { question = ask.Node; path = []; context = Start }

-- a sweep that has only its first question queued
abbrev pub started : ℕ → ℕ → ℕ → Bool → Sweep
started origin generation first keeps = asking (empty_sweep origin generation first keeps) (first_question ∷ [])

-- outstanding requests ---------------------------------------------------------------------

-- a sweep after its next request was sent, and the packet of the request; the packet is None if no request was queued
pub record Sent : Type 0 where
  pub sweep : Sweep
  pub packet : Option (List ℕ)

-- the sweep after the first request of the given queue was sent, which is now outstanding, and the packet of this
-- request; the unchanged sweep and None if the queue is empty
abbrev pub after_next_request_of : Sweep → List Request → Sent
after_next_request_of s [] = record { sweep = s; packet = None }
after_next_request_of s (r ∷ queued) =
    record {
      sweep = record s { queued = queued; outstanding = s.outstanding ++ r ∷ [] };
      packet =
          Some (packet_of s.generation r);
    }

-- the sweep after its next request was sent, which is now outstanding, and the packet of this request; the unchanged
-- sweep and None if no request is queued
abbrev pub after_next_request : Sweep → Sent
after_next_request s = after_next_request_of s s.queued

-- the requests without the one with the number `number`
abbrev pub without_number : ℕ → List Request → List Request
without_number number requests = numbers.without_number (λ r. r.number) number requests

-- the first of the requests with the TransactionID `transaction`; None if no request has this TransactionID
abbrev pub request_with : ℕ → ℕ → List Request → Option Request
request_with generation transaction requests = find (λ r. transaction_of generation r.number == transaction) requests

-- `NotOutstanding` if no outstanding request has the TransactionID `transaction`, else None
abbrev pub timeout_fault : Sweep → ℕ → Option SweepFault
timeout_fault s transaction =
    if is_some (request_with s.generation transaction s.outstanding) then None else Some NotOutstanding

-- the sweep after the given request timed out; unchanged if no request is given
abbrev pub after_timeout_of : Sweep → Option Request → Sweep
after_timeout_of s None = s
after_timeout_of s (Some r) =
    record s {
      outstanding = without_number r.number s.outstanding;
      unanswered = s.unanswered + 1;
      silent_managers = s.silent_managers + managers_asked r.question;
    }

-- the sweep after the request with the TransactionID `transaction` timed out. The request is no longer outstanding
-- and counts as unanswered; if it was for SMInfo, the manager that was asked counts as silent. Unchanged if no such
-- request is outstanding
abbrev pub after_timeout : Sweep → ℕ → Sweep
after_timeout s transaction = after_timeout_of s (request_with s.generation transaction s.outstanding)

-- the TransactionID of the outstanding request at index `i`; None if at most `i` requests are outstanding
abbrev pub outstanding_at : Sweep → ℕ → Option ℕ
outstanding_at s i = option_map (λ r. transaction_of s.generation r.number) (slice_get s.outstanding i)

-- whether there are no requests
abbrev pub is_none_left : List Request → Bool
is_none_left [] = true
is_none_left (r ∷ requests) = false

-- whether the sweep is done: no request is queued, and none is outstanding
abbrev pub is_done : Sweep → Bool
is_done s = is_none_left s.queued && is_none_left s.outstanding

-- what was found -----------------------------------------------------------------------------

-- the GUID and the port of a vertex, by which vertices are ordered
abbrev pub vertex_key : Vertex → ℕ × ℕ
vertex_key r = (r.guid, r.port)

-- the GUID and the port of a state, by which states are ordered
abbrev pub state_key : SeenState → ℕ × ℕ
state_key p = (p.guid, p.port)

-- the first vertex of node `guid`, which says what the node is; None if the node was not reached
abbrev pub first_vertex : List Vertex → ℕ → Option Vertex
first_vertex reached guid = find (λ r. r.guid == guid) reached

-- the vertex of node `guid` with the port `port`; None if the vertex was not reached
abbrev pub vertex_at : List Vertex → ℕ → ℕ → Option Vertex
vertex_at reached guid port = found_at vertex_key guid port reached

-- the state of port `port` of node `guid`; None if `states` has none for the port
abbrev pub state_at : List SeenState → ℕ → ℕ → Option PortState
state_at states guid port = option_map (λ p. p.state) (found_at state_key guid port states)

-- the path that first reached the vertex of node `guid` with the port `port`, which is 0 for a switch; None if the
-- vertex was not reached
abbrev pub path_to : Sweep → ℕ → ℕ → Option (List ℕ)
path_to s guid port = option_map (λ r. r.path) (vertex_at s.reached guid port)

-- the state of port `port` of node `guid` in the first reply with a state that is not reserved; None if there was no
-- such reply
abbrev pub seen_state : Sweep → ℕ → ℕ → Option PortState
seen_state s guid port = state_at s.states guid port

-- PortInfo in the first reply about port `port` of node `guid`; None if this PortInfo is not kept
abbrev pub port_image : Sweep → ℕ → ℕ → Option (List ℕ)
port_image s guid port = image_at s.images.ports guid port

-- SwitchInfo in the first reply of the switch `guid`; None if this SwitchInfo is not kept
abbrev pub switch_image : Sweep → ℕ → Option (List ℕ)
switch_image s guid = image_at s.images.switches guid 0

-- what holds of each sweep ---------------------------------------------------------------------

-- the numbers of the requests rise, each is at least `least`, and all are below `next`
abbrev pub AreRising : ℕ → List Request → ℕ → Type 0
AreRising least requests next = numbers.AreRising (λ r. r.number) least requests next

-- what holds of every sweep. The numbers of the outstanding requests, followed by those of the queue, rise and are
-- below `next`, which is at most 2^32. Vertices and states are in ascending order of GUID and port. Requests that
-- timed out, ports that lead too far, and requests that are outstanding or queued are together at most `next`. There
-- are at most as many silent managers as requests that timed out
pub record IsSweep (s : Sweep) : Type 0 where
  pub rising : AreRising 0 (s.outstanding ++ s.queued) s.next
  pub next : s.next ≤ 2 ^ 32
  pub reached : AreInOrder vertex_key s.reached
  pub states : AreInOrder state_key s.states
  pub counted : s.unanswered + s.too_far + length (s.outstanding ++ s.queued) ≤ s.next
  pub silent : s.silent_managers ≤ s.unanswered

-- the sweep has a path to this end port: to a switch at port 0, or to an adapter's port
abbrev pub IsReached : Sweep → ℕ → ℕ → Type 0
IsReached s guid port = IsSome (path_to s guid port)
