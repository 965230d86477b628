-- Requests of a manager on their way: those that wait for their turn, and those that are out. A request that is out
-- and has no answer in time is sent again, a few times, and is then given up. InfiniBand Architecture Specification,
-- Volume 1: management datagrams, TransactionID; subnet management, SMP time-outs.
use Rattle.std.specs.Prelude.{ℕ, ◌+◌, ◌*◌, ◌-◌, ◌^◌, min, Bool, ◌&&◌, not, List, [], ◌∷◌, ◌++◌}
use Rattle.std.specs.Prelude.{length, nat_le, nat_lt, ◌==◌, if◌then◌else◌, Option, Some, None}
use Rattle.smp_bytes.specs.Header.{get, sm_info}
use Rattle.smp_bytes.specs.Field.{number_in}
use Rattle.smp_bytes.specs.Packet.{attribute_id, attribute_modifier, is_directed, is_response, method, transaction_id}
use Rattle.sm_manager.specs.declared.outgoing.Outgoing.{Outgoing}
use Rattle.sm_policy.specs.Policy.{later_by}
use Rattle.request_window.specs.declared.limits.Limits.{Limits}
use Rattle.request_window.specs.declared.out.Out.{Out}
use Rattle.request_window.specs.declared.late.Late.{Late}
use Rattle.request_window.specs.declared.late.Late.TheVariants.{Again, GivenUp}

-- the requests of a manager on their way: `queued` wait for their turn, first in, first out; `outs` were sent and have
-- no answer yet, in the order in which they were first sent
pub record Window : Type 0 where
  pub limits : Limits
  pub queued : List Outgoing
  pub outs : List Out

-- no requests
abbrev pub new_window : Limits → Window
new_window limits = record { limits = limits; queued = []; outs = [] }

-- for how many milliseconds an answer to a request is waited for: the time-out, and three times as long for SMInfo,
-- since a manager may answer late while it plans
abbrev pub patience : Limits → Outgoing → ℕ
patience limits request =
    if number_in attribute_id request.packet == sm_info then 3 * limits.timeout else limits.timeout

-- a request that is sent at `time`, and was sent `tries` times with that
abbrev pub out_at : Limits → ℕ → ℕ → Outgoing → Out
out_at limits time tries request =
    record { request = request; tries = tries; deadline = later_by (patience limits request) time }

-- sending ----------------------------------------------------------------------------------------

-- the outcome of a call: the window afterwards, and the request that the call gives, or None
pub record Given : Type 0 where
  pub window : Window
  pub request : Option Outgoing

-- the window after a request was put behind those that wait for their turn
abbrev pub after_queue : Outgoing → Window → Window
after_queue request w = record w { queued = w.queued ++ request ∷ [] }

-- the window that sends the first of `queued` at `time` if there is room for it among those that are out
abbrev pub sent_of : ℕ → Window → List Outgoing → Given
sent_of time w [] = record { window = w; request = None }
sent_of time w (request ∷ later) =
    if nat_lt (length w.outs) w.limits.outstanding
    then record {
      window = record w { queued = later; outs = w.outs ++ out_at w.limits time 1 request ∷ [] };
      request = Some request;
    }
    else record { window = w; request = None }

-- the outcome of sending the next request at `time`: the first that waits, if fewer are out than may be
abbrev pub after_send : ℕ → Window → Given
after_send time w = sent_of time w w.queued

-- time -------------------------------------------------------------------------------------------

-- whether an answer to a request that is out was waited for long enough at `time`
abbrev pub is_late : ℕ → Out → Bool
is_late time out = nat_le out.deadline time

-- whether `packet` is a poll: a Get of SMInfo that no sweep asks, since a sweep's TransactionIDs are 2^32 or more
abbrev pub is_poll : List ℕ → Bool
is_poll packet =
    number_in method packet == get
    && (number_in attribute_id packet == sm_info && nat_lt (number_in transaction_id packet) (2 ^ 32))

-- whether a late request is sent again: it was not sent as often as it may be, and it is no poll, since the next poll
-- asks the same
abbrev pub is_sent_again : Limits → Out → Bool
is_sent_again limits out = nat_lt out.tries limits.tries && not (is_poll out.request.packet)

-- the requests that are out, after the first that is late was sent again or given up, and which of both; None if none
-- is late
pub record LateOutcome : Type 0 where
  pub outs : List Out
  pub late : Option Late

-- the outcome, with `out` in front of the requests that are out
abbrev pub behind : Out → LateOutcome → LateOutcome
behind out outcome = record outcome { outs = out ∷ outcome.outs }

-- the outcome for a late request in front of `outs`: it is sent again at `time` (`is_sent_again`), or is given up, and
-- is no longer out
abbrev pub judged_late : Limits → ℕ → Out → List Out → LateOutcome
judged_late limits time out outs =
    if is_sent_again limits out
    then record { outs = out_at limits time (out.tries + 1) out.request ∷ outs; late = Some (Again out.request) }
    else record { outs = outs; late = Some (GivenUp out.request) }

-- the outcome for the first request of a list that is late at `time`
abbrev pub late_in : Limits → ℕ → List Out → LateOutcome
late_in limits time [] = record { outs = []; late = None }
late_in limits time (out ∷ outs) =
    if is_late time out then judged_late limits time out outs else behind out (late_in limits time outs)

-- the window after its first request that is late at `time` was sent again or given up
abbrev pub after_overdue : ℕ → Window → Window
after_overdue time w = record w { outs = (late_in w.limits time w.outs).outs }

-- the lesser of `least` and `deadline`; `deadline` if `least` is None
abbrev pub earlier : Option ℕ → ℕ → ℕ
earlier None deadline = deadline
earlier (Some least) deadline = min least deadline

-- the least of `least` and the deadlines of the requests that are out; None if there is neither
abbrev pub least_deadline : List Out → Option ℕ → Option ℕ
least_deadline [] least = least
least_deadline (out ∷ outs) least = least_deadline outs (Some (earlier least out.deadline))

-- when the next request that is out will be late; None if none is out
abbrev pub next_deadline : Window → Option ℕ
next_deadline w = least_deadline w.outs None

-- answers ----------------------------------------------------------------------------------------

-- whether both packets are directed, or neither is
abbrev pub are_of_one_class : List ℕ → List ℕ → Bool
are_of_one_class one other = if is_directed one then is_directed other else not (is_directed other)

-- whether the packets have the same TransactionID, AttributeID, AttributeModifier and class
abbrev pub are_alike : List ℕ → List ℕ → Bool
are_alike one other =
    number_in transaction_id one == number_in transaction_id other
    && (number_in attribute_id one == number_in attribute_id other
    && (number_in attribute_modifier one == number_in attribute_modifier other
    && are_of_one_class one other))

-- whether `packet` answers the request `out`: it is a response with the request's TransactionID, AttributeID,
-- AttributeModifier and class
abbrev pub answers : List ℕ → Out → Bool
answers packet out = is_response packet && are_alike packet out.request.packet

-- the first request that passes the test is taken out of the list: the others, and that request; None if none passes
pub record TakenOut : Type 0 where
  pub outs : List Out
  pub request : Option Outgoing

-- `taken`, with `out` in front of the others
abbrev pub kept_behind : Out → TakenOut → TakenOut
kept_behind out taken = record taken { outs = out ∷ taken.outs }

-- the first request that passes the test, and the list without it
abbrev pub first_out : (Out → Bool) → List Out → TakenOut
first_out test [] = record { outs = []; request = None }
first_out test (out ∷ outs) =
    if test out then record { outs = outs; request = Some out.request } else kept_behind out (first_out test outs)

-- the outcome of the packet that came in: the first request that it answers is no longer out, and is given
abbrev pub after_answer : List ℕ → Window → Given
after_answer packet w =
    record {
      window = record w { outs = (first_out (answers packet) w.outs).outs };
      request = (first_out (answers packet) w.outs).request;
    }

-- giving up --------------------------------------------------------------------------------------

-- the outcome of giving up the first of `queued`, which has not been sent
abbrev pub unsent_of : Window → List Outgoing → Given
unsent_of w [] = record { window = w; request = None }
unsent_of w (request ∷ later) = record { window = record w { queued = later }; request = Some request }

-- the outcome of giving up the first request that waits for its turn; None if none waits
abbrev pub after_drop_queued : Window → Given
after_drop_queued w = unsent_of w w.queued

-- the outcome of giving up the first of `outs`
abbrev pub unanswered_of : Window → List Out → Given
unanswered_of w [] = record { window = w; request = None }
unanswered_of w (out ∷ outs) = record { window = record w { outs = outs }; request = Some out.request }

-- the outcome of giving up the first request that is out; None if none is out
abbrev pub after_drop_out : Window → Given
after_drop_out w = unanswered_of w w.outs

-- no requests wait for their turn, and none is out
abbrev pub cleared : Window → Window
cleared w = record w { queued = []; outs = [] }
