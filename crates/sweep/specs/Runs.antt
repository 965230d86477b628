-- Runs of a sweep: requests are sent, replies arrive, and requests time out, in any order.
use Rattle.std.specs.Prelude.{◌≡◌, ℕ, ◌+◌, ◌<◌, Bool, false, List, [], ◌∷◌, ◌++◌, length, None, Result, Ok, Err}
use Rattle.sweep.specs.declared.answer.Answer.{Answer}
use Rattle.sweep.specs.declared.answer.Answer.TheVariants.{Facts, Seen}
use Rattle.sweep.specs.declared.fault.SweepFault.{SweepFault}
use Rattle.sweep.specs.declared.request.Request.{Request}
use Rattle.request_table.specs.Order.{AreOrdered}
use Rattle.sweep.specs.Replies.{judged, after_reply}
use Rattle.sweep.specs.Sweep.{Sweep, after_next_request, managers_asked, port_image, started, switch_image, after_timeout}

-- what happens to a sweep: its next request is sent; bytes arrive; or a TransactionID times out
pub data Event : Type 0 where
  Sends : Event
  Hears : List ℕ → Event
  TimesOut : ℕ → Event

-- the sweep after the reply `packet`; unchanged if the reply was refused
abbrev pub heard : Sweep → List ℕ → Result Answer SweepFault → Sweep
heard s packet (Ok answer) = after_reply s packet
heard s packet (Err fault) = s

-- the sweep after one event
abbrev pub step : Sweep → Event → Sweep
step s Sends = (after_next_request s).sweep
step s (Hears packet) = heard s packet (judged s packet)
step s (TimesOut transaction) = after_timeout s transaction

-- the list of the first request's number; empty if there is no request
abbrev pub first_number : List Request → List ℕ
first_number [] = []
first_number (r ∷ queued) = r.number ∷ []

-- if the event sends a request, the list of its number; otherwise the empty list
abbrev pub number_sent : Sweep → Event → List ℕ
number_sent s Sends = first_number s.queued
number_sent s (Hears packet) = []
number_sent s (TimesOut transaction) = []

-- the numbers of the requests that the events send, in the order of the events
abbrev pub numbers_sent : Sweep → List Event → List ℕ
numbers_sent s [] = []
numbers_sent s (e ∷ events) = number_sent s e ++ numbers_sent (step s e) events

-- whatever happens to a sweep, the numbers of the requests that are sent rise, so no number is used twice
abbrev pub NumbersRise : Type 0
NumbersRise = (origin generation first : ℕ) (keeps : Bool) (events : List Event)
    → AreOrdered (λ a b. a < b) (numbers_sent (started origin generation first keeps) events)

-- 1 if a reply was accepted, otherwise 0
abbrev pub taken_by : Result Answer SweepFault → ℕ
taken_by (Ok answer) = 1
taken_by (Err fault) = 0

-- 1 if the event is a reply that is accepted, otherwise 0
abbrev pub reply_taken : Sweep → Event → ℕ
reply_taken s Sends = 0
reply_taken s (Hears packet) = taken_by (judged s packet)
reply_taken s (TimesOut transaction) = 0

-- the number of replies that are accepted during the events
abbrev pub replies_taken : Sweep → List Event → ℕ
replies_taken s [] = 0
replies_taken s (e ∷ events) = reply_taken s e + replies_taken (step s e) events

-- the sweep after the events, in turn
abbrev pub after : Sweep → List Event → Sweep
after s [] = s
after s (e ∷ events) = after (step s e) events

-- the number of requests that have not been answered: they timed out, are outstanding, or are still queued
abbrev pub unended : Sweep → ℕ
unended s = s.unanswered + (length s.outstanding + length s.queued)

-- whatever happens to a sweep, the requests that were answered, timed out, are outstanding or are queued are together
-- as many as the numbers that were given to requests; the first of these numbers is `first`
abbrev pub EachCounts : Type 0
EachCounts =
    (origin generation first : ℕ) (keeps : Bool) (events : List Event) →
    first + replies_taken (started origin generation first keeps) events
    + unended (after (started origin generation first keeps) events)
    ≡ (after (started origin generation first keeps) events).next

-- managers that are asked ----------------------------------------------------------------------

-- the number of the requests that are for SMInfo
abbrev pub managers_in : List Request → ℕ
managers_in [] = 0
managers_in (r ∷ requests) = managers_asked r.question + managers_in requests

-- 1 if the first request is for SMInfo, else 0
abbrev pub manager_in_first : List Request → ℕ
manager_in_first [] = 0
manager_in_first (r ∷ queued) = managers_asked r.question

-- the number of requests for SMInfo that are sent by the event: 0 or 1
abbrev pub manager_sent : Sweep → Event → ℕ
manager_sent s Sends = manager_in_first s.queued
manager_sent s (Hears packet) = 0
manager_sent s (TimesOut transaction) = 0

-- the number of requests for SMInfo that are sent during the events
abbrev pub managers_sent : Sweep → List Event → ℕ
managers_sent s [] = 0
managers_sent s (e ∷ events) = manager_sent s e + managers_sent (step s e) events

-- 1 if a reply is accepted and answers a request for SMInfo, else 0
abbrev pub manager_told : Result Answer SweepFault → ℕ
manager_told (Ok (Facts report)) = 0
manager_told (Ok (Seen guid port info)) = 1
manager_told (Err fault) = 0

-- 1 if the event is a reply that is accepted and answers a request for SMInfo, else 0
abbrev pub manager_heard : Sweep → Event → ℕ
manager_heard s Sends = 0
manager_heard s (Hears packet) = manager_told (judged s packet)
manager_heard s (TimesOut transaction) = 0

-- the number of replies to requests for SMInfo that are accepted during the events
abbrev pub managers_heard : Sweep → List Event → ℕ
managers_heard s [] = 0
managers_heard s (e ∷ events) = manager_heard s e + managers_heard (step s e) events

-- whatever happens to a sweep, the requests for SMInfo that were sent are as many as those that were answered, are
-- outstanding, or timed out
abbrev pub EachManagerCounts : Type 0
EachManagerCounts =
    (origin generation first : ℕ) (keeps : Bool) (events : List Event) →
    managers_heard (started origin generation first keeps) events
    + (managers_in (after (started origin generation first keeps) events).outstanding
    + (after (started origin generation first keeps) events).silent_managers)
    ≡ managers_sent (started origin generation first keeps) events

-- images ------------------------------------------------------------------------------------------

-- the sweep `s` has no image of any port or switch
pub record HasNoImage (s : Sweep) : Type 0 where
  pub ports : (guid port : ℕ) → port_image s guid port ≡ None
  pub switches : (guid : ℕ) → switch_image s guid ≡ None

-- a sweep that is not asked to keep images keeps none after any run
abbrev pub NoImageUnasked : Type 0
NoImageUnasked =
    (origin generation first : ℕ) (events : List Event)
    → HasNoImage (after (started origin generation first false) events)
