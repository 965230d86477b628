-- The life of a window: a list of calls, and the requests that the calls let out.
use Rattle.std.specs.Prelude.{ℕ, List, [], ◌∷◌, ◌++◌, max, Option, Some, None, option_to_list}
use Rattle.sm_manager.specs.declared.outgoing.Outgoing.{Outgoing}
use Rattle.request_window.specs.declared.late.Late.{Late}
use Rattle.request_window.specs.declared.late.Late.TheVariants.{Again, GivenUp}
use Rattle.request_window.specs.Window.{Window, after_queue, after_send, late_in, after_overdue}
use Rattle.request_window.specs.Window.{after_answer, after_drop_queued, after_drop_out}

-- a call that may change a window, at the time that it tells
pub data Call : Type 0 where
  Queue : (request : Outgoing) → Call
  Send : (time : ℕ) → Call
  Overdue : (time : ℕ) → Call
  Answer : (packet : List ℕ) → Call
  DropQueued : Call
  DropOut : Call

-- the window after a call. If memory runs out, the call counts as not made
abbrev pub after_call : Call → Window → Window
after_call (Queue request) w = after_queue request w
after_call (Send time) w = (after_send time w).window
after_call (Overdue time) w = after_overdue time w
after_call (Answer packet) w = (after_answer packet w).window
after_call DropQueued w = (after_drop_queued w).window
after_call DropOut w = (after_drop_out w).window

-- the window after these calls, one after the other
abbrev pub after_calls : List Call → Window → Window
after_calls [] w = w
after_calls (call ∷ calls) w = after_calls calls (after_call call w)

-- what the calls are given --------------------------------------------------------------------------

-- the request that a call queues; none for other calls
abbrev pub queued_by_call : Call → List Outgoing
queued_by_call (Queue request) = request ∷ []
queued_by_call (Send time) = []
queued_by_call (Overdue time) = []
queued_by_call (Answer packet) = []
queued_by_call DropQueued = []
queued_by_call DropOut = []

-- the requests that the calls queue, in turn
abbrev pub queued_by : List Call → List Outgoing
queued_by [] = []
queued_by (call ∷ calls) = queued_by_call call ++ queued_by calls

-- the time that a call tells; 0 for a call that tells none
abbrev pub told_time : Call → ℕ
told_time (Queue request) = 0
told_time (Send time) = time
told_time (Overdue time) = time
told_time (Answer packet) = 0
told_time DropQueued = 0
told_time DropOut = 0

-- the greatest time that a call tells; 0 if none tells a time
abbrev pub latest_time : List Call → ℕ
latest_time [] = 0
latest_time (call ∷ calls) = max (told_time call) (latest_time calls)

-- what the calls let out ------------------------------------------------------------------------------

-- the request that is sent again; none if it is given up, or if none is late
abbrev pub sent_again : Option Late → List Outgoing
sent_again None = []
sent_again (Some (Again request)) = request ∷ []
sent_again (Some (GivenUp request)) = []

-- the request that a call lets out: the one that it sends for the first time or again; none for other calls
abbrev pub printed_by_call : Call → Window → List Outgoing
printed_by_call (Queue request) w = []
printed_by_call (Send time) w = option_to_list (after_send time w).request
printed_by_call (Overdue time) w = sent_again (late_in w.limits time w.outs).late
printed_by_call (Answer packet) w = []
printed_by_call DropQueued w = []
printed_by_call DropOut w = []

-- the requests that the calls let out, in turn; one that is sent again stands there again
abbrev pub printed_by : List Call → Window → List Outgoing
printed_by [] w = []
printed_by (call ∷ calls) w = printed_by_call call w ++ printed_by calls (after_call call w)
