-- What a manager that decides by itself does with each thing that it is told, and when it is to be told the time next.
-- Times are in milliseconds, from any origin.
use Rattle.std.specs.Prelude.{ℕ, zero, suc, Bool, true, false, ◌&&◌, ◌||◌, not, max, List, [], ◌∷◌}
use Rattle.std.specs.Prelude.{◌++◌, length, nat_lt, ◌==◌, if◌then◌else◌, Option, Some, None}
use Rattle.sm_manager.specs.declared.outgoing.Outgoing.{Outgoing}
use Rattle.sm_policy.specs.Policy.{is_master, is_sweeping, later_by, resumed, wanting}
use Rattle.sm_policy.specs.Resting.{due_in}
use Rattle.sm_policy.specs.declared.activity.Activity.{Activity}
use Rattle.sm_policy.specs.declared.activity.Activity.TheVariants.{Rests, Writes}
use Rattle.request_window.specs.Window.{Window, after_drop_out, after_drop_queued, after_overdue}
use Rattle.request_window.specs.Window.{after_send, cleared, late_in, next_deadline}
use Rattle.request_window.specs.declared.late.Late.{Late}
use Rattle.request_window.specs.declared.late.Late.TheVariants.{Again, GivenUp}
use Rattle.request_window.specs.declared.out.Out.{Out}
use Rattle.acting_manager.specs.Acting.{Acting, caught_up, collected, noted}
use Rattle.acting_manager.specs.Acts.{acted, yielding}
use Rattle.acting_manager.specs.Heard.{given_up, heard, timed_out}
use Rattle.acting_manager.specs.declared.note.Note.TheVariants.{Paused}

-- a step, done so many times
abbrev pub repeated : ℕ → (Acting → Acting) → Acting → Acting
repeated zero step a = a
repeated (suc n) step a = step (repeated n step a)

-- requests without an answer ------------------------------------------------------------------------

-- what becomes of the given late request: it goes out again, or is given up
abbrev pub late_done : Option Late → Acting → Acting
late_done None a = a
late_done (Some (Again request)) a = record a { ready = a.ready ++ request ∷ [] }
late_done (Some (GivenUp request)) a = given_up request a

-- the first late request is sent again or given up
abbrev pub one_overdue : Acting → Acting
one_overdue a =
    late_done (late_in a.window.limits a.time a.window.outs).late
    (record a { window = after_overdue a.time a.window })

-- each late request is sent again or given up
abbrev pub all_overdue : Acting → Acting
all_overdue a = repeated (length a.window.outs) one_overdue a

-- writings that are given up ------------------------------------------------------------------------

abbrev pub is_writing : Activity → Bool
is_writing Writes = true
is_writing what = false

abbrev pub is_resting : Activity → Bool
is_resting Rests = true
is_resting what = false

-- whether what is written is given up: the manager stood still, or is no longer master. No Set goes out then that was
-- queued before
abbrev pub is_given_up : Acting → Bool
is_given_up a = is_writing a.policy.activity && (a.is_void || not (is_master a.manager.standing.state))

-- the given request is dropped, and the manager gives it up
abbrev pub dropped_one : Option Outgoing → Acting → Acting
dropped_one None a = a
dropped_one (Some request) a = timed_out request a

-- the first request that waits for its turn is dropped
abbrev pub queued_dropped : Acting → Acting
queued_dropped a =
    dropped_one (after_drop_queued a.window).request (record a { window = (after_drop_queued a.window).window })

-- the first request that is out is dropped
abbrev pub out_dropped : Acting → Acting
out_dropped a = dropped_one (after_drop_out a.window).request (record a { window = (after_drop_out a.window).window })

-- all requests are dropped, those that wait for their turn and those that are out
abbrev pub dropped : Acting → Acting
dropped a =
    let unqueued = repeated (length a.window.queued) queued_dropped a in
    repeated (length unqueued.window.outs) out_dropped unqueued

-- a writing that is given up is stopped: what it has queued is dropped. The manager may queue the next phase because of
-- that, which is dropped next
abbrev pub stopped : Acting → Acting
stopped a = if is_given_up a then collected (dropped a) else a

-- sending ---------------------------------------------------------------------------------------------

-- the given request goes out
abbrev pub sent_one : Option Outgoing → Acting → Acting
sent_one None a = a
sent_one (Some request) a = record a { ready = a.ready ++ request ∷ [] }

-- the next request goes out, if there is room for it
abbrev pub one_sent : Acting → Acting
one_sent a =
    sent_one (after_send a.time a.window).request (record a { window = (after_send a.time a.window).window })

-- as many requests go out as there is room for
abbrev pub all_sent : Acting → Acting
all_sent a = repeated a.window.limits.outstanding one_sent a

-- requests go out, unless they are given up
abbrev pub sent : Acting → Acting
sent a = if is_given_up a then a else all_sent a

-- waking ----------------------------------------------------------------------------------------------

-- whether there is nothing in either list
abbrev pub are_none : List Outgoing → List Out → Bool
are_none [] [] = true
are_none queued outs = false

-- whether no request waits for its turn, and none is out
abbrev pub is_idle : Window → Bool
is_idle w = are_none w.queued w.outs

-- when the manager is to be told the time, as long as it does not leave
abbrev pub wake_in : Acting → Option ℕ
wake_in a =
    if is_given_up a then Some a.time
    else if is_idle a.window then due_in a.policy.activity a.time a.policy else next_deadline a.window

-- the given time, but not before `now`
abbrev pub not_before : ℕ → Option ℕ → Option ℕ
not_before now None = None
not_before now (Some time) = Some (max time now)

-- when the manager is to be told the time next, which is not before the time that it was told last; None if it waits
-- for packets alone, or has left
abbrev pub wake_of : Acting → Option ℕ
wake_of a = if a.is_leaving && is_resting a.policy.activity then None else not_before a.time (wake_in a)

-- working ---------------------------------------------------------------------------------------------

-- if nothing is out and nothing waits for its turn, the manager does what is next
abbrev pub acted_if_idle : Acting → Acting
acted_if_idle a = if is_idle a.window then caught_up (acted a) else a

-- what follows each thing that the manager is told: a writing that is given up is stopped, late requests are sent again
-- or given up, and if no request is left, the manager does what is next
abbrev pub worked : Acting → Acting
worked a = sent (acted_if_idle (caught_up (all_overdue (stopped (caught_up a)))))

-- how much later than it asked for the manager may be told the time, before it counts as standing still meanwhile
abbrev pub pause : ℕ
pause = 2000

-- whether the manager stood still, if it is told `time` and asked to be told the given time. One that was told no time
-- but 0 has just begun
abbrev pub stood_still : ℕ → ℕ → Option ℕ → Bool
stood_still now time None = false
stood_still now time (Some wake) = not (now == 0) && nat_lt (later_by pause wake) time

-- the manager stood still until `time`
abbrev pub paused_until : ℕ → Acting → Acting
paused_until time a = noted Paused (record a { time = time; policy = resumed a.policy; is_void = true })

-- the time is `time`, or the one that was told last if that is later
abbrev pub told_time : ℕ → Acting → Acting
told_time time a =
    let now = max time a.time in
    if stood_still a.time now (wake_of a) then paused_until now a else record a { time = now }

-- a sweep is asked for
abbrev pub wanting_now : Acting → Acting
wanting_now a = record a { policy = wanting a.policy }

-- the manager drops its requests, and hands over to its heir
abbrev pub yielding_at_once : Acting → Acting
yielding_at_once a = yielding (record a { window = cleared a.window })

-- the manager is to leave: once its sweep is over if one runs, which sees the heirs, and otherwise at once
abbrev pub leaving : Acting → Acting
leaving a =
    if a.is_leaving then a
    else if is_sweeping a.policy.activity then record a { is_leaving = true }
    else yielding_at_once (record a { is_leaving = true })

-- what a manager may be told -------------------------------------------------------------------------

-- nothing but the time; a packet, and the LID of its sender if that is known; that the operator asks for a sweep; that
-- it is to leave
pub data Told : Type 0 where
  Time : Told
  Packet : (bytes : List ℕ) → (from : Option ℕ) → Told
  Look : Told
  Leave : Told

-- what a manager is told, before the work that follows
abbrev pub taken : Told → Acting → Acting
taken Time a = a
taken (Packet bytes from) a = heard bytes from a
taken Look a = wanting_now a
taken Leave a = leaving a

-- a manager after it was told something at the time `time`
abbrev pub after_told : ℕ → Told → Acting → Acting
after_told time what a = worked (taken what (told_time time a))

-- a manager whose packets and notes were given out
abbrev pub given_away : Acting → Acting
given_away a = record a { ready = []; notes = [] }
