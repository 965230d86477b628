-- Laws of a window, over any list of calls.
use Rattle.std.specs.Prelude.{◌≡◌, ℕ, ◌*◌, ◌≤◌, Bool, true, List, length, Contains, count_by}
use Rattle.std.specs.List.{AllByRecursion}
use Rattle.sm_manager.specs.declared.outgoing.Outgoing.{Outgoing}
use Rattle.request_window.specs.declared.limits.Limits.{Limits}
use Rattle.request_window.specs.declared.out.Out.{Out}
use Rattle.sm_policy.specs.Policy.{later_by}
use Rattle.request_window.specs.Window.{new_window, is_late, is_poll}
use Rattle.request_window.specs.Calls.{Call, after_calls, latest_time, printed_by, queued_by}

-- the requests that are out after these calls on a new window
abbrev pub out_after : Limits → List Call → List Out
out_after limits calls = (after_calls calls (new_window limits)).outs

-- after any calls on a new window, at most `limits.outstanding` requests are out
abbrev pub AtMostOutstanding : Type 0
AtMostOutstanding = (limits : Limits) (calls : List Call) → length (out_after limits calls) ≤ limits.outstanding

-- `out` was sent once at least, and at most `tries` times
pub record IsSentAFewTimes (tries : ℕ) (out : Out) : Type 0 where
  pub once : 1 ≤ out.tries
  pub few : out.tries ≤ tries

-- after any calls on a new window whose requests may be sent at all, each request that is out was sent at most
-- `limits.tries` times
abbrev pub EachIsSentAFewTimes : Type 0
EachIsSentAFewTimes =
    (limits : Limits) (calls : List Call) → 1 ≤ limits.tries
    → AllByRecursion (IsSentAFewTimes limits.tries) (out_after limits calls)

-- after any calls on a new window, each poll that is out was sent once
abbrev pub EachPollIsSentOnce : Type 0
EachPollIsSentOnce =
    (limits : Limits) (calls : List Call)
    → AllByRecursion (λ out. is_poll out.request.packet ≡ true → out.tries ≡ 1) (out_after limits calls)

-- each request that the calls on a new window let out was queued by one of them
abbrev pub SentOnlyWhatWasQueued : Type 0
SentOnlyWhatWasQueued =
    (limits : Limits) (calls : List Call)
    → AllByRecursion (Contains (queued_by calls)) (printed_by calls (new_window limits))

-- after any calls on a new window that tell no time after `t`, each request that is out is late three time-outs after
-- `t`, and from then on
abbrev pub NoneIsWaitedForTooLong : Type 0
NoneIsWaitedForTooLong =
    (limits : Limits) (calls : List Call) (t time : ℕ) → latest_time calls ≤ t → later_by (3 * limits.timeout) t ≤ time
    → AllByRecursion (λ out. is_late time out ≡ true) (out_after limits calls)

-- if requests may be sent at all, those that pass a test are let out at most `limits.tries` times as often as such
-- requests are queued
abbrev pub PrintedAtMost : Type 0
PrintedAtMost =
    (limits : Limits) (calls : List Call) (test : Outgoing → Bool) → 1 ≤ limits.tries
    → count_by test (printed_by calls (new_window limits)) ≤ limits.tries * count_by test (queued_by calls)
