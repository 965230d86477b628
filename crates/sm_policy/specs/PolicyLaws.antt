-- The laws of decisions: a manager acts when something is due and only then, never waits for long, and judges its plan
-- only as master.
use Rattle.std.specs.Prelude.{◌≡◌, ◌≢◌, ◌≤◌, ◌<◌, ◌↔◌, ℕ, ◌-◌, ◌^◌, max, Bool, true, false, List}
use Rattle.std.specs.Prelude.{[], ◌∷◌, Option, Some, None}
use Rattle.sm_state.specs.declared.state.SmState.{SmState}
use Rattle.sm_state.specs.declared.state.SmState.TheVariants.{NotActive, Master}
use Rattle.sm_policy.specs.declared.act.Act.{Act}
use Rattle.sm_policy.specs.declared.act.Act.TheVariants.{Wait, Poll, Announce, Sweep, Judge, Write}
use Rattle.sm_policy.specs.declared.activity.Activity.TheVariants.{Sweeps}
use Rattle.sm_policy.specs.declared.policy.Policy.{Policy}
use Rattle.sm_policy.specs.declared.ports.Ports.{Ports}
use Rattle.sm_policy.specs.declared.rival.Rival.{Rival}
use Rattle.sm_policy.specs.declared.timing.Timing.{Timing}
use Rattle.sm_policy.specs.declared.comparison.Comparison.{Comparison}
use Rattle.sm_policy.specs.declared.comparison.Comparison.TheVariants.{NoPlan}
use Rattle.sm_policy.specs.Policy.{announced_every, later_by, longest, moved, new_policy, patience}
use Rattle.sm_policy.specs.Policy.{polled, resumed, taken_over, wanting}
use Rattle.sm_policy.specs.Judged.{judged, writing, wrote}
use Rattle.sm_policy.specs.Resting.{call_due, handed, handing, is_due, poll_due, rest_due, rested}
use Rattle.sm_policy.specs.Swept.{ended, is_past, may_plan, swept}

-- acting when something is due ---------------------------------------------------------------------

-- a manager that rests waits exactly as long as nothing is due
abbrev pub WaitsUntilDue : Type 0
WaitsUntilDue = (now : ℕ) (p : Policy) → ((rested now p).act ≡ Wait) ↔ (is_due now (rest_due p) ≡ false)

-- what was just done at the time `now` is not due at this time any more: a poll and an announcement are due later, and
-- after a sweep began the manager does not rest
abbrev pub IsDone : ℕ → Policy → Act → Type 0
IsDone now p Poll = is_due now (poll_due p) ≡ false
IsDone now p Announce = is_due now (call_due p) ≡ false
IsDone now p Sweep = p.activity ≡ Sweeps
IsDone now p act = Unit {0}

-- a manager that rests does nothing twice at the same time, so it does at most three things at one time
abbrev pub DoesNothingTwice : Type 0
DoesNothingTwice =
    (now : ℕ) (p : Policy) → now < 2 ^ 64 - 1 → 1 ≤ p.timing.poll → IsDone now (rested now p).policy (rested now p).act

-- never waiting for long -----------------------------------------------------------------------------

-- what may happen to a manager at some time: it came into a state; a sweep is asked for; a HANDOVER came to a master;
-- it stood still; a poll was answered; it does what is due while it rests; a sweep is over; its plan was judged; a
-- writing was asked for, or is over; a handover was asked for, or its request is no longer out
pub data News : Type 0 where
  Moved : (state : SmState) → News
  Wanted : News
  TakenOver : News
  Resumed : News
  Polled : (is_master : Bool) → News
  Rested : News
  Swept : (is_whole : Bool) → (rival : Option Rival) → News
  Judged : (comparison : Comparison) → (ports : Ports) → News
  Writing : (has_begun : Bool) → News
  Wrote : (is_written : Bool) → News
  Handing : (is_out : Bool) → News
  Handed : News

-- the policy after the news at the time `now`
abbrev pub after_news : ℕ → News → Policy → Policy
after_news now (Moved state) p = moved now state p
after_news now Wanted p = wanting p
after_news now TakenOver p = taken_over p
after_news now Resumed p = resumed p
after_news now (Polled is_master) p = polled is_master p
after_news now Rested p = (rested now p).policy
after_news now (Swept is_whole rival) p = (swept now is_whole rival p).policy
after_news now (Judged comparison ports) p = (judged now comparison ports p).policy
after_news now (Writing has_begun) p = writing now has_begun p
after_news now (Wrote is_written) p = (wrote now is_written p).policy
after_news now (Handing is_out) p = handing is_out p
after_news now Handed p = handed p

-- news, each with its time
abbrev pub Told : Type 0
Told = List (ℕ × News)

-- the policy after all of them, in turn
abbrev pub after_told : Told → Policy → Policy
after_told [] p = p
after_told (told ∷ later) p = after_told later (after_news told.0 told.1 p)

-- the times do not fall, are not less than `since` and not above `until`, which is less than 2^64
abbrev pub Rise : ℕ → Told → ℕ → Type 0
Rise since [] until = (since ≤ until) × (until < 2 ^ 64)
Rise since (told ∷ later) until = (since ≤ told.0) × Rise told.0 later until

-- the longest time for which a manager waits
abbrev pub longest_wait : Timing → ℕ
longest_wait timing = max (max longest announced_every) (max timing.every timing.poll)

-- there is a time at which something is due, and it is at most `until`
abbrev pub IsDueBy : ℕ → Option ℕ → Type 0
IsDueBy until None = ⊥
IsDueBy until (Some time) = time ≤ until

-- whatever happened to a new manager, what it does once it rests is due within `longest_wait` of the last news, if it
-- is not Not-active: it never waits for others alone, and no failure stops it for longer
abbrev pub NeverWaitsLong : Type 0
NeverWaitsLong =
    (timing : Timing) (told : Told) (now : ℕ) → Rise 0 told now → (after_told told (new_policy timing)).state ≢ NotActive
    → IsDueBy (later_by (longest_wait timing) now) (rest_due (after_told told (new_policy timing)))

-- judging as master ---------------------------------------------------------------------------------

-- no other master was seen, or the one that was seen has been offered the subnet a few times, in a meeting that began
-- not long ago
abbrev pub IsAlone : ℕ → Option Rival → Policy → Type 0
IsAlone now None p = Unit {0}
IsAlone now (Some rival) p = (patience ≤ p.meeting.handovers) × (is_past now p.meeting.since ≡ false)

-- a plan is judged only by a master that is alone, after a sweep that has every answer or several that had not, and not
-- if the manager stood still while the sweep ran
pub record MayJudge (now : ℕ) (is_whole : Bool) (rival : Option Rival) (p : Policy) : Type 0 where
  pub master : p.state ≡ Master
  pub alone : IsAlone now rival p
  pub fresh : p.is_stale ≡ false
  pub known : may_plan (ended now is_whole rival p) ≡ true

abbrev pub JudgesAsMaster : Type 0
JudgesAsMaster =
    (now : ℕ) (is_whole : Bool) (rival : Option Rival) (p : Policy) → (swept now is_whole rival p).act ≡ Judge
    → MayJudge now is_whole rival p

-- a plan is written only where there is one
abbrev pub WritesAPlan : Type 0
WritesAPlan =
    (now : ℕ) (comparison : Comparison) (ports : Ports) (p : Policy) → (judged now comparison ports p).act ≡ Write → comparison ≢ NoPlan
