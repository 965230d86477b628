-- What a manager does when its sweep is over: it deals with other masters first, and then judges its plan.
use Rattle.std.specs.Prelude.{ℕ, Bool, true, false, ◌&&◌, ◌||◌, not, nat_le, nat_lt, ◌==◌}
use Rattle.std.specs.Prelude.{if◌then◌else◌, Option, Some, None}
use Rattle.sm_state.specs.declared.state.SmState.{SmState}
use Rattle.sm_state.specs.declared.state.SmState.TheVariants.{Standby, Master}
use Rattle.sm_state.specs.Standing.{one_more}
use Rattle.sm_policy.specs.declared.act.Act.TheVariants.{Announce, Rediscover, HandOver, Yield, Judge}
use Rattle.sm_policy.specs.declared.meeting.Meeting.{Meeting}
use Rattle.sm_policy.specs.declared.activity.Activity.TheVariants.{Rests}
use Rattle.sm_policy.specs.declared.policy.Policy.{Policy}
use Rattle.sm_policy.specs.declared.rival.Rival.{Rival}
use Rattle.sm_policy.specs.declared.rival.Rival.TheVariants.{Lesser, Greater}
use Rattle.sm_policy.specs.Policy.{Decision, forgotten, ignored_for, is_master, later_by}
use Rattle.sm_policy.specs.Policy.{nobody_met, patience, still, waited_longer, wanting}

-- answers that lack ----------------------------------------------------------------------------------

-- a sweep is over that has every answer
abbrev pub whole : Policy → Policy
whole p = record p { gaps = 0; faults = if is_master p.state then p.faults else 0 }

-- whether a manager in this state that saw the given master leaves it to that one what lacks answers: it is standby
abbrev pub leaves_it : SmState → Option Rival → Bool
leaves_it Standby (Some rival) = true
leaves_it state rival = false

-- whether a master goes on without what lacks answers: several sweeps in a row lacked some, and it is not strict
abbrev pub goes_on : Policy → Bool
goes_on p = is_master p.state && (not p.timing.is_strict && nat_le patience p.gaps)

-- a sweep is over that lacks answers: another one is asked for, unless a standby saw a master, or a master goes on
abbrev pub gaping : ℕ → Option Rival → Policy → Policy
gaping now rival p =
    record (if leaves_it p.state rival || goes_on p then p else waited_longer now p) { gaps = one_more p.gaps }

-- a sweep is over, whole or not, that saw the given master. The next one of a master is due a period later
abbrev pub ended : ℕ → Bool → Option Rival → Policy → Policy
ended now is_whole rival p =
    record (if is_whole then whole p else gaping now rival p) {
      activity = Rests;
      next_sweep = later_by p.timing.every now;
    }

-- whether a plan may be made of what is known: the last sweep has every answer, or several in a row had not, and the
-- manager is not strict
abbrev pub may_plan : Policy → Bool
may_plan p = p.gaps == 0 || (not p.timing.is_strict && nat_lt patience p.gaps)

-- a standby ------------------------------------------------------------------------------------------

-- whether a sweep that saw no master counts: it has every answer, or the master is not among those that have not
-- answered for so long
abbrev pub counts : Policy → Bool
counts p = p.gaps == 0 || nat_le patience p.gaps

-- a standby saw no master in `count` sweeps in a row that count: after a few it discovers anew, since all managers that
-- are left may be standbys, each of which answers polls
abbrev pub masterless_by : ℕ → Policy → Decision
masterless_by count p =
    if nat_lt patience count
    then record { policy = record p { master = None; masterless = 0 }; act = Rediscover }
    else still (record p { master = None; masterless = count })

-- a standby after a sweep that saw the given master: it polls that from then on
abbrev pub stood_by : Option Rival → Policy → Decision
stood_by None p = masterless_by (if counts p then one_more p.masterless else p.masterless) p
stood_by (Some rival) p = still (record p { master = Some rival; masterless = 0 })

-- a master -------------------------------------------------------------------------------------------

-- the plan is judged, if one may be made. Otherwise a greater manager that was seen gets the subnet
abbrev pub judging : Policy → Decision
judging p = record { policy = p; act = if may_plan p then Judge else HandOver }

-- whether a meeting that began at the given time is over at `now`; one that never began is
abbrev pub is_past : ℕ → Option ℕ → Bool
is_past now None = true
is_past now (Some since) = nat_lt (later_by ignored_for since) now

-- the meeting with another master that is seen at `now`: it begins anew after a while
abbrev pub meeting_at : ℕ → Meeting → Meeting
meeting_at now m = if is_past now m.since then record nobody_met { since = Some now } else m

-- the subnet is offered to the other master once more
abbrev pub offered : Meeting → Meeting
offered m = record m { handovers = one_more m.handovers }

-- a master that met another one, which is to be dealt with before anything is written. A greater one gets a HANDOVER. A
-- lesser one is to hand over by itself: this one is announced, so that the other sweeps and sees it. If that does not
-- help, the other gets a HANDOVER too: it has to look at the subnet then, and hands over to the greater manager
abbrev pub dealt : Rival → Policy → Decision
dealt Greater p = record { policy = record p { meeting = offered p.meeting }; act = HandOver }
dealt Lesser p =
    if nat_lt p.meeting.looks patience
    then record {
      policy = record p { meeting = record p.meeting { looks = one_more p.meeting.looks } };
      act = Announce;
    }
    else record { policy = record p { meeting = offered p.meeting }; act = Yield }

-- a master that met another one, in the meeting that `p` tells of: one that does not give way is ignored in the end
abbrev pub met : Rival → Policy → Decision
met rival p =
    if nat_le patience p.meeting.handovers then judging p else dealt rival (wanting (forgotten p))

-- a master after a sweep that saw the given other master
abbrev pub reigned : ℕ → Option Rival → Policy → Decision
reigned now None p = judging (record p { meeting = record p.meeting { looks = 0 } })
reigned now (Some rival) p = met rival (record p { meeting = meeting_at now p.meeting })

-- any ------------------------------------------------------------------------------------------------

-- what is done after a sweep that counts, by the manager's state
abbrev pub swept_in : SmState → ℕ → Option Rival → Policy → Decision
swept_in Standby now rival p = stood_by rival p
swept_in Master now rival p = reigned now rival p
swept_in state now rival p = still p

-- what is done at the time `now` after a sweep, which has every answer or not, and saw the given master, the greatest
-- of those that the manager hears. A sweep from before the manager stood still does not count
abbrev pub swept : ℕ → Bool → Option Rival → Policy → Decision
swept now is_whole rival p =
    if p.is_stale then still (record p { activity = Rests; is_stale = false })
    else swept_in p.state now rival (ended now is_whole rival p)
