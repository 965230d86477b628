-- What a manager does while no request is out and nothing runs: it polls, announces itself, sweeps, or waits.
use Rattle.std.specs.Prelude.{ℕ, min, max, Bool, false, nat_le, if◌then◌else◌, Option, Some, None}
use Rattle.sm_state.specs.declared.state.SmState.{SmState}
use Rattle.sm_state.specs.declared.state.SmState.TheVariants.{NotActive, Discovering, Standby, Master}
use Rattle.sm_policy.specs.declared.act.Act.TheVariants.{Poll, Announce, Sweep}
use Rattle.sm_policy.specs.declared.activity.Activity.{Activity}
use Rattle.sm_policy.specs.declared.activity.Activity.TheVariants.{Rests, Sweeps, Hands}
use Rattle.sm_policy.specs.declared.policy.Policy.{Policy}
use Rattle.sm_policy.specs.declared.rival.Rival.{Rival}
use Rattle.sm_policy.specs.declared.rival.Rival.TheVariants.{Lesser}
use Rattle.sm_policy.specs.Policy.{Decision, announced_every, later_by, shortest, still}

-- when what is due ---------------------------------------------------------------------------------

-- when a standby polls the master next; None if it is no standby, or knows no master
abbrev pub poll_due_in : SmState → Option Rival → ℕ → Option ℕ
poll_due_in Standby (Some rival) next = Some next
poll_due_in state master next = None

-- when a standby announces itself to a lesser master next; None if it is no standby, or knows no lesser master
abbrev pub call_due_in : SmState → Option Rival → ℕ → Option ℕ
call_due_in Standby (Some Lesser) next = Some next
call_due_in state master next = None

-- when the next sweep begins, if `wanted` is the time at which one that is asked for may begin, and `regular` the time
-- at which a master sweeps unasked: a manager that discovers, or is standby and knows no master, sweeps as soon as it
-- may. None if no sweep is due
abbrev pub sweep_due_in : SmState → Option Rival → Bool → ℕ → ℕ → Option ℕ
sweep_due_in NotActive master is_wanted wanted regular = None
sweep_due_in Discovering master is_wanted wanted regular = Some wanted
sweep_due_in Standby None is_wanted wanted regular = Some wanted
sweep_due_in Standby (Some rival) is_wanted wanted regular = if is_wanted then Some wanted else None
sweep_due_in Master master is_wanted wanted regular = Some (if is_wanted then wanted else regular)

abbrev pub poll_due : Policy → Option ℕ
poll_due p = poll_due_in p.state p.master p.next_poll

abbrev pub call_due : Policy → Option ℕ
call_due p = call_due_in p.state p.master p.next_call

abbrev pub sweep_due : Policy → Option ℕ
sweep_due p = sweep_due_in p.state p.master p.is_wanted p.earliest (max p.earliest p.next_sweep)

-- the earlier of two times; None if there is neither
abbrev pub earlier : Option ℕ → Option ℕ → Option ℕ
earlier None other = other
earlier (Some one) None = Some one
earlier (Some one) (Some other) = Some (min one other)

-- when a manager that rests has something to do next; None if it waits for others alone
abbrev pub rest_due : Policy → Option ℕ
rest_due p = earlier (poll_due p) (earlier (call_due p) (sweep_due p))

-- whether the given time has come at `now`; never if it is None
abbrev pub is_due : ℕ → Option ℕ → Bool
is_due now None = false
is_due now (Some time) = nat_le time now

-- what is done --------------------------------------------------------------------------------------

-- a sweep begins at the time `now`
abbrev pub sweeping : ℕ → Policy → Policy
sweeping now p =
    record p {
      activity = Sweeps;
      is_wanted = false;
      is_stale = false;
      begun = now;
      earliest = later_by shortest now;
    }

-- what a manager that rests does at the time `now`: the first of these that is due. A sweep begins only if no poll and
-- no announcement is due
abbrev pub rested : ℕ → Policy → Decision
rested now p =
    if is_due now (poll_due p)
    then record { policy = record p { next_poll = later_by p.timing.poll now }; act = Poll }
    else if is_due now (call_due p)
    then record { policy = record p { next_call = later_by announced_every now }; act = Announce }
    else if is_due now (sweep_due p) then record { policy = sweeping now p; act = Sweep }
    else still p

-- handovers -----------------------------------------------------------------------------------------

-- a handover was asked for: it goes on if its request is out, else the manager rests
abbrev pub handing : Bool → Policy → Policy
handing is_out p = record p { activity = if is_out then Hands else Rests }

-- the request of a handover is no longer out: the manager is standby if the other one has taken over, and rests
abbrev pub handed : Policy → Policy
handed p = record p { activity = Rests }

-- when the policy has something to do next while no request is out; None if it waits for others alone
abbrev pub due_in : Activity → ℕ → Policy → Option ℕ
due_in Rests now p = rest_due p
due_in activity now p = Some now
