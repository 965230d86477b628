-- What a manager does next, decided by the time, by its state and by what its last sweep saw: what it remembers, and
-- what news change. Times are in milliseconds, from any origin. InfiniBand Architecture Specification, Volume 1: subnet
-- management, subnet manager (sweeping, polling, handover).
use Rattle.std.specs.Prelude.{ℕ, ◌+◌, ◌-◌, ◌*◌, ◌^◌, min, Bool, true, false, ◌&&◌, ◌||◌, not}
use Rattle.std.specs.Prelude.{nat_lt, if◌then◌else◌, None}
use Rattle.sm_state.specs.declared.state.SmState.{SmState}
use Rattle.sm_state.specs.declared.state.SmState.TheVariants.{Discovering, Master}
use Rattle.sm_state.specs.Standing.{one_more}
use Rattle.sm_policy.specs.declared.act.Act.{Act}
use Rattle.sm_policy.specs.declared.act.Act.TheVariants.{Wait}
use Rattle.sm_policy.specs.declared.meeting.Meeting.{Meeting}
use Rattle.sm_policy.specs.declared.activity.Activity.{Activity}
use Rattle.sm_policy.specs.declared.activity.Activity.TheVariants.{Rests, Sweeps}
use Rattle.sm_policy.specs.declared.policy.Policy.{Policy}
use Rattle.sm_policy.specs.declared.timing.Timing.{Timing}
use Rattle.sm_policy.specs.declared.written.Written.{Written}

-- numbers ----------------------------------------------------------------------------------------

-- the time `wait` milliseconds after `time`, but at most 2^64 - 1
abbrev pub later_by : ℕ → ℕ → ℕ
later_by wait time = min (time + wait) (2 ^ 64 - 1)

-- the least time from the beginning of one sweep to that of the next
abbrev pub shortest : ℕ
shortest = 1000

-- the longest wait after failures in a row
abbrev pub longest : ℕ
longest = 10000

-- the longest wait after failures in a row of a manager that is not master, since nobody may be
abbrev pub longest_aside : ℕ
longest_aside = 2000

-- for how many sweeps in a row a manager waits for nodes that do not answer, and for another manager
abbrev pub patience : ℕ
patience = 3

-- from one announcement of a standby to a lesser master to the next
abbrev pub announced_every : ℕ
announced_every = 10000

-- for how long another master that does not give way is then ignored
abbrev pub ignored_for : ℕ
ignored_for = 60000

-- within which time ports that name another master are taken back a few times only
abbrev pub taken_back_within : ℕ
taken_back_within = 600000

-- a policy at first -------------------------------------------------------------------------------

-- nothing that was written is known to stand
abbrev pub nothing_written : Written
nothing_written = record { stands = false; repeats = 0; inactive = 0; foreign = 0 }

-- no other master was met
abbrev pub nobody_met : Meeting
nobody_met = record { since = None; looks = 0; handovers = 0 }

-- a manager that has just begun, is discovering, and is to sweep at once
abbrev pub new_policy : Timing → Policy
new_policy timing =
    record {
      timing = timing;
      state = Discovering;
      activity = Rests;
      is_wanted = true;
      is_stale = false;
      begun = 0;
      earliest = 0;
      next_sweep = 0;
      next_poll = 0;
      next_call = 0;
      faults = 0;
      gaps = 0;
      masterless = 0;
      master = None;
      meeting = nobody_met;
      written = nothing_written;
      taken_since = 0;
      takings = 0;
    }

-- news -------------------------------------------------------------------------------------------

-- a decision: the policy afterwards, and what is to be done
pub record Decision : Type 0 where
  pub policy : Policy
  pub act : Act

-- nothing is to be done
abbrev pub still : Policy → Decision
still p = record { policy = p; act = Wait }

-- whether the manager is in `state`, given the state that it is in
abbrev pub is_discovering : SmState → Bool
is_discovering Discovering = true
is_discovering state = false

abbrev pub is_master : SmState → Bool
is_master Master = true
is_master state = false

abbrev pub is_sweeping : Activity → Bool
is_sweeping Sweeps = true
is_sweeping activity = false

-- a sweep is asked for, as soon as one may begin. What failed before may succeed now, so only the shortest time is
-- waited
abbrev pub wanting : Policy → Policy
wanting p = record p { is_wanted = true; faults = 0; earliest = later_by shortest p.begun }

-- what was written may have been changed by another manager
abbrev pub forgotten : Policy → Policy
forgotten p = record p { written = nothing_written }

-- a HANDOVER came to a master: who sent it was a master too, and wrote
abbrev pub taken_over : Policy → Policy
taken_over p = wanting (forgotten p)

-- the manager stood still: another one may be master now, and may have written; a sweep that runs has read what may be
-- old
abbrev pub resumed : Policy → Policy
resumed p = wanting (forgotten (record p { is_stale = is_sweeping p.activity }))

-- whether a manager that came into `state` sweeps at once: it discovers, or it is master and no sweep runs
abbrev pub sweeps_first : SmState → Activity → Bool
sweeps_first state activity = is_discovering state || (is_master state && not (is_sweeping activity))

-- the manager came into `state`, with all that this changes but a sweep
abbrev pub in_state : ℕ → SmState → Policy → Policy
in_state now state p =
    record p {
      state = state;
      written = nothing_written;
      meeting = record p.meeting { looks = 0 };
      master = None;
      next_poll = now;
      next_call = now;
    }

-- the manager came into `state` at the time `now`
abbrev pub moved : ℕ → SmState → Policy → Policy
moved now state p =
    if sweeps_first state p.activity then wanting (in_state now state p) else in_state now state p

-- the answer to a poll came, and says whether its sender is master; if it is not, nobody is known to be
abbrev pub polled : Bool → Policy → Policy
polled is_master p = record p { master = if is_master then p.master else None }

-- waiting longer ------------------------------------------------------------------------------------

-- the wait after so many failures in a row before this one
abbrev pub backoff : ℕ → ℕ
backoff faults = if nat_lt faults 4 then 1000 * 2 ^ faults else longest

-- the longest wait in `state`
abbrev pub longest_in : SmState → ℕ
longest_in state = if is_master state then longest else longest_aside

-- something failed: a sweep is asked for after a wait, which is the longer the more failures came in a row
abbrev pub waited_longer : ℕ → Policy → Policy
waited_longer now p =
    record p {
      is_wanted = true;
      faults = one_more p.faults;
      earliest = later_by (min (backoff p.faults) (longest_in p.state)) now;
    }
