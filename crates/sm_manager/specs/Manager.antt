-- A subnet manager: what it knows, its last sweep, the packets that it has queued, and the calls on it. InfiniBand
-- Architecture Specification, Volume 1: subnet management, subnet manager; topology discovery.
use Rattle.std.specs.Prelude.{◌≡◌, ℕ, ◌+◌, ◌-◌, ◌^◌, max, Bool, false, not, List, [], ◌∷◌, ◌++◌}
use Rattle.std.specs.Prelude.{map, ◌==◌, if◌then◌else◌, Option, Some, None}
use Rattle.fact_store.specs.Seen.{newest_of}
use Rattle.fact_store.specs.View.{Facts, cells_of, no_facts, raised}
use Rattle.plan_steps.specs.Phase.{Phase}
use Rattle.fact_store.specs.Merge.{merge}
use Rattle.sweep.specs.declared.request.Request.{Request}
use Rattle.sweep.specs.Sweep.{Sweep, started, is_done, packet_of, transaction_of}
use Rattle.sm_manager.specs.declared.fault.ManagerFault.{ManagerFault}
use Rattle.sm_manager.specs.declared.fault.ManagerFault.TheVariants.{GenerationsSpent, SweepRunning}
use Rattle.sm_manager.specs.declared.outgoing.Outgoing.{Outgoing}
use Rattle.sm_manager.specs.declared.pending.Pending.{Pending}
use Rattle.sm_manager.specs.declared.progress.Progress.{Progress}
use Rattle.sm_manager.specs.declared.progress.Progress.TheVariants.{Never, Running, Done}
use Rattle.sm_state.specs.declared.conduct.Conduct.{Conduct}
use Rattle.sm_state.specs.declared.election.SeenManager.{SeenManager}
use Rattle.sm_state.specs.declared.standing.Standing.{Standing}
use Rattle.plan_steps.specs.Planning.{Planning}
use Rattle.sm_state.specs.Conduct.{is_live}
use Rattle.sm_state.specs.Election.{sweep_verdict}
use Rattle.sm_state.specs.Standing.{active_once_more, info_of, moved_by, new_standing}

-- a writing of a plan, whether it still runs or is over. `later` has the phases that are still to be sent, the next
-- one first. `has_failed` is true if a step that counts (`counts`) timed out, or was answered with a status other
-- than 0
pub record Writing : Type 0 where
  pub later : List Phase
  pub has_failed : Bool

-- a manager: `standing` is its standing among the managers of its subnet, `port` the number of its port, and
-- `planning` how it plans. `store` is the view of all facts that the manager took in. `sweep` is its last sweep, or
-- None if the manager began none; `seen` has the managers that this sweep saw, in the order in which it saw them.
-- `writing` is the last writing, or None if the manager began none. `counter` is the number of the next request
-- outside sweeps. `pending` has the outstanding requests outside sweeps, in ascending order of number. `outgoing` has
-- the queued packets, first in, first out
pub record Manager : Type 0 where
  pub standing : Standing
  pub port : ℕ
  pub planning : Planning
  pub store : Facts
  pub sweep : Option Sweep
  pub seen : List SeenManager
  pub writing : Option Writing
  pub counter : ℕ
  pub pending : List Pending
  pub outgoing : List Outgoing

-- a manager before any call, at the port with the number `port` and the GUID `port_guid`: it has no facts, sweep,
-- requests or packets
abbrev pub new_manager : ℕ → ℕ → ℕ → Conduct → Planning → Manager
new_manager port_guid port priority conduct planning =
    record {
      standing = new_standing port_guid priority conduct;
      port = port;
      planning = planning;
      store = no_facts;
      sweep = None;
      seen = [];
      writing = None;
      counter = 1;
      pending = [];
      outgoing = [];
    }

-- sending the requests of a sweep ----------------------------------------------------------------

-- the packets of `requests` in a sweep of the generation `generation`, to be sent along the paths of the requests
abbrev pub requests_out : ℕ → List Request → List Outgoing
requests_out generation requests = map (λ r. record { packet = packet_of generation r; to = None }) requests

-- the sweep `s` after all its queued requests were sent, which are now outstanding
abbrev pub with_all_sent : Sweep → Sweep
with_all_sent s = record s { queued = []; outstanding = s.outstanding ++ s.queued }

-- the manager `m` with the sweep `s`: all queued requests of `s` are queued as packets of the manager, and are
-- outstanding
abbrev pub with_sweep : Manager → Sweep → Manager
with_sweep m s =
    record m {
      sweep = Some (with_all_sent s);
      outgoing = m.outgoing ++ requests_out s.generation s.queued;
    }

-- the sweep, if there is one, has no queued requests
abbrev pub IsSentWhole : Option Sweep → Type 0
IsSentWhole None = Unit {0}
IsSentWhole (Some s) = s.queued ≡ []

-- beginning a sweep ------------------------------------------------------------------------------

-- whether there is a sweep, and it is not done
abbrev pub is_running : Option Sweep → Bool
is_running None = false
is_running (Some s) = not (is_done s)

-- whether there is a sweep, and it is done
abbrev pub is_over : Option Sweep → Bool
is_over None = false
is_over (Some s) = is_done s

-- the standing `s` after the end of a sweep that saw the managers `seen`
abbrev pub after_verdict : List SeenManager → Standing → Standing
after_verdict seen s = moved_by (sweep_verdict (info_of s) seen) s

-- the manager after a change of its sweep: if the sweep is now done, the manager's state moves according to the
-- managers that the sweep saw
abbrev pub after_sweep : Manager → Manager
after_sweep m = record m { standing = if is_over m.sweep then after_verdict m.seen m.standing else m.standing }

-- the greatest generation of a cell of `facts`; 0 if `facts` have no cell
abbrev pub newest_held : Facts → ℕ
newest_held facts = newest_of (map (λ e. e.1) (cells_of facts))

-- the generation of the next sweep: one more than the greatest generation in `facts`, but at least their floor
abbrev pub next_generation : Facts → ℕ
next_generation facts = max (newest_held facts + 1) facts.floor

-- why no sweep begins, lack of memory aside: a sweep runs, or the facts have the greatest possible generation, 2^32 -
-- 1; None if a sweep may begin
abbrev pub begin_fault : Manager → Option ManagerFault
begin_fault m = if is_running m.sweep then Some SweepRunning else
    (if newest_held m.store == 2 ^ 32 - 1 then Some GenerationsSpent else None)

-- the manager after a sweep of the next generation has begun at its own port. This counts as activity. The sweep has
-- seen no manager yet, and keeps images if the manager's conduct is live
abbrev pub after_begin_sweep : Manager → Manager
after_begin_sweep m =
    with_sweep (record m {
      standing = active_once_more m.standing;
      seen =
          [];
    }) (started m.port (next_generation m.store) 1 (is_live m.standing.conduct))

-- other calls ------------------------------------------------------------------------------------

-- the manager after `facts` were merged with its own facts
abbrev pub after_merge : Manager → Facts → Manager
after_merge m facts = record m { store = merge m.store facts }

-- the manager with the floor of its facts raised to `floor`, if `floor` is greater
abbrev pub after_raise_floor : Manager → ℕ → Manager
after_raise_floor m floor = record m { store = raised m.store floor }

-- the outcome of taking a manager's first queued packet: `manager` is the manager without the packet, and `packet` is
-- the packet. If no packet was queued, `manager` is unchanged and `packet` is None
pub record Taken : Type 0 where
  pub manager : Manager
  pub packet : Option Outgoing

-- the manager `m` without the first of the given queued packets, and that packet; `m` and None if there is none
abbrev pub taken_of : Manager → List Outgoing → Taken
taken_of m [] = record { manager = m; packet = None }
taken_of m (packet ∷ later) = record { manager = record m { outgoing = later }; packet = Some packet }

-- the manager `m` without its first queued packet, and that packet; `m` and None if none is queued
abbrev pub after_take_outgoing : Manager → Taken
after_take_outgoing m = taken_of m m.outgoing

-- the manager with no packets queued
abbrev pub emptied : Manager → Manager
emptied m = record m { outgoing = [] }

-- the TransactionIDs of a sweep's outstanding requests, in ascending order; none if there is no sweep
abbrev pub transactions_of : Option Sweep → List ℕ
transactions_of None = []
transactions_of (Some s) = map (λ r. transaction_of s.generation r.number) s.outstanding

-- the TransactionIDs of all outstanding requests of the manager, in ascending order. The high half is the generation
-- for a request of a sweep, else 0
abbrev pub outstanding : Manager → List ℕ
outstanding m = map (λ p. p.number) m.pending ++ transactions_of m.sweep

-- how many of a sweep's requests for SMInfo timed out; None if there is no sweep
abbrev pub silent_in : Option Sweep → Option ℕ
silent_in None = None
silent_in (Some s) = Some s.silent_managers

-- the sweep if it is done; None if it runs, or if there is none
abbrev pub swept_of : Option Sweep → Option Sweep
swept_of None = None
swept_of (Some s) = if is_done s then Some s else None

-- how far the last sweep has come: never begun, running, or done. If a sweep has begun, with the number of its
-- requests that timed out, and the number of ports through which the sweep did not go on because the path would have
-- had more than 63 ports
abbrev pub progress_of : Option Sweep → Progress
progress_of None = Never
progress_of (Some s) = if is_done s then Done s.unanswered s.too_far else Running s.unanswered s.too_far
