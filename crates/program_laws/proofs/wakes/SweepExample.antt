-- A manager that decides by itself sweeps at its seat once it was told the time.
use Rattle.std.proofs.Common.{◌≡◌, ◌∙◌, ◌-◌, ◌≤◌, ◌^◌, true, false, [], ◌∷◌, refl, sym, ap, subst, arith}
use Rattle.std.specs.Prelude.{◌==◌, Some, None, if◌then◌else◌, is_none}
use Rattle.node_agents.specs.Agent.{fresh_agent}
use Rattle.fact_store.specs.View.{Facts, no_facts}
use Rattle.fact_store.proofs.Merges.{raised_same}
use Rattle.fabric_sim.specs.Changes.{cabled_at}
use Rattle.fabric_sim.specs.Simulation.{fabric_of}
use Rattle.sm_state.specs.declared.conduct.Conduct.TheVariants.{Live}
use Rattle.sm_manager.specs.Manager.{Manager, after_raise_floor, begin_fault, new_manager, newest_held}
use Rattle.sm_manager.specs.declared.fault.ManagerFault.TheVariants.{GenerationsSpent}
use Rattle.sm_policy.specs.Judged.{failed}
use Rattle.sm_policy.specs.Policy.{is_sweeping}
use Rattle.sm_policy.specs.Resting.{sweeping}
use Rattle.sm_policy.specs.declared.timing.Timing.{Timing}
use Rattle.request_window.specs.declared.limits.Limits.{Limits}
use Rattle.acting_manager.specs.Acting.{Acting, caught_up, collected, new_acting}
use Rattle.acting_manager.specs.Acts.{acted}
use Rattle.acting_manager.specs.Working.{Told, acted_if_idle}
use Rattle.manager_laws.specs.Managing.{Managing, Starts}
use Rattle.manager_laws.proofs.Computed.{in_pairs}
use Rattle.manager_laws.proofs.ExampleFabric.{bare, distinct_by, is_bare}
use Rattle.manager_laws.proofs.Generations.{nothing_newest}
use Rattle.manager_laws.proofs.NewManagers.{new_at, new_starts}
use Rattle.program_laws.specs.Deciding.{Deciding, Tell, after_deciding_events, deciding_at}
use Rattle.program_laws.specs.SweepTime.{SomeSweepIsAtASeat}
use Rattle.program_laws.specs.Wakes.{after_line, before_deciding}
use Rattle.program_laws.proofs.wakes.Deciding.{caught_about, sent_about}
use Rattle.program_laws.proofs.wakes.InTime.{IsSoon, a_line_soon}
use Rattle.program_laws.proofs.wakes.Sending.{only_sends}
use Rattle.program_laws.proofs.wakes.Sweeping.{acts_leaving, looked_leaving}

-- a manager at its seat ---------------------------------------------------------------------------------

abbrev beginning : Managing
beginning = new_at 17 (Live 1) in_pairs bare 0

starts : Starts beginning
unfolding cabled_at fresh_agent
starts = new_starts 17 (Live 1) in_pairs bare 0 is_bare refl (distinct_by (fabric_of bare) refl) refl (omega arith)

abbrev timing : Timing
timing = record { every = 10000; poll = 1000; is_strict = false }

abbrev limits : Limits
limits = record { outstanding = 4; tries = 4; timeout = 500 }

abbrev me : Manager
me = new_manager 17 1 0 (Live 1) in_pairs

abbrev first : Acting
first = new_acting me timing limits 0

-- it is told the time, and sweeps -----------------------------------------------------------------------

abbrev x : Acting
x = before_deciding (0, Told.Time) first

-- nothing forbids its sweep
may_begin : begin_fault (after_raise_floor me 1) ≡ None
may_begin =
    ap (λ (facts : Facts). if newest_held facts == 2 ^ 32 - 1 then Some GenerationsSpent else None) (raised_same no_facts 1 (omega arith))
    ∙ ap (λ n. if n == 2 ^ 32 - 1 then Some GenerationsSpent else None) nothing_newest

acted_sweeps : is_sweeping (acted x).policy.activity ≡ true
acted_sweeps =
    ap (λ o. is_sweeping ((if is_none o then sweeping 0 first.policy else failed 0 (sweeping 0 first.policy)).activity)) may_begin

decided_is : acted_if_idle x ≡ caught_up (acted x)
decided_is = refl

soon : IsSoon limits 0 (after_line (0, Told.Time) first)
soon = a_line_soon limits (0, Told.Time) first (record { same = refl; time = refl; outs = tt })

abbrev told_once : Deciding
told_once = after_deciding_events (Tell 0 Told.Time ∷ []) (deciding_at beginning timing limits 0)

pub some_sweep_is_at_a_seat : SomeSweepIsAtASeat
some_sweep_is_at_a_seat =
    record {
      managing = beginning;
      before = Tell 0 Told.Time ∷ [];
      during = [];
      deciding = told_once;
      sweep = record {
        port_guid = 17;
        port = 1;
        priority = 0;
        conduct = Live 1;
        planning = in_pairs;
        timing = timing;
        limits = limits;
        newest = 0;
        starts = starts;
        new = refl;
        generations = omega arith;
        leads = refl;
        before_can = (tt, tt);
        during_can = tt;
        tries = subst (λ (l : Limits). 1 ≤ l.tries) (sym soon.same) (omega arith);
        outstanding = subst (λ (l : Limits). 1 ≤ l.outstanding) (sym soon.same) (omega arith);
        stays_on = (only_sends (acted_if_idle x)).leaving ∙ looked_leaving (collected (acted x)) ∙ acts_leaving x;
        none_leaves = tt;
        sweeps = ap is_sweeping (sent_about (acted_if_idle x) ∙ caught_about (acted x)) ∙ acted_sweeps;
        goes_on = tt;
      };
    }
