-- How the sweeps of a manager on an adapter with one port and no cable begin and end.
use Rattle.std.proofs.Common.{◌≡◌, ◌≤◌, ◌∙◌, ℕ, ◌+◌, ◌-◌, ◌^◌, true, false, List, [], ap, arith}
use Rattle.std.specs.Prelude.{Option, Some, None, is_none, is_some, max, ◌==◌, if◌then◌else◌}
use Rattle.fact_store.specs.Merge.{merge}
use Rattle.fact_store.specs.View.{Facts, cells_of, raised, view, view_at}
use Rattle.subnet_view.specs.Reading.{Cells}
use Rattle.lft_blocks.specs.Plan.{PlanValue, plan_of}
use Rattle.lft_blocks.specs.Planning.{Planning}
use Rattle.lft_blocks.specs.Rule.{up_and_down}
use Rattle.plan_steps.specs.Phase.{Phase}
use Rattle.sweep.specs.Sweep.{started}
use Rattle.sm_state.specs.Conduct.{is_live}
use Rattle.sm_state.specs.Standing.{active_once_more, one_more}
use Rattle.sm_manager.specs.Manager.{Manager, after_begin_sweep, begin_fault, is_running, with_sweep}
use Rattle.sm_manager.specs.PlanFaults.{plan_fault, writing_fault}
use Rattle.sm_manager.specs.Writing.{after_write_steps, begun_with, phases_by}
use Rattle.sm_manager.specs.declared.fault.ManagerFault.{ManagerFault}
use Rattle.sm_manager.specs.declared.fault.ManagerFault.TheVariants.{GenerationsSpent, SweepRunning}
use Rattle.sm_policy.specs.Judged as judging
use Rattle.sm_policy.specs.Judged.{anew, cause_of, failed}
use Rattle.sm_policy.specs.Policy.{Decision}
use Rattle.sm_policy.specs.Resting.{rested, sweeping}
use Rattle.sm_policy.specs.declared.act.Act.TheVariants as act
use Rattle.sm_policy.specs.declared.activity.Activity.{Activity}
use Rattle.sm_policy.specs.declared.activity.Activity.TheVariants.{Rests, Writes}
use Rattle.sm_policy.specs.declared.write_cause.WriteCause.TheVariants.{New}
use Rattle.acting_manager.specs.Acting.{Acting, caught_up, noted}
use Rattle.acting_manager.specs.Acts.{acted, acted_in, decided, judged_on, judging_of, left_in, noted_as, swept_with, writing_on}
use Rattle.acting_manager.specs.Planned.{compared, planned}
use Rattle.acting_manager.specs.Reads.{no_reads}
use Rattle.acting_manager.specs.Working.{Told, acted_if_idle, after_told, given_away, is_idle, sent}
use Rattle.acting_manager.specs.declared.note.Note.TheVariants.{Refused, Writes}
use Rattle.manager_laws.proofs.Computed.{fault_with, phases_with, same_phases, sweep_in, sweep_there}
use Rattle.program_laws.specs.Wakes.{Line, after_line, before_deciding}
use Rattle.program_laws.proofs.managed.Example.{Judges, acted_so, after_sweep}
use Rattle.program_laws.proofs.lasting.LoneAdapter.{alone, of_node, of_port, tells, gathered, cells_at, cells_are, nothing_newest}

-- sweeps begin -------------------------------------------------------------------------------------------------------

-- as it is once it has caught up and sent what it can, with all that it notes
abbrev pub shown : Acting → Acting
shown a = sent (caught_up a)

-- as it is once that is given out
abbrev pub printed : Acting → Acting
printed a = given_away (shown a)

module _ (time g : ℕ) (a : Acting) where
  -- as it is when its policy has decided to sweep, if its facts are these
  abbrev pub to_sweep : Facts → Acting
  to_sweep f = record a { time = time; policy = sweeping time a.policy; newest = g; manager = record a.manager { store = f } }

  -- as it is once a sweep was asked for, with this fault, and left this manager
  abbrev pub asked : Option ManagerFault → Manager → Acting
  asked fault m =
      noted_as (is_none fault) act.Sweep (record (to_sweep (view_at g [])) {
        manager = m;
        reads = no_reads;
        policy = if is_none fault then sweeping time a.policy else failed time (sweeping time a.policy);
      })

  abbrev pub emptier : Manager
  emptier = record a.manager { store = view_at g [] }

  -- its manager when its sweep of a generation has begun
  abbrev pub sweeper : ℕ → Manager
  sweeper n =
      with_sweep (record emptier { standing = active_once_more a.manager.standing; seen = [] })
      (started a.manager.port n 1 (is_live a.manager.standing.conduct))

  -- as it is when its sweep has begun
  abbrev pub swept_on : Acting
  swept_on = printed (asked None (sweeper g))

  -- it rests, has no request, and is to sweep at the time; the floor of the sweep drops all that it knew
  pub record IsToBegin : Type 0 where
    pub before : before_deciding (time, Told.Time) a ≡ record a { time = time }
    pub idle : is_idle a.window ≡ true
    pub stays : a.is_leaving ≡ false
    pub rests : a.policy.activity ≡ Rests
    pub due : rested time a.policy ≡ record { policy = sweeping time a.policy; act = act.Sweep }
    pub next : one_more a.newest ≡ g
    pub over : is_running a.manager.sweep ≡ false
    pub forgotten : raised a.manager.store g ≡ view_at g []
    pub some : 1 ≤ g

  -- as it is when it was told the time
  abbrev pub at_time : Acting
  at_time = record a { time = time }

  -- with its facts at a floor
  abbrev pub from_floor : ℕ → Manager
  from_floor n = record a.manager { store = raised a.manager.store n }

  module _ (h : IsToBegin) where
    pub may_begin : begin_fault emptier ≡ None
    may_begin =
        (λ i. if h.over i then Some SweepRunning else (if nothing_newest g i == 2 ^ 32 - 1 then Some GenerationsSpent else None))

    acts : acted_if_idle at_time ≡ caught_up (swept_with (begin_fault (from_floor g)) (to_sweep (raised a.manager.store g)))
    acts =
        ap (λ b. if b then caught_up (acted at_time) else at_time) h.idle
        ∙ ap (λ b. caught_up (if b then left_in a.policy.activity at_time else acted_in a.policy.activity at_time)) h.stays
        ∙ ap (λ (what : Activity). caught_up (acted_in what at_time)) h.rests
        ∙ ap (λ (d : Decision). caught_up (decided d at_time)) h.due
        ∙ ap (λ n. caught_up (swept_with (begin_fault (from_floor n)) (record (to_sweep (raised a.manager.store n)) { newest = n }))) h.next

    pub begun_told : after_told time Told.Time a ≡ shown (asked None (sweeper g))
    begun_told =
        ap (λ (b : Acting). sent (acted_if_idle b)) h.before
        ∙ ap sent acts
        ∙ ap (λ (f : Facts). shown (swept_with (begin_fault (record a.manager { store = f })) (to_sweep f))) h.forgotten
        ∙ ap (λ o. shown (asked o (if is_none o then after_begin_sweep emptier else emptier))) may_begin
        ∙ ap (λ n. shown (asked None (sweeper (max (n + 1) (max 1 g))))) (nothing_newest g)
        ∙ ap (λ n. shown (asked None (sweeper n))) newest
      where
        newest : max (0 + 1) (max 1 g) ≡ g
        newest = let some = h.some in omega arith

    pub begun : after_line (time, Told.Time) a ≡ swept_on
    begun = ap given_away begun_told

-- sweeps end ---------------------------------------------------------------------------------------------------------

-- what is planned by such a planning, if this is known
abbrev pub planned_by : Planning → Cells → Option PlanValue
planned_by planning cells =
    if is_none (plan_fault planning.lmc cells) then Some (plan_of planning.rule planning.lmc cells) else None

-- the plan of what its adapter tells
abbrev pub plan_at : ℕ → ℕ → PlanValue
plan_at g lid = plan_of up_and_down 0 (cells_at g (tells g lid))

module _ (g lid : ℕ) where
  -- what is computed of a manager whose sweep of the generation has every answer
  pub record HasSwept (m : Manager) : Type 0 where
    pub swept : is_some m.sweep ≡ true
    pub planning_is : m.planning ≡ alone
    pub store_is : m.store ≡ merge (merge (view_at g []) (view (of_node g))) (view (of_port g lid))
    pub no_fault : fault_with alone m (Some (sweep_in m.sweep)) (cells_at g (tells g lid)) ≡ None
    pub has_plan : plan_fault 0 (cells_at g (tells g lid)) ≡ None
    pub some : 1 ≤ g

  module _ (m : Manager) (h : HasSwept m) where
    pub sweep_is : m.sweep ≡ Some (sweep_in m.sweep)
    sweep_is = sweep_there m.sweep h.swept

    pub facts_are : m.store ≡ view_at g (tells g lid)
    facts_are = h.store_is ∙ gathered g (of_node g) (of_port g lid) h.some

    pub known : cells_of m.store ≡ cells_at g (tells g lid)
    known = ap cells_of facts_are ∙ cells_are g (tells g lid)

    pub may_write : writing_fault m ≡ None
    may_write = (λ i. fault_with (h.planning_is i) m (sweep_is i) (known i)) ∙ h.no_fault

    pub plan_is : planned m ≡ Some (plan_at g lid)
    plan_is =
        (λ i. planned_by (h.planning_is i) (known i))
        ∙ ap (λ o. if is_none o then Some (plan_at g lid) else None) h.has_plan

    pub phases_so : phases_by m m.sweep ≡ phases_with alone m (Some (sweep_in m.sweep)) (cells_at g (tells g lid))
    phases_so = same_phases m m.sweep ∙ (λ i. phases_with (h.planning_is i) m (sweep_is i) (known i))

-- it writes ----------------------------------------------------------------------------------------------------------

module _ (plan : PlanValue) (a : Acting) where
  -- one that wrote no plan yet writes any
  pub judged_new : a.kept ≡ None → judging_of (Some plan) a ≡ writing_on New plan (record a { policy = (anew a.policy).policy })
  judged_new is i =
      judged_on (Some plan) (cause_of (compared (is i) plan) a.reads.ports a.policy)
      (judging.judged a.time (compared (is i) plan) a.reads.ports a.policy) a

  -- as it is when it writes these phases
  abbrev pub writing_so : List Phase → Acting
  writing_so phases =
      noted (Writes New) (record a {
        manager = begun_with a.manager phases;
        policy = judging.writing a.time true a.policy;
        kept = Some plan;
        is_void = false;
      })

  -- as it is once a writing was asked for, with this fault
  abbrev pub asked_to_write : Option ManagerFault → Acting
  asked_to_write fault =
      noted (if is_none fault then Writes New else Refused act.Write) (record a {
        manager = if is_none fault then after_write_steps a.manager else a.manager;
        policy = judging.writing a.time (is_none fault) a.policy;
        kept = if is_none fault then Some plan else a.kept;
        is_void = false;
      })

  pub written_so : (phases : List Phase) → writing_fault a.manager ≡ None → phases_by a.manager a.manager.sweep ≡ phases
      → writing_on New plan a ≡ writing_so phases
  written_so phases may are = ap asked_to_write may ∙ ap writing_so are

-- a sweep is over
pub over_so : (line : Line) (a : Acting) (plan : PlanValue) → Judges (before_deciding line a) → planned (before_deciding line a).manager ≡ Some plan
    → after_told line.0 line.1 a ≡ shown (judging_of (Some plan) (after_sweep (before_deciding line a)))
over_so line a plan judges is =
    ap sent (acted_so (before_deciding line a) judges)
    ∙ ap (λ (p : Option PlanValue). shown (judging_of p (after_sweep (before_deciding line a)))) is
