-- What a manager that decides by itself does when it acts: it begins a sweep, it begins to write what its sweep saw, or
-- neither.
use Rattle.std.proofs.Common.{◌≡◌, ℕ, arith, Bool, true, false, List, [], ◌∷◌, ◌++◌, Option, None, Some, refl, sym, subst, ap, ◌∙◌}
use Rattle.std.proofs.lemmas.Bool.{cond_both}
use Rattle.std.specs.Prelude.{◌&&◌, ◌||◌, ◌==◌, if◌then◌else◌, is_none, nat_le, nat_lt, not}
use Rattle.lft_blocks.specs.Plan.{PlanValue}
use Rattle.sm_state.specs.Standing.{one_more}
use Rattle.sm_state.specs.declared.state.SmState.{SmState}
use Rattle.sm_state.specs.declared.state.SmState.TheVariants.{NotActive, Discovering, Standby, Master}
use Rattle.sm_manager.specs.CallLists.{Call, after_call}
use Rattle.sm_manager.specs.Election.{handover_fault, poll_fault, yield_fault}
use Rattle.sm_manager.specs.Manager.{after_raise_floor, begin_fault}
use Rattle.sm_manager.specs.PlanFaults.{writing_fault}
use Rattle.sm_manager.specs.Writing.{after_write_steps, is_written}
use Rattle.sm_manager.specs.declared.fault.ManagerFault.{ManagerFault}
use Rattle.sm_policy.specs.Judged.{anew, cause_of, failed, judged, may_bring_up, may_take, once_more, settled, stood, taking}
use Rattle.sm_policy.specs.Policy.{Decision, announced_every, forgotten, later_by, patience, polled, still, waited_longer, wanting}
use Rattle.sm_policy.specs.Resting.{call_due, is_due, poll_due, rested, sweep_due, sweeping}
use Rattle.sm_policy.specs.Swept.{counts, dealt, ended, judging, masterless_by, may_plan, meeting_at, met, offered, swept, swept_in}
use Rattle.sm_policy.specs.declared.act.Act.{Act}
use Rattle.sm_policy.specs.declared.act.Act.TheVariants as act
use Rattle.sm_policy.specs.declared.activity.Activity.{Activity}
use Rattle.sm_policy.specs.declared.activity.Activity.TheVariants.{Rests, Sweeps, Writes, Hands}
use Rattle.sm_policy.specs.declared.comparison.Comparison.{Comparison}
use Rattle.sm_policy.specs.declared.comparison.Comparison.TheVariants.{NoPlan, Same, Differs}
use Rattle.sm_policy.specs.declared.policy.Policy.{Policy}
use Rattle.sm_policy.specs.declared.ports.Ports.{Ports}
use Rattle.sm_policy.specs.declared.rival.Rival.{Rival}
use Rattle.sm_policy.specs.declared.rival.Rival.TheVariants.{Lesser, Greater}
use Rattle.sm_policy.specs.declared.write_cause.WriteCause.{WriteCause}
use Rattle.acting_manager.specs.Acting.{Acting, noted}
use Rattle.acting_manager.specs.Acts.{about_plan, acted, acted_in, decided, done_by, floor_raised, handed_by}
use Rattle.acting_manager.specs.Acts.{handing_on, is_whole, judging_of, left_in, polling, rediscovering, rival_seen, sweep_over, swept_with, writing_over, writing_with}
use Rattle.acting_manager.specs.Planned.{comparison_of, planned}
use Rattle.acting_manager.specs.declared.note.Note.{Note}
use Rattle.acting_manager.specs.declared.note.Note.TheVariants.{Did, Refused, Settled, Swept, Wrote}
use Rattle.acting_manager.specs.Working.{Told, is_writing}
use Rattle.program_laws.proofs.lasting.Standing.{StandsOn, judged_on, swept_on}
use Rattle.program_laws.proofs.managed.Calm.{Calm, NoMore, SameCourse, as_before}
use Rattle.program_laws.proofs.managed.Going.{Goes, IsAllowed, calls as going_by, cases, same, still as going_still}

-- decisions after a sweep ----------------------------------------------------------------------------

-- a plan may be made after the sweep, which is whole as the flag says
pub record MayPlan (is_so : Bool) (p : Policy) : Type 0 where
  pub may : may_plan p ≡ true
  pub whole : p.gaps ≡ 0 → is_so ≡ true

-- what is decided after a sweep is no sweep and no writing. If it is to judge the plan, one may be made
abbrev pub IsNext : Bool → Policy → Act → Type 0
IsNext is_so p act.Wait = Unit {0}
IsNext is_so p act.Poll = ⊥
IsNext is_so p act.Announce = Unit {0}
IsNext is_so p act.Sweep = ⊥
IsNext is_so p act.Rediscover = Unit {0}
IsNext is_so p act.HandOver = Unit {0}
IsNext is_so p act.Yield = Unit {0}
IsNext is_so p act.Judge = MayPlan is_so p
IsNext is_so p act.Write = ⊥
IsNext is_so p act.Settle = ⊥

pub record IsAfterSweep (is_so : Bool) (d : Decision) : Type 0 where
  pub rests : d.policy.activity ≡ Rests
  pub next : IsNext is_so d.policy d.act

-- the policy of a manager that rests after its sweep
pub record IsOver (is_so : Bool) (p : Policy) : Type 0 where
  pub rests : p.activity ≡ Rests
  pub whole : p.gaps ≡ 0 → is_so ≡ true

no_gaps : (g : ℕ) → one_more g ≡ 0 → ⊥
no_gaps g e = omega (arith, e)

ended_over : (now : ℕ) (is_so : Bool) (rival : Option Rival) (p : Policy) → IsOver is_so (ended now is_so rival p)
ended_over now true rival p = record { rests = refl; whole = λ e. refl }
ended_over now false rival p = record { rests = refl; whole = λ e. absurd (no_gaps p.gaps e) }

judges : (is_so : Bool) (p : Policy) → IsOver is_so p → IsAfterSweep is_so (judging p)
judges is_so p over = record { rests = over.rests; next = by_test (may_plan p) refl }
  where
    by_test : (b : Bool) → may_plan p ≡ b → IsNext is_so p (if b then act.Judge else act.HandOver)
    by_test true e = record { may = e; whole = over.whole }
    by_test false e = tt

meets : (is_so : Bool) (rival : Rival) (p : Policy) → IsOver is_so p → IsAfterSweep is_so (met rival p)
meets is_so rival p over =
    let q = wanting (forgotten p) in
    cond_both (nat_le patience p.meeting.handovers) (judging p) (dealt rival q) (IsAfterSweep is_so) (λ _. judges is_so p over) (λ _. deals rival)
  where
    deals : (rival : Rival) → IsAfterSweep is_so (dealt rival (wanting (forgotten p)))
    deals Greater = record { rests = over.rests; next = tt }
    deals Lesser =
        let q = wanting (forgotten p) in
        let announces : Decision = record { policy = record q { meeting = record q.meeting { looks = one_more q.meeting.looks } }; act = act.Announce } in
        let yields : Decision = record { policy = record q { meeting = offered q.meeting }; act = act.Yield } in
        cond_both (nat_lt p.meeting.looks patience) announces yields (IsAfterSweep is_so) (λ _. record { rests = over.rests; next = tt })
        (λ _. record { rests = over.rests; next = tt })

masterless : (is_so : Bool) (count : ℕ) (p : Policy) → IsOver is_so p → IsAfterSweep is_so (masterless_by count p)
masterless is_so count p over =
    let rediscovers : Decision = record { policy = record p { master = None; masterless = 0 }; act = act.Rediscover } in
    cond_both (nat_lt patience count) rediscovers (still (record p { master = None; masterless = count })) (IsAfterSweep is_so)
    (λ _. record { rests = over.rests; next = tt }) (λ _. record { rests = over.rests; next = tt })

in_state : (state : SmState) (now : ℕ) (is_so : Bool) (rival : Option Rival) (p : Policy) → IsOver is_so p
    → IsAfterSweep is_so (swept_in state now rival p)
in_state Standby now is_so None p over = masterless is_so (if counts p then one_more p.masterless else p.masterless) p over
in_state Standby now is_so (Some rival) p over = record { rests = over.rests; next = tt }
in_state Master now is_so None p over =
    judges is_so (record p { meeting = record p.meeting { looks = 0 } }) (record { rests = over.rests; whole = over.whole })
in_state Master now is_so (Some rival) p over =
    meets is_so rival (record p { meeting = meeting_at now p.meeting }) (record { rests = over.rests; whole = over.whole })
in_state NotActive now is_so rival p over = record { rests = over.rests; next = tt }
in_state Discovering now is_so rival p over = record { rests = over.rests; next = tt }

pub sweep_decides : (now : ℕ) (is_so : Bool) (rival : Option Rival) (p : Policy) → IsAfterSweep is_so (swept now is_so rival p)
sweep_decides now is_so rival p =
    cond_both p.is_stale (still (record p { activity = Rests; is_stale = false })) (swept_in p.state now rival (ended now is_so rival p))
    (IsAfterSweep is_so) (λ _. record { rests = refl; next = tt })
    (λ _. in_state p.state now is_so rival (ended now is_so rival p) (ended_over now is_so rival p))

record IsOnCourse (p : Policy) (d : Decision) : Type 0 where
  activity : d.policy.activity ≡ p.activity
  gaps : d.policy.gaps ≡ p.gaps
  timing : d.policy.timing ≡ p.timing

-- the judgement of a plan changes neither what the manager is about, nor how often in a row its sweeps lacked answers
pub record IsJudged (p : Policy) (d : Decision) : Type 0 where
  pub course : SameCourse p d.policy

pub judges_plan : (now : ℕ) (comparison : Comparison) (ports : Ports) (p : Policy) → IsJudged p (judged now comparison ports p)
judges_plan now comparison ports p = by_comparison comparison (judged_on now comparison ports p)
  where
    by_comparison : (c : Comparison) → StandsOn p (judged now c ports p).policy → IsJudged p (judged now c ports p)
    by_comparison NoPlan stands = record { course = record { activity = refl; gaps = refl; timing = refl; stands = stands } }
    by_comparison Differs stands = record { course = record { activity = refl; gaps = refl; timing = refl; stands = stands } }
    by_comparison Same stands =
        let d = same_course in
        record { course = record { activity = d.activity; gaps = d.gaps; timing = d.timing; stands = stands } }
      where
        writes : Decision
        writes = record { policy = once_more now ports p; act = act.Write }

        settles : Decision
        settles = record { policy = settled ports p; act = act.Settle }

        same_course : IsOnCourse p (judged now Same ports p)
        same_course =
            cond_both p.written.stands (stood now ports p) (anew p) (IsOnCourse p)
            (λ _. cond_both (may_bring_up ports p || may_take now ports p) writes settles (IsOnCourse p)
            (λ _. cond_both (nat_lt 0 ports.foreign) (taking now p) p
            (λ (q : Policy). IsOnCourse p (record { policy = record q { written = record p.written { repeats = one_more p.written.repeats } }; act = act.Write }))
            (λ _. record { activity = refl; gaps = refl; timing = refl })
            (λ _. record { activity = refl; gaps = refl; timing = refl }))
            (λ _. record { activity = refl; gaps = refl; timing = refl }))
            (λ _. record { activity = refl; gaps = refl; timing = refl })

-- outcomes -----------------------------------------------------------------------------------------

-- the manager raised its floor to the next generation and, if it is about a sweep now, began one
pub record BeginsASweep (r c : Acting) : Type 0 where
  pub manager : after_call (after_raise_floor r.manager (one_more r.newest)) Call.BeginSweep ≡ c.manager
  pub newest : one_more r.newest ≡ c.newest
  pub window : r.window ≡ c.window
  pub ready : r.ready ≡ c.ready
  pub begins : c.policy.activity ≡ Sweeps → begin_fault (after_raise_floor r.manager (one_more r.newest)) ≡ None
  pub no_writing : is_writing c.policy.activity ≡ false
  pub stands : c.policy.written.stands ≡ true → c.policy.activity ≡ Sweeps

-- the manager, which swept, began to write, as it may
pub record BeginsToWrite (r c : Acting) : Type 0 where
  pub swept : r.policy.activity ≡ Sweeps
  pub begins : writing_fault r.manager ≡ None
  pub manager : after_call r.manager Call.WriteSteps ≡ c.manager
  pub newest : r.newest ≡ c.newest
  pub window : r.window ≡ c.window
  pub ready : r.ready ≡ c.ready
  pub writes : c.policy.activity ≡ Writes
  pub may : MayPlan (is_whole r.manager) c.policy

-- a manager that acts is `r` before and `c` after it
pub data Outcome (what : Told) (r c : Acting) : Type 1 where
  Quietly : Goes what r c → Calm r c → Outcome what r c
  Sweeping : BeginsASweep r c → Outcome what r c
  Writing : BeginsToWrite r c → Outcome what r c

pub may_still : (p q : Policy) → q.gaps ≡ p.gaps → q.timing ≡ p.timing → (one other : Bool) → one ≡ other → MayPlan one p → MayPlan other q
may_still p q gaps timing one other same may = record {
  may = (λ i. gaps i == 0 || (not (timing i).is_strict && nat_lt patience (gaps i))) ∙ may.may;
  whole = λ e. sym same ∙ may.whole (sym gaps ∙ e);
}

at_rest : (was now : Activity) → now ≡ Rests → NoMore was now
at_rest was now e = subst (NoMore was) (sym e) tt

module _ (what : Told) where
  stays : (r c : Acting) → r.manager ≡ c.manager → r.newest ≡ c.newest → r.window ≡ c.window → r.ready ≡ c.ready
      → NoMore r.policy.activity c.policy.activity → StandsOn r.policy c.policy → Outcome what r c
  stays r c manager newest window ready no_more stands =
      Quietly (going_still what r c manager newest window ready) (record { activity = no_more; newest = sym newest; stands = stands })

  calls : (r c : Acting) (call : Call) → IsAllowed what call → after_call r.manager call ≡ c.manager → r.newest ≡ c.newest
      → r.window ≡ c.window → r.ready ≡ c.ready → NoMore r.policy.activity c.policy.activity → StandsOn r.policy c.policy → Outcome what r c
  calls r c call allowed manager newest window ready no_more stands =
      Quietly (going_by what r c call allowed manager newest (same what r c window ready))
      (record { activity = no_more; newest = sym newest; stands = stands })

  module _ (r : Acting) where
    -- `r` with other notes and another policy
    abbrev with : List Note → Policy → Acting
    with notes p = record r { notes = notes; policy = p }

    hands_by : (call : Call) → IsAllowed what call → (w : Act) (fault : Option ManagerFault) (notes : List Note) (p : Policy)
        → StandsOn r.policy p → Outcome what r (handed_by w call fault (with notes p))
    hands_by call allowed w fault notes p stands =
        calls r (handed_by w call fault (with notes p)) call allowed refl refl refl refl (by_fault fault) stands
      where
        by_fault : (o : Option ManagerFault) → NoMore r.policy.activity (if is_none o then Hands else Rests)
        by_fault None = tt
        by_fault (Some why) = tt

    -- the plan is judged
    module _ (swept_so : r.policy.activity ≡ Sweeps) (cause : WriteCause) (notes : List Note) (p : Policy) (rests : p.activity ≡ Rests)
        (may : MayPlan (is_whole r.manager) p) (stands : StandsOn r.policy p) where
      writes_by : (plan : PlanValue) (fault : Option ManagerFault) → writing_fault r.manager ≡ fault
          → Outcome what r (writing_with fault cause plan (with notes p))
      writes_by plan None e = Writing (record {
        swept = swept_so;
        begins = e;
        manager = refl;
        newest = refl;
        window = refl;
        ready = refl;
        writes = refl;
        may = record { may = may.may; whole = may.whole };
      })
      writes_by plan (Some why) e =
          stays r (writing_with (Some why) cause plan (with notes p))
          (sym (ap (λ o. if is_none o then after_write_steps r.manager else r.manager) e)) refl refl refl tt
          (λ h. let wrong : true ≡ false = sym h in absurd (cc))

      about : (w : Act) (plan : Option PlanValue) → Outcome what r (about_plan w cause plan (with notes p))
      about act.Write (Some plan) = writes_by plan (writing_fault r.manager) refl
      about act.Write None = stays r (with notes p) refl refl refl refl (at_rest r.policy.activity p.activity rests) stands
      about act.Settle plan = hands_by Call.Handover tt act.HandOver (handover_fault r.manager) (notes ++ Settled r.reads.ports ∷ []) p stands
      about act.Wait plan = stays r (with notes p) refl refl refl refl (at_rest r.policy.activity p.activity rests) stands
      about act.Poll plan = stays r (with notes p) refl refl refl refl (at_rest r.policy.activity p.activity rests) stands
      about act.Announce plan = stays r (with notes p) refl refl refl refl (at_rest r.policy.activity p.activity rests) stands
      about act.Sweep plan = stays r (with notes p) refl refl refl refl (at_rest r.policy.activity p.activity rests) stands
      about act.Rediscover plan = stays r (with notes p) refl refl refl refl (at_rest r.policy.activity p.activity rests) stands
      about act.HandOver plan = stays r (with notes p) refl refl refl refl (at_rest r.policy.activity p.activity rests) stands
      about act.Yield plan = stays r (with notes p) refl refl refl refl (at_rest r.policy.activity p.activity rests) stands
      about act.Judge plan = stays r (with notes p) refl refl refl refl (at_rest r.policy.activity p.activity rests) stands

    judges_so : r.policy.activity ≡ Sweeps → (notes : List Note) (p : Policy) → p.activity ≡ Rests → MayPlan (is_whole r.manager) p
        → StandsOn r.policy p → (plan : Option PlanValue) → Outcome what r (judging_of plan (with notes p))
    judges_so swept_so notes p rests may stands None =
        about swept_so (cause_of NoPlan r.reads.ports p) (notes ++ Refused act.Judge ∷ []) (waited_longer r.time p) rests
        (record { may = may.may; whole = may.whole }) stands act.Wait None
    judges_so swept_so notes p rests may stands (Some plan) =
        let comparison = comparison_of r.kept (Some plan) in
        let d = judged r.time comparison r.reads.ports p in
        let course = (judges_plan r.time comparison r.reads.ports p).course in
        about swept_so (cause_of comparison r.reads.ports p) notes d.policy (course.activity ∙ rests)
        (may_still p d.policy course.gaps course.timing (is_whole r.manager) (is_whole r.manager) refl may) (λ e. stands (course.stands e)) d.act (Some plan)

    -- what is decided after a sweep is done
    does_next : r.policy.activity ≡ Sweeps → (notes : List Note) (p : Policy) → p.activity ≡ Rests → (w : Act) → IsNext (is_whole r.manager) p w
        → StandsOn r.policy p → Outcome what r (done_by w (with notes p))
    does_next swept_so notes p rests act.Wait next stands = stays r (with notes p) refl refl refl refl (at_rest r.policy.activity p.activity rests) stands
    does_next swept_so notes p rests act.Announce next stands =
        stays r (with (notes ++ Did act.Announce ∷ []) p) refl refl refl refl (at_rest r.policy.activity p.activity rests) stands
    does_next swept_so notes p rests act.Rediscover next stands =
        calls r (rediscovering (with notes p)) Call.Rediscover tt refl refl refl refl (at_rest r.policy.activity p.activity rests) stands
    does_next swept_so notes p rests act.HandOver next stands = hands_by Call.Handover tt act.HandOver (handover_fault r.manager) notes p stands
    does_next swept_so notes p rests act.Yield next stands = hands_by Call.Yield tt act.Yield (yield_fault r.manager) notes p stands
    does_next swept_so notes p rests act.Judge next stands = judges_so swept_so notes p rests next stands (planned r.manager)
    does_next swept_so notes p rests act.Poll next stands = absurd next
    does_next swept_so notes p rests act.Sweep next stands = absurd next
    does_next swept_so notes p rests act.Write next stands = absurd next
    does_next swept_so notes p rests act.Settle next stands = absurd next

    -- a sweep is asked for
    sweeps_by : (notes : List Note) (p : Policy) → p.activity ≡ Sweeps → (fault : Option ManagerFault)
        → begin_fault (after_raise_floor r.manager (one_more r.newest)) ≡ fault → Outcome what r (swept_with fault (floor_raised (with notes p)))
    sweeps_by notes p sweeps None e = Sweeping (record {
      manager = refl;
      newest = refl;
      window = refl;
      ready = refl;
      begins = λ _. e;
      no_writing = ap is_writing sweeps;
      stands = λ _. sweeps;
    })
    sweeps_by notes p sweeps (Some why) e = Sweeping (record {
      manager = refl;
      newest = refl;
      window = refl;
      ready = refl;
      begins = λ s. absurd (cc);
      no_writing = refl;
      stands = λ h. let wrong : true ≡ false = sym h in absurd (cc);
    })

    -- what a manager that rests decides
    polls : r.policy.activity ≡ Rests → (p : Policy) → p.activity ≡ r.policy.activity → StandsOn r.policy p → Outcome what r (polling (with r.notes p))
    polls rests p same_activity on =
        let m = r.manager in
        cases (is_none (poll_fault m None)) p (polled false p)
        (λ (q : Policy). Outcome what r (record r { manager = after_call m (Call.Poll None); policy = q }))
        (calls r (record r { manager = after_call m (Call.Poll None); policy = p }) (Call.Poll None) tt refl refl refl refl
        (as_before r.policy.activity p.activity same_activity) on)
        (calls r (record r { manager = after_call m (Call.Poll None); policy = polled false p }) (Call.Poll None) tt refl refl refl refl
        (as_before r.policy.activity p.activity same_activity) on)

    rests_on : r.policy.activity ≡ Rests → Outcome what r (decided (rested r.time r.policy) r)
    rests_on rests =
        let now = r.time in
        let p = r.policy in
        let poll : Decision = record { policy = record p { next_poll = later_by p.timing.poll now }; act = act.Poll } in
        let announce : Decision = record { policy = record p { next_call = later_by announced_every now }; act = act.Announce } in
        let sweep : Decision = record { policy = sweeping now p; act = act.Sweep } in
        let no_poll : Decision = if is_due now (call_due p) then announce else if is_due now (sweep_due p) then sweep else still p in
        cases (is_due now (poll_due p)) poll no_poll (λ d. Outcome what r (decided d r)) (polls rests poll.policy refl (λ e. e))
        (cases (is_due now (call_due p)) announce (if is_due now (sweep_due p) then sweep else still p) (λ d. Outcome what r (decided d r))
        (stays r (decided announce r) refl refl refl refl (as_before p.activity p.activity refl) (λ e. e))
        (cases (is_due now (sweep_due p)) sweep (still p) (λ d. Outcome what r (decided d r))
        (sweeps_by r.notes sweep.policy refl (begin_fault (after_raise_floor r.manager (one_more r.newest))) refl)
        (stays r r refl refl refl refl (as_before p.activity p.activity refl) (λ e. e))))

    -- what a manager decides whose sweep is over
    sweeps_on : r.policy.activity ≡ Sweeps → Outcome what r (sweep_over r)
    sweeps_on swept_so =
        let so = is_whole r.manager in
        let d = swept r.time so (rival_seen r.manager) r.policy in
        let after = sweep_decides r.time so (rival_seen r.manager) r.policy in
        does_next swept_so (r.notes ++ Swept so ∷ []) d.policy after.rests d.act after.next
        (swept_on r.time so (rival_seen r.manager) r.policy)

    -- what a manager decides whose writing is over
    writes_on : Outcome what r (writing_over r)
    writes_on =
        let written = is_written r.manager in
        let notes = r.notes ++ Wrote written ∷ [] in
        let hand_over : Decision = record { policy = record r.policy { activity = Rests; is_wanted = true }; act = act.HandOver } in
        cases written hand_over (still (failed r.time r.policy)) (λ d. Outcome what r (decided d (noted (Wrote written) r)))
        (hands_by Call.Handover tt act.HandOver (handover_fault r.manager) notes hand_over.policy (λ e. e))
        (stays r (with notes (failed r.time r.policy)) refl refl refl refl tt (λ h. let wrong : true ≡ false = sym h in absurd (cc)))

    acts_in : (activity : Activity) → r.policy.activity ≡ activity → Outcome what r (acted_in activity r)
    acts_in Rests e = rests_on e
    acts_in Sweeps e = sweeps_on e
    acts_in Writes e = writes_on
    acts_in Hands e = stays r (handing_on r) refl refl refl refl tt (λ h. h)

    leaves_in : (activity : Activity) → r.policy.activity ≡ activity → Outcome what r (left_in activity r)
    leaves_in Rests e = stays r r refl refl refl refl (as_before r.policy.activity r.policy.activity refl) (λ h. h)
    leaves_in Sweeps e = hands_by Call.Yield tt act.Yield (yield_fault r.manager) r.notes r.policy (λ h. h)
    leaves_in Writes e = stays r r refl refl refl refl (as_before r.policy.activity r.policy.activity refl) (λ h. h)
    leaves_in Hands e = stays r (handing_on r) refl refl refl refl tt (λ h. h)

    -- what a manager does when it acts
    pub acts : Outcome what r (acted r)
    acts =
        cases r.is_leaving (left_in r.policy.activity r) (acted_in r.policy.activity r) (Outcome what r) (leaves_in r.policy.activity refl)
        (acts_in r.policy.activity refl)
