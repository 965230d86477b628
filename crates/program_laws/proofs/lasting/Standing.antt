-- A plan that stands for a manager that decides by itself is written, as soon as the manager is about no writing.
use Rattle.std.proofs.Common.{◌≡◌, ◌∙◌, ◌⊎◌, ◌++◌, inl, inr, ℕ, Bool, true, false, cond, List, [], ◌∷◌, Option, None, Some, refl, sym, ap, subst}
use Rattle.std.proofs.lemmas.Bool.{cond_both, cond-true}
use Rattle.std.specs.Prelude.{◌||◌, is_none, nat_le, nat_lt}
use Rattle.smp_bytes.specs.Field.{number_in}
use Rattle.smp_bytes.specs.Packet.{transaction_id}
use Rattle.lft_blocks.specs.Plan.{PlanValue}
use Rattle.sm_state.specs.Standing.{one_more}
use Rattle.sm_state.specs.declared.state.SmState.{SmState}
use Rattle.sm_state.specs.declared.state.SmState.TheVariants.{NotActive, Discovering, Standby, Master}
use Rattle.sm_manager.specs.CallLists.{Call, after_call, after_calls}
use Rattle.sm_manager.specs.Election.{handover_fault, poll_fault, yield_fault}
use Rattle.sm_manager.specs.Manager.{Manager, begin_fault, emptied, new_manager}
use Rattle.sm_manager.specs.PlanFaults.{writing_fault}
use Rattle.sm_manager.specs.StepsAnswered.{BeginNone, BeginsNone}
use Rattle.sm_manager.specs.Writing.{after_write_steps, is_written}
use Rattle.sm_manager.specs.declared.fault.ManagerFault.{ManagerFault}
use Rattle.sm_manager.specs.declared.outgoing.Outgoing.{Outgoing}
use Rattle.sm_policy.specs.Judged.{cause_of, failed, judged, may_bring_up, may_take, once_more, settled, stood, writing, wrote}
use Rattle.sm_policy.specs.Policy.{Decision, forgotten, in_state, is_sweeping, moved, patience, polled, still}
use Rattle.sm_policy.specs.Policy.{sweeps_first, waited_longer, wanting}
use Rattle.sm_policy.specs.Resting.{call_due, handing, is_due, poll_due, rested, sweep_due}
use Rattle.sm_policy.specs.Swept.{dealt, ended, goes_on, judging, leaves_it, masterless_by, meeting_at, met, swept, swept_in}
use Rattle.sm_policy.specs.declared.act.Act.{Act}
use Rattle.sm_policy.specs.declared.act.Act.TheVariants as act
use Rattle.sm_policy.specs.declared.activity.Activity.{Activity}
use Rattle.sm_policy.specs.declared.activity.Activity.TheVariants as activity
use Rattle.sm_policy.specs.declared.comparison.Comparison.{Comparison}
use Rattle.sm_policy.specs.declared.comparison.Comparison.TheVariants.{NoPlan, Same, Differs}
use Rattle.sm_policy.specs.declared.policy.Policy.{Policy}
use Rattle.sm_policy.specs.declared.ports.Ports.{Ports}
use Rattle.sm_policy.specs.declared.rival.Rival.{Rival}
use Rattle.sm_policy.specs.declared.rival.Rival.TheVariants.{Lesser, Greater}
use Rattle.sm_policy.specs.declared.write_cause.WriteCause.{WriteCause}
use Rattle.acting_manager.specs.Acting.{Acting, caught_up, new_acting, noted}
use Rattle.acting_manager.specs.Acts.{about_plan, acted, acted_in, decided, done_by, floor_raised, is_whole, left_in, noted_unplanned}
use Rattle.acting_manager.specs.Acts.{rival_seen}
use Rattle.acting_manager.specs.Planned.{comparison_of, planned}
use Rattle.acting_manager.specs.Working.{acted_if_idle, is_idle, is_writing, yielding_at_once}
use Rattle.acting_manager.specs.declared.note.Note.{Note}
use Rattle.acting_manager.specs.declared.note.Note.TheVariants.{Swept, Wrote}
use Rattle.manager_laws.specs.WritingEnds.{HasLived}
use Rattle.program_laws.specs.StandingPlans.{IsLastWritten, KeepsWritten, StandingPlansAreWritten}
use Rattle.program_laws.specs.Wakes.{HasDecided, Line, after_line, after_lines, before_deciding}
use Rattle.program_laws.proofs.lasting.Counted.{still_written}
use Rattle.program_laws.proofs.lasting.Told.{Lasts, Of, Property, catches_up, lasts_until, sends}

after_both : (first later : List Call) (m : Manager) → after_calls (first ++ later) m ≡ after_calls later (after_calls first m)
after_both [] later m = refl
after_both (call ∷ first) later m = after_both first later (after_call m call)

begin_both : (first later : List Call) (m : Manager) → BeginNone first m → BeginNone later (after_calls first m) → BeginNone (first ++ later) m
begin_both [] later m none more = more
begin_both (call ∷ first) later m none more = (none.0, begin_both first later (after_call m call) none.1 more)

-- calls that begin no writing --------------------------------------------------------------------------

lives_on : (m : Manager) (call : Call) → HasLived m → HasLived (after_call m call)
lives_on m call h =
    record {
      port_guid = h.port_guid;
      port = h.port;
      priority = h.priority;
      conduct = h.conduct;
      planning = h.planning;
      calls = h.calls ++ call ∷ [];
      are = after_both h.calls (call ∷ []) (new_manager h.port_guid h.port h.priority h.conduct h.planning) ∙ ap (λ (x : Manager). after_call x call) h.are;
    }

pub still_last : (plan : PlanValue) (m : Manager) (call : Call) → BeginsNone m call → IsLastWritten plan m → IsLastWritten plan (after_call m call)
still_last plan m call quiet l =
    record {
      before = l.before;
      lived = l.lived;
      begins = l.begins;
      planned = l.planned;
      calls = l.calls ++ call ∷ [];
      no_other = begin_both l.calls (call ∷ []) (after_write_steps l.before) l.no_other
          (subst (λ (x : Manager). BeginsNone x call) (sym l.are) quiet, tt);
      are = after_both l.calls (call ∷ []) (after_write_steps l.before) ∙ ap (λ (x : Manager). after_call x call) l.are;
    }

pub still_kept : (kept : Option PlanValue) (m : Manager) (call : Call) → BeginsNone m call → KeepsWritten kept m → KeepsWritten kept (after_call m call)
still_kept kept m call quiet k =
    record {
      plan = k.plan;
      is_kept = k.is_kept;
      last = still_last k.plan m call quiet k.last;
      written = still_written m call quiet k.written;
    }

-- the plan that is kept is that of the last writing, which runs as the flag says, or is written
pub record KeepsLast (writes : Bool) (kept : Option PlanValue) (m : Manager) : Type 0 where
  pub plan : PlanValue
  pub is_kept : kept ≡ Some plan
  pub last : IsLastWritten plan m
  pub written : (writes ≡ true) ⊎ (is_written m ≡ true)

last_on : (writes : Bool) (kept : Option PlanValue) (m : Manager) (call : Call) → BeginsNone m call → KeepsLast writes kept m
    → KeepsLast writes kept (after_call m call)
last_on writes kept m call quiet k =
    record {
      plan = k.plan;
      is_kept = k.is_kept;
      last = still_last k.plan m call quiet k.last;
      written = elim k.written [ inl w ↦ inl w | inr e ↦ inr (still_written m call quiet e) ];
    }

-- while it is told something -----------------------------------------------------------------------------

-- if a plan stands, and the manager does not leave, the plan is that of its last writing
pub record IsSound (m : Manager) (p : Policy) (kept : Option PlanValue) (leaves : Bool) : Type 0 where
  pub lived : HasLived m
  pub stands : leaves ≡ false → p.written.stands ≡ true → KeepsLast (is_writing p.activity) kept m

abbrev pub Sound : Property
Sound m p kept notes leaves = IsSound m p kept leaves

sound_on : (m : Manager) (p : Policy) (kept : Option PlanValue) (leaves : Bool) (call : Call) → BeginsNone m call → IsSound m p kept leaves
    → IsSound (after_call m call) p kept leaves
sound_on m p kept leaves call quiet s =
    record {
      lived = lives_on m call s.lived;
      stands = λ stays e. last_on (is_writing p.activity) kept m call quiet (s.stands stays e);
    }

-- where nothing stands, nothing is to be shown
nothing_stands : (m : Manager) (p : Policy) (kept : Option PlanValue) (leaves : Bool) → HasLived m → p.written.stands ≡ false → IsSound m p kept leaves
nothing_stands m p kept leaves lived none =
    record {
      lived = lived;
      stands = λ stays e. let wrong : true ≡ false = sym e ∙ none in absurd (cc);
    }

-- nor where the manager leaves
leaves_then : (m : Manager) (p : Policy) (kept : Option PlanValue) → HasLived m → IsSound m p kept true
leaves_then m p kept lived = record { lived = lived; stands = λ stays e. absurd (cc) }

all_taken : (m : Manager) (p : Policy) (kept : Option PlanValue) (leaves : Bool) (queue : List Outgoing)
    → IsSound (record m { outgoing = queue }) p kept leaves → IsSound (emptied m) p kept leaves
all_taken m p kept leaves [] s = s
all_taken m p kept leaves (out ∷ queue) s =
    all_taken m p kept leaves queue (sound_on (record m { outgoing = out ∷ queue }) p kept leaves Call.Take tt s)

pub sound_lasts : Lasts Sound
sound_lasts =
    record {
      gives = λ a s. all_taken a.manager a.policy a.kept a.is_leaving a.manager.outgoing s;
      hears = λ a bytes from s. sound_on a.manager a.policy a.kept a.is_leaving (Call.Packet bytes from) tt s;
      gives_up = λ a request s. sound_on a.manager a.policy a.kept a.is_leaving (Call.Timeout (number_in transaction_id request.packet)) tt s;
      drops = λ a request writes s. sound_on a.manager a.policy a.kept a.is_leaving (Call.Timeout (number_in transaction_id request.packet)) tt s;
      wants = λ a s. record { lived = s.lived; stands = s.stands };
      polls = λ a is_master s. record { lived = s.lived; stands = s.stands };
      is_taken = λ a s. nothing_stands a.manager _ a.kept a.is_leaving s.lived refl;
      enters = λ a state s. nothing_stands a.manager (moved a.time state a.policy) a.kept a.is_leaving s.lived (entered_none a.time state a.policy);
      pauses = λ a time s. nothing_stands a.manager _ a.kept a.is_leaving s.lived refl;
      leaves = λ a s.
          cond_both a.is_leaving a (if_sweeping a) (Of Sound) (λ _. s)
          (λ _. cond_both (is_sweeping a.policy.activity) (record a { is_leaving = true }) (yielding_at_once (record a { is_leaving = true })) (Of Sound)
          (λ _. leaves_then a.manager a.policy a.kept s.lived)
          (λ _. leaves_then (after_call a.manager Call.Yield) (handing (is_none (yield_fault a.manager)) a.policy) a.kept
          (lives_on a.manager Call.Yield s.lived)));
    }
  where
    if_sweeping : Acting → Acting
    if_sweeping a = cond (is_sweeping a.policy.activity) (record a { is_leaving = true }) (yielding_at_once (record a { is_leaving = true }))

    entered_none : (now : ℕ) (state : SmState) (p : Policy) → (moved now state p).written.stands ≡ false
    entered_none now state p =
        cond_both (sweeps_first state p.activity) (wanting (in_state now state p)) (in_state now state p) (λ (q : Policy). q.written.stands ≡ false)
        (λ _. refl) (λ _. refl)

-- decisions ----------------------------------------------------------------------------------------------

-- what stands after the decision stood before
abbrev pub StandsOn : Policy → Policy → Type 0
StandsOn p q = q.written.stands ≡ true → p.written.stands ≡ true

forgotten_on : (p q : Policy) → q.written.stands ≡ false → StandsOn p q
forgotten_on p q none e = let wrong : true ≡ false = sym e ∙ none in absurd (cc)

masterless_on : (count : ℕ) (p : Policy) → StandsOn p (masterless_by count p).policy
masterless_on count p = cond_both (nat_lt patience count) _ _ (λ (d : Decision). StandsOn p d.policy) (λ _ e. e) (λ _ e. e)

dealt_on : (rival : Rival) (p : Policy) → StandsOn p (dealt rival p).policy
dealt_on Greater p = λ e. e
dealt_on Lesser p = cond_both (nat_lt p.meeting.looks patience) _ _ (λ (d : Decision). StandsOn p d.policy) (λ _ e. e) (λ _ e. e)

met_on : (rival : Rival) (p : Policy) → StandsOn p (met rival p).policy
met_on rival p =
    cond_both (nat_le patience p.meeting.handovers) (judging p) (dealt rival (wanting (forgotten p))) (λ (d : Decision). StandsOn p d.policy)
    (λ _ e. e) (λ _ e. forgotten_on p (wanting (forgotten p)) refl (dealt_on rival (wanting (forgotten p)) e))

swept_in_on : (state : SmState) (now : ℕ) (rival : Option Rival) (p : Policy) → StandsOn p (swept_in state now rival p).policy
swept_in_on Standby now None p = masterless_on _ p
swept_in_on Standby now (Some rival) p = λ e. e
swept_in_on Master now None p = λ e. e
swept_in_on Master now (Some rival) p = met_on rival (record p { meeting = meeting_at now p.meeting })
swept_in_on Discovering now rival p = λ e. e
swept_in_on NotActive now rival p = λ e. e

ended_on : (now : ℕ) (is_so : Bool) (rival : Option Rival) (p : Policy) → StandsOn p (ended now is_so rival p)
ended_on now true rival p = λ e. e
ended_on now false rival p =
    cond_both (leaves_it p.state rival || goes_on p) p (waited_longer now p) (λ (q : Policy). q.written.stands ≡ true → p.written.stands ≡ true)
    (λ _ e. e) (λ _ e. e)

pub swept_on : (now : ℕ) (is_so : Bool) (rival : Option Rival) (p : Policy) → StandsOn p (swept now is_so rival p).policy
swept_on now is_so rival p =
    cond_both p.is_stale (still (record p { activity = activity.Rests; is_stale = false })) (swept_in p.state now rival (ended now is_so rival p))
    (λ (d : Decision). StandsOn p d.policy) (λ _ e. e)
    (λ _ e. ended_on now is_so rival p (swept_in_on p.state now rival (ended now is_so rival p) e))

stood_on : (now : ℕ) (ports : Ports) (p : Policy) → StandsOn p (stood now ports p).policy
stood_on now ports p =
    cond_both (may_bring_up ports p || may_take now ports p) (record { policy = once_more now ports p; act = act.Write })
    (record { policy = settled ports p; act = act.Settle }) (λ (d : Decision). StandsOn p d.policy)
    (λ _ e. e) (λ _ e. e)

pub judged_on : (now : ℕ) (comparison : Comparison) (ports : Ports) (p : Policy) → StandsOn p (judged now comparison ports p).policy
judged_on now NoPlan ports p = λ e. e
judged_on now Differs ports p = λ e. e
judged_on now Same ports p =
    cond_both p.written.stands (stood now ports p) _ (λ (d : Decision). StandsOn p d.policy) (λ _. stood_on now ports p) (λ _ e. e)

rested_on : (now : ℕ) (p : Policy) → StandsOn p (rested now p).policy
rested_on now p =
    cond_both (is_due now (poll_due p)) _ _ (λ (d : Decision). StandsOn p d.policy) (λ _ e. e)
    (λ _. cond_both (is_due now (call_due p)) _ _ (λ (d : Decision). StandsOn p d.policy) (λ _ e. e)
    (λ _. cond_both (is_due now (sweep_due p)) _ _ (λ (d : Decision). StandsOn p d.policy) (λ _ e. e) (λ _ e. e)))

-- acts -----------------------------------------------------------------------------------------------------

-- if a plan stands, it is the one that is kept, and is written
pub record IsFull (m : Manager) (p : Policy) (kept : Option PlanValue) : Type 0 where
  pub lived : HasLived m
  pub stands : p.written.stands ≡ true → KeepsWritten kept m

abbrev pub Full : Acting → Type 0
Full a = IsFull a.manager a.policy a.kept

sound : (m : Manager) (p : Policy) (kept : Option PlanValue) (leaves : Bool) → IsFull m p kept → IsSound m p kept leaves
sound m p kept leaves f =
    record {
      lived = f.lived;
      stands = λ stays e. let k = f.stands e in record { plan = k.plan; is_kept = k.is_kept; last = k.last; written = inr k.written };
    }

-- another policy, by which no more stands
full_by : (m : Manager) (p q : Policy) (kept : Option PlanValue) → StandsOn p q → IsFull m p kept → IsFull m q kept
full_by m p q kept on f = record { lived = f.lived; stands = λ e. f.stands (on e) }

full_on : (m : Manager) (p : Policy) (kept : Option PlanValue) (call : Call) → BeginsNone m call → IsFull m p kept → IsFull (after_call m call) p kept
full_on m p kept call quiet f =
    record { lived = lives_on m call f.lived; stands = λ e. still_kept kept m call quiet (f.stands e) }

-- a handover is asked for
handed_full : (call : Call) (flag : Bool) (m : Manager) (p : Policy) (kept : Option PlanValue) → BeginsNone m call → IsFull m p kept
    → IsFull (after_call m call) (handing flag p) kept
handed_full call flag m p kept quiet f = full_by (after_call m call) p (handing flag p) kept (λ e. e) (full_on m p kept call quiet f)

-- a writing is asked for
writes_sound : (a : Acting) (plan : PlanValue) (notes : List Note) → planned a.manager ≡ Some plan → Full a
    → IsSound (after_call a.manager Call.WriteSteps) (writing a.time (is_none (writing_fault a.manager)) a.policy)
    (cond (is_none (writing_fault a.manager)) (Some plan) a.kept) a.is_leaving
writes_sound a plan notes is f = by_fault (writing_fault a.manager) refl
  where
    by_fault : (o : Option ManagerFault) → writing_fault a.manager ≡ o
        → IsSound (cond (is_none o) (after_write_steps a.manager) a.manager) (writing a.time (is_none o) a.policy) (cond (is_none o) (Some plan) a.kept)
        a.is_leaving
    by_fault None e =
        record {
          lived = subst HasLived (cond-true (is_none (writing_fault a.manager)) (after_write_steps a.manager) a.manager (ap is_none e))
              (lives_on a.manager Call.WriteSteps f.lived);
          stands = λ stays stands. record {
            plan = plan;
            is_kept = refl;
            last = record { before = a.manager; lived = f.lived; begins = e; planned = is; calls = []; no_other = tt; are = refl };
            written = inl refl;
          };
        }
    by_fault (Some why) e = nothing_stands a.manager (failed a.time a.policy) a.kept a.is_leaving f.lived refl

about_sound : (what : Act) (cause : WriteCause) (plan : Option PlanValue) (a : Acting) → planned a.manager ≡ plan → Full a
    → Of Sound (about_plan what cause plan a)
about_sound act.Write cause (Some plan) a is f = writes_sound a plan a.notes is f
about_sound act.Write cause None a is f = sound a.manager a.policy a.kept a.is_leaving f
about_sound act.Settle cause plan a is f =
    sound _ _ a.kept a.is_leaving (handed_full Call.Handover (is_none (handover_fault a.manager)) a.manager a.policy a.kept tt f)
about_sound act.Wait cause plan a is f = sound a.manager a.policy a.kept a.is_leaving f
about_sound act.Poll cause plan a is f = sound a.manager a.policy a.kept a.is_leaving f
about_sound act.Announce cause plan a is f = sound a.manager a.policy a.kept a.is_leaving f
about_sound act.Sweep cause plan a is f = sound a.manager a.policy a.kept a.is_leaving f
about_sound act.Rediscover cause plan a is f = sound a.manager a.policy a.kept a.is_leaving f
about_sound act.HandOver cause plan a is f = sound a.manager a.policy a.kept a.is_leaving f
about_sound act.Yield cause plan a is f = sound a.manager a.policy a.kept a.is_leaving f
about_sound act.Judge cause plan a is f = sound a.manager a.policy a.kept a.is_leaving f

-- the plan is judged
judges_sound : (a : Acting) → Full a → Of Sound (done_by act.Judge a)
judges_sound a f = by_plan (planned a.manager) refl
  where
    by_plan : (plan : Option PlanValue) → planned a.manager ≡ plan
        → Of Sound (about_plan (judged a.time (comparison_of a.kept plan) a.reads.ports a.policy).act
        (cause_of (comparison_of a.kept plan) a.reads.ports a.policy) plan
        (record (noted_unplanned plan a) { policy = (judged a.time (comparison_of a.kept plan) a.reads.ports a.policy).policy }))
    by_plan None is = sound a.manager _ a.kept a.is_leaving (full_by a.manager a.policy _ a.kept (λ e. e) f)
    by_plan (Some plan) is =
        let d = judged a.time (comparison_of a.kept (Some plan)) a.reads.ports a.policy in
        about_sound d.act (cause_of (comparison_of a.kept (Some plan)) a.reads.ports a.policy) (Some plan) (record a { policy = d.policy }) is
        (full_by a.manager a.policy d.policy a.kept (judged_on a.time (comparison_of a.kept (Some plan)) a.reads.ports a.policy) f)

polls_sound : (a : Acting) → Full a → Of Sound (done_by act.Poll a)
polls_sound a f =
    let m = after_call a.manager (Call.Poll None) in
    let g = full_on a.manager a.policy a.kept (Call.Poll None) tt f in
    cond_both (is_none (poll_fault a.manager None)) a.policy (polled false a.policy) (λ (p : Policy). IsSound m p a.kept a.is_leaving)
    (λ _. sound m a.policy a.kept a.is_leaving g)
    (λ _. sound m (polled false a.policy) a.kept a.is_leaving (full_by m a.policy (polled false a.policy) a.kept (λ e. e) g))

sweeps_sound : (a : Acting) → Full a → Of Sound (done_by act.Sweep a)
sweeps_sound a f =
    let fr = floor_raised a in
    let raised = full_on a.manager a.policy a.kept (Call.Raise (one_more a.newest)) tt f in
    let m = after_call fr.manager Call.BeginSweep in
    let g = full_on fr.manager a.policy a.kept Call.BeginSweep tt raised in
    cond_both (is_none (begin_fault fr.manager)) a.policy (failed a.time a.policy) (λ (p : Policy). IsSound m p a.kept a.is_leaving)
    (λ _. sound m a.policy a.kept a.is_leaving g)
    (λ _. nothing_stands m (failed a.time a.policy) a.kept a.is_leaving g.lived refl)

does_sound : (what : Act) (a : Acting) → Full a → Of Sound (done_by what a)
does_sound act.Wait a f = sound a.manager a.policy a.kept a.is_leaving f
does_sound act.Poll a f = polls_sound a f
does_sound act.Announce a f = sound a.manager a.policy a.kept a.is_leaving f
does_sound act.Sweep a f = sweeps_sound a f
does_sound act.Rediscover a f = sound _ a.policy a.kept a.is_leaving (full_on a.manager a.policy a.kept Call.Rediscover tt f)
does_sound act.HandOver a f =
    sound _ _ a.kept a.is_leaving (handed_full Call.Handover (is_none (handover_fault a.manager)) a.manager a.policy a.kept tt f)
does_sound act.Yield a f =
    sound _ _ a.kept a.is_leaving (handed_full Call.Yield (is_none (yield_fault a.manager)) a.manager a.policy a.kept tt f)
does_sound act.Judge a f = judges_sound a f
does_sound act.Write a f = sound a.manager a.policy a.kept a.is_leaving f
does_sound act.Settle a f = sound a.manager a.policy a.kept a.is_leaving f

-- a manager that is about no writing
pub full : (a : Acting) → a.is_leaving ≡ false → is_writing a.policy.activity ≡ false → Of Sound a → Full a
full a stays quiet s =
    record {
      lived = s.lived;
      stands = λ e. by_case (s.stands stays e);
    }
  where
    by_case : KeepsLast (is_writing a.policy.activity) a.kept a.manager → KeepsWritten a.kept a.manager
    by_case k =
        record {
          plan = k.plan;
          is_kept = k.is_kept;
          last = k.last;
          written = elim k.written [
            | inl w ↦ let wrong : true ≡ false = sym w ∙ quiet in absurd (cc)
            | inr e ↦ e
          ];
        }

-- a writing that is over
writing_sound : (a : Acting) → a.is_leaving ≡ false → Of Sound a → Of Sound (acted_in activity.Writes a)
writing_sound a stays s = by_written (is_written a.manager) refl
  where
    by_written : (b : Bool) → is_written a.manager ≡ b → Of Sound (decided (wrote a.time b a.policy) (noted (Wrote b) a))
    by_written true e =
        let p = record a.policy { activity = activity.Rests; is_wanted = true } in
        does_sound act.HandOver (record (noted (Wrote true) a) { policy = p })
        (record {
          lived = s.lived;
          stands = λ h. let k = s.stands stays h in record { plan = k.plan; is_kept = k.is_kept; last = k.last; written = e };
        })
    by_written false e = nothing_stands a.manager (failed a.time a.policy) a.kept a.is_leaving s.lived refl

acts_in : (what : Activity) (a : Acting) → a.policy.activity ≡ what → a.is_leaving ≡ false → Of Sound a → Of Sound (acted_in what a)
acts_in activity.Rests a is stays s =
    let d = rested a.time a.policy in
    does_sound d.act (record a { policy = d.policy })
    (full_by a.manager a.policy d.policy a.kept (rested_on a.time a.policy) (full a stays (ap is_writing is) s))
acts_in activity.Sweeps a is stays s =
    let d = swept a.time (is_whole a.manager) (rival_seen a.manager) a.policy in
    does_sound d.act (record (noted (Swept (is_whole a.manager)) a) { policy = d.policy })
    (full_by a.manager a.policy d.policy a.kept (swept_on a.time (is_whole a.manager) (rival_seen a.manager) a.policy) (full a stays (ap is_writing is) s))
acts_in activity.Writes a is stays s = writing_sound a stays s
acts_in activity.Hands a is stays s =
    sound a.manager (record a.policy { activity = activity.Rests }) a.kept a.is_leaving
    (full_by a.manager a.policy (record a.policy { activity = activity.Rests }) a.kept (λ e. e) (full a stays (ap is_writing is) s))

leaves_in : (what : Activity) (a : Acting) → a.is_leaving ≡ true → Of Sound a → Of Sound (left_in what a)
leaves_in activity.Rests a leaves s = s
leaves_in activity.Sweeps a leaves s =
    subst (λ (b : Bool). IsSound (after_call a.manager Call.Yield) (handing (is_none (yield_fault a.manager)) a.policy) a.kept b) (sym leaves)
    (leaves_then (after_call a.manager Call.Yield) (handing (is_none (yield_fault a.manager)) a.policy) a.kept (lives_on a.manager Call.Yield s.lived))
leaves_in activity.Writes a leaves s = s
leaves_in activity.Hands a leaves s =
    subst (λ (b : Bool). IsSound a.manager (record a.policy { activity = activity.Rests }) a.kept b) (sym leaves)
    (leaves_then a.manager (record a.policy { activity = activity.Rests }) a.kept s.lived)

acts : (a : Acting) → Of Sound a → Of Sound (acted a)
acts a s =
    cond_both a.is_leaving (left_in a.policy.activity a) (acted_in a.policy.activity a) (Of Sound) (λ e. leaves_in a.policy.activity a e s)
    (λ e. acts_in a.policy.activity a refl e s)

-- lines ----------------------------------------------------------------------------------------------------

pub sound_line : (line : Line) (a : Acting) → Of Sound a → Of Sound (after_line line a)
sound_line line a s =
    let x = before_deciding line a in
    let ready = lasts_until Sound sound_lasts line a s in
    sends Sound sound_lasts (acted_if_idle x)
    (cond_both (is_idle x.window) (caught_up (acted x)) x (Of Sound) (λ _. catches_up Sound sound_lasts (acted x) (acts x ready)) (λ _. ready))

all_lines : (lines : List Line) (a : Acting) → Of Sound a → Of Sound (after_lines lines a)
all_lines [] a s = s
all_lines (line ∷ lines) a s = all_lines lines (after_line line a) (sound_line line a s)

-- so it is of each manager that has decided
pub is_sound : (a : Acting) → HasDecided a → Of Sound a
is_sound a h =
    let m = new_manager h.port_guid h.port h.priority h.conduct h.planning in
    subst (Of Sound) h.are
    (all_lines h.lines (new_acting m h.timing h.limits h.newest)
    (nothing_stands m _ None false
    (record { port_guid = h.port_guid; port = h.port; priority = h.priority; conduct = h.conduct; planning = h.planning; calls = []; are = refl }) refl))

pub standing_plans_are_written : StandingPlansAreWritten
standing_plans_are_written a h stays stands quiet = (full a stays quiet (is_sound a h)).stands stands
