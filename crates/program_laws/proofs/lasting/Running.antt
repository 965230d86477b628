-- The plan that a manager writes is the one that it keeps.
use Rattle.std.proofs.Common.{◌≡◌, ◌∙◌, Bool, true, false, cond, List, [], ◌∷◌, refl, sym, ap, subst}
use Rattle.std.proofs.lemmas.Bool.{cond_both}
use Rattle.std.specs.Prelude.{Option, Some, None, is_none}
use Rattle.smp_bytes.specs.Field.{number_in}
use Rattle.smp_bytes.specs.Packet.{transaction_id}
use Rattle.lft_blocks.specs.Plan.{PlanValue}
use Rattle.sm_manager.specs.CallLists.{Call, after_call}
use Rattle.sm_manager.specs.Election.{handover_fault, poll_fault, yield_fault}
use Rattle.sm_manager.specs.Manager.{Manager, begin_fault, emptied, new_manager}
use Rattle.sm_manager.specs.PlanFaults.{writing_fault}
use Rattle.sm_manager.specs.StepsAnswered.{BeginsNone}
use Rattle.sm_manager.specs.Writing.{after_write_steps}
use Rattle.sm_manager.specs.declared.fault.ManagerFault.{ManagerFault}
use Rattle.sm_manager.specs.declared.outgoing.Outgoing.{Outgoing}
use Rattle.sm_policy.specs.Judged.{cause_of, failed, judged, writing}
use Rattle.sm_policy.specs.Policy.{is_sweeping, polled}
use Rattle.sm_policy.specs.Resting.{handing}
use Rattle.sm_policy.specs.Swept.{swept}
use Rattle.sm_policy.specs.declared.act.Act.{Act}
use Rattle.sm_policy.specs.declared.act.Act.TheVariants as act
use Rattle.sm_policy.specs.declared.activity.Activity.{Activity}
use Rattle.sm_policy.specs.declared.activity.Activity.TheVariants as activity
use Rattle.sm_policy.specs.declared.policy.Policy.{Policy}
use Rattle.sm_policy.specs.declared.write_cause.WriteCause.{WriteCause}
use Rattle.acting_manager.specs.Acting.{Acting, caught_up, new_acting, noted}
use Rattle.acting_manager.specs.Acts.{about_plan, acted, acted_in, done_by, floor_raised, is_whole, left_in, noted_unplanned, rival_seen}
use Rattle.acting_manager.specs.Planned.{comparison_of, planned}
use Rattle.acting_manager.specs.Working.{acted_if_idle, is_idle, is_writing, yielding_at_once}
use Rattle.acting_manager.specs.declared.note.Note.TheVariants.{Swept}
use Rattle.manager_laws.specs.WritingEnds.{HasLived}
use Rattle.program_laws.specs.InTurn.{may_follow}
use Rattle.program_laws.specs.StandingPlans.{IsLastWritten}
use Rattle.program_laws.specs.Wakes.{HasDecided, Line, after_line, after_lines, before_deciding}
use Rattle.program_laws.proofs.lasting.Standing.{Sound, is_sound, sound_lasts, sound_line, still_last}
use Rattle.program_laws.proofs.lasting.Told.{Lasts, Of, Property, catches_up, lasts_until, sends}
use Rattle.program_laws.proofs.wakes.Deciding.{judged_about, swept_rests, writing_past}
use Rattle.program_laws.proofs.wakes.InTurn.{rest_follows}
use Rattle.program_laws.proofs.wakes.Load.{moved_about}

-- the plan that is kept is that of the last writing
pub record KeepsPlanOf (kept : Option PlanValue) (m : Manager) : Type 0 where
  pub plan : PlanValue
  pub is_kept : kept ≡ Some plan
  pub last : IsLastWritten plan m

plan_on : (kept : Option PlanValue) (m : Manager) (call : Call) → BeginsNone m call → KeepsPlanOf kept m → KeepsPlanOf kept (after_call m call)
plan_on kept m call quiet k = record { plan = k.plan; is_kept = k.is_kept; last = still_last k.plan m call quiet k.last }

-- while the manager writes, and does not leave
pub record IsRunning (m : Manager) (p : Policy) (kept : Option PlanValue) (leaves : Bool) : Type 0 where
  pub writes : leaves ≡ false → is_writing p.activity ≡ true → KeepsPlanOf kept m

abbrev pub Running : Property
Running m p kept notes leaves = IsRunning m p kept leaves

running_on : (m : Manager) (p : Policy) (kept : Option PlanValue) (leaves : Bool) (call : Call) → BeginsNone m call → IsRunning m p kept leaves
    → IsRunning (after_call m call) p kept leaves
running_on m p kept leaves call quiet s = record { writes = λ stays e. plan_on kept m call quiet (s.writes stays e) }

all_taken : (m : Manager) (p : Policy) (kept : Option PlanValue) (leaves : Bool) (queue : List Outgoing)
    → IsRunning (record m { outgoing = queue }) p kept leaves → IsRunning (emptied m) p kept leaves
all_taken m p kept leaves [] s = s
all_taken m p kept leaves (out ∷ queue) s =
    all_taken m p kept leaves queue (running_on (record m { outgoing = out ∷ queue }) p kept leaves Call.Take tt s)

-- a policy that is about the same
about_same : (m : Manager) (p q : Policy) (kept : Option PlanValue) (leaves : Bool) → q.activity ≡ p.activity → IsRunning m p kept leaves
    → IsRunning m q kept leaves
about_same m p q kept leaves same s = record { writes = λ stays e. s.writes stays (sym (ap is_writing same) ∙ e) }

-- nothing is to be shown of one that writes nothing, or leaves
writes_none : (m : Manager) (p : Policy) (kept : Option PlanValue) (leaves : Bool) → is_writing p.activity ≡ false → IsRunning m p kept leaves
writes_none m p kept leaves none = record { writes = λ stays e. let wrong : true ≡ false = sym e ∙ none in absurd (cc) }

leaves_then : (m : Manager) (p : Policy) (kept : Option PlanValue) → IsRunning m p kept true
leaves_then m p kept = record { writes = λ stays e. absurd (cc) }

running_lasts : Lasts Running
running_lasts =
    record {
      gives = λ a s. all_taken a.manager a.policy a.kept a.is_leaving a.manager.outgoing s;
      hears = λ a bytes from s. running_on a.manager a.policy a.kept a.is_leaving (Call.Packet bytes from) tt s;
      gives_up = λ a request s. running_on a.manager a.policy a.kept a.is_leaving (Call.Timeout (number_in transaction_id request.packet)) tt s;
      drops = λ a request writes s. running_on a.manager a.policy a.kept a.is_leaving (Call.Timeout (number_in transaction_id request.packet)) tt s;
      wants = λ a s. about_same a.manager a.policy _ a.kept a.is_leaving refl s;
      polls = λ a is_master s. about_same a.manager a.policy _ a.kept a.is_leaving refl s;
      is_taken = λ a s. about_same a.manager a.policy _ a.kept a.is_leaving refl s;
      enters = λ a state s. about_same a.manager a.policy _ a.kept a.is_leaving (moved_about a.time state a.policy) s;
      pauses = λ a time s. about_same a.manager a.policy _ a.kept a.is_leaving refl s;
      leaves = λ a s.
          cond_both a.is_leaving a (if_sweeping a) (Of Running) (λ _. s)
          (λ _. cond_both (is_sweeping a.policy.activity) (record a { is_leaving = true }) (yielding_at_once (record a { is_leaving = true })) (Of Running)
          (λ _. leaves_then a.manager a.policy a.kept) (λ _. leaves_then _ _ a.kept));
    }
  where
    if_sweeping : Acting → Acting
    if_sweeping a = cond (is_sweeping a.policy.activity) (record a { is_leaving = true }) (yielding_at_once (record a { is_leaving = true }))

-- decisions ------------------------------------------------------------------------------------------------------------

-- a handover is asked for
handing_none : (flag : Bool) → is_writing (cond flag activity.Hands activity.Rests) ≡ false
handing_none true = refl
handing_none false = refl

-- a writing is asked for
writes_run : (plan : PlanValue) (a : Acting) → planned a.manager ≡ Some plan → HasLived a.manager → (o : Option ManagerFault) → writing_fault a.manager ≡ o
    → IsRunning (cond (is_none o) (after_write_steps a.manager) a.manager) (writing a.time (is_none o) a.policy) (cond (is_none o) (Some plan) a.kept)
    a.is_leaving
writes_run plan a is lived None e =
    record {
      writes = λ stays w. record {
        plan = plan;
        is_kept = refl;
        last = record { before = a.manager; lived = lived; begins = e; planned = is; calls = []; no_other = tt; are = refl };
      };
    }
writes_run plan a is lived (Some why) e = writes_none a.manager (failed a.time a.policy) a.kept a.is_leaving refl

about_run : (what : Act) (cause : WriteCause) (plan : Option PlanValue) (a : Acting) → planned a.manager ≡ plan → is_writing a.policy.activity ≡ false
    → HasLived a.manager → Of Running (about_plan what cause plan a)
about_run act.Write cause (Some plan) a is none lived = writes_run plan a is lived (writing_fault a.manager) refl
about_run act.Write cause None a is none lived = writes_none a.manager a.policy a.kept a.is_leaving none
about_run act.Settle cause plan a is none lived = writes_none _ _ a.kept a.is_leaving (handing_none (is_none (handover_fault a.manager)))
about_run act.Wait cause plan a is none lived = writes_none a.manager a.policy a.kept a.is_leaving none
about_run act.Poll cause plan a is none lived = writes_none a.manager a.policy a.kept a.is_leaving none
about_run act.Announce cause plan a is none lived = writes_none a.manager a.policy a.kept a.is_leaving none
about_run act.Sweep cause plan a is none lived = writes_none a.manager a.policy a.kept a.is_leaving none
about_run act.Rediscover cause plan a is none lived = writes_none a.manager a.policy a.kept a.is_leaving none
about_run act.HandOver cause plan a is none lived = writes_none a.manager a.policy a.kept a.is_leaving none
about_run act.Yield cause plan a is none lived = writes_none a.manager a.policy a.kept a.is_leaving none
about_run act.Judge cause plan a is none lived = writes_none a.manager a.policy a.kept a.is_leaving none

-- the plan is judged by a manager that writes nothing
judges_run : (a : Acting) → is_writing a.policy.activity ≡ false → HasLived a.manager → Of Running (done_by act.Judge a)
judges_run a quiet lived = by_plan (planned a.manager) refl
  where
    by_plan : (plan : Option PlanValue) → planned a.manager ≡ plan
        → Of Running (about_plan (judged a.time (comparison_of a.kept plan) a.reads.ports a.policy).act
        (cause_of (comparison_of a.kept plan) a.reads.ports a.policy) plan
        (record (noted_unplanned plan a) { policy = (judged a.time (comparison_of a.kept plan) a.reads.ports a.policy).policy }))
    by_plan None is =
        writes_none a.manager _ a.kept a.is_leaving (ap is_writing (judged_about a.time (comparison_of a.kept None) a.reads.ports a.policy) ∙ quiet)
    by_plan (Some plan) is =
        let d = judged a.time (comparison_of a.kept (Some plan)) a.reads.ports a.policy in
        about_run d.act (cause_of (comparison_of a.kept (Some plan)) a.reads.ports a.policy) (Some plan) (record a { policy = d.policy }) is
        (ap is_writing (judged_about a.time (comparison_of a.kept (Some plan)) a.reads.ports a.policy) ∙ quiet) lived

does_run : (what : Act) (a : Acting) → is_writing a.policy.activity ≡ false → HasLived a.manager → Of Running (done_by what a)
does_run act.Judge a quiet lived = judges_run a quiet lived
does_run act.Wait a quiet lived = writes_none a.manager a.policy a.kept a.is_leaving quiet
does_run act.Poll a quiet lived =
    cond_both (is_none (poll_fault a.manager None)) a.policy (polled false a.policy)
    (λ (p : Policy). IsRunning (after_call a.manager (Call.Poll None)) p a.kept a.is_leaving)
    (λ _. writes_none _ a.policy a.kept a.is_leaving quiet) (λ _. writes_none _ (polled false a.policy) a.kept a.is_leaving quiet)
does_run act.Announce a quiet lived = writes_none a.manager a.policy a.kept a.is_leaving quiet
does_run act.Sweep a quiet lived =
    let fr = floor_raised a in
    cond_both (is_none (begin_fault fr.manager)) a.policy (failed a.time a.policy)
    (λ (p : Policy). IsRunning (after_call fr.manager Call.BeginSweep) p a.kept a.is_leaving)
    (λ _. writes_none _ a.policy a.kept a.is_leaving quiet) (λ _. writes_none _ (failed a.time a.policy) a.kept a.is_leaving refl)
does_run act.Rediscover a quiet lived = writes_none _ a.policy a.kept a.is_leaving quiet
does_run act.HandOver a quiet lived = writes_none _ _ a.kept a.is_leaving (handing_none (is_none (handover_fault a.manager)))
does_run act.Yield a quiet lived = writes_none _ _ a.kept a.is_leaving (handing_none (is_none (yield_fault a.manager)))
does_run act.Write a quiet lived = writes_none a.manager a.policy a.kept a.is_leaving quiet
does_run act.Settle a quiet lived = writes_none a.manager a.policy a.kept a.is_leaving quiet

-- what follows a rest is no writing
no_writing : (what : Activity) → may_follow activity.Rests what ≡ true → is_writing what ≡ false
no_writing activity.Rests e = refl
no_writing activity.Sweeps e = refl
no_writing activity.Writes e = absurd (cc)
no_writing activity.Hands e = absurd (cc)

acts_in : (what : Activity) (a : Acting) → a.policy.activity ≡ what → HasLived a.manager → Of Running (acted_in what a)
acts_in activity.Rests a is lived =
    let b = acted_in activity.Rests a in
    writes_none b.manager b.policy b.kept b.is_leaving (no_writing b.policy.activity (rest_follows a is))
acts_in activity.Sweeps a is lived =
    let d = swept a.time (is_whole a.manager) (rival_seen a.manager) a.policy in
    does_run d.act (record (noted (Swept (is_whole a.manager)) a) { policy = d.policy })
    (ap is_writing (swept_rests a.time (is_whole a.manager) (rival_seen a.manager) a.policy)) lived
acts_in activity.Writes a is lived =
    let b = acted_in activity.Writes a in
    writes_none b.manager b.policy b.kept b.is_leaving (writing_past is_writing refl refl a)
acts_in activity.Hands a is lived = writes_none a.manager _ a.kept a.is_leaving refl

leaves_in : (what : Activity) (a : Acting) → a.is_leaving ≡ true → Of Running a → Of Running (left_in what a)
leaves_in activity.Rests a leaves s = s
leaves_in activity.Sweeps a leaves s =
    subst (λ (b : Bool). IsRunning (after_call a.manager Call.Yield) (handing (is_none (yield_fault a.manager)) a.policy) a.kept b) (sym leaves)
    (leaves_then _ _ a.kept)
leaves_in activity.Writes a leaves s = s
leaves_in activity.Hands a leaves s = writes_none a.manager _ a.kept a.is_leaving refl

acts : (a : Acting) → HasLived a.manager → Of Running a → Of Running (acted a)
acts a lived s =
    cond_both a.is_leaving (left_in a.policy.activity a) (acted_in a.policy.activity a) (Of Running) (λ e. leaves_in a.policy.activity a e s)
    (λ e. acts_in a.policy.activity a refl lived)

-- lines ------------------------------------------------------------------------------------------------------------------

-- until the manager decides
pub still_runs : (line : Line) (a : Acting) → Of Running a → Of Running (before_deciding line a)
still_runs line a s = lasts_until Running running_lasts line a s

pub still_sound : (line : Line) (a : Acting) → Of Sound a → Of Sound (before_deciding line a)
still_sound line a s = lasts_until Sound sound_lasts line a s

a_line : (line : Line) (a : Acting) → Of Sound a → Of Running a → Of Running (after_line line a)
a_line line a sound s =
    let x = before_deciding line a in
    let ready = still_runs line a s in
    sends Running running_lasts (acted_if_idle x)
    (cond_both (is_idle x.window) (caught_up (acted x)) x (Of Running)
    (λ _. catches_up Running running_lasts (acted x) (acts x (still_sound line a sound).lived ready)) (λ _. ready))

all_lines : (lines : List Line) (a : Acting) → Of Sound a → Of Running a → Of Running (after_lines lines a)
all_lines [] a sound s = s
all_lines (line ∷ lines) a sound s = all_lines lines (after_line line a) (sound_line line a sound) (a_line line a sound s)

-- so it is of each manager that has decided
pub is_running : (a : Acting) → HasDecided a → Of Running a
is_running a h =
    let m = new_manager h.port_guid h.port h.priority h.conduct h.planning in
    let first = new_acting m h.timing h.limits h.newest in
    let new : HasDecided first = record {
      port_guid = h.port_guid;
      port = h.port;
      priority = h.priority;
      conduct = h.conduct;
      planning = h.planning;
      timing = h.timing;
      limits = h.limits;
      newest = h.newest;
      lines = [];
      are = refl;
    } in
    subst (Of Running) h.are (all_lines h.lines first (is_sound first new) (writes_none m first.policy None false refl))
