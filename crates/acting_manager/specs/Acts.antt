-- What a manager does when it decides: it asks its own manager to sweep, write, poll, hand over, and so on.
use Rattle.std.specs.Prelude.{ℕ, Bool, false, ◌&&◌, [], ◌∷◌, ◌++◌, ◌==◌, if◌then◌else◌}
use Rattle.std.specs.Prelude.{Option, Some, None, is_none}
use Rattle.attr_codec.specs.declared.sm_info.SmInfo.{SmInfo}
use Rattle.lft_blocks.specs.Plan.{PlanValue}
use Rattle.sm_state.specs.Election.{greatest_in}
use Rattle.sm_state.specs.Precedence.{wins}
use Rattle.sm_state.specs.Standing.{info_of, one_more}
use Rattle.sm_state.specs.declared.election.SeenManager.{SeenManager}
use Rattle.sm_state.specs.declared.state.SmState.TheVariants.{Master}
use Rattle.sm_manager.specs.CallLists.{Call, after_call}
use Rattle.sm_manager.specs.Election.{handover_fault, poll_fault, yield_fault}
use Rattle.sm_manager.specs.Manager.{Manager, begin_fault, progress_of, silent_in}
use Rattle.sm_manager.specs.PlanFaults.{writing_fault}
use Rattle.sm_manager.specs.Writing.{is_written}
use Rattle.sm_manager.specs.declared.fault.ManagerFault.{ManagerFault}
use Rattle.sm_manager.specs.declared.progress.Progress.{Progress}
use Rattle.sm_manager.specs.declared.progress.Progress.TheVariants.{Done}
use Rattle.sm_policy.specs.Judged.{cause_of, failed, judged, writing, wrote}
use Rattle.sm_policy.specs.Policy.{Decision, polled}
use Rattle.sm_policy.specs.Resting.{handed, handing, rested}
use Rattle.sm_policy.specs.Swept.{swept}
use Rattle.sm_policy.specs.declared.act.Act.{Act}
use Rattle.sm_policy.specs.declared.act.Act.TheVariants as act
use Rattle.sm_policy.specs.declared.activity.Activity.{Activity}
use Rattle.sm_policy.specs.declared.activity.Activity.TheVariants as activity
use Rattle.sm_policy.specs.declared.write_cause.WriteCause.{WriteCause}
use Rattle.sm_policy.specs.declared.rival.Rival.{Rival}
use Rattle.sm_policy.specs.declared.rival.Rival.TheVariants.{Lesser, Greater}
use Rattle.acting_manager.specs.Acting.{Acting, noted}
use Rattle.acting_manager.specs.Planned.{comparison_of, planned}
use Rattle.acting_manager.specs.Reads.{no_reads}
use Rattle.acting_manager.specs.declared.note.Note.TheVariants.{Did, Refused, Settled, Swept, Writes, Wrote}

-- with a note of what was done, if it was
abbrev pub noted_if : Bool → Act → Acting → Acting
noted_if flag what a = record a { notes = if flag then a.notes ++ Did what ∷ [] else a.notes }

-- with a note of what was done or, if it was not, of what was refused
abbrev pub noted_as : Bool → Act → Acting → Acting
noted_as flag what a = noted (if flag then Did what else Refused what) a

-- polls and handovers ----------------------------------------------------------------------------

-- the master is polled. If there is no way to it, no master is known
abbrev pub polling : Acting → Acting
polling a =
    record a {
      manager = after_call a.manager (Call.Poll None);
      policy = if is_none (poll_fault a.manager None) then a.policy else polled false a.policy;
    }

-- the manager was asked to hand over by `call`, with the given fault: nothing happens if it refuses that
abbrev pub handed_by : Act → Call → Option ManagerFault → Acting → Acting
handed_by what call fault a =
    noted_if (is_none fault) what (record a {
      manager = after_call a.manager call;
      policy = handing (is_none fault) a.policy;
    })

abbrev pub handing_over : Acting → Acting
handing_over a = handed_by act.HandOver Call.Handover (handover_fault a.manager) a

abbrev pub yielding : Acting → Acting
yielding a = handed_by act.Yield Call.Yield (yield_fault a.manager) a

abbrev pub rediscovering : Acting → Acting
rediscovering a =
    noted (Did act.Rediscover) (record a { manager = after_call a.manager Call.Rediscover })

-- sweeps -----------------------------------------------------------------------------------------

-- the floor is raised to the generation of the next sweep, which is above all earlier ones
abbrev pub floor_raised : Acting → Acting
floor_raised a =
    record a { manager = after_call a.manager (Call.Raise (one_more a.newest)); newest = one_more a.newest }

-- a sweep was asked for, with the given fault
abbrev pub swept_with : Option ManagerFault → Acting → Acting
swept_with fault a =
    noted_as (is_none fault) act.Sweep (record a {
      manager = after_call a.manager Call.BeginSweep;
      reads = no_reads;
      policy = if is_none fault then a.policy else failed a.time a.policy;
    })

-- a sweep begins
abbrev pub sweeping_on : Acting → Acting
sweeping_on a = swept_with (begin_fault (floor_raised a).manager) (floor_raised a)

-- whether a sweep has every answer but those of managers
abbrev pub is_whole_by : Progress → Option ℕ → Bool
is_whole_by (Done unanswered too_far) (Some silent) = unanswered == silent && too_far == 0
is_whole_by progress silent = false

abbrev pub is_whole : Manager → Bool
is_whole m = is_whole_by (progress_of m.sweep) (silent_in m.sweep)

-- how the given master stands to the manager that `own` tells of; None if there is none
abbrev pub rival_of : SmInfo → Option SeenManager → Option Rival
rival_of own None = None
rival_of own (Some other) = Some (if wins other.info own then Greater else Lesser)

-- the greatest master that the last sweep saw
abbrev pub rival_seen : Manager → Option Rival
rival_seen m = rival_of (info_of m.standing) (greatest_in Master (info_of m.standing) m.seen)

-- plans ------------------------------------------------------------------------------------------

-- a writing of `plan` was asked for, for this cause, with the given fault. The plan is kept if the writing has begun
abbrev pub writing_with : Option ManagerFault → WriteCause → PlanValue → Acting → Acting
writing_with fault cause plan a =
    noted (if is_none fault then Writes cause else Refused act.Write) (record a {
      manager = after_call a.manager Call.WriteSteps;
      policy = writing a.time (is_none fault) a.policy;
      kept = if is_none fault then Some plan else a.kept;
      is_void = false;
    })

-- `plan`, the plan of the manager's facts, is written for this cause
abbrev pub writing_on : WriteCause → PlanValue → Acting → Acting
writing_on cause plan a = writing_with (writing_fault a.manager) cause plan a

-- nothing is left to write
abbrev pub settling : Acting → Acting
settling a = handing_over (noted (Settled a.reads.ports) a)

-- what is done about the given plan, which is written for this cause if it is
abbrev pub about_plan : Act → WriteCause → Option PlanValue → Acting → Acting
about_plan act.Write cause (Some plan) a = writing_on cause plan a
about_plan act.Settle cause plan a = settling a
about_plan what cause plan a = a

-- the given plan was judged
abbrev pub judged_on : Option PlanValue → WriteCause → Decision → Acting → Acting
judged_on plan cause d a = about_plan d.act cause plan (record a { policy = d.policy })

-- with a note if there is no plan
abbrev pub noted_unplanned : Option PlanValue → Acting → Acting
noted_unplanned None a = noted (Refused act.Judge) a
noted_unplanned (Some plan) a = a

-- the given plan is judged
abbrev pub judging_of : Option PlanValue → Acting → Acting
judging_of plan a =
    judged_on plan (cause_of (comparison_of a.kept plan) a.reads.ports a.policy)
    (judged a.time (comparison_of a.kept plan) a.reads.ports a.policy)
    (noted_unplanned plan a)

-- the plan of the manager's facts is judged
abbrev pub judging_on : Acting → Acting
judging_on a = judging_of (planned a.manager) a

-- decisions --------------------------------------------------------------------------------------

-- what was decided is done
abbrev pub done_by : Act → Acting → Acting
done_by act.Poll a = polling a
done_by act.Announce a = noted (Did act.Announce) a
done_by act.Sweep a = sweeping_on a
done_by act.Rediscover a = rediscovering a
done_by act.HandOver a = handing_over a
done_by act.Yield a = yielding a
done_by act.Judge a = judging_on a
done_by what a = a

-- the policy has decided, and that is done
abbrev pub decided : Decision → Acting → Acting
decided d a = done_by d.act (record a { policy = d.policy })

-- the sweep is over
abbrev pub sweep_over : Acting → Acting
sweep_over a =
    decided (swept a.time (is_whole a.manager) (rival_seen a.manager) a.policy) (noted (Swept (is_whole a.manager)) a)

-- the writing is over
abbrev pub writing_over : Acting → Acting
writing_over a = decided (wrote a.time (is_written a.manager) a.policy) (noted (Wrote (is_written a.manager)) a)

-- the request of a handover is no longer out
abbrev pub handing_on : Acting → Acting
handing_on a = record a { policy = handed a.policy }

-- what the manager does while no request is out or waits for its turn, by what it is about
abbrev pub acted_in : Activity → Acting → Acting
acted_in activity.Rests a = decided (rested a.time a.policy) a
acted_in activity.Sweeps a = sweep_over a
acted_in activity.Writes a = writing_over a
acted_in activity.Hands a = handing_on a

-- a manager that leaves hands over to its heir once its sweep is over, and waits for the end of its handover
abbrev pub left_in : Activity → Acting → Acting
left_in activity.Hands a = handing_on a
left_in activity.Sweeps a = yielding a
left_in what a = a

-- what the manager does while no request is out or waits for its turn
abbrev pub acted : Acting → Acting
acted a = if a.is_leaving then left_in a.policy.activity a else acted_in a.policy.activity a
