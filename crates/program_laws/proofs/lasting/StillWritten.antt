-- A plan that is kept, and is written, is so until another writing begins.
use Rattle.std.proofs.Common.{◌≡◌, ◌∙◌, ◌⊎◌, inl, inr, true, false, cond, List, [], ◌∷◌, refl, sym, ap, subst}
use Rattle.std.proofs.lemmas.Bool.{cond_both, cond-false, cond-true}
use Rattle.std.specs.Prelude.{Option, Some, None, is_none}
use Rattle.smp_bytes.specs.Field.{number_in}
use Rattle.smp_bytes.specs.Packet.{transaction_id}
use Rattle.lft_blocks.specs.Plan.{PlanValue}
use Rattle.sm_manager.specs.CallLists.{Call}
use Rattle.sm_manager.specs.Manager.{Manager, emptied}
use Rattle.sm_manager.specs.PlanFaults.{writing_fault}
use Rattle.sm_manager.specs.Writing.{after_write_steps}
use Rattle.sm_manager.specs.declared.fault.ManagerFault.{ManagerFault}
use Rattle.sm_manager.specs.declared.outgoing.Outgoing.{Outgoing}
use Rattle.sm_policy.specs.Judged.{cause_of, judged, writing}
use Rattle.sm_policy.specs.Policy.{is_sweeping}
use Rattle.sm_policy.specs.declared.act.Act.{Act}
use Rattle.sm_policy.specs.declared.act.Act.TheVariants as act
use Rattle.sm_policy.specs.declared.activity.Activity.{Activity}
use Rattle.sm_policy.specs.declared.activity.Activity.TheVariants as activity
use Rattle.sm_policy.specs.declared.write_cause.WriteCause.{WriteCause}
use Rattle.sm_state.specs.Standing.{one_more}
use Rattle.acting_manager.specs.Acting.{Acting, caught_up}
use Rattle.acting_manager.specs.Acts.{about_plan, acted, acted_in, done_by, floor_raised, left_in, noted_unplanned}
use Rattle.acting_manager.specs.Planned.{comparison_of, planned}
use Rattle.acting_manager.specs.Working.{acted_if_idle, is_idle, is_writing, sent, yielding_at_once}
use Rattle.program_laws.specs.StandingPlans.{KeepsWritten}
use Rattle.program_laws.specs.Wakes.{Line, after_line, before_deciding}
use Rattle.program_laws.proofs.lasting.Standing.{still_kept}
use Rattle.program_laws.proofs.lasting.Told.{Lasts, Of, Property, catches_up, sends}
use Rattle.program_laws.proofs.wakes.Deciding.{caught_about, sent_about}

abbrev Written : Property
Written m p kept notes leaves = KeepsWritten kept m

all_taken : (m : Manager) (kept : Option PlanValue) (queue : List Outgoing) → KeepsWritten kept (record m { outgoing = queue }) → KeepsWritten kept (emptied m)
all_taken m kept [] k = k
all_taken m kept (out ∷ queue) k = all_taken m kept queue (still_kept kept (record m { outgoing = out ∷ queue }) Call.Take tt k)

written_lasts : Lasts Written
written_lasts =
    record {
      gives = λ a k. all_taken a.manager a.kept a.manager.outgoing k;
      hears = λ a bytes from k. still_kept a.kept a.manager (Call.Packet bytes from) tt k;
      gives_up = λ a request k. still_kept a.kept a.manager (Call.Timeout (number_in transaction_id request.packet)) tt k;
      drops = λ a request writes k. still_kept a.kept a.manager (Call.Timeout (number_in transaction_id request.packet)) tt k;
      wants = λ a k. k;
      polls = λ a is_master k. k;
      is_taken = λ a k. k;
      enters = λ a state k. k;
      pauses = λ a time k. k;
      leaves = λ a k.
          cond_both a.is_leaving a (if_sweeping a) (Of Written) (λ _. k)
          (λ _. cond_both (is_sweeping a.policy.activity) (record a { is_leaving = true }) (yielding_at_once (record a { is_leaving = true })) (Of Written)
          (λ _. k) (λ _. still_kept a.kept a.manager Call.Yield tt k));
    }
  where
    if_sweeping : Acting → Acting
    if_sweeping a = cond (is_sweeping a.policy.activity) (record a { is_leaving = true }) (yielding_at_once (record a { is_leaving = true }))

-- it is so, or a writing has begun
abbrev WrittenOrWrites : Acting → Type 0
WrittenOrWrites a = KeepsWritten a.kept a.manager ⊎ (is_writing a.policy.activity ≡ true)

about_written : (what : Act) (cause : WriteCause) (plan : Option PlanValue) (a : Acting) → KeepsWritten a.kept a.manager
    → WrittenOrWrites (about_plan what cause plan a)
about_written act.Write cause (Some plan) a k = by_fault (writing_fault a.manager)
  where
    by_fault : (o : Option ManagerFault)
        → KeepsWritten (cond (is_none o) (Some plan) a.kept) (cond (is_none o) (after_write_steps a.manager) a.manager)
        ⊎ (is_writing (writing a.time (is_none o) a.policy).activity ≡ true)
    by_fault None = inr refl
    by_fault (Some why) = inl k
about_written act.Write cause None a k = inl k
about_written act.Settle cause plan a k = inl (still_kept a.kept a.manager Call.Handover tt k)
about_written act.Wait cause plan a k = inl k
about_written act.Poll cause plan a k = inl k
about_written act.Announce cause plan a k = inl k
about_written act.Sweep cause plan a k = inl k
about_written act.Rediscover cause plan a k = inl k
about_written act.HandOver cause plan a k = inl k
about_written act.Yield cause plan a k = inl k
about_written act.Judge cause plan a k = inl k

unplanned_written : (plan : Option PlanValue) (a : Acting) → KeepsWritten a.kept a.manager
    → KeepsWritten (noted_unplanned plan a).kept (noted_unplanned plan a).manager
unplanned_written None a k = k
unplanned_written (Some plan) a k = k

done_written : (what : Act) (a : Acting) → KeepsWritten a.kept a.manager → WrittenOrWrites (done_by what a)
done_written act.Judge a k =
    let plan = planned a.manager in
    let d = judged a.time (comparison_of a.kept plan) a.reads.ports a.policy in
    about_written d.act (cause_of (comparison_of a.kept plan) a.reads.ports a.policy) plan (record (noted_unplanned plan a) { policy = d.policy })
    (unplanned_written plan a k)
done_written act.Wait a k = inl k
done_written act.Poll a k = inl (still_kept a.kept a.manager (Call.Poll None) tt k)
done_written act.Announce a k = inl k
done_written act.Sweep a k =
    inl (still_kept a.kept (floor_raised a).manager Call.BeginSweep tt (still_kept a.kept a.manager (Call.Raise (one_more a.newest)) tt k))
done_written act.Rediscover a k = inl (still_kept a.kept a.manager Call.Rediscover tt k)
done_written act.HandOver a k = inl (still_kept a.kept a.manager Call.Handover tt k)
done_written act.Yield a k = inl (still_kept a.kept a.manager Call.Yield tt k)
done_written act.Write a k = inl k
done_written act.Settle a k = inl k

acts_written : (what : Activity) (a : Acting) → KeepsWritten a.kept a.manager → WrittenOrWrites (acted_in what a)
acts_written activity.Rests a k = done_written _ _ k
acts_written activity.Sweeps a k = done_written _ _ k
acts_written activity.Writes a k = done_written _ _ k
acts_written activity.Hands a k = inl k

-- after a line at which the manager decides, unless it writes then
pub line_written : (line : Line) (a : Acting) → (before_deciding line a).is_leaving ≡ false → is_idle (before_deciding line a).window ≡ true
    → is_writing (after_line line a).policy.activity ≡ false → KeepsWritten (before_deciding line a).kept (before_deciding line a).manager
    → KeepsWritten (after_line line a).kept (after_line line a).manager
line_written line a stays idle quiet k =
    sends Written written_lasts (acted_if_idle x)
    (subst (λ (y : Acting). KeepsWritten y.kept y.manager) (sym after_is) (catches_up Written written_lasts y (by_acts (acts_written x.policy.activity x k))))
  where
    x : Acting
    x = before_deciding line a

    y : Acting
    y = acted_in x.policy.activity x

    after_is : acted_if_idle x ≡ caught_up y
    after_is =
        cond-true (is_idle x.window) (caught_up (acted x)) x idle
        ∙ ap caught_up (cond-false x.is_leaving (left_in x.policy.activity x) (acted_in x.policy.activity x) stays)

    by_acts : WrittenOrWrites y → KeepsWritten y.kept y.manager
    by_acts (inl k) = k
    by_acts (inr w) =
        let writes : is_writing (after_line line a).policy.activity ≡ true =
        ap (λ (z : Acting). is_writing (sent z).policy.activity) after_is ∙ ap is_writing (sent_about (caught_up y) ∙ caught_about y) ∙ w in
        let wrong : true ≡ false = sym writes ∙ quiet in
        absurd (cc)
