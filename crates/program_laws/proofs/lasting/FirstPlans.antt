-- A manager that has begun no writing keeps no plan.
use Rattle.std.proofs.Common.{◌≡◌, ◌∙◌, ◌⊎◌, inl, inr, Bool, true, false, cond, ◌&&◌, not, List, [], ◌∷◌, ◌++◌, refl, sym, ap}
use Rattle.std.proofs.lemmas.Bool.{cond_both, cond-true}
use Rattle.std.specs.Prelude.{Option, Some, None, slice_get}
use Rattle.fabric_model.specs.Cables.{is_same_port}
use Rattle.lft_blocks.specs.Plan.{PlanValue}
use Rattle.sm_manager.specs.PlanFaults.{writing_fault}
use Rattle.sm_manager.specs.declared.fault.ManagerFault.{ManagerFault}
use Rattle.sm_manager.specs.declared.outgoing.Outgoing.{Outgoing}
use Rattle.sm_policy.specs.Judged.{cause_of, judged}
use Rattle.sm_policy.specs.Policy.{is_sweeping}
use Rattle.sm_policy.specs.declared.act.Act.{Act}
use Rattle.sm_policy.specs.declared.act.Act.TheVariants as act
use Rattle.sm_policy.specs.declared.activity.Activity.{Activity}
use Rattle.sm_policy.specs.declared.activity.Activity.TheVariants as activity
use Rattle.sm_policy.specs.declared.write_cause.WriteCause.{WriteCause}
use Rattle.acting_manager.specs.Acting.{Acting, caught_up}
use Rattle.acting_manager.specs.Acts.{about_plan, acted, acted_in, done_by, left_in, noted_unplanned, writing_with}
use Rattle.acting_manager.specs.Planned.{comparison_of, planned}
use Rattle.acting_manager.specs.Working.{Told, acted_if_idle, is_idle, is_writing, sent, yielding_at_once}
use Rattle.manager_laws.specs.Scene.{Handed}
use Rattle.program_laws.specs.Deciding.{Around, Deciding, DecidingEvent, Hear, Send, Tell, after_deciding_event, after_deciding_events, hearing_at, sending_from, telling}
use Rattle.program_laws.specs.ManagedWritings.{NoneBegins, begins_writing}
use Rattle.program_laws.specs.Wakes.{Line, after_line, before_deciding}
use Rattle.program_laws.proofs.wakes.Deciding.{caught_about, sent_about}
use Rattle.program_laws.proofs.lasting.Told.{Lasts, Of, Property, catches_up, lasts_until, sends}

-- this plan is kept, or none
abbrev pub IsKept : Option PlanValue → Property
IsKept plan m p kept notes leaves = kept ≡ plan

pub kept_lasts : (plan : Option PlanValue) → Lasts (IsKept plan)
kept_lasts plan =
    record {
      gives = λ a e. e;
      hears = λ a bytes from e. e;
      gives_up = λ a request e. e;
      drops = λ a request writes e. e;
      wants = λ a e. e;
      polls = λ a is_master e. e;
      is_taken = λ a e. e;
      enters = λ a state e. e;
      pauses = λ a time e. e;
      leaves = λ a e.
          cond_both a.is_leaving a (if_sweeping a) (Of (IsKept plan)) (λ _. e)
          (λ _. cond_both (is_sweeping a.policy.activity) (record a { is_leaving = true }) (yielding_at_once (record a { is_leaving = true })) (Of (IsKept plan))
          (λ _. e) (λ _. e));
    }
  where
    if_sweeping : Acting → Acting
    if_sweeping a = cond (is_sweeping a.policy.activity) (record a { is_leaving = true }) (yielding_at_once (record a { is_leaving = true }))

-- the plan that is kept is as before, or a writing runs
abbrev pub KeepsOrWrites : Acting → Acting → Type 0
KeepsOrWrites a b = (b.kept ≡ a.kept) ⊎ (is_writing b.policy.activity ≡ true)

with_fault : (o : Option ManagerFault) (cause : WriteCause) (plan : PlanValue) (a : Acting) → KeepsOrWrites a (writing_with o cause plan a)
with_fault None cause plan a = inr refl
with_fault (Some why) cause plan a = inl refl

about_keeps : (what : Act) (cause : WriteCause) (plan : Option PlanValue) (a : Acting) → KeepsOrWrites a (about_plan what cause plan a)
about_keeps act.Write cause (Some plan) a = with_fault (writing_fault a.manager) cause plan a
about_keeps act.Write cause None a = inl refl
about_keeps act.Settle cause plan a = inl refl
about_keeps act.Wait cause plan a = inl refl
about_keeps act.Poll cause plan a = inl refl
about_keeps act.Announce cause plan a = inl refl
about_keeps act.Sweep cause plan a = inl refl
about_keeps act.Rediscover cause plan a = inl refl
about_keeps act.HandOver cause plan a = inl refl
about_keeps act.Yield cause plan a = inl refl
about_keeps act.Judge cause plan a = inl refl

unplanned_kept : (plan : Option PlanValue) (a : Acting) → (noted_unplanned plan a).kept ≡ a.kept
unplanned_kept None a = refl
unplanned_kept (Some plan) a = refl

done_keeps : (what : Act) (a : Acting) → KeepsOrWrites a (done_by what a)
done_keeps act.Judge a =
    let plan = planned a.manager in
    let d = judged a.time (comparison_of a.kept plan) a.reads.ports a.policy in
    let cause = cause_of (comparison_of a.kept plan) a.reads.ports a.policy in
    let b : Acting = record (noted_unplanned plan a) { policy = d.policy } in
    elim (about_keeps d.act cause plan b) [ inl e ↦ inl (e ∙ unplanned_kept plan a) | inr w ↦ inr w ]
done_keeps act.Wait a = inl refl
done_keeps act.Poll a = inl refl
done_keeps act.Announce a = inl refl
done_keeps act.Sweep a = inl refl
done_keeps act.Rediscover a = inl refl
done_keeps act.HandOver a = inl refl
done_keeps act.Yield a = inl refl
done_keeps act.Write a = inl refl
done_keeps act.Settle a = inl refl

acts_keep : (what : Activity) (a : Acting) → KeepsOrWrites a (acted_in what a)
acts_keep activity.Rests a = done_keeps _ _
acts_keep activity.Sweeps a = done_keeps _ _
acts_keep activity.Writes a = done_keeps _ _
acts_keep activity.Hands a = inl refl

pub leaves_keep : (what : Activity) (a : Acting) → (left_in what a).kept ≡ a.kept
leaves_keep activity.Rests a = refl
leaves_keep activity.Sweeps a = refl
leaves_keep activity.Writes a = refl
leaves_keep activity.Hands a = refl

pub acted_keeps : (a : Acting) → KeepsOrWrites a (acted a)
acted_keeps a =
    cond_both a.is_leaving (left_in a.policy.activity a) (acted_in a.policy.activity a) (KeepsOrWrites a)
    (λ _. inl (leaves_keep a.policy.activity a)) (λ _. acts_keep a.policy.activity a)

-- lines and events -----------------------------------------------------------------------------------------------------------

-- nothing was written so far
pub record IsFirst (a : Acting) : Type 0 where
  pub none : a.kept ≡ None
  pub quiet : is_writing a.policy.activity ≡ false

still_quiet : (before after : Bool) → before ≡ false → (not before && after) ≡ false → after ≡ false
still_quiet false after e f = f
still_quiet true after e f = absurd (cc)

line_first : (line : Line) (a : Acting) → IsFirst a → (not (is_writing a.policy.activity) && is_writing (after_line line a).policy.activity) ≡ false
    → IsFirst (after_line line a)
line_first line a f begins = record { none = kept; quiet = quiet }
  where
    x : Acting
    x = before_deciding line a

    quiet : is_writing (after_line line a).policy.activity ≡ false
    quiet = still_quiet (is_writing a.policy.activity) (is_writing (after_line line a).policy.activity) f.quiet begins

    ready : x.kept ≡ None
    ready = lasts_until (IsKept None) (kept_lasts None) line a f.none

    by_acts : is_idle x.window ≡ true → KeepsOrWrites x (acted x) → (caught_up (acted x)).kept ≡ None
    by_acts idle (inl e) = catches_up (IsKept None) (kept_lasts None) (acted x) (e ∙ ready)
    by_acts idle (inr w) =
        let writes : is_writing (after_line line a).policy.activity ≡ true =
        ap (λ (y : Acting). is_writing (sent y).policy.activity) (cond-true (is_idle x.window) (caught_up (acted x)) x idle)
        ∙ ap is_writing (sent_about (caught_up (acted x)) ∙ caught_about (acted x)) ∙ w in
        let wrong : true ≡ false = sym writes ∙ quiet in
        absurd (cc)

    kept : (after_line line a).kept ≡ None
    kept =
        sends (IsKept None) (kept_lasts None) (acted_if_idle x)
        (cond_both (is_idle x.window) (caught_up (acted x)) x (λ (y : Acting). y.kept ≡ None) (λ idle. by_acts idle (acted_keeps x)) (λ _. ready))

event_first : (d : Deciding) (event : DecidingEvent) → IsFirst d.acting → begins_writing d event ≡ false → IsFirst (after_deciding_event d event).acting
event_first d (Around event) f e = f
event_first d (Tell time what) f e = line_first (time, what) d.acting f e
event_first d (Send which) f e = by_packet (slice_get d.printed which)
  where
    by_packet : (o : Option Outgoing) → IsFirst (sending_from o d).acting
    by_packet None = f
    by_packet (Some out) = f
event_first d (Hear time which) f e = by_packet (slice_get d.scene.handed which) e
  where
    by_packet : (o : Option Handed) → (not (is_writing d.acting.policy.activity) && is_writing (hearing_at time o d).acting.policy.activity) ≡ false
        → IsFirst (hearing_at time o d).acting
    by_packet None g = f
    by_packet (Some h) g = by_port (is_same_port h.at d.seat) g
      where
        what : Told
        what = Told.Packet h.packet.bytes (Some h.packet.slid)

        by_port : (b : Bool) → (not (is_writing d.acting.policy.activity) && is_writing (cond b (telling time what d) d).acting.policy.activity) ≡ false
            → IsFirst (cond b (telling time what d) d).acting
        by_port true g = line_first (time, what) d.acting f g
        by_port false g = f

pub events_first : (events : List DecidingEvent) (d : Deciding) → IsFirst d.acting → NoneBegins events d → IsFirst (after_deciding_events events d).acting
events_first [] d f none = f
events_first (event ∷ events) d f none = events_first events (after_deciding_event d event) (event_first d event f none.0) none.1

-- the last of the events that begins a writing, if one does
pub data LastWriting (events : List DecidingEvent) (d : Deciding) : Type 0 where
  Nothing : NoneBegins events d → LastWriting events d
  Something : (before : List DecidingEvent) → (begins : DecidingEvent) → (after : List DecidingEvent) → events ≡ before ++ begins ∷ after
      → begins_writing (after_deciding_events before d) begins ≡ true
      → NoneBegins after (after_deciding_event (after_deciding_events before d) begins) → LastWriting events d

pub last_writing : (events : List DecidingEvent) (d : Deciding) → LastWriting events d
last_writing [] d = Nothing tt
last_writing (event ∷ events) d = by_rest (last_writing events (after_deciding_event d event))
  where
    by_begun : NoneBegins events (after_deciding_event d event) → (b : Bool) → begins_writing d event ≡ b → LastWriting (event ∷ events) d
    by_begun none true e = Something [] event events refl e none
    by_begun none false e = Nothing (e, none)

    by_rest : LastWriting events (after_deciding_event d event) → LastWriting (event ∷ events) d
    by_rest (Something before begins after are writes none) = Something (event ∷ before) begins after (ap (λ es. event ∷ es) are) writes none
    by_rest (Nothing none) = by_begun none (begins_writing d event) refl
