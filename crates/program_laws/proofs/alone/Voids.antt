-- What a manager that does not stand still writes is not to be given up.
use Rattle.std.proofs.Common.{◌≡◌, ◌∙◌, ℕ, zero, suc, Bool, true, false, cond, ◌&&◌, List, [], ◌∷◌, length, refl, sym, ap, subst}
use Rattle.std.proofs.lemmas.Bool.{both_ways, cond_both, cond-true, cond-false}
use Rattle.std.specs.Prelude.{Option, Some, None, is_none, max}
use Rattle.smp_bytes.specs.Packet.{fault_of, is_response}
use Rattle.smp_bytes.specs.declared.smp_fault.SmpFault.{SmpFault}
use Rattle.lft_blocks.specs.Plan.{PlanValue}
use Rattle.sm_manager.specs.CallLists.{Call, after_call}
use Rattle.sm_manager.specs.Election.{handover_fault, poll_fault, yield_fault}
use Rattle.sm_manager.specs.Manager.{begin_fault}
use Rattle.sm_manager.specs.Packets.{after_packet}
use Rattle.sm_manager.specs.declared.outgoing.Outgoing.{Outgoing}
use Rattle.sm_policy.specs.Judged.{cause_of, failed, judged}
use Rattle.sm_policy.specs.Policy.{polled}
use Rattle.sm_policy.specs.Swept.{swept}
use Rattle.sm_policy.specs.declared.act.Act.{Act}
use Rattle.sm_policy.specs.declared.act.Act.TheVariants as act
use Rattle.sm_policy.specs.declared.activity.Activity.{Activity}
use Rattle.sm_policy.specs.declared.activity.Activity.TheVariants as activity
use Rattle.sm_policy.specs.declared.policy.Policy.{Policy}
use Rattle.sm_policy.specs.declared.write_cause.WriteCause.{WriteCause}
use Rattle.request_window.specs.Window.{after_answer, after_drop_out, after_drop_queued, after_overdue, late_in}
use Rattle.request_window.specs.declared.late.Late.{Late}
use Rattle.request_window.specs.declared.late.Late.TheVariants.{Again, GivenUp}
use Rattle.acting_manager.specs.Acting.{Acting, caught_up, collected, noted}
use Rattle.acting_manager.specs.Acts.{about_plan, acted, acted_in, done_by, floor_raised, is_whole, left_in, noted_unplanned, rival_seen}
use Rattle.acting_manager.specs.Heard.{answered, asked, given_up, handed_in, hands_over, heard_by, requested, responded, told}
use Rattle.acting_manager.specs.Planned.{comparison_of, planned}
use Rattle.acting_manager.specs.Working.{Told, all_overdue, dropped, dropped_one, is_given_up, is_idle, is_writing, late_done, one_overdue, out_dropped}
use Rattle.acting_manager.specs.Working.{queued_dropped, repeated, sent, stopped, taken, told_time}
use Rattle.acting_manager.specs.declared.note.Note.TheVariants.{Swept}
use Rattle.program_laws.specs.InTurn.{may_follow}
use Rattle.program_laws.specs.Wakes.{IsNoLeave, Line, after_line, before_deciding}
use Rattle.program_laws.proofs.alone.Quiet.{IsAwake, told_is}
use Rattle.program_laws.proofs.wakes.Deciding.{caught_about, judged_about, sent_about, swept_rests, writing_past}
use Rattle.program_laws.proofs.wakes.FreshWork.{GoesOn}
use Rattle.program_laws.proofs.wakes.InTurn.{rest_follows}
use Rattle.program_laws.proofs.wakes.Sending.{only_sends}
use Rattle.program_laws.proofs.wakes.Settled.{has_settled}
use Rattle.program_laws.proofs.wakes.Waking.{Falls, any_falls, looked_void}

-- before the manager decides ------------------------------------------------------------------------------------------------------

abbrev Keeps : (Acting → Acting) → Type 0
Keeps step = (a : Acting) → (step a).is_void ≡ a.is_void

repeats : (n : ℕ) (step : Acting → Acting) → Keeps step → Keeps (repeated n step)
repeats zero step each a = refl
repeats (suc n) step each a = each (repeated n step a) ∙ repeats n step each a

pub caught_void : Keeps caught_up
caught_void a = looked_void (collected a)

ends_late : (late : Option Late) → Keeps (late_done late)
ends_late None a = refl
ends_late (Some (Again request)) a = refl
ends_late (Some (GivenUp request)) a = refl

overdue : Keeps one_overdue
overdue a = ends_late (late_in a.window.limits a.time a.window.outs).late (record a { window = after_overdue a.time a.window })

drops_one : (request : Option Outgoing) → Keeps (dropped_one request)
drops_one None a = refl
drops_one (Some request) a = refl

drops_queued : Keeps queued_dropped
drops_queued a = drops_one (after_drop_queued a.window).request (record a { window = (after_drop_queued a.window).window })

drops_out : Keeps out_dropped
drops_out a = drops_one (after_drop_out a.window).request (record a { window = (after_drop_out a.window).window })

drops : Keeps dropped
drops a =
    let unqueued = repeated (length a.window.queued) queued_dropped a in
    repeats (length unqueued.window.outs) out_dropped drops_out unqueued ∙ repeats (length a.window.queued) queued_dropped drops_queued a

stops : Keeps stopped
stops a = cond_both (is_given_up a) (collected (dropped a)) a (λ (b : Acting). b.is_void ≡ a.is_void) (λ _. drops a) (λ _. refl)

hands_in : (request : Outgoing) (packet : List ℕ) (is_taken : Bool) → Keeps (handed_in request packet is_taken)
hands_in request packet is_taken a =
    cond_both is_taken (told packet a) (given_up request a) (λ (b : Acting). b.is_void ≡ a.is_void) (λ _. refl) (λ _. refl)

answers_it : (request : Option Outgoing) (packet : List ℕ) (from : Option ℕ) → Keeps (answered request packet from)
answers_it None packet from a = refl
answers_it (Some request) packet from a =
    hands_in request packet (is_none (after_packet a.manager packet from).fault) (record a { manager = after_call a.manager (Call.Packet packet from) })

hears_by : (packet : List ℕ) (from : Option ℕ) (fault : Option SmpFault) → Keeps (heard_by packet from fault)
hears_by packet from (Some why) a = refl
hears_by packet from None a =
    cond_both (is_response packet) (responded packet from a) (asked packet from a) (λ (b : Acting). b.is_void ≡ a.is_void)
    (λ _. answers_it (after_answer packet a.window).request packet from (record a { window = (after_answer packet a.window).window }))
    (λ _. cond_both (a.is_leaving && hands_over packet) a (requested packet from a) (λ (b : Acting). b.is_void ≡ a.is_void) (λ _. refl) (λ _. refl))

takes : (what : Told) → IsNoLeave what → Keeps (taken what)
takes Told.Time stays a = refl
takes (Told.Packet bytes from) stays a = hears_by bytes from (fault_of bytes) a
takes Told.Look stays a = refl
takes Told.Leave stays a = absurd stays

-- once something was told
pub heard_void : (line : Line) (a : Acting) → IsNoLeave line.1 → IsAwake line a → (caught_up (taken line.1 (told_time line.0 a))).is_void ≡ a.is_void
heard_void line a stays awake =
    ap (λ (t : Acting). (caught_up (taken line.1 t)).is_void) (told_is line a awake)
    ∙ caught_void (taken line.1 (record a { time = max line.0 a.time })) ∙ takes line.1 stays (record a { time = max line.0 a.time })

-- and until it decides
until_void : (line : Line) (a : Acting) → IsNoLeave line.1 → IsAwake line a → (before_deciding line a).is_void ≡ a.is_void
until_void line a stays awake =
    let y = caught_up (taken line.1 (told_time line.0 a)) in
    caught_void (all_overdue (stopped y)) ∙ repeats (length (stopped y).window.outs) one_overdue overdue (stopped y) ∙ stops y ∙ heard_void line a stays awake

-- decisions -------------------------------------------------------------------------------------------------------------------------

-- what the manager writes, if it writes, is not to be given up
abbrev pub KeepsOn : Acting → Type 0
KeepsOn a = is_writing a.policy.activity ≡ true → a.is_void ≡ false

-- one that writes nothing keeps nothing
quiet_on : (a : Acting) → is_writing a.policy.activity ≡ false → KeepsOn a
quiet_on a quiet writes = absurd (both_ways (is_writing a.policy.activity) quiet writes)

handing_quiet : (flag : Bool) → is_writing (cond flag activity.Hands activity.Rests) ≡ false
handing_quiet true = refl
handing_quiet false = refl

about_on : (what : Act) (cause : WriteCause) (plan : Option PlanValue) (a : Acting) → is_writing a.policy.activity ≡ false
    → KeepsOn (about_plan what cause plan a)
about_on act.Write cause (Some plan) a quiet = λ _. refl
about_on act.Write cause None a quiet = quiet_on a quiet
about_on act.Settle cause plan a quiet = quiet_on (about_plan act.Settle cause plan a) (handing_quiet (is_none (handover_fault a.manager)))
about_on act.Wait cause plan a quiet = quiet_on a quiet
about_on act.Poll cause plan a quiet = quiet_on a quiet
about_on act.Announce cause plan a quiet = quiet_on a quiet
about_on act.Sweep cause plan a quiet = quiet_on a quiet
about_on act.Rediscover cause plan a quiet = quiet_on a quiet
about_on act.HandOver cause plan a quiet = quiet_on a quiet
about_on act.Yield cause plan a quiet = quiet_on a quiet
about_on act.Judge cause plan a quiet = quiet_on a quiet

done_on : (what : Act) (a : Acting) → is_writing a.policy.activity ≡ false → KeepsOn (done_by what a)
done_on act.Wait a quiet = quiet_on a quiet
done_on act.Poll a quiet =
    quiet_on (done_by act.Poll a)
    (cond_both (is_none (poll_fault a.manager None)) a.policy (polled false a.policy) (λ (p : Policy). is_writing p.activity ≡ false) (λ _. quiet) (λ _. quiet))
done_on act.Announce a quiet = quiet_on (done_by act.Announce a) quiet
done_on act.Sweep a quiet =
    quiet_on (done_by act.Sweep a)
    (cond_both (is_none (begin_fault (floor_raised a).manager)) a.policy (failed a.time a.policy) (λ (p : Policy). is_writing p.activity ≡ false) (λ _. quiet)
    (λ _. refl))
done_on act.Rediscover a quiet = quiet_on (done_by act.Rediscover a) quiet
done_on act.HandOver a quiet = quiet_on (done_by act.HandOver a) (handing_quiet (is_none (handover_fault a.manager)))
done_on act.Yield a quiet = quiet_on (done_by act.Yield a) (handing_quiet (is_none (yield_fault a.manager)))
done_on act.Judge a quiet =
    let plan = planned a.manager in
    let d = judged a.time (comparison_of a.kept plan) a.reads.ports a.policy in
    about_on d.act (cause_of (comparison_of a.kept plan) a.reads.ports a.policy) plan (record (noted_unplanned plan a) { policy = d.policy })
    (ap is_writing (judged_about a.time (comparison_of a.kept plan) a.reads.ports a.policy) ∙ quiet)
done_on act.Write a quiet = quiet_on a quiet
done_on act.Settle a quiet = quiet_on a quiet

rest_quiet : (what : Activity) → may_follow activity.Rests what ≡ true → is_writing what ≡ false
rest_quiet activity.Rests e = refl
rest_quiet activity.Sweeps e = refl
rest_quiet activity.Writes e = absurd (cc)
rest_quiet activity.Hands e = absurd (cc)

acts_on : (what : Activity) (a : Acting) → a.policy.activity ≡ what → KeepsOn (acted_in what a)
acts_on activity.Rests a e = quiet_on (acted_in activity.Rests a) (rest_quiet (acted_in activity.Rests a).policy.activity (rest_follows a e))
acts_on activity.Sweeps a e =
    let d = swept a.time (is_whole a.manager) (rival_seen a.manager) a.policy in
    done_on d.act (record (noted (Swept (is_whole a.manager)) a) { policy = d.policy })
    (ap is_writing (swept_rests a.time (is_whole a.manager) (rival_seen a.manager) a.policy))
acts_on activity.Writes a e = quiet_on (acted_in activity.Writes a) (writing_past is_writing refl refl a)
acts_on activity.Hands a e = quiet_on (acted_in activity.Hands a) refl

-- lines -----------------------------------------------------------------------------------------------------------------------------

module _ (line : Line) (a : Acting) (g : GoesOn a (line ∷ [])) where
  abbrev x : Acting
  x = before_deciding line a

  fell : Falls a.window.limits g.tries 0 line a x
  fell = any_falls a.window.limits g.tries line a (record { same = refl; whole = (has_settled a g.decided).whole }) g.none_leaves.0

  -- after a decision
  pub decided_on : is_idle x.window ≡ true → KeepsOn (after_line line a)
  decided_on idle =
      subst (λ (y : Acting). KeepsOn (sent y)) (sym (cond-true (is_idle x.window) (caught_up (acted x)) x idle))
      (λ writes. (only_sends (caught_up (acted x))).void ∙ caught_void (acted x)
      ∙ subst KeepsOn (sym (cond-false x.is_leaving (left_in x.policy.activity x) (acted_in x.policy.activity x) (fell.leaving ∙ g.stays_on)))
      (acts_on x.policy.activity x refl)
      (ap is_writing (sym (sent_about (caught_up (acted x)) ∙ caught_about (acted x))) ∙ writes))

  pub line_keeps_on : IsAwake line a → KeepsOn a → KeepsOn (after_line line a)
  line_keeps_on awake keeps = by_idle (is_idle x.window) refl
    where
      by_idle : (b : Bool) → is_idle x.window ≡ b → KeepsOn (after_line line a)
      by_idle true idle = decided_on idle
      by_idle false busy =
          subst (λ (y : Acting). KeepsOn (sent y)) (sym (cond-false (is_idle x.window) (caught_up (acted x)) x busy))
          (λ writes. (only_sends x).void ∙ until_void line a g.none_leaves.0 awake ∙ keeps (ap is_writing (sym (sent_about x ∙ fell.about)) ∙ writes))
