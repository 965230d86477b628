-- No answer is waited for longer than three time-outs.
use Rattle.std.proofs.Common.{◌≡◌, ◌∙◌, ℕ, zero, suc, ◌+◌, ◌*◌, ◌≤◌, Bool, true, ◌&&◌, List, [], ◌∷◌, ◌++◌, length, refl, sym, ap, subst, arith}
use Rattle.std.proofs.lemmas.Bool.{cond_both}
use Rattle.std.specs.List.{AllByRecursion}
use Rattle.std.specs.Prelude.{◌==◌, Option, Some, None, is_none, max, nat_lt}
use Rattle.smp_bytes.specs.Field.{number_in}
use Rattle.smp_bytes.specs.Header.{sm_info}
use Rattle.smp_bytes.specs.Packet.{attribute_id, fault_of, is_response}
use Rattle.smp_bytes.specs.declared.smp_fault.SmpFault.{SmpFault}
use Rattle.lft_blocks.specs.Plan.{PlanValue}
use Rattle.sm_manager.specs.CallLists.{Call, after_call}
use Rattle.sm_manager.specs.Manager.{new_manager}
use Rattle.sm_manager.specs.Packets.{after_packet}
use Rattle.sm_manager.specs.Writing.{is_written}
use Rattle.sm_manager.specs.declared.outgoing.Outgoing.{Outgoing}
use Rattle.sm_policy.specs.Judged.{cause_of, judged, wrote}
use Rattle.sm_policy.specs.Policy.{Decision, is_sweeping}
use Rattle.sm_policy.specs.Resting.{rested}
use Rattle.sm_policy.specs.Swept.{swept}
use Rattle.sm_policy.specs.declared.act.Act.{Act}
use Rattle.sm_policy.specs.declared.act.Act.TheVariants as act
use Rattle.sm_policy.specs.declared.activity.Activity.{Activity}
use Rattle.sm_policy.specs.declared.activity.Activity.TheVariants as activity
use Rattle.sm_policy.specs.declared.write_cause.WriteCause.{WriteCause}
use Rattle.request_window.specs.declared.late.Late.{Late}
use Rattle.request_window.specs.declared.late.Late.TheVariants.{Again, GivenUp}
use Rattle.request_window.specs.declared.limits.Limits.{Limits}
use Rattle.request_window.specs.declared.out.Out.{Out}
use Rattle.request_window.specs.Window.{Given, LateOutcome, TakenOut, Window, after_answer, after_drop_out, after_drop_queued, after_overdue, after_send, answers}
use Rattle.request_window.specs.Window.{behind, first_out, is_late, is_sent_again, judged_late, kept_behind, late_in, out_at, patience, sent_of, unanswered_of, unsent_of}
use Rattle.acting_manager.specs.Acting.{Acting, caught_up, collected, entered, looked, new_acting, noted}
use Rattle.acting_manager.specs.Acts.{about_plan, acted, acted_in, decided, done_by, is_whole, left_in, noted_unplanned, rival_seen}
use Rattle.acting_manager.specs.Heard.{answered, asked, given_up, handed_in, hands_over, heard_by, requested, responded, told}
use Rattle.acting_manager.specs.Planned.{comparison_of, planned}
use Rattle.acting_manager.specs.Working.{Told, acted_if_idle, all_overdue, all_sent, dropped, dropped_one, is_given_up, is_idle, late_done, leaving, one_overdue}
use Rattle.acting_manager.specs.Working.{one_sent, out_dropped, paused_until, queued_dropped, repeated, sent, sent_one, stood_still, stopped, taken, told_time}
use Rattle.acting_manager.specs.Working.{wake_of, yielding_at_once}
use Rattle.acting_manager.specs.declared.note.Note.TheVariants.{Swept, Wrote}
use Rattle.program_laws.specs.Wakes.{HasDecided, Line, after_line, after_lines, before_deciding}
use Rattle.program_laws.proofs.wakes.Chances.{same_sent}

patient : (limits : Limits) (request : Outgoing) → patience limits request ≤ 3 * limits.timeout
patient limits request =
    cond_both (number_in attribute_id request.packet == sm_info) (3 * limits.timeout) limits.timeout (λ n. n ≤ 3 * limits.timeout)
    (λ _. omega arith) (λ _. omega arith)

module _ (limits : Limits) (now : ℕ) where
  -- the request is late in three time-outs
  abbrev IsNear : Out → Type 0
  IsNear out = out.deadline ≤ now + 3 * limits.timeout

  -- the time is `now`, and so it is of each request that is out
  pub record IsSoon (a : Acting) : Type 0 where
    pub same : a.window.limits ≡ limits
    pub time : a.time ≡ now
    pub outs : AllByRecursion IsNear a.window.outs

  sent_near : (l : Limits) (time tries : ℕ) (request : Outgoing) → l ≡ limits → time ≡ now → IsNear (out_at l time tries request)
  sent_near l time tries request same at =
      subst (λ (x : Limits). (out_at x time tries request).deadline ≤ now + 3 * limits.timeout) (sym same)
      (let few = patient limits request in omega (arith, few, at))

  as_is : (a b : Acting) → b.window ≡ a.window → b.time ≡ a.time → IsSoon a → IsSoon b
  as_is a b window time s =
      record {
        same = ap (λ (w : Window). w.limits) window ∙ s.same;
        time = time ∙ s.time;
        outs = subst (λ (w : Window). AllByRecursion IsNear w.outs) (sym window) s.outs;
      }

  with_window : (a : Acting) (w : Window) → w.limits ≡ a.window.limits → AllByRecursion IsNear w.outs → IsSoon a → IsSoon (record a { window = w })
  with_window a w same outs s = record { same = same ∙ s.same; time = s.time; outs = outs }

  abbrev Keeps : (Acting → Acting) → Type 0
  Keeps step = (a : Acting) → IsSoon a → IsSoon (step a)

  repeats : (n : ℕ) (step : Acting → Acting) → Keeps step → Keeps (repeated n step)
  repeats zero step each a s = s
  repeats (suc n) step each a s = each (repeated n step a) (repeats n step each a s)

  collects : Keeps collected
  collects a s = record { same = s.same; time = s.time; outs = s.outs }

  looks : Keeps looked
  looks a s = cond_both _ a (entered a.manager.standing.state a) IsSoon (λ _. s) (λ _. as_is a (entered a.manager.standing.state a) refl refl s)

  catches_up : Keeps caught_up
  catches_up a s = looks (collected a) (collects a s)

  -- late requests -------------------------------------------------------------------------------------

  late_near : (l : Limits) (time : ℕ) (outs : List Out) → l ≡ limits → time ≡ now → AllByRecursion IsNear outs
      → AllByRecursion IsNear (late_in l time outs).outs
  late_near l time [] same at all = tt
  late_near l time (out ∷ outs) same at all =
      cond_both (is_late time out) (judged_late l time out outs) (behind out (late_in l time outs)) (λ (x : LateOutcome). AllByRecursion IsNear x.outs)
      (λ _. cond_both (is_sent_again l out)
      (record { outs = out_at l time (out.tries + 1) out.request ∷ outs; late = Some (Again out.request) })
      (record { outs = outs; late = Some (GivenUp out.request) }) (λ (x : LateOutcome). AllByRecursion IsNear x.outs)
      (λ _. (sent_near l time (out.tries + 1) out.request same at, all.1)) (λ _. all.1))
      (λ _. (all.0, late_near l time outs same at all.1))

  ends_late : (late : Option Late) → Keeps (late_done late)
  ends_late None a s = s
  ends_late (Some (Again request)) a s = as_is a _ refl refl s
  ends_late (Some (GivenUp request)) a s = as_is a _ refl refl s

  overdue : Keeps one_overdue
  overdue a s =
      let w = after_overdue a.time a.window in
      ends_late (late_in a.window.limits a.time a.window.outs).late (record a { window = w })
      (with_window a w refl (late_near a.window.limits a.time a.window.outs s.same s.time s.outs) s)

  all_end : Keeps all_overdue
  all_end a s = repeats (length a.window.outs) one_overdue overdue a s

  -- dropping ---------------------------------------------------------------------------------------------

  drops_one : (request : Option Outgoing) → Keeps (dropped_one request)
  drops_one None a s = s
  drops_one (Some request) a s = as_is a _ refl refl s

  unsent_soon : (a : Acting) (queue : List Outgoing) → IsSoon a → IsSoon (record a { window = (unsent_of a.window queue).window })
  unsent_soon a [] s = s
  unsent_soon a (out ∷ queue) s = with_window a (record a.window { queued = queue }) refl s.outs s

  unanswered_soon : (a : Acting) (outs : List Out) → AllByRecursion IsNear outs → IsSoon a → IsSoon (record a { window = (unanswered_of a.window outs).window })
  unanswered_soon a [] all s = s
  unanswered_soon a (out ∷ outs) all s = with_window a (record a.window { outs = outs }) refl all.1 s

  drops_queued : Keeps queued_dropped
  drops_queued a s =
      drops_one (after_drop_queued a.window).request (record a { window = (after_drop_queued a.window).window }) (unsent_soon a a.window.queued s)

  drops_out : Keeps out_dropped
  drops_out a s =
      drops_one (after_drop_out a.window).request (record a { window = (after_drop_out a.window).window })
      (unanswered_soon a a.window.outs s.outs s)

  drops : Keeps dropped
  drops a s =
      let unqueued = repeated (length a.window.queued) queued_dropped a in
      repeats (length unqueued.window.outs) out_dropped drops_out unqueued (repeats (length a.window.queued) queued_dropped drops_queued a s)

  stops : Keeps stopped
  stops a s = cond_both (is_given_up a) (collected (dropped a)) a IsSoon (λ _. collects (dropped a) (drops a s)) (λ _. s)

  -- sending ------------------------------------------------------------------------------------------------

  all_both : (xs ys : List Out) → AllByRecursion IsNear xs → AllByRecursion IsNear ys → AllByRecursion IsNear (xs ++ ys)
  all_both [] ys all also = also
  all_both (x ∷ xs) ys all also = (all.0, all_both xs ys all.1 also)

  sent_outs : (time : ℕ) (w : Window) (queue : List Outgoing) → w.limits ≡ limits → time ≡ now → AllByRecursion IsNear w.outs
      → AllByRecursion IsNear (sent_of time w queue).window.outs
  sent_outs time w [] same at all = all
  sent_outs time w (request ∷ rest) same at all =
      let out = out_at w.limits time 1 request in
      cond_both (nat_lt (length w.outs) w.limits.outstanding) (record { window = record w { queued = rest; outs = w.outs ++ out ∷ [] }; request = Some request })
      (record { window = w; request = None }) (λ (g : Given). AllByRecursion IsNear g.window.outs)
      (λ _. all_both w.outs (out ∷ []) all (sent_near w.limits time 1 request same at, tt)) (λ _. all)

  sends_it : (request : Option Outgoing) → Keeps (sent_one request)
  sends_it None a s = s
  sends_it (Some request) a s = as_is a _ refl refl s

  sends_one : Keeps one_sent
  sends_one a s =
      let w = (after_send a.time a.window).window in
      sends_it (after_send a.time a.window).request (record a { window = w })
      (with_window a w (same_sent a.time a.window a.window.queued) (sent_outs a.time a.window a.window.queued s.same s.time s.outs) s)

  sends : Keeps sent
  sends a s =
      cond_both (is_given_up a) a (all_sent a) IsSoon (λ _. s) (λ _. repeats a.window.limits.outstanding one_sent sends_one a s)

  -- packets --------------------------------------------------------------------------------------------------

  taken_near : (test : Out → Bool) (outs : List Out) → AllByRecursion IsNear outs → AllByRecursion IsNear (first_out test outs).outs
  taken_near test [] all = tt
  taken_near test (out ∷ outs) all =
      cond_both (test out) (record { outs = outs; request = Some out.request }) (kept_behind out (first_out test outs))
      (λ (x : TakenOut). AllByRecursion IsNear x.outs) (λ _. all.1) (λ _. (all.0, taken_near test outs all.1))

  hands_in : (request : Outgoing) (packet : List ℕ) (is_taken : Bool) → Keeps (handed_in request packet is_taken)
  hands_in request packet is_taken a s =
      cond_both is_taken (told packet a) (given_up request a) IsSoon (λ _. as_is a (told packet a) refl refl s)
      (λ _. as_is a (given_up request a) refl refl s)

  answers_it : (request : Option Outgoing) (packet : List ℕ) (from : Option ℕ) → Keeps (answered request packet from)
  answers_it None packet from a s = s
  answers_it (Some request) packet from a s =
      let b = record a { manager = after_call a.manager (Call.Packet packet from) } in
      hands_in request packet (is_none (after_packet a.manager packet from).fault) b (as_is a b refl refl s)

  hears_by : (packet : List ℕ) (from : Option ℕ) (fault : Option SmpFault) → Keeps (heard_by packet from fault)
  hears_by packet from (Some why) a s = s
  hears_by packet from None a s =
      let w = (after_answer packet a.window).window in
      cond_both (is_response packet) (responded packet from a) (asked packet from a) IsSoon
      (λ _. answers_it (after_answer packet a.window).request packet from (record a { window = w })
      (with_window a w refl (taken_near (answers packet) a.window.outs s.outs) s))
      (λ _. cond_both (a.is_leaving && hands_over packet) a (requested packet from a) IsSoon (λ _. s) (λ _. as_is a (requested packet from a) refl refl s))

  leaves : Keeps leaving
  leaves a s =
      cond_both a.is_leaving a _ IsSoon (λ _. s)
      (λ _. cond_both (is_sweeping a.policy.activity) _ (yielding_at_once (record a { is_leaving = true })) IsSoon (λ _. as_is a _ refl refl s)
      (λ _. record { same = s.same; time = s.time; outs = tt }))

  takes : (what : Told) → Keeps (taken what)
  takes Told.Time a s = s
  takes (Told.Packet bytes from) a s = hears_by bytes from (fault_of bytes) a s
  takes Told.Look a s = as_is a (taken Told.Look a) refl refl s
  takes Told.Leave a s = leaves a s

  -- acts -------------------------------------------------------------------------------------------------------

  writes_if : (what : Act) (cause : WriteCause) (plan : Option PlanValue) → Keeps (about_plan what cause plan)
  writes_if act.Write cause (Some plan) a s = as_is a _ refl refl s
  writes_if act.Write cause None a s = s
  writes_if act.Settle cause plan a s = as_is a _ refl refl s
  writes_if act.Wait cause plan a s = s
  writes_if act.Poll cause plan a s = s
  writes_if act.Announce cause plan a s = s
  writes_if act.Sweep cause plan a s = s
  writes_if act.Rediscover cause plan a s = s
  writes_if act.HandOver cause plan a s = s
  writes_if act.Yield cause plan a s = s
  writes_if act.Judge cause plan a s = s

  notes_unplanned : (plan : Option PlanValue) → Keeps (noted_unplanned plan)
  notes_unplanned None a s = as_is a _ refl refl s
  notes_unplanned (Some plan) a s = s

  does : (what : Act) → Keeps (done_by what)
  does act.Wait a s = s
  does act.Poll a s = as_is a _ refl refl s
  does act.Announce a s = as_is a _ refl refl s
  does act.Sweep a s = as_is a _ refl refl s
  does act.Rediscover a s = as_is a _ refl refl s
  does act.HandOver a s = as_is a _ refl refl s
  does act.Yield a s = as_is a _ refl refl s
  does act.Judge a s =
      let plan = planned a.manager in
      let d = judged a.time (comparison_of a.kept plan) a.reads.ports a.policy in
      let cause = cause_of (comparison_of a.kept plan) a.reads.ports a.policy in
      writes_if d.act cause plan (record (noted_unplanned plan a) { policy = d.policy })
      (as_is (noted_unplanned plan a) _ refl refl (notes_unplanned plan a s))
  does act.Write a s = s
  does act.Settle a s = s

  decides : (d : Decision) → Keeps (decided d)
  decides d a s = does d.act (record a { policy = d.policy }) (as_is a _ refl refl s)

  acts_in : (what : Activity) → Keeps (acted_in what)
  acts_in activity.Rests a s = decides (rested a.time a.policy) a s
  acts_in activity.Sweeps a s =
      decides (swept a.time (is_whole a.manager) (rival_seen a.manager) a.policy) (noted (Swept (is_whole a.manager)) a) (as_is a _ refl refl s)
  acts_in activity.Writes a s =
      decides (wrote a.time (is_written a.manager) a.policy) (noted (Wrote (is_written a.manager)) a) (as_is a _ refl refl s)
  acts_in activity.Hands a s = as_is a _ refl refl s

  leaves_in : (what : Activity) → Keeps (left_in what)
  leaves_in activity.Rests a s = s
  leaves_in activity.Sweeps a s = as_is a _ refl refl s
  leaves_in activity.Writes a s = s
  leaves_in activity.Hands a s = as_is a _ refl refl s

  acts : Keeps acted
  acts a s =
      cond_both a.is_leaving (left_in a.policy.activity a) (acted_in a.policy.activity a) IsSoon (λ _. leaves_in a.policy.activity a s)
      (λ _. acts_in a.policy.activity a s)

  acts_if_idle : Keeps acted_if_idle
  acts_if_idle a s = cond_both (is_idle a.window) (caught_up (acted a)) a IsSoon (λ _. catches_up (acted a) (acts a s)) (λ _. s)

  -- once the time is told
  line_soon : (line : Line) (a : Acting) → IsSoon (told_time line.0 a) → IsSoon (after_line line a)
  line_soon line a s =
      let b = taken line.1 (told_time line.0 a) in
      let stop = stops (caught_up b) (catches_up b (takes line.1 (told_time line.0 a) s)) in
      let x = before_deciding line a in
      let ready = catches_up (all_overdue (stopped (caught_up b))) (all_end (stopped (caught_up b)) stop) in
      as_is (sent (acted_if_idle x)) (after_line line a) refl refl (sends (acted_if_idle x) (acts_if_idle x ready))

-- the time moves on -------------------------------------------------------------------------------------------

near_later : (limits : Limits) (t u : ℕ) (outs : List Out) → t ≤ u → AllByRecursion (IsNear limits t) outs → AllByRecursion (IsNear limits u) outs
near_later limits t u [] more all = tt
near_later limits t u (out ∷ outs) more all = (let near = all.0 in omega (arith, more, near), near_later limits t u outs more all.1)

pub a_line_soon : (limits : Limits) (line : Line) (a : Acting) → IsSoon limits a.time a → IsSoon limits (max line.0 a.time) (after_line line a)
a_line_soon limits line a s =
    let now = max line.0 a.time in
    let outs = near_later limits a.time now a.window.outs (omega arith) s.outs in
    line_soon limits now line a
    (cond_both (stood_still a.time now (wake_of a)) (paused_until now a) (record a { time = now }) (IsSoon limits now)
    (λ _. record { same = s.same; time = refl; outs = outs }) (λ _. record { same = s.same; time = refl; outs = outs }))

pub lines_soon : (limits : Limits) (lines : List Line) (a : Acting) → IsSoon limits a.time a → IsSoon limits (after_lines lines a).time (after_lines lines a)
lines_soon limits [] a s = s
lines_soon limits (line ∷ lines) a s =
    let b = after_line line a in
    let next = a_line_soon limits line a s in
    lines_soon limits lines b (subst (λ (t : ℕ). IsSoon limits t b) (sym next.time) next)

pub has_soon : (a : Acting) → HasDecided a → IsSoon a.window.limits a.time a
has_soon a h =
    let first = new_acting (new_manager h.port_guid h.port h.priority h.conduct h.planning) h.timing h.limits h.newest in
    let s = subst (λ (b : Acting). IsSoon h.limits b.time b) h.are (lines_soon h.limits h.lines first (record { same = refl; time = refl; outs = tt })) in
    subst (λ (l : Limits). IsSoon l a.time a) (sym s.same) s
