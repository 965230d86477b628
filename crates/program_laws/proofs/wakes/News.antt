-- What becomes of the policy of a manager that decides by itself is what some news make of it, at times that do not fall.
-- So the manager always asks for a time.
use Rattle.std.proofs.Common.{◌≡◌, ◌∙◌, ℕ, zero, suc, ◌+◌, ◌*◌, ◌<◌, ◌≤◌, ◌^◌, Bool, true, false, cond, ◌&&◌, List, [], ◌∷◌, ◌++◌, length, refl, sym, ap, subst, arith}
use Rattle.std.proofs.lemmas.Bool.{cond_both, cond-true, cond-false}
use Rattle.std.specs.Prelude.{Option, Some, None, is_none, max}
use Rattle.smp_bytes.specs.Packet.{fault_of, is_response}
use Rattle.smp_bytes.specs.declared.smp_fault.SmpFault.{SmpFault}
use Rattle.lft_blocks.specs.Plan.{PlanValue}
use Rattle.sm_manager.specs.CallLists.{Call, after_call}
use Rattle.sm_manager.specs.Election.{handover_fault, poll_fault, yield_fault}
use Rattle.sm_manager.specs.Manager.{begin_fault, new_manager}
use Rattle.sm_manager.specs.Packets.{after_packet}
use Rattle.sm_manager.specs.PlanFaults.{writing_fault}
use Rattle.sm_manager.specs.Writing.{is_written}
use Rattle.sm_manager.specs.declared.outgoing.Outgoing.{Outgoing}
use Rattle.sm_policy.specs.Judged.{cause_of, failed, judged, wrote}
use Rattle.sm_policy.specs.Policy.{is_master, is_sweeping, later_by, new_policy, polled, taken_over, wanting}
use Rattle.sm_policy.specs.PolicyLaws as news
use Rattle.sm_policy.specs.PolicyLaws.{IsDueBy, News, Rise, after_news, longest_wait}
use Rattle.sm_policy.specs.Resting.{due_in, rest_due, rested}
use Rattle.sm_policy.specs.Swept.{swept}
use Rattle.sm_policy.specs.declared.act.Act.{Act}
use Rattle.sm_policy.specs.declared.act.Act.TheVariants as act
use Rattle.sm_policy.specs.declared.activity.Activity.{Activity}
use Rattle.sm_policy.specs.declared.activity.Activity.TheVariants as activity
use Rattle.sm_policy.specs.declared.policy.Policy.{Policy}
use Rattle.sm_policy.specs.declared.timing.Timing.{Timing}
use Rattle.sm_policy.specs.declared.write_cause.WriteCause.{WriteCause}
use Rattle.sm_policy.proofs.Prompt.{never_waits_long}
use Rattle.request_window.specs.Window.{after_answer, after_drop_out, after_drop_queued, after_overdue, after_send, late_in}
use Rattle.request_window.specs.declared.limits.Limits.{Limits}
use Rattle.request_window.specs.declared.late.Late.{Late}
use Rattle.request_window.specs.declared.late.Late.TheVariants.{Again, GivenUp}
use Rattle.acting_manager.specs.Acting.{Acting, caught_up, collected, entered, looked, new_acting, noted}
use Rattle.acting_manager.specs.Acts.{about_plan, acted, acted_in, done_by, floor_raised, is_whole, left_in, noted_unplanned, rival_seen}
use Rattle.acting_manager.specs.Heard.{answered, answers_poll, asked, given_up, handed_in, hands_over, heard_by, requested, responded, says_master, tells_change, told}
use Rattle.acting_manager.specs.Planned.{comparison_of, planned}
use Rattle.acting_manager.specs.Working.{Told, acted_if_idle, all_overdue, all_sent, dropped, dropped_one, is_given_up, is_idle, is_resting, late_done, leaving}
use Rattle.acting_manager.specs.Working.{not_before, one_overdue, one_sent, out_dropped, paused_until, queued_dropped, repeated, sent, sent_one, stood_still}
use Rattle.acting_manager.specs.Working.{stopped, taken, told_time, wake_in, wake_of, yielding_at_once}
use Rattle.acting_manager.specs.declared.note.Note.TheVariants.{Swept, Wrote}
use Rattle.program_laws.specs.AlwaysAsks.{AlwaysAsks, AsksWithin, longest_sleep}
use Rattle.program_laws.specs.Wakes.{HasDecided, Line, after_line, after_lines, before_deciding}
use Rattle.program_laws.proofs.wakes.Empties.{first_due}
use Rattle.program_laws.proofs.wakes.InTime.{IsSoon, a_line_soon, has_soon}
use Rattle.program_laws.proofs.wakes.Sending.{due_wake}
use Rattle.program_laws.proofs.wakes.Settled.{has_settled}

-- news in a row -------------------------------------------------------------------------------------------

rise_more : (since : ℕ) (told : news.Told) (until later : ℕ) → until ≤ later → later < 2 ^ 64 → Rise since told until → Rise since told later
rise_more since [] until later less few r = let first = r.0 in (omega (arith, first, less), few)
rise_more since (x ∷ told) until later less few r = (r.0, rise_more x.0 told until later less few r.1)

pub rise_behind : (since : ℕ) (told : news.Told) (until : ℕ) (n : News) → Rise since told until → Rise since (told ++ (until, n) ∷ []) until
rise_behind since [] until n r = (r.0, (omega arith, r.1))
rise_behind since (x ∷ told) until n r = (r.0, rise_behind x.0 told until n r.1)

pub after_behind : (told more : news.Told) (p : Policy) → news.after_told (told ++ more) p ≡ news.after_told more (news.after_told told p)
after_behind [] more p = refl
after_behind (x ∷ told) more p = after_behind told more (after_news x.0 x.1 p)

module _ (timing : Timing) where
  -- the policy is what some news make of a new one, until now
  pub record HasNews (a : Acting) : Type 0 where
    pub told : news.Told
    pub rise : Rise 0 told a.time
    pub are : news.after_told told (new_policy timing) ≡ a.policy

  as_is : (a b : Acting) → b.policy ≡ a.policy → b.time ≡ a.time → HasNews a → HasNews b
  as_is a b policy time h = record { told = h.told; rise = subst (Rise 0 h.told) (sym time) h.rise; are = h.are ∙ sym policy }

  -- one more
  hears : (a b : Acting) (n : News) → b.policy ≡ after_news a.time n a.policy → b.time ≡ a.time → HasNews a → HasNews b
  hears a b n policy time h =
      record {
        told = h.told ++ (a.time, n) ∷ [];
        rise = subst (Rise 0 (h.told ++ (a.time, n) ∷ [])) (sym time) (rise_behind 0 h.told a.time n h.rise);
        are = after_behind h.told ((a.time, n) ∷ []) (new_policy timing) ∙ ap (after_news a.time n) h.are ∙ sym policy;
      }

  abbrev Keeps : (Acting → Acting) → Type 0
  Keeps step = (a : Acting) → HasNews a → HasNews (step a)

  repeats : (n : ℕ) (step : Acting → Acting) → Keeps step → Keeps (repeated n step)
  repeats zero step each a h = h
  repeats (suc n) step each a h = each (repeated n step a) (repeats n step each a h)

  collects : Keeps collected
  collects a h = as_is a (collected a) refl refl h

  looks : Keeps looked
  looks a h =
      cond_both _ a (entered a.manager.standing.state a) HasNews (λ _. h)
      (λ _. hears a (entered a.manager.standing.state a) (news.Moved a.manager.standing.state) refl refl h)

  catches_up : Keeps caught_up
  catches_up a h = looks (collected a) (collects a h)

  -- requests that are late, are dropped, or go out, are no news --------------------------------------------

  ends_late : (late : Option Late) → Keeps (late_done late)
  ends_late None a h = h
  ends_late (Some (Again request)) a h = as_is a _ refl refl h
  ends_late (Some (GivenUp request)) a h = as_is a _ refl refl h

  overdue : Keeps one_overdue
  overdue a h =
      let b = record a { window = after_overdue a.time a.window } in
      ends_late (late_in a.window.limits a.time a.window.outs).late b (as_is a b refl refl h)

  all_end : Keeps all_overdue
  all_end a h = repeats (length a.window.outs) one_overdue overdue a h

  drops_one : (request : Option Outgoing) → Keeps (dropped_one request)
  drops_one None a h = h
  drops_one (Some request) a h = as_is a _ refl refl h

  drops_queued : Keeps queued_dropped
  drops_queued a h =
      let b = record a { window = (after_drop_queued a.window).window } in
      drops_one (after_drop_queued a.window).request b (as_is a b refl refl h)

  drops_out : Keeps out_dropped
  drops_out a h =
      let b = record a { window = (after_drop_out a.window).window } in
      drops_one (after_drop_out a.window).request b (as_is a b refl refl h)

  drops : Keeps dropped
  drops a h =
      let unqueued = repeated (length a.window.queued) queued_dropped a in
      repeats (length unqueued.window.outs) out_dropped drops_out unqueued (repeats (length a.window.queued) queued_dropped drops_queued a h)

  stops : Keeps stopped
  stops a h = cond_both (is_given_up a) (collected (dropped a)) a HasNews (λ _. collects (dropped a) (drops a h)) (λ _. h)

  sends_it : (request : Option Outgoing) → Keeps (sent_one request)
  sends_it None a h = h
  sends_it (Some request) a h = as_is a _ refl refl h

  sends_one : Keeps one_sent
  sends_one a h =
      let b = record a { window = (after_send a.time a.window).window } in
      sends_it (after_send a.time a.window).request b (as_is a b refl refl h)

  sends : Keeps sent
  sends a h = cond_both (is_given_up a) a (all_sent a) HasNews (λ _. h) (λ _. repeats a.window.limits.outstanding one_sent sends_one a h)

  -- packets ---------------------------------------------------------------------------------------------------

  tells : (packet : List ℕ) → Keeps (told packet)
  tells packet a h = by (answers_poll packet)
    where
      by : (b : Bool) → HasNews (record (told packet a) { policy = cond b (polled (says_master packet) a.policy) a.policy })
      by true = hears a _ (news.Polled (says_master packet)) refl refl h
      by false = as_is a _ refl refl h

  hands_in : (request : Outgoing) (packet : List ℕ) (is_taken : Bool) → Keeps (handed_in request packet is_taken)
  hands_in request packet is_taken a h =
      cond_both is_taken (told packet a) (given_up request a) HasNews (λ _. tells packet a h) (λ _. as_is a (given_up request a) refl refl h)

  answers_it : (request : Option Outgoing) (packet : List ℕ) (from : Option ℕ) → Keeps (answered request packet from)
  answers_it None packet from a h = h
  answers_it (Some request) packet from a h =
      let b = record a { manager = after_call a.manager (Call.Packet packet from) } in
      hands_in request packet (is_none (after_packet a.manager packet from).fault) b (as_is a b refl refl h)

  requests : (packet : List ℕ) (from : Option ℕ) → Keeps (requested packet from)
  requests packet from a h = by (tells_change packet) (hands_over packet && is_master a.manager.standing.state)
    where
      by : (change taken : Bool)
          → HasNews (record (requested packet from a) { policy = cond change (wanting a.policy) (cond taken (taken_over a.policy) a.policy) })
      by true taken = hears a _ news.Wanted refl refl h
      by false true = hears a _ news.TakenOver refl refl h
      by false false = as_is a _ refl refl h

  hears_by : (packet : List ℕ) (from : Option ℕ) (fault : Option SmpFault) → Keeps (heard_by packet from fault)
  hears_by packet from (Some why) a h = h
  hears_by packet from None a h =
      let b = record a { window = (after_answer packet a.window).window } in
      cond_both (is_response packet) (responded packet from a) (asked packet from a) HasNews
      (λ _. answers_it (after_answer packet a.window).request packet from b (as_is a b refl refl h))
      (λ _. cond_both (a.is_leaving && hands_over packet) a (requested packet from a) HasNews (λ _. h) (λ _. requests packet from a h))

  leaves : Keeps leaving
  leaves a h =
      cond_both a.is_leaving a _ HasNews (λ _. h)
      (λ _. cond_both (is_sweeping a.policy.activity) _ (yielding_at_once (record a { is_leaving = true })) HasNews (λ _. as_is a _ refl refl h)
      (λ _. hears a _ (news.Handing (is_none (yield_fault a.manager))) refl refl h))

  takes : (what : Told) → Keeps (taken what)
  takes Told.Time a h = h
  takes (Told.Packet bytes from) a h = hears_by bytes from (fault_of bytes) a h
  takes Told.Look a h = hears a (taken Told.Look a) news.Wanted refl refl h
  takes Told.Leave a h = leaves a h

  -- acts ------------------------------------------------------------------------------------------------------------

  writes_if : (what : Act) (cause : WriteCause) (plan : Option PlanValue) → Keeps (about_plan what cause plan)
  writes_if act.Write cause (Some plan) a h = hears a _ (news.Writing (is_none (writing_fault a.manager))) refl refl h
  writes_if act.Write cause None a h = h
  writes_if act.Settle cause plan a h = hears a _ (news.Handing (is_none (handover_fault a.manager))) refl refl h
  writes_if act.Wait cause plan a h = h
  writes_if act.Poll cause plan a h = h
  writes_if act.Announce cause plan a h = h
  writes_if act.Sweep cause plan a h = h
  writes_if act.Rediscover cause plan a h = h
  writes_if act.HandOver cause plan a h = h
  writes_if act.Yield cause plan a h = h
  writes_if act.Judge cause plan a h = h

  unplanned_policy : (plan : Option PlanValue) (a : Acting) → (noted_unplanned plan a).policy ≡ a.policy
  unplanned_policy None a = refl
  unplanned_policy (Some plan) a = refl

  unplanned_time : (plan : Option PlanValue) (a : Acting) → (noted_unplanned plan a).time ≡ a.time
  unplanned_time None a = refl
  unplanned_time (Some plan) a = refl

  polls : Keeps (done_by act.Poll)
  polls a h = by (is_none (poll_fault a.manager None))
    where
      by : (b : Bool) → HasNews (record a { manager = after_call a.manager (Call.Poll None); policy = cond b a.policy (polled false a.policy) })
      by true = as_is a _ refl refl h
      by false = hears a _ (news.Polled false) refl refl h

  sweeps : Keeps (done_by act.Sweep)
  sweeps a h = by (is_none (begin_fault (floor_raised a).manager))
    where
      by : (b : Bool) → HasNews (record (done_by act.Sweep a) { policy = cond b a.policy (failed a.time a.policy) })
      by true = as_is a _ refl refl h
      by false = hears a _ (news.Writing false) refl refl h

  does : (what : Act) → Keeps (done_by what)
  does act.Wait a h = h
  does act.Poll a h = polls a h
  does act.Announce a h = as_is a _ refl refl h
  does act.Sweep a h = sweeps a h
  does act.Rediscover a h = as_is a _ refl refl h
  does act.HandOver a h = hears a _ (news.Handing (is_none (handover_fault a.manager))) refl refl h
  does act.Yield a h = hears a _ (news.Handing (is_none (yield_fault a.manager))) refl refl h
  does act.Judge a h =
      let plan = planned a.manager in
      let d = judged a.time (comparison_of a.kept plan) a.reads.ports a.policy in
      let cause = cause_of (comparison_of a.kept plan) a.reads.ports a.policy in
      writes_if d.act cause plan (record (noted_unplanned plan a) { policy = d.policy })
      (hears a (record (noted_unplanned plan a) { policy = d.policy }) (news.Judged (comparison_of a.kept plan) a.reads.ports) refl (unplanned_time plan a) h)
  does act.Write a h = h
  does act.Settle a h = h

  acts_in : (what : Activity) → Keeps (acted_in what)
  acts_in activity.Rests a h =
      let d = rested a.time a.policy in
      does d.act (record a { policy = d.policy }) (hears a (record a { policy = d.policy }) news.Rested refl refl h)
  acts_in activity.Sweeps a h =
      let d = swept a.time (is_whole a.manager) (rival_seen a.manager) a.policy in
      let b = record (noted (Swept (is_whole a.manager)) a) { policy = d.policy } in
      does d.act b (hears a b (news.Swept (is_whole a.manager) (rival_seen a.manager)) refl refl h)
  acts_in activity.Writes a h =
      let d = wrote a.time (is_written a.manager) a.policy in
      let b = record (noted (Wrote (is_written a.manager)) a) { policy = d.policy } in
      does d.act b (hears a b (news.Wrote (is_written a.manager)) refl refl h)
  acts_in activity.Hands a h = hears a _ news.Handed refl refl h

  leaves_in : (what : Activity) → Keeps (left_in what)
  leaves_in activity.Rests a h = h
  leaves_in activity.Sweeps a h = hears a _ (news.Handing (is_none (yield_fault a.manager))) refl refl h
  leaves_in activity.Writes a h = h
  leaves_in activity.Hands a h = hears a _ news.Handed refl refl h

  acts : Keeps acted
  acts a h =
      cond_both a.is_leaving (left_in a.policy.activity a) (acted_in a.policy.activity a) HasNews (λ _. leaves_in a.policy.activity a h)
      (λ _. acts_in a.policy.activity a h)

  acts_if_idle : Keeps acted_if_idle
  acts_if_idle a h = cond_both (is_idle a.window) (caught_up (acted a)) a HasNews (λ _. catches_up (acted a) (acts a h)) (λ _. h)

  -- lines --------------------------------------------------------------------------------------------------------

  tells_time : (time : ℕ) (a : Acting) → max time a.time < 2 ^ 64 → HasNews a → HasNews (told_time time a)
  tells_time time a few h =
      let now = max time a.time in
      let moved : HasNews (record a { time = now }) =
      record { told = h.told; rise = rise_more 0 h.told a.time now (omega arith) few h.rise; are = h.are } in
      cond_both (stood_still a.time now (wake_of a)) (paused_until now a) (record a { time = now }) HasNews
      (λ _. hears (record a { time = now }) (paused_until now a) news.Resumed refl refl moved) (λ _. moved)

  a_line : (line : Line) (a : Acting) → max line.0 a.time < 2 ^ 64 → HasNews a → HasNews (after_line line a)
  a_line line a few h =
      let b = taken line.1 (told_time line.0 a) in
      let stop = stops (caught_up b) (catches_up b (takes line.1 (told_time line.0 a) (tells_time line.0 a few h))) in
      let x = before_deciding line a in
      let ready = catches_up (all_overdue (stopped (caught_up b))) (all_end (stopped (caught_up b)) stop) in
      as_is (sent (acted_if_idle x)) (after_line line a) refl refl (sends (acted_if_idle x) (acts_if_idle x ready))

-- numbers ---------------------------------------------------------------------------------------------------------

within : (time now wait turn : ℕ) → time ≤ later_by wait now → time ≤ now + max wait turn
within time now wait turn h = omega (arith, h)

in_turn : (time now wait turn : ℕ) → time ≤ now + turn → time ≤ now + max wait turn
in_turn time now wait turn h = omega (arith, h)

-- lines in a row --------------------------------------------------------------------------------------------------

pub times_rise : (limits : Limits) (lines : List Line) (a : Acting) → IsSoon limits a.time a → a.time ≤ (after_lines lines a).time
times_rise limits [] a s = omega arith
times_rise limits (line ∷ lines) a s =
    let b = after_line line a in
    let next = a_line_soon limits line a s in
    let later = times_rise limits lines b (subst (λ (t : ℕ). IsSoon limits t b) (sym next.time) next) in
    let now = next.time in
    omega (arith, later, now)

all_news : (timing : Timing) (limits : Limits) (lines : List Line) (a : Acting) → IsSoon limits a.time a → (after_lines lines a).time < 2 ^ 64
    → HasNews timing a
    → HasNews timing (after_lines lines a)
all_news timing limits [] a s few h = h
all_news timing limits (line ∷ lines) a s few h =
    let b = after_line line a in
    let next = a_line_soon limits line a s in
    let soon = subst (λ (t : ℕ). IsSoon limits t b) (sym next.time) next in
    let later = times_rise limits lines b soon in
    let now = next.time in
    all_news timing limits lines b soon few (a_line timing line a (omega (arith, later, now, few)) h)

pub has_news : (a : Acting) (h : HasDecided a) → a.time < 2 ^ 64 → HasNews h.timing a
has_news a h few =
    let first = new_acting (new_manager h.port_guid h.port h.priority h.conduct h.planning) h.timing h.limits h.newest in
    subst (HasNews h.timing) h.are
    (all_news h.timing h.limits h.lines first (record { same = refl; time = refl; outs = tt })
    (subst (λ (b : Acting). b.time < 2 ^ 64) (sym h.are) few) (record { told = []; rise = (omega arith, omega arith); are = refl }))

-- asking for a time -------------------------------------------------------------------------------------------------

-- a time that is asked for at once, or in so long
asks_in : (sleep : ℕ) (a : Acting) (time : ℕ) → a.is_leaving ≡ false → wake_in a ≡ Some time → time ≤ a.time + sleep → AsksWithin sleep a
asks_in sleep a time stays_on e soon =
    record {
      wake = max time a.time;
      is = cond-false (a.is_leaving && is_resting a.policy.activity) _ _ (ap (λ b. b && is_resting a.policy.activity) stays_on)
          ∙ ap (not_before a.time) e;
      not_past = omega arith;
      soon = omega (arith, soon);
    }

pub always_asks : AlwaysAsks
always_asks a h room stays_on few active = by_idle (is_idle a.window) refl
  where
    sleep : ℕ
    sleep = longest_sleep h.timing a.window.limits

    policy : HasNews h.timing a
    policy = has_news a h few

    -- what is due while it rests
    due : IsDueBy (later_by (longest_wait h.timing) a.time) (rest_due a.policy)
    due =
        subst (λ (p : Policy). IsDueBy (later_by (longest_wait h.timing) a.time) (rest_due p)) policy.are
        (never_waits_long h.timing policy.told a.time policy.rise (λ is. active (sym (ap (λ (p : Policy). p.state) policy.are) ∙ is)))

    rests : (o : Option ℕ) → IsDueBy (later_by (longest_wait h.timing) a.time) o → wake_in a ≡ o → AsksWithin sleep a
    rests None none e = absurd none
    rests (Some time) by e = asks_in sleep a time stays_on e (soon_enough time by)
      where
        soon_enough : (time : ℕ) → time ≤ later_by (longest_wait h.timing) a.time → time ≤ a.time + longest_sleep h.timing a.window.limits
        soon_enough time by = within time a.time (longest_wait h.timing) (3 * a.window.limits.timeout) by

    by_activity : (what : Activity) → a.policy.activity ≡ what → wake_in a ≡ due_in a.policy.activity a.time a.policy → AsksWithin sleep a
    by_activity activity.Rests e is = rests (rest_due a.policy) due (is ∙ ap (λ w. due_in w a.time a.policy) e)
    by_activity activity.Sweeps e is = asks_in sleep a a.time stays_on (is ∙ ap (λ w. due_in w a.time a.policy) e) (omega arith)
    by_activity activity.Writes e is = asks_in sleep a a.time stays_on (is ∙ ap (λ w. due_in w a.time a.policy) e) (omega arith)
    by_activity activity.Hands e is = asks_in sleep a a.time stays_on (is ∙ ap (λ w. due_in w a.time a.policy) e) (omega arith)

    by_given_up : is_idle a.window ≡ true → (b : Bool) → is_given_up a ≡ b → AsksWithin sleep a
    by_given_up idle true up = asks_in sleep a a.time stays_on (cond-true (is_given_up a) _ _ up) (omega arith)
    by_given_up idle false down =
        by_activity a.policy.activity refl (cond-false (is_given_up a) _ _ down ∙ cond-true (is_idle a.window) _ _ idle)

    by_idle : (b : Bool) → is_idle a.window ≡ b → AsksWithin sleep a
    by_idle true idle = by_given_up idle (is_given_up a) refl
    by_idle false busy =
        let settled = has_settled a h in
        let asks = settled.asks stays_on busy room in
        let soon = due_wake (a.time + 3 * a.window.limits.timeout) a (first_due a (has_soon a h) (settled.out stays_on busy room)) stays_on busy
        asks.wake asks.is in
        record {
          wake = asks.wake;
          is = asks.is;
          not_past = asks.not_past;
          soon = in_turn asks.wake a.time (longest_wait h.timing) (3 * a.window.limits.timeout) soon;
        }
