-- A manager that sweeps has requests, and gets on with them.
use Rattle.std.proofs.Common.{◌≡◌, ◌∙◌, ◌⊎◌, inl, inr, ℕ, zero, suc, ◌≤◌, Bool, true, false, cond, List, [], ◌∷◌, ◌++◌, length, replicate, refl, sym, ap, subst, arith}
use Rattle.std.proofs.lemmas.Bool.{cond_both, cond-true, cond-false}
use Rattle.std.proofs.lemmas.List.{length-append}
use Rattle.std.specs.Prelude.{Option, Some, None, filter, is_none, nat_lt}
use Rattle.smp_bytes.specs.Header.{get, node_info}
use Rattle.lft_blocks.specs.Plan.{PlanValue}
use Rattle.sweep.specs.Sweep.{packet_of, transaction_of}
use Rattle.sweep.specs.declared.question.Question.TheVariants as ask
use Rattle.reply_facts.specs.declared.report.Context.TheVariants.{Start}
use Rattle.sm_manager.specs.CallLists.{Call, after_call}
use Rattle.sm_manager.specs.Election.{poll_fault}
use Rattle.sm_manager.specs.Manager.{Manager, after_begin_sweep, begin_fault, new_manager, next_generation}
use Rattle.sm_manager.specs.Writing.{is_written}
use Rattle.sm_manager.specs.declared.fault.ManagerFault.{ManagerFault}
use Rattle.sm_manager.specs.declared.outgoing.Outgoing.{Outgoing}
use Rattle.sm_policy.specs.Judged.{failed, wrote}
use Rattle.sm_policy.specs.Policy.{announced_every, is_sweeping, later_by, still}
use Rattle.sm_policy.specs.Resting.{call_due, is_due, poll_due, rested, sweep_due, sweeping}
use Rattle.sm_policy.specs.declared.act.Act.{Act}
use Rattle.sm_policy.specs.declared.act.Act.TheVariants as act
use Rattle.sm_policy.specs.declared.activity.Activity.{Activity}
use Rattle.sm_policy.specs.declared.activity.Activity.TheVariants as activity
use Rattle.sm_policy.specs.declared.policy.Policy.{Policy}
use Rattle.sm_policy.specs.declared.write_cause.WriteCause.{WriteCause}
use Rattle.request_window.specs.declared.out.Out.{Out}
use Rattle.request_window.specs.Window.{Given, Window, after_send, out_at, sent_of}
use Rattle.acting_manager.specs.Acting.{Acting, caught_up, collected, is_request, looked, new_acting}
use Rattle.acting_manager.specs.Acts.{about_plan, acted, acted_in, decided, done_by, floor_raised, left_in, noted_unplanned}
use Rattle.acting_manager.specs.Planned.{planned}
use Rattle.acting_manager.specs.Working.{acted_if_idle, all_sent, are_none, is_given_up, is_idle, one_sent, repeated, sent}
use Rattle.program_laws.specs.ManagedEnds.{ManagedSweepsEnd}
use Rattle.program_laws.specs.Wakes.{HasDecided, Line, after_line, after_lines, before_deciding}
use Rattle.manager_laws.proofs.writing_ends.Headers.{directed_method}
use Rattle.program_laws.proofs.wakes.Deciding.{caught_about, sent_about, sweep_past, sweeping_gets_on, writing_past}
use Rattle.program_laws.proofs.wakes.Requests.{gets}
use Rattle.program_laws.proofs.wakes.Sending.{busy_out, only_sends, sent_window}
use Rattle.program_laws.proofs.wakes.Waking.{looked_window}

-- sending leaves requests ---------------------------------------------------------------------------------

sent_busy : (time : ℕ) (w : Window) (queue : List Outgoing) → is_idle w ≡ false → is_idle (sent_of time w queue).window ≡ false
sent_busy time w [] busy = busy
sent_busy time w (request ∷ rest) busy =
    let out = out_at w.limits time 1 request in
    let long = length-append w.outs (out ∷ []) in
    cond_both (nat_lt (length w.outs) w.limits.outstanding) (record { window = record w { queued = rest; outs = w.outs ++ out ∷ [] }; request = Some request })
    (record { window = w; request = None }) (λ (g : Given). is_idle g.window ≡ false)
    (λ _. busy_out rest (w.outs ++ out ∷ []) (omega (arith, long))) (λ _. busy)

all_busy : (n : ℕ) (a : Acting) → is_idle a.window ≡ false → is_idle (repeated n one_sent a).window ≡ false
all_busy zero a busy = busy
all_busy (suc n) a busy =
    let b = repeated n one_sent a in
    ap is_idle (sent_window (after_send b.time b.window).request (record b { window = (after_send b.time b.window).window }))
    ∙ sent_busy b.time b.window b.window.queued (all_busy n a busy)

sends_busy : (a : Acting) → is_idle a.window ≡ false → is_idle (sent a).window ≡ false
sends_busy a busy =
    cond_both (is_given_up a) a (all_sent a) (λ (b : Acting). is_idle b.window ≡ false) (λ _. busy) (λ _. all_busy a.window.limits.outstanding a busy)

-- a sweep that begins has a request ---------------------------------------------------------------------------

first_asks : (g : ℕ) → is_request (record { packet = packet_of g (record { number = 1; question = ask.Node; path = []; context = Start }); to = None }) ≡ true
first_asks g =
    gets (record { packet = packet_of g (record { number = 1; question = ask.Node; path = []; context = Start }); to = None })
    (directed_method get node_info 0 (transaction_of g 1) [] (replicate 64 0) (omega arith))

some_behind : (xs : List Outgoing) (out : Outgoing) → is_request out ≡ true → 1 ≤ length (filter is_request (xs ++ out ∷ []))
some_behind [] out e =
    let one : length (filter is_request (out ∷ [])) ≡ 1 = ap length (cond-true (is_request out) (out ∷ []) [] e) in omega (arith, one)
some_behind (x ∷ xs) out e =
    let rest = some_behind xs out e in
    cond_both (is_request x) (x ∷ filter is_request (xs ++ out ∷ [])) (filter is_request (xs ++ out ∷ [])) (λ (ys : List Outgoing). 1 ≤ length ys)
    (λ _. omega (arith, rest)) (λ _. rest)

queued_busy : (queue more : List Outgoing) (outs : List Out) → 1 ≤ length more → are_none (queue ++ more) outs ≡ false
queued_busy [] [] outs some = absurd (omega (arith, some))
queued_busy [] (x ∷ more) outs some = refl
queued_busy (x ∷ queue) more outs some = refl

-- what the manager has just queued
begun_busy : (a : Acting) → 1 ≤ length (filter is_request a.manager.outgoing) → is_idle (caught_up a).window ≡ false
begun_busy a some = ap is_idle (looked_window (collected a)) ∙ queued_busy a.window.queued (filter is_request a.manager.outgoing) a.window.outs some

-- a manager that decides ---------------------------------------------------------------------------------------

-- it does not sweep, or has requests
abbrev IsFine : Acting → Type 0
IsFine a = (is_sweeping a.policy.activity ≡ false) ⊎ (is_idle (caught_up a).window ≡ false)

begins_fine : (a : Acting) → IsFine (done_by act.Sweep a)
begins_fine a = by_fault (begin_fault fr) refl
  where
    fr : Manager
    fr = (floor_raised a).manager

    by_fault : (o : Option ManagerFault) → begin_fault fr ≡ o → IsFine (done_by act.Sweep a)
    by_fault (Some why) e =
        inl (ap (λ b. is_sweeping ((cond b a.policy (failed a.time a.policy)).activity)) (ap is_none e))
    by_fault None e =
        let queued : after_call fr Call.BeginSweep ≡ after_begin_sweep fr = cond-true (is_none (begin_fault fr)) (after_begin_sweep fr) fr (ap is_none e) in
        inr (begun_busy (done_by act.Sweep a)
        (subst (λ (m : Manager). 1 ≤ length (filter is_request m.outgoing)) (sym queued)
        (some_behind fr.outgoing _ (first_asks (next_generation fr.store)))))

-- while it rests it sweeps only if a sweep begins
rested_fine : (a : Acting) → a.policy.activity ≡ activity.Rests → IsFine (decided (rested a.time a.policy) a)
rested_fine a rests = by_due (is_due a.time (poll_due a.policy)) (is_due a.time (call_due a.policy)) (is_due a.time (sweep_due a.policy))
  where
    quiet : is_sweeping a.policy.activity ≡ false
    quiet = ap is_sweeping rests

    by_due : (poll call sweep : Bool) → IsFine (decided (cond poll (record { policy = record a.policy { next_poll = later_by a.policy.timing.poll a.time }; act = act.Poll })
        (cond call (record { policy = record a.policy { next_call = later_by announced_every a.time }; act = act.Announce })
        (cond sweep (record { policy = sweeping a.time a.policy; act = act.Sweep }) (still a.policy)))) a)
    by_due true call sweep =
        inl (cond_both (is_none (poll_fault a.manager None)) _ _ (λ (p : Policy). is_sweeping p.activity ≡ false) (λ _. quiet) (λ _. quiet))
    by_due false true sweep = inl quiet
    by_due false false true = begins_fine (record a { policy = sweeping a.time a.policy })
    by_due false false false = inl quiet

acted_fine : (what : Activity) (a : Acting) → a.policy.activity ≡ what → IsFine (acted_in what a)
acted_fine activity.Rests a e = rested_fine a e
acted_fine activity.Sweeps a e = inl (sweep_past is_sweeping refl refl refl a)
acted_fine activity.Writes a e = inl (writing_past is_sweeping refl refl a)
acted_fine activity.Hands a e = inl refl

-- nobody is told to leave by a decision
about_leaving : (what : Act) (cause : WriteCause) (plan : Option PlanValue) (a : Acting) → (about_plan what cause plan a).is_leaving ≡ a.is_leaving
about_leaving act.Write cause (Some plan) a = refl
about_leaving act.Write cause None a = refl
about_leaving act.Settle cause plan a = refl
about_leaving act.Wait cause plan a = refl
about_leaving act.Poll cause plan a = refl
about_leaving act.Announce cause plan a = refl
about_leaving act.Sweep cause plan a = refl
about_leaving act.Rediscover cause plan a = refl
about_leaving act.HandOver cause plan a = refl
about_leaving act.Yield cause plan a = refl
about_leaving act.Judge cause plan a = refl

unplanned_leaving : (plan : Option PlanValue) (a : Acting) → (noted_unplanned plan a).is_leaving ≡ a.is_leaving
unplanned_leaving None a = refl
unplanned_leaving (Some plan) a = refl

done_leaving : (what : Act) (a : Acting) → (done_by what a).is_leaving ≡ a.is_leaving
done_leaving act.Wait a = refl
done_leaving act.Poll a = refl
done_leaving act.Announce a = refl
done_leaving act.Sweep a = refl
done_leaving act.Rediscover a = refl
done_leaving act.HandOver a = refl
done_leaving act.Yield a = refl
done_leaving act.Judge a = about_leaving _ _ (planned a.manager) _ ∙ unplanned_leaving (planned a.manager) a
done_leaving act.Write a = refl
done_leaving act.Settle a = refl

acted_leaving : (what : Activity) (a : Acting) → (acted_in what a).is_leaving ≡ a.is_leaving
acted_leaving activity.Rests a = done_leaving (rested a.time a.policy).act _
acted_leaving activity.Sweeps a = done_leaving _ _
acted_leaving activity.Writes a = done_leaving (wrote a.time (is_written a.manager) a.policy).act _
acted_leaving activity.Hands a = refl

left_leaving : (what : Activity) (a : Acting) → (left_in what a).is_leaving ≡ a.is_leaving
left_leaving activity.Rests a = refl
left_leaving activity.Sweeps a = refl
left_leaving activity.Writes a = refl
left_leaving activity.Hands a = refl

pub looked_leaving : (a : Acting) → (looked a).is_leaving ≡ a.is_leaving
looked_leaving a = cond_both _ a _ (λ (b : Acting). b.is_leaving ≡ a.is_leaving) (λ _. refl) (λ _. refl)

pub acts_leaving : (a : Acting) → (acted a).is_leaving ≡ a.is_leaving
acts_leaving a =
    cond_both a.is_leaving (left_in a.policy.activity a) (acted_in a.policy.activity a) (λ (b : Acting). b.is_leaving ≡ a.is_leaving)
    (λ _. left_leaving a.policy.activity a) (λ _. acted_leaving a.policy.activity a)

-- what a line leaves
line_busy : (line : Line) (a : Acting) → (after_line line a).is_leaving ≡ false → is_sweeping (after_line line a).policy.activity ≡ true
    → is_idle (after_line line a).window ≡ false
line_busy line a stays_on sweeps = sends_busy y (by_idle (is_idle x.window) refl)
  where
    x : Acting
    x = before_deciding line a

    y : Acting
    y = acted_if_idle x

    by_idle : (b : Bool) → is_idle x.window ≡ b → is_idle y.window ≡ false
    by_idle false left = subst (λ (z : Acting). is_idle z.window ≡ false) (sym (cond-false (is_idle x.window) (caught_up (acted x)) x left)) left
    by_idle true idle =
        subst (λ (z : Acting). is_idle z.window ≡ false) (sym decided_is)
        (subst (λ (z : Acting). is_idle (caught_up z).window ≡ false) (sym acted_is) (elim fine [
          | inl quiet ↦
              let wrong : true ≡ false = sym sweeps ∙ ap is_sweeping (sent_about y) ∙ ap (λ (z : Acting). is_sweeping z.policy.activity) decided_is
              ∙ ap is_sweeping (caught_about (acted x)) ∙ ap (λ (z : Acting). is_sweeping z.policy.activity) acted_is ∙ quiet in
              absurd (cc)
          | inr busy ↦ busy
        ]))
      where
        decided_is : y ≡ caught_up (acted x)
        decided_is = cond-true (is_idle x.window) (caught_up (acted x)) x idle

        leaving_is : x.is_leaving ≡ false
        leaving_is =
            sym (acts_leaving x) ∙ sym (looked_leaving (collected (acted x))) ∙ sym (ap (λ (z : Acting). z.is_leaving) decided_is)
            ∙ sym (only_sends y).leaving ∙ stays_on

        acted_is : acted x ≡ acted_in x.policy.activity x
        acted_is = cond-false x.is_leaving (left_in x.policy.activity x) (acted_in x.policy.activity x) leaving_is

        fine : IsFine (acted_in x.policy.activity x)
        fine = acted_fine x.policy.activity x refl

lines_busy : (lines : List Line) (a : Acting)
    → (a.is_leaving ≡ false → is_sweeping a.policy.activity ≡ true → is_idle a.window ≡ false)
    → (after_lines lines a).is_leaving ≡ false → is_sweeping (after_lines lines a).policy.activity ≡ true → is_idle (after_lines lines a).window ≡ false
lines_busy [] a so = so
lines_busy (line ∷ lines) a so = lines_busy lines (after_line line a) (line_busy line a)

sweeps_have_requests : (a : Acting) → HasDecided a → a.is_leaving ≡ false → is_sweeping a.policy.activity ≡ true → is_idle a.window ≡ false
sweeps_have_requests a h =
    subst (λ (b : Acting). b.is_leaving ≡ false → is_sweeping b.policy.activity ≡ true → is_idle b.window ≡ false) h.are
    (lines_busy h.lines (new_acting (new_manager h.port_guid h.port h.priority h.conduct h.planning) h.timing h.limits h.newest)
    (λ stays_on sweeps. absurd (cc)))

pub managed_sweeps_end : ManagedSweepsEnd
managed_sweeps_end a lines h some room stays_on none sweeps goes_on =
    sweeping_gets_on a lines h some room stays_on none (sweeps_have_requests a h stays_on sweeps) sweeps goes_on
