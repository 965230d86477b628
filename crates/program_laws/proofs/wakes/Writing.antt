-- A writing of a manager that decides by itself has no more to send than its plan.
use Rattle.std.proofs.Common.{◌≡◌, ◌∙◌, ℕ, ◌+◌, ◌*◌, ◌≤◌, Bool, true, false, cond, List, [], ◌∷◌, ◌++◌, length, refl, sym, ap, subst, arith}
use Rattle.std.proofs.lemmas.Bool.{cond_both, cond-true, cond-false}
use Rattle.std.proofs.lemmas.Nat.{mul-le}
use Rattle.std.specs.Prelude.{Option, Some, None, is_none}
use Rattle.lft_blocks.specs.Plan.{PlanValue}
use Rattle.sm_manager.specs.Election.{handover_fault, poll_fault, yield_fault}
use Rattle.sm_manager.specs.Manager.{IsSentWhole, Manager, begin_fault, is_running}
use Rattle.sm_manager.specs.PlanFaults.{writing_fault}
use Rattle.sm_manager.specs.Writing.{after_write_steps, next_phase, phases_by, steps_out, without_empty_phases}
use Rattle.sm_manager.specs.declared.fault.ManagerFault.{ManagerFault}
use Rattle.sm_manager.specs.declared.outgoing.Outgoing.{Outgoing}
use Rattle.sm_policy.specs.Judged.{cause_of, failed, judged}
use Rattle.sm_policy.specs.Policy.{Decision, polled}
use Rattle.sm_policy.specs.Resting.{call_due, is_due, poll_due, rested, sweep_due}
use Rattle.sm_policy.specs.Swept.{swept}
use Rattle.sm_policy.specs.declared.act.Act.{Act}
use Rattle.sm_policy.specs.declared.act.Act.TheVariants as act
use Rattle.sm_policy.specs.declared.activity.Activity.{Activity}
use Rattle.sm_policy.specs.declared.activity.Activity.TheVariants as activity
use Rattle.sm_policy.specs.declared.policy.Policy.{Policy}
use Rattle.sm_policy.specs.declared.write_cause.WriteCause.{WriteCause}
use Rattle.request_window.specs.declared.limits.Limits.{Limits}
use Rattle.request_window.specs.declared.out.Out.{Out}
use Rattle.request_window.specs.Window.{Window}
use Rattle.acting_manager.specs.Acting.{Acting, caught_up, collected, noted}
use Rattle.acting_manager.specs.Acts.{about_plan, acted, acted_in, done_by, floor_raised, is_whole, left_in, noted_unplanned, rival_seen}
use Rattle.acting_manager.specs.Planned.{comparison_of, planned}
use Rattle.acting_manager.specs.Working.{acted_if_idle, are_none, given_away, is_idle, is_writing, sent}
use Rattle.acting_manager.specs.declared.note.Note.TheVariants.{Swept}
use Rattle.manager_laws.specs.WritingEnds.{planned_steps}
use Rattle.manager_laws.proofs.writing_ends.Begun.{plan_bound}
use Rattle.program_laws.specs.WritingTime.{IsWriting, WritingsEndInTime, turns_of}
use Rattle.program_laws.specs.Wakes.{GetsOn, HasDecided, Line, after_line, after_lines, before_deciding, chances_out, controls_in, longest_turn, next_in}
use Rattle.program_laws.specs.Wakes.{sets_to_come, turns_until}
use Rattle.program_laws.proofs.wakes.AtSeats.{lines_both, longer}
use Rattle.program_laws.proofs.wakes.Awaited.{sweeps_lose_nothing}
use Rattle.program_laws.proofs.wakes.Chances.{load}
use Rattle.program_laws.proofs.wakes.Deciding.{caught_about, judged_about, managed_writings_end, sent_about, swept_rests, writing_past}
use Rattle.program_laws.proofs.wakes.Load.{Fits, Goes, budget, catches_up, sends, stays}
use Rattle.program_laws.proofs.wakes.Makes.{few_requests, many_out, passes_few, phase_paid, requests_in}
use Rattle.program_laws.proofs.wakes.Sending.{only_sends}
use Rattle.program_laws.proofs.wakes.Settled.{has_settled, settled_given}
use Rattle.program_laws.proofs.wakes.Sweeping.{acts_leaving, looked_leaving}
use Rattle.program_laws.proofs.wakes.Waking.{looked_manager, looked_window}

-- how a manager comes to write --------------------------------------------------------------------------

abbrev pub Writes : Acting → Type 0
Writes a = is_writing a.policy.activity ≡ true

-- its writing of the plan begins, which is kept, and nothing else happens
pub record WritesPlan (plan : Option PlanValue) (x z : Acting) : Type 0 where
  pub may : writing_fault x.manager ≡ None
  pub manager : z.manager ≡ after_write_steps x.manager
  pub window : z.window ≡ x.window
  pub kept : z.kept ≡ plan

-- it is the plan of the manager's facts
abbrev pub WritesNow : Acting → Acting → Type 0
WritesNow x z = WritesPlan (planned x.manager) x z

never : {X : Type 0} → true ≡ false → X
never e = absurd (cc)

handing_never : (flag : Bool) → is_writing (cond flag activity.Hands activity.Rests) ≡ false
handing_never true = refl
handing_never false = refl

about_writes : (what : Act) (cause : WriteCause) (plan : Option PlanValue) (y : Acting) → is_writing y.policy.activity ≡ false
    → Writes (about_plan what cause plan y) → WritesPlan plan y (about_plan what cause plan y)
about_writes act.Write cause (Some plan) y quiet h = by_fault (writing_fault y.manager) refl
  where
    by_fault : (o : Option ManagerFault) → writing_fault y.manager ≡ o → WritesPlan (Some plan) y (about_plan act.Write cause (Some plan) y)
    by_fault None e =
        record {
          may = e;
          manager = cond-true (is_none (writing_fault y.manager)) (after_write_steps y.manager) y.manager (ap is_none e);
          window = refl;
          kept = cond-true (is_none (writing_fault y.manager)) (Some plan) y.kept (ap is_none e);
        }
    by_fault (Some why) e =
        never (sym h ∙ ap (λ (p : Policy). is_writing p.activity)
        (cond-false (is_none (writing_fault y.manager)) _ (failed y.time y.policy) (ap is_none e)))
about_writes act.Write cause None y quiet h = never (sym h ∙ quiet)
about_writes act.Settle cause plan y quiet h = never (sym h ∙ handing_never (is_none (handover_fault y.manager)))
about_writes act.Wait cause plan y quiet h = never (sym h ∙ quiet)
about_writes act.Poll cause plan y quiet h = never (sym h ∙ quiet)
about_writes act.Announce cause plan y quiet h = never (sym h ∙ quiet)
about_writes act.Sweep cause plan y quiet h = never (sym h ∙ quiet)
about_writes act.Rediscover cause plan y quiet h = never (sym h ∙ quiet)
about_writes act.HandOver cause plan y quiet h = never (sym h ∙ quiet)
about_writes act.Yield cause plan y quiet h = never (sym h ∙ quiet)
about_writes act.Judge cause plan y quiet h = never (sym h ∙ quiet)

unplanned_manager : (plan : Option PlanValue) (a : Acting) → (noted_unplanned plan a).manager ≡ a.manager
unplanned_manager None a = refl
unplanned_manager (Some plan) a = refl

unplanned_window : (plan : Option PlanValue) (a : Acting) → (noted_unplanned plan a).window ≡ a.window
unplanned_window None a = refl
unplanned_window (Some plan) a = refl

done_writes : (what : Act) (y : Acting) → is_writing y.policy.activity ≡ false → Writes (done_by what y) → WritesNow y (done_by what y)
done_writes act.Wait y quiet h = never (sym h ∙ quiet)
done_writes act.Poll y quiet h =
    never (sym h ∙ cond_both (is_none (poll_fault y.manager None)) y.policy (polled false y.policy) (λ (p : Policy). is_writing p.activity ≡ false)
    (λ _. quiet) (λ _. quiet))
done_writes act.Announce y quiet h = never (sym h ∙ quiet)
done_writes act.Sweep y quiet h =
    never (sym h ∙ cond_both (is_none (begin_fault (floor_raised y).manager)) y.policy (failed y.time y.policy) (λ (p : Policy). is_writing p.activity ≡ false)
    (λ _. quiet) (λ _. refl))
done_writes act.Rediscover y quiet h = never (sym h ∙ quiet)
done_writes act.HandOver y quiet h = never (sym h ∙ handing_never (is_none (handover_fault y.manager)))
done_writes act.Yield y quiet h = never (sym h ∙ handing_never (is_none (yield_fault y.manager)))
done_writes act.Judge y quiet h =
    let plan = planned y.manager in
    let d = judged y.time (comparison_of y.kept plan) y.reads.ports y.policy in
    let cause = cause_of (comparison_of y.kept plan) y.reads.ports y.policy in
    let b = record (noted_unplanned plan y) { policy = d.policy } in
    let now = about_writes d.act cause plan b (ap is_writing (judged_about y.time (comparison_of y.kept plan) y.reads.ports y.policy) ∙ quiet) h in
    record {
      may = ap writing_fault (sym (unplanned_manager plan y)) ∙ now.may;
      manager = now.manager ∙ ap after_write_steps (unplanned_manager plan y);
      window = now.window ∙ unplanned_window plan y;
      kept = now.kept;
    }
done_writes act.Write y quiet h = never (sym h ∙ quiet)
done_writes act.Settle y quiet h = never (sym h ∙ quiet)

-- what a manager that rests does is no writing
rested_quiet : (now : ℕ) (p : Policy) → p.activity ≡ activity.Rests → is_writing (rested now p).policy.activity ≡ false
rested_quiet now p rests =
    cond_both (is_due now (poll_due p)) _ _ (λ (d : Decision). is_writing d.policy.activity ≡ false) (λ _. ap is_writing rests)
    (λ _. cond_both (is_due now (call_due p)) _ _ (λ (d : Decision). is_writing d.policy.activity ≡ false) (λ _. ap is_writing rests)
    (λ _. cond_both (is_due now (sweep_due p)) _ _ (λ (d : Decision). is_writing d.policy.activity ≡ false) (λ _. refl) (λ _. ap is_writing rests)))

pub acted_writes : (what : Activity) (x : Acting) → x.policy.activity ≡ what → Writes (acted_in what x) → WritesNow x (acted_in what x)
acted_writes activity.Rests x e h =
    let d = rested x.time x.policy in
    let now = done_writes d.act (record x { policy = d.policy }) (rested_quiet x.time x.policy e) h in
    record { may = now.may; manager = now.manager; window = now.window; kept = now.kept }
acted_writes activity.Sweeps x e h =
    let d = swept x.time (is_whole x.manager) (rival_seen x.manager) x.policy in
    let now = done_writes d.act (record (noted (Swept (is_whole x.manager)) x) { policy = d.policy })
    (ap is_writing (swept_rests x.time (is_whole x.manager) (rival_seen x.manager) x.policy)) h in
    record { may = now.may; manager = now.manager; window = now.window; kept = now.kept }
acted_writes activity.Writes x e h = never (sym h ∙ writing_past is_writing refl refl x)
acted_writes activity.Hands x e h = never (sym h)

-- how much there is to send -----------------------------------------------------------------------------------

pub idle_load : (limits : Limits) (queued : List Outgoing) (outs : List Out) → are_none queued outs ≡ true
    → limits.tries * length queued + chances_out limits outs ≡ 0
idle_load limits [] [] e = omega arith
idle_load limits [] (out ∷ outs) e = never (sym e)
idle_load limits (q ∷ queued) [] e = never (sym e)
idle_load limits (q ∷ queued) (out ∷ outs) e = never (sym e)

-- the Sets of the plan
pub plan_sent : (m : Manager) → m.outgoing ≡ [] → requests_in (after_write_steps m).outgoing + sets_to_come (after_write_steps m) ≤ length (planned_steps m)
plan_sent m none =
    let later = without_empty_phases (phases_by m m.sweep) in
    let out = steps_out m.counter (next_phase later).steps in
    let same : requests_in (m.outgoing ++ out) ≡ requests_in out = ap (λ (l : List Outgoing). requests_in (l ++ out)) none in
    let few = few_requests out in
    let many = many_out m.counter (next_phase later).steps in
    let paid = phase_paid later in
    let passed = passes_few (phases_by m m.sweep) in
    omega (arith, same, few, many, paid, passed)

nothing_else : (p l r s n : ℕ) → l ≡ 0 → r + s ≤ n → l + p * (r + s) ≤ p * n
nothing_else p l r s n none few = let more = mul-le p (r + s) p n (omega arith) few in omega (arith, none, more)

all_turns : (p c r x l s n k m : ℕ) → 0 + (l + p * (r + s)) + p * m ≤ x + p * m + p * 0 → x ≤ p * n → k ≡ 0
    → l + p * (s + k + c) + c ≤ p * (n + c) + c
all_turns p c r x l s n k m fell few none = let e = ap (λ i. p * i) none in omega (arith, fell, few, e)

-- the law -------------------------------------------------------------------------------------------------------

module _ (first : Acting) (line : Line) (a : Acting) (lines : List Line) (s : IsWriting first line a lines) where
  abbrev x : Acting
  x = before_deciding line first

  abbrev z : Acting
  z = acted x

  -- it decides, and is then `a`
  decided_is : acted_if_idle x ≡ caught_up z
  decided_is = cond-true (is_idle x.window) (caught_up z) x s.decides

  after_is : given_away (sent (caught_up z)) ≡ a
  after_is = ap (λ (y : Acting). given_away (sent y)) (sym decided_is) ∙ s.leads

  leaving_is : x.is_leaving ≡ false
  leaving_is =
      sym (acts_leaving x) ∙ sym (looked_leaving (collected z)) ∙ sym (only_sends (caught_up z)).leaving
      ∙ ap (λ (b : Acting). b.is_leaving) after_is ∙ s.stays_on

  acted_is : z ≡ acted_in x.policy.activity x
  acted_is = cond-false x.is_leaving (left_in x.policy.activity x) (acted_in x.policy.activity x) leaving_is

  writes_then : Writes z
  writes_then =
      ap is_writing (sym (sent_about (caught_up z) ∙ caught_about z)) ∙ ap (λ (b : Acting). is_writing b.policy.activity) after_is ∙ s.writes

  now : WritesNow x z
  now =
      subst (WritesNow x) (sym acted_is)
      (acted_writes x.policy.activity x refl (ap (λ (b : Acting). is_writing b.policy.activity) (sym acted_is) ∙ writes_then))

  decided : HasDecided a
  decided =
      let h = s.decided in
      record {
        port_guid = h.port_guid;
        port = h.port;
        priority = h.priority;
        conduct = h.conduct;
        planning = h.planning;
        timing = h.timing;
        limits = h.limits;
        newest = h.newest;
        lines = h.lines ++ line ∷ [];
        are = lines_both h.lines (line ∷ []) _ ∙ ap (after_line line) h.are ∙ s.leads;
      }

  abbrev limits : Limits
  limits = a.window.limits

  limits_are : z.window.limits ≡ a.window.limits
  limits_are =
      ap (λ (w : Window). w.limits) (sym (looked_window (collected z))) ∙ sym (only_sends (caught_up z)).limits
      ∙ ap (λ (b : Acting). b.window.limits) after_is

  sweep_is : a.manager.sweep ≡ z.manager.sweep
  sweep_is =
      ap (λ (b : Acting). b.manager.sweep) (sym after_is) ∙ ap (λ (m : Manager). m.sweep) (only_sends (caught_up z)).manager
      ∙ ap (λ (m : Manager). m.sweep) (looked_manager (collected z))

  rests : is_running z.manager.sweep ≡ false
  rests =
      ap (λ (m : Manager). is_running m.sweep) now.manager
      ∙ sweeps_lose_nothing first line s.decided s.generations s.none_left s.stays s.decides

  fits : Fits limits z
  fits = record { same = limits_are; whole = subst IsSentWhole sweep_is (has_settled a decided).whole }

  -- what the manager has to send then
  goes : Goes limits 0 0 z (sent (caught_up z))
  goes =
      let caught = catches_up limits z fits in
      stays limits 0 0 z (caught_up z) (sent (caught_up z)) caught (sends limits s.tries (caught_up z) caught.fits)

  gets : GetsOn lines a
  gets = managed_writings_end a lines decided s.tries s.outstanding s.stays_on s.none_leaves s.has_requests s.writes s.goes_on

  begun : budget limits z ≤ limits.tries * length (planned_steps x.manager)
  begun =
      nothing_else limits.tries (load limits z.window) (requests_in z.manager.outgoing) (sets_to_come z.manager) (length (planned_steps x.manager))
      (ap (load limits) now.window ∙ idle_load limits x.window.queued x.window.outs s.decides)
      (subst (λ (m : Manager). requests_in m.outgoing + sets_to_come m ≤ length (planned_steps x.manager)) (sym now.manager)
      (plan_sent x.manager (settled_given line first)))

  fell : 0 + budget limits a + limits.tries * next_in z.manager.sweep ≤ budget limits z + limits.tries * next_in z.manager.sweep + limits.tries * 0
  fell =
      subst (λ (b : Acting). 0 + budget limits b + limits.tries * next_in z.manager.sweep
      ≤ budget limits z + limits.tries * next_in z.manager.sweep + limits.tries * 0) after_is
      (subst (λ (n : ℕ). 0 + budget limits (sent (caught_up z)) + limits.tries * next_in z.manager.sweep
      ≤ budget limits z + limits.tries * n + limits.tries * 0) (ap next_in (goes.still rests)) goes.falls)

  turns : turns_until lines a ≤ turns_of limits.tries (length (planned_steps x.manager)) (controls_in lines)
  turns =
      all_turns limits.tries (controls_in lines) (requests_in a.manager.outgoing) (budget limits z) (load limits a.window) (sets_to_come a.manager)
      (length (planned_steps x.manager)) _ (next_in z.manager.sweep) fell begun (gets.quiet (ap is_running sweep_is ∙ rests))

pub writings_end_in_time : WritingsEndInTime
writings_end_in_time first line a lines s =
    let g = gets first line a lines s in
    let more = turns first line a lines s in
    let few = g.few in
    record {
      plan = plan_bound (before_deciding line first).manager (now first line a lines s).may;
      few = omega (arith, few, more);
      soon = λ late prompt.
          longer a.time (turns_until lines a) _ (longest_turn late a.window.limits) (after_lines lines a).time more (g.soon late prompt);
    }
