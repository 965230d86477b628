-- What a manager that rests is before it decides, if it has no request, or polls and nothing else.
use Rattle.std.proofs.Common.{◌≡◌, ◌∙◌, ℕ, ◌+◌, ◌≤◌, true, false, ◌&&◌, not, [], ◌∷◌, ◌||◌, length, refl, sym, ap, subst, arith}
use Rattle.std.proofs.lemmas.Bool.{cond_both, cond-true, cond-false}
use Rattle.std.specs.Prelude.{Option, Some, None, filter, min, max}
use Rattle.sm_state.specs.declared.standing.Standing.{Standing}
use Rattle.sm_state.specs.declared.state.SmState.{SmState}
use Rattle.sm_state.specs.declared.state.SmState.TheVariants.{NotActive, Discovering, Standby, Master}
use Rattle.sm_policy.specs.Policy.{is_master}
use Rattle.sm_policy.specs.Resting.{call_due, due_in, earlier, poll_due_in, rest_due, sweep_due}
use Rattle.sm_policy.specs.declared.activity.Activity.{Activity}
use Rattle.sm_policy.specs.declared.activity.Activity.TheVariants as activity
use Rattle.sm_policy.specs.declared.rival.Rival.{Rival}
use Rattle.request_window.specs.Window.{Window, answers, first_out}
use Rattle.acting_manager.specs.Acting.{Acting, caught_up, collected, entered, is_request, looked}
use Rattle.acting_manager.specs.Working.{all_overdue, dropped, is_given_up, is_idle, is_resting, is_writing, not_before, one_overdue, repeated, stopped}
use Rattle.acting_manager.specs.Working.{taken, wake_of}
use Rattle.program_laws.specs.Alone.{IsNoWord}
use Rattle.program_laws.specs.RestTime.{sweeps_in}
use Rattle.program_laws.specs.Wakes.{IsBy, Line, before_deciding}
use Rattle.program_laws.proofs.alone.Hearing.{Heard, Unanswered, caught_out, caught_pending, caught_queued, caught_standing, hears, idle_lists, lists_idle}
use Rattle.program_laws.proofs.alone.Moves.{state_is}
use Rattle.program_laws.proofs.alone.Needs.{IsRest, rest_lasts}
use Rattle.program_laws.proofs.alone.Quiet.{IsAwake, lasts_quietly, no_word, told_is}
use Rattle.program_laws.proofs.wakes.DueTimes.{IsDueSoon, still_soon}
use Rattle.program_laws.proofs.wakes.FreshWork.{GoesOn}
use Rattle.program_laws.proofs.wakes.Load.{looked_about}
use Rattle.program_laws.proofs.wakes.Resting.{HasDue, knows_state, rest_due_is, sweep_soon}
use Rattle.program_laws.proofs.wakes.Settled.{IsSettled, caught_given, has_settled}

-- before late requests are dealt with -----------------------------------------------------------------------------------------

-- what the manager is once it heard the line, before late requests are sent again or given up
pub record Steady (line : Line) (a z : Acting) : Type 0 where
  pub is : before_deciding line a ≡ caught_up (all_overdue z)
  pub queued : z.window.queued ≡ []
  pub outs : z.window.outs ≡ a.window.outs
  pub given : z.manager.outgoing ≡ []
  pub pending : z.manager.pending ≡ a.manager.pending
  pub state : z.manager.standing.state ≡ a.manager.standing.state
  pub lost : z.manager.standing.polls_lost ≡ a.manager.standing.polls_lost
  pub about : z.policy.activity ≡ a.policy.activity
  pub time : z.time ≡ max line.0 a.time

pub looked_time : (b : Acting) → (looked b).time ≡ b.time
looked_time b = cond_both _ b (entered b.manager.standing.state b) (λ (c : Acting). c.time ≡ b.time) (λ _. refl) (λ _. refl)

-- a manager that hears the line
abbrev pub heard_then : Line → Acting → Acting
heard_then line a = caught_up (taken line.1 (record a { time = max line.0 a.time }))

pub steady : (line : Line) (a : Acting) → GoesOn a (line ∷ []) → IsNoWord line.1 a → IsAwake line a → Unanswered a → is_resting a.policy.activity ≡ true
    → a.window.queued ≡ [] → Steady line a (heard_then line a)
steady line a g quiet awake unanswered rests queued =
    record {
      is = is;
      queued = caught_queued b h.none (ap (λ (w : Window). w.queued) h.window ∙ queued);
      outs = caught_out b ∙ ap (λ (w : Window). w.outs) h.window;
      given = caught_given b;
      pending = caught_pending b ∙ h.pending;
      state = ap (λ (s : Standing). s.state) (caught_standing b) ∙ h.state;
      lost = ap (λ (s : Standing). s.polls_lost) (caught_standing b) ∙ h.lost;
      about = about;
      time = looked_time (collected b) ∙ h.time;
    }
  where
    t : Acting
    t = record a { time = max line.0 a.time }

    b : Acting
    b = taken line.1 t

    z : Acting
    z = caught_up b

    settled : IsSettled a
    settled = has_settled a g.decided

    h : Heard t b
    h = hears t settled.given settled.whole unanswered line.1 g.none_leaves.0 (no_word line.1 a (max line.0 a.time) quiet)

    about : z.policy.activity ≡ a.policy.activity
    about = looked_about (collected b) ∙ h.about

    no_writing : (what : Activity) → is_resting what ≡ true → is_writing what ≡ false
    no_writing activity.Rests e = refl
    no_writing activity.Sweeps e = absurd (cc)
    no_writing activity.Writes e = absurd (cc)
    no_writing activity.Hands e = absurd (cc)

    down : is_given_up z ≡ false
    down = λ i. (ap is_writing about ∙ no_writing a.policy.activity rests) i && (z.is_void || not (is_master z.manager.standing.state))

    is : before_deciding line a ≡ caught_up (all_overdue z)
    is =
        ap (λ (x : Acting). caught_up (all_overdue (stopped (caught_up (taken line.1 x))))) (told_is line a awake)
        ∙ ap (λ (x : Acting). caught_up (all_overdue x)) (cond-false (is_given_up z) (collected (dropped z)) z down)

-- a manager without a request ---------------------------------------------------------------------------------------------------

-- the manager rests and has no request; what is next is due at `last` at the latest
pub record AtRest (k last : ℕ) (a : Acting) : Type 0 where
  pub soon : IsDueSoon last a.policy
  pub idle : is_idle a.window ≡ true
  pub state : IsRest k last a.manager a.policy
  pub knows : a.policy.state ≡ a.manager.standing.state
  pub time : a.time ≤ last

-- the manager rests without a request
pub record IsResting (k : ℕ) (a : Acting) : Type 0 where
  pub about : a.policy.activity ≡ activity.Rests
  pub idle : is_idle a.window ≡ true
  pub state : IsRest k a.policy.next_poll a.manager a.policy
  pub knows : a.policy.state ≡ a.manager.standing.state

-- it is so before the manager decides
pub record IsReady (k last : ℕ) (x : Acting) : Type 0 where
  pub soon : IsDueSoon last x.policy
  pub idle : is_idle x.window ≡ true
  pub state : IsRest k last x.manager x.policy
  pub knows : x.policy.state ≡ x.manager.standing.state

pub knows_then : (line : Line) (a : Acting) → (before_deciding line a).policy.state ≡ (before_deciding line a).manager.standing.state
knows_then line a = let x = before_deciding line a in sym (state_is x.manager.standing.state x.policy.state (knows_state line a))

-- without a request it decides at each line
pub idle_then : (line : Line) (a : Acting) → GoesOn a (line ∷ []) → IsNoWord line.1 a → IsAwake line a → is_resting a.policy.activity ≡ true
    → is_idle a.window ≡ true → is_idle (before_deciding line a).window ≡ true
idle_then line a g quiet awake rests idle =
    ap (λ (x : Acting). is_idle x.window) (s.is ∙ ap caught_up none_late)
    ∙ idle_lists (caught_up z).window (caught_queued z (ap (filter is_request) s.given) s.queued) (caught_out z ∙ outs)
  where
    lists : (a.window.queued ≡ []) × (a.window.outs ≡ [])
    lists = lists_idle a.window.queued a.window.outs idle

    z : Acting
    z = heard_then line a

    s : Steady line a z
    s = steady line a g quiet awake
        (λ bytes word. subst (λ outs. first_out (answers bytes) outs ≡ record { outs = outs; request = None }) (sym lists.1) refl) rests lists.0

    outs : z.window.outs ≡ []
    outs = s.outs ∙ lists.1

    none_late : all_overdue z ≡ z
    none_late = ap (λ n. repeated n one_overdue z) (ap length outs)

pub ready : (k last : ℕ) (line : Line) (a : Acting) → GoesOn a (line ∷ []) → IsNoWord line.1 a → IsAwake line a → AtRest k last a
    → IsReady k last (before_deciding line a)
ready k last line a g quiet awake r =
    record {
      soon = still_soon last line g.none_leaves.0 a r.soon;
      idle = idle_then line a g quiet awake (ap is_resting r.soon.rests) r.idle;
      state = lasts_quietly (IsRest k last) (rest_lasts k last) line a g.none_leaves.0 quiet awake r.state;
      knows = knows_then line a;
    }

-- when the next line comes --------------------------------------------------------------------------------------------------------

earlier_soon : (last one : ℕ) (other : Option ℕ) → one ≤ last → HasDue last (earlier (Some one) other)
earlier_soon last one None few = record { time = one; is = refl; soon = few }
earlier_soon last one (Some other) few = record { time = min one other; is = refl; soon = omega (arith, few) }

pub rest_soon : (k last : ℕ) (a : Acting) → AtRest k last a → HasDue last (rest_due a.policy)
rest_soon k last a r = by_state a.policy.state a.policy.master refl refl
  where
    itself : sweeps_in a.policy.state a.policy.master ≡ true → HasDue last (rest_due a.policy)
    itself e =
        let due = sweep_soon last a.policy r.soon e in
        record { time = due.time; is = rest_due_is a.policy e ∙ due.is; soon = due.soon }

    by_state : (state : SmState) (master : Option Rival) → a.policy.state ≡ state → a.policy.master ≡ master → HasDue last (rest_due a.policy)
    by_state NotActive master e f = absurd (r.state.active (sym r.knows ∙ e))
    by_state Discovering master e f = itself (λ i. sweeps_in (e i) (f i))
    by_state Master master e f = itself (λ i. sweeps_in (e i) (f i))
    by_state Standby None e f = itself (λ i. sweeps_in (e i) (f i))
    by_state Standby (Some rival) e f =
        subst (λ (o : Option ℕ). HasDue last (earlier o (earlier (call_due a.policy) (sweep_due a.policy))))
        (sym (λ i. poll_due_in (e i) (f i) a.policy.next_poll))
        (earlier_soon last a.policy.next_poll (earlier (call_due a.policy) (sweep_due a.policy)) (r.state.poll (sym r.knows ∙ e)).1)

pub rest_told : (k last late : ℕ) (line : Line) (a : Acting) → a.is_leaving ≡ false → AtRest k last a → IsBy late line.0 (wake_of a)
    → line.0 ≤ last + late
rest_told k last late line a stays_on r prompt =
    let due = rest_soon k last a r in
    let wake : wake_of a ≡ Some (max due.time a.time) =
    cond-false (a.is_leaving && is_resting a.policy.activity) _ _ (ap (λ b. b && is_resting a.policy.activity) stays_on)
    ∙ ap (not_before a.time)
    (cond-false (is_given_up a) _ _ (ap (λ (w : Activity). is_writing w && (a.is_void || not (is_master a.manager.standing.state))) r.soon.rests)
    ∙ cond-true (is_idle a.window) _ _ r.idle ∙ ap (λ (w : Activity). due_in w a.time a.policy) r.soon.rests ∙ due.is) in
    let told : line.0 ≤ max due.time a.time + late = subst (IsBy late line.0) wake prompt in
    let soon = due.soon in
    let now = r.time in
    omega (arith, told, soon, now)
