-- A manager that rests begins a sweep in time.
use Rattle.std.proofs.Common.{◌≡◌, ◌∙◌, inl, inr, ℕ, ◌+◌, ◌-◌, ◌*◌, ◌≤◌, Bool, true, false, cond, ◌&&◌, List, [], ◌∷◌, ◌||◌, ◌++◌, not, length, refl, sym, ap, subst, arith}
use Rattle.std.proofs.lemmas.Bool.{cond_both, cond-true, cond-false, eq-eqb, leb-false, leb-true, le-leb}
use Rattle.std.proofs.lemmas.Nat.{mul-le}
use Rattle.std.specs.List.{AllByRecursion}
use Rattle.std.specs.Prelude.{◌==◌, Option, Some, None, filter, is_none, max}
use Rattle.sm_state.specs.State.{number_of_state}
use Rattle.sm_state.specs.declared.state.SmState.{SmState}
use Rattle.sm_state.specs.declared.state.SmState.TheVariants.{NotActive, Discovering, Standby, Master}
use Rattle.sm_manager.specs.Manager.{Manager, begin_fault, is_running}
use Rattle.sm_manager.specs.declared.outgoing.Outgoing.{Outgoing}
use Rattle.sm_policy.specs.Judged.{failed}
use Rattle.sm_policy.specs.Policy.{is_master, moved, still, sweeps_first}
use Rattle.sm_policy.specs.PolicyLaws.{longest_wait}
use Rattle.sm_policy.specs.Resting.{call_due, call_due_in, due_in, earlier, is_due, poll_due, poll_due_in, rest_due, rested, sweep_due, sweep_due_in, sweeping}
use Rattle.sm_policy.specs.declared.act.Act.TheVariants as act
use Rattle.sm_policy.specs.declared.activity.Activity.{Activity}
use Rattle.sm_policy.specs.declared.activity.Activity.TheVariants as activity
use Rattle.sm_policy.specs.declared.policy.Policy.{Policy}
use Rattle.sm_policy.specs.declared.rival.Rival.{Rival}
use Rattle.request_window.specs.declared.limits.Limits.{Limits}
use Rattle.request_window.specs.declared.out.Out.{Out}
use Rattle.acting_manager.specs.Acting.{Acting, caught_up, collected, entered, is_request, looked}
use Rattle.acting_manager.specs.Acts.{acted, acted_in, decided, floor_raised, left_in, sweeping_on}
use Rattle.acting_manager.specs.Working.{all_overdue, are_none, given_away, is_given_up, is_idle, is_resting, is_writing, not_before, sent, stopped}
use Rattle.acting_manager.specs.Working.{taken, told_time, wake_of}
use Rattle.program_laws.specs.RestTime.{MaySweep, RestsEndInTime, RestsThrough, sweeps_by_itself, sweeps_in}
use Rattle.program_laws.specs.Wakes.{ArePrompt, AsksForATime, IsBy, IsNoLeave, Line, NoneLeaves, after_line, after_lines, before_deciding, chances_in}
use Rattle.program_laws.specs.Wakes.{controls_in, control_in, longest_turn, next_in, sets_to_come, turns_until}
use Rattle.program_laws.proofs.wakes.Chances.{AnyLate}
use Rattle.program_laws.proofs.wakes.Deciding.{caught_about, sent_about}
use Rattle.program_laws.proofs.wakes.DueTimes.{IsDueSoon, first_soon, still_soon}
use Rattle.program_laws.proofs.wakes.Empties as empties
use Rattle.program_laws.proofs.wakes.Empties.{Gone, due_after, due_still, first_due, line_goes, sends_then, then_falls}
use Rattle.program_laws.proofs.wakes.InTime.{IsSoon, a_line_soon, has_soon}
use Rattle.program_laws.proofs.wakes.Load as load
use Rattle.program_laws.proofs.wakes.Load.{Fits, budget, catches_up, sends}
use Rattle.program_laws.proofs.wakes.Makes.{requests_in}
use Rattle.program_laws.proofs.wakes.News.{has_news}
use Rattle.program_laws.proofs.wakes.Sending.{IsDueBy, Waits, only_sends, sent_idle}
use Rattle.program_laws.proofs.wakes.Settled.{caught_given, has_settled, settled_given}
use Rattle.program_laws.proofs.wakes.Waking.{Falls, any_falls}

-- when a sweep is due ---------------------------------------------------------------------------------------------------

no_poll : (state : SmState) (master : Option Rival) (next : ℕ) → sweeps_in state master ≡ true → poll_due_in state master next ≡ None
no_poll Discovering master next e = refl
no_poll Master master next e = refl
no_poll Standby None next e = refl
no_poll Standby (Some rival) next e = absurd (cc)
no_poll NotActive master next e = absurd (cc)

no_call : (state : SmState) (master : Option Rival) (next : ℕ) → sweeps_in state master ≡ true → call_due_in state master next ≡ None
no_call Discovering master next e = refl
no_call Master master next e = refl
no_call Standby None next e = refl
no_call Standby (Some rival) next e = absurd (cc)
no_call NotActive master next e = absurd (cc)

-- a time at which a sweep is due, at `by` at the latest
pub record HasDue (by : ℕ) (due : Option ℕ) : Type 0 where
  pub time : ℕ
  pub is : due ≡ Some time
  pub soon : time ≤ by

pub sweep_soon : (by : ℕ) (p : Policy) → IsDueSoon by p → sweeps_in p.state p.master ≡ true → HasDue by (sweep_due p)
sweep_soon by p h e = by_state p.state p.master p.is_wanted p.earliest p.next_sweep e h.earliest h.regular
  where
    by_state : (state : SmState) (master : Option Rival) (is_wanted : Bool) (earliest next : ℕ) → sweeps_in state master ≡ true → earliest ≤ by
        → (state ≡ Master → is_wanted ≡ false → next ≤ by) → HasDue by (sweep_due_in state master is_wanted earliest (max earliest next))
    by_state Discovering master is_wanted earliest next e soon regular = record { time = earliest; is = refl; soon = soon }
    by_state Standby None is_wanted earliest next e soon regular = record { time = earliest; is = refl; soon = soon }
    by_state Standby (Some rival) is_wanted earliest next e soon regular = absurd (cc)
    by_state NotActive master is_wanted earliest next e soon regular = absurd (cc)
    by_state Master master true earliest next e soon regular = record { time = earliest; is = refl; soon = soon }
    by_state Master master false earliest next e soon regular =
        let late = regular refl refl in record { time = max earliest next; is = refl; soon = omega (arith, soon, late) }

pub rest_is : (now : ℕ) (p : Policy) → sweeps_in p.state p.master ≡ true
    → rested now p ≡ cond (is_due now (sweep_due p)) (record { policy = sweeping now p; act = act.Sweep }) (still p)
rest_is now p e =
    cond-false (is_due now (poll_due p)) _ _ (ap (is_due now) (no_poll p.state p.master p.next_poll e))
    ∙ cond-false (is_due now (call_due p)) _ _ (ap (is_due now) (no_call p.state p.master p.next_call e))

pub rest_due_is : (p : Policy) → sweeps_in p.state p.master ≡ true → rest_due p ≡ sweep_due p
rest_due_is p e =
    ap (λ o. earlier o (earlier (call_due p) (sweep_due p))) (no_poll p.state p.master p.next_poll e)
    ∙ ap (λ o. earlier None (earlier o (sweep_due p))) (no_call p.state p.master p.next_call e)
    ∙ none_first (sweep_due p)
  where
    none_first : (o : Option ℕ) → earlier None (earlier None o) ≡ o
    none_first o = refl

-- the manager has caught up: its policy knows its state ------------------------------------------------------------------

abbrev pub KnowsState : Acting → Type 0
KnowsState a = (number_of_state a.manager.standing.state == number_of_state a.policy.state) ≡ true

same_number : (state : SmState) → (number_of_state state == number_of_state state) ≡ true
same_number state = eq-eqb (number_of_state state) (number_of_state state) refl

moved_state : (now : ℕ) (state : SmState) (p : Policy) → (moved now state p).state ≡ state
moved_state now state p = cond_both (sweeps_first state p.activity) _ _ (λ (q : Policy). q.state ≡ state) (λ _. refl) (λ _. refl)

pub looked_knows : (a : Acting) → KnowsState (looked a)
looked_knows a =
    cond_both (number_of_state a.manager.standing.state == number_of_state a.policy.state) a (entered a.manager.standing.state a) KnowsState (λ e. e)
    (λ _. subst (λ (s : SmState). (number_of_state a.manager.standing.state == number_of_state s) ≡ true)
    (sym (moved_state a.time a.manager.standing.state a.policy)) (same_number a.manager.standing.state))

-- once something was told, before the manager decides
pub knows_state : (line : Line) (a : Acting) → KnowsState (before_deciding line a)
knows_state line a = looked_knows (collected (all_overdue (stopped (caught_up (taken line.1 (told_time line.0 a))))))

pub looked_still : (a : Acting) → KnowsState a → looked a ≡ a
looked_still a e = cond-true (number_of_state a.manager.standing.state == number_of_state a.policy.state) a (entered a.manager.standing.state a) e

-- nothing more waits for its turn
idle_more : (queued packets : List Outgoing) (outs : List Out) → packets ≡ [] → are_none queued outs ≡ true
    → are_none (queued ++ filter is_request packets) outs ≡ true
idle_more queued packets outs e idle =
    subst (λ (more : List Outgoing). are_none (queued ++ filter is_request more) outs ≡ true) (sym e) (by_lists queued outs idle)
  where
    by_lists : (queued : List Outgoing) (outs : List Out) → are_none queued outs ≡ true → are_none (queued ++ []) outs ≡ true
    by_lists [] outs e = e
    by_lists (x ∷ queued) [] e = absurd (cc)
    by_lists (x ∷ queued) (out ∷ outs) e = absurd (cc)

any_later : (now later : ℕ) (outs : List Out) → now ≤ later → AnyLate now outs → AnyLate later outs
any_later now later [] more any = absurd any
any_later now later (out ∷ outs) more (inl here) = let due = leb-true out.deadline now here in inl (le-leb out.deadline later (omega (arith, due, more)))
any_later now later (out ∷ outs) more (inr any) = inr (any_later now later outs more any)

-- a decision while it rests -----------------------------------------------------------------------------------------------

module _ (limits : Limits) (some : 1 ≤ limits.tries) (room : 1 ≤ limits.outstanding) (last : ℕ) where
  -- the manager rests, and is to sweep at `last` at the latest
  record IsBounded (a : Acting) : Type 0 where
    soon : IsDueSoon last a.policy
    near : IsSoon limits a.time a
    given : a.manager.outgoing ≡ []
    idle : is_idle a.window ≡ true → (a.time ≤ last) × (sweeps_by_itself a ≡ true)
    asks : is_idle a.window ≡ false → AsksForATime a

  -- what a line does to the manager: `k` times something ends
  record Step (k : ℕ) (line : Line) (a b : Acting) : Type 0 where
    falls : Falls limits some k line a b
    bounded : IsBounded b
    due : (late by : ℕ) → IsBy late line.0 (wake_of a) → last + longest_turn late limits ≤ by → a.time ≤ by
        → (is_idle a.window ≡ false → IsDueBy by a)
        → (b.time ≤ by + k * longest_turn late limits) × (is_idle b.window ≡ false → IsDueBy (by + k * longest_turn late limits) b)

  record SomeStep (line : Line) (a b : Acting) : Type 0 where
    k : ℕ
    step : Step k line a b

  busy_idle : (a : Acting) → is_idle a.window ≡ false → is_idle a.window ≡ true → ⊥
  busy_idle a busy idle = let wrong : false ≡ true = sym busy ∙ idle in absurd (cc)

  near_any : (by now : ℕ) (outs : List Out) → 1 ≤ length outs → now + 3 * limits.timeout ≤ by
      → AllByRecursion (λ (out : Out). out.deadline ≤ now + 3 * limits.timeout) outs → AnyLate by outs
  near_any by now [] none less all = absurd (omega (arith, none))
  near_any by now (out ∷ outs) out_is less all = let near = all.0 in inl (le-leb out.deadline by (omega (arith, near, less)))

  -- one step more
  falls_then : (k : ℕ) (line : Line) (a x e : Acting) → Falls limits some k line a x → load.Goes limits 0 0 x e → Falls limits some k line a e
  falls_then k line a x e fell g =
      let first = fell.next in
      let later = g.next in
      record {
        fits = g.fits;
        leaving = g.leaving ∙ fell.leaving;
        about = g.about ∙ fell.about;
        time = g.time ∙ fell.time;
        next = omega (arith, first, later);
        still = λ rests. let kept = fell.still rests in g.still (ap is_running kept ∙ rests) ∙ kept;
        falls = then k limits.tries (control_in line.1) (budget limits a) (budget limits x) (budget limits e)
            (next_in a.manager.sweep) (next_in x.manager.sweep) (next_in e.manager.sweep) fell.falls g.falls;
      }
    where
      then : (w p c i j l m n o : ℕ) → w + j + p * m ≤ i + p * n + p * c + c → 0 + l + p * n ≤ j + p * o + p * 0 → w + l + p * m ≤ i + p * o + p * c + c
      then w p c i j l m n o h g = omega (arith, h, g)

  module _ (line : Line) (a : Acting) (remains : IsNoLeave line.1) (stays_on : a.is_leaving ≡ false) (bounded : IsBounded a) (fits : Fits limits a)
      (rests : is_resting (after_line line a).policy.activity ≡ true) where
    abbrev x : Acting
    x = before_deciding line a

    abbrev b : Acting
    b = after_line line a

    fell : Falls limits some 0 line a x
    fell = any_falls limits some line a fits remains

    soon_then : IsDueSoon last x.policy
    soon_then = still_soon last line remains a bounded.soon

    near_then : IsSoon limits b.time b
    near_then = let soon = a_line_soon limits line a bounded.near in subst (λ (t : ℕ). IsSoon limits t b) (sym soon.time) soon

    -- the manager decides nothing
    module _ (left : is_idle x.window ≡ false) where
      after_is : b ≡ given_away (sent x)
      after_is = ap (λ (y : Acting). given_away (sent y)) (cond-false (is_idle x.window) (caught_up (acted x)) x left)

      bounded_then : Waits b → IsBounded b
      bounded_then waits =
          record {
            soon = subst (λ (y : Acting). IsDueSoon last y.policy) (sym after_is) (subst (IsDueSoon last) (sym (only_sends x).policy) soon_then);
            near = near_then;
            given = subst (λ (y : Acting). y.manager.outgoing ≡ []) (sym after_is)
                (ap (λ (m : Manager). m.outgoing) (only_sends x).manager ∙ settled_given line a);
            idle = λ idle. absurd (busy_idle b waits.busy idle);
            asks = λ _. record { wake = waits.asks.wake; is = waits.asks.is; not_past = waits.asks.not_past };
          }

      -- it had requests
      busy_step : is_idle a.window ≡ false → SomeStep line a b
      busy_step busy = by_kind (line_goes limits some room line a fits remains stays_on busy left)
        where
          asks : AsksForATime a
          asks = bounded.asks busy

          by_kind : empties.Goes limits some room line a b → SomeStep line a b
          by_kind (empties.Ends gone) =
              record {
                k = 1;
                step = record {
                  falls = gone.falls;
                  bounded = bounded_then gone.waits;
                  due = λ late by prompt base now due.
                      let d = due_after limits some room late by line a stays_on busy asks prompt (due busy) b gone.falls.time gone.waits
                      (subst (λ (t : ℕ). IsSoon limits t b) gone.falls.time near_then) in
                      let t = d.now in
                      (omega (arith, t), λ _. subst (λ (n : ℕ). IsDueBy n b) (omega arith) d);
                };
              }
          by_kind (empties.Rests gone unasked keeps) =
              record {
                k = 0;
                step = record {
                  falls = gone.falls;
                  bounded = bounded_then gone.waits;
                  due = λ late by prompt base now due.
                      let d = due_still limits some room late by line a stays_on busy asks prompt (due busy) b gone.falls.time unasked keeps in
                      let t = d.now in
                      (omega (arith, t), λ _. subst (λ (n : ℕ). IsDueBy n b) (omega arith) d);
                };
              }

      -- it had none, and a packet made one
      idle_step : is_idle a.window ≡ true → SomeStep line a b
      idle_step idle =
          record {
            k = 0;
            step = record {
              falls = gone.falls;
              bounded = bounded_then gone.waits;
              due = λ late by prompt base now due. due_by late by prompt base;
            };
          }
        where
          gone : Gone limits some room 0 line a b
          gone = subst (λ (y : Acting). Gone limits some room 0 line a y) (sym after_is) (sends_then limits some room 0 line a x stays_on left fell)

          asked : HasDue last (rest_due a.policy)
          asked =
              let at = bounded.idle idle in
              let due = sweep_soon last a.policy bounded.soon at.1 in
              record { time = due.time; is = rest_due_is a.policy at.1 ∙ due.is; soon = due.soon }

          wake_is : wake_of a ≡ Some (max asked.time a.time)
          wake_is =
              cond-false (a.is_leaving && is_resting a.policy.activity) _ _ (ap (λ b. b && is_resting a.policy.activity) stays_on)
              ∙ ap (not_before a.time)
              (cond-false (is_given_up a) _ _
              (ap (λ (w : Activity). is_writing w && (a.is_void || not (is_master a.manager.standing.state))) bounded.soon.rests)
              ∙ cond-true (is_idle a.window) _ _ idle ∙ ap (λ (w : Activity). due_in w a.time a.policy) bounded.soon.rests ∙ asked.is)

          due_by : (late by : ℕ) → IsBy late line.0 (wake_of a) → last + longest_turn late limits ≤ by
              → (b.time ≤ by + 0 * longest_turn late limits) × (is_idle b.window ≡ false → IsDueBy (by + 0 * longest_turn late limits) b)
          due_by late by prompt base =
              let told : line.0 ≤ max asked.time a.time + late = subst (IsBy late line.0) wake_is prompt in
              let time = gone.falls.time in
              let soon = asked.soon in
              let now = (bounded.idle idle).0 in (
                omega (arith, told, time, soon, now, base),
                λ _. record {
                  now = omega (arith, told, time, soon, now, base);
                  next = elim gone.waits.out [
                    | inl up ↦ inl up
                    | inr out ↦ inr (near_any (by + 0 * longest_turn late limits) b.time b.window.outs out
                        (omega (arith, told, time, soon, now, base)) near_then.outs)
                  ];
                },
              )

    -- the manager decides: it goes on resting
    module _ (idle : is_idle x.window ≡ true) (may : MaySweep x) where
      abbrev y : Acting
      y = record x { policy = x.policy }

      abbrev z : Acting
      z = caught_up y

      acts_is : acted x ≡ decided (rested x.time x.policy) x
      acts_is =
          cond-false x.is_leaving (left_in x.policy.activity x) (acted_in x.policy.activity x) (fell.leaving ∙ stays_on)
          ∙ ap (λ w. acted_in w x) soon_then.rests

      after_acts : (e : Acting) → acted x ≡ e → b ≡ given_away (sent (caught_up e))
      after_acts e is =
          ap (λ (y : Acting). given_away (sent y)) (cond-true (is_idle x.window) (caught_up (acted x)) x idle)
          ∙ ap (λ (y : Acting). given_away (sent (caught_up y))) is

      decides : (due : Bool) → is_due x.time (sweep_due x.policy) ≡ due
          → acted x ≡ decided (cond due (record { policy = sweeping x.time x.policy; act = act.Sweep }) (still x.policy)) x
      decides due e =
          acts_is
          ∙ ap (λ d. decided d x) (rest_is x.time x.policy may.itself
          ∙ ap (λ (b : Bool). cond b (record { policy = sweeping x.time x.policy; act = act.Sweep }) (still x.policy)) e)

      -- a sweep would begin
      begun : is_due x.time (sweep_due x.policy) ≡ true → ⊥
      begun e =
          let c = record x { policy = sweeping x.time x.policy } in
          let sweeps : (sweeping_on c).policy.activity ≡ activity.Sweeps =
          ap (λ (p : Policy). p.activity)
          (cond-true (is_none (begin_fault (floor_raised x).manager)) c.policy (failed c.time c.policy) (ap is_none may.unrefused)) in
          let ends : b.policy.activity ≡ activity.Sweeps =
          ap (λ (y : Acting). y.policy.activity) (after_acts (sweeping_on c) (decides true e))
          ∙ sent_about (caught_up (sweeping_on c)) ∙ caught_about (sweeping_on c) ∙ sweeps in
          let wrong : false ≡ true = sym (ap is_resting ends) ∙ rests in
          absurd (cc)

      resting_step : SomeStep line a b
      resting_step = by_due (is_due x.time (sweep_due x.policy)) refl
        where
          by_due : (due : Bool) → is_due x.time (sweep_due x.policy) ≡ due → SomeStep line a b
          by_due true e = absurd (begun e)
          by_due false e =
              record {
                k = 0;
                step = record {
                  falls = fallen;
                  bounded = record {
                    soon = subst (λ (y : Acting). IsDueSoon last y.policy) (sym is) (subst (IsDueSoon last) (sym policy_is) soon_then);
                    near = near_then;
                    given = subst (λ (y : Acting). y.manager.outgoing ≡ []) (sym is)
                        (ap (λ (m : Manager). m.outgoing) (only_sends z).manager ∙ caught_given y);
                    idle = λ _. (time_is, itself);
                    asks = λ busy. absurd (busy_idle b busy idle_then);
                  };
                  due = λ late by prompt base now due.
                      (omega (arith, time_is, base), λ busy. absurd (busy_idle b busy idle_then));
                };
              }
            where
              is : b ≡ given_away (sent z)
              is = after_acts y (decides false e)

              due_is : HasDue last (sweep_due x.policy)
              due_is = sweep_soon last x.policy soon_then may.itself

              falls_y : Falls limits some 0 line a y
              falls_y =
                  record {
                    fits = record { same = fell.fits.same; whole = fell.fits.whole };
                    leaving = fell.leaving;
                    about = fell.about;
                    time = fell.time;
                    next = fell.next;
                    still = fell.still;
                    falls = fell.falls;
                  }

              falls_all : Falls limits some 0 line a (given_away (sent z))
              falls_all =
                  let caught = catches_up limits y (record { same = fell.fits.same; whole = fell.fits.whole }) in
                  let sending = sends limits some z caught.fits in
                  let s = falls_then 0 line a z (sent z) (falls_then 0 line a y z falls_y caught) sending in
                  record {
                    fits = record { same = s.fits.same; whole = s.fits.whole };
                    leaving = s.leaving;
                    about = s.about;
                    time = s.time;
                    next = s.next;
                    still = s.still;
                    falls = s.falls;
                  }

              fallen : Falls limits some 0 line a b
              fallen = subst (λ (w : Acting). Falls limits some 0 line a w) (sym is) falls_all

              time_is : b.time ≤ last
              time_is =
                  let before = leb-false due_is.time x.time (sym (ap (is_due x.time) due_is.is) ∙ e) in
                  let soon = due_is.soon in
                  let same = fallen.time in
                  let told = fell.time in
                  omega (arith, before, soon, same, told)

              z_is : z ≡ collected y
              z_is = looked_still (collected y) (knows_state line a)

              policy_is : (sent z).policy ≡ x.policy
              policy_is = (only_sends z).policy ∙ ap (λ (w : Acting). w.policy) z_is

              itself : sweeps_by_itself b ≡ true
              itself = ap sweeps_by_itself is ∙ ap (λ (p : Policy). sweeps_in p.state p.master) policy_is ∙ may.itself

              idle_then : is_idle b.window ≡ true
              idle_then =
                  ap (λ (w : Acting). is_idle w.window) is
                  ∙ sent_idle z (ap (λ (w : Acting). is_idle w.window) z_is
                  ∙ idle_more x.window.queued x.manager.outgoing x.window.outs (settled_given line a) idle)

    any_step : (is_idle x.window ≡ true → MaySweep x) → SomeStep line a b
    any_step may = by_idle (is_idle x.window) refl (is_idle a.window) refl
      where
        by_idle : (now : Bool) → is_idle x.window ≡ now → (before : Bool) → is_idle a.window ≡ before → SomeStep line a b
        by_idle true idle before e = resting_step idle (may idle)
        by_idle false left true e = idle_step left e
        by_idle false left false e = busy_step left e

  -- lines in a row --------------------------------------------------------------------------------------------------------

  -- `ended` times something ends
  record Run (lines : List Line) (a : Acting) : Type 0 where
    next : next_in a.manager.sweep ≤ next_in (after_lines lines a).manager.sweep
    ended : ℕ
    falls : ended + budget limits (after_lines lines a) + limits.tries * next_in a.manager.sweep
        ≤ budget limits a + limits.tries * next_in (after_lines lines a).manager.sweep + limits.tries * controls_in lines + controls_in lines
    soon : (late by : ℕ) → ArePrompt late lines a → last + longest_turn late limits ≤ by → a.time ≤ by
        → (is_idle a.window ≡ false → IsDueBy by a) → (after_lines lines a).time ≤ by + ended * longest_turn late limits

  lines_rest : (lines : List Line) (a : Acting) → Fits limits a → IsBounded a → NoneLeaves lines → a.is_leaving ≡ false → RestsThrough lines a → Run lines a
  lines_rest [] a fits bounded remains stays_on goes_on =
      record { next = omega arith; ended = 0; falls = omega arith; soon = λ late by prompt base now due. omega (arith, now) }
  lines_rest (line ∷ lines) a fits bounded remains stays_on goes_on =
      let some_step = any_step line a remains.0 stays_on bounded fits goes_on.0 goes_on.1 in
      let step = some_step.step in
      let b = after_line line a in
      let rest = lines_rest lines b step.falls.fits step.bounded remains.1 (step.falls.leaving ∙ stays_on) goes_on.2 in
      let first = step.falls.next in
      let later = rest.next in
      record {
        next = omega (arith, first, later);
        ended = some_step.k + rest.ended;
        falls = then_falls limits some room some_step.k rest.ended limits.tries (control_in line.1) (controls_in lines) (budget limits a)
            (budget limits b) (budget limits (after_lines lines b)) (next_in a.manager.sweep) (next_in b.manager.sweep)
            (next_in (after_lines lines b).manager.sweep) step.falls.falls rest.falls;
        soon = λ late by prompt base now due.
            let turn = longest_turn late limits in
            let d = step.due late by prompt.0 base now due in
            let end = rest.soon late (by + some_step.k * turn) prompt.1 (omega (arith, base)) d.0 d.1 in
            sum (after_lines lines b).time by some_step.k rest.ended turn end;
      }
    where
      sum : (end by k l turn : ℕ) → end ≤ by + k * turn + l * turn → end ≤ by + (k + l) * turn
      sum end by k l turn h = omega (arith, h)

pub rests_end_in_time : RestsEndInTime
rests_end_in_time a lines r late prompt =
    let limits = a.window.limits in
    let settled = has_settled a r.decided in
    let near = has_soon a r.decided in
    let turn = longest_turn late limits in
    let last = a.time + longest_wait r.decided.timing in
    let resting = is_rest a.policy.activity r.rests in
    let due = first_soon r.decided.timing a (has_news a r.decided r.time) resting in
    let e = due.earliest in
    let w = due.wanted in
    let bounded : IsBounded limits r.tries r.outstanding last a = record {
      soon = record {
        rests = resting;
        earliest = omega (arith, e);
        wanted = omega (arith, w);
        regular = λ master unwanted. let n = due.regular master unwanted in omega (arith, n);
      };
      near = near;
      given = settled.given;
      idle = λ idle. (omega arith, r.first idle);
      asks = λ busy. settled.asks r.stays_on busy r.outstanding;
    } in
    let run = lines_rest limits r.tries r.outstanding last lines a (record { same = refl; whole = settled.whole }) bounded r.none_leaves r.stays_on r.goes_on in
    let none : requests_in a.manager.outgoing ≡ 0 = ap requests_in settled.given in
    let few = bound run.ended limits.tries (controls_in lines) (chances_in a.window) (requests_in a.manager.outgoing)
    (sets_to_come a.manager) (budget limits (after_lines lines a)) (next_in a.manager.sweep) (next_in (after_lines lines a).manager.sweep)
    none run.next run.falls in
    in_time (after_lines lines a).time last run.ended (turns_until lines a) turn few
    (run.soon late (last + turn) prompt (omega arith) (omega arith)
    (λ busy. later (first_due a near (settled.out r.stays_on busy r.outstanding))))
  where
    is_rest : (what : Activity) → is_resting what ≡ true → what ≡ activity.Rests
    is_rest activity.Rests e = refl
    is_rest activity.Sweeps e = absurd (cc)
    is_rest activity.Writes e = absurd (cc)
    is_rest activity.Hands e = absurd (cc)

    bound : (w p c l r s k m n : ℕ) → r ≡ 0 → m ≤ n → w + k + p * m ≤ l + p * (r + s) + p * n + p * c + c → w ≤ l + p * (s + (n - m) + c) + c
    bound w p c l r s k m n none rises falls =
        let whole : n ≡ m + (n - m) = omega (arith, rises) in
        let e = ap (λ i. p * i) whole in
        let f = ap (λ i. p * i) none in
        omega (arith, falls, e, f)

    in_time : (end base q n turn : ℕ) → q ≤ n → end ≤ base + turn + q * turn → end ≤ base + (n + 1) * turn
    in_time end base q n turn few h = let more = mul-le q turn n turn few (omega arith) in omega (arith, h, more)

    later : IsDueBy (a.time + 3 * a.window.limits.timeout) a → IsDueBy (a.time + longest_wait r.decided.timing + longest_turn late a.window.limits) a
    later due = record { now = omega arith; next = elim due.next [ inl up ↦ inl up | inr any ↦ inr (any_later _ _ a.window.outs (omega arith) any) ] }
