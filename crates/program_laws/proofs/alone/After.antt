-- What a manager is after a decision.
use Rattle.std.proofs.Common.{◌≡◌, ◌∙◌, true, [], ◌∷◌, refl, sym, ap}
use Rattle.std.proofs.lemmas.Bool.{cond-true, cond-false, eq-eqb}
use Rattle.std.specs.Prelude.{filter}
use Rattle.sm_state.specs.State.{number_of_state}
use Rattle.sm_manager.specs.Manager.{emptied}
use Rattle.request_window.specs.Window.{Window}
use Rattle.acting_manager.specs.Acting.{Acting, caught_up, collected, is_request}
use Rattle.acting_manager.specs.Acts.{acted, acted_in, left_in}
use Rattle.acting_manager.specs.Working.{given_away, is_idle, sent}
use Rattle.program_laws.specs.Wakes.{Line, after_line, before_deciding}
use Rattle.program_laws.proofs.alone.Hearing.{caught_out, caught_queued, idle_lists, lists_idle}
use Rattle.program_laws.proofs.wakes.FreshWork.{GoesOn}
use Rattle.program_laws.proofs.wakes.Resting.{looked_still}
use Rattle.program_laws.proofs.wakes.Sending.{only_sends, sent_idle}
use Rattle.program_laws.proofs.wakes.Settled.{has_settled}
use Rattle.program_laws.proofs.wakes.Waking.{Falls, any_falls}

module _ (line : Line) (a : Acting) (g : GoesOn a (line ∷ [])) (idle : is_idle (before_deciding line a).window ≡ true) where
  abbrev x : Acting
  x = before_deciding line a

  abbrev b : Acting
  b = after_line line a

  pub fell : Falls a.window.limits g.tries 0 line a x
  fell = any_falls a.window.limits g.tries line a (record { same = refl; whole = (has_settled a g.decided).whole }) g.none_leaves.0

  pub after_acts : (e : Acting) → acted_in x.policy.activity x ≡ e → b ≡ given_away (sent (caught_up e))
  after_acts e is =
      ap (λ (y : Acting). given_away (sent y)) (cond-true (is_idle x.window) (caught_up (acted x)) x idle)
      ∙ ap (λ (y : Acting). given_away (sent (caught_up y)))
      (cond-false x.is_leaving (left_in x.policy.activity x) (acted_in x.policy.activity x) (fell.leaving ∙ g.stays_on) ∙ is)

  lists : (x.window.queued ≡ []) × (x.window.outs ≡ [])
  lists = lists_idle x.window.queued x.window.outs idle

  -- what follows a decision by which the policy hears of no other state
  module _ (e : Acting) (is : acted_in x.policy.activity x ≡ e) (knows : e.policy.state ≡ e.manager.standing.state) where
    caught_is : caught_up e ≡ collected e
    caught_is =
        looked_still (collected e) (eq-eqb (number_of_state e.manager.standing.state) (number_of_state e.policy.state) (ap number_of_state (sym knows)))

    after_is : b ≡ given_away (sent (collected e))
    after_is = after_acts e is ∙ ap (λ (y : Acting). given_away (sent y)) caught_is

    pub policy_is : b.policy ≡ e.policy
    policy_is = ap (λ (y : Acting). y.policy) after_is ∙ (only_sends (collected e)).policy

    pub manager_is : b.manager ≡ emptied e.manager
    manager_is = ap (λ (y : Acting). y.manager) after_is ∙ (only_sends (collected e)).manager

    pub time_is : b.time ≡ e.time
    time_is = ap (λ (y : Acting). y.time) after_is ∙ (only_sends (collected e)).time

    pub window_is : b.window ≡ (sent (collected e)).window
    window_is = ap (λ (y : Acting). y.window) after_is

  -- and one after which the manager has no request
  pub idle_after : (e : Acting) → acted_in x.policy.activity x ≡ e → e.manager.outgoing ≡ [] → e.window ≡ x.window → is_idle b.window ≡ true
  idle_after e is given window =
      ap (λ (y : Acting). is_idle y.window) (after_acts e is)
      ∙ sent_idle (caught_up e)
      (idle_lists (caught_up e).window
      (caught_queued e (ap (filter is_request) given) (ap (λ (w : Window). w.queued) window ∙ lists.0))
      (caught_out e ∙ ap (λ (w : Window). w.outs) window ∙ lists.1))
