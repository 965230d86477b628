-- A manager that knew nothing knows what one sweep was told, which is followed from the first scene on, while something is so of the scene.
use Rattle.std.proofs.Common.{◌≡◌, inr, ℕ, ◌<◌, ◌≤◌, ◌^◌, Bool, List, [], ◌∷◌, ◌++◌, map, refl, sym, ap, ◌∙◌, subst, arith}
use Rattle.std.proofs.lemmas.List.Elements.{All-head, All-tail}
use Rattle.std.specs.Prelude.{None, Some, All}
use Rattle.fabric_model.specs.declared.cable.NodePort.{NodePort}
use Rattle.reply_facts.specs.declared.report.Report.{Report}
use Rattle.fact_store.specs.Seen.{newest_of}
use Rattle.fact_store.specs.View.{cells_of, view_at}
use Rattle.fact_store.proofs.Views.{view_of_its_cells}
use Rattle.lft_blocks.specs.Plan.{PlanValue}
use Rattle.sweep.specs.declared.request.Request.{Request}
use Rattle.sweep.specs.Sweep.{Sweep, started}
use Rattle.sm_state.specs.Conduct.{is_live}
use Rattle.sm_manager.specs.Manager.{after_begin_sweep, begin_fault, newest_held, next_generation, with_all_sent}
use Rattle.manager_laws.specs.Scene.{Scene}
use Rattle.manager_laws.specs.Sweeping as sweeping
use Rattle.manager_laws.specs.Sweeping.{AlwaysSo, Sweeping, SweepEvent, Begins, after_sweep_events}
use Rattle.manager_laws.specs.Managing.{Managing, ManagerEvent, AllAlong, Begin, CanBe, Starts, after_manager_event, after_manager_events}
use Rattle.manager_laws.specs.WritingPings.{AreNoSweeps, BeginsNoSweep}
use Rattle.manager_laws.specs.Written.{IsWritingRun, SweepsFirst, at_writing, plan_at}
use Rattle.manager_laws.proofs.Before.{by_before, event_goes}
use Rattle.manager_laws.proofs.Followed.{HasAskedAll, SeenBySweeps, asks, asks_all, asks_can, asks_stay, can_append, event_seen, nothing_seen, on_scene, runs_append}
use Rattle.manager_laws.proofs.Followed.{seen_further, stays_append}
use Rattle.manager_laws.proofs.Follows.{Follows, event_followed}
use Rattle.manager_laws.proofs.Generations.{AreOf, floor_small}
use Rattle.manager_laws.proofs.Goes.{Goes}
use Rattle.manager_laws.proofs.SweepBegins as sweeps
use Rattle.manager_laws.proofs.Sweeps.{told_in}
use Rattle.manager_laws.proofs.WritingSweeps.{Ground}

-- the sweep that is followed from the first scene on
abbrev pub first_of : Scene → NodePort → ℕ → Bool → Sweeping
first_of from seat at keeps = record { scene = from; seat = seat; sweep = started seat.port at 1 keeps; asked = []; reports = [] }

pub first_begins : (w : Managing) → Starts w → (at : ℕ) → (1 ≤ at) × (at < 2 ^ 32) → (keeps : Bool) → Begins (first_of w.scene w.seat at keeps) at 1
first_begins w starts at few keeps =
    record {
      quiet = starts.quiet;
      distinct = starts.distinct;
      seat = starts.seat;
      generation = few;
      first = omega arith;
      keeps = keeps;
      sweep = refl;
      asked = refl;
      reports = refl;
    }

-- after each of these events something is so of the scene
abbrev pub StaysSo : (Scene → Type 0) → List ManagerEvent → Managing → Type 0
StaysSo is_so = AllAlong (λ w event. is_so (after_manager_event w event).scene)

so_at_last : (is_so : Scene → Type 0) (events : List ManagerEvent) (w : Managing) → is_so w.scene → StaysSo is_so events w
    → is_so (after_manager_events events w).scene
so_at_last is_so [] w now stays = now
so_at_last is_so (event ∷ events) w now stays = so_at_last is_so events (after_manager_event w event) stays.0 stays.1

module _ (is_so : Scene → Type 0) (from : Scene) (seat : NodePort) where
  -- a manager's sweep is one that began at the first scene, while it was so, and told it all that it knows
  pub record FollowsOne (w : Managing) : Type 0 where
    pub at : ℕ
    pub few : (1 ≤ at) × (at < 2 ^ 32)
    pub keeps : Bool
    pub events : List SweepEvent
    pub can_be : All sweeping.CanBe events
    pub stays : AlwaysSo is_so events (first_of from seat at keeps)
    pub follows : Follows w (after_sweep_events events (first_of from seat at keeps))

  module _ (plan : PlanValue) (ground : Ground from.fabric seat) where
    -- it goes on
    pub follows_on : (w : Managing) (event : ManagerEvent) → FollowsOne w → Goes from.fabric seat plan ⊥ w → BeginsNoSweep w event → CanBe seat event
        → is_so w.scene → is_so (after_manager_event w event).scene → FollowsOne (after_manager_event w event)
    follows_on w event one g quiet can_be now later =
        let u = after_sweep_events one.events (first_of from seat one.at one.keeps) in
        let more = event_followed is_so from.fabric seat plan ground w event u g quiet can_be one.follows now later in
        record {
          at = one.at;
          few = one.few;
          keeps = one.keeps;
          events = one.events ++ more.events;
          can_be = can_append one.events more.events one.can_be more.can_be;
          stays = stays_append is_so one.events more.events (first_of from seat one.at one.keeps) one.stays more.stays;
          follows = subst (Follows (after_manager_event w event)) (sym (runs_append one.events more.events (first_of from seat one.at one.keeps))) more.follows;
        }

    follows_through : (events : List ManagerEvent) (w : Managing) → AreNoSweeps events w → Goes from.fabric seat plan ⊥ w → All (CanBe seat) events
        → is_so w.scene → StaysSo is_so events w → FollowsOne w → FollowsOne (after_manager_events events w)
    follows_through [] w quiet g all now stays one = one
    follows_through (event ∷ events) w quiet g all now stays one =
        let can_be = All-head (CanBe seat) event events all in
        follows_through events (after_manager_event w event) quiet.1 (event_goes from.fabric seat plan ground ⊥ w event (inr (λ none. none)) g can_be)
        (All-tail (CanBe seat) event events all) stays.0 stays.1 (follows_on w event one g quiet.0 can_be now stays.0)

    -- a sweep begins as the manager knows nothing
    module _ (old : Type 0) (w : Managing) (seen : SeenBySweeps is_so from w.scene) (so : is_so w.scene) (g : Goes from.fabric seat plan old w)
        (nothing : cells_of w.manager.store ≡ []) where
      abbrev generation_of : ℕ
      generation_of = next_generation w.manager.store

      -- whether it keeps images
      abbrev keeps_so : Bool
      keeps_so = is_live w.manager.standing.conduct

      abbrev queue : List Request
      queue = (started seat.port (next_generation w.manager.store) 1 keeps_so).queued

      abbrev begun : Sweeping
      begun = after_sweep_events seen.events (first_of from seat (next_generation w.manager.store) keeps_so)

      abbrev asked : Sweeping
      asked = after_sweep_events (asks queue) begun

      few_left : (1 ≤ next_generation w.manager.store) × (next_generation w.manager.store < 2 ^ 32)
      few_left =
          let newest : newest_held w.manager.store ≡ 0 = ap (λ es. newest_of (map (λ e. e.1) es)) nothing in
          let low = floor_small w.manager.store g.fair.side.knows in
          (omega arith, omega (arith, newest, low))

      begun_is : begun ≡ on_scene (first_of from seat generation_of keeps_so) w.scene
      begun_is = seen.is (first_of from seat generation_of keeps_so) refl

      all_asked : HasAskedAll begun asked
      all_asked = asks_all queue begun (ap (λ (y : Sweeping). y.sweep.queued) begun_is)

      sweep_is : asked.sweep ≡ with_all_sent (started seat.port generation_of 1 keeps_so)
      sweep_is = all_asked.sweep ∙ ap (λ (y : Sweeping). with_all_sent y.sweep) begun_is

      reports_are : asked.reports ≡ []
      reports_are = all_asked.reports ∙ ap (λ (y : Sweeping). y.reports) begun_is

      pub follows_first : FollowsOne (record w { manager = after_begin_sweep w.manager })
      follows_first =
          record {
            at = generation_of;
            few = few_left;
            keeps = keeps_so;
            events = seen.events ++ asks queue;
            can_be = can_append seen.events (asks queue) seen.can_be (asks_can queue);
            stays = stays_append is_so seen.events (asks queue) (first_of from seat generation_of keeps_so)
                (seen.stays (first_of from seat generation_of keeps_so) refl)
                (asks_stay is_so queue begun (subst is_so (sym (ap (λ (u : Sweeping). u.scene) begun_is)) so));
            follows = subst (Follows (record w { manager = after_begin_sweep w.manager }))
                (sym (runs_append seen.events (asks queue) (first_of from seat generation_of keeps_so)))
                (record {
                  scene = all_asked.scene ∙ ap (λ (y : Sweeping). y.scene) begun_is;
                  seat = all_asked.seat ∙ ap (λ (y : Sweeping). y.seat) begun_is ∙ sym g.fair.seat_is;
                  sweep = (λ j. Some (with_all_sent (started (g.fair.side.port j) generation_of 1 keeps_so))) ∙ ap (λ y. Some y) (sym sweep_is);
                  floor = w.manager.store.floor;
                  generation = subst (λ n. w.manager.store.floor ≤ n) (sym (ap (λ (y : Sweep). y.generation) sweep_is)) (omega arith);
                  told = subst (λ (y : List Report). AreOf (λ n. w.manager.store.floor ≤ n) (told_in y)) (sym reports_are) tt;
                  store = sym (view_of_its_cells w.manager.store) ∙ ap (view_at w.manager.store.floor) nothing
                      ∙ ap (λ (y : List Report). view_at w.manager.store.floor (told_in y)) (sym reports_are);
                });
          }

    -- what happens before is seen by it
    before_seen : (events : List ManagerEvent) (x : Managing) → SweepsFirst events x → Goes from.fabric seat plan (Unit {0}) x → All (CanBe seat) events
        → StaysSo is_so events x → SeenBySweeps is_so x.scene (after_manager_events events x).scene
    before_seen =
        by_before from.fabric seat plan ground (λ events x. StaysSo is_so events x → SeenBySweeps is_so x.scene (after_manager_events events x).scene)
        (λ x old g stays. nothing_seen is_so x.scene)
        (λ event events x old g can later stays. seen_further is_so x.scene (after_manager_event x event).scene _
        (event_seen is_so from.fabric seat plan old x.manager.counter [] x event g.fair can stays.0) (later stays.1))

-- a sweep that began when the manager knew nothing, and of which alone it learned
pub swept_once : (w : Managing) → Starts w → (before between : List ManagerEvent) → SweepsFirst before w → All (CanBe w.seat) before
    → begin_fault (after_manager_events before w).manager ≡ None → All (CanBe w.seat) between
    → cells_of (after_manager_events before w).manager.store ≡ [] → AreNoSweeps between (after_manager_event (after_manager_events before w) Begin)
    → (is_so : Scene → Type 0) → is_so w.scene → StaysSo is_so before w
    → StaysSo is_so between (after_manager_event (after_manager_events before w) Begin)
    → FollowsOne is_so w.scene w.seat (at_writing w before between)
swept_once w starts before between sweeps_first before_can begins between_can nothing alone is_so now so_before so_between =
    let p = plan_at (at_writing w before between) in
    let ground = sweeps.ground w starts in
    let x = after_manager_events before w in
    let so = so_at_last is_so before w now so_before in
    let seen = before_seen is_so w.scene w.seat p ground before w sweeps_first (sweeps.starting w starts p) before_can so_before in
    follows_through is_so w.scene w.seat p ground between (after_manager_event x Begin) alone
    (sweeps.swept_first w starts p before sweeps_first before_can begins) between_can so so_between
    (subst (FollowsOne is_so w.scene w.seat) (sym (sweeps.sweep_first w starts p before sweeps_first before_can begins))
    (follows_first is_so w.scene w.seat p ground (Unit {0}) x seen so (sweeps.went_before w starts p before sweeps_first before_can) nothing))

-- the sweep of a run that writes
pub one_sweep : (w : Managing) (before between after : List ManagerEvent) → IsWritingRun w before between after
    → cells_of (after_manager_events before w).manager.store ≡ [] → AreNoSweeps between (after_manager_event (after_manager_events before w) Begin)
    → (is_so : Scene → Type 0) → is_so w.scene → StaysSo is_so before w
    → StaysSo is_so between (after_manager_event (after_manager_events before w) Begin)
    → FollowsOne is_so w.scene w.seat (at_writing w before between)
one_sweep w before between after run = swept_once w run.starts before between run.sweeps_first run.before_can run.sweep_begins run.between_can
