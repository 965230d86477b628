-- Several managers: whatever they do, each goes on, no port gets another LID, and what is joined to their seats goes on holding the plan.
use Rattle.std.proofs.Common.{◌≡◌, ◌≢◌, ◌⊎◌, inl, inr, ℕ, zero, suc, ◌++◌, ◌≤◌, true, false, List, [], ◌∷◌, refl, sym, ap, ◌∙◌, subst, arith}
use Rattle.std.proofs.lemmas.Option.{same_Some}
use Rattle.std.specs.Prelude.{Option, Some, None, slice_get, slice_set}
use Rattle.fabric_model.specs.declared.cable.NodePort.{NodePort}
use Rattle.fabric_model.specs.FabricWalks.{IsJoinedTo}
use Rattle.fact_store.specs.View.{Facts}
use Rattle.fabric_sim.specs.Simulation.{AreCables, fabric_of, port_count}
use Rattle.fabric_sim.proofs.TripEnds.{along_itself, few_ports}
use Rattle.lft_blocks.specs.Planning.{Planning}
use Rattle.manager_laws.specs.Scene.{Scene, Event, Send as SendFrom, CanHappen, after_event}
use Rattle.manager_laws.specs.Managing as one
use Rattle.manager_laws.specs.Managing.{Managing, ManagerEvent, Starts, after_manager_event}
use Rattle.manager_laws.specs.Written.{plan_at}
use Rattle.manager_laws.proofs.Done.{seat_end}
use Rattle.manager_laws.proofs.Goes.{Goes}
use Rattle.manager_laws.proofs.OneSweep.{first_begins, first_of}
use Rattle.manager_laws.proofs.Sound.{CanBeSwept}
use Rattle.manager_laws.proofs.SweepBegins.{starting}
use Rattle.manager_laws.proofs.Swept as swept_laws
use Rattle.manager_laws.proofs.WritingSweeps.{Ground}
use Rattle.manager_laws.specs.Takeover.{plan_by_it}
use Rattle.manager_laws.proofs.takeover.HeldOn.{AreListed, HeldOn, held_of_now}
use Rattle.manager_laws.proofs.takeover.Listed.{are_listed}
use Rattle.manager_laws.proofs.Followed.{nothing_seen}
use Rattle.manager_laws.specs.Claims.{HasLidsOf}
use Rattle.manager_laws.proofs.takeover.Throughout.{in_use}
use Rattle.manager_laws.specs.Masters.{AllCanBe, Around, At, CanBe, IsAt, IsItsOwn, Masters, MastersEvent, Seated, SetsInfoOnly, StartTogether, WritesWhole}
use Rattle.manager_laws.specs.Masters.{IsWholeSweep, acting, after_masters_event, after_masters_events, seated_after, seen_by}
use Rattle.manager_laws.specs.StaysInForce.{AllHold, AllInUse, AllSweepWhole, InUseAlong, MastersChangeNothing, MastersKeepLids, MastersWriteTheSame, ShareLids}
use Rattle.manager_laws.specs.StaysInForce.{SweepsWhole}
use Rattle.manager_laws.proofs.masters.Scenes.{Stands, held_on, stands_on}
use Rattle.manager_laws.proofs.masters.Traces.{SendsSo, SentSo, first_traces, others_so}
use Rattle.manager_laws.proofs.masters.Carrying.{first_plans}
use Rattle.manager_laws.proofs.masters.Side.{Known, Old, SendsOne, Side, around_side, own_scene, own_side, same_plan, sending_so}

-- lists -----------------------------------------------------------------------------------------------------------

-- what a list has at an index after one was set
pub set_at : {X : Type 0} (xs : List X) (index k : ℕ) (new x : X) → slice_get (slice_set xs index new) k ≡ Some x
    → ((index ≡ k) × (new ≡ x)) ⊎ ((index ≢ k) × (slice_get xs k ≡ Some x))
set_at [] index k new x e = absurd (cc)
set_at (y ∷ xs) zero zero new x e = inl (refl, same_Some new x e)
set_at (y ∷ xs) zero (suc k) new x e = inr ((λ same. absurd (omega (arith, same))), e)
set_at (y ∷ xs) (suc index) zero new x e = inr ((λ same. absurd (omega (arith, same))), e)
set_at (y ∷ xs) (suc index) (suc k) new x e = elim (set_at xs index k new x e) [
  | inl same ↦ inl (ap suc same.0, same.1)
  | inr other ↦ inr ((λ same. other.0 (omega (arith, same))), other.1)
]

-- it is there, where one was
pub set_there : {X : Type 0} (xs : List X) (index : ℕ) (new x : X) → slice_get xs index ≡ Some x → slice_get (slice_set xs index new) index ≡ Some new
set_there [] index new x e = absurd (cc)
set_there (y ∷ xs) zero new x e = refl
set_there (y ∷ xs) (suc index) new x e = set_there xs index new x e

pub set_elsewhere : {X : Type 0} (xs : List X) (index k : ℕ) (new : X) → index ≢ k → slice_get (slice_set xs index new) k ≡ slice_get xs k
set_elsewhere [] index k new other = refl
set_elsewhere (y ∷ xs) zero zero new other = absurd (other refl)
set_elsewhere (y ∷ xs) zero (suc k) new other = refl
set_elsewhere (y ∷ xs) (suc index) zero new other = refl
set_elsewhere (y ∷ xs) (suc index) (suc k) new other = set_elsewhere xs index k new (λ same. other (ap suc same))

-- what a manager starts on
pub ground_of : (w : Managing) → Starts w → Ground w.scene.fabric w.seat
ground_of w starts =
    record {
      cables = starts.quiet.fabric.cables;
      counts = few_ports w.scene.fabric (along_itself w.scene.fabric starts.quiet.fabric).agents;
      can = swept_laws.can_be_swept w.scene.fabric starts.quiet.fabric w.seat starts.seat starts.distinct;
      cabled = swept_laws.is_cabled w.scene.fabric starts.quiet.fabric;
    }

-- the seats stay where they were
pub record SeatsStay (t0 t : Masters) : Type 0 where
  pub was : (which : ℕ) (m : Seated) → IsAt t which m → (n : Seated) × IsAt t0 which n × (n.seat ≡ m.seat)

pub seats_set : (t0 t : Masters) (which : ℕ) (m n : Seated) (scene : Scene) → SeatsStay t0 t → IsAt t which m → n.seat ≡ m.seat
    → SeatsStay t0 (record { scene = scene; managers = slice_set t.managers which n })
seats_set t0 t which m n scene stay there same =
    record {
      was = λ k x at. elim (set_at t.managers which k n x at) [
        | inl here ↦ let old = stay.was which m there in
            (old.0, subst (λ index. IsAt t0 index old.0) here.0 old.1, old.2 ∙ sym same ∙ ap (λ (y : Seated). y.seat) here.1)
        | inr other ↦ stay.was k x other.1
      ];
    }

-- two of them have two seats
pub still_apart : (t0 t : Masters) → StartTogether t0 → SeatsStay t0 t → (which other : ℕ) (m n : Seated) → IsAt t which m → IsAt t other n → m.seat ≡ n.seat
    → which ≡ other
still_apart t0 t starts stay which other m n there also same =
    let one = stay.was which m there in
    let two = stay.was other n also in
    starts.apart which other one.0 two.0 one.1 two.1 (one.2 ∙ same ∙ sym two.2)

module _ (held : Facts) (planning : Planning) (t0 : Masters) (h : ShareLids held planning t0) where
  abbrev pub IsSeat : NodePort → Type 0
  IsSeat seat = (which : ℕ) × (m : Seated) × IsAt t0 which m × (m.seat ≡ seat)

  -- what is known of a seat
  known_at : (which : ℕ) (m : Seated) → IsAt t0 which m → Known t0.scene held planning m.seat
  known_at which m there =
      let starts = h.starts.each which m there in
      record {
        has_room = h.has_room;
        agrees = h.agrees which m there;
        lids = h.lids which m there;
        begins = first_begins (seen_by t0.scene m) starts;
        ground = ground_of (seen_by t0.scene m) starts;
      }

  pub known : (seat : NodePort) → IsSeat seat → Known t0.scene held planning seat
  known seat (which, m, there, same) = subst (Known t0.scene held planning) same (known_at which m there)

  pub can : (seat : NodePort) → IsSeat seat → CanBeSwept (fabric_of t0.scene.fabric) seat
  can seat is = (known seat is).ground.can

  listed : (seat : NodePort) → IsSeat seat → AreListed t0.scene.fabric (plan_by_it planning held) (IsJoinedTo (fabric_of t0.scene.fabric) seat)
  listed seat is =
      are_listed planning.rule planning.lmc held t0.scene.fabric (IsJoinedTo (fabric_of t0.scene.fabric) seat) (known seat is).agrees

  pub cables : AreCables t0.scene.fabric
  cables = h.starts.quiet.fabric.cables

  pub counts : (id : ℕ) → port_count t0.scene.fabric id ≤ 254
  counts = few_ports t0.scene.fabric (along_itself t0.scene.fabric h.starts.quiet.fabric).agents

  -- what is joined to a seat holds the plan
  abbrev Holds : NodePort → Scene → Type 0
  Holds seat w = HeldOn t0.scene.fabric (plan_by_it planning held) (IsJoinedTo (fabric_of t0.scene.fabric) seat) w.fabric

  abbrev AllHeld : Masters → Type 0
  AllHeld t = (which : ℕ) (m : Seated) → IsAt t which m → Holds m.seat t.scene

  pub record AllStand (t : Masters) : Type 0 where
    pub stands : Stands t0.scene (plan_by_it planning held) IsSeat t.scene
    pub sides : (which : ℕ) (m : Seated) → IsAt t which m → Side t0.scene held planning t.scene m
    pub seats : SeatsStay t0 t

  pub is_seat : (t : Masters) → AllStand t → (which : ℕ) (m : Seated) → IsAt t which m → IsSeat m.seat
  is_seat t all which m there = let old = all.seats.was which m there in (which, old.0, old.1, old.2)

  on : (w : Scene) (event : Event) → Stands t0.scene (plan_by_it planning held) IsSeat w → CanHappen event
      → SentSo t0.scene (plan_by_it planning held) IsSeat event
      → Stands t0.scene (plan_by_it planning held) IsSeat (after_event w event)
  on w event st can_happen so = stands_on t0.scene (plan_by_it planning held) IsSeat cables counts can listed w event st can_happen so

  holds_on : (w : Scene) (event : Event) → Stands t0.scene (plan_by_it planning held) IsSeat w → CanHappen event
      → SentSo t0.scene (plan_by_it planning held) IsSeat event
      → (seat : NodePort) → IsSeat seat → Holds seat w → Holds seat (after_event w event)
  holds_on w event st can_happen so seat is now =
      held_on t0.scene (plan_by_it planning held) IsSeat cables counts can listed w event st can_happen so seat is now

  -- something happens on the fabric
  around : (t : Masters) (event : Event) → AllStand t → CanBe t (Around event) → SetsInfoOnly event → AllStand (after_masters_event t (Around event))
  around t event all can_be nothing =
      let stands = on t.scene event all.stands can_be.0 (others_so t0.scene (plan_by_it planning held) IsSeat event can_be.0 nothing) in
      record {
        stands = stands;
        sides = λ which m there. around_side t0.scene held planning t.scene m (all.sides which m there) (known m.seat (is_seat t all which m there)) event
            (can_be.0, can_be.1 which m there) all.stands.lids stands.lids;
        seats = record { was = all.seats.was };
      }

  -- a manager does something
  module _ (t : Masters) (all : AllStand t) (which : ℕ) (m : Seated) (there : IsAt t which m) (event : ManagerEvent) (its : IsItsOwn event)
      (can_be : one.CanBe m.seat event) (whole : WritesWhole m event) where
    side : Side t0.scene held planning t.scene m
    side = all.sides which m there

    known_here : Known t0.scene held planning m.seat
    known_here = known m.seat (is_seat t all which m there)

    -- what the scene is like then, and the others, to which it is what happens around them
    record Turns (scene : Scene) : Type 0 where
      pub stands : Stands t0.scene (plan_by_it planning held) IsSeat scene
      pub others : (k : ℕ) (n : Seated) → which ≢ k → IsAt t k n → Side t0.scene held planning scene n
      pub holds : (seat : NodePort) → IsSeat seat → Holds seat t.scene → Holds seat scene

    sends : (x : SendsOne (SendsSo t0.scene (plan_by_it planning held) IsSeat m.seat) m.seat t.scene
        (after_manager_event (seen_by t.scene m) event).scene) → Turns (after_event t.scene (SendFrom m.seat x.sending))
    sends x =
        let stands = on t.scene (SendFrom m.seat x.sending) all.stands x.can x.so in
        record {
          stands = stands;
          others = λ k n other at. around_side t0.scene held planning t.scene n (all.sides k n at) (known n.seat (is_seat t all k n at))
              (SendFrom m.seat x.sending)
              (x.can, λ same. other (still_apart t0 t h.starts all.seats which k m n there at same))
              all.stands.lids stands.lids;
          holds = holds_on t.scene (SendFrom m.seat x.sending) all.stands x.can x.so;
        }

    turns : Turns (after_manager_event (seen_by t.scene m) event).scene
    turns =
        elim (own_scene t0.scene.fabric m.seat (plan_by_it planning held) 0 side.plans.all (SendsSo t0.scene (plan_by_it planning held) IsSeat m.seat)
        (sending_so t0.scene (plan_by_it planning held) IsSeat m.seat (is_seat t all which m there) side.plans.all side.plans.known)
        (seen_by t.scene m) refl side.plans.out event its) [
          | inl same ↦ subst Turns (sym same) (record { stands = all.stands; others = λ k n other at. all.sides k n at; holds = λ seat is now. now })
          | inr x ↦ subst Turns x.is (sends x)
        ]

    own : AllStand (acting t which event (Some m))
    own =
        record {
          stands = turns.stands;
          sides = λ k n at. elim (set_at t.managers which k (seated_after m event (after_manager_event (seen_by t.scene m) event)) n at) [
            | inl here ↦ subst (Side t0.scene held planning (after_manager_event (seen_by t.scene m) event).scene) here.1
                (own_side t0.scene held planning t.scene m side known_here event its can_be whole all.stands.seen all.stands.lids turns.stands.lids)
            | inr other ↦ turns.others k n other.0 other.1
          ];
          seats = seats_set t0 t which m (seated_after m event (after_manager_event (seen_by t.scene m) event))
              (after_manager_event (seen_by t.scene m) event).scene all.seats there refl;
        }

    -- what is joined to the seats goes on holding the plan
    own_held : AllHeld t → AllHeld (acting t which event (Some m))
    own_held now k n at = elim (set_at t.managers which k (seated_after m event (after_manager_event (seen_by t.scene m) event)) n at) [
      | inl here ↦ subst (λ (x : Seated). Holds x.seat (after_manager_event (seen_by t.scene m) event).scene) here.1
          (turns.holds m.seat (is_seat t all which m there) (now which m there))
      | inr other ↦ turns.holds n.seat (is_seat t all k n other.1) (now k n other.1)
    ]

  acts : (t : Masters) (which : ℕ) (event : ManagerEvent) → AllStand t → CanBe t (At which event) → SweepsWhole t (At which event)
      → (o : Option Seated) → slice_get t.managers which ≡ o → AllStand (acting t which event o)
  acts t which event all can_be whole None there = all
  acts t which event all can_be whole (Some m) there =
      let may = can_be m there in own t all which m there event may.0 may.1 (whole m there)

  pub next : (t : Masters) (event : MastersEvent) → AllStand t → CanBe t event → SweepsWhole t event → AllStand (after_masters_event t event)
  next t (Around event) all can_be whole = around t event all can_be whole
  next t (At which event) all can_be whole = acts t which event all can_be whole (slice_get t.managers which) refl

  acts_held : (t : Masters) (which : ℕ) (event : ManagerEvent) → AllStand t → CanBe t (At which event) → SweepsWhole t (At which event)
      → (o : Option Seated) → slice_get t.managers which ≡ o → AllHeld t → AllHeld (acting t which event o)
  acts_held t which event all can_be whole None there now = now
  acts_held t which event all can_be whole (Some m) there now =
      let may = can_be m there in own_held t all which m there event may.0 may.1 (whole m there) now

  next_held : (t : Masters) (event : MastersEvent) → AllStand t → CanBe t event → SweepsWhole t event → AllHeld t → AllHeld (after_masters_event t event)
  next_held t (Around event) all can_be whole now = λ which m there.
      holds_on t.scene event all.stands can_be.0 (others_so t0.scene (plan_by_it planning held) IsSeat event can_be.0 whole) m.seat (is_seat t all which m there) (now which m there)
  next_held t (At which event) all can_be whole now = acts_held t which event all can_be whole (slice_get t.managers which) refl now

  -- at first ------------------------------------------------------------------------------------------------------

  side_first : (which : ℕ) (m : Seated) → IsAt t0 which m → Side t0.scene held planning t0.scene m
  side_first which m there =
      let starts = h.starts.each which m there in
      let none = h.starts.none_swept which m there in
      record {
        goes = subst (λ b. Goes t0.scene.fabric m.seat (plan_by_it planning held) (Old b) (seen_by t0.scene m)) (sym none.0)
            (starting (seen_by t0.scene m) starts (plan_by_it planning held));
        plans = first_plans (seen_by t0.scene m) starts (plan_by_it planning held);
        planning_is = h.plans which m there;
        swept = λ knows. absurd (cc (sym none.1 ∙ knows));
        follows = λ knows. absurd (cc (sym none.1 ∙ knows));
      }

  pub first_stand : AllStand t0
  first_stand =
      let quiet = h.starts.quiet in
      record {
        stands = record {
          traces = first_traces t0.scene (plan_by_it planning held) IsSeat quiet;
          seen = nothing_seen (HasLidsOf (fabric_of t0.scene.fabric)) t0.scene;
          lids = λ p. refl;
          has_lids = λ seat is. (known seat is).lids;
        };
        sides = side_first;
        seats = record { was = λ which m there. (m, there, refl) };
      }

  -- at a moment ----------------------------------------------------------------------------------------------------

  in_force : (t : Masters) → AllStand t → AllHeld t → AllInUse held planning t
  in_force t all now which m there =
      let is = is_seat t all which m there in
      let k = known m.seat is in
      in_use t0.scene.fabric m.seat (plan_by_it planning held) (listed m.seat is) k.ground planning.rule planning.lmc held h.has_room refl k.agrees
      (seat_end (first_of t0.scene m.seat 1 false) 1 1 (k.begins 1 (omega arith, omega arith) false)) t.scene all.stands.traces.continues (now which m there)

  -- what holds the plan now is what was there at first
  held_of : (t : Masters) → AllStand t → AllHold held planning t → AllHeld t
  held_of t all holds which m there =
      held_of_now t0.scene.fabric t.scene.fabric (plan_by_it planning held) m.seat all.stands.traces.continues.fabric.along (holds which m there)

  -- what a manager would write
  pub plans_the_same : (t : Masters) → AllStand t → (which : ℕ) (m : Seated) → IsAt t which m → m.knows_one_sweep ≡ true → IsWholeSweep m.manager.sweep
      → plan_at (seen_by t.scene m) ≡ plan_by_it planning held
  plans_the_same t all which m there knows whole =
      let side = all.sides which m there in
      same_plan t0.scene held planning m.seat (known m.seat (is_seat t all which m there)) (seen_by t.scene m) (side.follows knows) side.planning_is whole

  along : (events : List MastersEvent) (t : Masters) → AllStand t → AllCanBe events t → AllSweepWhole events t → AllHeld t
      → InUseAlong held planning events t
  along [] t all can_be whole now = in_force t all now
  along (event ∷ events) t all can_be whole now = (
    in_force t all now,
    along events (after_masters_event t event) (next t event all can_be.0 whole.0) can_be.1 whole.1 (next_held t event all can_be.0 whole.0 now),
  )

  pub after_all : (events : List MastersEvent) (t : Masters) → AllStand t → AllCanBe events t → AllSweepWhole events t
      → AllStand (after_masters_events events t)
  after_all [] t all can_be whole = all
  after_all (event ∷ events) t all can_be whole =
      after_all events (after_masters_event t event) (next t event all can_be.0 whole.0) can_be.1 whole.1

  -- once it is held
  along_from : (before after : List MastersEvent) (t : Masters) → AllStand t → AllCanBe (before ++ after) t → AllSweepWhole (before ++ after) t
      → AllHold held planning (after_masters_events before t) → InUseAlong held planning after (after_masters_events before t)
  along_from [] after t all can_be whole holds = along after t all can_be whole (held_of t all holds)
  along_from (event ∷ before) after t all can_be whole holds =
      along_from before after (after_masters_event t event) (next t event all can_be.0 whole.0) can_be.1 whole.1 holds

  pub ends : (events : List MastersEvent) → AllCanBe events t0 → AllSweepWhole events t0 → AllStand (after_masters_events events t0)
  ends events can_be whole = after_all events t0 first_stand can_be whole

  pub stays_in_use : (before after : List MastersEvent) → AllCanBe (before ++ after) t0 → AllSweepWhole (before ++ after) t0
      → AllHold held planning (after_masters_events before t0) → InUseAlong held planning after (after_masters_events before t0)
  stays_in_use before after can_be whole holds = along_from before after t0 first_stand can_be whole holds

pub masters_keep_lids : MastersKeepLids
masters_keep_lids facts planning t events h can_be whole = (ends facts planning t h events can_be whole).stands.lids

pub masters_write_the_same : MastersWriteTheSame
masters_write_the_same facts planning t events h can_be whole which m there knows answered =
    plans_the_same facts planning t h (after_masters_events events t) (ends facts planning t h events can_be whole) which m there knows answered

pub masters_change_nothing : MastersChangeNothing
masters_change_nothing facts planning t before after h can_be whole holds = stays_in_use facts planning t h before after can_be whole holds
