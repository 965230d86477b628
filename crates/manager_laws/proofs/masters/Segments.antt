-- What one of several managers does while they do some things, one after the other.
use Rattle.std.proofs.Common.{◌≡◌, ◌≢◌, ◌⊎◌, inl, inr, ℕ, Bool, true, false, List, [], ◌∷◌, refl, sym, ap, ◌∙◌, subst}
use Rattle.std.proofs.lemmas.Bool.{eqb-true, eqb-false}
use Rattle.std.proofs.lemmas.List.Elements.{All-nil, All-cons}
use Rattle.std.specs.Prelude.{Option, Some, None, All, slice_get, ◌==◌}
use Rattle.fact_store.specs.View.{Facts}
use Rattle.lft_blocks.specs.Planning.{Planning}
use Rattle.manager_laws.specs.Scene.{Event, Send as SendFrom}
use Rattle.manager_laws.specs.Managing as one
use Rattle.manager_laws.specs.Managing.{Managing, ManagerEvent, AllAlong, after_manager_event, after_manager_events}
use Rattle.manager_laws.specs.Takeover.{plan_by_it}
use Rattle.manager_laws.specs.Masters.{AllCanBe, Around, At, CanBe, IsAt, Masters, MastersEvent, Seated, acting, after_masters_event, after_masters_events}
use Rattle.manager_laws.specs.Masters.{seated_after, seen_by}
use Rattle.manager_laws.specs.StaysInForce.{AllSweepWhole, ShareLids}
use Rattle.manager_laws.proofs.masters.Side.{own_scene, view_after}
use Rattle.manager_laws.proofs.masters.Together.{AllStand, next, set_elsewhere, set_there, still_apart}

-- something happens around it
abbrev pub IsAround : ManagerEvent → Type 0
IsAround e = (event : Event) × (e ≡ one.Around event)

-- by one event of several managers one of them does nothing, or this
pub record OneStep (t : Masters) (event : MastersEvent) (which : ℕ) (m : Seated) : Type 0 where
  pub next : Seated
  pub there : IsAt (after_masters_event t event) which next
  pub seat : next.seat ≡ m.seat
  pub how : (seen_by (after_masters_event t event).scene next ≡ seen_by t.scene m)
      ⊎ ((e : ManagerEvent) × one.CanBe m.seat e
      × (after_manager_event (seen_by t.scene m) e ≡ seen_by (after_masters_event t event).scene next)
      × (IsAround e ⊎ (event ≡ At which e)))

-- an event of its own
pub record OwnStep (t : Masters) (which : ℕ) (m : Seated) (e : ManagerEvent) : Type 0 where
  pub next : Seated
  pub there : IsAt (after_masters_event t (At which e)) which next
  pub seat : next.seat ≡ m.seat
  pub is : after_manager_event (seen_by t.scene m) e ≡ seen_by (after_masters_event t (At which e)).scene next

pub own_step : (t : Masters) (which : ℕ) (m : Seated) (e : ManagerEvent) → IsAt t which m → OwnStep t which m e
own_step t which m e there =
    let w = after_manager_event (seen_by t.scene m) e in
    let acted : acting t which e (slice_get t.managers which) ≡ acting t which e (Some m) = ap (acting t which e) there in
    record {
      next = seated_after m e w;
      there = ap (λ (x : Masters). slice_get x.managers which) acted ∙ set_there t.managers which (seated_after m e w) m there;
      seat = refl;
      is = sym (view_after t.scene m e) ∙ ap (λ (x : Masters). seen_by x.scene (seated_after m e w)) (sym acted);
    }

pub record Segment (Ok : Managing → ManagerEvent → Type 0) (t after : Masters) (which : ℕ) (m : Seated) : Type 0 where
  pub events : List ManagerEvent
  pub can_be : All (one.CanBe m.seat) events
  pub later : Seated
  pub there : IsAt after which later
  pub seat : later.seat ≡ m.seat
  pub is : after_manager_events events (seen_by t.scene m) ≡ seen_by after.scene later
  pub along : AllAlong Ok events (seen_by t.scene m)

module _ (facts : Facts) (planning : Planning) (t0 : Masters) (h : ShareLids facts planning t0) where
  pub one_step : (t : Masters) (event : MastersEvent) → AllStand facts planning t0 h t → CanBe t event → (which : ℕ) (m : Seated) → IsAt t which m
      → OneStep t event which m
  one_step t (Around event) all can_be which m there =
      record {
        next = m;
        there = there;
        seat = refl;
        how = inr (one.Around event, (can_be.0, can_be.1 which m there), refl, inl (event, refl));
      }
  one_step t (At other own) all can_be which m there = by_index (which == other) refl
    where
      its : which ≡ other → OneStep t (At other own) which m
      its same =
          let can_own = (can_be m (ap (slice_get t.managers) (sym same) ∙ there)).1 in
          let s = own_step t which m own there in
          subst (λ k. OneStep t (At k own) which m) same
          (record { next = s.next; there = s.there; seat = s.seat; how = inr (own, can_own, s.is, inr refl) })

      -- another one does it
      beside : which ≢ other → (o : Option Seated) → slice_get t.managers other ≡ o
          → IsAt (acting t other own o) which m
          × ((seen_by (acting t other own o).scene m ≡ seen_by t.scene m)
          ⊎ ((e : ManagerEvent) × one.CanBe m.seat e × (after_manager_event (seen_by t.scene m) e ≡ seen_by (acting t other own o).scene m)
          × (IsAround e ⊎ (At other own ≡ At which e))))
      beside differs None at = (there, inl refl)
      beside differs (Some n) at = (
        set_elsewhere t.managers other which (seated_after n own (after_manager_event (seen_by t.scene n) own)) (λ same. differs (sym same)) ∙ there,
        elim (own_scene t0.scene.fabric n.seat (plan_by_it planning facts) n.manager.counter [] (λ s. Unit {0}) (λ s is. tt) (seen_by t.scene n) refl
            (all.sides other n at).goes.fair.out own (can_be n at).0) [
              | inl same ↦ inl (ap (λ s. seen_by s m) same)
              | inr x ↦ inr (
                one.Around (SendFrom n.seat x.sending),
                (x.can, λ same. differs (sym (still_apart t0 t h.starts all.seats other which n m at there same))),
                ap (λ s. seen_by s m) x.is,
                inl (SendFrom n.seat x.sending, refl),
              )
            ],
      )

      by_index : (b : Bool) → (which == other) ≡ b → OneStep t (At other own) which m
      by_index true e = its (eqb-true _ _ e)
      by_index false e =
          let b = beside (eqb-false _ _ e) (slice_get t.managers other) refl in
          record { next = m; there = b.0; seat = refl; how = b.1 }

  -- some events one after the other
  module _ (which : ℕ) (Ok : Managing → ManagerEvent → Type 0) (Fine : MastersEvent → Masters → Type 0) (AllFine : List MastersEvent → Masters → Type 0)
      (parts : (event : MastersEvent) (events : List MastersEvent) (t : Masters) → AllFine (event ∷ events) t
      → Fine event t × AllFine events (after_masters_event t event))
      (fine : (t : Masters) (event : MastersEvent) → AllStand facts planning t0 h t → Fine event t → (m : Seated) → IsAt t which m → (e : ManagerEvent)
      → IsAround e ⊎ (event ≡ At which e) → Ok (seen_by t.scene m) e) where
    pub segment : (events : List MastersEvent) (t : Masters) → AllStand facts planning t0 h t → AllCanBe events t → AllSweepWhole events t → AllFine events t
        → (m : Seated) → IsAt t which m → Segment Ok t (after_masters_events events t) which m
    segment [] t all can_be whole its m there =
        record { events = []; can_be = All-nil (one.CanBe m.seat); later = m; there = there; seat = refl; is = refl; along = tt }
    segment (event ∷ events) t all can_be whole its m there =
        let both = parts event events t its in
        let s = one_step t event all can_be.0 which m there in
        let rest = segment events (after_masters_event t event) (next facts planning t0 h t event all can_be.0 whole.0) can_be.1 whole.1 both.1 s.next s.there in
        let rest_can = subst (λ p. All (one.CanBe p) rest.events) s.seat rest.can_be in
        elim s.how [
          | inl same ↦ record {
            events = rest.events;
            can_be = rest_can;
            later = rest.later;
            there = rest.there;
            seat = rest.seat ∙ s.seat;
            is = ap (after_manager_events rest.events) (sym same) ∙ rest.is;
            along = subst (AllAlong Ok rest.events) same rest.along;
          }
          | inr (e, can_e, is, kind) ↦ record {
            events = e ∷ rest.events;
            can_be = All-cons (one.CanBe m.seat) e rest.events can_e rest_can;
            later = rest.later;
            there = rest.there;
            seat = rest.seat ∙ s.seat;
            is = ap (after_manager_events rest.events) is ∙ rest.is;
            along = (fine t event all both.0 m there e kind, subst (AllAlong Ok rest.events) (sym is) rest.along);
          }
        ]
