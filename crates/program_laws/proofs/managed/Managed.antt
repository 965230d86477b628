-- A manager that decides by itself is a manager at its seat.
use Rattle.std.proofs.Common.{◌≡◌, ◌∙◌, ◌++◌, [], ◌∷◌, refl, sym, subst}
use Rattle.std.specs.List.{AllByRecursion}
use Rattle.manager_laws.specs.Managing.{CanBe, Managing, ManagerEvent, after_manager_events}
use Rattle.manager_laws.proofs.RunParts.{events_behind}
use Rattle.program_laws.specs.Deciding.{CanDecide, DecidingEvent, DecidingIsManaging, NewOnesStand, StandsFor}
use Rattle.program_laws.specs.Deciding.{after_deciding_event, after_deciding_events}
use Rattle.program_laws.proofs.managed.Moves.{both}
use Rattle.program_laws.proofs.managed.Staged.{seat_stays}
use Rattle.program_laws.proofs.managed.Steps.{Allows, step_leads, stepped}

-- any event is allowed
abbrev IsAny : ManagerEvent → Type 0
IsAny event = Unit {0}

any : (event : DecidingEvent) → Allows IsAny event
any (DecidingEvent.Around event) = tt
any (DecidingEvent.Tell time what) = tt
any (DecidingEvent.Hear time which) = tt
any (DecidingEvent.Send which) = λ k. tt

pub deciding_is_managing : DecidingIsManaging
deciding_is_managing w d [] s can = record { events = []; can_be = tt; stands = s }
deciding_is_managing w d (event ∷ events) s can =
    let d' = after_deciding_event d event in
    let first = step_leads w d d' IsAny (stepped IsAny w d s event can.0 (any event)) in
    let w' = after_manager_events first.events w in
    let stays : d'.seat ≡ d.seat = seat_stays event d in
    let later = deciding_is_managing w' d' events first.stands
    (subst (λ seat. AllByRecursion (CanDecide seat) events) (sym stays) can.1) in
    let here : w'.seat ≡ w.seat = first.stands.seat ∙ stays ∙ sym s.seat in
    record {
      events = first.events ++ later.events;
      can_be = both (CanBe w.seat) first.events later.events first.can_be
          (subst (λ seat. AllByRecursion (CanBe seat) later.events) here later.can_be);
      stands = subst (λ (v : Managing). StandsFor v (after_deciding_events events d')) (sym (events_behind first.events later.events w))
          later.stands;
    }

pub new_ones_stand : NewOnesStand
new_ones_stand w timing limits newest h = record {
  scene = refl;
  seat = refl;
  manager = refl;
  printed = tt;
  held = record { queued = tt; outs = tt; ready = tt };
  newest = h;
}
