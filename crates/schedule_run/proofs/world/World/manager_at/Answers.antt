use Rattle.std.proofs.Common.{◌≡◌, ◌∙◌, ℕ, ◌<◌, List, below_more, false, get_or, length, map, ap, arith, subst, sym}
use Rattle.std.proofs.lemmas.List.{length-map}
use Rattle.std.proofs.lemmas.Option.{get_or_from_slice_get}
use Rattle.fabric_model.specs.Cables.{is_same_port}
use Rattle.schedule_run.specs.World.{SeatedValue, seated_value, value_of}
use Rattle.schedule_run.specs.declared.world.Seated.{Seated}
use Rattle.schedule_run.proofs.Seats.{found_at, none_at, sits}
use Rattle.schedule_run.proofs.world.World.manager_at.Goals as goal

pub returns-then-eq-clause-seat : goal.returns-then-eq-clause-seat
returns-then-eq-clause-seat c =
    let items = c.args.self.now.managers.items in
    let seat = c.loop-seat.seat in
    let s = c.seated-item.result in
    let same = c.deref-seated-items.ensures.value in
    let there = sits items seat s (subst (λ (xs : List Seated). seat < length xs) same c.loop-seat-test.true)
    (subst (λ (xs : List Seated). s ≡ get_or xs seat s) same c.seated-item.is) in
    found_at (value_of c.args.self.now) c.args.port.now seat (seated_value s) (sym c.is_seat.ensures.seat ∙ c.if-not-is_seat.false) there
    (sym c.eq.ensures ∙ c.if-eq.true) c.loop-seat.invariant

pub loop-seat-preserved : goal.loop-seat-preserved
loop-seat-preserved c =
    let items = c.args.self.now.managers.items in
    let seat = c.loop-seat.seat in
    let s = c.seated-item.result in
    let same = c.deref-seated-items.ensures.value in
    let there = sits items seat s (subst (λ (xs : List Seated). seat < length xs) same c.loop-seat-test.true)
    (subst (λ (xs : List Seated). s ≡ get_or xs seat s) same c.seated-item.is) in
    let Other : ℕ → Type 0 = λ k. (d : SeatedValue) → is_same_port (get_or (map seated_value items) k d).at c.args.port.now ≡ false in
    λ k d h. below_more Other seat (λ k h d. c.loop-seat.invariant k d h)
    (λ d. ap (λ x. is_same_port x.at c.args.port.now) (get_or_from_slice_get (map seated_value items) seat (seated_value s) d there)
    ∙ sym c.eq.ensures ∙ c.if-eq.false) k h d

pub returns-clause-seat : goal.returns-clause-seat
returns-clause-seat c =
    let items = c.args.self.now.managers.items in
    none_at (value_of c.args.self.now) c.args.port.now (sym c.is_seat.ensures.seat ∙ c.if-not-is_seat.false)
    (λ k d h. c.loop-seat.invariant k d (omega (arith, length-map items seated_value, ap length c.deref-seated-items.ensures.value)))
