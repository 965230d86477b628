-- Each cell that the walk gives is the store's, and may bring a nearer end port.
use Rattle.std.proofs.Common.{◌≡◌, ℕ, ◌∷◌, [], ◌++◌, sym, ap, ◌∙◌, subst, append-nil}
use Rattle.std.specs.Prelude.{Option, None, Some}
use Rattle.std.specs.List.{filter_map}
use Rattle.fact_store.specs.View.{cells_of}
use Rattle.fact_store.specs.Iter.{cells_left}
use Rattle.subnet_view.specs.declared.end_port.EndPort.{EndPort}
use Rattle.subnet_view.specs.Reading.{Cells}
use Rattle.subnet_view.specs.EndPort.{guid_and_port}
use Rattle.subnet_view.proofs.NextEndPort.{IsNext, passed, met, next_is_first}
use Rattle.subnet_view.proofs.Walks.{cell_given, given_more}
use Rattle.subnet_view.proofs.end_port_after.next_end_port.Goals as goal

pub guid_and_port-requires : goal.guid_and_port-requires
guid_and_port-requires c = cell_given c.args.store.now c.loop-sighting.yielded (cells_left c.loop-sighting.sighting-iterator)
    (cells_left c.next.new.self) c.in-Some.sighting c.loop-sighting.invariant.1 c.in-Some.ensures.steps

pub loop-sighting-preserved-in-Some-guid_and_port : goal.loop-sighting-preserved-in-Some-guid_and_port
loop-sighting-preserved-in-Some-guid_and_port c =
    let left = cells_left c.loop-sighting.sighting-iterator in
    let rest = cells_left c.next.new.self in
    let ends = filter_map (guid_and_port (cells_of c.args.store.now)) (c.loop-sighting.yielded ++ c.in-Some.sighting ∷ []) in (
      subst (λ (o : Option (ℕ × EndPort)). IsNext c.args.last ends o) (sym c.nearer-next.ensures)
          (met c.args.store.now c.loop-sighting.yielded left rest c.in-Some.sighting c.loop-sighting.invariant.1 c.in-Some.ensures.steps c.args.last
          c.loop-sighting.next
          c.in-Some-guid_and_port.end c.in-Some-guid_and_port.ensures c.loop-sighting.invariant.0),
      given_more (cells_of c.args.store.now) c.loop-sighting.yielded left rest c.in-Some.sighting c.loop-sighting.invariant.1 c.in-Some.ensures.steps,
    )

-- what is not something is nothing
nothing : {X : Type 0} (o : Option X) → ((x : X) → o ≡ Some x → ⊥) → o ≡ None
nothing None h = λ i. None
nothing {X} (Some x) h = absurd (h x (λ i. Some x))

pub loop-sighting-preserved : goal.loop-sighting-preserved
loop-sighting-preserved c =
    let left = cells_left c.loop-sighting.sighting-iterator in
    let rest = cells_left c.next.new.self in (
      passed c.args.store.now c.loop-sighting.yielded left rest c.in-Some.sighting c.loop-sighting.invariant.1 c.in-Some.ensures.steps c.args.last
          c.loop-sighting.next
          (sym c.guid_and_port.ensures ∙ nothing c.guid_and_port.result c.in_default.not-Some) c.loop-sighting.invariant.0,
      given_more (cells_of c.args.store.now) c.loop-sighting.yielded left rest c.in-Some.sighting c.loop-sighting.invariant.1 c.in-Some.ensures.steps,
    )

pub returns : goal.returns
returns c =
    let all : c.loop-sighting.yielded ≡ cells_of c.args.store.now = sym (append-nil c.loop-sighting.yielded)
    ∙ ap (λ (cs : Cells). c.loop-sighting.yielded ++ cs) (sym c.in-None.ensures.steps.0) ∙ c.loop-sighting.invariant.1 in
    next_is_first c.args.store.now c.args.last c.loop-sighting.next
    (subst (λ (cs : Cells). IsNext c.args.last (filter_map (guid_and_port (cells_of c.args.store.now)) cs) c.loop-sighting.next) all
    c.loop-sighting.invariant.0)
