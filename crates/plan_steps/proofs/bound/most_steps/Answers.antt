-- Each cell that the walk gives is the store's, and with the last one all are counted.
use Rattle.std.proofs.Common.{◌≡◌, ◌+◌, ◌*◌, ◌-◌, ◌^◌, length, subst, arith}
use Rattle.std.specs.Prelude.{min}
use Rattle.std.specs.List.{filter_map}
use Rattle.fact_store.specs.View.{cells_of}
use Rattle.subnet_view.specs.Reading.{usable_guid}
use Rattle.plan_steps.specs.Bound.{most_steps}
use Rattle.fact_store.specs.Iter.{cells_left}
use Rattle.subnet_view.proofs.Walks.{cell_given}
use Rattle.plan_steps.proofs.bound.most_steps.Goals as goal

pub usable_guid-requires : goal.usable_guid-requires
usable_guid-requires c =
    cell_given c.args.store.now c.loop-sighting.yielded (cells_left c.loop-sighting.sighting-iterator) (cells_left c.next.new.self) c.in-Some.sighting
    c.loop-sighting.invariant.1 c.in-Some.ensures.steps

pub returns : goal.returns
returns c =
    let cells = cells_of c.args.store.now in
    let counted =
    subst (λ rest. min (c.loop-sighting.most + 768 * length (filter_map (usable_guid cells) rest)) (2 ^ 64 - 1) ≡ min (most_steps cells) (2 ^ 64 - 1))
    c.in-None.ensures.steps.0 c.loop-sighting.invariant.0 in
    omega (arith, counted, c.loop-sighting.invariant.2)
