-- All cells are counted, and those that are no end port's are taken away again.
use Rattle.std.proofs.Common.{sym, ap, ◌∙◌, subst, arith, length}
use Rattle.std.proofs.lemmas.List.{length-map}
use Rattle.std.specs.List.{filter_map}
use Rattle.fact_store.specs.View.{cells_of}
use Rattle.fact_store.specs.Iter.{cells_left}
use Rattle.subnet_view.specs.EndPort.{guid_and_port, in_order}
use Rattle.subnet_view.proofs.Counting.{CountedTo, is_None, length_in_order, one_counted, one_fewer}
use Rattle.subnet_view.proofs.Walks.{cell_given, given_more}
use Rattle.subnet_view.proofs.end_port.count_end_ports.Goals as goal

pub loop-sighting-init : goal.loop-sighting-init
loop-sighting-init c =
    let cells = cells_of c.args.store.now in
    let left = ap cells_left c.into_iter-sighting-iterator.ensures.into_iter_gives ∙ c.cells-sighting-items.ensures.cells in
    (omega (arith, c.count-count.ensures.exact, ap length left, ap (λ xs. length (filter_map (guid_and_port cells) xs)) left), left)

pub overflow_sub-count : goal.overflow_sub-count
overflow_sub-count c =
    let f = guid_and_port (cells_of c.args.store.now) in
    let all = length (filter_map f (cells_of c.args.store.now)) in
    one_counted f c.in-Some.sighting (cells_left c.next.new.self) c.loop-sighting.count all (sym c.guid_and_port.ensures
    ∙ is_None c.guid_and_port.result c.if-is_none.ensures)
    (subst (λ rest. CountedTo f c.loop-sighting.count rest all) c.in-Some.ensures.steps c.loop-sighting.invariant.0)

pub loop-sighting-preserved-then-is_none : goal.loop-sighting-preserved-then-is_none
loop-sighting-preserved-then-is_none c =
    let f = guid_and_port (cells_of c.args.store.now) in
    let all = length (filter_map f (cells_of c.args.store.now)) in (
      one_fewer f c.in-Some.sighting (cells_left c.next.new.self) c.loop-sighting.count all (sym c.guid_and_port.ensures
          ∙ is_None c.guid_and_port.result c.if-is_none.ensures)
          (subst (λ rest. CountedTo f c.loop-sighting.count rest all) c.in-Some.ensures.steps c.loop-sighting.invariant.0),
      given_more (cells_of c.args.store.now) c.loop-sighting.yielded (cells_left c.loop-sighting.sighting-iterator)
          (cells_left c.next.new.self) c.in-Some.sighting c.loop-sighting.invariant.1 c.in-Some.ensures.steps,
    )

pub guid_and_port-requires : goal.guid_and_port-requires
guid_and_port-requires c = cell_given c.args.store.now c.loop-sighting.yielded (cells_left c.loop-sighting.sighting-iterator)
    (cells_left c.next.new.self) c.in-Some.sighting c.loop-sighting.invariant.1 c.in-Some.ensures.steps

pub returns : goal.returns
returns c =
    let cells = cells_of c.args.store.now in
    let found = filter_map (guid_and_port cells) cells in
    let counted = subst (λ rest. CountedTo (guid_and_port cells) c.loop-sighting.count rest
    (length found)) c.in-None.ensures.steps.0 c.loop-sighting.invariant.0 in
    omega (arith, counted, length_in_order found, length-map (in_order found) (λ e. e.1))
