use Rattle.std.proofs.Common.{◌∙◌, map, ap}
use Rattle.std.proofs.lemmas.List.{map-append, take_all}
use Rattle.schedule_run.specs.Commands.{new_seated}
use Rattle.schedule_run.specs.World.{seated_value}
use Rattle.schedule_run.proofs.Seating.{is_seated, one_more}
use Rattle.schedule_run.proofs.world.seat_all.Goals as goal

pub loop-seat-preserved : goal.loop-seat-preserved
loop-seat-preserved c =
    let nodes = c.args.topology.now.nodes in
    let seat = c.seat-item.result in
    ap (map seated_value) c.in_ok-push.ensures.items ∙ map-append seated_value c.loop-seat.managers.items _
    ∙ one_more (new_seated c.args.planning.now nodes) c.args.seats.now c.loop-seat.seat-index seat (map seated_value c.loop-seat.managers.items) _
    c.loop-seat-test.true c.seat-item.is c.loop-seat.invariant
    (is_seated c.args.planning.now nodes seat c.in_ok-manager.manager c.in_ok-manager.ensures)

pub returns : goal.returns
returns c =
    let nodes = c.args.topology.now.nodes in
    c.loop-seat.invariant ∙ ap (map (new_seated c.args.planning.now nodes)) (take_all c.loop-seat.seat-index c.args.seats.now c.loop-seat-test.false)
