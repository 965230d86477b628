use Rattle.std.proofs.Common.{◌≡◌, ◌∙◌, map, ap, rules}
use Rattle.std.specs.Option.{option_map_or}
use Rattle.schedule_file.specs.Manner.{newest_of}
use Rattle.serve_run.specs.Acting.{value_of as acting_value}
use Rattle.std.proofs.lemmas.List.{map-append, take_all}
use Rattle.schedule_run.specs.Commands.{new_decider}
use Rattle.schedule_run.specs.World.{decider_value}
use Rattle.schedule_run.proofs.Seating.{decides, one_more}
use Rattle.schedule_run.proofs.world.decide_all.Goals as goal

pub loop-seat-preserved : goal.loop-seat-preserved
loop-seat-preserved c =
    let nodes = c.args.topology.now.nodes in
    let seat = c.seat-item.result in
    let given : c.unwrap_or-newest.result ≡ option_map_or (λ newest. newest) (newest_of seat.manner) 0 = search rules in
    ap (map decider_value) c.in_ok-push.ensures.items ∙ map-append decider_value c.loop-seat.deciders.items _
    ∙ one_more (new_decider c.args.planning.now nodes) c.args.seats.now c.loop-seat.seat-index seat (map decider_value c.loop-seat.deciders.items) _
    c.loop-seat-test.true c.seat-item.is c.loop-seat.invariant
    (decides c.args.planning.now nodes seat c.in_ok-manager.manager c.unwrap_or-newest.result (acting_value c.new-acting.result) c.in_ok-manager.ensures given
    c.new-acting.ensures)

pub returns : goal.returns
returns c =
    let nodes = c.args.topology.now.nodes in
    c.loop-seat.invariant ∙ ap (map (new_decider c.args.planning.now nodes)) (take_all c.loop-seat.seat-index c.args.seats.now c.loop-seat-test.false)
