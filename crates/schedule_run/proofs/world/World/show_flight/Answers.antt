use Rattle.std.proofs.Common.{◌∙◌, ◌+◌, ◌≤◌, Ok, length, ap, arith, subst, sym}
use Rattle.std.specs.Option.{option_copied}
use Rattle.byte_io.specs.Writes.{Writes}
use Rattle.fabric_model.specs.declared.cable.NodePort.{NodePort}
use Rattle.schedule_run.specs.Commands.{flight_shown}
use Rattle.schedule_lines.specs.Lines.{flight_line}
use Rattle.schedule_lines.specs.Outcome.{Outcome, shows}
use Rattle.schedule_lines.proofs.Present.{is_present}
use Rattle.byte_io.proofs.Writing.{wrote}
use Rattle.schedule_lines.proofs.Printing.{IsUnderWay, goes_on, is_over}
use Rattle.schedule_lines.proofs.LinesFrom.{lines_from, lines_next, lines_none}
use Rattle.schedule_run.proofs.world.World.show_flight.Goals as goal

pub loop-i-preserved : goal.loop-i-preserved
loop-i-preserved g c =
    let flights = c.args.self.now.fabric.flights in
    let x = c.unwrap-flight.result.now in
    let i = c.loop-i.i in
    let nodes = c.args.topology.now.nodes in
    let whole = lines_from (flight_shown nodes) flights 0 in
    let Under : Outcome (Unit {0}) → Type 0 = λ outcome. IsUnderWay g.W.Sink.written g.W.Sink.has_failed c.args.sink.now c.loop-i.sink whole outcome in
    let Written : NodePort → Type 0 = λ p. Writes g.W.Sink.written g.W.Sink.has_failed (Ok c.in_ok-write_flight.field-0) c.loop-i.sink c.write_flight.new.sink
    (flight_line nodes x.serial p.node) in
    goes_on g.W.Sink.written g.W.Sink.has_failed c.args.sink.now c.loop-i.sink c.write_flight.new.sink whole (shows (flight_shown nodes x) tt)
    (λ u. lines_from (flight_shown nodes) flights (i + 1))
    (subst Under (lines_next (flight_shown nodes) flights i x (sym c.in_flight.ensures ∙ ap option_copied c.unwrap-flight.ensures)) c.loop-i.invariant)
    (wrote g.W.Sink.written g.W.Sink.has_failed c.in_ok-write_flight.field-0 c.loop-i.sink c.write_flight.new.sink (flight_shown nodes x)
    (subst Written c.port.ensures c.in_ok-write_flight.ensures.writes))

pub returns : goal.returns
returns g c =
    let flights = c.args.self.now.fabric.flights in
    let all : length flights ≤ c.loop-i.i = omega (arith, c.flight_count-i-end.ensures) in
    record {
      prints = is_over g.W.Sink.written g.W.Sink.has_failed c.args.sink.now c.loop-i.sink (lines_from (flight_shown c.args.topology.now.nodes) flights 0) _
          c.loop-i.invariant
          (ap (λ r. r.text) (lines_none (flight_shown c.args.topology.now.nodes) flights c.loop-i.i all));
    }

pub unwrap-flight-requires : goal.unwrap-flight-requires
unwrap-flight-requires g c =
    is_present c.args.self.now.fabric.flights c.in_flight.result c.loop-i.i c.in_flight.ensures
    (omega (arith, c.loop-i-test.true, c.flight_count-i-end.ensures))
