use Rattle.std.proofs.Common.{◌∙◌, List, ap, subst}
use Rattle.std.specs.List.{flat_map}
use Rattle.acting_manager.specs.Acting.{value_of}
use Rattle.sm_manager.specs.declared.outgoing.Outgoing.{Outgoing}
use Rattle.schedule_lines.specs.Outcome.{shows}
use Rattle.byte_io.proofs.Writing.{wrote}
use Rattle.schedule_lines.proofs.Printing.{IsUnderWay, goes_on, is_over}
use Rattle.serve_run.specs.Served.{send_line}
use Rattle.serve_run.proofs.Taken.{fewer_taken, first_taken, none_ready, none_taken, unready}
use Rattle.serve_run.proofs.Turns.{told}
use Rattle.serve_run.proofs.decided.send_ready.Goals as goal

pub loop-outgoing-preserved : goal.loop-outgoing-preserved
loop-outgoing-preserved g c =
    let out = c.in-Some.outgoing in
    let now = value_of c.loop-outgoing.acting in
    let left = value_of c.take_packet.new.self in
    let whole = told send_line (value_of c.args.acting.now).ready in
    let Under : List Outgoing → Type 0 = λ queue. IsUnderWay g.W.Sink.written g.W.Sink.has_failed c.args.sink.now c.loop-outgoing.sink whole (told send_line queue) in
    record {
      sends = goes_on g.W.Sink.written g.W.Sink.has_failed c.args.sink.now c.loop-outgoing.sink c.write_outgoing.new.sink whole
          (shows (send_line out) tt) (λ u. told send_line left.ready)
          (subst Under (first_taken now.ready left.ready out c.in-Some.ensures.packet (ap (λ a. a.ready) c.in-Some.ensures.rest)) c.loop-outgoing.invariant.sends)
          (wrote g.W.Sink.written g.W.Sink.has_failed _ c.loop-outgoing.sink c.write_outgoing.new.sink (send_line out) c.in_ok-write_outgoing.ensures.writes);
      keeps = ap unready c.in-Some.ensures.rest ∙ c.loop-outgoing.invariant.keeps;
    }

pub loop-outgoing-smaller : goal.loop-outgoing-smaller
loop-outgoing-smaller g c =
    let now = value_of c.loop-outgoing.acting in
    let left = value_of c.take_packet.new.self in
    fewer_taken now.ready left.ready c.in-Some.outgoing
    (first_taken now.ready left.ready c.in-Some.outgoing c.in-Some.ensures.packet (ap (λ a. a.ready) c.in-Some.ensures.rest))

pub returns-clause-acting : goal.returns-clause-acting
returns-clause-acting g c =
    none_ready (value_of c.loop-outgoing.acting) (value_of c.take_packet.new.self) c.in_default.ensures.packet c.in_default.ensures.rest
    ∙ c.loop-outgoing.invariant.keeps

pub returns-clause-prints : goal.returns-clause-prints
returns-clause-prints g c =
    is_over g.W.Sink.written g.W.Sink.has_failed c.args.sink.now c.loop-outgoing.sink (told send_line (value_of c.args.acting.now).ready) _
    c.loop-outgoing.invariant.sends (ap (flat_map send_line) (none_taken (value_of c.loop-outgoing.acting).ready c.in_default.ensures.packet))
