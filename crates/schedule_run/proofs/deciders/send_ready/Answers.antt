use Rattle.std.proofs.Common.{◌∙◌, sym, ap, subst}
use Rattle.std.proofs.lemmas.Result.{err_from_is_err_and}
use Rattle.fabric_sim.specs.Changes.{after_inject}
use Rattle.fabric_sim.specs.Simulation.{Simulation}
use Rattle.serve_run.specs.Acting.{value_of as acting_value}
use Rattle.serve_run.proofs.Taken.{fewer_taken, first_taken, none_ready, none_taken, unready}
use Rattle.schedule_run.specs.NamedPackets.{packet_out}
use Rattle.schedule_lines.specs.Outcome.{Outcome}
use Rattle.schedule_run.specs.World.{after_fabric, after_inject_all}
use Rattle.schedule_lines.proofs.Printing.{IsUnderWay, goes_on, is_over, stops_in}
use Rattle.schedule_run.proofs.deciders.send_ready.Goals as goal

pub loop-outgoing-preserved : goal.loop-outgoing-preserved
loop-outgoing-preserved g c =
    let at = c.args.from.now in
    let fabric = c.loop-outgoing.fabric in
    let old = c.args.sink.now in
    let now = acting_value c.loop-outgoing.acting in
    let left = acting_value c.take_packet.new.self in
    let whole = after_inject_all c.args.fabric.now at (acting_value c.args.acting.now).ready in
    let part = after_fabric (after_inject fabric at (packet_out c.in-Some.outgoing)) in
    let Under : g.row.W.Denot → Outcome Simulation → Type 0 = λ now outcome. IsUnderWay g.W.Sink.written g.W.Sink.has_failed old now whole outcome in
    let first = ap (after_inject_all fabric at)
    (first_taken now.ready left.ready c.in-Some.outgoing c.in-Some.ensures.packet (ap (λ a. a.ready) c.in-Some.ensures.rest)) in
    let gone = goes_on g.W.Sink.written g.W.Sink.has_failed old c.loop-outgoing.sink c.send_one.new.sink whole part
    (λ now. after_inject_all now at left.ready)
    (subst (Under c.loop-outgoing.sink) first c.loop-outgoing.invariant.sends) c.in_ok-send_one.ensures.prints in
    record {
      sends = subst (λ f. Under c.send_one.new.sink (after_inject_all f at left.ready)) (sym c.in_ok-send_one.ensures.fabric) gone;
      keeps = ap unready c.in-Some.ensures.rest ∙ c.loop-outgoing.invariant.keeps;
    }

pub returns-in_err-send_one-clause-prints : goal.returns-in_err-send_one-clause-prints
returns-in_err-send_one-clause-prints g c =
    let p = err_from_is_err_and c.from_residual.result c.from_residual.ensures.1 in
    let at = c.args.from.now in
    let fabric = c.loop-outgoing.fabric in
    let now = acting_value c.loop-outgoing.acting in
    let left = acting_value c.take_packet.new.self in
    let whole = after_inject_all c.args.fabric.now at (acting_value c.args.acting.now).ready in
    let part = after_fabric (after_inject fabric at (packet_out c.in-Some.outgoing)) in
    let first = ap (after_inject_all fabric at)
    (first_taken now.ready left.ready c.in-Some.outgoing c.in-Some.ensures.packet (ap (λ a. a.ready) c.in-Some.ensures.rest)) in
    rw (p.1, p.2) (stops_in g.W.Sink.written g.W.Sink.has_failed c.in_err-send_one.field-0.0 c.args.sink.now c.loop-outgoing.sink c.send_one.new.sink whole part
    (λ now. after_inject_all now at left.ready)
    (subst (λ outcome. IsUnderWay g.W.Sink.written g.W.Sink.has_failed c.args.sink.now c.loop-outgoing.sink whole outcome) first
    c.loop-outgoing.invariant.sends)
    c.in_err-send_one.ensures.prints)

pub loop-outgoing-smaller : goal.loop-outgoing-smaller
loop-outgoing-smaller g c =
    let now = acting_value c.loop-outgoing.acting in
    let left = acting_value c.take_packet.new.self in
    fewer_taken now.ready left.ready c.in-Some.outgoing
    (first_taken now.ready left.ready c.in-Some.outgoing c.in-Some.ensures.packet (ap (λ a. a.ready) c.in-Some.ensures.rest))

pub returns-clause-fabric : goal.returns-clause-fabric
returns-clause-fabric g c =
    ap (λ r. r.now) (sym (ap (after_inject_all c.loop-outgoing.fabric c.args.from.now)
    (none_taken (acting_value c.loop-outgoing.acting).ready c.in_default.ensures.packet))) ∙ c.loop-outgoing.invariant.sends.same

pub returns-clause-acting : goal.returns-clause-acting
returns-clause-acting g c =
    none_ready (acting_value c.loop-outgoing.acting) (acting_value c.take_packet.new.self) c.in_default.ensures.packet c.in_default.ensures.rest
    ∙ c.loop-outgoing.invariant.keeps

pub returns-clause-prints : goal.returns-clause-prints
returns-clause-prints g c =
    is_over g.W.Sink.written g.W.Sink.has_failed c.args.sink.now c.loop-outgoing.sink
    (after_inject_all c.args.fabric.now c.args.from.now (acting_value c.args.acting.now).ready) _ c.loop-outgoing.invariant.sends
    (ap (λ r. r.text) (ap (after_inject_all c.loop-outgoing.fabric c.args.from.now)
    (none_taken (acting_value c.loop-outgoing.acting).ready c.in_default.ensures.packet)))
