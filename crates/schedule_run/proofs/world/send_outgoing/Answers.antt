use Rattle.std.proofs.Common.{◌∙◌, sym, ap, subst}
use Rattle.std.proofs.lemmas.Result.{err_from_is_err_and}
use Rattle.fabric_sim.specs.Changes.{after_inject}
use Rattle.fabric_sim.specs.Simulation.{Simulation}
use Rattle.schedule_run.specs.NamedPackets.{packet_out}
use Rattle.schedule_lines.specs.Outcome.{Outcome}
use Rattle.schedule_run.specs.World.{after_fabric, after_inject_all}
use Rattle.sm_manager.specs.Manager.{emptied}
use Rattle.schedule_lines.proofs.Printing.{IsUnderWay, goes_on, is_over, stops_in}
use Rattle.sm_manager.proofs.Taking.{fewer_left, none_emptied, taken_emptied}
use Rattle.schedule_run.proofs.Sending.{first_goes, none_goes}
use Rattle.schedule_run.proofs.world.send_outgoing.Goals as goal

pub loop-outgoing-preserved : goal.loop-outgoing-preserved
loop-outgoing-preserved g c =
    let at = c.args.from.now in
    let fabric = c.loop-outgoing.fabric in
    let old = c.args.sink.now in
    let whole = after_inject_all c.args.fabric.now at c.args.manager.now.outgoing in
    let part = after_fabric (after_inject fabric at (packet_out c.in-Some.outgoing)) in
    let left = c.take_outgoing.new.self in
    let Under : g.row.W.Denot → Outcome Simulation → Type 0 = λ now outcome. IsUnderWay g.W.Sink.written g.W.Sink.has_failed old now whole outcome in
    let first = first_goes c.loop-outgoing.manager left c.in-Some.outgoing fabric at c.in-Some.ensures.packet c.in-Some.ensures.manager in
    let gone = goes_on g.W.Sink.written g.W.Sink.has_failed old c.loop-outgoing.sink c.send_one.new.sink whole part
    (λ now. after_inject_all now at left.outgoing)
    (subst (Under c.loop-outgoing.sink) first c.loop-outgoing.invariant.sends) c.in_ok-send_one.ensures.prints in
    record {
      sends = subst (λ f. Under c.send_one.new.sink (after_inject_all f at left.outgoing)) (sym c.in_ok-send_one.ensures.fabric) gone;
      keeps = ap emptied c.in-Some.ensures.manager ∙ taken_emptied c.loop-outgoing.manager ∙ c.loop-outgoing.invariant.keeps;
    }

pub returns-in_err-send_one-clause-prints : goal.returns-in_err-send_one-clause-prints
returns-in_err-send_one-clause-prints g c =
    let p = err_from_is_err_and c.from_residual.result c.from_residual.ensures.1 in
    let at = c.args.from.now in
    let fabric = c.loop-outgoing.fabric in
    let left = c.take_outgoing.new.self in
    let whole = after_inject_all c.args.fabric.now at c.args.manager.now.outgoing in
    let part = after_fabric (after_inject fabric at (packet_out c.in-Some.outgoing)) in
    let first = first_goes c.loop-outgoing.manager left c.in-Some.outgoing fabric at c.in-Some.ensures.packet c.in-Some.ensures.manager in
    rw (p.1, p.2) (stops_in g.W.Sink.written g.W.Sink.has_failed c.in_err-send_one.field-0.0 c.args.sink.now c.loop-outgoing.sink c.send_one.new.sink whole part
    (λ now. after_inject_all now at left.outgoing)
    (subst (λ outcome. IsUnderWay g.W.Sink.written g.W.Sink.has_failed c.args.sink.now c.loop-outgoing.sink whole outcome) first
    c.loop-outgoing.invariant.sends)
    c.in_err-send_one.ensures.prints)

pub loop-outgoing-smaller : goal.loop-outgoing-smaller
loop-outgoing-smaller g c =
    fewer_left c.loop-outgoing.manager c.take_outgoing.new.self c.in-Some.outgoing c.in-Some.ensures.packet c.in-Some.ensures.manager

pub returns-clause-fabric : goal.returns-clause-fabric
returns-clause-fabric g c =
    ap (λ r. r.now) (sym (none_goes c.loop-outgoing.manager c.loop-outgoing.fabric c.args.from.now (sym c.in_default.ensures.packet)))
    ∙ c.loop-outgoing.invariant.sends.same

pub returns-clause-manager : goal.returns-clause-manager
returns-clause-manager g c =
    c.in_default.ensures.manager ∙ none_emptied c.loop-outgoing.manager (sym c.in_default.ensures.packet) ∙ c.loop-outgoing.invariant.keeps

pub returns-clause-prints : goal.returns-clause-prints
returns-clause-prints g c =
    is_over g.W.Sink.written g.W.Sink.has_failed c.args.sink.now c.loop-outgoing.sink
    (after_inject_all c.args.fabric.now c.args.from.now c.args.manager.now.outgoing) _ c.loop-outgoing.invariant.sends
    (ap (λ r. r.text) (none_goes c.loop-outgoing.manager c.loop-outgoing.fabric c.args.from.now (sym c.in_default.ensures.packet)))
