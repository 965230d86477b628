use Rattle.std.proofs.Common.{◌≡◌, Ok, ap, ◌∙◌}
use Rattle.fabric_sim.specs.declared.delivered.Delivered.{Delivered}
use Rattle.fabric_sim.specs.declared.delivered.Delivered.TheVariants.{Discarded}
use Rattle.fabric_sim.specs.declared.delivered.Reason.TheVariants.{Unreadable}
use Rattle.fabric_sim.specs.Called.{Called}
use Rattle.fabric_sim.specs.Delivery.{after_deliver, after_outcome, flight_in, packet_in, without}
use Rattle.fabric_sim.specs.PacketOutcome.{outcome_by}
use Rattle.fabric_sim.proofs.Envelopes.{acted, can_act, dropped, read}
use Rattle.fabric_sim.proofs.fabric.Fabric.deliver.Goals as goal

pub act-requires-clause-can : goal.act-requires-clause-can
act-requires-clause-can c =
    can_act _ _ c.self.view_is c.envelope-envelope.result c.in-Ok.smp c.action-action.new.smp c.action-action.result c.self.invariant c.action-action.ensures

-- what is done is what the delivery does
done : (c : goal.After-act) → ◌≡◌ {A = Called Delivered}
    (after_outcome c.args.self.now (flight_in c.envelope-envelope.result c.action-action.new.smp)
    (outcome_by (packet_in c.envelope-envelope.result c.action-action.new.smp) c.action-action.result)) (after_deliver c.args.self.now c.args.serial)
done c =
    acted c.args.self.now c.args.serial c.index-flight.result.now c.envelope-envelope.result c.in-Ok.smp c.action-action.new.smp c.action-action.result
    (read _ _ c.self.view_is c.args.serial c.in-Some.i c.index-flight.result.now c.in-Some.ensures c.index-flight.ensures)
    c.envelope-envelope.ensures c.in-Ok.ensures.kept c.action-action.ensures

pub returns-in-Ok-clause-fabric : goal.returns-in-Ok-clause-fabric
returns-in-Ok-clause-fabric c = c.act.ensures.fabric ∙ ap (λ (r : Called Delivered). r.fabric) (done c)

pub returns-in-Ok-clause-result : goal.returns-in-Ok-clause-result
returns-in-Ok-clause-result c = c.act.ensures.result ∙ ap (λ (r : Called Delivered). r.result) (done c)

-- what doesn't parse is gone
gone : (c : goal.After-discard) → ◌≡◌ {A = Called Delivered} (record { fabric = without c.args.self.now c.args.serial; result = Ok (Discarded Unreadable) })
    (after_deliver c.args.self.now c.args.serial)
gone c =
    dropped c.args.self.now c.args.serial c.index-flight.result.now c.in-Err.field-0
    (read _ _ c.self.view_is c.args.serial c.in-Some.i c.index-flight.result.now c.in-Some.ensures c.index-flight.ensures) c.in-Err.ensures.judged

pub returns-in-Err-clause-fabric : goal.returns-in-Err-clause-fabric
returns-in-Err-clause-fabric c = c.discard.ensures.fabric ∙ ap (λ (r : Called Delivered). r.fabric) (gone c)

pub returns-in-Err-clause-result : goal.returns-in-Err-clause-result
returns-in-Err-clause-result c = ap Ok c.discard.ensures.result ∙ ap (λ (r : Called Delivered). r.result) (gone c)
