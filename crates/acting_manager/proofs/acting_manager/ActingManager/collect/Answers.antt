use Rattle.std.proofs.Common.{◌∙◌}
use Rattle.acting_manager.specs.Acting.{value_of}
use Rattle.acting_manager.proofs.Collecting.{all_out, goes_on}
use Rattle.acting_manager.proofs.acting_manager.ActingManager.collect.Goals as goal

pub loop-out-preserved : goal.loop-out-preserved
loop-out-preserved c =
    goes_on (value_of c.loop-out.self) (value_of c.give_out.new.self) c.take_outgoing.new.self c.in-Some.out c.in-Some.ensures.packet
    c.in-Some.ensures.manager c.in_ok-give_out.ensures ∙ c.loop-out.invariant

pub returns : goal.returns
returns c =
    all_out (value_of c.loop-out.self) c.take_outgoing.new.self c.in_default.ensures.packet c.in_default.ensures.manager ∙ c.loop-out.invariant
