use Rattle.fabric_sim.proofs.Built.{LinksIn}
use Rattle.fabric_sim.proofs.fabric.Fabric.of.Given as goal

abbrev pub invariant-loop-link : goal.invariant-loop-link
invariant-loop-link l = LinksIn l.topology l.first_serial l.link-index l.fabric
