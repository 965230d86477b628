use Rattle.std.proofs.Common.{◌<◌, ◌^◌, ap, rules}
use Rattle.fabric_sim.specs.Simulation.{next_serial}
use Rattle.fabric_sim.proofs.Written.{launched_valid, next_after}
use Rattle.fabric_sim.proofs.fabric.Fabric.enqueue.Goals as goal

pub invariant_of-self-2 : goal.invariant_of-self-2
invariant_of-self-2 c =
    let fits : c.in-Some.serial < 2 ^ 64 = search rules in
    launched_valid _ _ c.self.view_is c.in-Some.serial _ c.args.whereabouts c.args.packet _ c.self.invariant c.requires (ap next_serial c.in-Some.is) fits
    (search rules) (next_after c.in-Some.serial _ fits c.checked_add-self-inside.ensures)
