use Rattle.fabric_sim.proofs.Written.{moved_now, moved_valid}
use Rattle.fabric_sim.proofs.fabric.Fabric.move_to.Goals as goal

pub invariant_of-self : goal.invariant_of-self
invariant_of-self c =
    moved_valid _ _ c.self.view_is c.args.i c.args.serial c.args.whereabouts c.args.packet c.self.invariant c.requires.at c.requires.whereabouts

pub returns : goal.returns
returns c = moved_now _ _ c.self.view_is c.args.i c.args.serial c.args.whereabouts c.args.packet c.self.invariant c.requires.at
