-- An end port's numbers are below the first number that is no unicast LID.
use Rattle.std.proofs.Common.{◌≡◌, rules, subst}
use Rattle.lid_assign.specs.LidMap.{AreBelow}
use Rattle.lid_assign.specs.Lids.{Given, owner_of}
use Rattle.lid_assign.proofs.Unicast.{owned_below}
use Rattle.lid_assign.proofs.lid_map.LidMap.owner.Goals as goal

pub returns-clause-unicast : goal.returns-clause-unicast
returns-clause-unicast c =
    let below = subst (λ (g : Given). AreBelow 0xC000 g.lmc g.ports) c.self.view_is c.self.invariant.unicast in
    let owner : c.flatten.result ≡ owner_of c.args.self.now c.args.lid = search rules in
    owned_below c.args.self.now 0xC000 c.args.lid c.flatten.result below owner
