use Rattle.std.proofs.Common.{◌≡◌, true, subst, rules}
use Rattle.std.specs.Prelude.{IfSome}
use Rattle.fabric_sim.specs.Simulation.{Simulation, is_cable_port}
use Rattle.fabric_sim.proofs.Written.{other_is}
use Rattle.fabric_sim.proofs.fabric.Fabric.across.Goals as goal

pub returns-clause-port : goal.returns-clause-port
returns-clause-port c =
    let P : Simulation → Type 0 = λ s. IfSome c.across.result (λ other. is_cable_port s other ≡ true) in
    subst P c.self.view_is (other_is _ c.args.port.now _ c.self.invariant (search rules))
