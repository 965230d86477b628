use Rattle.std.proofs.Common.{◌≡◌, true, sym, subst, rules, ◌∙◌}
use Rattle.std.specs.Prelude.{is_some}
use Rattle.fabric_sim.specs.Simulation.{Simulation, across, is_cable_port}
use Rattle.fabric_sim.proofs.Written.{cabled_is}
use Rattle.fabric_sim.proofs.fabric.Fabric.has_cable.Goals as goal

pub returns-in-Some-clause-port : goal.returns-in-Some-clause-port
returns-in-Some-clause-port c =
    let P : Simulation → Type 0 = λ s. is_some (across s.peers c.args.port.now) ≡ true → is_cable_port s c.args.port.now ≡ true in
    let cable : c.is_some.result ≡ is_some (across c.args.self.now.peers c.args.port.now) = search rules in
    λ h. subst P c.self.view_is (cabled_is _ c.args.port.now c.self.invariant) (sym cable ∙ h)
