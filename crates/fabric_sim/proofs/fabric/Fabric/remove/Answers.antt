use Rattle.std.proofs.Common.{◌≡◌, sym, subst}
use Rattle.std.specs.Prelude.{remove}
use Rattle.fabric_sim.specs.Simulation.{Simulation}
use Rattle.fabric_sim.specs.Flights.{IsFlightAt}
use Rattle.fabric_sim.proofs.Written.{removed, without_now, without_valid}
use Rattle.fabric_sim.proofs.fabric.Fabric.remove.Goals as goal

left : (c : goal.After-remove) → c.remove.new.self.items ≡ remove c.self.inside.flights.items c.args.i
left c =
    let P : Simulation → Type 0 = λ s. IsFlightAt s.flights c.args.i c.args.serial in
    removed _ _ c.args.i c.args.serial _ _ c.self.inside.flights.ok.0 (subst P (sym c.self.view_is) c.requires) c.remove.ensures.succeeds c.remove.ensures.items

pub invariant_of-self : goal.invariant_of-self
invariant_of-self c = without_valid _ _ c.self.view_is c.args.i c.args.serial _ c.self.invariant c.requires (left c)

pub returns : goal.returns
returns c = without_now _ _ c.self.view_is c.args.i c.args.serial _ c.self.invariant c.requires (left c)
