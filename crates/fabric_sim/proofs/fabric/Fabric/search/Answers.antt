use Rattle.std.proofs.lemmas.Fn.{always_returns_same}
use Rattle.std.proofs.Common.{◌≡◌, ℕ, rules, of_calls, sym, subst}
use Rattle.fabric_sim.specs.declared.flight.Flight.{Flight}
use Rattle.fabric_sim.specs.Simulation.{Simulation}
use Rattle.fabric_sim.specs.Flights.{Finds}
use Rattle.fabric_sim.proofs.Serials.{searched}
use Rattle.fabric_sim.proofs.fabric.Fabric.search.Goals as goal

pub returns : goal.returns
returns c =
    let key : Flight → ℕ = λ f. f.serial in
    let there = searched c.self.inside.flights.items c.args.serial c.binary_search_by_key.result c.self.invariant.rising (search rules)
    (c.binary_search_by_key.ensures.position key (always_returns_same _ (λ a r. r ≡ a.0.now.serial) _ (λ a r f h. search (rules, of_calls)))) in
    let P : Simulation → Type 0 = λ s. Finds s.flights c.args.serial c.ok.result in
    subst P c.self.view_is (subst (Finds c.self.inside.flights.items c.args.serial) (sym c.ok.ensures.value) there)
