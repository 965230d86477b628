-- Each call gives the numbers of its end port.
use Rattle.std.proofs.Common.{◌≡◌, rules, of_calls}
use Rattle.std.proofs.lemmas.Fn.{always_returns_same}
use Rattle.subnet_view.specs.EndPort.{port_numbers}
use Rattle.subnet_view.proofs.end_port.sort.Goals as goal

pub returns-clause-sorted : goal.returns-clause-sorted
returns-clause-sorted c =
    c.sort_unstable_by_key.ensures.sorted port_numbers (always_returns_same _ (λ a r. r ≡ port_numbers a.0.now) _ (λ a r f h. search (rules, of_calls)))
