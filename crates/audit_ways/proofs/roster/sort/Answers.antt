-- Each call gives the node and the port of its source.
use Rattle.std.proofs.Common.{◌≡◌, rules, of_calls}
use Rattle.std.proofs.lemmas.Fn.{always_returns_same}
use Rattle.audit_ways.specs.SenderGroups.{port_of}
use Rattle.audit_ways.proofs.roster.sort.Goals as goal

pub returns-clause-by_port : goal.returns-clause-by_port
returns-clause-by_port c =
    c.sort_unstable_by_key.ensures.sorted port_of (always_returns_same _ (λ a r. r ≡ port_of a.0.now) _ (λ a r f h. search (rules, of_calls)))
