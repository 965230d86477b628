-- What is found of the network is found of the store and the tables.
use Rattle.std.proofs.Common.{subst}
use Rattle.fact_store.specs.View.{cells_of}
use Rattle.packet_walks.specs.Network.{Seen}
use Rattle.audit_channels.specs.ChannelOrders.{NoneShorter}
use Rattle.audit_channels.specs.Waiting.{WaitsFor}
use Rattle.audit_report.proofs.findings.Audit.of.Goals as goal

pub returns-clause-shortest : goal.returns-clause-shortest
returns-clause-shortest c =
    let found = c.in_ok-network.ensures in
    subst (λ (s : Seen). NoneShorter (WaitsFor (cells_of s.facts) s.held) c.in_ok-findings.findings.cycle.items)
    (λ i. record { facts = found.facts i; held = found.held i }) c.in_ok-findings.ensures.shortest
