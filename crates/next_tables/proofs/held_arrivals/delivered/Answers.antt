-- By where the walks end.
use Rattle.std.proofs.Common.{◌≡◌, ◌∙◌}
use Rattle.std.specs.Prelude.{map}
use Rattle.packet_walks.proofs.Brought.{if_ok}
use Rattle.packet_walks.specs.declared.next_hop.SwitchStep.{SwitchStep}
use Rattle.next_tables.specs.SettledEntries.{arrives_by}
use Rattle.next_tables.specs.OrderedEntries.{delivered_of}
use Rattle.next_tables.proofs.Ordered.{delivered_is}
use Rattle.next_tables.proofs.held_arrivals.delivered.Goals as goal

pub returns : goal.returns
returns c =
    let port = c.args.port.now in
    let held = c.args.held.now in
    if_ok (λ found. found.items ≡ map (λ (x : SwitchStep). arrives_by port c.deref.result.now x.hop) held) (λ found. found.items ≡ delivered_of port held)
    c.arrivals.result c.arrivals.ensures
    (λ found e.
    delivered_is port held c.in_ok-hops.hops.items c.ends-ends.result.items found.items c.in_ok-hops.ensures c.ends-ends.ensures
    (e ∙ (λ i. map (λ (x : SwitchStep). arrives_by port (c.deref.ensures.value i) x.hop) held)))
