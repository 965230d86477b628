-- By where the walks end.
use Rattle.std.proofs.Common.{◌≡◌, ◌∙◌}
use Rattle.std.specs.Prelude.{map}
use Rattle.std.specs.List.{enumerate_from}
use Rattle.packet_walks.proofs.Brought.{if_ok}
use Rattle.next_tables.specs.SettledEntries.{arrives_by}
use Rattle.next_tables.specs.OrderedEntries.{entries_by, entry_by}
use Rattle.next_tables.proofs.Ordered.{entries_are}
use Rattle.next_tables.proofs.ordered_entries.entries_by.Goals as goal

pub returns : goal.returns
returns c =
    let port = c.args.port.now in
    let tried = c.args.tried.now in
    if_ok (λ entries. entries.items ≡ map (entry_by (arrives_by port c.deref.result.now)) (enumerate_from 0 tried)) (λ entries. entries.items ≡ entries_by port tried)
    c.entries_where.result c.entries_where.ensures
    (λ entries e.
    entries_are port tried c.in_ok-hops.hops.items c.ends-ends.result.items entries.items c.in_ok-hops.ensures c.ends-ends.ensures
    (e ∙ (λ i. map (entry_by (arrives_by port (c.deref.ensures.value i))) (enumerate_from 0 tried))))
