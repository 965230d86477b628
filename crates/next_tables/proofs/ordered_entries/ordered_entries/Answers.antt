-- By what was found of the switches.
use Rattle.std.proofs.Common.{◌≡◌, ◌∙◌}
use Rattle.packet_walks.proofs.Brought.{if_ok}
use Rattle.next_tables.specs.OrderedEntries.{entries_by, ordered_of}
use Rattle.next_tables.proofs.Ordered.{made_is}
use Rattle.next_tables.proofs.ordered_entries.ordered_entries.Goals as goal

pub returns : goal.returns
returns c =
    let positions = c.args.positions.now in
    let port = c.args.port.now in
    let held = c.args.held.now in
    let goal_steps = c.args.goal.now in
    if_ok (λ entries. entries.items ≡ entries_by port c.deref.result.now) (λ entries. entries.items ≡ ordered_of positions port held goal_steps)
    c.entries_by.result c.entries_by.ensures
    (λ entries e.
    made_is positions port held goal_steps c.in_ok-delivered.delivered.items c.in_ok-going_up.going_up.items c.in_ok-entered.entered.items
    c.in_ok-tried.tried.items entries.items c.in_ok-delivered.ensures c.in_ok-going_up.ensures c.in_ok-entered.ensures c.in_ok-tried.ensures
    (e ∙ (λ i. entries_by port (c.deref.ensures.value i))))
