-- By where the three walks end.
use Rattle.std.proofs.Common.{◌≡◌, ◌∙◌, [], refl, sym}
use Rattle.packet_walks.proofs.Brought.{if_ok}
use Rattle.next_tables.specs.SettledEntries.{agreed_of, arrives_by, chosen_by, hops_of, next_of}
use Rattle.next_tables.proofs.Listed.{next_is, next_is_whole}
use Rattle.next_tables.proofs.settled_entries.entries_by.Goals as goal

pub returns-then-is_whole : goal.returns-then-is_whole
returns-then-is_whole c =
    let port = c.args.port.now in
    let held = c.args.held.now in
    let plan = c.args.plan.now in
    let settled = c.args.settled.now in
    let delivered = c.args.delivered.now in
    if_ok
    (λ entries. entries.items
    ≡ chosen_by port (arrives_by port settled) (arrives_by port delivered) (arrives_by port []) held plan)
    (λ entries. entries.items ≡ next_of port held plan)
    c.chosen.result
    c.chosen.ensures
    (λ entries e.
    next_is_whole port held plan (agreed_of held plan) (hops_of held) settled delivered [] entries.items
    refl c.requires.settled refl c.requires.delivered (sym c.is_whole.ensures ∙ c.if-is_whole.true) e)

pub returns : goal.returns
returns c =
    let port = c.args.port.now in
    let held = c.args.held.now in
    let plan = c.args.plan.now in
    let settled = c.args.settled.now in
    let delivered = c.args.delivered.now in
    let mended = c.ends-mended.result.items in
    if_ok
    (λ entries. entries.items
    ≡ chosen_by port (arrives_by port settled) (arrives_by port delivered) (arrives_by port c.deref.result.now) held plan)
    (λ entries. entries.items ≡ next_of port held plan)
    c.chosen-2.result
    c.chosen-2.ensures
    (λ entries e.
    next_is port held plan (agreed_of held plan) (hops_of held) c.in_ok-mending.mending.items settled delivered mended entries.items
    refl c.requires.settled refl c.requires.delivered
    c.in_ok-mending.ensures c.ends-mended.ensures
    (e ∙ (λ i. chosen_by port (arrives_by port settled) (arrives_by port delivered)
    (arrives_by port (c.deref.ensures.value i)) held plan)))
