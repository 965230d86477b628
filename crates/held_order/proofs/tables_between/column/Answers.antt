-- By who holds the LID in the plan.
use Rattle.std.proofs.Common.{◌≡◌, ◌∙◌, List, ap, length, sym}
use Rattle.std.specs.Prelude.{drop, map, replicate, slice_get}
use Rattle.fact_store.specs.View.{cells_of}
use Rattle.subnet_view.specs.Reading.{switches}
use Rattle.subnet_view.specs.declared.end_port.EndPort.{EndPort}
use Rattle.held_tables.specs.Tables.{owners_of}
use Rattle.packet_walks.specs.Network.{Seen}
use Rattle.packet_walks.proofs.Brought.{if_ok}
use Rattle.packet_walks.specs.HopsByTables.{switch_step}
use Rattle.next_tables.proofs.ByLid.{first_of, none_first}
use Rattle.held_order.specs.TablesBetween.{column_between, entries_towards}
use Rattle.held_order.proofs.Columns.{nobodys, owned}
use Rattle.held_order.proofs.tables_between.column.Goals as goal

pub returns-in_default-clause-column : goal.returns-in_default-clause-column
returns-in_default-clause-column c =
    let cells = cells_of c.args.held.now.seen.facts in
    let edges = c.args.edges.now in
    let orders = c.args.orders.now in
    let held = c.args.held.now.seen.held in
    let plan = c.args.plan.now.seen.held in
    let owners = c.in_ok-owners.owners.items in
    let owners_is = c.in_ok-owners.ensures ∙ ap (owners_of plan) c.requires.lid in
    let first = ap (λ (es : List EndPort). slice_get es 0) (sym c.deref.ensures.value) ∙ sym c.first_owner.ensures in
    let count_is = c.switch_count.ensures ∙ ap (λ (s : Seen). length (switches (cells_of s.facts))) c.network.ensures in
    let none = none_first owners (first ∙ c.in_default.is) in
    if_ok (λ entries. entries.items ≡ replicate c.switch_count.result 255)
    (λ column. column.items ≡ column_between cells edges orders held plan c.args.held.now.lid) c.no_entries.result c.no_entries.ensures
    (λ entries e.
    nobodys cells edges orders held plan c.args.held.now.lid entries.items owners c.switch_count.result owners_is none count_is e)

pub returns-clause-column : goal.returns-clause-column
returns-clause-column c =
    let cells = cells_of c.args.held.now.seen.facts in
    let edges = c.args.edges.now in
    let orders = c.args.orders.now in
    let held = c.args.held.now.seen.held in
    let plan = c.args.plan.now.seen.held in
    let lid = c.args.held.now.lid in
    let port = c.in-Some.port in
    let owners = c.in_ok-owners.owners.items in
    let owners_is = c.in_ok-owners.ensures ∙ ap (owners_of plan) c.requires.lid in
    let first = first_of owners port (ap (λ (es : List EndPort). slice_get es 0) (sym c.deref.ensures.value) ∙ sym c.first_owner.ensures ∙ c.in-Some.is) in
    let steps_are = c.in_ok-plan_steps.ensures ∙ (λ i. map (switch_step (cells_of (c.requires.facts i)) plan (c.requires.lid i)) (switches (cells_of (c.requires.facts i)))) in
    if_ok (λ entries. entries.items ≡ entries_towards port edges orders c.deref-2.result.now c.deref-3.result.now)
    (λ column. column.items ≡ column_between cells edges orders held plan lid) c.entries_towards.result c.entries_towards.ensures.entries
    (λ entries e.
    owned cells edges orders held plan lid entries.items owners (drop 1 owners) port c.in_ok-held_steps.held_steps.items c.in_ok-plan_steps.plan_steps.items
    owners_is first c.in_ok-held_steps.ensures steps_are
    (e ∙ (λ i. entries_towards port edges orders (c.deref-2.ensures.value i) (c.deref-3.ensures.value i))))
