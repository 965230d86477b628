-- By who holds the LID in the plan.
use Rattle.std.proofs.Common.{◌≡◌, ◌∙◌, ℕ, List, ap, length, subst, sym}
use Rattle.std.specs.Prelude.{drop, map, replicate, slice_get}
use Rattle.fact_store.specs.View.{Facts, cells_of}
use Rattle.subnet_view.specs.Reading.{switches}
use Rattle.subnet_view.specs.declared.end_port.EndPort.{EndPort}
use Rattle.packet_walks.proofs.Brought.{if_ok}
use Rattle.packet_walks.specs.Deliveries.{ComeToOwner}
use Rattle.packet_walks.specs.HopsByTables.{switch_step}
use Rattle.packet_walks.specs.Network.{Seen}
use Rattle.held_tables.specs.Tables.{entry_for, owners_of}
use Rattle.next_tables.specs.NextTables.{by_order, column_of}
use Rattle.next_tables.specs.OrderedEntries.{ordered_of}
use Rattle.next_tables.proofs.ByLid.{first_of, none_first, ordered_kept, ordered_nobodys, ordered_settled}
use Rattle.next_tables.proofs.entries_by_lid.ordered_column.Goals as goal

pub returns-in_default : goal.returns-in_default
returns-in_default c =
    let cells = cells_of c.args.held.now.seen.facts in
    let held = c.args.held.now.seen.held in
    let plan = c.args.plan.now.seen.held in
    let planned_is = c.in_ok-planned.ensures ∙ ap (owners_of plan) c.requires.lid in
    let count_is = c.switch_count.ensures ∙ ap (λ (s : Seen). length (switches (cells_of s.facts))) c.network.ensures in
    let planned = c.in_ok-planned.planned.items in
    let none = none_first planned (ap (λ (es : List EndPort). slice_get es 0) (sym c.deref.ensures.value) ∙ sym c.first_owner.ensures ∙ c.in_default.is) in
    if_ok (λ entries. entries.items ≡ replicate c.switch_count.result 255)
    (λ column. column.items ≡ column_of cells (by_order c.args.positions.now) held plan c.args.held.now.lid) c.no_entries.result c.no_entries.ensures
    (λ entries e.
    ordered_nobodys cells held plan c.args.held.now.lid c.args.positions.now entries.items planned planned_is none c.switch_count.result
    count_is e)

pub returns-then-are_same : goal.returns-then-are_same
returns-then-are_same c =
    let facts = c.args.held.now.seen.facts in
    let held = c.args.held.now.seen.held in
    let plan = c.args.plan.now.seen.held in
    let planned_is = c.in_ok-planned.ensures ∙ ap (owners_of plan) c.requires.lid in
    let lid = c.args.held.now.lid in
    let port = c.in-Some.port in
    let planned = c.in_ok-planned.planned.items in
    let first = first_of planned port (ap (λ (es : List EndPort). slice_get es 0) (sym c.deref.ensures.value) ∙ sym c.first_owner.ensures ∙ c.in-Some.is) in
    let come = subst (λ (x : Facts × ℕ). ComeToOwner (cells_of x.0) plan x.1) (λ i. (c.requires.facts i, c.requires.lid i)) (c.is_delivered.ensures c.if-is_delivered.true) in
    let same = sym c.deref-then-is_delivered.ensures.value ∙ c.are_same.ensures.0 c.if-are_same.true ∙ c.deref-then-is_delivered-2.ensures.value in
    ordered_settled facts c.args.positions.now held plan lid c.in_ok-entries.entries.items c.in_ok-before.before.items planned (drop 1 planned) port
    planned_is first c.in_ok-before.ensures
    (c.in_ok-entries.ensures ∙ (λ i. map (entry_for plan (c.requires.lid i)) (switches (cells_of (c.requires.facts i))))) same come

pub returns : goal.returns
returns c =
    let facts = c.args.held.now.seen.facts in
    let held = c.args.held.now.seen.held in
    let plan = c.args.plan.now.seen.held in
    let planned_is = c.in_ok-planned.ensures ∙ ap (owners_of plan) c.requires.lid in
    let lid = c.args.held.now.lid in
    let port = c.in-Some.port in
    let positions = c.args.positions.now in
    let planned = c.in_ok-planned.planned.items in
    let first = first_of planned port (ap (λ (es : List EndPort). slice_get es 0) (sym c.deref.ensures.value) ∙ sym c.first_owner.ensures ∙ c.in-Some.is) in
    let steps_are = c.in_ok-plan_steps.ensures ∙ (λ i. map (switch_step (cells_of (c.requires.facts i)) plan (c.requires.lid i)) (switches (cells_of (c.requires.facts i)))) in
    if_ok (λ entries. entries.items ≡ ordered_of positions port c.deref-2.result.now c.deref-3.result.now)
    (λ column. column.items ≡ column_of (cells_of facts) (by_order positions) held plan lid) c.ordered_entries.result c.ordered_entries.ensures
    (λ entries e.
    ordered_kept facts positions held plan lid entries.items planned (drop 1 planned) port c.in_ok-held_steps.held_steps.items
    c.in_ok-plan_steps.plan_steps.items planned_is first c.in_ok-held_steps.ensures steps_are
    (e ∙ (λ i. ordered_of positions port (c.deref-2.ensures.value i) (c.deref-3.ensures.value i))))
