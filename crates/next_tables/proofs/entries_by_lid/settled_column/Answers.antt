-- By who holds the LID.
use Rattle.std.proofs.Common.{◌≡◌, ◌∙◌, ℕ, [], length, sym, ap, subst}
use Rattle.std.specs.Prelude.{map, replicate}
use Rattle.std.proofs.lemmas.Bool.{eqb-true, eqb-false}
use Rattle.std.proofs.lemmas.List.{nil_from_length}
use Rattle.fact_store.specs.View.{Facts, cells_of}
use Rattle.subnet_view.specs.Reading.{switches}
use Rattle.packet_walks.specs.Deliveries.{ComeToOwner}
use Rattle.packet_walks.specs.HopsByTables.{switch_step}
use Rattle.packet_walks.specs.Network.{Seen}
use Rattle.held_tables.specs.Tables.{entry_for, owners_of}
use Rattle.packet_walks.proofs.Brought.{if_ok}
use Rattle.next_tables.specs.NextTables.{column_of, keeper, settled_first}
use Rattle.next_tables.specs.SettledEntries.{next_of}
use Rattle.next_tables.proofs.ByLid.{nobodys, kept, others, settled}
use Rattle.next_tables.proofs.entries_by_lid.settled_column.Goals as goal

pub returns-then-is_nobodys : goal.returns-then-is_nobodys
returns-then-is_nobodys c =
    let cells = cells_of c.args.held.now.seen.facts in
    let held = c.args.held.now.seen.held in
    let plan = c.args.plan.now.seen.held in
    let planned_is = c.in_ok-planned.ensures ∙ ap (owners_of plan) c.requires.lid in
    let lid = c.args.held.now.lid in
    let count_is = c.switch_count.ensures ∙ ap (λ (s : Seen). length (switches (cells_of s.facts))) c.network.ensures in
    let planned = c.in_ok-planned.planned.items in
    let none = nil_from_length planned (ap length (sym c.deref.ensures.value)
    ∙ eqb-true (length c.deref.result.now) 0 (sym c.is_nobodys.ensures ∙ c.if-is_nobodys.true)) in
    if_ok (λ entries. entries.items ≡ replicate c.switch_count.result 255) (λ column. column.items
    ≡ column_of cells settled_first held plan lid) c.no_entries.result c.no_entries.ensures
    (λ entries e. nobodys cells held plan lid entries.items planned planned_is none c.switch_count.result count_is e)

pub returns-in_default : goal.returns-in_default
returns-in_default c =
    let cells = cells_of c.args.held.now.seen.facts in
    let held = c.args.held.now.seen.held in
    let plan = c.args.plan.now.seen.held in
    let planned_is = c.in_ok-planned.ensures ∙ ap (owners_of plan) c.requires.lid in
    let lid = c.args.held.now.lid in
    let planned = c.in_ok-planned.planned.items in
    let some : planned ≡ [] → ⊥ =
    λ e. eqb-false (length c.deref.result.now) 0 (sym c.is_nobodys.ensures ∙ c.if-is_nobodys.false) (ap length (c.deref.ensures.value ∙ e)) in
    others cells held plan lid c.in_ok-entries.entries.items planned c.in_ok-owners.owners.items planned_is c.in_ok-owners.ensures some
    (sym c.in_default.is ∙ c.keeper.ensures ∙ (λ i. keeper (c.deref-2.ensures.value i) (c.deref-3.ensures.value i)))
    (c.in_ok-entries.ensures ∙ (λ i. map (entry_for plan (c.requires.lid i)) (switches (cells_of (c.requires.facts i)))))

pub returns-then-are_same : goal.returns-then-are_same
returns-then-are_same c =
    let cells = cells_of c.args.held.now.seen.facts in
    let held = c.args.held.now.seen.held in
    let plan = c.args.plan.now.seen.held in
    let planned_is = c.in_ok-planned.ensures ∙ ap (owners_of plan) c.requires.lid in
    let lid = c.args.held.now.lid in
    let come = subst (λ (x : Facts × ℕ). ComeToOwner (cells_of x.0) plan x.1) (λ i. (c.requires.facts i, c.requires.lid i)) (c.is_delivered.ensures c.if-is_delivered.true) in
    let same = sym c.deref-then-is_delivered.ensures.value ∙ c.are_same.ensures.0 c.if-are_same.true ∙ c.deref-then-is_delivered-2.ensures.value in
    settled cells held plan lid c.in_ok-entries.entries.items c.in_ok-before.before.items c.in_ok-planned.planned.items c.in_ok-owners.owners.items
    c.in-Some.port planned_is c.in_ok-owners.ensures
    (sym c.in-Some.is ∙ c.keeper.ensures ∙ (λ i. keeper (c.deref-2.ensures.value i) (c.deref-3.ensures.value i))) c.in_ok-before.ensures
    (c.in_ok-entries.ensures ∙ (λ i. map (entry_for plan (c.requires.lid i)) (switches (cells_of (c.requires.facts i))))) same come

pub returns : goal.returns
returns c =
    let cells = cells_of c.args.held.now.seen.facts in
    let held = c.args.held.now.seen.held in
    let plan = c.args.plan.now.seen.held in
    let planned_is = c.in_ok-planned.ensures ∙ ap (owners_of plan) c.requires.lid in
    let lid = c.args.held.now.lid in
    let port = c.in-Some.port in
    let steps_are = c.in_ok-plan_steps.ensures ∙ (λ i. map (switch_step (cells_of (c.requires.facts i)) plan (c.requires.lid i)) (switches (cells_of (c.requires.facts i)))) in
    if_ok (λ entries. entries.items ≡ next_of port c.deref-4.result.now c.deref-5.result.now) (λ column. column.items ≡ column_of cells settled_first held plan lid)
    c.next_entries.result c.next_entries.ensures
    (λ entries e.
    kept cells held plan lid entries.items c.in_ok-planned.planned.items c.in_ok-owners.owners.items port c.in_ok-held_steps.held_steps.items
    c.in_ok-plan_steps.plan_steps.items
    planned_is c.in_ok-owners.ensures
    (sym c.in-Some.is ∙ c.keeper.ensures ∙ (λ i. keeper (c.deref-2.ensures.value i) (c.deref-3.ensures.value i)))
    c.in_ok-held_steps.ensures steps_are
    (e ∙ (λ i. next_of port (c.deref-4.ensures.value i) (c.deref-5.ensures.value i))))
