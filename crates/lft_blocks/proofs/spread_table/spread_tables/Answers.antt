use Rattle.std.proofs.Common.{◌≡◌, ℕ, List, sym, ap, ◌∙◌, subst, get_or, length, map}
use Rattle.std.proofs.lemmas.List.{length-map}
use Rattle.std.proofs.lemmas.List.FromFn.{length-map-range_with_len}
use Rattle.std.specs.Prelude.{IfOk}
use Rattle.std.specs.List.{range_with_len}
use Rattle.std.specs.List.Sorted.{IsStrictlyIncreasing}
use Rattle.fact_store.specs.View.{cells_of}
use Rattle.spread_labels.proofs.Numbers.{numbers_long}
use Rattle.subnet_view.specs.SwitchEdges.{SwitchEdges}
use Rattle.subnet_view.specs.Graph.{guids_of}
use Rattle.subnet_view.proofs.GraphSwitches.{switches_rise}
use Rattle.spread_routes.specs.LeafNumbers.{leaf_number, leaf_numbers, least_neighbors}
use Rattle.spread_labels.specs.Leaves.{leaf_vertices}
use Rattle.spread_routes.specs.Adapters.{adapters_of}
use Rattle.spread_routes.proofs.AdapterCounts.{adapters_long}
use Rattle.spread_routes.specs.Rule.{by_index}
use Rattle.spread_routes.specs.Spread.{Grading, grading_of, spread_at, spread_by}
use Rattle.spread_routes.specs.SwitchOrder.{order_value_of}
use Rattle.lft_blocks.specs.Attachment.{AreWithin}
use Rattle.lft_blocks.specs.LidNumbers.{Numbering, indexed_number, indexed_numbers, number_of, numbered, numbering_by, numbering_of}
use Rattle.lft_blocks.specs.Plan.{SwitchTable}
use Rattle.lft_blocks.specs.TableRow.{AreRows, attachment_by_index, table_of_row}
use Rattle.lft_blocks.proofs.LidNumbers.{number_same}
use Rattle.lft_blocks.proofs.RowSteps.{tables_are}
use Rattle.lft_blocks.proofs.spread_table.spread_tables.Goals as goal

pub invariant_of-given : goal.invariant_of-given
invariant_of-given c = record {
  have_adapters =
      ap length (c.deref.ensures.value ∙ c.in_ok-adapters.ensures) ∙ adapters_long (cells_of c.args.wired.now.wires.now) ∙ sym (ap length c.args.wired.now.is_graph);
}

-- each switch has one
numbers_of_leaves_long : (graph : List SwitchEdges) (adapters : List ℕ) → length (guids_of graph) ≡ length (leaf_numbers graph adapters)
numbers_of_leaves_long graph adapters =
    length-map graph (λ (s : SwitchEdges). s.guid)
    ∙ sym (numbers_long (leaf_number (least_neighbors (by_index graph)) (leaf_vertices adapters)) 0 (length graph))

pub lid_numbers-requires : goal.lid_numbers-requires
lid_numbers-requires c =
    let cells = cells_of c.args.wired.now.wires.now in
    let long = numbers_of_leaves_long c.args.wired.now.graph.now c.deref.result.now
    ∙ ap (λ (p : Numbering). length p.leaf_numbers) (sym c.in_ok-numbering.ensures) in
    subst (λ (n : ℕ). AreWithin n c.args.attachments.now) long c.requires.within

pub rows-requires-clause-numbers : goal.rows-requires-clause-numbers
rows-requires-clause-numbers c =
    ap length (c.deref-2.ensures.value ∙ c.in_ok-numbers.ensures)
    ∙ length-map-range_with_len (indexed_number c.in_ok-numbering.numbering c.args.attachments.now) 0 (length c.args.attachments.now)

pub returns : goal.returns
unfolding spread_by
returns c =
    let graph = c.args.wired.now.graph.now in
    let guids = guids_of graph in
    let attachments = c.args.attachments.now in
    let adapters = adapters_of (cells_of c.args.wired.now.wires.now) in
    let order = order_value_of c.args.order.now in
    let count = c.args.count in
    let by = grading_of graph adapters order in
    let rows = c.in_ok-rows.rows.items in
    let theirs = c.switches-guids.ensures in
    let numbers = c.in_ok-numbers.numbers.items in
    let is : c.in_ok-spread.spread ≡ by =
    c.in_ok-spread.ensures ∙ ap (λ counts. grading_of graph counts order) (c.deref.ensures.value ∙ c.in_ok-adapters.ensures) in
    let rising : IsStrictlyIncreasing guids =
    subst (λ (g : List SwitchEdges). IsStrictlyIncreasing (guids_of g)) (sym c.args.wired.now.is_graph) (switches_rise c.args.wired.now.wires.now) in
    let numbering = numbering_of c.args.lmc (cells_of c.args.wired.now.wires.now) in
    let is_numbering : c.in_ok-numbering.numbering ≡ numbering =
    c.in_ok-numbering.ensures ∙ (λ i. numbering_by c.args.lmc (c.args.wired.now.is_graph i) ((c.deref.ensures.value ∙ c.in_ok-adapters.ensures) i)) in
    let same : (lid : ℕ) → get_or c.deref-2.result.now lid 0 ≡ number_of numbering guids (attachment_by_index guids attachments) lid =
    number_same numbering guids rising attachments c.requires.within c.deref-2.result.now (c.deref-2.ensures.value ∙ c.in_ok-numbers.ensures
    ∙ ap (λ p. indexed_numbers p attachments) is_numbering) in
    let number : ℕ → ℕ = number_of numbering guids (attachment_by_index guids attachments) in
    let next = (numbered number (spread_at by)).next in
    let are : AreRows next guids attachments (length guids) rows =
    subst (λ (x : Grading × (ℕ × (ℕ → ℕ))). AreRows (numbered x.1.1 (spread_at x.0)).next (guids_of x.0.graph) attachments x.1.0 rows)
    (λ i. (is i, (length (theirs i), λ lid. same lid i))) c.in_ok-rows.ensures in
    let tables = (λ i. map (table_of_row (theirs i) (c.deref_mut.ensures.value i) count) (range_with_len 0 (length (theirs i))))
    ∙ tables_are graph guids (λ i. guids) rising next attachments c.requires.within count c.requires.all rows are in
    subst (λ (ts : List SwitchTable). IfOk c.tables_of.result (λ found. found.items ≡ ts)) tables c.tables_of.ensures
