use Rattle.std.proofs.Common.{◌≡◌, ◌<◌, ◌+◌, ◌-◌, ◌==◌, [], ℕ, List, Vec, Global, sym, ap, ◌∙◌, subst, arith, length, map, All, get_or}
use Rattle.std.proofs.lemmas.List.{get_or-map, length-map}
use Rattle.std.specs.Prelude.{Option, slice_index, slice_index_or}
use Rattle.subnet_view.specs.Graph.{guids_of}
use Rattle.spread_routes.specs.Spread.{spread_at}
use Rattle.spread_routes.specs.Exits.{port_by, with_entries}
use Rattle.lft_blocks.specs.declared.attachment.Attachment.{Attachment}
use Rattle.lft_blocks.specs.LidNumbers.{numbered}
use Rattle.lft_blocks.specs.TableRow.{AreLidsAt, IsRow, entry_by, lids_at}
use Rattle.lft_blocks.proofs.RowSteps.{lids_within, row_more}
use Rattle.lft_blocks.proofs.spread_table.write_row.Goals as goal

abbrev lids_items : Vec ℕ Global → List ℕ
lids_items lids = lids.items

-- a list of LIDs, as it is held
listed : (attachments : List (Option Attachment)) (switches t : ℕ) (lists : List (Vec ℕ Global)) (list : Vec ℕ Global)
    → AreLidsAt attachments (length attachments) switches (map lids_items lists)
    → t < switches → list ≡ slice_index_or lists t list → list.items ≡ lids_at attachments t
listed attachments switches t lists list are h is =
    ap lids_items is ∙ sym (get_or-map lids_items lists t list [] (omega (arith, are.all, length-map lists lids_items))) ∙ are.each t h

pub write-requires-clause-lids : goal.write-requires-clause-lids
write-requires-clause-lids c =
    let attachments = c.args.attachments.now in
    let t = c.loop-target.target in
    let below : t < length c.args.spread.now.graph = omega (arith, c.loop-target-test.true, c.end-target-end.ensures, c.requires.towards.within) in
    let lids : c.deref.result.now ≡ lids_at attachments t =
    c.deref.ensures.value
    ∙ listed attachments (length c.args.spread.now.graph) t c.args.lids.now c.index-lids-target.result c.requires.lids below c.index-lids-target.is in
    subst (λ (x : List ℕ × ℕ). All (λ lid. lid < x.1) x.0) (λ i. (sym lids i, sym c.loop-target.invariant.all i)) (lids_within attachments t)

pub loop-target-preserved : goal.loop-target-preserved
loop-target-preserved c =
    let by = c.args.spread.now in
    let numbers = c.args.numbers.now in
    let next = (numbered (λ lid. get_or numbers lid 0) (spread_at by)).next in
    let guids = guids_of by.graph in
    let attachments = c.args.attachments.now in
    let own = c.args.own in
    let t = c.loop-target.target in
    let first = c.args.towards.now.first in
    let k = t - c.first-first.result in
    let exits = c.exits_from.new.exits in
    let below : t < length by.graph = omega (arith, c.loop-target-test.true, c.end-target-end.ensures, c.requires.towards.within) in
    let there : first + k ≡ t = omega (arith, c.loop-target.auto.target, c.first-first.ensures) in
    let inside : first + k < c.args.towards.now.end = omega (arith, there, c.loop-target-test.true, c.end-target-end.ensures) in
    let lids : c.deref.result.now ≡ lids_at attachments t =
    c.deref.ensures.value
    ∙ listed attachments (length by.graph) t c.args.lids.now c.index-lids-target.result c.requires.lids below c.index-lids-target.is in
    let port : (lid : ℕ) → port_by exits k (get_or numbers lid 0) ≡ next lid (slice_index guids own) (slice_index guids t) =
    λ lid. c.in_ok-exits_from.ensures k (get_or numbers lid 0) inside ∙ ap (λ x. next lid (slice_index guids own) (slice_index guids x)) there in
    let is : c.write.new.self ≡ with_entries (λ lid. entry_by attachments (own == t) lid (next lid (slice_index guids own) (slice_index guids t)))
    c.loop-target.row (lids_at attachments t) =
    c.write.ensures ∙ (λ i. with_entries (λ lid. entry_by attachments (own == t) lid (port lid i)) c.loop-target.row (lids i)) in
    subst (IsRow next guids attachments (t + 1) own) (sym is) (row_more next guids attachments t own c.loop-target.row c.loop-target.invariant)
