-- What the search finds.
use Rattle.std.proofs.Common.{◌≡◌, ◌<◌, length, sym, ap, ◌∙◌, arith}
use Rattle.std.proofs.lemmas.List.{get_or_default, get_or_past}
use Rattle.std.specs.Prelude.{None, slice_index_or, Ok, Err}
use Rattle.spread_labels.specs.Orders.{position_of}
use Rattle.spread_labels.proofs.Found.{not_found}
use Rattle.subnet_view.proofs.SwitchSearch.{index_found}
use Rattle.lft_blocks.proofs.LidNumbers.{position_is}
use Rattle.multicast_tree.proofs.tree.parent_of.Goals as goal

pub returns-in-Ok : goal.returns-in-Ok
returns-in-Ok c =
    let guids = c.args.guids.now in
    let parents = c.args.parents.now in
    let i = c.in-Ok.index in
    let at = index_found guids c.args.guid (Ok i) c.in-Ok.ensures.position c.requires.rising in
    let position : position_of guids c.args.guid ≡ i = sym (ap (position_of guids) at.1) ∙ position_is guids c.requires.rising i at.0 in
    let less : i < length parents = omega (arith, at.0, c.requires.all) in
    c.index-parents-index.is ∙ get_or_default parents i c.index-parents-index.result None less ∙ sym (ap (λ k. slice_index_or parents k None) position)

pub returns-in-Err : goal.returns-in-Err
returns-in-Err c =
    let guids = c.args.guids.now in
    let none = index_found guids c.args.guid (Err c.in-Err.field-0) c.in-Err.ensures.position c.requires.rising in
    let past = not_found guids c.args.guid (λ i l e. none (i, l, get_or_default guids i c.args.guid 0 l ∙ e)) in
    sym (get_or_past c.args.parents.now (position_of guids c.args.guid) None (omega (arith, past, c.requires.all)))
