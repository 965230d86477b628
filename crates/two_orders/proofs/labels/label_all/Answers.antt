-- One label after the other.
use Rattle.std.proofs.Common.{◌∙◌, ap}
use Rattle.two_orders.specs.Labels.{all_labelled, both_down, labels_from}
use Rattle.two_orders.proofs.labels.label_all.Goals as goal

pub returns : goal.returns
unfolding labels_from
returns c =
    let e = c.args.edges.now in
    let o = c.args.orders.now in
    let one = c.label_each.ensures ∙ ap (all_labelled e o both_down c.args.labels.now.items) c.falling.ensures in
    let two = c.label_each-2.ensures ∙ (λ i. all_labelled e o (c.to_sides.ensures i) (one i) (c.falling-2.ensures i)) in
    let three = c.label_each-3.ensures ∙ (λ i. all_labelled e o (c.to_sides-2.ensures i) (two i) (c.rising.ensures i)) in
    c.label_each-4.ensures ∙ (λ i. all_labelled e o (c.to_sides-3.ensures i) (three i) (c.rising-2.ensures i))
