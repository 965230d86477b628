-- A switch more.
use Rattle.std.proofs.Common.{◌<◌, ◌≤◌, ◌∙◌, sym, arith}
use Rattle.std.proofs.lemmas.Bool.{ltb-true, ltb-false}
use Rattle.packet_walks.proofs.Tops.{greatest_more, less_is}
use Rattle.packet_walks.proofs.network.greatest_top.Goals.{then-lt, else-lt}
use Rattle.packet_walks.proofs.network.greatest_top.Goals as goal

pub loop-node-preserved : goal.loop-node-preserved
loop-node-preserved c =
    let node = c.node-item.result in
    let more = greatest_more c.args.nodes.now c.loop-node.node-index node c.loop-node-test.true c.node-item.is in
    let so_far = c.loop-node.invariant in
    elim c.if-lt.branch [
      | then-lt w ↦
          let less : c.loop-node.greatest < node.top =
          ltb-true c.loop-node.greatest node.top (sym (less_is c.loop-node.greatest node.top) ∙ sym c.lt.ensures ∙ w.if-lt.true) in
          let is = w.greatest-is in
          omega (arith, more, so_far, is, less)
      | else-lt w ↦
          let most : node.top ≤ c.loop-node.greatest =
          ltb-false c.loop-node.greatest node.top (sym (less_is c.loop-node.greatest node.top) ∙ sym c.lt.ensures ∙ w.if-lt.false) in
          let is = w.greatest-is in
          omega (arith, more, so_far, is, most)
    ]
