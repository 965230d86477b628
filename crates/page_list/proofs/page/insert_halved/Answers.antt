-- In the half that has the index.
use Rattle.std.proofs.Common.{ap, ◌∙◌, ◌-◌, arith}
use Rattle.std.specs.Prelude.{insert}
use Rattle.page_list.proofs.Halves.{second_half, first_grew, second_grew}
use Rattle.page_list.proofs.page.insert_halved.Goals as goal
use Rattle.page_list.proofs.page.insert_halved.Goals.{then-index, else-index}

pub returns-clause-items : goal.returns-clause-items
returns-clause-items g c =
    let rest = second_half c.deref.result.now c.args.page.now.items c.args.tail.now.items c.extend_from_slice.new.self.items 128 c.in-Ok.ensures.items
    c.deref.ensures.value c.requires.empty in
    elim c.if-index.branch [
      | then-index w ↦
          first_grew c.args.page.now.items c.if-index.page.items c.if-index.tail.items 128 c.args.index c.args.item (omega arith) w.if-index.true
          ((λ i. (w.page-is i).items) ∙ w.insert_within.ensures.items
          ∙ ap (λ s. insert s c.args.index c.args.item) c.truncate.ensures.items) ((λ i. (w.tail-is i).items) ∙ rest)
      | else-index w ↦
          second_grew c.args.page.now.items c.if-index.page.items c.if-index.tail.items 128 c.args.index c.args.item (omega arith) (omega arith)
          ((λ i. (w.page-is i).items) ∙ c.truncate.ensures.items) ((λ i. (w.tail-is i).items) ∙ w.insert_within-else-index.ensures.items
          ∙ ap (λ s. insert s (c.args.index - 128) c.args.item) rest)
    ]
