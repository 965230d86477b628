use Rattle.std.proofs.Common.{◌++◌, ◌∷◌, [], sym, ap, ◌∙◌, arith}
use Rattle.std.proofs.lemmas.List.{length-set}
use Rattle.spread_labels.proofs.PortLists.{added_more, list_of}
use Rattle.spread_labels.proofs.candidate_lists.add.Goals as goal

pub target-preserved : goal.target-preserved
target-preserved c =
    let t = c.in-Some.target in
    let lists = c.target.lists in
    let list = c.push.new.self in
    let i = c.target.invariant in
    record {
      all = length-set lists t list ∙ i.all;
      each = λ k h.
          added_more c.target.left c.but-left.result c.args.port t lists list (omega (arith, i.all, c.in-Some.ensures.0))
          c.in-Some.ensures.1 c.but-left.ensures.others
          (c.in_ok-push.ensures.items ∙ ap (λ xs. xs ++ c.args.port ∷ [])
          (sym (list_of lists t c.index-lists-target.result (omega (arith, i.all, c.in-Some.ensures.0)))))
          k h
          ∙ i.each k h;
    }
