use Rattle.std.proofs.Common.{◌++◌, [], ◌∷◌, sym, ap, ◌∙◌, arith, map}
use Rattle.std.proofs.lemmas.List.FromFn.{map-range_with_len_more}
use Rattle.std.specs.List.{range_with_len}
use Rattle.lft_blocks.specs.LidNumbers.{indexed_number}
use Rattle.lft_blocks.proofs.lid_numbers.lid_numbers.Goals as goal

pub loop-lid-preserved : goal.loop-lid-preserved
loop-lid-preserved c =
    let lid = c.loop-lid.lid in
    let f = indexed_number c.args.by.now c.args.attachments.now in
    c.in_ok-push.ensures.items ∙ ap (λ xs. xs ++ c.number_of.result ∷ []) c.loop-lid.invariant
    ∙ ap (λ x. map f (range_with_len 0 lid) ++ x ∷ []) c.number_of.ensures ∙ sym (map-range_with_len_more f 0 lid lid (omega arith))
