use Rattle.std.proofs.Common.{◌++◌, ◌∷◌, [], sym, ap, ◌∙◌, arith}
use Rattle.std.proofs.lemmas.List.FromFn.{map-range_with_len_more}
use Rattle.lft_blocks.specs.TableRow.{block_of_row, blocks_of_row}
use Rattle.lft_blocks.proofs.table_row.TableRow.blocks.Goals as goal

pub loop-b-preserved : goal.loop-b-preserved
loop-b-preserved c =
    let row = c.args.self.now in
    let b = c.loop-b.b in
    let entries = c.deref.ensures.value ∙ c.self.view_is in
    c.in_ok-push.ensures.items ∙ ap (λ xs. xs ++ c.block.result ∷ []) c.loop-b.invariant
    ∙ ap (λ x. blocks_of_row row b ++ x ∷ []) (c.block.ensures ∙ ap (λ xs. block_of_row xs b) entries)
    ∙ sym (map-range_with_len_more (block_of_row row) 0 b b (omega arith))
