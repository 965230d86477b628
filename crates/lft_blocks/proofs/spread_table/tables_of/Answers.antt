use Rattle.std.proofs.Common.{◌≡◌, ◌≢◌, ◌++◌, ◌∷◌, [], List, ℕ, sym, ap, ◌∙◌, arith, map, length}
use Rattle.std.proofs.lemmas.Grind.{get_or_default_zero}
use Rattle.std.proofs.lemmas.List.{get_or_default, get_or-set_other, length-set}
use Rattle.std.proofs.lemmas.List.FromFn.{length-map-range_with_len, map-range_with_len_more}
use Rattle.std.specs.Prelude.{slice_index_or}
use Rattle.std.specs.List.{range_with_len}
use Rattle.lft_blocks.specs.TableRow.{block_of_row, blocks_of_row, table_of_row}
use Rattle.lft_blocks.proofs.spread_table.tables_of.Goals as goal

pub loop-own-preserved : goal.loop-own-preserved
loop-own-preserved c =
    let guids = c.args.guids.now in
    let rows = c.args.rows.now in
    let count = c.args.count in
    let own = c.loop-own.own in
    let f = table_of_row guids rows count in
    let guid = c.index-guids-own.is ∙ get_or_default_zero guids own c.index-guids-own.result c.loop-own-test.true in
    let row : c.replace-row.result ≡ slice_index_or rows own [] =
    c.replace-row.ensures.value
    ∙ sym (get_or_default c.loop-own.rows own [] c.index-rows-own.result (omega (arith, c.loop-own-test.true, c.requires.all, c.loop-own.invariant.1)))
    ∙ c.loop-own.invariant.2 own (omega arith) in
    let blocks = c.in_ok-blocks.ensures ∙ ap (λ (xs : List ℕ). blocks_of_row xs count) row in
    let table : c.new.result ≡ f own = c.new.ensures ∙ (λ i. record { guid = guid i; blocks = blocks i }) in (
      c.in_ok-push.ensures.items ∙ ap (λ xs. xs ++ c.new.result ∷ []) c.loop-own.invariant.0
          ∙ ap (λ x. map f (range_with_len 0 own) ++ x ∷ []) table ∙ sym (map-range_with_len_more f 0 own own (omega arith)),
      length-set c.loop-own.rows own c.replace-row.new.dest ∙ c.loop-own.invariant.1,
      λ k h. (let other : k ≢ own = λ e. absurd (omega (arith, h, e)) in
          get_or-set_other c.loop-own.rows own k c.replace-row.new.dest [] other ∙ c.loop-own.invariant.2 k (omega (arith, h))),
    )

pub new-requires : goal.new-requires
new-requires c =
    let count = ap length c.in_ok-blocks.ensures ∙ length-map-range_with_len (block_of_row c.replace-row.result) 0 c.args.count in
    omega (arith, count, c.requires.few)
