-- The blocks are searched by their keys.
use Rattle.std.proofs.Common.{◌≡◌, List, get_or, rules, sym, ap, subst, ◌∙◌}
use Rattle.std.proofs.lemmas.List.Sorted.{answers_always}
use Rattle.std.specs.Prelude.{Some, find, map, option_copied}
use Rattle.std.specs.List.Sorted.{IsStrictlySortedBy}
use Rattle.lanes_file.specs.Keys.{key_cmp, block_key}
use Rattle.lanes_file.specs.Lanes.{LanesSaid, is_block}
use Rattle.lanes_file.specs.declared.lanes.LevelBlock.{LevelBlock}
use Rattle.lanes_file.proofs.KeySearch.{none_found, one_found, tied_block}
use Rattle.lanes_file.proofs.lanes.Lanes.block.Goals as goal

pub returns-in_err-index : goal.returns-in_err-index
returns-in_err-index c =
    let found = c.binary_search_by_key.ensures.position block_key (answers_always _ _ _ (λ f a r g called. search rules)) in
    let test = is_block c.args.node c.args.port c.args.number in
    let tied = tied_block c.args.node c.args.port c.args.number in
    let are = c.deref.ensures.value in
    let rise = subst (λ (xs : List LevelBlock). IsStrictlySortedBy key_cmp (map block_key xs)) (sym are) c.self.invariant.levels in
    let all = ap (λ (xs : List LevelBlock). find test xs) are ∙ ap (λ (said : LanesSaid). find test said.levels) c.self.view_is in
    ap option_copied c.from_residual.ensures
    ∙ sym (none_found block_key ((c.args.node, c.args.port), c.args.number) test tied c.deref.result.now c.binary_search_by_key.result rise found
    (sym c.ok.ensures.value ∙ c.in_err-index.was))
    ∙ all

pub returns : goal.returns
returns c =
    let found = c.binary_search_by_key.ensures.position block_key (answers_always _ _ _ (λ f a r g called. search rules)) in
    let test = is_block c.args.node c.args.port c.args.number in
    let tied = tied_block c.args.node c.args.port c.args.number in
    let are = c.deref.ensures.value in
    let rise = subst (λ (xs : List LevelBlock). IsStrictlySortedBy key_cmp (map block_key xs)) (sym are) c.self.invariant.levels in
    let all = ap (λ (xs : List LevelBlock). find test xs) are ∙ ap (λ (said : LanesSaid). find test said.levels) c.self.view_is in
    let index = c.in_ok-index.index in
    let there : c.index.result.now ≡ get_or c.deref.result.now index c.index.result.now
    = c.index.ensures ∙ ap (λ (xs : List LevelBlock). get_or xs index c.index.result.now) (sym are) in
    ap (λ (x : LevelBlock). Some x) there
    ∙ one_found block_key ((c.args.node, c.args.port), c.args.number) test tied c.deref.result.now c.binary_search_by_key.result index c.index.result.now rise
    c.binary_search_by_key.ensures.bound found (sym c.ok.ensures.value ∙ c.in_ok-index.was)
    ∙ all
