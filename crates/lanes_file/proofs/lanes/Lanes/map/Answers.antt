-- The maps are searched by their keys.
use Rattle.std.proofs.Common.{◌≡◌, List, get_or, rules, sym, ap, subst, ◌∙◌}
use Rattle.std.proofs.lemmas.List.Sorted.{answers_always}
use Rattle.std.specs.Prelude.{Some, find, map, option_copied}
use Rattle.std.specs.List.Sorted.{IsStrictlySortedBy}
use Rattle.lanes_file.specs.Keys.{key_cmp, map_key}
use Rattle.lanes_file.specs.Lanes.{LanesSaid, is_map}
use Rattle.lanes_file.specs.declared.lanes.LaneMap.{LaneMap}
use Rattle.lanes_file.proofs.KeySearch.{none_found, one_found, tied_map}
use Rattle.lanes_file.proofs.lanes.Lanes.map.Goals as goal

pub returns-in_err-index-clause-is : goal.returns-in_err-index-clause-is
returns-in_err-index-clause-is c =
    let found = c.binary_search_by_key.ensures.position map_key (answers_always _ _ _ (λ f a r g called. search rules)) in
    let test = is_map c.args.node c.args.into c.args.out in
    let tied = tied_map c.args.node c.args.into c.args.out in
    let are = c.deref.ensures.value in
    let rise = subst (λ (xs : List LaneMap). IsStrictlySortedBy key_cmp (map map_key xs)) (sym are) c.self.invariant.maps in
    let all = ap (λ (xs : List LaneMap). find test xs) are ∙ ap (λ (said : LanesSaid). find test said.maps) c.self.view_is in
    ap option_copied c.from_residual.ensures
    ∙ sym (none_found map_key ((c.args.node, c.args.into), c.args.out) test tied c.deref.result.now c.binary_search_by_key.result rise found
    (sym c.ok.ensures.value ∙ c.in_err-index.was))
    ∙ all

pub returns-clause-is : goal.returns-clause-is
returns-clause-is c =
    let found = c.binary_search_by_key.ensures.position map_key (answers_always _ _ _ (λ f a r g called. search rules)) in
    let test = is_map c.args.node c.args.into c.args.out in
    let tied = tied_map c.args.node c.args.into c.args.out in
    let are = c.deref.ensures.value in
    let rise = subst (λ (xs : List LaneMap). IsStrictlySortedBy key_cmp (map map_key xs)) (sym are) c.self.invariant.maps in
    let all = ap (λ (xs : List LaneMap). find test xs) are ∙ ap (λ (said : LanesSaid). find test said.maps) c.self.view_is in
    let index = c.in_ok-index.index in
    let there : c.index.result.now ≡ get_or c.deref.result.now index c.index.result.now
    = c.index.ensures ∙ ap (λ (xs : List LaneMap). get_or xs index c.index.result.now) (sym are) in
    ap (λ (x : LaneMap). Some x) there
    ∙ one_found map_key ((c.args.node, c.args.into), c.args.out) test tied c.deref.result.now c.binary_search_by_key.result index c.index.result.now rise
    c.binary_search_by_key.ensures.bound found (sym c.ok.ensures.value ∙ c.in_ok-index.was)
    ∙ all
