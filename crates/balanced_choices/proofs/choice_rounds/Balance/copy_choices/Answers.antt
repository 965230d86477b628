use Rattle.std.proofs.Common.{◌≡◌, ◌++◌, List, ℕ, [], ◌∷◌, sym, ap, ◌∙◌, arith, get_or, length, map, ◌<◌}
use Rattle.std.proofs.lemmas.List.{get_or-map, map-append, take_more}
use Rattle.port_graph.proofs.Counts.{length_map}
use Rattle.balanced_choices.proofs.choice_rounds.Balance.copy_choices.Goals as goal

pub loop-own-preserved : goal.loop-own-preserved
loop-own-preserved c =
    let rows = c.deref-own-items.result.now in
    let i = c.loop-own.own-index in
    let olds = c.loop-own.choices.items in
    let new = c.in_ok-from_slice.field-0 in
    let all : List (List ℕ) = map (λ w. w.items) rows in
    let below : i < length all = omega (arith, c.loop-own-test.true, length_map (λ w. w.items) rows) in
    let it : new.items ≡ get_or all i [] =
    c.in_ok-from_slice.ensures.items ∙ c.deref.ensures.value ∙ ap (λ w. w.items) c.own-item.is
    ∙ sym (get_or-map (λ w. w.items) rows i c.own-item.result [] c.loop-own-test.true) in
    ap (map (λ w. w.items)) c.in_ok-push.ensures.items ∙ map-append (λ w. w.items) olds (new ∷ [])
    ∙ (λ j. c.loop-own.invariant j ++ it j ∷ []) ∙ sym (take_more all i [] below)
