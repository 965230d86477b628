use Rattle.std.proofs.Common.{◌≡◌, ◌<◌, ◌+◌, ◌-◌, ◌*◌, ℕ, suc, List, [], ◌∷◌, All, sym, ap, subst, ◌∙◌, arith, length, map}
use Rattle.std.proofs.lemmas.List.{get_or-map, length-set, map-set, set-set}
use Rattle.std.proofs.lemmas.List.Elements.{All-set}
use Rattle.std.specs.Prelude.{slice_index_or, slice_set}
use Rattle.spread_labels.specs.Orders.{numbers_from}
use Rattle.balanced_choices.specs.BalancedChoices.{Balance, choices_in, near_first, with_end, with_ends}
use Rattle.balanced_choices.proofs.choice_rounds.Balance.choose_at.Goals as goal

pub loop-k-preserved : goal.loop-k-preserved
loop-k-preserved c =
    let round = c.args.round in
    let own = c.args.ways.now in
    let ways = own.edges in
    let order = near_first ways in
    let d = c.args.destination.now in
    let first = c.args.first in
    let k = c.loop-k.k in
    let end = first + k in
    let rows = c.loop-k.self-inside.choices.items in
    let old_loads = c.loop-k.self-inside.loads.items in
    let less : k < d.ends = omega (arith, c.loop-k-test.true, c.from-ends.ensures) in
    let below : end < length rows = omega (arith, less, c.requires.ends, c.loop-k.invariant.1) in
    let next = c.choosing.inside.choices in
    let new = next.items in
    let new_loads = c.choosing.inside.loads.items in
    let all : List (List ℕ) = map (λ w. w.items) rows in
    let now : Balance = record { choices = all; loads = old_loads } in
    let it : slice_index_or all end [] ≡ c.replace.result.items =
    get_or-map (λ w. w.items) rows end c.index_mut.result.now [] below
    ∙ sym (ap (λ w. w.items) (c.replace.ensures.value ∙ c.index_mut.ensures.value)) in
    let given : old_loads ≡ c.replace-in-loop-k.result.items = sym (ap (λ w. w.items) c.replace-in-loop-k.ensures.value) in
    let turned : end - first ≡ k = omega arith in
    let ways_stay = ap (λ a. a.ways) c.choosing.view_is ∙ c.choose.ensures.ways in
    let chosen : choices_in round ways own.sent own.digits order (d.number + (end - first)) (record { choices = slice_index_or all end []; loads = old_loads })
    ≡ record { choices = new; loads = new_loads } =
    (λ i. choices_in round ways own.sent own.digits order (d.number + turned i) (record { choices = it i; loads = given i }))
    ∙ c.choose.ensures.chosen ∙ sym (ap (λ a. a.chosen) c.choosing.view_is) in
    let became : with_end round ways own.sent own.digits order d.number first now end ≡ record { choices = slice_set all end new; loads = new_loads } =
    ap (λ x. record { choices = slice_set all end x.choices; loads = x.loads }) chosen in
    let rows_are = set-set rows end c.replace.new.dest next in
    let rows_then = ap (map (λ w. w.items)) rows_are ∙ map-set (λ w. w.items) rows end next in
    let rest = numbers_from (first + (k + 1)) (d.ends - (k + 1)) in
    let left : d.ends - k ≡ suc (d.ends - (k + 1)) = omega (arith, less) in
    let further : suc end ≡ first + (k + 1) = omega arith in
    let numbers : numbers_from end (d.ends - k) ≡ end ∷ rest =
    ap (numbers_from end) left ∙ ap (λ j. end ∷ numbers_from j (d.ends - (k + 1))) further in
    let with = with_ends round ways own.sent own.digits order d.number first in
    let long = ap (λ w. length w.edges) ways_stay in (
      ap (λ xs. with (record { choices = xs; loads = new_loads }) rest) rows_then ∙ ap (λ b. with b rest) (sym became)
          ∙ sym (ap (with now) numbers) ∙ c.loop-k.invariant.0,
      ap length rows_are ∙ length-set rows end next ∙ c.loop-k.invariant.1,
      subst (All (λ w. length w.items ≡ length ways)) (sym rows_are)
          (All-set (λ w. length w.items ≡ length ways) rows end next (c.choosing.invariant.choices_long ∙ long) c.loop-k.invariant.2),
      c.choosing.invariant.loads_long ∙ ap (λ n. 256 * n) long,
    )
