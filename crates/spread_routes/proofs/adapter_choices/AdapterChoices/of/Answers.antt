use Rattle.std.proofs.Common.{◌≡◌, ◌<◌, ℕ, List, sym, ap, ◌∙◌, subst, length}
use Rattle.std.specs.Prelude.{All}
use Rattle.balanced_choices.specs.declared.choice_rounds.Destination.{Destination}
use Rattle.spread_routes.specs.AdapterChoices.{adapter_choices, counted_if_uneven, destinations}
use Rattle.spread_routes.proofs.adapter_choices.AdapterChoices.of.Goals as goal

pub counted_if_uneven-requires-clause-destinations : goal.counted_if_uneven-requires-clause-destinations
counted_if_uneven-requires-clause-destinations c =
    let long : length c.deref-3.result.now ≡ length c.args.edges.now = ap length c.deref-3.ensures.value ∙ c.requires.adapters in
    subst (λ (x : ℕ × List Destination). All (λ d. d.position < x.0) x.1)
    (λ i. (long i, sym c.deref-5.ensures.value i)) c.in_ok-destinations.ensures.positions

pub returns : goal.returns
unfolding adapter_choices
returns c =
    let numbers = c.args.leaf_numbers.items in
    let adapters = c.args.adapters.items in
    let towards = c.deref-5.ensures.value ∙ c.in_ok-destinations.ensures.are
    ∙ (λ i. destinations (c.deref-2.ensures.value i) (c.deref-3.ensures.value i)) in
    let sent = c.deref-4.ensures.value ∙ c.in_ok-sent.ensures ∙ c.deref.ensures.value in
    let counted = c.in_ok-counted.ensures
    ∙ (λ i. counted_if_uneven c.args.edges.now (sent i) c.args.digits.now (towards i)) in
    λ i. record { leaf_numbers = numbers; adapters = adapters; counted = counted i }
