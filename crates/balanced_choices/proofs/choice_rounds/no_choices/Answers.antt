use Rattle.std.proofs.Common.{◌++◌, ℕ, List, replicate, sym, ap, ◌∙◌, get_or, take}
use Rattle.std.proofs.lemmas.List.{replicate-append-replicate}
use Rattle.balanced_choices.specs.declared.choice_rounds.Destination.{Destination}
use Rattle.balanced_choices.specs.BalancedChoices.{ends_of}
use Rattle.balanced_choices.proofs.EachEnd.{ends_more}
use Rattle.balanced_choices.proofs.choice_rounds.no_choices.Goals as goal

pub loop-destination-preserved : goal.loop-destination-preserved
loop-destination-preserved c =
    let ds = c.args.destinations.now in
    let i = c.loop-destination.destination-index in
    let own : List ℕ = replicate c.args.positions 0 in
    let none : Destination = record { position = 0; ends = 0; number = 0 } in
    let d = get_or ds i none in
    c.in_ok-push_choices.ensures
    ∙ (λ j. c.loop-destination.invariant j ++ replicate (c.from.ensures j) own)
    ∙ replicate-append-replicate (ends_of 0 (take i ds)) d.ends own
    ∙ ap (λ n. replicate n own) (sym (ends_more 0 ds i none c.loop-destination-test.true))
