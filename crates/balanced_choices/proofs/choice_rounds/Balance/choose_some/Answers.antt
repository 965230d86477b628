use Rattle.std.proofs.Common.{◌≡◌, ◌<◌, ◌+◌, ℕ, All, sym, ap, subst, ◌∙◌, arith, drop, get_or, length}
use Rattle.std.proofs.lemmas.List.{drop_more}
use Rattle.std.proofs.lemmas.List.Elements.{All-map}
use Rattle.spread_labels.specs.MarkSets.{AreCandidateSets}
use Rattle.spread_labels.specs.Orders.{numbers_from}
use Rattle.balanced_choices.specs.declared.choice_rounds.Destination.{Destination}
use Rattle.balanced_choices.specs.BalancedChoices.{ends_of, near_first, towards, with_all, with_ends}
use Rattle.balanced_choices.specs.Traffic.{Sending}
use Rattle.balanced_choices.proofs.AsLong.{IsAsLong, ends_long, still_as_long}
use Rattle.balanced_choices.proofs.EachEnd.{ends_least, ends_next, ways_at}
use Rattle.balanced_choices.proofs.choice_rounds.Balance.choose_some.Goals as goal

pub towards-requires-clause-vertices : goal.towards-requires-clause-vertices
towards-requires-clause-vertices c =
    let P : Sending → ℕ → Type 0 = λ s t. t < length s.edges in
    subst (λ (s : Sending). All (P s) c.deref.result.now) (sym c.traffic.view_is)
    (subst (All (P c.args.traffic.now)) (sym (c.deref.ensures.value ∙ c.in_ok-targets.ensures))
    (All-map (P c.args.traffic.now) (λ (d : Destination). d.position) c.args.destinations.now c.requires.destinations))

pub choose_at-requires-clause-ends : goal.choose_at-requires-clause-ends
choose_at-requires-clause-ends c =
    let ds = c.args.destinations.now in
    let k = c.loop-k.k in
    let none : Destination = record { position = 0; ends = 0; number = 0 } in
    let next = ends_next c.loop-k.end ds k none c.loop-k-test.true in
    let most = ends_least (c.loop-k.end + (get_or ds k none).ends) (drop (k + 1) ds) in
    omega (arith, next, most, c.loop-k.invariant.1, c.requires.ends, c.loop-k.invariant.2.ends)

pub loop-k-preserved : goal.loop-k-preserved
loop-k-preserved c =
    let round = c.args.round in
    let graph = c.args.traffic.now.edges in
    let sent = c.args.traffic.now.sent in
    let digits = c.args.traffic.now.digits in
    let with = with_all round graph sent digits in
    let ds = c.args.destinations.now in
    let k = c.loop-k.k in
    let end = c.loop-k.end in
    let now = c.loop-k.self in
    let none : Destination = record { position = 0; ends = 0; number = 0 } in
    let d = get_or ds k none in
    let targets = c.deref.result.now in
    let sets = c.in_ok-sets.sets in
    let are : AreCandidateSets graph targets sets =
    subst (λ (s : Sending). AreCandidateSets s.edges targets sets) c.traffic.view_is c.in_ok-sets.ensures in
    let ways : c.in_ok-ways.ways.edges ≡ towards graph d.position =
    c.in_ok-ways.ensures.edges
    ∙ ways_at graph targets ds none sets k (c.deref.ensures.value ∙ c.in_ok-targets.ensures) are c.loop-k-test.true in
    let own = towards graph d.position in
    let ends = numbers_from end d.ends in
    let became : with_ends round own sent digits (near_first own) d.number end now ends ≡ c.choose_at.new.self =
    sym (λ i. with_ends round (ways i) (c.in_ok-ways.ensures.sent i) (c.in_ok-ways.ensures.digits i) (near_first (ways i)) d.number end now ends)
    ∙ c.in_ok-end.ensures.balance in
    let next = c.in_ok-end.ensures.next in
    let rest = drop (k + 1) ds in (
      (λ i. with (sym became i) (next i) rest) ∙ sym (ap (with now end) (drop_more ds k none c.loop-k-test.true)) ∙ c.loop-k.invariant.0,
      ap (λ n. ends_of n rest) next ∙ sym (ends_next end ds k none c.loop-k-test.true) ∙ c.loop-k.invariant.1,
      still_as_long c.args.self.now now c.choose_at.new.self c.loop-k.invariant.2
          (subst (IsAsLong now) became (ends_long round own sent digits (near_first own) d.number end now ends)),
    )
