use Rattle.std.proofs.Common.{◌≡◌, ◌<◌, ◌+◌, ◌*◌, ℕ, List, All, sym, ap, subst, ◌∙◌, drop, get_or, length}
use Rattle.std.proofs.lemmas.List.{drop_more}
use Rattle.std.proofs.lemmas.List.Elements.{All-map}
use Rattle.port_graph.specs.declared.edge.Edge.{Edge}
use Rattle.port_graph.specs.Heads.{edges_at}
use Rattle.spread_labels.specs.MarkSets.{picked, sets_at}
use Rattle.spread_labels.proofs.Numbers.{numbers_long}
use Rattle.balanced_choices.specs.declared.choice_rounds.Destination.{Destination}
use Rattle.balanced_choices.specs.BalancedChoices.{near_first, towards}
use Rattle.balanced_choices.specs.Loads.{loads_with, loads_with_all, passed_on}
use Rattle.balanced_choices.proofs.FirstLoads.{repeated_long}
use Rattle.std.specs.Prelude.{reverse}
use Rattle.balanced_choices.proofs.EachEnd.{ways_at}
use Rattle.balanced_choices.proofs.first_choice_loads.add_packets.Goals as goal

pub towards-requires-clause-vertices : goal.towards-requires-clause-vertices
towards-requires-clause-vertices c =
    let P : ℕ → Type 0 = λ t. t < length c.args.graph.now in
    subst (All P) (sym (c.deref.ensures.value ∙ c.in_ok-targets.ensures))
    (All-map P (λ (d : Destination). d.position) c.args.destinations.now c.requires.destinations)

pub add_packets_to-requires-clause-digits : goal.add_packets_to-requires-clause-digits
add_packets_to-requires-clause-digits c =
    let graph = c.args.graph.now in
    let f : ℕ → List Edge = λ p. picked c.loop-k.k (sets_at c.in_ok-sets.sets p) (edges_at graph p) in
    c.requires.digits ∙ sym (ap length c.in_ok-ways.ensures ∙ numbers_long f 0 (length graph))

pub add_packets_to-requires-clause-loads : goal.add_packets_to-requires-clause-loads
add_packets_to-requires-clause-loads c =
    let graph = c.args.graph.now in
    let f : ℕ → List Edge = λ p. picked c.loop-k.k (sets_at c.in_ok-sets.sets p) (edges_at graph p) in
    c.loop-k.auto.loads ∙ c.requires.loads ∙ ap (λ n. 256 * n) (sym (ap length c.in_ok-ways.ensures ∙ numbers_long f 0 (length graph)))

pub add_packets_to-requires-clause-had : goal.add_packets_to-requires-clause-had
add_packets_to-requires-clause-had c =
    let graph = c.args.graph.now in
    let f : ℕ → List Edge = λ p. picked c.loop-k.k (sets_at c.in_ok-sets.sets p) (edges_at graph p) in
    let ends = (get_or c.args.destinations.now c.loop-k.k (record { position = 0; ends = 0; number = 0 })).ends in
    ap length (c.deref_mut.ensures.value ∙ c.in_ok-repeat.ensures) ∙ repeated_long ends c.args.sent.now
    ∙ ap (λ n. n * ends) (c.requires.sent ∙ sym (ap length c.in_ok-ways.ensures ∙ numbers_long f 0 (length graph)))

pub loop-k-preserved : goal.loop-k-preserved
loop-k-preserved c =
    let graph = c.args.graph.now in
    let sent = c.args.sent.now in
    let digits = c.args.digits.now in
    let ds = c.args.destinations.now in
    let k = c.loop-k.k in
    let none : Destination = record { position = 0; ends = 0; number = 0 } in
    let d = get_or ds k none in
    let ways : c.in_ok-ways.ways ≡ towards graph d.position =
    c.in_ok-ways.ensures
    ∙ ways_at graph c.deref.result.now ds none c.in_ok-sets.sets k (c.deref.ensures.value ∙ c.in_ok-targets.ensures) c.in_ok-sets.ensures c.loop-k-test.true in
    let had = c.deref_mut.ensures.value ∙ c.in_ok-repeat.ensures in
    let added : c.add_packets_to.new.loads ≡ loads_with (towards graph d.position) sent digits c.loop-k.loads d =
    c.in_ok-add_packets_to.ensures
    ∙ (λ i. (passed_on (ways i) digits d.number d.ends (record { had = had i; loads = c.loop-k.loads }) (reverse (near_first (ways i)))).loads) in
    ap (λ l. loads_with_all graph sent digits l (drop (k + 1) ds)) added
    ∙ sym (ap (loads_with_all graph sent digits c.loop-k.loads) (drop_more ds k none c.loop-k-test.true)) ∙ c.loop-k.invariant
