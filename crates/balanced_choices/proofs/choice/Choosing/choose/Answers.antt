use Rattle.std.proofs.Common.{◌≡◌, ℕ, zero, suc, List, refl, sym, ap, ◌∙◌, arith, length}
use Rattle.port_graph.specs.declared.edge.Edge.{Edge}
use Rattle.spread_labels.specs.Orders.{numbers_from}
use Rattle.balanced_choices.specs.declared.level_digit.LevelDigit.{LevelDigit}
use Rattle.balanced_choices.specs.Ways.{lightest}
use Rattle.std.proofs.lemmas.List.{with_items_is}
use Rattle.balanced_choices.specs.Choosing.{AtEnd}
use Rattle.balanced_choices.specs.BalancedChoices.{Chosen, choices_in, choose_each, near_first, new_choices, without_packets}
use Rattle.balanced_choices.specs.EdgesTaken.{edges_taken, without_by}
use Rattle.balanced_choices.proofs.EdgesTaken.{taken_long, without_same}
use Rattle.balanced_choices.proofs.choice.Choosing.choose.Goals as goal

later : (round : ℕ) (ways : List (List Edge)) (sent : List ℕ) (digits : List LevelDigit) (order : List ℕ) (number : ℕ) (old : Chosen) → (round ≡ 0 → ⊥)
    → choices_in round ways sent digits order number old ≡ new_choices ways sent order old
later zero ways sent digits order number old some = absurd (some refl)
later (suc round) ways sent digits order number old some = refl

pub remove_packets-requires-clause-sent : goal.remove_packets-requires-clause-sent
remove_packets-requires-clause-sent c =
    omega (
      arith,
      c.ways.invariant.sent_long,
      ap (λ s. length s.edges) c.ways.view_is,
      ap length (c.deref.ensures.value ∙ c.self.invariant.taken_are),
      taken_long c.self.inside.ways.now.edges c.self.inside.choices.items,
    )

pub remove_packets-requires-clause-loads : goal.remove_packets-requires-clause-loads
remove_packets-requires-clause-loads c =
    omega (
      arith,
      c.self.invariant.loads_long,
      ap length c.deref_mut.ensures.value,
      ap length (c.deref.ensures.value ∙ c.self.invariant.taken_are),
      taken_long c.self.inside.ways.now.edges c.self.inside.choices.items,
    )

pub returns-else-round-eq0-clause-chosen : goal.returns-else-round-eq0-clause-chosen
returns-else-round-eq0-clause-chosen c =
    let own = c.self.inside.ways.now in
    let ways = own.edges in
    let order = near_first ways in
    let choices = c.self.inside.choices.items in
    let before : Chosen = record { choices = choices; loads = c.self.inside.loads.items } in
    let both : List ℕ → Chosen = λ ls. record { choices = choices; loads = ls } in
    let taken : c.deref.result.now ≡ edges_taken ways choices = c.deref.ensures.value ∙ c.self.invariant.taken_are in
    let without : c.remove_packets.new.loads ≡ without_packets ways own.sent choices before.loads (numbers_from 0 (length ways)) =
    c.remove_packets.ensures
    ∙ (λ i. without_by (c.ways.view_is i).sent (taken i) (c.deref_mut.ensures.value i) (numbers_from 0 ((ap length taken ∙ taken_long ways choices) i)))
    ∙ without_same ways choices own.sent before.loads (numbers_from 0 (length ways)) in
    let loads = with_items_is c.self.inside.loads c.remove_packets.new.loads (c.remove_packets.auto.loads ∙ c.deref_mut.ensures.len) in
    let choice : Chosen → ℕ → ℕ = λ old p. lightest ways old.choices old.loads p in
    sym (ap (λ (a : AtEnd). choices_in c.args.round a.ways.edges a.ways.sent a.ways.digits (near_first a.ways.edges) c.args.number a.chosen) c.self.view_is)
    ∙ later c.args.round ways own.sent own.digits order c.args.number before (λ none. absurd (omega (arith, none, c.if-round-eq0.false)))
    ∙ ap (λ ls. choose_each choice ways own.sent (both ls) order) (sym (loads ∙ without))
    ∙ c.choose_lightest.ensures.chosen
