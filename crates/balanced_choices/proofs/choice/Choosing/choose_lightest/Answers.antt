use Rattle.std.proofs.Common.{◌≡◌, ◌<◌, ◌+◌, ℕ, sym, ap, ◌∙◌, arith, drop, get_or, length}
use Rattle.balanced_choices.specs.Ways.{lightest}
use Rattle.balanced_choices.specs.BalancedChoices.{Chosen, choose_each, near_first, with_choice}
use Rattle.balanced_choices.specs.EdgesTaken.{edges_taken, lightest_by}
use Rattle.balanced_choices.proofs.EdgesTaken.{lightest_same, taken_long}
use Rattle.balanced_choices.proofs.InOrder.{choose_next, next_position}
use Rattle.balanced_choices.proofs.choice.Choosing.choose_lightest.Goals as goal

pub lightest-choice-requires-clause-position : goal.lightest-choice-requires-clause-position
lightest-choice-requires-clause-position c =
    let below = next_position c.self.inside.ways.now.edges c.deref-position-items.result.now c.loop-position.position-index
    (c.deref-position-items.ensures.value ∙ c.ways.invariant.order_is ∙ ap (λ s. near_first s.edges) c.ways.view_is) c.loop-position-test.true in
    omega (arith, below, ap (λ s. length s.edges) c.ways.view_is)

pub lightest-choice-requires-clause-taken : goal.lightest-choice-requires-clause-taken
lightest-choice-requires-clause-taken c =
    ap length (c.deref.ensures.value ∙ c.self-in-loop-position.invariant.taken_are)
    ∙ taken_long c.self-in-loop-position.inside.ways.now.edges c.self-in-loop-position.inside.choices.items
    ∙ ap (λ a. length a.ways.edges) c.self-in-loop-position.view_is
    ∙ ap (λ w. length w.edges) c.loop-position.invariant.1
    ∙ sym (ap (λ a. length a.ways.edges) c.self.view_is) ∙ sym (ap (λ s. length s.edges) c.ways.view_is)

pub take-requires : goal.take-requires
take-requires c =
    let below = next_position c.self.inside.ways.now.edges c.deref-position-items.result.now c.loop-position.position-index
    (c.deref-position-items.ensures.value ∙ c.ways.invariant.order_is ∙ ap (λ s. near_first s.edges) c.ways.view_is) c.loop-position-test.true in
    omega (arith, below, ap (λ a. length a.ways.edges) c.self.view_is, ap (λ w. length w.edges) c.loop-position.invariant.1)

pub loop-position-preserved : goal.loop-position-preserved
loop-position-preserved c =
    let own = c.args.self.now.ways in
    let ways = own.edges in
    let order = near_first ways in
    let items = c.deref-position-items.result.now in
    let i = c.loop-position.position-index in
    let p = get_or items i 0 in
    let now = c.loop-position.self.chosen in
    let choice : Chosen → ℕ → ℕ = λ old q. lightest ways old.choices old.loads q in
    let ways_are = c.ways.view_is ∙ ap (λ a. a.ways) c.self.view_is in
    let in_order : items ≡ order =
    c.deref-position-items.ensures.value ∙ c.ways.invariant.order_is ∙ ap (λ s. near_first s.edges) ways_are in
    let below : i < length order = omega (arith, c.loop-position-test.true, ap length in_order) in
    let inside = c.self-in-loop-position.view_is in
    let taken : c.deref.result.now ≡ edges_taken ways now.choices =
    c.deref.ensures.value ∙ c.self-in-loop-position.invariant.taken_are ∙ ap (λ a. edges_taken a.ways.edges a.chosen.choices) inside
    ∙ ap (λ w. edges_taken w.edges now.choices) c.loop-position.invariant.1 in
    let loads = c.deref-in-loop-position.ensures.value ∙ ap (λ a. a.chosen.loads) inside in
    let is : c.lightest-choice.result ≡ choice now p =
    c.lightest-choice.ensures ∙ (λ j. lightest_by (ways_are j).edges (taken j) (loads j) p) ∙ lightest_same ways now.choices now.loads p in
    let each = choose_each choice ways own.sent in
    let took : c.take.new.self.chosen ≡ with_choice ways own.sent now p (choice now p) =
    sym c.take.ensures.chosen ∙ ap (λ w. with_choice w.edges w.sent now p c.lightest-choice.result) c.loop-position.invariant.1
    ∙ ap (with_choice ways own.sent now p) is in (
      ap (λ new. each new (drop (i + 1) order)) took
          ∙ ap (λ xs. let q = get_or xs i 0 in each (with_choice ways own.sent now q (choice now q)) (drop (i + 1) order)) in_order
          ∙ choose_next choice ways own.sent now order i below ∙ c.loop-position.invariant.0,
      c.take.ensures.ways ∙ c.loop-position.invariant.1,
    )
