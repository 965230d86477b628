-- A LID more has its port.
use Rattle.std.proofs.Common.{◌≡◌, ◌<◌, ◌+◌, ◌/◌, ◌%◌, ℕ, sym, ap, ◌∙◌, drop, get_or, length, subst}
use Rattle.std.proofs.lemmas.Grind.{get_or_default_zero}
use Rattle.std.proofs.lemmas.List.{at_drop_more, length-set}
use Rattle.std.proofs.Math.Nat.{mod-lt}
use Rattle.std.specs.Prelude.{slice_set}
use Rattle.balanced_choices.specs.BalancedChoices.{digits_from, in_turn}
use Rattle.spread_routes.specs.AdapterChoices.{choice_towards, choice_with, end_number}
use Rattle.spread_routes.specs.Exits.{port_turn, with_entries}
use Rattle.balanced_choices.proofs.Counting.{turn_of}
use Rattle.spread_routes.proofs.exits.write_in_turn.Goals as goal

pub loop-lid-preserved : goal.loop-lid-preserved
loop-lid-preserved c =
    let lids = c.args.lids.now in
    let ports = c.args.ports.now in
    let numbers = c.args.numbers.now in
    let choices = c.args.choices.now in
    let weight = c.args.weight in
    let own = c.args.own in
    let target = c.args.target in
    let entries = c.loop-lid.entries in
    let k = c.loop-lid.lid-index in
    let lid = c.from-lid.result in
    let so_far = c.loop-lid.invariant in
    let towards : ℕ → ℕ = λ n. choice_towards choices weight n own target in
    let port : ℕ → ℕ = λ lid. port_turn ports (towards (get_or numbers lid 0)) in
    let lid_is : lid ≡ get_or lids k 0 =
    c.from-lid.ensures ∙ c.number.ensures ∙ c.lid-item.is ∙ get_or_default_zero lids k c.lid-item.result c.loop-lid-test.true in
    let n = c.number_of.result in
    let first : towards n ≡ digits_from weight (end_number choices n target) + own =
    ap (λ counted. choice_with counted choices weight n own target) c.requires.counted in
    let end : c.first_number-first.result + c.in_turn.result ≡ end_number choices n target =
    (λ i. c.first_number-first.ensures.number i + (c.in_turn.ensures.turn ∙ ap (λ m. in_turn m n) c.count_at-count.ensures.count) i) in
    let choice : c.choice.result ≡ towards n % length ports =
    c.choice.ensures ∙ c.go_to.ensures.choice ∙ (λ i. (end i / so_far.weight i + so_far.offset i) % so_far.count i)
    ∙ turn_of weight (end_number choices n target) own (length ports)
    ∙ ap (λ d. d % length ports) (sym first) in
    let low : c.choice.result < length ports = subst (λ (x : ℕ). x < length ports) (sym choice) (mod-lt (towards n) c.requires.ports) in
    let value : c.number-in-loop-lid.result ≡ port lid =
    c.number-in-loop-lid.ensures ∙ c.index-ports-choice.is ∙ get_or_default_zero ports c.choice.result c.index-ports-choice.result low
    ∙ ap (λ x. get_or ports x 0) (choice ∙ ap (λ x. towards x % length ports) c.number_of.ensures.number) in
    record {
      all = length-set entries lid c.number-in-loop-lid.result ∙ so_far.all;
      turn = c.go_to.ensures.turn;
      count = c.go_to.ensures.same.count ∙ so_far.count;
      offset = c.go_to.ensures.same.offset ∙ so_far.offset;
      weight = c.go_to.ensures.same.weight ∙ so_far.weight;
      left = (λ i. with_entries port (slice_set entries (lid_is i) (value i)) (drop (k + 1) lids))
          ∙ ap (λ x. with_entries port (slice_set entries (get_or lids k 0) (port x)) (drop (k + 1) lids)) lid_is
          ∙ sym (at_drop_more (with_entries port entries) lids k 0 c.loop-lid-test.true) ∙ so_far.left;
    }
