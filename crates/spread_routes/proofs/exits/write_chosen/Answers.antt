-- A LID more has its port.
use Rattle.std.proofs.Common.{◌≡◌, ◌<◌, ◌+◌, ◌%◌, ℕ, sym, ap, ◌∙◌, drop, get_or, length}
use Rattle.std.proofs.lemmas.Grind.{get_or_default_zero}
use Rattle.std.proofs.lemmas.List.{at_drop_more, drop_all, length-set}
use Rattle.std.proofs.Math.Nat.{mod-lt}
use Rattle.std.specs.Prelude.{slice_set}
use Rattle.spread_routes.specs.AdapterChoices.{choice_towards}
use Rattle.spread_routes.specs.Exits.{port_turn, with_entries}
use Rattle.spread_routes.proofs.exits.write_chosen.Goals as goal

pub loop-lid-preserved : goal.loop-lid-preserved
loop-lid-preserved c =
    let lids = c.args.lids.now in
    let ports = c.args.ports.now in
    let numbers = c.args.numbers.now in
    let entries = c.loop-lid.entries in
    let k = c.loop-lid.lid-index in
    let lid = c.from-lid.result in
    let so_far = c.loop-lid.invariant in
    let towards : ℕ → ℕ → ℕ = λ weight n. choice_towards c.args.choices.now weight n c.args.own c.args.target in
    let port : ℕ → ℕ → ℕ = λ weight lid. port_turn ports (towards weight (get_or numbers lid 0)) in
    let lid_is : lid ≡ get_or lids k 0 =
    c.from-lid.ensures ∙ c.number.ensures ∙ c.lid-item.is ∙ get_or_default_zero lids k c.lid-item.result c.loop-lid-test.true in
    let choice = c.towards-choice.result in
    let low : choice % length ports < length ports = mod-lt choice c.requires.ports in
    let value : (weight : ℕ) → c.number-in-loop-lid.result ≡ port weight lid =
    λ weight. c.number-in-loop-lid.ensures ∙ c.index-ports-choice.is
    ∙ get_or_default_zero ports (choice % length ports) c.index-ports-choice.result low
    ∙ ap (λ x. get_or ports (x % length ports) 0) (c.towards-choice.ensures weight ∙ ap (towards weight) c.number_of.ensures.number) in
    record {
      all = length-set entries lid c.number-in-loop-lid.result ∙ so_far.all;
      left = λ weight.
          (λ i. with_entries (port weight) (slice_set entries (lid_is i) (value weight i)) (drop (k + 1) lids))
          ∙ ap (λ x. with_entries (port weight) (slice_set entries (get_or lids k 0) (port weight x)) (drop (k + 1) lids)) lid_is
          ∙ sym (at_drop_more (with_entries (port weight) entries) lids k 0 c.loop-lid-test.true) ∙ so_far.left weight;
    }

pub returns : goal.returns
returns c =
    let port : ℕ → ℕ → ℕ = λ weight lid.
    port_turn c.args.ports.now (choice_towards c.args.choices.now weight (get_or c.args.numbers.now lid 0) c.args.own c.args.target) in
    λ weight. sym (ap (with_entries (port weight) c.loop-lid.entries) (drop_all c.loop-lid.lid-index c.args.lids.now c.loop-lid-test.false))
    ∙ c.loop-lid.invariant.left weight
