use Rattle.std.proofs.Common.{◌≡◌, ◌<◌, [], sym, ap, ◌∙◌, arith, get_or, length}
use Rattle.std.specs.Prelude.{Some, slice_index_or}
use Rattle.std.proofs.lemmas.Bool.{eqb-false}
use Rattle.std.specs.Option.{option_copied}
use Rattle.spread_labels.specs.TargetSet.{has}
use Rattle.spread_routes.specs.AdapterChoices.{choice_towards}
use Rattle.spread_routes.specs.Spread.{weight_if}
use Rattle.spread_routes.specs.Exits.{ExitsValue, port_turn, with_entries}
use Rattle.spread_routes.proofs.BalancedPorts.{balanced_port}
use Rattle.spread_routes.proofs.exits.Exits.write.Goals as goal

pub returns-then-are_counted : goal.returns-then-are_counted
returns-then-are_counted c =
    let s = c.args.self.now in
    let k = c.args.target in
    let ports = c.at-ports.result.now in
    let choices = c.in-Some.choices.now in
    let weight = weight_if s.lid_digit (has s.higher k) in
    let are : slice_index_or s.ports k [] ≡ ports = sym (c.at-ports.ensures ∙ ap (λ (e : ExitsValue). slice_index_or e.ports k []) c.self.view_is) in
    let given : s.choices ≡ Some choices = sym (ap (λ (e : ExitsValue). e.choices) c.self.view_is) ∙ ap option_copied c.in-Some.is in
    let some : 0 < length ports = omega (arith, eqb-false (length ports) 0 (sym c.if-is_empty.ensures)) in
    c.write_chosen.ensures weight
    ∙ (λ i. with_entries (λ lid. port_turn ports
    (choice_towards choices weight (get_or c.args.numbers.now lid 0) (c.self.view_is i).own (c.position_of-target.ensures i))) c.args.entries.now c.args.lids.now)
    ∙ sym (λ i. with_entries (λ lid. balanced_port s choices ports k (get_or c.args.numbers.now lid 0) c.args.none some are given i) c.args.entries.now c.args.lids.now)

pub returns-else-are_counted : goal.returns-else-are_counted
returns-else-are_counted c =
    let s = c.args.self.now in
    let k = c.args.target in
    let ports = c.at-ports.result.now in
    let choices = c.in-Some.choices.now in
    let are : slice_index_or s.ports k [] ≡ ports = sym (c.at-ports.ensures ∙ ap (λ (e : ExitsValue). slice_index_or e.ports k []) c.self.view_is) in
    let given : s.choices ≡ Some choices = sym (ap (λ (e : ExitsValue). e.choices) c.self.view_is) ∙ ap option_copied c.in-Some.is in
    let some : 0 < length ports = omega (arith, eqb-false (length ports) 0 (sym c.if-is_empty.ensures)) in
    let weight : c.weight_if-weight.result ≡ weight_if s.lid_digit (has s.higher k) =
    c.weight_if-weight.ensures ∙ ap (weight_if c.self.inside.lid_digit) c.has-is_higher.ensures
    ∙ ap (λ (e : ExitsValue). weight_if e.lid_digit (has e.higher k)) c.self.view_is in
    c.write_in_turn.ensures
    ∙ (λ i. with_entries (λ lid. port_turn ports
    (choice_towards choices (weight i) (get_or c.args.numbers.now lid 0) (c.self.view_is i).own (c.position_of-target.ensures i))) c.args.entries.now c.args.lids.now)
    ∙ sym (λ i. with_entries (λ lid. balanced_port s choices ports k (get_or c.args.numbers.now lid 0) c.args.none some are given i) c.args.entries.now c.args.lids.now)
