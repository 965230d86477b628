-- The ports by which LIDs leave where loads are balanced.
use Rattle.std.proofs.Common.{◌≡◌, ◌<◌, ◌%◌, ℕ, List, [], ◌∷◌, refl, sym, ap, ◌∙◌, arith, get_or, length}
use Rattle.std.proofs.lemmas.List.{get_or_default}
use Rattle.std.proofs.lemmas.Option.{slice_get_read}
use Rattle.std.proofs.Math.Nat.{mod-lt}
use Rattle.std.specs.Prelude.{Some, slice_index, slice_index_or, unwrap_or}
use Rattle.spread_labels.specs.TargetSet.{has}
use Rattle.spread_routes.specs.AdapterChoices.{AdapterChoices, choice_towards}
use Rattle.spread_routes.specs.Spread.{number_with, weight_if}
use Rattle.spread_routes.specs.Exits.{ExitsValue, port_by, port_chosen, port_turn}

turn_there : (ports : List ℕ) (choice none : ℕ) → 0 < length ports → unwrap_or (port_chosen ports choice) none ≡ port_turn ports choice
turn_there [] choice none some = absurd (omega arith)
turn_there (port ∷ ports) choice none some =
    let all : List ℕ = port ∷ ports in
    let i : ℕ = choice % length all in
    let low : i < length all = mod-lt choice some in
    ap (λ o. unwrap_or o none)
    (slice_get_read all (length all) i (get_or all i 0) refl low (sym (get_or_default all i (get_or all i 0) 0 low)))

pub balanced_port : (exits : ExitsValue) (choices : AdapterChoices) (ports : List ℕ) (k lid none : ℕ) → 0 < length ports
    → slice_index_or exits.ports k [] ≡ ports → exits.choices ≡ Some choices
    → unwrap_or (port_by exits k lid) none
    ≡ port_turn ports (choice_towards choices (weight_if exits.lid_digit (has exits.higher k)) lid exits.own (slice_index exits.targets k))
balanced_port exits choices ports k lid none some are given =
    (λ j. unwrap_or (port_chosen (are j)
    (number_with (given j) exits.lid_digit (has exits.higher k) lid exits.own (slice_index exits.targets k))) none)
    ∙ turn_there ports
    (choice_towards choices (weight_if exits.lid_digit (has exits.higher k)) lid exits.own (slice_index exits.targets k)) none some
