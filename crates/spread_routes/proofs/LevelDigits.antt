-- The levels and the digit weights of positions.
use Rattle.std.proofs.Common.{◌≡◌, ℕ, List, sym, ap, ◌∙◌, arith, length, map}
use Rattle.std.proofs.lemmas.List.{ext_get_or, get_or-map}
use Rattle.port_graph.specs.declared.edge.Edge.{Edge}
use Rattle.port_graph.proofs.Counts.{length_map}
use Rattle.balanced_choices.specs.declared.level_digit.LevelDigit.{LevelDigit}
use Rattle.spread_routes.specs.declared.lid_digit.LidDigit.{LidDigit}
use Rattle.spread_routes.specs.Rule.{order_by_keys}
use Rattle.spread_routes.specs.Spread.{Grading, digits_there, level_digit, lid_digit_at}
use Rattle.spread_routes.specs.Exits.{IsByPositions, no_lid_digit}
use Rattle.spread_routes.proofs.Names.{all_positioned}

module _ (by : Grading) (edges : List (List Edge)) (positions : List ℕ) (lid_digits : List LidDigit)
    (is : IsByPositions by edges positions lid_digits) where
  abbrev order : List ℕ
  order = order_by_keys by.graph by.keys

  long : length edges ≡ length order
  long = ap length is.by_position ∙ all_positioned by.graph by.keys is.is_graph

  pub digits_long : length (map level_digit lid_digits) ≡ length edges
  digits_long = length_map level_digit lid_digits ∙ is.all_lid_digits

  pub digits_are : map level_digit lid_digits ≡ digits_there by.graph by.keys by.levels
  digits_are =
      let f : ℕ → LevelDigit = λ i. level_digit (lid_digit_at by.graph by.levels i) in
      let none = level_digit no_lid_digit in
      ext_get_or none (map level_digit lid_digits) (map f order) (digits_long ∙ long ∙ sym (length_map f order))
      (λ p h. get_or-map level_digit lid_digits p no_lid_digit none (omega (arith, h, digits_long, is.all_lid_digits))
      ∙ ap level_digit (is.lid_digit p (omega (arith, h, digits_long)))
      ∙ sym (get_or-map f order p 0 none (omega (arith, h, digits_long, long))))
