use Rattle.std.proofs.Common.{◌≡◌, ◌<◌, ◌+◌, ℕ, List, sym, ap, ◌∙◌, subst, arith, length, get_or}
use Rattle.port_graph.specs.declared.edge.Edge.{Edge}
use Rattle.port_graph.specs.Heads.{LeadToVertices}
use Rattle.spread_routes.specs.declared.lid_digit.LidDigit.{LidDigit}
use Rattle.spread_labels.specs.Orders.{position_of}
use Rattle.spread_routes.specs.Rule.{order_by_keys}
use Rattle.spread_routes.specs.Spread.{Grading}
use Rattle.spread_routes.specs.Exits.{IsByPositions}
use Rattle.spread_routes.proofs.Leaving.{targets_within, towards_are}
use Rattle.spread_routes.proofs.Ports.{lead, position_there}
use Rattle.spread_routes.proofs.spread.Spread.towards.Goals as goal

abbrev Is : (edges : List (List Edge)) (positions : List ℕ) (lid_digits : List LidDigit) → Grading → Type 0
Is edges positions lid_digits by = IsByPositions by edges positions lid_digits

pub towards-requires-clause-lead : goal.towards-requires-clause-lead
towards-requires-clause-lead c =
    let inside = c.self.inside in
    let is = subst (Is inside.edges inside.positions.items inside.lid_digits.items) c.self.view_is c.self.invariant in
    subst LeadToVertices (sym is.by_position) (lead c.args.self.now is.is_graph)

pub towards-requires-clause-vertices : goal.towards-requires-clause-vertices
towards-requires-clause-vertices c =
    let by = c.args.self.now in
    let inside = c.self.inside in
    let is = subst (Is inside.edges inside.positions.items inside.lid_digits.items) c.self.view_is c.self.invariant in
    let value = c.deref.ensures.value in
    targets_within c.deref.result.now c.args.first (c.args.first + c.min.result)
    (omega (arith, c.requires, c.min.ensures, c.len.ensures, inside.positions.ok.0, is.all_positions, ap length value)) (length inside.edges)
    (λ i h. let below : i < length by.graph = omega (arith, h, is.all_positions, ap length value) in
    let at : get_or c.deref.result.now i 0 ≡ position_of (order_by_keys by.graph by.keys) i = ap (λ xs. get_or xs i 0) value ∙ is.position i below in
    omega (arith, at, position_there by is.is_graph i below, ap length is.by_position))

pub returns-clause-are : goal.returns-clause-are
returns-clause-are c =
    let by = c.args.self.now in
    let inside = c.self.inside in
    let is = subst (Is inside.edges inside.positions.items inside.lid_digits.items) c.self.view_is c.self.invariant in
    let value = c.deref.ensures.value in
    towards_are by is.is_graph inside.edges c.deref.result.now c.args.first (c.args.first + c.min.result) c.in_ok-sets.sets
    is.by_position (ap length value ∙ is.all_positions)
    (λ i h. ap (λ xs. get_or xs i 0) value ∙ is.position i h) (omega (arith, c.min.ensures))
    (omega (arith, c.requires, c.min.ensures, c.len.ensures, inside.positions.ok.0, is.all_positions)) c.in_ok-sets.ensures
