-- The choices are made by positions, as the rule has them.
use Rattle.std.proofs.Common.{ℕ, List, sym, ap, ◌∙◌, subst, length, map}
use Rattle.std.specs.Prelude.{Some}
use Rattle.port_graph.specs.declared.edge.Edge.{Edge}
use Rattle.port_graph.specs.Heads.{LeadToVertices}
use Rattle.spread_routes.specs.declared.lid_digit.LidDigit.{LidDigit}
use Rattle.spread_routes.specs.AdapterChoices.{AdapterChoices, adapter_choices}
use Rattle.spread_routes.specs.Spread.{Grading, level_digit}
use Rattle.spread_routes.specs.Exits.{IsByPositions}
use Rattle.spread_routes.proofs.Ports.{lead}
use Rattle.spread_routes.proofs.LevelDigits.{digits_are, digits_long}
use Rattle.spread_routes.proofs.spread.Spread.balanced.Goals as goal

abbrev Is : (edges : List (List Edge)) (positions : List ℕ) (lid_digits : List LidDigit) → Grading → Type 0
Is edges positions lid_digits by = IsByPositions by edges positions lid_digits

pub of-requires-clause-lead : goal.of-requires-clause-lead
of-requires-clause-lead c =
    let inside = c.self.inside in
    let is = subst (Is inside.edges inside.positions.items inside.lid_digits.items) c.self.view_is c.self.invariant in
    subst LeadToVertices (sym is.by_position) (lead c.args.self is.is_graph)

pub of-requires-clause-digits : goal.of-requires-clause-digits
of-requires-clause-digits c =
    let inside = c.self.inside in
    let is = subst (Is inside.edges inside.positions.items inside.lid_digits.items) c.self.view_is c.self.invariant in
    ap length (c.deref-2.ensures.value ∙ c.in_ok-digits.ensures ∙ ap (map level_digit) c.deref.ensures.value)
    ∙ digits_long c.args.self inside.edges inside.positions.items inside.lid_digits.items is

pub of-requires-clause-leaf_numbers : goal.of-requires-clause-leaf_numbers
of-requires-clause-leaf_numbers c =
    let inside = c.self.inside in
    let is = subst (Is inside.edges inside.positions.items inside.lid_digits.items) c.self.view_is c.self.invariant in
    c.requires.leaf_numbers ∙ sym (ap length is.by_position)

pub of-requires-clause-adapters : goal.of-requires-clause-adapters
of-requires-clause-adapters c =
    let inside = c.self.inside in
    let is = subst (Is inside.edges inside.positions.items inside.lid_digits.items) c.self.view_is c.self.invariant in
    c.requires.adapters ∙ sym (ap length is.by_position)

pub returns : goal.returns
returns c =
    let inside = c.self.inside in
    let by = c.args.self in
    let is = subst (Is inside.edges inside.positions.items inside.lid_digits.items) c.self.view_is c.self.invariant in
    let numbers = c.args.leaf_numbers.items in
    let digits = c.deref-2.ensures.value ∙ c.in_ok-digits.ensures ∙ ap (map level_digit) c.deref.ensures.value
    ∙ digits_are by inside.edges inside.positions.items inside.lid_digits.items is in
    let choices = c.in_ok-choices.ensures ∙ (λ i. adapter_choices (is.by_position i) (digits i) numbers c.args.adapters.items) in
    ap (λ (g : Grading). record { graph = g.graph; keys = g.keys; levels = g.levels; choices = Some c.in_ok-choices.choices }) c.self.view_is
    ∙ ap (λ (ch : AdapterChoices). record { graph = by.graph; keys = by.keys; levels = by.levels; choices = Some ch }) choices
