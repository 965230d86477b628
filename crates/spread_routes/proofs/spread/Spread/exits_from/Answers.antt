use Rattle.std.proofs.Common.{◌≡◌, ◌<◌, ◌+◌, ℕ, List, sym, ap, ◌∙◌, subst, arith, drop, length, map}
use Rattle.std.proofs.lemmas.List.{get_or-drop, get_or_default}
use Rattle.std.proofs.lemmas.Result.{on_ok_weaker}
use Rattle.std.specs.Prelude.{nat_lt, slice_index_or}
use Rattle.std.specs.List.{list_any}
use Rattle.port_graph.specs.declared.edge.Edge.{Edge}
use Rattle.port_graph.specs.Heads.{edges_at}
use Rattle.spread_labels.specs.MarkSets.{picked, sets_at}
use Rattle.spread_labels.specs.TargetSet.{has}
use Rattle.spread_labels.specs.Orders.{position_of}
use Rattle.spread_routes.specs.declared.lid_digit.LidDigit.{LidDigit}
use Rattle.spread_routes.specs.Rule.{by_index, by_positions, order_by_keys}
use Rattle.spread_routes.specs.Spread.{Grading, level_there, lid_digit_there}
use Rattle.spread_routes.specs.Exits.{IsByPositions, no_lid_digit}
use Rattle.spread_routes.proofs.Leaving.{exits_are}
use Rattle.spread_routes.proofs.Ports.{digit_weight_positive, position_there, row_leads}
use Rattle.spread_routes.proofs.spread.Spread.exits_from.Goals as goal

abbrev Is : (edges : List (List Edge)) (positions : List ℕ) (lid_digits : List LidDigit) → Grading → Type 0
Is edges positions lid_digits by = IsByPositions by edges positions lid_digits

pub at-sets-requires : goal.at-sets-requires
at-sets-requires c =
    let by = c.args.self.now in
    let inside = c.self.inside in
    let is = subst (Is inside.edges inside.positions.items inside.lid_digits.items) c.self.view_is c.self.invariant in
    let own = c.args.own in
    let at : c.index-position.result.now ≡ position_of (order_by_keys by.graph by.keys) own =
    c.index-position.ensures ∙ sym (get_or_default inside.positions.items own 0 c.index-position.result.now (omega (arith, c.requires.own, is.all_positions)))
    ∙ is.position own c.requires.own in
    omega (arith, at, position_there by is.is_graph own c.requires.own, c.requires.towards.are_rows.all, ap (λ v. length v.sets) c.towards.view_is)

pub index-requires : goal.index-requires
index-requires c =
    let by = c.args.self.now in
    let inside = c.self.inside in
    let is = subst (Is inside.edges inside.positions.items inside.lid_digits.items) c.self.view_is c.self.invariant in
    let own = c.args.own in
    let at : c.index-position.result.now ≡ position_of (order_by_keys by.graph by.keys) own =
    c.index-position.ensures ∙ sym (get_or_default inside.positions.items own 0 c.index-position.result.now (omega (arith, c.requires.own, is.all_positions)))
    ∙ is.position own c.requires.own in
    omega (arith, at, position_there by is.is_graph own c.requires.own, is.all_lid_digits, ap length is.by_position, inside.lid_digits.ok.0)

pub higher_targets-higher-requires-clause-lead : goal.higher_targets-higher-requires-clause-lead
higher_targets-higher-requires-clause-lead c =
    let by = c.args.self.now in
    let inside = c.self.inside in
    let is = subst (Is inside.edges inside.positions.items inside.lid_digits.items) c.self.view_is c.self.invariant in
    row_leads by is.is_graph (length c.deref.result.now) c.index-position.result.now c.at-edges.result.now
    (ap length c.deref.ensures.value ∙ is.all_lid_digits ∙ ap length is.by_position)
    (c.at-edges.ensures ∙ ap (λ (xs : List (List Edge)). edges_at xs c.index-position.result.now) is.by_position)

pub find-requires-clause-weight : goal.find-requires-clause-weight
find-requires-clause-weight c =
    let by = c.args.self.now in
    let inside = c.self.inside in
    let is = subst (Is inside.edges inside.positions.items inside.lid_digits.items) c.self.view_is c.self.invariant in
    let own = c.args.own in
    let at : c.index-position.result.now ≡ position_of (order_by_keys by.graph by.keys) own =
    c.index-position.ensures ∙ sym (get_or_default inside.positions.items own 0 c.index-position.result.now (omega (arith, c.requires.own, is.all_positions)))
    ∙ is.position own c.requires.own in
    let below : c.index-position.result.now < length inside.edges =
    omega (arith, at, position_there by is.is_graph own c.requires.own, ap length is.by_position) in
    let lid_digit : c.index.result.now ≡ lid_digit_there by c.index-position.result.now =
    c.index.ensures ∙ sym (get_or_default inside.lid_digits.items c.index-position.result.now no_lid_digit c.index.result.now
    (omega (arith, below, is.all_lid_digits)))
    ∙ is.lid_digit c.index-position.result.now below in
    subst (λ (s : LidDigit). 0 < s.digit_weight) (sym lid_digit)
    (digit_weight_positive (by_index by.graph) by.levels (level_there by c.index-position.result.now))

pub returns : goal.returns
returns c =
    let by = c.args.self.now in
    let inside = c.self.inside in
    let is = subst (Is inside.edges inside.positions.items inside.lid_digits.items) c.self.view_is c.self.invariant in
    let own = c.args.own in
    let at : c.index-position.result.now ≡ position_of (order_by_keys by.graph by.keys) own =
    c.index-position.ensures ∙ sym (get_or_default inside.positions.items own 0 c.index-position.result.now (omega (arith, c.requires.own, is.all_positions)))
    ∙ is.position own c.requires.own in
    let p = c.index-position.result.now in
    let towards = c.args.towards.now in
    let below : p < length inside.edges = omega (arith, at, position_there by is.is_graph own c.requires.own, ap length is.by_position) in
    let lid_digit : c.index.result.now ≡ lid_digit_there by p =
    c.index.ensures ∙ sym (get_or_default inside.lid_digits.items p no_lid_digit c.index.result.now (omega (arith, below, is.all_lid_digits)))
    ∙ is.lid_digit p below in
    let sets : c.at-sets.result.now ≡ sets_at towards.sets (position_of (order_by_keys by.graph by.keys) own) =
    c.at-sets.ensures ∙ (λ i. sets_at (c.towards.view_is i).sets (at i)) in
    let edges : c.at-edges.result.now ≡ edges_at (by_positions by.graph by.keys) (position_of (order_by_keys by.graph by.keys) own) =
    c.at-edges.ensures ∙ (λ i. edges_at (is.by_position i) (at i)) in
    on_ok_weaker c.find.result
    (λ ports. exits_are by is.is_graph towards c.requires.towards own c.requires.own inside.lid_digits.items
    (λ q h. is.lid_digit q (omega (arith, h, ap length is.by_position))) c.find.new.self
    (c.find.ensures.lid_digit ∙ lid_digit ∙ ap (lid_digit_there by) at)
    (c.find.ensures.choices ∙ c.choose_by.ensures.choices ∙ c.as_ref.ensures.value ∙ ap (λ (g : Grading). g.choices) c.self.view_is)
    (c.find.ensures.own ∙ c.choose_by.ensures.own ∙ at)
    (λ k h. ap (λ xs. slice_index_or xs k 0)
    (c.find.ensures.targets ∙ c.choose_by.ensures.targets ∙ c.behind-targets.ensures
    ∙ (λ i. drop (c.towards.view_is i).first (c.deref-2.ensures.value i)))
    ∙ get_or-drop towards.first inside.positions.items k 0 ∙ is.position (towards.first + k) (omega (arith, h, c.requires.towards.within)))
    (λ k h. ports k h ∙ (λ i. map (λ (e : Edge). e.port) (picked k (sets i) (edges i))))
    (λ k h. ap (λ set. has set k) c.find.ensures.higher ∙ c.higher_targets-higher.ensures k h
    ∙ (λ i. list_any (λ (e : Edge). nat_lt (sym c.find.ensures.lid_digit i).level (slice_index_or (c.deref.ensures.value i) e.to no_lid_digit).level)
    (picked k (sets i) (edges i)))))
    c.find.ensures.ports
