-- The table of next ports is that of the graph.
use Rattle.std.proofs.Common.{◌<◌, sym, ap, ◌∙◌, subst, List, ℕ, map, length}
use Rattle.std.specs.Prelude.{All, Option}
use Rattle.std.specs.Slice.Sort.{NamesEachOnce}
use Rattle.subnet_view.specs.Graph.{guids_of}
use Rattle.updown_routes.specs.Order.{IsOrder, ArePositions}
use Rattle.updown_routes.specs.Positions.{AreAtPositions}
use Rattle.updown_routes.specs.Ports.{port_rows}
use Rattle.updown_routes.specs.Ranks.{rank_of}
use Rattle.updown_routes.proofs.Orders.{names_each_once}
use Rattle.updown_routes.proofs.PositionRoutes.{are_slopes, positions_within, rows_are}
use Rattle.updown_routes.proofs.routes.Routes.of.Goals as goal

pub positions-requires : goal.positions-requires
positions-requires c =
    let order = c.in_ok-order.order.items in
    let is = subst (λ (ranks : List (Option ℕ)). IsOrder ranks order) c.ranks.ensures.ranks c.in_ok-order.ensures in
    subst (λ (xs : List ℕ). NamesEachOnce (length xs) xs) (sym c.deref.ensures.value)
    (names_each_once (map (rank_of c.args.graph.now) (guids_of c.args.graph.now)) order is)

pub towards-requires-clause-slopes : goal.towards-requires-clause-slopes
towards-requires-clause-slopes c =
    let graph = c.args.graph.now in
    let order = c.in_ok-order.order.items in
    let positions = c.in_ok-positions.positions.items in
    let ups = c.in_ok-slopes.slopes.ups in
    let downs = c.in_ok-slopes.slopes.downs in
    let is = subst (λ (ranks : List (Option ℕ)). IsOrder ranks order) c.ranks.ensures.ranks c.in_ok-order.ensures in
    let are = subst (λ (xs : List ℕ). ArePositions xs positions) c.deref.ensures.value c.in_ok-positions.ensures in
    let by = subst (λ (xs : List ℕ). AreAtPositions graph xs ups downs) c.deref-2.ensures.value c.in_ok-slopes.ensures in
    are_slopes graph c.ranks.ensures.is_graph order positions is are ups downs by

pub towards-requires-clause-positions : goal.towards-requires-clause-positions
towards-requires-clause-positions c =
    let graph = c.args.graph.now in
    let order = c.in_ok-order.order.items in
    let positions = c.in_ok-positions.positions.items in
    let ups = c.in_ok-slopes.slopes.ups in
    let downs = c.in_ok-slopes.slopes.downs in
    let is = subst (λ (ranks : List (Option ℕ)). IsOrder ranks order) c.ranks.ensures.ranks c.in_ok-order.ensures in
    let are = subst (λ (xs : List ℕ). ArePositions xs positions) c.deref.ensures.value c.in_ok-positions.ensures in
    let by = subst (λ (xs : List ℕ). AreAtPositions graph xs ups downs) c.deref-2.ensures.value c.in_ok-slopes.ensures in
    subst (λ (xs : List ℕ). All (λ p. p < length ups) xs) (sym c.deref-4.ensures.value)
    (positions_within graph c.ranks.ensures.is_graph order positions is are ups downs by)

pub invariant_of-result : goal.invariant_of-result
invariant_of-result c =
    let graph = c.args.graph.now in
    let order = c.in_ok-order.order.items in
    let positions = c.in_ok-positions.positions.items in
    let ups = c.in_ok-slopes.slopes.ups in
    let downs = c.in_ok-slopes.slopes.downs in
    let is = subst (λ (ranks : List (Option ℕ)). IsOrder ranks order) c.ranks.ensures.ranks c.in_ok-order.ensures in
    let are = subst (λ (xs : List ℕ). ArePositions xs positions) c.deref.ensures.value c.in_ok-positions.ensures in
    let by = subst (λ (xs : List ℕ). AreAtPositions graph xs ups downs) c.deref-2.ensures.value c.in_ok-slopes.ensures in
    record {
      is_graph = c.ranks.ensures.is_graph;
      are_ports = c.in_ok-towards.ensures ∙ ap (port_rows ups downs) c.deref-4.ensures.value
          ∙ rows_are graph c.ranks.ensures.is_graph order positions is are ups downs by;
    }
