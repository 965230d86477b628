-- Lane by lane.
use Rattle.std.proofs.Common.{◌≡◌, ◌<◌, ◌+◌, ◌++◌, ◌∷◌, [], ◌∙◌, sym, ap, subst, arith, List, ℕ, map, length, Vec, Global}
use Rattle.std.proofs.lemmas.List.{map-append}
use Rattle.std.specs.Prelude.{Option, slice_index}
use Rattle.port_graph.proofs.Rows.{IsMapped, mapped_more, row_to, target_is}
use Rattle.port_graph.proofs.side_by_side.next_ports_between.Goals as goal

pub loop-lane-preserved : goal.loop-lane-preserved
loop-lane-preserved c =
    let ups = c.args.ups.now in
    let downs = c.args.downs.now in
    let vertices = c.args.vertices.now in
    let first = c.len-first.result in
    let lane = c.loop-lane.lane in
    let to = row_to ups downs vertices in
    let items : Vec (Option ℕ) Global → List (Option ℕ) = λ v. v.items in
    let rows = map items c.loop-lane.rows.items in
    let below : first + lane < length vertices = omega (arith, c.loop-lane-test.true, c.min-count.ensures) in
    let target : slice_index c.route.new.self.targets lane ≡ slice_index vertices (first + lane) =
    ap (λ (ts : List ℕ). slice_index ts lane) c.route.ensures.targets
    ∙ c.targets_from.ensures lane (omega (arith, c.loop-lane-test.true, c.min-count.ensures)) ∙ target_is vertices first lane below in
    let row : c.in_ok-row.field-0.items ≡ to (slice_index vertices (first + lane)) = c.in_ok-row.ensures ∙ ap to target in
    let pushed : map items c.push.new.self.items ≡ rows ++ to (slice_index vertices (first + lane)) ∷ [] =
    ap (map items) c.in_ok-push.ensures.items ∙ map-append items c.loop-lane.rows.items (c.in_ok-row.field-0 ∷ []) ∙ ap (λ r. rows ++ r ∷ []) row in
    let next : first + lane + 1 ≡ first + (lane + 1) = omega arith in
    record {
      count = omega (arith, c.in_ok-push.ensures.len, c.loop-lane.invariant.count);
      rows = subst (λ (n : ℕ). IsMapped to vertices (map items c.push.new.self.items) n) next
          (subst (λ (xs : List (List (Option ℕ))). IsMapped to vertices xs (first + lane + 1)) (sym pushed)
          (mapped_more to vertices rows (first + lane) below c.loop-lane.invariant.rows));
    }
