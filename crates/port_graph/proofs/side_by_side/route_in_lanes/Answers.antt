-- Vertex by vertex: the last first, and then the first first.
use Rattle.std.proofs.Common.{◌≡◌, ◌<◌, ◌+◌, ◌-◌, List, ℕ, ◌∙◌, subst, arith, length}
use Rattle.std.proofs.lemmas.List.{length-set}
use Rattle.std.specs.Prelude.{Contains, slice_index}
use Rattle.port_graph.specs.declared.edge.Edge.{Edge}
use Rattle.port_graph.proofs.Indexing.{ups_lead, downs_lead}
use Rattle.port_graph.proofs.ByteLaneRoutes.{AreDownFrom, down_more, up_more, all_routed}
use Rattle.port_graph.proofs.SearchSteps.{all_from_contained}
use Rattle.port_graph.proofs.side_by_side.route_in_lanes.Goals as goal

pub down_from-requires : goal.down_from-requires
down_from-requires c =
    all_from_contained (λ (e : Edge). e.to < length c.down.numbers) c.at.result.now
    (λ e h. omega (
      arith,
      c.requires.slopes.all,
      c.down.invariant.numbers,
      downs_lead c.args.ups.now c.args.downs.now c.requires.slopes (c.down.vertex - 1) e (subst (λ (es : List Edge). Contains es e) c.at.ensures h),
    ))

pub down-preserved : goal.down-preserved
down-preserved c =
    let ups = c.args.ups.now in
    let downs = c.args.downs.now in
    let v = c.down.vertex - 1 in
    let i = c.down.invariant in
    let back : c.down.vertex ≡ v + 1 = omega (arith, c.down-test.true) in
    record {
      within = omega (arith, i.within);
      numbers = length-set c.down.numbers v c.in-Some.hops.numbers ∙ i.numbers;
      ports = length-set c.down.ports v c.in-Some.hops.ports ∙ i.ports;
      down = λ k h.
          let t = slice_index c.args.targets.now k in
          down_more ups downs c.requires.slopes t (c.requires.targets k h) k c.down.numbers c.down.ports i.numbers i.ports v c.at.result.now
          c.in-Some.hops.numbers c.in-Some.hops.ports (omega (arith, i.within, c.down-test.true)) c.at.ensures
          (subst (λ (n : ℕ). AreDownFrom ups downs t k n c.down.numbers c.down.ports) back (i.down k h)) (c.in-Some.ensures k h);
    }

pub up_from-requires : goal.up_from-requires
up_from-requires c =
    all_from_contained (λ (e : Edge). e.to < length c.up.numbers) c.at-in-up.result.now
    (λ e h. omega (
      arith,
      c.up.invariant.numbers,
      ups_lead c.args.ups.now c.args.downs.now c.requires.slopes c.up.vertex e (subst (λ (es : List Edge). Contains es e) c.at-in-up.ensures h),
    ))

pub up-preserved : goal.up-preserved
up-preserved c =
    let ups = c.args.ups.now in
    let downs = c.args.downs.now in
    let v = c.up.vertex in
    let i = c.up.invariant in
    record {
      numbers = length-set c.up.numbers v c.in-Some-up_from.hops.numbers ∙ i.numbers;
      ports = length-set c.up.ports v c.in-Some-up_from.hops.ports ∙ i.ports;
      routed = λ k h.
          up_more ups downs c.requires.slopes (slice_index c.args.targets.now k) (c.requires.targets k h) k c.up.numbers c.up.ports i.numbers i.ports v
          c.at-in-up.result.now
          c.in-Some-up_from.hops.numbers c.in-Some-up_from.hops.ports (omega (arith, c.up-test.true, c.len-vertex-end.ensures)) c.at-in-up.ensures
          (i.routed k h) (c.in-Some-up_from.ensures k h);
    }

pub returns : goal.returns
returns c = λ e k h.
    all_routed c.args.ups.now c.args.downs.now c.requires.slopes (slice_index c.args.targets.now k) (c.requires.targets k h) k c.up.numbers c.up.ports
    c.up.invariant.numbers c.up.invariant.ports c.up.vertex (omega (arith, c.up-test.false, c.len-vertex-end.ensures)) (c.up.invariant.routed k h)
