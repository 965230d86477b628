use Rattle.std.proofs.Common.{◌≡◌, ℕ, ap, ◌∙◌, subst}
use Rattle.std.specs.Prelude.{IfOk, unwrap_or}
use Rattle.port_graph.specs.Heads.{AreDistances}
use Rattle.spread_labels.specs.GrowthKeys.{first_among, first_at}
use Rattle.spread_labels.proofs.Numbers.{distances_are}
use Rattle.spread_labels.proofs.growth_keys.from_first.Goals as goal

pub returns : goal.returns
returns c =
    let edges = c.args.edges.now in
    let keys = c.args.keys.now in
    let vertex = c.args.vertex in
    let first : c.unwrap_or-first.result ≡ first_at edges keys vertex =
    c.unwrap_or-first.ensures ∙ ap (λ o. unwrap_or o vertex) (c.first.ensures.first
    ∙ ap (first_among keys) (c.deref.ensures.value ∙ distances_are edges vertex c.in_ok-near.near.items c.in_ok-near.ensures)) in
    subst (λ (f : ℕ). IfOk c.distances-2.result (λ found. AreDistances edges f found.items)) first c.distances-2.ensures
