use Rattle.std.proofs.Common.{◌≡◌, ◌<◌, ◌==◌, max, List, ℕ, sym, ap, ◌∙◌, subst, arith, length, get_or}
use Rattle.std.proofs.lemmas.Bool.{eq-eqb, ne_eqb}
use Rattle.std.specs.Prelude.{Contains, filter, slice_index}
use Rattle.port_graph.specs.declared.edge.Edge.{Edge}
use Rattle.port_graph.proofs.SearchSteps.{all_from_contained}
use Rattle.spread_labels.specs.Level.{is_rise, rises_at}
use Rattle.spread_labels.proofs.Widths.{greatest_with, greatest_without, max_turned}
use Rattle.spread_labels.proofs.level.width.Goals as goal
use Rattle.spread_labels.proofs.level.width.Goals.{then-levels-vertex, else-levels-vertex}

pub rises-requires-clause-lead : goal.rises-requires-clause-lead
rises-requires-clause-lead c =
    all_from_contained (λ (e : Edge). e.to < length c.args.levels.now) c.at.result.now
    (λ e h. omega (arith, c.requires.all, c.requires.lead c.loop-vertex.vertex e (subst (λ (xs : List Edge). Contains xs e) c.at.ensures h)))

pub loop-vertex-preserved : goal.loop-vertex-preserved
loop-vertex-preserved c =
    let edges = c.args.edges.now in
    let hs = c.args.levels.now in
    let h = c.args.level in
    let v = c.loop-vertex.vertex in
    let f = rises_at edges hs in
    let test = λ (s : ℕ). slice_index hs s == h in
    elim c.if-levels-vertex.branch [
      | then-levels-vertex w ↦
          let most : w.rises.result ≡ f v = w.rises.ensures ∙ ap (λ es. length (filter (is_rise hs v) es)) w.at.ensures in
          w.width-is ∙ w.max-width.ensures ∙ max_turned w.rises.result c.loop-vertex.width
          ∙ (λ i. max (c.loop-vertex.invariant i) (most i)) ∙ sym (greatest_with f test v (eq-eqb (get_or hs v 0) h w.if-levels-vertex.true))
      | else-levels-vertex w ↦
          w.width-is ∙ c.loop-vertex.invariant ∙ sym (greatest_without f test v (ne_eqb (get_or hs v 0) h w.if-levels-vertex.false))
    ]
