-- Which vertices have labels, and how great the costs are.
use Rattle.std.proofs.Common.{◌≡◌, ◌<◌, ℕ, zero, suc, refl, sym, subst, length}
use Rattle.std.specs.Prelude.{Some}
use Rattle.port_graph.specs.declared.edge.Edge.{Edge}
use Rattle.port_graph.specs.Heads.{edges_at}
use Rattle.port_graph.proofs.Lists.{contains_map, contains_mapped}
use Rattle.spread_labels.specs.declared.label.Mark.{Mark}
use Rattle.spread_labels.specs.Labels.{marks}
use Rattle.spread_labels.specs.LabelLaws.{AreMarks, ReachedLaw}
use Rattle.spread_labels.proofs.Marking.{at_target, given_by, walk_of, reaches}
use Rattle.spread_labels.proofs.Rounds.{are_marks, cost_less}

pub reached_in_words : ReachedLaw
reached_in_words edges t good start = record {
  component = λ s n w. reaches edges t (marks edges t) are good.symmetric good.grown s n w;
  no_other = λ s m e. walk_of edges t (marks edges t) are m.cost s m e refl;
  bounded = λ s m e. cost_less edges t good.lead start (length edges) s m e (vertex s m e m.cost refl);
}
  where
    are : AreMarks edges t (marks edges t)
    are = are_marks edges t good.lead start

    vertex : (s : ℕ) (m : Mark) → marks edges t s ≡ Some m → (c : ℕ) → m.cost ≡ c → s < length edges
    vertex s m e zero c = subst (λ (x : ℕ). x < length edges) (sym (at_target edges t (marks edges t) are s m e c)) start
    vertex s m e (suc r) c =
        let g = given_by edges t (marks edges t) are s m r e c in
        let back = good.symmetric s g.edge.to (contains_mapped (λ (x : Edge). x.to) (edges_at edges s) g.edge g.given.edge) in
        let x = contains_map (λ (y : Edge). y.to) (edges_at edges g.edge.to) s back in
        subst (λ (y : ℕ). y < length edges) x.2 (good.lead g.edge.to x.0 x.1)
