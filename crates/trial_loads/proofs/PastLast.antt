-- Past the last vertex there are no candidates.
use Rattle.std.proofs.Common.{◌≡◌, ◌<◌, ◌≤◌, ℕ, zero, suc, List, [], ap, ◌∙◌, arith, cond, length}
use Rattle.std.proofs.lemmas.Bool.{ne_eqb}
use Rattle.std.proofs.lemmas.List.{get_or_past}
use Rattle.std.specs.Prelude.{None, Some, filter}
use Rattle.port_graph.specs.declared.edge.Edge.{Edge}
use Rattle.port_graph.specs.Heads.{edges_at}
use Rattle.spread_labels.specs.declared.label.Label.TheVariants.{Down}
use Rattle.spread_labels.specs.Labels.{candidates, candidates_by, gives, mark_by, mark_or, marks_after}

module _ (edges : List (List Edge)) (t p : ℕ) (target : t < length edges) (past : length edges ≤ p) where
  no_mark : (round : ℕ) → marks_after edges t round p ≡ None
  no_mark zero = ap (λ b. cond b (Some (record { cost = 0; label = Down })) None) (ne_eqb p t (λ e. absurd (omega (arith, e))))
  no_mark (suc round) =
      ap (λ m. mark_or m (mark_by (suc round) p (filter (gives (marks_after edges t round) p) (edges_at edges p)))) (no_mark round)
      ∙ ap (λ es. mark_by (suc round) p (filter (gives (marks_after edges t round) p) es)) (get_or_past edges p [] past)

  pub no_candidates : candidates edges t p ≡ []
  no_candidates = ap (candidates_by edges t p) (no_mark (length edges))
