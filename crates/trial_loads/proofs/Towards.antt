-- The candidates of vertices towards a target, by sets.
use Rattle.std.proofs.Common.{◌≡◌, ◌<◌, ℕ, List, [], inl, inr, sym, ap, ◌∙◌, length}
use Rattle.std.proofs.lemmas.Bool.{cases_lt}
use Rattle.std.proofs.lemmas.List.{get_or_past}
use Rattle.std.specs.Prelude.{slice_index}
use Rattle.port_graph.specs.declared.edge.Edge.{Edge}
use Rattle.spread_labels.specs.declared.target_set.TargetSet.{TargetSet}
use Rattle.spread_labels.specs.Labels.{candidates}
use Rattle.spread_labels.specs.MarkSets.{AreCandidateSets, picked, sets_at}
use Rattle.trial_loads.specs.TrialLoads.{candidates_in}
use Rattle.trial_loads.proofs.PastLast.{no_candidates}

module _ (graph : List (List Edge)) (targets : List ℕ) (rows : List (List TargetSet)) (k : ℕ)
    (are : AreCandidateSets graph targets rows) (h : k < length targets) (within : slice_index targets k < length graph) where
  found_at : (s : ℕ) → candidates_in graph rows k s ≡ candidates graph (slice_index targets k) s
  found_at s =
      elim (cases_lt s (length graph)) [
        | inl below ↦ are.each k s h below
        | inr past ↦ ap (picked k (sets_at rows s)) (get_or_past graph s [] past)
            ∙ sym (no_candidates graph (slice_index targets k) s within past)
      ]

  pub found : candidates_in graph rows k ≡ candidates graph (slice_index targets k)
  found = λ i s. found_at s i
