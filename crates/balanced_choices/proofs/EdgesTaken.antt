-- Ways by the edges that positions take are those by their choices.
use Rattle.std.proofs.Common.{◌≡◌, ◌<◌, ◌≤◌, ℕ, List, [], ◌∷◌, inl, inr, refl, sym, ap, ◌∙◌, arith, length, map, get_or}
use Rattle.std.proofs.lemmas.Bool.{cases_eq, cases_lt}
use Rattle.std.proofs.lemmas.List.{get_or-set_other, get_or-set_same, get_or_past, length-set}
use Rattle.std.proofs.lemmas.Option.{slice_get_past}
use Rattle.std.specs.Prelude.{None, Option, slice_get, slice_set}
use Rattle.port_graph.specs.declared.edge.Edge.{Edge}
use Rattle.port_graph.specs.Heads.{edges_at}
use Rattle.spread_labels.specs.Level.{greatest}
use Rattle.spread_labels.proofs.Numbers.{made_all, made_at, numbers_long}
use Rattle.balanced_choices.specs.declared.ways.Change.TheVariants.{Remove}
use Rattle.balanced_choices.specs.Ways.{candidates_at, channel_by, edge_taken, first_least, lightest, way, way_from, with_changes}
use Rattle.balanced_choices.specs.BalancedChoices.{without_packets}
use Rattle.balanced_choices.specs.EdgesTaken.{edges_taken, lightest_by, way_by, without_by}

module _ (ways : List (List Edge)) (choices : List ℕ) where
  pub taken_long : length (edges_taken ways choices) ≡ length ways
  taken_long = numbers_long (edge_taken ways choices) 0 (length ways)

  none_past : (p : ℕ) → length ways ≤ p → edge_taken ways choices p ≡ None
  none_past p h =
      ap (λ es. slice_get es (get_or choices p 0)) (get_or_past ways p [] h) ∙ slice_get_past [] (get_or choices p 0) (omega arith)

  taken_at : (p : ℕ) → get_or (edges_taken ways choices) p None ≡ edge_taken ways choices p
  taken_at p =
      elim (cases_lt p (length ways)) [
        | inl h ↦ made_at (edge_taken ways choices) (length ways) p None h
        | inr h ↦ get_or_past (edges_taken ways choices) p None (omega (arith, h, taken_long)) ∙ sym (none_past p h)
      ]

  pub way_same : (p : ℕ) → way_by (edges_taken ways choices) p ≡ way_from ways choices p
  way_same p = λ i. way (λ q. taken_at q i) (taken_long i) p

  pub lightest_same : (loads : List ℕ) (p : ℕ) → lightest_by ways (edges_taken ways choices) loads p ≡ lightest ways choices loads p
  lightest_same loads p =
      λ i. first_least (map (λ (e : Edge). greatest 0 (map (λ c. get_or loads c 0) (channel_by p e ∷ way_same e.to i))) (candidates_at ways p))

  pub without_same : (sent loads ps : List ℕ) → without_by sent (edges_taken ways choices) loads ps ≡ without_packets ways sent choices loads ps
  without_same sent loads [] = refl
  without_same sent loads (p ∷ ps) =
      without_same sent (with_changes (Remove (get_or sent p 0)) loads (way_by (edges_taken ways choices) p)) ps
      ∙ (λ i. without_packets ways sent choices (with_changes (Remove (get_or sent p 0)) loads (way_same p i)) ps)

  -- a position takes another candidate
  module _ (p k : ℕ) where
    other_taken : (q : ℕ) → (q ≡ p → ⊥) → edge_taken ways choices q ≡ edge_taken ways (slice_set choices p k) q
    other_taken q other = ap (slice_get (edges_at ways q)) (sym (get_or-set_other choices p q k 0 other))

    pub taken_with : p < length ways
        → slice_set (edges_taken ways choices) p (edge_taken ways (slice_set choices p k) p) ≡ edges_taken ways (slice_set choices p k)
    taken_with h =
        let old : List (Option Edge) = edges_taken ways choices in
        let e = edge_taken ways (slice_set choices p k) p in
        made_all (edge_taken ways (slice_set choices p k)) (length ways) (slice_set old p e) None (length-set old p e ∙ taken_long)
        (λ q below. elim (cases_eq q p) [
          | inl is ↦
              ap (λ r. get_or (slice_set old p e) r None) is ∙ get_or-set_same old p e None (omega (arith, h, taken_long))
              ∙ sym (ap (edge_taken ways (slice_set choices p k)) is)
          | inr other ↦ get_or-set_other old p q e None other ∙ taken_at q ∙ other_taken q other
        ])
