-- The first of the neighbors of a vertex that are left, one after the other.
use Rattle.std.proofs.Common.{◌≡◌, ◌<◌, ◌+◌, ◌++◌, ℕ, List, [], ◌∷◌, ap, ◌∙◌, append-nil, true, false, Bool, cond, length, map, take, get_or}
use Rattle.std.proofs.lemmas.List.{map-append, take_more}
use Rattle.std.specs.Prelude.{Some, filter}
use Rattle.port_graph.specs.declared.edge.Edge.{Edge}
use Rattle.spread_labels.specs.Growth.{earlier_of, earliest_of}
use Rattle.spread_labels.proofs.Earlier.{earliest_more, filter_more}

module _ (before : ℕ → ℕ → Bool) (left : ℕ → Bool) (edges : List Edge) (i : ℕ) (e : Edge) (h : i < length edges) where
  abbrev heads_of : List Edge → List ℕ
  heads_of es = map (λ (x : Edge). x.to) es

  grown : get_or edges i e ≡ e → filter left (heads_of (take (i + 1) edges)) ≡ filter left (heads_of (take i edges)) ++ cond (left e.to) (e.to ∷ []) []
  grown is =
      ap (λ xs. filter left (heads_of xs)) (take_more edges i e h)
      ∙ ap (filter left) (map-append (λ (x : Edge). x.to) (take i edges) (get_or edges i e ∷ []))
      ∙ ap (λ (x : Edge). filter left (heads_of (take i edges) ++ x.to ∷ [])) is
      ∙ filter_more left (heads_of (take i edges)) e.to

  -- one more neighbor that is left, or is placed
  pub best_passing : get_or edges i e ≡ e → left e.to ≡ true
      → earliest_of before (filter left (heads_of (take (i + 1) edges)))
      ≡ Some (earlier_of before (earliest_of before (filter left (heads_of (take i edges)))) e.to)
  best_passing is test =
      ap (earliest_of before) (grown is ∙ ap (λ b. filter left (heads_of (take i edges)) ++ cond b (e.to ∷ []) []) test)
      ∙ earliest_more before (filter left (heads_of (take i edges))) e.to

  pub best_failing : get_or edges i e ≡ e → left e.to ≡ false
      → earliest_of before (filter left (heads_of (take (i + 1) edges))) ≡ earliest_of before (filter left (heads_of (take i edges)))
  best_failing is test =
      ap (earliest_of before)
      (grown is ∙ ap (λ b. filter left (heads_of (take i edges)) ++ cond b (e.to ∷ []) []) test ∙ append-nil (filter left (heads_of (take i edges))))
