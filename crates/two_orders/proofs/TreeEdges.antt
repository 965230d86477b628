-- The edges of a tree lead to vertices, and each has an edge back.
use Rattle.std.proofs.Common.{◌≡◌, ◌∙◌, ◌<◌, ℕ, Bool, true, false, List, length, refl, sym, ap, arith, subst, ◌==◌, ◌||◌}
use Rattle.std.specs.Prelude.{Contains}
use Rattle.std.proofs.lemmas.List.FromFn.{get_or-map-range_with_len, length-map-range_with_len}
use Rattle.smp_bytes.proofs.Members.{contains_filter, contains-from_filter}
use Rattle.port_graph.specs.declared.edge.Edge.{Edge}
use Rattle.port_graph.specs.Heads.{LeadToVertices, edges_at, heads}
use Rattle.port_graph.proofs.Indexing.{edges_below}
use Rattle.spread_labels.specs.LabelLaws.{IsSymmetric}
use Rattle.two_orders.specs.Growth.{number_at}
use Rattle.two_orders.specs.Trees.{all_earliest, is_in_tree, tree, tree_by, tree_edges}
use Rattle.port_graph.proofs.Lists.{contains_map, contains_mapped}

or_other : (a b : Bool) → (a || b) ≡ true → (b || a) ≡ true
or_other true true h = refl
or_other true false h = refl
or_other false true h = refl
or_other false false h = h

module _ (edges : List (List Edge)) (earliests : List ℕ) where
  abbrev grown : List (List Edge)
  grown = tree_by edges earliests

  pub as_many : length grown ≡ length edges
  as_many = length-map-range_with_len (tree_edges edges earliests) 0 (length edges)

  pub row : (a : ℕ) → a < length edges → edges_at grown a ≡ tree_edges edges earliests a
  row a h = get_or-map-range_with_len (tree_edges edges earliests) 0 (length edges) a a _ h (omega arith)

  pub there : (a : ℕ) (e : Edge) → Contains (edges_at grown a) e → Contains (edges_at edges a) e × (is_in_tree earliests a e ≡ true)
  there a e h =
      let below : a < length edges = omega (arith, edges_below grown a e h, as_many) in
      contains-from_filter (is_in_tree earliests a) (edges_at edges a) e (subst (λ (es : List Edge). Contains es e) (row a below) h)

  lead_by : LeadToVertices edges → LeadToVertices grown
  lead_by lead a e h = let to = lead a e (there a e h).0 in omega (arith, to, as_many)

  symmetric_by : IsSymmetric edges → IsSymmetric grown
  symmetric_by symmetric a b h =
      let x = contains_map (λ (e : Edge). e.to) (edges_at grown a) b h in
      let e = x.0 in
      let own = there a e x.1 in
      let to : e.to ≡ b = x.2 in
      let its = subst (λ (v : ℕ). Contains (heads edges a) v) to (contains_mapped (λ (e : Edge). e.to) (edges_at edges a) e own.0) in
      let y = contains_map (λ (e : Edge). e.to) (edges_at edges b) a (symmetric a b its) in
      let back = y.0 in
      let home : back.to ≡ a = y.2 in
      let below : b < length edges = edges_below edges b back y.1 in
      let test : is_in_tree earliests b back ≡ true =
      (λ i. (number_at earliests b == home i) || (number_at earliests (home i) == b))
      ∙ or_other (number_at earliests a == b) (number_at earliests b == a)
      (sym (λ i. (number_at earliests a == to i) || (number_at earliests (to i) == a)) ∙ own.1) in
      subst (λ (v : ℕ). Contains (heads grown b) v) home
      (contains_mapped (λ (e : Edge). e.to) (edges_at grown b) back
      (subst (λ (es : List Edge). Contains es back) (sym (row b below))
      (contains_filter (is_in_tree earliests b) (edges_at edges b) back y.1 test)))

module _ (edges : List (List Edge)) (positions : List ℕ) where
  pub tree_is : tree edges positions ≡ tree_by edges (all_earliest edges positions)
  unfolding tree
  tree_is = refl

  pub tree_long : length (tree edges positions) ≡ length edges
  tree_long = ap length tree_is ∙ as_many edges (all_earliest edges positions)

  pub tree_leads : LeadToVertices edges → LeadToVertices (tree edges positions)
  tree_leads lead = subst LeadToVertices (sym tree_is) (lead_by edges (all_earliest edges positions) lead)

  pub tree_symmetric : IsSymmetric edges → IsSymmetric (tree edges positions)
  tree_symmetric symmetric = subst IsSymmetric (sym tree_is) (symmetric_by edges (all_earliest edges positions) symmetric)
