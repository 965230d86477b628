-- The keys by a list that names switches, as the code finds them: from the last to the first.
use Rattle.std.proofs.Common.{◌≡◌, ◌<◌, ◌+◌, ℕ, suc, List, [], ◌∷◌, inl, inr, refl, sym, ap, ◌∙◌, subst, arith, cond, length, map, get_or, drop, replicate}
use Rattle.std.proofs.lemmas.Bool.{cases_eq, eq-eqb, ne_eqb}
use Rattle.std.proofs.lemmas.List.{ext_get_or, drop_more, get_or-map, get_or-set_same, get_or-set_other, length-set}
use Rattle.std.proofs.Math.Seq.{drop-length}
use Rattle.std.proofs.lemmas.Simd.{splat_is_map}
use Rattle.std.specs.Prelude.{Contains, None, Some, slice_set}
use Rattle.smp_bytes.proofs.Members.{contains_here, contains_later}
use Rattle.port_graph.proofs.Counts.{length_map}
use Rattle.spread_labels.specs.declared.key_order.VertexKey.{VertexKey}
use Rattle.spread_labels.specs.Orders.{at_position, position_of}
use Rattle.subnet_view.specs.SwitchEdges.{SwitchEdges}
use Rattle.subnet_view.specs.Graph.{guids_of}
use Rattle.subnet_view.specs.GraphLaws.{IsGraph}
use Rattle.subnet_view.specs.SwitchGraph.{IsIndexIn}
use Rattle.spread_routes.specs.SwitchOrder.{key_as_named, keys_as_named}
use Rattle.spread_routes.proofs.Indices.{index_of_switch}

-- the keys by what the list names from a number on
abbrev pub key_behind : List ℕ → ℕ → ℕ → VertexKey
key_behind switches number g = record { distance_class = 0; distance = number + position_of (drop number switches) g }

abbrev pub keys_behind : List SwitchEdges → List ℕ → ℕ → List VertexKey
keys_behind graph switches number = map (key_behind switches number) (guids_of graph)

alike : (f h : ℕ → VertexKey) (xs : List ℕ) → ((x : ℕ) → Contains xs x → f x ≡ h x) → map f xs ≡ map h xs
alike f h [] same = refl
alike f h (x ∷ xs) same = λ i. same x (contains_here x xs) i ∷ alike f h xs (λ y k. same y (contains_later x y xs k)) i

module _ (switches : List ℕ) (k g : ℕ) (below : k < length switches) (is : get_or switches k 0 ≡ g) where
  more : drop k switches ≡ g ∷ drop (k + 1) switches
  more = drop_more switches k 0 below ∙ ap (λ x. x ∷ drop (k + 1) switches) is

  key_of_it : key_behind switches k g ≡ record { distance_class = 0; distance = k }
  key_of_it =
      let at : position_of (drop k switches) g ≡ 0 = ap (λ xs. position_of xs g) more
      ∙ ap (λ b. cond b 0 (suc (position_of (drop (k + 1) switches) g))) (eq-eqb g g refl) in
      let sum : k + position_of (drop k switches) g ≡ k = omega (arith, at) in
      λ i. record { distance_class = 0; distance = sum i }

  key_of_another : (x : ℕ) → (x ≡ g → ⊥) → key_behind switches k x ≡ key_behind switches (k + 1) x
  key_of_another x apart =
      let at : position_of (drop k switches) x ≡ suc (position_of (drop (k + 1) switches) x) = ap (λ xs. position_of xs x) more
      ∙ ap (λ b. cond b 0 (suc (position_of (drop (k + 1) switches) x))) (ne_eqb g x (λ e. apart (sym e))) in
      let sum : k + position_of (drop k switches) x ≡ k + 1 + position_of (drop (k + 1) switches) x = omega (arith, at) in
      λ i. record { distance_class = 0; distance = sum i }

  -- a GUID that is no switch of the graph changes no key
  pub passed_over : (graph : List SwitchEdges) → IsIndexIn (guids_of graph) g None → keys_behind graph switches (k + 1) ≡ keys_behind graph switches k
  passed_over graph none =
      alike (key_behind switches (k + 1)) (key_behind switches k) (guids_of graph)
      (λ x h. sym (key_of_another x (λ e. none (subst (λ (y : ℕ). Contains (guids_of graph) y) e h))))

  -- that of the switch is how many stand before it
  pub placed : (graph : List SwitchEdges) → IsGraph graph → (i : ℕ) → IsIndexIn (guids_of graph) g (Some i)
      → slice_set (keys_behind graph switches (k + 1)) i (record { distance_class = 0; distance = k }) ≡ keys_behind graph switches k
  placed graph good i there =
      let guids = guids_of graph in
      let key : VertexKey = record { distance_class = 0; distance = k } in
      let none : VertexKey = record { distance_class = 0; distance = 0 } in
      let old = keys_behind graph switches (k + 1) in
      let long = length_map (key_behind switches (k + 1)) guids in
      ext_get_or none (slice_set old i key) (keys_behind graph switches k)
      (length-set old i key ∙ long ∙ sym (length_map (key_behind switches k) guids))
      (λ j h. let within : j < length guids = omega (arith, h, length-set old i key, long) in
      let new : get_or (keys_behind graph switches k) j none ≡ key_behind switches k (at_position guids j) = get_or-map (key_behind switches k) guids j 0 none within in
      (elim (cases_eq j i) [
        | inl same ↦ ap (λ n. get_or (slice_set old i key) n none) same ∙ get_or-set_same old i key none (omega (arith, there.0, long))
            ∙ sym key_of_it ∙ ap (key_behind switches k) (sym there.1 ∙ sym (ap (at_position guids) same)) ∙ sym new
        | inr apart ↦ get_or-set_other old i j key none apart ∙ get_or-map (key_behind switches (k + 1)) guids j 0 none within
            ∙ sym (key_of_another (at_position guids j) (λ e. apart (sym (index_of_switch graph good j within)
            ∙ ap (position_of guids) (e ∙ sym there.1) ∙ index_of_switch graph good i there.0))) ∙ sym new
      ]))

-- before the first step no switch is named
pub none_named : (graph : List SwitchEdges) (switches : List ℕ) (n : ℕ) → length (guids_of graph) ≡ n
    → replicate n (record { distance_class = 0; distance = length switches }) ≡ keys_behind graph switches (length switches)
none_named graph switches n is =
    let past : VertexKey = record { distance_class = 0; distance = length switches } in
    splat_is_map (guids_of graph) n past is
    ∙ alike (λ x. past) (key_behind switches (length switches)) (guids_of graph)
    (λ x h. let none : position_of (drop (length switches) switches) x ≡ 0 = ap (λ xs. position_of xs x) (drop-length switches) in
    let sum : length switches ≡ length switches + position_of (drop (length switches) switches) x = omega (arith, none) in
    λ i. record { distance_class = 0; distance = sum i })

-- and behind the last all are
pub all_named : (graph : List SwitchEdges) (switches : List ℕ) → keys_behind graph switches 0 ≡ keys_as_named graph switches
all_named graph switches =
    alike (key_behind switches 0) (key_as_named switches) (guids_of graph)
    (λ x h. let sum : 0 + position_of switches x ≡ position_of switches x = omega arith in λ i. record { distance_class = 0; distance = sum i })
