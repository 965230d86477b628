-- What a search among switches finds.
use Rattle.std.proofs.Common.{◌≡◌, ◌<◌, ◌≤◌, ℕ, List, inl, inr, refl, sym, ap, ◌∙◌, subst, arith, Bool, true, false, cond, get_or, length}
use Rattle.std.proofs.lemmas.Bool.{and_parts, cases_order}
use Rattle.std.proofs.lemmas.Grind.{get_or_default_zero}
use Rattle.std.proofs.lemmas.List.Elements.{Contains-get_or}
use Rattle.std.proofs.lemmas.List.Kept.{AllPairs-from_increasing}
use Rattle.std.proofs.lemmas.List.Sorted.{searched}
use Rattle.std.specs.Prelude.{Contains, Option, None, Some, is_some, option_and_then, if◌then◌else◌}
use Rattle.std.specs.Result.{result_ok}
use Rattle.std.specs.declared.result.Result.{Result}
use Rattle.std.specs.declared.result.Result.TheVariants.{Ok, Err}
use Rattle.std.specs.List.Sorted.{IsStrictlyIncreasing, IsBinarySearchResult}
use Rattle.std.specs.Ordering.{nat_cmp}
use Rattle.fact_store.specs.View.{Facts, cells_of}
use Rattle.port_graph.specs.declared.edge.Edge.{Edge}
use Rattle.reply_facts.specs.Known.{cap_of}
use Rattle.subnet_view.specs.Reading.{Cells, is_switch_node, switches}
use Rattle.subnet_view.specs.Wires.{across}
use Rattle.subnet_view.specs.Graph.{edge_at}
use Rattle.subnet_view.specs.SwitchGraph.{by_guid, IsIndexOf, IsIndexIn}
use Rattle.subnet_view.proofs.Graphs.{edge_to_usable}
use Rattle.subnet_view.proofs.GraphSwitches.{switch_usable, usable_switch}

-- numbers that rise do not fall
not_fall : (xs : List ℕ) → IsStrictlyIncreasing xs → (i j : ℕ) → i ≤ j → j < length xs → get_or xs i 0 ≤ get_or xs j 0
not_fall xs rise i j h l =
    elim (cases_order i j) [
      | inl e ↦ omega (arith, ap (λ k. get_or xs k 0) e)
      | inr (inl k) ↦ let a = AllPairs-from_increasing xs rise i j 0 k l in omega arith
      | inr (inr k) ↦ absurd (omega arith)
    ]

-- what a search among rising numbers finds
pub index_found : (xs : List ℕ) (x : ℕ) (r : Result ℕ ℕ) → IsBinarySearchResult (λ y. nat_cmp y x) xs r → IsStrictlyIncreasing xs
    → IsIndexIn xs x (result_ok r)
index_found xs x (Ok i) s rise = searched xs x (Ok i) s (not_fall xs rise)
index_found xs x (Err i) s rise = λ h.
    let a = searched xs x (Err i) s (not_fall xs rise) in
    let e : get_or xs h.0 0 ≡ x = sym (get_or_default_zero xs h.0 x h.1) ∙ h.2 in
    elim (cases_order h.0 i) [
      | inl k ↦ let b = a.2 h.0 (omega arith) h.1 in omega arith
      | inr (inl k) ↦ let b = a.1 h.0 k in omega arith
      | inr (inr k) ↦ let b = a.2 h.0 (omega arith) h.1 in omega arith
    ]

-- what stands at an index is in the list
pub index_in : (xs : List ℕ) (x i : ℕ) → IsIndexOf xs x i → Contains xs x
index_in xs x i (l, e) = subst (λ (y : ℕ). Contains xs y) e (Contains-get_or xs i 0 l)

-- a wire to a switch is the edge to its index, and any other wire is none
module _ (facts : Facts) (g p : ℕ) (q : ℕ × ℕ) (wire : across (cells_of facts) g p ≡ Some q) where
  abbrev guids : List ℕ
  guids = switches (cells_of facts)

  edge_by_test : edge_at (cells_of facts) g p ≡ cond (is_switch_node (cells_of facts) q.0) (Some (record { port = p; to = q.0 })) None
  edge_by_test = ap (option_and_then
      (λ (x : ℕ × ℕ). cond (is_switch_node (cells_of facts) x.0) (Some (record { port = p; to = x.0 })) None)) wire

  abbrev test : Bool
  test = is_switch_node (cells_of facts) q.0

  -- a wire to what is no switch is no edge
  pub no_edge : (Contains guids q.0 → ⊥) → edge_at (cells_of facts) g p ≡ None
  no_edge none =
      let edge : Option Edge = Some (record { port = p; to = q.0 }) in
      let nothing : Option Edge = None in
      edge_by_test ∙ (elim test as (λ t. test ≡ t → cond t edge nothing ≡ nothing) [
        | true ↦ λ e. absurd (none
            (usable_switch facts q.0 (edge_to_usable (cells_of facts) g p q.0 (record { end_port = q.1; wire = wire; is_switch = e }))))
        | false ↦ λ e. refl
      ] refl)

  -- a wire to the switch at an index is the edge there
  pub edge_to_index : (i : ℕ) → IsIndexOf guids q.0 i → Some (by_guid guids (record { port = p; to = i })) ≡ edge_at (cells_of facts) g p
  edge_to_index i found =
      let is = and_parts test (is_some (cap_of (cells_of facts) q.0)) (switch_usable facts q.0 (index_in guids q.0 i found)) in
      let edge : ℕ → Option Edge = λ x. Some (record { port = p; to = x }) in
      ap edge found.1 ∙ sym (ap (λ t. cond t (edge q.0) None) is.0) ∙ sym edge_by_test

-- a port without a wire has no edge
pub no_wire : (cells : Cells) (g p : ℕ) → across cells g p ≡ None → edge_at cells g p ≡ None
no_wire cells g p e = ap (option_and_then
    (λ (q : ℕ × ℕ). if is_switch_node cells q.0 then Some (record { port = p; to = q.0 }) else None)) e
