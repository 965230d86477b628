-- A GUID that is not a switch of the graph has no rank and no next port.
use Rattle.std.proofs.Common.{◌≡◌, ℕ, List, [], ◌∷◌, refl, ap, ◌∙◌, Bool, false, cond}
use Rattle.std.proofs.lemmas.Bool.{false_from_ne_true}
use Rattle.std.specs.Prelude.{None, Some, Contains, option_and_then}
use Rattle.std.specs.List.{find}
use Rattle.smp_bytes.proofs.Members.{contains_here, contains_later}
use Rattle.subnet_view.specs.SwitchEdges.{SwitchEdges}
use Rattle.subnet_view.specs.Graph.{guids_of}
use Rattle.subnet_view.specs.GraphLaws.{IsGraph, IsSwitch}
use Rattle.subnet_view.specs.Components.{distance, in_one_component}
use Rattle.subnet_view.proofs.Components.{is_some_of, walk_of, walk_begins}
use Rattle.updown_routes.specs.Ranks.{rank_of}

none_passes : (p : ℕ → Bool) (xs : List ℕ) → ((x : ℕ) → Contains xs x → p x ≡ false) → find p xs ≡ None
none_passes p [] h = refl
none_passes p (x ∷ xs) h = ap (λ t. cond t (Some x) (find p xs)) (h x (contains_here x xs)) ∙ none_passes p xs (λ y k. h y (contains_later x y xs k))

module _ (graph : List SwitchEdges) (good : IsGraph graph) where
  -- what is no switch has no rank
  pub no_rank : (a : ℕ) → (IsSwitch graph a → ⊥) → rank_of graph a ≡ None
  no_rank a none = ap (option_and_then (λ root. distance graph root a)) (none_passes (in_one_component graph a) (guids_of graph) (λ x h.
      false_from_ne_true (in_one_component graph a x) (λ e. let d = is_some_of (distance graph a x) e in
      none (walk_begins graph good d.0 a x h (walk_of graph good a x d.0 d.1)))))
