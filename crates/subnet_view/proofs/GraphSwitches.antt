-- The switches of the graph that facts give are the usable ones, by rising GUID.
use Rattle.std.proofs.Common.{◌≡◌, ◌<◌, ℕ, List, [], ◌∷◌, refl, sym, ap, subst, arith, true, map, ◌+◌}
use Rattle.std.specs.Prelude.{Contains}
use Rattle.std.specs.List.{AllPairs}
use Rattle.std.specs.List.Sorted.{IsStrictlyIncreasing}
use Rattle.fact_store.specs.View.{Facts, cells_of}
use Rattle.subnet_view.specs.Reading.{Cells, is_usable, switches}
use Rattle.subnet_view.specs.SwitchEdges.{SwitchEdges}
use Rattle.subnet_view.specs.Graph.{edges_of, graph_of, guids_of}
use Rattle.subnet_view.specs.GraphLaws.{SwitchLaw}
use Rattle.subnet_view.proofs.UsableSwitches.{usable_law, switches_law}

-- the graph's GUIDs are those of the switches
pub graph_guids : (cells : Cells) → guids_of (graph_of cells) ≡ switches cells
graph_guids cells = same (switches cells)
  where
    same : (gs : List ℕ) → map (λ (c : SwitchEdges). c.guid) (map (λ g. record { guid = g; edges = edges_of cells g }) gs) ≡ gs
    same [] = refl
    same (g ∷ gs) = ap (λ xs. g ∷ xs) (same gs)

-- a switch of the list is usable
pub switch_usable : (facts : Facts) (g : ℕ) → Contains (switches (cells_of facts)) g → is_usable (cells_of facts) g ≡ true
switch_usable facts g h = (usable_law (cells_of facts) g).1 (((switches_law facts).0 g).0 h)

-- a usable switch is in the list
pub usable_switch : (facts : Facts) (g : ℕ) → is_usable (cells_of facts) g ≡ true → Contains (switches (cells_of facts)) g
usable_switch facts g u = ((switches_law facts).0 g).1 ((usable_law (cells_of facts) g).0 u)

-- each number is below the next where it is below all later ones
increasing : (xs : List ℕ) → AllPairs (λ a b. a < b) xs → IsStrictlyIncreasing xs
increasing xs h k l = h k (k + 1) 0 (omega arith) l

-- the switches rise
pub switches_increase : (facts : Facts) → IsStrictlyIncreasing (switches (cells_of facts))
switches_increase facts = increasing (switches (cells_of facts)) (switches_law facts).1

-- and so do the graph's
pub switches_rise : (facts : Facts) → IsStrictlyIncreasing (guids_of (graph_of (cells_of facts)))
switches_rise facts = subst IsStrictlyIncreasing (sym (graph_guids (cells_of facts))) (switches_increase facts)

-- the graph's switches are the usable ones
pub switch_law : SwitchLaw
switch_law facts g = let cells = cells_of facts in (
  λ h. switch_usable facts g (subst (λ (xs : List ℕ). Contains xs g) (graph_guids cells) h),
  λ u. subst (λ (xs : List ℕ). Contains xs g) (sym (graph_guids cells)) (usable_switch facts g u),
)
