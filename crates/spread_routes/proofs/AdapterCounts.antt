-- How many numbers of a range pass a test, and how many switches have a number of adapters.
use Rattle.std.proofs.Common.{◌≡◌, sym, ◌+◌, ℕ, zero, suc, Bool, true, false, [], ◌∷◌, refl, ap, ◌∙◌, arith, cond, length}
use Rattle.std.specs.Prelude.{filter}
use Rattle.std.specs.List.{range_with_len}
use Rattle.port_graph.proofs.Counts.{length_map}
use Rattle.subnet_view.specs.Graph.{graph_of}
use Rattle.subnet_view.specs.Reading.{Cells, switches}
use Rattle.subnet_view.specs.SwitchEdges.{SwitchEdges}
use Rattle.subnet_view.proofs.GraphSwitches.{graph_guids}
use Rattle.spread_routes.specs.Adapters.{adapters_at, adapters_of}

-- in a range with one number more one more passes, or none
pub count_more : (f : ℕ → Bool) (b k : ℕ) (t : Bool) → f (b + k) ≡ t
    → length (filter f (range_with_len b (suc k))) ≡ length (filter f (range_with_len b k)) + cond t 1 0
count_more f b zero t is =
    ap (λ c. length (cond c (b ∷ []) [])) (ap f (let same : b ≡ b + 0 = omega arith in same) ∙ is)
    ∙ (elim t as (λ c. length (cond c (b ∷ []) []) ≡ 0 + cond c 1 0) [
      | true ↦ refl
      | false ↦ refl
    ])
count_more f b (suc k) t is =
    let later = count_more f (b + 1) k t (ap f (let same : b + 1 + k ≡ b + suc k = omega arith in same) ∙ is) in
    elim (f b) as
    (λ c. length (cond c (b ∷ filter f (range_with_len (b + 1) (suc k))) (filter f (range_with_len (b + 1) (suc k))))
    ≡ length (cond c (b ∷ filter f (range_with_len (b + 1) k)) (filter f (range_with_len (b + 1) k))) + cond t 1 0) [
      | true ↦ omega (arith, later)
      | false ↦ later
    ]

pub adapters_long : (cells : Cells) → length (adapters_of cells) ≡ length (graph_of cells)
adapters_long cells =
    length_map (adapters_at cells) (switches cells) ∙ ap length (sym (graph_guids cells)) ∙ length_map (λ (s : SwitchEdges). s.guid) (graph_of cells)
