-- The positions of vertices, as they are written.
use Rattle.std.proofs.Common.{◌≡◌, ◌<◌, ℕ, List, sym, ap, ◌∙◌, length, map, get_or, refl, [], ◌∷◌}
use Rattle.std.specs.Prelude.{Contains}
use Rattle.smp_bytes.proofs.Members.{contains_here, contains_later}
use Rattle.port_graph.specs.declared.edge.Edge.{Edge}
use Rattle.spread_labels.specs.Orders.{position_of, positioned_edge}
use Rattle.spread_labels.specs.VertexPositions.{StandOnce, ArePositions, to_position}
use Rattle.spread_labels.proofs.ByPositions.{position_less}

-- what was written for each position is the position of each vertex there
pub positions_are : (n : ℕ) (vertices positions : List ℕ) → StandOnce n vertices → length positions ≡ n
    → ((p : ℕ) → p < length vertices → get_or positions (get_or vertices p 0) 0 ≡ p) → ArePositions n vertices positions
positions_are n vertices positions stand all written = record {
  all = all;
  each = λ s h. let i = position_less vertices s h in ap (λ x. get_or positions x 0) (sym i.1) ∙ written (position_of vertices s) i.0;
}

-- edges by the positions that were written
pub edges_positioned : (n : ℕ) (vertices positions : List ℕ) → ArePositions n vertices positions → (es : List Edge)
    → ((e : Edge) → Contains es e → Contains vertices e.to)
    → map (to_position positions) es ≡ map (positioned_edge vertices) es
edges_positioned n vertices positions are [] stand = refl
edges_positioned n vertices positions are (e ∷ es) stand =
    (λ i. record { port = e.port; to = are.each e.to (stand e (contains_here e es)) i }
    ∷ edges_positioned n vertices positions are es (λ x h. stand x (contains_later e x es h)) i)
