-- What the code finds by the numbers of vertices, stated for vertices with other names.
use Rattle.std.proofs.Common.{◌≡◌, ◌<◌, ℕ, List, sym, ap, ◌∙◌, subst, arith, length, map}
use Rattle.std.specs.Prelude.{Option, None, Contains, slice_index_or}
use Rattle.port_graph.specs.declared.edge.Edge.{Edge}
use Rattle.port_graph.specs.Walks.{shortest}
use Rattle.port_graph.specs.Slopes.{Slope, ups_at, downs_at, next_port}
use Rattle.port_graph.specs.Heads.{edges_at, heads, AreDistances}
use Rattle.port_graph.specs.NextPorts.{indexed, AreSlopes, AreNextPorts}
use Rattle.port_graph.proofs.Indexing.{ups_indexed, downs_indexed, all_indexed, ups_lead, downs_lead}
use Rattle.port_graph.proofs.Renaming.{IsRenamed, AreRenamed, rename, shortest_renamed, next_port_renamed}

-- the slopes are those of the vertices with these edges, by other names
pub record AreNamed (name : ℕ → ℕ) (slopes : List Slope) (ups downs : List (List Edge)) : Type 0 where
  pub all : length slopes ≡ length ups
  pub ups_are : (a : ℕ) → a < length ups → ups_at slopes (name a) ≡ map (rename name) (edges_at ups a)
  pub downs_are : (a : ℕ) → a < length ups → downs_at slopes (name a) ≡ map (rename name) (edges_at downs a)
  pub apart : (a b : ℕ) → a < length ups → b < length ups → name a ≡ name b → a ≡ b

module _ (name : ℕ → ℕ) (slopes : List Slope) (ups downs : List (List Edge)) (are : AreSlopes ups downs) (named : AreNamed name slopes ups downs) where
  -- their slopes are renamed ones
  pub renamed : AreRenamed name slopes (indexed ups downs)
  renamed =
      let all = all_indexed ups downs are in
      record {
        all = named.all ∙ sym all;
        ups = λ s h. named.ups_are s (omega (arith, all)) ∙ ap (map (rename name)) (sym (ups_indexed ups downs are s));
        downs = λ s h. named.downs_are s (omega (arith, all)) ∙ ap (map (rename name)) (sym (downs_indexed ups downs are s));
        ups_within = λ s e h. omega (arith, all, ups_lead ups downs are s e (subst (λ (es : List Edge). Contains es e) (ups_indexed ups downs are s) h));
        downs_within = λ s e h.
            omega (arith, all, are.all, downs_lead ups downs are s e (subst (λ (es : List Edge). Contains es e) (downs_indexed ups downs are s) h));
        apart = λ s t h k. named.apart s t (omega (arith, all)) (omega (arith, all));
      }

  -- the next ports that are found are those of the slopes
  pub named_next_port : (t : ℕ) (ports : List (Option ℕ)) → AreNextPorts ups downs t ports → t < length ups
      → (a : ℕ) → a < length ups → slice_index_or ports a None ≡ next_port slopes (name a) (name t)
  named_next_port t ports found target a h =
      let all = all_indexed ups downs are in
      found.next a h ∙ sym (next_port_renamed name slopes (indexed ups downs) renamed a t (omega (arith, all)) (omega (arith, all)))

-- and so are the distances
pub named_distance : (name : ℕ → ℕ) (next : ℕ → List ℕ) (edges : List (List Edge)) → IsRenamed name (length edges) next (heads edges)
    → (from : ℕ) (distances : List (Option ℕ)) → AreDistances edges from distances → from < length edges
    → (a : ℕ) → a < length edges → slice_index_or distances a None ≡ shortest next (length edges) (name from) (name a)
named_distance name next edges is from distances found start a h =
    found.shortest a h ∙ sym (shortest_renamed name (length edges) next (heads edges) is (length edges) from a start h)
