-- The ports to parents by the indices of switches are those by GUID.
use Rattle.std.proofs.Common.{◌≡◌, ◌<◌, ◌+◌, ℕ, suc, zero, List, [], ◌∷◌, ◌++◌, length, refl, sym, ap, ◌∙◌, subst, arith, Bool, true, false, cond, Option}
use Rattle.std.proofs.lemmas.List.{get_or-map, get_or_past}
use Rattle.std.specs.Prelude.{None, Some, Contains, filter, map, nat_lt, slice_index}
use Rattle.std.specs.Option.{option_or}
use Rattle.std.specs.List.{range_with_len}
use Rattle.std.proofs.lemmas.List.Elements.{Contains-get_or}
use Rattle.smp_bytes.proofs.Members.{contains_here, contains_later}
use Rattle.port_graph.specs.declared.edge.Edge.{Edge}
use Rattle.port_graph.proofs.Counts.{length_map}
use Rattle.spread_labels.specs.Orders.{position_of}
use Rattle.spread_labels.proofs.ByPositions.{position_less}
use Rattle.spread_labels.proofs.Found.{not_found}
use Rattle.subnet_view.specs.SwitchEdges.{SwitchEdges}
use Rattle.subnet_view.specs.Graph.{edges_at, graph_of, guids_of}
use Rattle.subnet_view.specs.GraphLaws.{IsGraph}
use Rattle.subnet_view.specs.Reading.{Cells, switches}
use Rattle.subnet_view.specs.SwitchGraph.{AreEdgesAt, LeadBelow, by_guid}
use Rattle.subnet_view.proofs.Graphs.{edges_listed, at_switch, elsewhere}
use Rattle.lft_blocks.proofs.LidNumbers.{position_is}
use Rattle.multicast_tree.specs.Tree.{first_before, parent_in, parent_port, position_in, tree_by, tree_in}

module _ (guids positions : List ℕ) (at_index : (i : ℕ) → i < length guids → position_in guids positions (slice_index guids i) ≡ slice_index positions i) where
  named_first : (es : List Edge) (b : ℕ) → LeadBelow (length guids) es
      → first_before (position_in guids positions) b (map (by_guid guids) es) ≡ first_before (slice_index positions) b es
  named_first [] b below = refl
  named_first (e ∷ es) b below =
      let here = at_index e.to (below e (contains_here e es)) in
      let rest : (x : ℕ) → first_before (position_in guids positions) x (map (by_guid guids) es) ≡ first_before (slice_index positions) x es =
      λ x. named_first es x (λ y h. below y (contains_later e y es h)) in
      ap (λ x. cond (nat_lt x b) (option_or (first_before (position_in guids positions) x (map (by_guid guids) es)) (Some e.port))
      (first_before (position_in guids positions) b (map (by_guid guids) es))) here
      ∙ (λ i. cond (nat_lt (slice_index positions e.to) b) (option_or (rest (slice_index positions e.to) i) (Some e.port)) (rest b i))

pub parent_by_index : (graph : List SwitchEdges) (positions : List ℕ) (i : ℕ) (edges : List Edge) → IsGraph graph → i < length graph
    → LeadBelow (length graph) edges → AreEdgesAt graph i edges
    → first_before (slice_index positions) (slice_index positions i) edges
    ≡ parent_port graph (position_in (guids_of graph) positions) (slice_index (guids_of graph) i)
parent_by_index graph positions i edges good less below are =
    let guids = guids_of graph in
    let long : length guids ≡ length graph = length_map (λ (c : SwitchEdges). c.guid) graph in
    let at_index : (k : ℕ) → k < length guids → position_in guids positions (slice_index guids k) ≡ slice_index positions k =
    λ k h. ap (slice_index positions) (position_is guids good.rising k h) in
    sym (named_first guids positions at_index edges (slice_index positions i) (λ e h. let l = below e h in omega (arith, l, long)))
    ∙ ap (first_before (position_in guids positions) (slice_index positions i)) are
    ∙ ap (λ b. first_before (position_in guids positions) b (edges_at graph (slice_index guids i))) (sym (at_index i (omega (arith, less, long))))

-- the ports of a list of switches to their parents, each by its switch
pub parents_are : (cells : Cells) (positions : List ℕ) (parents : List (Option ℕ))
    → parents ≡ map (parent_port (graph_of cells) (position_in (switches cells) positions)) (switches cells) → (g : ℕ)
    → parent_in (switches cells) parents g ≡ parent_port (graph_of cells) (position_in (switches cells) positions) g
parents_are cells positions parents are g =
    let guids = switches cells in
    let f : ℕ → Option ℕ = parent_port (graph_of cells) (position_in guids positions) in
    ap (λ ps. parent_in guids ps g) are
    ∙ (elim (edges_listed cells guids g) [
      | at_switch h e ↦
          let p = position_less guids g h in
          get_or-map f guids (position_of guids g) 0 None p.0 ∙ ap f p.1
      | elsewhere h e ↦
          get_or_past (map f guids) (position_of guids g) None (omega (arith, not_found guids g (λ i l e. h (subst (λ (x : ℕ). Contains guids x) e (Contains-get_or guids i 0 l))), length_map f guids))
          ∙ sym (ap (first_before (position_in guids positions) (position_in guids positions g)) e)
    ])

pub tree_is : (cells : Cells) (positions : List ℕ) (parents : List (Option ℕ))
    → parents ≡ map (parent_port (graph_of cells) (position_in (switches cells) positions)) (switches cells)
    → tree_by cells (parent_in (switches cells) parents) ≡ tree_in cells positions
tree_is cells positions parents are = λ i. tree_by cells (λ g. parents_are cells positions parents are g i)

-- in a range with one number more one more passes, or none
pub filter_more : (f : ℕ → Bool) (b k : ℕ) (t : Bool) → f (b + k) ≡ t
    → filter f (range_with_len b (suc k)) ≡ filter f (range_with_len b k) ++ cond t ((b + k) ∷ []) []
filter_more f b zero t is =
    let same : b ≡ b + 0 = omega arith in
    ap (λ c. cond c (b ∷ []) []) (ap f same ∙ is) ∙ ap (λ n. cond t (n ∷ []) []) same
filter_more f b (suc k) t is =
    let same : b + 1 + k ≡ b + suc k = omega arith in
    let later = filter_more f (b + 1) k t (ap f same ∙ is) ∙ ap (λ n. filter f (range_with_len (b + 1) k) ++ cond t (n ∷ []) []) same in
    elim (f b) as (λ c. cond c (b ∷ filter f (range_with_len (b + 1) (suc k))) (filter f (range_with_len (b + 1) (suc k)))
    ≡ cond c (b ∷ filter f (range_with_len (b + 1) k)) (filter f (range_with_len (b + 1) k)) ++ cond t ((b + suc k) ∷ []) []) [
      | true ↦ ap (λ xs. b ∷ xs) later
      | false ↦ later
    ]
