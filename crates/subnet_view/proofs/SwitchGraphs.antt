-- The graph of switches by index, and its distances.
use Rattle.std.proofs.Common.{◌≡◌, ◌<◌, ℕ, zero, suc, List, [], ◌∷◌, inl, inr, refl, sym, ap, ◌∙◌, subst, arith, false, cond, ◌==◌, map, length, get_or}
use Rattle.std.proofs.lemmas.Bool.{eq-eqb, false_from_ne_true, eqb-true, cases_order}
use Rattle.std.proofs.lemmas.List.{get_or-map, ext_get_or}
use Rattle.std.proofs.lemmas.List.Elements.{Contains-get_or}
use Rattle.std.proofs.lemmas.List.Kept.{AllPairs-from_increasing}
use Rattle.std.specs.Prelude.{Option, None, slice_index}
use Rattle.std.specs.List.Sorted.{IsStrictlyIncreasing}
use Rattle.port_graph.specs.declared.edge.Edge.{Edge}
use Rattle.port_graph.specs.Walks.{shortest}
use Rattle.port_graph.specs.Heads.{heads, AreDistances}
use Rattle.port_graph.proofs.Counts.{length_map}
use Rattle.port_graph.proofs.Lists.{contains_map}
use Rattle.port_graph.proofs.Renaming.{IsRenamed, shortest_renamed}
use Rattle.subnet_view.specs.Reading.{Cells, switches}
use Rattle.subnet_view.specs.SwitchEdges.{SwitchEdges}
use Rattle.subnet_view.specs.Graph.{guids_of, edges_at, neighbors, edges_of, graph_of}
use Rattle.subnet_view.specs.Components.{distance}
use Rattle.subnet_view.specs.SwitchGraph.{by_guid, switch_edges, named, switch_at, LeadBelow, IsSwitchGraph}
use Rattle.subnet_view.specs.GraphLaws.{IsGraph}
use Rattle.subnet_view.proofs.Rising.{Rises, numbers_rise}

-- lists of one length ---------------------------------------------------------------------

-- the switches of a graph that is put together
pub guids_of_switch_edges : (gs : List ℕ) (rows : List (List Edge)) → length rows ≡ length gs → guids_of (switch_edges gs rows) ≡ gs
guids_of_switch_edges [] rows e = refl
guids_of_switch_edges (g ∷ gs) [] e = absurd (omega arith)
guids_of_switch_edges (g ∷ gs) (es ∷ rows) e = ap (λ xs. g ∷ xs) (guids_of_switch_edges gs rows (omega arith))

edges_of_switch_edges : (gs : List ℕ) (rows : List (List Edge)) (i : ℕ) → Rises (λ n. n) gs → length rows ≡ length gs → i < length gs
    → edges_at (switch_edges gs rows) (slice_index gs i) ≡ get_or rows i []
edges_of_switch_edges [] rows i r e h = absurd (omega arith)
edges_of_switch_edges (g ∷ gs) [] i r e h = absurd (omega arith)
edges_of_switch_edges (g ∷ gs) (es ∷ rows) zero r e h = ap (λ t. cond t es (edges_at (switch_edges gs rows) g)) (eq-eqb g g refl)
edges_of_switch_edges (g ∷ gs) (es ∷ rows) (suc i) r e h =
    let l : i < length gs = omega arith in
    let above = r.0 (slice_index gs i) (Contains-get_or gs i 0 l) in
    let apart : (g == slice_index gs i) ≡ false = false_from_ne_true (g == slice_index gs i) (λ t. omega (arith, eqb-true g (slice_index gs i) t)) in
    ap (λ t. cond t es (edges_at (switch_edges gs rows) (slice_index gs i))) apart ∙ edges_of_switch_edges gs rows i r.1 (omega arith) l

-- rows that a function gives
switch_edges_by : (f : ℕ → List Edge) (gs : List ℕ) → switch_edges gs (map f gs) ≡ map (λ g. record { guid = g; edges = f g }) gs
switch_edges_by f [] = refl
switch_edges_by f (g ∷ gs) = ap (λ (xs : List SwitchEdges). record { guid = g; edges = f g } ∷ xs) (switch_edges_by f gs)

-- the switches and their edges are the graph of the facts
pub named_is_graph : (cells : Cells) (guids : List ℕ) (edges : List (List Edge)) → guids ≡ switches cells
    → map (map (by_guid guids)) edges ≡ map (edges_of cells) guids → named guids edges ≡ graph_of cells
named_is_graph cells guids edges same rows =
    ap (switch_edges guids) rows ∙ switch_edges_by (edges_of cells) guids ∙ ap (map (λ g. record { guid = g; edges = edges_of cells g })) same

-- numbers that rise differ
pub apart_by_index : (xs : List ℕ) → IsStrictlyIncreasing xs → (i j : ℕ) → i < length xs → j < length xs → slice_index xs i ≡ slice_index xs j → i ≡ j
apart_by_index xs rise i j h k e =
    elim (cases_order i j) [
      | inl s ↦ s
      | inr (inl l) ↦ absurd (omega (arith, e, AllPairs-from_increasing xs rise i j 0 l k))
      | inr (inr l) ↦ absurd (omega (arith, e, AllPairs-from_increasing xs rise j i 0 l h))
    ]

-- by index --------------------------------------------------------------------------------

module _ (guids : List ℕ) (edges : List (List Edge)) (is : IsSwitchGraph guids edges) (graph : List SwitchEdges) (by_name : named guids edges ≡ graph) where
  abbrev rows : List (List Edge)
  rows = map (map (by_guid guids)) edges

  as_many_rows : length rows ≡ length guids
  as_many_rows = length_map (map (by_guid guids)) edges ∙ is.as_many

  -- the GUIDs of the graph
  pub guids_are : guids_of graph ≡ guids
  guids_are = sym (ap guids_of by_name) ∙ guids_of_switch_edges guids rows as_many_rows

  -- there are as many switches as GUIDs
  pub length_is : length graph ≡ length guids
  length_is = sym (length_map (λ (c : SwitchEdges). c.guid) graph) ∙ ap length guids_are

  -- it is a graph
  pub good : IsGraph graph
  good = subst IsGraph by_name is.is_graph

  -- the GUIDs rise
  pub rise : IsStrictlyIncreasing guids
  rise = subst IsStrictlyIncreasing guids_are good.rising

  -- the edges of the switch at an index
  edges_by_index : (i : ℕ) → i < length guids → edges_at graph (slice_index guids i) ≡ map (by_guid guids) (get_or edges i [])
  edges_by_index i h =
      sym (ap (λ (g : List SwitchEdges). edges_at g (slice_index guids i)) by_name)
      ∙ edges_of_switch_edges guids rows i (numbers_rise guids rise) as_many_rows h
      ∙ get_or-map (map (by_guid guids)) edges i [] [] (omega (arith, is.as_many))

  -- the edges by index are those by GUID
  pub edges_of_switch : (i : ℕ) → i < length graph → map (by_guid (guids_of graph)) (get_or edges i []) ≡ edges_at graph (switch_at graph i)
  edges_of_switch i h =
      ap (λ gs. map (by_guid gs) (get_or edges i [])) guids_are ∙ sym (edges_by_index i (omega (arith, length_is)))
      ∙ sym (ap (λ gs. edges_at graph (slice_index gs i)) guids_are)

  -- they lead to switches
  pub edges_to_switches : (i : ℕ) → LeadBelow (length graph) (get_or edges i [])
  edges_to_switches i e h = omega (arith, is.to_switches i e h, is.as_many, length_is)

  ends_by_guid : (es : List Edge) → map (λ e. e.to) (map (by_guid guids) es) ≡ map (slice_index guids) (map (λ e. e.to) es)
  ends_by_guid [] = refl
  ends_by_guid (e ∷ es) = ap (λ ns. slice_index guids e.to ∷ ns) (ends_by_guid es)

  -- the graph is that of the indices, by the GUIDs
  renamed : IsRenamed (slice_index guids) (length guids) (neighbors graph) (heads edges)
  renamed =
      record {
        named = λ i h. ap (map (λ (e : Edge). e.to)) (edges_by_index i h) ∙ ends_by_guid (get_or edges i []);
        within = λ i b h k. let x = contains_map (λ (e : Edge). e.to) (get_or edges i []) b k in omega (arith, x.2, is.to_switches i x.0 x.1, is.as_many);
        apart = λ i j h k e. apart_by_index guids rise i j h k e;
      }

  distance_by_index : (i j : ℕ) → i < length guids → j < length guids
      → shortest (heads edges) (length edges) i j ≡ distance graph (slice_index guids i) (slice_index guids j)
  distance_by_index i j h k =
      sym (shortest_renamed (slice_index guids) (length guids) (neighbors graph) (heads edges) renamed (length edges) i j h k)
      ∙ ap (λ n. shortest (neighbors graph) n (slice_index guids i) (slice_index guids j)) (is.as_many ∙ sym length_is)

  -- the distances that a search among the indices finds are those of the graph
  pub distances_are : (i : ℕ) (found : List (Option ℕ)) → i < length graph → AreDistances edges i found
      → found ≡ map (distance graph (switch_at graph i)) (guids_of graph)
  distances_are i found h all =
      ext_get_or None found (map (distance graph (switch_at graph i)) (guids_of graph))
      (all.all ∙ is.as_many ∙ sym (ap length guids_are) ∙ sym (length_map (distance graph (switch_at graph i)) (guids_of graph)))
      (λ j k. let l : j < length guids = omega (arith, all.all, is.as_many) in
      all.shortest j (omega (arith, all.all)) ∙ distance_by_index i j (omega (arith, length_is)) l
      ∙ ap (λ gs. distance graph (slice_index gs i) (slice_index gs j)) (sym guids_are)
      ∙ sym (get_or-map (distance graph (switch_at graph i)) (guids_of graph) j 0 None (omega (arith, ap length guids_are))))
