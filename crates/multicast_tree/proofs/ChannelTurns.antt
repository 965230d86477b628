-- Along copies within the tree of a rule, the rule's numbers of channels rise.
use Rattle.std.proofs.Common.{◌≡◌, ◌<◌, ℕ, List, length, [], ◌∷◌, ◌⊎◌, inl, inr, refl, sym, ◌∙◌, subst, arith, Bool, true, Option}
use Rattle.std.proofs.lemmas.Bool.{and_parts}
use Rattle.std.proofs.lemmas.Option.{same_Some}
use Rattle.std.specs.Prelude.{Some, None, Contains}
use Rattle.fact_store.specs.View.{Facts, cells_of}
use Rattle.port_graph.specs.declared.edge.Edge.{Edge}
use Rattle.port_graph.specs.Walks.{Walk}
use Rattle.port_graph.proofs.Paths.{walk_reverse}
use Rattle.subnet_view.specs.Reading.{Cells, is_switch_node, is_usable, switches}
use Rattle.subnet_view.specs.SwitchEdges.{SwitchEdges}
use Rattle.subnet_view.specs.Graph.{edges_at, graph_of, neighbors}
use Rattle.subnet_view.specs.GraphLaws.{IsGraph, IsSwitch}
use Rattle.subnet_view.proofs.Graphs.{graph_law, wire_is_edge}
use Rattle.subnet_view.proofs.GraphSwitches.{graph_guids, usable_switch}
use Rattle.updown_routes.specs.Channels.{channel_number}
use Rattle.updown_routes.proofs.Before.{downs_have, ups_have}
use Rattle.updown_routes.proofs.RisingChannels.{channels_rise}
use Rattle.spread_labels.specs.Ways.{channel_number as number_by_positions}
use Rattle.spread_routes.specs.Adapters.{adapters_of}
use Rattle.spread_routes.specs.Rule.{by_positions, position}
use Rattle.spread_routes.specs.Spread.{keys_by, spread_by}
use Rattle.spread_routes.specs.SwitchOrder.{OrderValue}
use Rattle.spread_routes.proofs.Names.{position_within}
use Rattle.lft_blocks.specs.Rule.{RuleValue, routing_by, spread_in, up_and_down}
use Rattle.plan_order.specs.PlanOrder.{positions_by, rank_position}
use Rattle.multicast_tree.specs.Copies.{IsCopied}
use Rattle.multicast_tree.specs.Forest.{IsWithinForest}
use Rattle.multicast_tree.specs.Tree.{copying_in, parent_port, position_in, tree_of}
use Rattle.multicast_tree.specs.TreeLaws.{CopyTurnsRise, IsWithin, OneWithoutParent, parent_by}
use Rattle.multicast_tree.proofs.Ordered.{is_less, ranked_position, rules_order, spread_position}
use Rattle.multicast_tree.proofs.Sides.{Link, link_of}
use Rattle.multicast_tree.proofs.Trees.{has_first, tree_is_forest}

-- the positions of three switches one after the other: up, up and then down, or down
abbrev pub Turns : (ℕ → ℕ) → ℕ → ℕ → ℕ → Type 0
Turns position a b c =
    ((position b < position a) × (position c < position b)) ⊎ (((position b < position a) × (position b < position c))
    ⊎ ((position a < position b) × (position b < position c)))

turns_alike : (one other : ℕ → ℕ) (a b c : ℕ) → one a ≡ other a → one b ≡ other b → one c ≡ other c → Turns one a b c → Turns other a b c
turns_alike one other a b c ea eb ec (inl (l, m)) = inl (omega arith, omega arith)
turns_alike one other a b c ea eb ec (inr (inl (l, m))) = inr (inl (omega arith, omega arith))
turns_alike one other a b c ea eb ec (inr (inr (l, m))) = inr (inr (omega arith, omega arith))

module _ (graph : List SwitchEdges) (good : IsGraph graph) (a b c p q : ℕ) (ha : IsSwitch graph a) (hb : IsSwitch graph b) (hc : IsSwitch graph c)
    (first : Contains (edges_at graph a) (record { port = p; to = b })) (second : Contains (edges_at graph b) (record { port = q; to = c })) where
  abbrev e1 : Edge
  e1 = record { port = p; to = b }

  abbrev e2 : Edge
  e2 = record { port = q; to = c }

  ranked_turn : Turns (rank_position graph) a b c → channel_number graph a b < channel_number graph b c
  ranked_turn (inl (l, m)) =
      channels_rise graph good (e1 ∷ e2 ∷ []) [] a c c ha
      (ups_have graph graph a e1 first (is_less graph good a b ha l), (ups_have graph graph b e2 second (is_less graph good b c hb m), refl)) refl 0 (omega arith)
  ranked_turn (inr (inl (l, m))) =
      channels_rise graph good (e1 ∷ []) (e2 ∷ []) a b c ha (ups_have graph graph a e1 first (is_less graph good a b ha l), refl)
      (downs_have graph graph b e2 second (is_less graph good c b hc m), refl) 0 (omega arith)
  ranked_turn (inr (inr (l, m))) =
      channels_rise graph good [] (e1 ∷ e2 ∷ []) a a c ha refl
      (downs_have graph graph a e1 first (is_less graph good b a hb l), (downs_have graph graph b e2 second (is_less graph good c b hc m), refl)) 0 (omega arith)

positions_turn : (n a b c : ℕ) → a < n → b < n → ((b < a) × (c < b)) ⊎ (((b < a) × (b < c)) ⊎ ((a < b) × (b < c)))
    → number_by_positions n a b < number_by_positions n b c
positions_turn n a b c la lb (inl (l, m)) = grind arith
positions_turn n a b c la lb (inr (inl (l, m))) = grind arith
positions_turn n a b c la lb (inr (inr (l, m))) = grind arith

spread_channel : (cells : Cells) (order : OrderValue) (x y : ℕ) → (routing_by (spread_in order) cells).channel x y
    ≡ number_by_positions (length (by_positions (graph_of cells) (keys_by (graph_of cells) (adapters_of cells) order)))
    (position (graph_of cells) (keys_by (graph_of cells) (adapters_of cells) order) x)
    (position (graph_of cells) (keys_by (graph_of cells) (adapters_of cells) order) y)
unfolding spread_by
spread_channel cells order x y = refl

turn_rises : (rule : RuleValue) (facts : Facts) (a b c p q : ℕ) → IsSwitch (graph_of (cells_of facts)) a → IsSwitch (graph_of (cells_of facts)) b
    → IsSwitch (graph_of (cells_of facts)) c → Contains (edges_at (graph_of (cells_of facts)) a) (record { port = p; to = b })
    → Contains (edges_at (graph_of (cells_of facts)) b) (record { port = q; to = c })
    → Turns (position_in (switches (cells_of facts)) (positions_by rule (cells_of facts))) a b c
    → (routing_by rule (cells_of facts)).channel a b < (routing_by rule (cells_of facts)).channel b c
turn_rises up_and_down facts a b c p q ha hb hc first second t =
    ranked_turn (graph_of (cells_of facts)) (graph_law facts) a b c p q ha hb hc first second
    (turns_alike (position_in (switches (cells_of facts)) (positions_by up_and_down (cells_of facts))) (rank_position (graph_of (cells_of facts))) a b c
    (ranked_position facts a ha) (ranked_position facts b hb) (ranked_position facts c hc) t)
turn_rises (spread_in order) facts a b c p q ha hb hc first second t =
    let cells = cells_of facts in
    let graph = graph_of cells in
    let keys = keys_by graph (adapters_of cells) order in
    let n = length (by_positions graph keys) in
    let by = turns_alike (position_in (switches cells) (positions_by (spread_in order) cells)) (position graph keys) a b c
    (spread_position order facts a ha) (spread_position order facts b hb) (spread_position order facts c hc) t in
    let less = positions_turn n (position graph keys a) (position graph keys b) (position graph keys c)
    (position_within graph keys (graph_law facts) a ha) (position_within graph keys (graph_law facts) b hb) by in
    omega (arith, less, spread_channel cells order a b, spread_channel cells order b c)

module _ (rule : RuleValue) (facts : Facts) (group : ℕ → ℕ → Bool) (within : IsWithin (tree_of rule (cells_of facts)) group) where
  abbrev cells : Cells
  cells = cells_of facts

  abbrev at_position : ℕ → ℕ
  at_position = position_in (switches (cells_of facts)) (positions_by rule (cells_of facts))

  abbrev parent : ℕ → Option ℕ
  parent = parent_port (graph_of (cells_of facts)) (position_in (switches (cells_of facts)) (positions_by rule (cells_of facts)))

  forest : IsWithinForest (copying_in cells group) parent at_position
  forest = tree_is_forest cells at_position group within

  in_graph : (g : ℕ) → is_usable cells g ≡ true → IsSwitch (graph_of cells) g
  in_graph g u = subst (λ (xs : List ℕ). Contains xs g) (sym (graph_guids cells)) (usable_switch facts g u)

  edge_there : (at : ℕ × ℕ) (p : ℕ) (far : ℕ × ℕ) → IsCopied (copying_in cells group) at p far → is_usable cells far.0 ≡ true
      → Contains (edges_at (graph_of cells) at.0) (record { port = p; to = far.0 })
  edge_there at p far i u =
      wire_is_edge cells at.0 p far.0 (usable_switch facts at.0 i.at_switch)
      (record { end_port = far.1; wire = i.wire; is_switch = (and_parts (is_switch_node cells far.0) _ u).0 })

  down : (at : ℕ × ℕ) (p : ℕ) (far : ℕ × ℕ) → IsCopied (copying_in cells group) at p far → parent far.0 ≡ Some far.1 → at_position at.0 < at_position far.0
  down at p far i d = forest.rises far.0 far.1 at.0 p d (forest.both_ways at.0 p far.0 far.1 i.wire)

  turns : (first second third : ℕ × ℕ) (p q : ℕ) → IsCopied (copying_in cells group) first p second → IsCopied (copying_in cells group) second q third
      → is_usable cells third.0 ≡ true → Link (copying_in cells group) parent at_position first.0 p second
      → Link (copying_in cells group) parent at_position second.0 q third → Turns at_position first.0 second.0 third.0
  turns first second third p q i j u (inl up) (inl up') =
      inl (forest.rises first.0 p second.0 second.1 up i.wire, forest.rises second.0 q third.0 third.1 up' j.wire)
  turns first second third p q i j u (inl up) (inr (inl d)) =
      inr (inl (forest.rises first.0 p second.0 second.1 up i.wire, down second q third j d))
  turns first second third p q i j u (inr (inl d)) (inl up) = absurd (j.not_back (same_Some q second.1 (sym up ∙ d)))
  turns first second third p q i j u (inr (inl d)) (inr (inl d')) = inr (inr (down first p second i d, down second q third j d'))
  turns first second third p q i j u (inr (inr leaf)) link = absurd (cc (j.at_switch))
  turns first second third p q i j u link (inr (inr leaf)) = absurd (cc)

pub copy_turns_rise : CopyTurnsRise
copy_turns_rise rule facts group within first second third p q i j u =
    let by = copying_in (cells_of facts) group in
    let position = position_in (switches (cells_of facts)) (positions_by rule (cells_of facts)) in
    let parent = parent_port (graph_of (cells_of facts)) position in
    let t = forest rule facts group within in
    turn_rises rule facts first.0 second.0 third.0 p q (in_graph rule facts group within first.0 i.at_switch) (in_graph rule facts group within second.0 j.at_switch)
    (in_graph rule facts group within third.0 u) (edge_there rule facts group within first p second i j.at_switch)
    (edge_there rule facts group within second q third j u)
    (turns rule facts group within first second third p q i j u (link_of by parent position t first p second i) (link_of by parent position t second q third j))

-- the later of two joined switches has a parent
has_parent : (rule : RuleValue) (facts : Facts) (g h n : ℕ) → IsSwitch (graph_of (cells_of facts)) g → IsSwitch (graph_of (cells_of facts)) h
    → Walk (neighbors (graph_of (cells_of facts))) g h n → parent_by rule facts g ≡ None
    → position_in (switches (cells_of facts)) (positions_by rule (cells_of facts)) h
    < position_in (switches (cells_of facts)) (positions_by rule (cells_of facts)) g → ⊥
has_parent rule facts g h n hg hh w none l =
    let position = position_in (switches (cells_of facts)) (positions_by rule (cells_of facts)) in
    let e = (rules_order rule facts).earlier g h n hg hh w l in
    let f = has_first position (position g) (edges_at (graph_of (cells_of facts)) g) e.0 e.1 e.2 in
    cc (none, f.1)

pub one_without_parent : OneWithoutParent
one_without_parent rule facts g h n ug uh w pg ph =
    let graph = graph_of (cells_of facts) in
    let position = position_in (switches (cells_of facts)) (positions_by rule (cells_of facts)) in
    let listed : (x : ℕ) → is_usable (cells_of facts) x ≡ true → IsSwitch graph x =
    λ x u. subst (λ (xs : List ℕ). Contains xs x) (sym (graph_guids (cells_of facts))) (usable_switch facts x u) in
    let back = walk_reverse (neighbors graph) (graph_law facts).both_ways n g h w in
    (rules_order rule facts).apart g h (listed g ug) (listed h uh)
    (neither (position g) (position h) (has_parent rule facts h g n (listed h uh) (listed g ug) back ph)
    (has_parent rule facts g h n (listed g ug) (listed h uh) w pg))
  where
    neither : (a b : ℕ) → (a < b → ⊥) → (b < a → ⊥) → a ≡ b
    neither a b no_less no_more = grind arith
