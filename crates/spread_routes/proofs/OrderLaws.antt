-- Switches that are named as they stand in an order stand so again, and lead packets alike.
use Rattle.std.proofs.Common.{◌≡◌, ◌<◌, ◌&&◌, ◌||◌, ◌==◌, not, ℕ, suc, List, [], ◌∷◌, inl, inr, refl, sym, ap, ◌∙◌, subst, arith, true, false, Bool, cond, length, map}
use Rattle.std.proofs.lemmas.Bool.{cases_eq, eq-eqb, lt-ltb, le-ltb, ne_eqb}
use Rattle.std.proofs.lemmas.List.{get_or-map}
use Rattle.std.specs.Prelude.{Contains, Option, None, Some, nat_lt, option_map, slice_index}
use Rattle.std.specs.List.{list_any}
use Rattle.smp_bytes.proofs.Members.{contains_here, contains_later}
use Rattle.port_graph.specs.declared.edge.Edge.{Edge}
use Rattle.spread_labels.specs.declared.key_order.VertexKey.{VertexKey}
use Rattle.spread_labels.specs.Labels.{candidates}
use Rattle.spread_labels.specs.Leaves.{leaf_vertices}
use Rattle.spread_labels.specs.Level.{levels_of}
use Rattle.spread_labels.specs.CandidatesByMarks.{chosen}
use Rattle.spread_labels.specs.Ways.{cost, channel_number}
use Rattle.spread_labels.specs.Orders.{at_position, position_of, by_position}
use Rattle.spread_labels.specs.KeyOrder.{before_by, key_at, key_less}
use Rattle.spread_labels.proofs.ByPositions.{position_less}
use Rattle.subnet_view.specs.SwitchEdges.{SwitchEdges}
use Rattle.subnet_view.specs.Graph.{guids_of}
use Rattle.subnet_view.specs.GraphLaws.{IsGraph}
use Rattle.subnet_view.specs.Routing.{Routing}
use Rattle.spread_routes.specs.AdapterChoices.{AdapterChoices, adapter_choices}
use Rattle.spread_routes.specs.LeafNumbers.{leaf_numbers}
use Rattle.spread_routes.specs.Rule.{by_index, order_by_keys}
use Rattle.spread_routes.specs.Spread.{OrdersStand, balanced_by, keys_by, level_digit, lid_digit_at, number_with, spread_at, spread_by, switches_in_order}
use Rattle.spread_routes.specs.SwitchOrder.{as_named, balanced_as, from_roots, key_as_named, keys_as_named, least_loaded, switches_by_keys}
use Rattle.spread_routes.proofs.Indices.{as_many, index_of_switch}
use Rattle.spread_routes.proofs.Names.{grows}
use Rattle.spread_routes.proofs.Standing.{order_again}

-- a test that passes, or does not, by the first part
passes : (a b : Bool) → a ≡ true → (a || b) ≡ true
passes a b is = ap (λ t. t || b) is

fails : (a b c : Bool) → a ≡ false → b ≡ true → (a || (not b && c)) ≡ false
fails a b c failed passed = λ i. failed i || (not (passed i) && c)

module _ (graph : List SwitchEdges) (keys : List VertexKey) (good : IsGraph graph) where
  abbrev guids : List ℕ
  guids = guids_of graph

  abbrev standing : List ℕ
  standing = order_by_keys graph keys

  abbrev again : List VertexKey
  again = keys_as_named graph (switches_by_keys graph keys)

  pub below : (x : ℕ) → Contains standing x → x < length guids
  below x h =
      let p = position_less standing x h in
      subst (λ (y : ℕ). y < length guids) p.1 (omega (arith, (grows graph keys good).vertex (position_of standing x) p.0, as_many graph good))

  -- GUIDs tell switches apart as indices do
  same_test : (x a : ℕ) → x < length guids → a < length guids → (at_position guids x == at_position guids a) ≡ (x == a)
  same_test x a h k =
      elim (cases_eq x a) [
        | inl same ↦ eq-eqb (at_position guids x) (at_position guids a) (ap (at_position guids) same) ∙ sym (eq-eqb x a same)
        | inr apart ↦ ne_eqb (at_position guids x) (at_position guids a)
            (λ e. apart (sym (index_of_switch graph good x h) ∙ ap (position_of guids) e ∙ index_of_switch graph good a k)) ∙ sym (ne_eqb x a apart)
      ]

  pub same_number : (xs : List ℕ) (a : ℕ) → ((x : ℕ) → Contains xs x → x < length guids) → a < length guids
      → position_of (map (at_position guids) xs) (at_position guids a) ≡ position_of xs a
  same_number [] a within h = refl
  same_number (x ∷ xs) a within h =
      let test = same_test x a (within x (contains_here x xs)) h in
      let later = same_number xs a (λ y k. within y (contains_later x y xs k)) h in
      (λ i. cond (test i) 0 (suc (later i)))

  key_there : (a : ℕ) → a < length guids → key_at again a ≡ record { distance_class = 0; distance = position_of standing a }
  key_there a h =
      get_or-map (key_as_named (switches_by_keys graph keys)) guids a 0 (record { distance_class = 0; distance = 0 }) h
      ∙ (λ i. record { distance_class = 0; distance = same_number standing a below h i })

  pub stands_again : order_by_keys graph again ≡ standing
  stands_again =
      order_again (by_index graph) (before_by keys) (before_by again)
      (λ a b h k l. let x = key_there a (omega (arith, h, as_many graph good)) in
      let y = key_there b (omega (arith, k, as_many graph good)) in
      let p = position_of standing a in
      let q = position_of standing b in
      let less : nat_lt p q ≡ true = lt-ltb p q l in
      let more : nat_lt q p ≡ false = le-ltb q p (omega (arith, l)) in (
        (λ i. key_less (x i) (y i) || (not (key_less (y i) (x i)) && nat_lt a b))
            ∙ passes (nat_lt p q) (not (nat_lt q p) && nat_lt a b) less,
        (λ i. key_less (y i) (x i) || (not (key_less (x i) (y i)) && nat_lt b a))
            ∙ fails (nat_lt q p) (nat_lt p q) (nat_lt b a) more less,
      ))

-- the rule by an order of indices alone
module _ (graph : List SwitchEdges) (levels standing : List ℕ) (choices : Option AdapterChoices) where
  abbrev edges : List (List Edge)
  edges = by_position (by_index graph) standing

  abbrev stands_at : ℕ → ℕ
  stands_at g = position_of standing (position_of (guids_of graph) g)

  abbrev level : ℕ → ℕ
  level p = slice_index levels (at_position standing p)

  abbrev number : ℕ → ℕ → ℕ → List Edge → ℕ
  number lid p q es =
      number_with choices (lid_digit_at graph levels (at_position standing p)) (list_any (λ e. nat_lt (level p) (level e.to)) es) lid p q

  abbrev edge_towards : ℕ → ℕ → ℕ → Option Edge
  edge_towards lid p q = chosen (candidates edges q p) (number lid p q (candidates edges q p))

  abbrev by_standing : Routing
  by_standing = record {
    next = λ lid s t. option_map (λ e. e.port) (edge_towards lid (stands_at s) (stands_at t));
    cost = λ s t. cost edges (stands_at t) (stands_at s);
    channel = λ a b. channel_number (length edges) (stands_at a) (stands_at b);
  }

-- it hangs on nothing else of the keys
by_order_alone : (graph : List SwitchEdges) (keys : List VertexKey) (levels : List ℕ) (choices : Option AdapterChoices)
    → spread_at (record { graph = graph; keys = keys; levels = levels; choices = choices }) ≡ by_standing graph levels (order_by_keys graph keys) choices
by_order_alone graph keys levels choices = refl

-- nor do the balanced choices
abbrev choices_in : List SwitchEdges → List ℕ → List ℕ → List ℕ → AdapterChoices
choices_in graph levels adapters standing =
    adapter_choices (by_position (by_index graph) standing) (map (λ i. level_digit (lid_digit_at graph levels i)) standing)
    (map (slice_index (leaf_numbers graph adapters)) standing) (map (slice_index adapters) standing)

choices_alone : (graph : List SwitchEdges) (keys : List VertexKey) (levels adapters : List ℕ)
    → balanced_by graph keys levels adapters ≡ choices_in graph levels adapters (order_by_keys graph keys)
choices_alone graph keys levels adapters = refl

module _ (graph : List SwitchEdges) (adapters : List ℕ) (keys : List VertexKey) (good : IsGraph graph) where
  abbrev levels : List ℕ
  levels = levels_of (by_index graph) (leaf_vertices adapters)

  same_order : switches_by_keys graph (keys_as_named graph (switches_by_keys graph keys)) ≡ switches_by_keys graph keys
  same_order = ap (map (at_position (guids_of graph))) (stands_again graph keys good)

  same_choices : Some (balanced_by graph (keys_as_named graph (switches_by_keys graph keys)) levels adapters)
      ≡ Some (balanced_by graph keys levels adapters)
  same_choices =
      ap Some (choices_alone graph (keys_as_named graph (switches_by_keys graph keys)) levels adapters
      ∙ ap (choices_in graph levels adapters) (stands_again graph keys good) ∙ sym (choices_alone graph keys levels adapters))

  same_routing : (new old : Option AdapterChoices) → new ≡ old
      → spread_at (record { graph = graph; keys = keys_as_named graph (switches_by_keys graph keys); levels = levels; choices = new })
      ≡ spread_at (record { graph = graph; keys = keys; levels = levels; choices = old })
  same_routing new old e =
      by_order_alone graph (keys_as_named graph (switches_by_keys graph keys)) levels new
      ∙ (λ i. by_standing graph levels (stands_again graph keys good i) (e i)) ∙ sym (by_order_alone graph keys levels old)

pub orders_stand : OrdersStand
unfolding spread_by switches_in_order
orders_stand graph adapters (from_roots roots) good =
    let keys = keys_by graph adapters (from_roots roots) in
    record { order = same_order graph adapters keys good; routing = same_routing graph adapters keys good None None refl }
orders_stand graph adapters (as_named switches) good =
    let keys = keys_by graph adapters (as_named switches) in
    record { order = same_order graph adapters keys good; routing = same_routing graph adapters keys good None None refl }
orders_stand graph adapters (balanced_as switches) good =
    let keys = keys_by graph adapters (balanced_as switches) in
    record { order = same_order graph adapters keys good; routing = same_routing graph adapters keys good _ _ (same_choices graph adapters keys good) }
orders_stand graph adapters least_loaded good =
    let keys = keys_by graph adapters least_loaded in
    record { order = same_order graph adapters keys good; routing = same_routing graph adapters keys good _ _ (same_choices graph adapters keys good) }
