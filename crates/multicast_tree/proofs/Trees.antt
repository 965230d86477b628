-- The tree of an order is a forest.
use Rattle.std.proofs.Common.{◌≡◌, ◌<◌, ℕ, List, [], ◌∷◌, ◌⊎◌, inl, inr, refl, sym, ap, ◌∙◌, subst, arith, Bool, true, false, cond, ◌||◌, not, Option}
use Rattle.std.proofs.lemmas.Option.{same_Some}
use Rattle.std.proofs.lemmas.Bool.{and_parts, eqb-true}
use Rattle.std.proofs.lemmas.Bool.Decides.{nat_tests}
use Rattle.std.specs.Prelude.{Some, None, Contains, nat_lt}
use Rattle.std.specs.Option.{option_or}
use Rattle.std.specs.List.{range_with_len}
use Rattle.fact_store.specs.View.{cells_of}
use Rattle.smp_bytes.proofs.Members.{contains_here, contains_later, contains_cases, contains_none, contains-from_filter}
use Rattle.port_graph.specs.declared.edge.Edge.{Edge}
use Rattle.port_graph.proofs.Lists.{contains_map}
use Rattle.subnet_view.specs.Reading.{Cells, is_switch_node, is_usable, port_count_of, switches}
use Rattle.subnet_view.specs.Wires.{across, attached}
use Rattle.subnet_view.specs.Graph.{edges_at, graph_of}
use Rattle.subnet_view.proofs.Graphs.{edge_is_wire, edge_to_usable}
use Rattle.subnet_view.proofs.Attachments.{attached_law}
use Rattle.subnet_view.proofs.UsableSwitches.{usable_law}
use Rattle.subnet_view.proofs.WireLaws.{wire_law}
use Rattle.subnet_view.proofs.WireEnds.{wires_go_both_ways}
use Rattle.multicast_tree.specs.Copies.{CopyGoes}
use Rattle.multicast_tree.specs.Forest.{IsAttachedAt, IsWithinForest}
use Rattle.multicast_tree.specs.Tree.{first_before, parent_port, is_given, is_below, is_tree_port, tree_at, tree_ports, tree_by, tree_in, position_in, copying_in, InTree, TreePorts}
use Rattle.multicast_tree.specs.TreeLaws.{IsWithin, NoPortTwice, NoLongWay, NoUpAfterDown, NoneToTheSender}
use Rattle.multicast_tree.proofs.Forests.{each_port_once, few_switches_passed, none_back, up_then_down}

module _ (position : ℕ → ℕ) where
  -- an edge to the least position
  pub record IsFirst (bound : ℕ) (edges : List Edge) (port : ℕ) : Type 0 where
    pub edge : Edge
    pub there : Contains edges edge
    pub same : edge.port ≡ port
    pub before : position edge.to < bound

  first_of : (bound : ℕ) (e : Edge) (es : List Edge) (port : ℕ) → position e.to < bound
      → ((p : ℕ) → first_before position (position e.to) es ≡ Some p → IsFirst (position e.to) es p)
      → (o : Option ℕ) → first_before position (position e.to) es ≡ o → option_or o (Some e.port) ≡ Some port → IsFirst bound (e ∷ es) port
  first_of bound e es port l later None is h =
      record { edge = e; there = contains_here e es; same = same_Some e.port port h; before = l }
  first_of bound e es port l later (Some p) is h =
      let i = later p is in
      record { edge = i.edge; there = contains_later e i.edge es i.there; same = i.same ∙ same_Some p port h; before = (let b = i.before in omega arith) }

  pub first_is : (bound : ℕ) (es : List Edge) (port : ℕ) → first_before position bound es ≡ Some port → IsFirst bound es port
  first_is bound [] port h = absurd (cc)
  first_is bound (e ∷ es) port h =
      elim (nat_lt (position e.to) bound) as (λ t. nat_lt (position e.to) bound ≡ t
      → cond t (option_or (first_before position (position e.to) es) (Some e.port)) (first_before position bound es) ≡ Some port → IsFirst bound (e ∷ es) port) [
        | true ↦ λ l k. first_of bound e es port (grind (arith, nat_tests)) (λ p is. first_is (position e.to) es p is) (first_before position (position e.to) es) refl k
        | false ↦ λ l k. let i = first_is bound es port k in
            record { edge = i.edge; there = contains_later e i.edge es i.there; same = i.same; before = i.before }
      ] refl h

  pub has_first : (bound : ℕ) (es : List Edge) (e : Edge) → Contains es e → position e.to < bound → (p : ℕ) × (first_before position bound es ≡ Some p)
  has_first bound [] e h l = absurd (contains_none e h)
  has_first bound (x ∷ es) e h l =
      elim (nat_lt (position x.to) bound) as (λ t. nat_lt (position x.to) bound ≡ t
      → (p : ℕ) × (cond t (option_or (first_before position (position x.to) es) (Some x.port)) (first_before position bound es) ≡ Some p)) [
        | true ↦ λ k. either (first_before position (position x.to) es) x.port
        | false ↦ λ k. (elim (contains_cases x e es h) [
          | inl same ↦ absurd (let z = ap (λ (y : Edge). position y.to) same in grind (arith, nat_tests, k, z, l))
          | inr later ↦ has_first bound es e later l
        ])
      ] refl
    where
      either : (o : Option ℕ) (p : ℕ) → (r : ℕ) × (option_or o (Some p) ≡ Some r)
      either None p = (p, refl)
      either (Some x) p = (x, refl)

pub given_is : (o : Option ℕ) (p : ℕ) → is_given o p ≡ true → o ≡ Some p
given_is None p h = absurd (cc)
given_is (Some q) p h = ap Some (eqb-true q p h)

module _ (cells : Cells) (position : ℕ → ℕ) where
  -- the port to the parent has a wire to an earlier switch
  pub record IsUp (g p : ℕ) : Type 0 where
    pub parent : ℕ
    pub port : ℕ
    pub wire : across cells g p ≡ Some (parent, port)
    pub is_switch : is_usable cells parent ≡ true
    pub before : position parent < position g

  pub parent_up : (g p : ℕ) → parent_port (graph_of cells) position g ≡ Some p → IsUp g p
  parent_up g p h =
      let i = first_is position (position g) (edges_at (graph_of cells) g) p h in
      let e = edge_is_wire cells g i.edge i.there in
      record {
        parent = i.edge.to;
        port = e.end_port;
        wire = subst (λ (x : ℕ). across cells g x ≡ Some (i.edge.to, e.end_port)) i.same e.wire;
        is_switch = edge_to_usable cells g i.edge.port i.edge.to e;
        before = i.before;
      }

  pub rises : (g p h q : ℕ) → parent_port (graph_of cells) position g ≡ Some p → across cells g p ≡ Some (h, q) → position h < position g
  rises g p h q e w =
      let u = parent_up g p e in
      let k : ◌≡◌ {A = ℕ × ℕ} (u.parent, u.port) (h, q) = same_Some (u.parent, u.port) (h, q) (sym u.wire ∙ w) in
      subst (λ (x : ℕ × ℕ). position x.0 < position g) k u.before

  -- a port of the tree leads up or down, where it leads to a switch
  pub up_or_down : (g p h q : ℕ) → is_tree_port cells (parent_port (graph_of cells) position) g p ≡ true → across cells g p ≡ Some (h, q)
      → is_usable cells h ≡ true → (parent_port (graph_of cells) position g ≡ Some p) ⊎ (parent_port (graph_of cells) position h ≡ Some q)
  up_or_down g p h q is w s =
      let parent = parent_port (graph_of cells) position in
      elim (is_given (parent g) p) as (λ t. is_given (parent g) p ≡ t → (t || is_below cells parent (across cells g p)) ≡ true
      → (parent g ≡ Some p) ⊎ (parent h ≡ Some q)) [
        | true ↦ λ e k. inl (given_is (parent g) p e)
        | false ↦ λ e k. inr
            (given_is (parent h) q
            (sym (ap (λ t. not t || is_given (parent h) q) s) ∙ sym (ap (is_below cells parent) w) ∙ k))
      ] refl is

  pub in_tree : (parent : ℕ → Option ℕ) (g p : ℕ) → InTree (tree_by cells parent) g p → is_tree_port cells parent g p ≡ true
  in_tree parent g p (ports, h, there) =
      let x = contains_map (tree_at cells parent) (switches cells) (record { guid = g; ports = ports }) h in
      let same_guid : x.0 ≡ g = ap (λ (t : TreePorts). t.guid) x.2 in
      let same_ports : tree_ports cells parent x.0 ≡ ports = ap (λ (t : TreePorts). t.ports) x.2 in
      let kept = contains-from_filter (is_tree_port cells parent x.0) (range_with_len 1 (port_count_of cells x.0)) p (subst (λ (ps : List ℕ). Contains ps p) (sym same_ports) there) in
      subst (λ (y : ℕ). is_tree_port cells parent y p ≡ true) same_guid kept.1

  pub tree_switch : (parent : ℕ → Option ℕ) (g p : ℕ) → InTree (tree_by cells parent) g p → Contains (switches cells) g
  tree_switch parent g p (ports, h, there) =
      let x = contains_map (tree_at cells parent) (switches cells) (record { guid = g; ports = ports }) h in
      subst (λ (y : ℕ). Contains (switches cells) y) (ap (λ (t : TreePorts). t.guid) x.2) x.1

  pub tree_is_forest : (group : ℕ → ℕ → Bool) → IsWithin (tree_by cells (parent_port (graph_of cells) position)) group
      → IsWithinForest (copying_in cells group) (parent_port (graph_of cells) position) position
  tree_is_forest group within =
      record {
        both_ways = wires_go_both_ways cells;
        rises = rises;
        links = λ g p h q sg sh there w. up_or_down g p h q (in_tree (parent_port (graph_of cells) position) g p (within g p there)) w sh;
      }

pub no_port_twice : NoPortTwice
no_port_twice facts positions group within at end ports others c d =
    let cells = cells_of facts in
    let position = position_in (switches cells) positions in
    each_port_once (copying_in cells group) (parent_port (graph_of cells) position) position (tree_is_forest cells position group within) at end ports others c d

pub no_up_after_down : NoUpAfterDown
no_up_after_down facts positions group within at end ports c =
    let cells = cells_of facts in
    let position = position_in (switches cells) positions in
    up_then_down (copying_in cells group) (parent_port (graph_of cells) position) position (tree_is_forest cells position group within) at end ports c

pub no_long_way : NoLongWay
no_long_way facts positions group within at end ports c =
    let cells = cells_of facts in
    let position = position_in (switches cells) positions in
    let parent = parent_port (graph_of cells) position in
    few_switches_passed (copying_in cells group) parent position (tree_is_forest cells position group within) (switches cells)
    (λ g p s h. tree_switch cells position parent g p (within g p h)) at end ports c

-- an attached port is a node's that is not a usable switch, and has a wire to one
pub attached_is : (cells : Cells) (group : ℕ → ℕ → Bool) (a s : ℕ × ℕ) → attached cells a.0 a.1 ≡ Some s → IsAttachedAt (copying_in cells group) a s
attached_is cells group a s h =
    let i = (attached_law cells a.0 a.1 s.0 s.1).0 h in
    record {
      not_a_switch = not_usable i.not_a_switch;
      at_switch = (usable_law cells s.0).1 i.to_switch;
      wire = wires_go_both_ways cells a.0 a.1 s.0 s.1 ((wire_law cells a.0 a.1 s.0 s.1).1 i.wire);
    }
  where
    not_usable : is_switch_node cells a.0 ≡ false → is_usable cells a.0 ≡ false
    not_usable e =
        elim (is_usable cells a.0) as (λ t. is_usable cells a.0 ≡ t → t ≡ false) [
          | true ↦ λ u. absurd (cc (e, (and_parts (is_switch_node cells a.0) _ u).0))
          | false ↦ λ u. refl
        ] refl

none_to_sender : (cells : Cells) (positions : List ℕ) (group : ℕ → ℕ → Bool) → IsWithin (tree_in cells positions) group → (sender at : ℕ × ℕ) (ports : List ℕ)
    → IsAttachedAt (copying_in cells group) sender at → CopyGoes (copying_in cells group) at ports sender → ⊥
none_to_sender cells positions group within sender at [] i c = absurd (let e = ap (λ (x : ℕ × ℕ). is_usable cells x.0) c in let u : is_usable cells sender.0 ≡ true = sym e ∙ i.at_switch in cc (i.not_a_switch))
none_to_sender cells positions group within sender at (p ∷ ps) i c =
    let position = position_in (switches cells) positions in
    none_back (copying_in cells group) (parent_port (graph_of cells) position) position (tree_is_forest cells position group within) at p ps sender i.wire c

pub none_to_the_sender : NoneToTheSender
none_to_the_sender facts positions group within sender at ports a c =
    none_to_sender (cells_of facts) positions group within sender at ports (attached_is (cells_of facts) group sender at a) c
