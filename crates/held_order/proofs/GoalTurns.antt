-- The goal in between leads packets on by labels, so up and then down by both orders.
use Rattle.std.proofs.Common.{◌≡◌, ◌∙◌, ◌*◌, ◌<◌, ◌⊎◌, ◌&&◌, ℕ, Bool, true, false, cond, List, [], ◌∷◌, length, Option, None, Some}
use Rattle.std.proofs.Common.{refl, sym, ap, subst, arith, inl, inr}
use Rattle.std.specs.Prelude.{Contains, map, not, slice_get, slice_index_or}
use Rattle.std.specs.List.{find, range_with_len}
use Rattle.std.proofs.lemmas.Bool.{and_parts, cases_lt}
use Rattle.std.proofs.lemmas.List.{get_or_past, get_or-replicate}
use Rattle.std.proofs.lemmas.List.FromFn.{get_or-map-range_with_len, length-map-range_with_len}
use Rattle.std.proofs.lemmas.Option.{same_Some}
use Rattle.fact_store.specs.View.{Facts, cells_of}
use Rattle.smp_bytes.proofs.Members.{contains_here, contains_later}
use Rattle.port_graph.specs.declared.edge.Edge.{Edge}
use Rattle.port_graph.specs.Heads.{edges_at}
use Rattle.subnet_view.specs.declared.end_port.EndPort.{EndPort}
use Rattle.subnet_view.specs.Reading.{Cells, switches}
use Rattle.subnet_view.specs.SwitchEdges.{SwitchEdges}
use Rattle.subnet_view.specs.Graph.{graph_of, guids_of}
use Rattle.subnet_view.specs.Wires.{across}
use Rattle.subnet_view.proofs.Graphs.{edge_is_wire, graph_law}
use Rattle.subnet_view.proofs.GraphSwitches.{graph_guids}
use Rattle.spread_labels.specs.Orders.{at_position, position_of}
use Rattle.spread_routes.proofs.Indices.{index_of_switch, wire_at}
use Rattle.held_tables.specs.Held.{HeldPlan}
use Rattle.held_tables.specs.Tables.{entry_for, owners_of}
use Rattle.packet_walks.specs.declared.next_hop.NextHop.{NextHop}
use Rattle.packet_walks.specs.declared.next_hop.NextHop.TheVariants.{To, Ends}
use Rattle.packet_walks.proofs.EntrySteps.{leaves}
use Rattle.packet_walks.specs.HopsByTables.{switch_step}
use Rattle.plan_tables.proofs.HeldTables.{within_length}
use Rattle.next_tables.proofs.Steps.{at_index}
use Rattle.next_tables.specs.Assembly.{most_blocks, tables_with}
use Rattle.next_tables.specs.SwitchPositions.{AreRight, Leads, is_bad, is_down, is_up, position_at, switch_at}
use Rattle.next_tables.specs.SettledRule.{step_at}
use Rattle.next_tables.proofs.Hops.{edge_at, leads_at, leads_within, none_to, placed, to_same}
use Rattle.two_orders.specs.declared.labels.Sides.{Sides}
use Rattle.two_orders.specs.Labels.{goes_on, is_side, label_at, leads, leads_on}
use Rattle.two_orders.specs.LabelLaws.{GoesOn, turns_up}
use Rattle.two_orders.specs.Trees.{is_earlier}
use Rattle.two_orders.specs.TwoOrders.{TwoOrders}
use Rattle.two_orders.proofs.LabelLaws.{labels_turn_well}
use Rattle.held_order.specs.GoalLaws.{GoalTurnsWell}
use Rattle.held_order.specs.TablesBetween.{arrives, column_between, column_for, entry_between, entry_to}
use Rattle.held_order.specs.TablesBetween.{entry_with, fits, labels_towards, port_of, tables_between}
use Rattle.held_order.specs.Orders.{edges_in}
use Rattle.held_order.proofs.GoalEntries.{entry_made, pair, towards_at}

-- what is found is in the list, and passes
pub record Found {X : Type 0} (p : X → Bool) (xs : List X) (x : X) : Type 0 where
  pub there : Contains xs x
  pub passes : p x ≡ true

pub find_found : {X : Type 0} (p : X → Bool) (xs : List X) (x : X) → find p xs ≡ Some x → Found p xs x
find_found p [] x e = absurd (cc)
find_found p (y ∷ xs) x e =
    elim (p y) as (λ b. p y ≡ b → cond b (Some y) (find p xs) ≡ Some x → Found p (y ∷ xs) x) [
      | true ↦ λ h k.
          let same = same_Some y x k in
          record { there = subst (λ z. Contains (y ∷ xs) z) same (contains_here y xs); passes = ap p (sym same) ∙ h }
      | false ↦ λ h k.
          let rest = find_found p xs x k in
          record { there = contains_later y x xs rest.there; passes = rest.passes }
    ] refl e

-- an edge that leads on leads strictly up or down
down_side : (positions : List ℕ) (up : Bool) (i j : ℕ) → is_side positions up i j ≡ true → is_down (position_at positions) i j ≡ true
    → is_earlier positions i j ≡ true
down_side positions true i j h d = let none : is_down (position_at positions) i j ≡ false = ap not h in absurd (cc)
down_side positions false i j h d = h

up_side : (positions : List ℕ) (up : Bool) (i j : ℕ) → is_side positions up i j ≡ true → is_up (position_at positions) i j ≡ true
    → is_earlier positions j i ≡ true
up_side positions true i j h u = h
up_side positions false i j h u = let none : is_up (position_at positions) i j ≡ false = ap not h in absurd (cc)

not_bad : (positions : List ℕ) (one other : Bool) (i j k : ℕ) → is_side positions one i j ≡ true → is_side positions other j k ≡ true
    → turns_up positions i j k ≡ false → is_bad (position_at positions) i j k ≡ false
not_bad positions one other i j k h g well =
    elim (is_bad (position_at positions) i j k) as (λ b. is_bad (position_at positions) i j k ≡ b → b ≡ false) [
      | false ↦ λ e. refl
      | true ↦ λ e.
          let parts = and_parts (is_down (position_at positions) i j) (is_up (position_at positions) j k) e in
          let first = down_side positions one i j h parts.0 in
          let then = up_side positions other j k g parts.1 in
          let up : turns_up positions i j k ≡ true = (λ t. first t && then t) in
          absurd (cc)
    ] refl

-- the same switch is gone to
same_to : (i j : ℕ) → To i ≡ To j → i ≡ j
same_to i j h = cc

not_to : (port : EndPort) (hop : NextHop) (j : ℕ) → arrives port hop ≡ true → hop ≡ To j → ⊥
not_to port (To i) j a h = absurd (cc)
not_to port (Ends e) j a h = absurd (cc)

module _ (facts : Facts) (orders : TwoOrders) (held plan : HeldPlan) (lid : ℕ) where
  abbrev cells : Cells
  cells = cells_of facts

  abbrev graph : List SwitchEdges
  graph = graph_of (cells_of facts)

  abbrev edges : List (List Edge)
  edges = edges_in (cells_of facts)

  abbrev pub columns : List (List ℕ)
  columns = map (column_between (cells_of facts) (edges_in (cells_of facts)) orders held plan) (range_with_len 0 (64 * most_blocks (cells_of facts) held plan))

  abbrev pub goal : HeldPlan
  goal =
      tables_with (cells_of facts) held plan
      (map (column_between (cells_of facts) (edges_in (cells_of facts)) orders held plan) (range_with_len 0 (64 * most_blocks (cells_of facts) held plan)))

  pub goal_is : tables_between (cells_of facts) (edges_in (cells_of facts)) orders held plan ≡ goal
  unfolding tables_between
  goal_is = refl

  column_at : (i : ℕ) → (slice_index_or (slice_index_or columns lid []) i 255 ≡ 255)
      ⊎ (slice_index_or (slice_index_or columns lid []) i 255 ≡ slice_index_or (column_between cells edges orders held plan lid) i 255)
  column_at i =
      let count = 64 * most_blocks cells held plan in
      elim (cases_lt lid count) [
        | inl less ↦ inr (ap (λ c. slice_index_or c i 255)
            (get_or-map-range_with_len (column_between cells edges orders held plan) 0 count lid lid [] less (omega arith)))
        | inr past ↦ inl (ap (λ c. slice_index_or c i 255)
            (get_or_past columns lid [] (omega (arith, past, length-map-range_with_len (column_between cells edges orders held plan) 0 count))))
      ]

  -- an entry is none, or that of its column
  entry_goal : (i g : ℕ) → slice_get (switches cells) i ≡ Some g
      → (entry_for goal lid g ≡ 255) ⊎ (entry_for goal lid g ≡ slice_index_or (column_between cells edges orders held plan lid) i 255)
  entry_goal i g there =
      elim (entry_made facts held plan columns i g lid there) [
        | inl none ↦ inl none
        | inr is ↦ (elim (column_at i) [
          | inl none ↦ inl (is ∙ none)
          | inr its ↦ inr (is ∙ its)
        ])
      ]

  -- the edge of the graph at an entry's port leads to the switch that the entry leads to
  edge_goes : (i j : ℕ) (e : Edge) → Contains (edges_at edges i) e → Leads cells goal lid i j → entry_for goal lid (switch_at cells i) ≡ e.port → e.to ≡ j
  edge_goes i j e h l is =
      let good = graph_law facts in
      let w = wire_at graph good i e h in
      let gs = switches cells in
      let same : guids_of graph ≡ gs = graph_guids cells in
      let g = switch_at cells i in
      let its = edge_is_wire cells (at_position (guids_of graph) i) w.wire w.there in
      let out = leaves cells g (entry_for goal lid g) (record { port = entry_for goal lid g; to = j }) (edge_at cells goal lid i j l) in
      let port : w.wire.port ≡ entry_for goal lid g = ap (λ (x : Edge). x.port) w.same ∙ sym is in
      let from : at_position (guids_of graph) i ≡ g = ap (λ (xs : List ℕ). at_position xs i) same in
      let wire = sym its.wire ∙ (λ k. across cells (from k) (port k)) ∙ out.wire in
      let far : (w.wire.to, its.end_port) ≡ out.end = same_Some (w.wire.to, its.end_port) out.end wire in
      let to : w.wire.to ≡ out.end.0 = ap (λ (x : ℕ × ℕ). x.0) far in
      let within : j < length (guids_of graph) = omega (arith, within_length gs j out.end.0 out.index, ap (λ (xs : List ℕ). length xs) same) in
      let there : at_position (guids_of graph) j ≡ out.end.0 = ap (λ (xs : List ℕ). at_position xs j) same ∙ at_index gs j out.end.0 0 out.index in
      sym (ap (λ (x : Edge). x.to) w.same) ∙ ap (position_of (guids_of graph)) (to ∙ sym there) ∙ index_of_switch graph good j within

  abbrev labels : EndPort → List (Option Sides)
  labels port = labels_towards port (edges_in (cells_of facts)) orders (map (switch_step (cells_of facts) plan lid) (switches (cells_of facts)))

  module _ (port : EndPort) (i j : ℕ) (l : Leads (cells_of facts) goal lid i j) where
    abbrev g : ℕ
    g = switch_at (cells_of facts) i

    goes : step_at cells goal lid g ≡ To j
    goes = leads_at cells goal lid i j l

    -- by an entry of other tables
    by_other : (tables : HeldPlan) → entry_for goal lid g ≡ entry_for tables lid g → step_at cells tables lid g ≡ To j
    by_other tables e = to_same cells goal tables lid g j e goes

    fitting : (tables : HeldPlan) (s : Sides) → label_at (labels port) i ≡ Some s → fits orders (labels port) s i (step_at cells tables lid g) ≡ true
        → entry_for goal lid g ≡ entry_for tables lid g → GoesOn orders (labels port) i j
    fitting tables s has fit e = record {
      label = s;
      has = has;
      leads = ap (fits orders (labels port) s i) (sym (by_other tables e)) ∙ fit;
    }

    by_edge : (s : Sides) → label_at (labels port) i ≡ Some s → (o : Option Edge)
        → find (λ e. leads_on orders (labels port) s i e.to) (edges_at edges i) ≡ o → entry_for goal lid g ≡ port_of o → GoesOn orders (labels port) i j
    by_edge s has None none is = absurd (none_to cells goal lid g j is goes)
    by_edge s has (Some e) found is =
        let x = find_found (λ (e : Edge). leads_on orders (labels port) s i e.to) (edges_at edges i) e found in
        let to = edge_goes i j e x.there l is in
        record { label = s; has = has; leads = ap (leads_on orders (labels port) s i) (sym to) ∙ x.passes }

    by_sides : (s : Sides) → label_at (labels port) i ≡ Some s
        → entry_for goal lid g ≡ entry_to edges orders (labels port) s i (pair cells held plan lid i) → GoesOn orders (labels port) i j
    by_sides s has is =
        elim (fits orders (labels port) s i (step_at cells held lid g)) as (λ t. fits orders (labels port) s i (step_at cells held lid g) ≡ t
        → entry_for goal lid g ≡ cond t (entry_for held lid g) (cond (fits orders (labels port) s i (step_at cells plan lid g)) (entry_for plan lid g)
        (port_of (find (λ e. leads_on orders (labels port) s i e.to) (edges_at edges i)))) → GoesOn orders (labels port) i j) [
          | true ↦ λ fit e. fitting held s has fit e
          | false ↦ λ no e. (elim (fits orders (labels port) s i (step_at cells plan lid g)) as (λ t.
              fits orders (labels port) s i (step_at cells plan lid g) ≡ t
              → entry_for goal lid g ≡ cond t (entry_for plan lid g) (port_of (find (λ e. leads_on orders (labels port) s i e.to) (edges_at edges i)))
              → GoesOn orders (labels port) i j) [
                | true ↦ λ fit k. fitting plan s has fit k
                | false ↦ λ not_it k. by_edge s has (find (λ (e : Edge). leads_on orders (labels port) s i e.to) (edges_at edges i)) refl k
              ] refl e)
        ] refl is

    by_label : (o : Option Sides) → label_at (labels port) i ≡ o → entry_for goal lid g ≡ entry_with edges orders (labels port) o i (pair cells held plan lid i)
        → GoesOn orders (labels port) i j
    by_label None has is = absurd (none_to cells goal lid g j is goes)
    by_label (Some s) has is = by_sides s has is

    between : entry_for goal lid g ≡ entry_between port edges orders (labels port) (i, pair cells held plan lid i) → GoesOn orders (labels port) i j
    between is =
        elim (arrives port (step_at cells plan lid g)) as (λ t. arrives port (step_at cells plan lid g) ≡ t
        → entry_for goal lid g ≡ cond t (entry_for plan lid g) (entry_with edges orders (labels port) (label_at (labels port) i) i (pair cells held plan lid i))
        → GoesOn orders (labels port) i j) [
          | true ↦ λ a e. absurd (not_to port (step_at cells plan lid g) j a (by_other plan e))
          | false ↦ λ a e. by_label (label_at (labels port) i) refl e
        ] refl is

    goes_on_by : entry_for goal lid g ≡ slice_index_or (column_for cells edges orders held plan lid (port ∷ [])) i 255 → GoesOn orders (labels port) i j
    goes_on_by is = between (is ∙ towards_at cells edges orders held plan lid port i (leads_within cells goal lid i j l))

  -- an entry that leads on is that of its column
  its_column : (i j : ℕ) → Leads cells goal lid i j
      → entry_for goal lid (switch_at cells i) ≡ slice_index_or (column_between cells edges orders held plan lid) i 255
  its_column i j l =
      let there = placed (switches cells) i (leads_within cells goal lid i j l) in
      elim (entry_goal i (switch_at cells i) there) [
        | inl none ↦ absurd (none_to cells goal lid (switch_at cells i) j none (leads_at cells goal lid i j l))
        | inr is ↦ is
      ]

  by_owners : (owners : List EndPort) → owners_of plan lid ≡ owners → (i j k : ℕ) → Leads cells goal lid i j → Leads cells goal lid j k
      → (is_bad (position_at orders.first) i j k ≡ false) × (is_bad (position_at orders.second) i j k ≡ false)
  by_owners [] none i j k a b =
      let less = leads_within cells goal lid i j a in
      let empty = its_column i j a ∙ ap (λ (es : List EndPort). slice_index_or (column_for cells edges orders held plan lid es) i 255) none
      ∙ get_or-replicate (length (switches cells)) i 255 255 less in
      absurd (none_to cells goal lid (switch_at cells i) j empty (leads_at cells goal lid i j a))
  by_owners (port ∷ ports) are i j k a b =
      let at : (x : ℕ) → slice_index_or (column_between cells edges orders held plan lid) x 255
      ≡ slice_index_or (column_for cells edges orders held plan lid (port ∷ [])) x 255 =
      λ x. ap (λ (es : List EndPort). slice_index_or (column_for cells edges orders held plan lid es) x 255) are in
      let one = goes_on_by port i j a (its_column i j a ∙ at i) in
      let other = goes_on_by port j k b (its_column j k b ∙ at j) in
      let turn = labels_turn_well orders (labels port) i j k one other in
      let s = one.label in
      let t = other.label in
      let here = and_parts (is_side orders.first s.first_up i j) (is_side orders.second s.second_up i j)
      (and_parts (leads orders s i j) (goes_on s (label_at (labels port) j)) one.leads).0 in
      let there = and_parts (is_side orders.first t.first_up j k) (is_side orders.second t.second_up j k)
      (and_parts (leads orders t j k) (goes_on t (label_at (labels port) k)) other.leads).0 in (
        not_bad orders.first s.first_up t.first_up i j k here.0 there.0 turn.0,
        not_bad orders.second s.second_up t.second_up i j k here.1 there.1 turn.1,
      )

  right_by_both : AreRight cells (position_at orders.first) goal lid × AreRight cells (position_at orders.second) goal lid
  right_by_both =
      (λ i j k a b. (by_owners (owners_of plan lid) refl i j k a b).0, λ i j k a b. (by_owners (owners_of plan lid) refl i j k a b).1)

pub goal_turns_well : GoalTurnsWell
goal_turns_well facts orders held plan lid =
    let is = goal_is facts orders held plan lid in
    subst (λ (t : HeldPlan). AreRight (cells_of facts) (position_at orders.first) t lid × AreRight (cells_of facts) (position_at orders.second) t lid)
    (sym is) (right_by_both facts orders held plan lid)
