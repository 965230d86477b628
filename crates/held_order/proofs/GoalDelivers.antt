-- The goal in between delivers from each switch with a label.
use Rattle.std.proofs.Common.{◌≡◌, ◌∙◌, ◌-◌, ◌*◌, ◌<◌, ◌≤◌, ◌||◌, ◌==◌, ℕ, zero, suc, Bool, true, false, cond, List, [], ◌∷◌, length, Option, None, Some}
use Rattle.std.proofs.Common.{refl, sym, ap, subst, arith, inl, inr, not}
use Rattle.std.specs.Prelude.{Contains, drop, map, slice_get, slice_index_or}
use Rattle.std.specs.List.{find}
use Rattle.std.proofs.lemmas.Bool.{and_parts, cases_lt, ltb-true, ne_eqb}
use Rattle.std.proofs.lemmas.List.{get_or-map, get_or_past, length-map}
use Rattle.std.proofs.lemmas.List.FromFn.{get_or-map-range_with_len}
use Rattle.std.proofs.lemmas.Option.{same_Some, slice_get-get_or}
use Rattle.fact_store.specs.View.{AreInRange, Facts, cells_of}
use Rattle.smp_bytes.proofs.Members.{contains_cases, contains_none}
use Rattle.port_graph.specs.declared.edge.Edge.{Edge}
use Rattle.port_graph.specs.Heads.{edges_at}
use Rattle.port_graph.proofs.Indexing.{edges_below}
use Rattle.subnet_view.specs.declared.end_port.EndPort.{EndPort}
use Rattle.subnet_view.specs.Reading.{Cells, switches}
use Rattle.subnet_view.specs.Graph.{graph_of, guids_of}
use Rattle.subnet_view.specs.GraphLaws.{IsGraph}
use Rattle.subnet_view.specs.Wires.{across}
use Rattle.subnet_view.proofs.Graphs.{edge_is_wire, graph_law}
use Rattle.subnet_view.proofs.GraphSwitches.{graph_guids}
use Rattle.spread_labels.specs.Orders.{at_position, position_of}
use Rattle.spread_labels.proofs.ByPositions.{position_less}
use Rattle.spread_routes.proofs.Indices.{wire_at}
use Rattle.held_tables.specs.declared.held.HeldLid.{HeldLid}
use Rattle.held_tables.specs.Held.{HeldPlan}
use Rattle.plan_tables.proofs.PlanRanges.{wire_small}
use Rattle.held_tables.specs.declared.far_end.Far.TheVariants.{Nothing, Switch}
use Rattle.held_tables.specs.Switches.{far_at, far_of, far_to, row_of}
use Rattle.held_tables.specs.Tables.{entry_for, owners_of, top_of}
use Rattle.packet_walks.specs.declared.packet_end.End.{End}
use Rattle.packet_walks.specs.declared.packet_end.End.TheVariants.{Taken}
use Rattle.packet_walks.specs.declared.next_hop.NextHop.{NextHop}
use Rattle.packet_walks.specs.declared.next_hop.NextHop.TheVariants.{To, Ends}
use Rattle.packet_walks.specs.declared.next_hop.SwitchStep.{SwitchStep}
use Rattle.packet_walks.specs.HopsByTables.{by_entry, cause_of, next_hops_of, over, switch_step}
use Rattle.packet_walks.specs.EndsBySwitch.{after}
use Rattle.packet_walks.proofs.Judged.{at_is}
use Rattle.packet_walks.proofs.EntrySteps.{contains_at, no_wire_at_0}
use Rattle.next_tables.specs.Assembly.{most_blocks}
use Rattle.next_tables.specs.SwitchPositions.{IsOrder, position_at, switch_at}
use Rattle.next_tables.specs.SettledRule.{step_at}
use Rattle.next_tables.proofs.Assembled.{greatest_at}
use Rattle.next_tables.proofs.ByLid.{first_of}
use Rattle.next_tables.proofs.Entries.{at_mapped}
use Rattle.next_tables.proofs.Hops.{placed, taken_same, to_same}
use Rattle.next_tables.proofs.Mixtures.{at}
use Rattle.next_tables.specs.OrderedStepLaws.{DeliverFrom}
use Rattle.two_orders.specs.declared.labels.Sides.{Sides}
use Rattle.two_orders.specs.Labels.{both_down, goes_on, is_side, label_at, leads, leads_on, may_follow}
use Rattle.two_orders.specs.TwoOrders.{TwoOrders}
use Rattle.two_orders.proofs.LabelLaws.{labelled_go_on}
use Rattle.held_order.specs.GoalLaws.{GoalDelivers, IsGoalLine}
use Rattle.held_order.specs.TablesBetween.{labels_of_line, arrives, column_between, column_for, entry_between}
use Rattle.held_order.specs.TablesBetween.{entry_to, entry_with, first_label, fits, port_of}
use Rattle.held_order.specs.Orders.{edges_in}
use Rattle.held_order.proofs.GoalEntries.{entry_within, index_is, pair, towards_at}
use Rattle.held_order.proofs.GoalTurns.{columns, find_found, goal, goal_is}
use Rattle.held_order.proofs.Safe.{count_is}

-- if an element passes, one is found
find_some : {X : Type 0} (p : X → Bool) (xs : List X) (x : X) → Contains xs x → p x ≡ true → (y : X) × (find p xs ≡ Some y)
find_some p [] x there h = absurd (contains_none x there)
find_some {X = X} p (y ∷ xs) x there h =
    elim (p y) as (λ b. p y ≡ b → (z : X) × (cond b (Some y) (find p xs) ≡ Some z)) [
      | true ↦ λ e. (y, refl)
      | false ↦ λ e. (elim (contains_cases y x xs there) [
        | inl same ↦ (let own : p y ≡ true = ap p same ∙ h in absurd (cc))
        | inr rest ↦ find_some p xs x rest h
      ])
    ] refl

-- what arrives ends at the port
pub arrives_is : (port : EndPort) (hop : NextHop) → arrives port hop ≡ true → hop ≡ Ends (Taken port)
arrives_is port (To j) h = absurd (cc)
arrives_is port (Ends e) h = ap (λ (x : End). Ends x) (same_Some e (Taken port) (at_is port (Some e) h))

-- what fits leads on to a switch
pub record Fits (orders : TwoOrders) (labels : List (Option Sides)) (s : Sides) (i : ℕ) (hop : NextHop) : Type 0 where
  pub to : ℕ
  pub is : hop ≡ To to
  pub leads : leads_on orders labels s i to ≡ true

pub fits_to : (orders : TwoOrders) (labels : List (Option Sides)) (s : Sides) (i : ℕ) (hop : NextHop) → fits orders labels s i hop ≡ true
    → Fits orders labels s i hop
fits_to orders labels s i (To j) h = record { to = j; is = refl; leads = h }
fits_to orders labels s i (Ends e) h = absurd (cc)

-- by an order, an edge that leads on leads up or down, and a walk that goes down goes on down
side_up : (positions : List ℕ) (up : Bool) (i j : ℕ) → up ≡ true → is_side positions up i j ≡ true → position_at positions j < position_at positions i
side_up positions true i j e h = ltb-true (position_at positions j) (position_at positions i) h
side_up positions false i j e h = absurd (cc)

side_down : (positions : List ℕ) (up : Bool) (i j : ℕ) → up ≡ false → is_side positions up i j ≡ true
    → position_at positions i < position_at positions j
side_down positions false i j e h = ltb-true (position_at positions i) (position_at positions j) h
side_down positions true i j e h = absurd (cc)

follows_down : (before after : Bool) → before ≡ false → (not after || before) ≡ true → after ≡ false
follows_down before false e h = refl
follows_down true true e h = absurd (cc)
follows_down false true e h = absurd (cc)

module _ (facts : Facts) (range : AreInRange facts) (orders : TwoOrders) (order : IsOrder (cells_of facts) (position_at orders.first))
    (held plan : HeldPlan) (line : HeldLid)
    (is : IsGoalLine (cells_of facts) plan line) where
  abbrev cells : Cells
  cells = cells_of facts

  abbrev gs : List ℕ
  gs = switches (cells_of facts)

  abbrev n : ℕ
  n = length (switches (cells_of facts))

  abbrev edges : List (List Edge)
  edges = edges_in (cells_of facts)

  abbrev lid : ℕ
  lid = line.lid

  abbrev labels : List (Option Sides)
  labels = labels_of_line (cells_of facts) orders plan line

  abbrev tables : HeldPlan
  tables = goal facts orders held plan line.lid

  abbrev ps : List SwitchStep
  ps = map (switch_step (cells_of facts) plan line.lid) (switches (cells_of facts))

  abbrev firsts : List (Option Sides)
  firsts = map (first_label line.port) ps

  abbrev q : ℕ → ℕ
  q = position_at orders.first

  abbrev plan_hop : ℕ → NextHop
  plan_hop i = step_at (cells_of facts) plan line.lid (switch_at (cells_of facts) i)

  owners_are : owners_of plan lid ≡ line.port ∷ drop 1 (owners_of plan lid)
  owners_are = first_of (owners_of plan lid) line.port is.first

  -- the entry of a switch is that of its column
  pub entry_is : (i : ℕ) → i < n → entry_for tables lid (switch_at cells i) ≡ entry_between line.port edges orders labels (i, pair cells held plan lid i)
  entry_is i less =
      let g = switch_at cells i in
      let there : slice_get gs i ≡ Some g = placed gs i less in
      let low = is.within g (contains_at gs i g there) in
      let count = 64 * most_blocks cells held plan in
      let top = greatest_at (top_of plan) gs i g there in
      let some : lid ≡ 0 → ⊥ = λ e. omega (arith, e, is.some) in
      let few : lid < count = omega (arith, low, top) in
      entry_within facts held plan (columns facts orders held plan lid) i g lid there some (omega (arith, low))
      ∙ ap (λ (c : List ℕ). slice_index_or c i 255)
      (get_or-map-range_with_len (column_between cells edges orders held plan) 0 count lid lid [] few (omega arith))
      ∙ ap (λ (es : List EndPort). slice_index_or (column_for cells edges orders held plan lid es) i 255) owners_are
      ∙ towards_at cells edges orders held plan lid line.port i less

  hop_at : (i : ℕ) → i < n → at (next_hops_of cells tables lid) i ≡ step_at cells tables lid (switch_at cells i)
  hop_at i less = at_mapped (step_at cells tables lid) gs i (To i) less

  -- if the plan leads to the port, so does the goal
  at_port : (i : ℕ) → i < n → arrives line.port (plan_hop i) ≡ true → at (next_hops_of cells tables lid) i ≡ Ends (Taken line.port)
  at_port i less h =
      let g = switch_at cells i in
      let same : entry_for tables lid g ≡ entry_for plan lid g =
      entry_is i less ∙ ap (λ t. cond t (entry_for plan lid g) (entry_with edges orders labels (label_at labels i) i (pair cells held plan lid i))) h in
      hop_at i less ∙ taken_same cells plan tables lid g line.port refl (sym same) (arrives_is line.port (plan_hop i) h)

  -- an edge leads on by its port
  edge_steps : (i : ℕ) (e : Edge) → Contains (edges_at edges i) e → entry_for tables lid (switch_at cells i) ≡ e.port
      → step_at cells tables lid (switch_at cells i) ≡ To e.to
  edge_steps i e h port_is =
      let graph = graph_of cells in
      let good : IsGraph graph = graph_law facts in
      let guids = guids_of graph in
      let w = wire_at graph good i e h in
      let g = switch_at cells i in
      let same : guids ≡ gs = graph_guids cells in
      let from : at_position guids i ≡ g = ap (λ (xs : List ℕ). at_position xs i) same in
      let its = edge_is_wire cells (at_position guids i) w.wire w.there in
      let far = w.wire.to in
      let port : w.wire.port ≡ e.port = ap (λ (x : Edge). x.port) w.same in
      let wire : across cells g e.port ≡ Some (far, its.end_port) = sym (λ k. across cells (from k) (port k)) ∙ its.wire in
      let to : position_of guids far ≡ e.to = ap (λ (x : Edge). x.to) w.same in
      let stand = position_less guids far w.to_switch in
      let stands : slice_get gs e.to ≡ Some far =
      ap (slice_get gs) (sym to) ∙ sym (ap (λ (xs : List ℕ). slice_get xs (position_of guids far)) same)
      ∙ slice_get-get_or guids (position_of guids far) 0 stand.0 ∙ ap (λ (x : ℕ). Some x) stand.1 in
      let leads : far_of cells g e.port ≡ Switch e.to =
      ap (far_to gs) wire ∙ ap (far_at (far, its.end_port)) (index_is facts held plan (columns facts orders held plan lid) e.to far stands) in
      let small : e.port < 255 = omega (arith, (wire_small facts range g e.port far its.end_port wire).0) in
      let row : slice_index_or (row_of cells g) e.port Nothing ≡ Switch e.to =
      get_or-map-range_with_len (far_of cells g) 0 255 e.port e.port Nothing small (omega arith) ∙ leads in
      let some : e.port ≡ 0 → ⊥ = λ z. no_wire_at_0 cells g (far, its.end_port) (ap (across cells g) (sym z) ∙ wire) in
      let test : (e.port == 0) ≡ false = ne_eqb e.port 0 some in
      let owners = owners_of tables lid in
      let cause = cause_of cells tables lid g in
      ap (by_entry owners g cause (row_of cells g)) port_is
      ∙ ap (λ t. cond t (Ends (Taken (record { node = g; port = 0 }))) (over owners g cause (slice_index_or (row_of cells g) e.port Nothing))) test
      ∙ ap (over owners g cause) row

  -- a switch with a label leads on by it, if the plan does not lead from it to the port
  record GoesTo (i : ℕ) (s : Sides) : Type 0 where
    to : ℕ
    goes : step_at cells tables lid (switch_at cells i) ≡ To to
    leads : leads_on orders labels s i to ≡ true

  by_other : (other : HeldPlan) (i : ℕ) (s : Sides) → fits orders labels s i (step_at cells other lid (switch_at cells i)) ≡ true
      → entry_for tables lid (switch_at cells i) ≡ entry_for other lid (switch_at cells i) → GoesTo i s
  by_other other i s fit e =
      let x = fits_to orders labels s i (step_at cells other lid (switch_at cells i)) fit in
      record { to = x.to; goes = to_same cells other tables lid (switch_at cells i) x.to (sym e) x.is; leads = x.leads }

  by_port : (i : ℕ) (s : Sides) (e : Edge) → Contains (edges_at edges i) e → leads_on orders labels s i e.to ≡ true
      → entry_for tables lid (switch_at cells i) ≡ port_of (find (λ e. leads_on orders labels s i e.to) (edges_at edges i)) → GoesTo i s
  by_port i s e there led k =
      let p : Edge → Bool = λ x. leads_on orders labels s i x.to in
      let first = find_some p (edges_at edges i) e there led in
      let x = find_found p (edges_at edges i) first.0 first.1 in
      record { to = first.0.to; goes = edge_steps i first.0 x.there (k ∙ ap port_of first.1); leads = x.passes }

  by_sides : (i : ℕ) (s : Sides) (e : Edge) → Contains (edges_at edges i) e → leads_on orders labels s i e.to ≡ true
      → entry_for tables lid (switch_at cells i) ≡ entry_to edges orders labels s i (pair cells held plan lid i) → GoesTo i s
  by_sides i s e there led k =
      let g = switch_at cells i in
      let last = port_of (find (λ (x : Edge). leads_on orders labels s i x.to) (edges_at edges i)) in
      elim (fits orders labels s i (step_at cells held lid g)) as (λ t. fits orders labels s i (step_at cells held lid g) ≡ t
      → entry_for tables lid g ≡ cond t (entry_for held lid g) (cond (fits orders labels s i (step_at cells plan lid g)) (entry_for plan lid g) last)
      → GoesTo i s) [
        | true ↦ λ fit a. by_other held i s fit a
        | false ↦ λ no a. (elim (fits orders labels s i (step_at cells plan lid g)) as (λ t. fits orders labels s i (step_at cells plan lid g) ≡ t
            → entry_for tables lid g ≡ cond t (entry_for plan lid g) last → GoesTo i s) [
              | true ↦ λ fit b. by_other plan i s fit b
              | false ↦ λ none b. by_port i s e there led b
            ] refl a)
      ] refl k

  -- a switch with a label is one of the usable ones
  first_at : (i : ℕ) → i < n → label_at firsts i ≡ first_label line.port (switch_step cells plan lid (switch_at cells i))
  first_at i less =
      get_or-map (first_label line.port) ps i (switch_step cells plan lid (switch_at cells i)) None
      (omega (arith, less, length-map gs (switch_step cells plan lid)))
      ∙ ap (first_label line.port) (at_mapped (switch_step cells plan lid) gs i (switch_step cells plan lid (switch_at cells i)) less)

  within : (i : ℕ) (s : Sides) → label_at labels i ≡ Some s → i < n
  within i s has =
      elim (cases_lt i n) [
        | inl less ↦ less
        | inr past ↦ (
            let none : label_at firsts i ≡ None =
            get_or_past firsts i None (omega (arith, past, length-map ps (first_label line.port), length-map gs (switch_step cells plan lid))) in
            let x = labelled_go_on edges orders firsts i s has none in
            omega (arith, edges_below edges i x.0 x.1, count_is facts))
      ]

  same_label : (a b : Sides) (o : Option Sides) → o ≡ Some a → o ≡ Some b → b ≡ a
  same_label a b o e k = sym (same_Some a b (sym e ∙ k))

  goes_to : (i : ℕ) (s : Sides) → label_at labels i ≡ Some s → arrives line.port (plan_hop i) ≡ false → GoesTo i s
  goes_to i s has not_there =
      let less = within i s has in
      let none : label_at firsts i ≡ None = first_at i less ∙ ap (λ t. cond t (Some both_down) None) not_there in
      let x = labelled_go_on edges orders firsts i s has none in
      let own : x.2.label ≡ s = same_label s x.2.label (label_at labels i) has x.2.has in
      let leads : leads_on orders labels s i x.0.to ≡ true = ap (λ (l : Sides). leads_on orders labels l i x.0.to) (sym own) ∙ x.2.leads in
      by_sides i s x.0 x.1 leads
      (entry_is i less
      ∙ ap (λ t. cond t (entry_for plan lid (switch_at cells i)) (entry_with edges orders labels (label_at labels i) i (pair cells held plan lid i))) not_there
      ∙ ap (λ o. entry_with edges orders labels o i (pair cells held plan lid i)) has)

  pub goes_on_to : (i : ℕ) (s : Sides) → label_at labels i ≡ Some s → arrives line.port (plan_hop i) ≡ false
      → (j : ℕ) × (step_at cells tables lid (switch_at cells i) ≡ To j)
  goes_on_to i s has not_there = let x = goes_to i s has not_there in (x.to, x.goes)

  -- the next switch has a label that may follow
  record IsNext (i : ℕ) (s : Sides) : Type 0 where
    to : ℕ
    hop : at (next_hops_of cells tables lid) i ≡ To to
    label : Sides
    has : label_at labels to ≡ Some label
    follows : may_follow s label ≡ true
    side : is_side orders.first s.first_up i to ≡ true

  next_of : (i : ℕ) (s : Sides) → label_at labels i ≡ Some s → arrives line.port (plan_hop i) ≡ false → IsNext i s
  next_of i s has not_there =
      let x = goes_to i s has not_there in
      let parts = and_parts (leads orders s i x.to) (goes_on s (label_at labels x.to)) x.leads in
      let sides = and_parts (is_side orders.first s.first_up i x.to) (is_side orders.second s.second_up i x.to) parts.0 in
      by x.to (hop_at i (within i s has) ∙ x.goes) sides.0 (label_at labels x.to) refl parts.1
    where
      by : (j : ℕ) → at (next_hops_of cells tables lid) i ≡ To j → is_side orders.first s.first_up i j ≡ true → (o : Option Sides)
          → label_at labels j ≡ o → goes_on s o ≡ true → IsNext i s
      by j hop side None e g = absurd (cc)
      by j hop side (Some t) e g = record { to = j; hop = hop; label = t; has = e; follows = g; side = side }

  further : (i j : ℕ) → at (next_hops_of cells tables lid) i ≡ To j → DeliverFrom cells tables line j → DeliverFrom cells tables line i
  further i j hop c = (suc c.0, ap (after c.0 (next_hops_of cells tables lid)) hop ∙ c.1)

  -- down
  step_down : (i : ℕ) (s : Sides) → label_at labels i ≡ Some s → s.first_up ≡ false
      → ((j : ℕ) (t : Sides) → label_at labels j ≡ Some t → t.first_up ≡ false → q i < q j → DeliverFrom cells tables line j)
      → DeliverFrom cells tables line i
  step_down i s has falls rest =
      elim (arrives line.port (plan_hop i)) as (λ t. arrives line.port (plan_hop i) ≡ t → DeliverFrom cells tables line i) [
        | true ↦ λ h. (1, at_port i (within i s has) h)
        | false ↦ λ h.
            let x = next_of i s has h in
            let both = and_parts (not x.label.first_up || s.first_up) (not x.label.second_up || s.second_up) x.follows in
            further i x.to x.hop
            (rest x.to x.label x.has (follows_down s.first_up x.label.first_up falls both.0) (side_down orders.first s.first_up i x.to falls x.side))
      ] refl

  down : (k i : ℕ) (s : Sides) → label_at labels i ≡ Some s → s.first_up ≡ false → n - q i ≤ k → DeliverFrom cells tables line i
  down zero i s has falls few = absurd (omega (arith, order i (within i s has), few))
  down (suc k) i s has falls few =
      step_down i s has falls (λ j t its fall less. down k j t its fall (omega (arith, less, order j (within j t its), few)))

  -- up, and then down
  step_up : (i : ℕ) (s : Sides) → label_at labels i ≡ Some s
      → ((j : ℕ) (t : Sides) → label_at labels j ≡ Some t → q j < q i → DeliverFrom cells tables line j) → DeliverFrom cells tables line i
  step_up i s has rest =
      elim s.first_up as (λ b. s.first_up ≡ b → DeliverFrom cells tables line i) [
        | false ↦ λ falls. down (n - q i) i s has falls (omega arith)
        | true ↦ λ rises. (elim (arrives line.port (plan_hop i)) as (λ t. arrives line.port (plan_hop i) ≡ t → DeliverFrom cells tables line i) [
          | true ↦ λ h. (1, at_port i (within i s has) h)
          | false ↦ λ h.
              let x = next_of i s has h in
              further i x.to x.hop (rest x.to x.label x.has (side_up orders.first s.first_up i x.to rises x.side))
        ] refl)
      ] refl

  up : (k i : ℕ) (s : Sides) → label_at labels i ≡ Some s → q i ≤ k → DeliverFrom cells tables line i
  up zero i s has few = step_up i s has (λ j t its less. absurd (omega (arith, less, few)))
  up (suc k) i s has few = step_up i s has (λ j t its less. up k j t its (omega (arith, less, few)))

  pub delivers_from : (i : ℕ) (s : Sides) → label_at labels i ≡ Some s → DeliverFrom cells tables line i
  delivers_from i s has = up (q i) i s has (omega arith)

pub goal_delivers : GoalDelivers
goal_delivers facts range orders order held plan line is i label has =
    subst (λ (t : HeldPlan). DeliverFrom (cells_of facts) t line i) (sym (goal_is facts orders held plan line.lid))
    (delivers_from facts range orders order held plan line is i label has)
