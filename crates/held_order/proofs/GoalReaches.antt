-- Each switch gets a label if the first order grows and the second grows over its tree.
use Rattle.std.proofs.Common.{◌≡◌, ◌∙◌, ◌<◌, ℕ, Bool, true, false, cond, List, length, Option, None, Some, sym, ap, arith, inl, inr}
use Rattle.std.specs.Prelude.{map}
use Rattle.std.proofs.lemmas.Bool.{cases_lt}
use Rattle.std.proofs.lemmas.List.{get_or-map, get_or_past, length-map}
use Rattle.std.proofs.lemmas.Option.{same_Some}
use Rattle.fact_store.specs.View.{Facts, cells_of}
use Rattle.subnet_view.specs.Reading.{switches}
use Rattle.subnet_view.specs.Graph.{graph_of}
use Rattle.subnet_view.proofs.Graphs.{graph_law}
use Rattle.spread_routes.proofs.Indices.{leads_below, there_and_back}
use Rattle.held_tables.specs.declared.held.HeldLid.{HeldLid}
use Rattle.held_tables.specs.Held.{HeldPlan}
use Rattle.packet_walks.specs.declared.next_hop.SwitchStep.{SwitchStep}
use Rattle.packet_walks.specs.HopsByTables.{switch_step}
use Rattle.packet_walks.proofs.Judged.{same_itself}
use Rattle.next_tables.specs.SwitchPositions.{switch_at}
use Rattle.next_tables.specs.SettledRule.{step_at}
use Rattle.next_tables.proofs.Entries.{at_mapped}
use Rattle.two_orders.specs.declared.labels.Sides.{Sides}
use Rattle.two_orders.specs.LabelLaws.{AreTargets, grown_twice}
use Rattle.two_orders.specs.Labels.{both_down, label_at}
use Rattle.two_orders.proofs.TreeLabels.{all_get_labels}
use Rattle.held_order.specs.GoalLaws.{GoalReachesAll}
use Rattle.held_order.specs.TablesBetween.{arrives, first_label}
use Rattle.held_order.specs.Orders.{edges_in}
use Rattle.held_order.proofs.GoalDelivers.{goal_delivers}
use Rattle.held_order.proofs.Safe.{count_is, grown_is_order}

module _ (facts : Facts) (plan : HeldPlan) (line : HeldLid) where
  abbrev gs : List ℕ
  gs = switches (cells_of facts)

  abbrev ps : List SwitchStep
  ps = map (switch_step (cells_of facts) plan line.lid) (switches (cells_of facts))

  abbrev firsts : List (Option Sides)
  firsts = map (first_label line.port) (map (switch_step (cells_of facts) plan line.lid) (switches (cells_of facts)))

  long : length firsts ≡ length gs
  long = length-map ps (first_label line.port) ∙ length-map gs (switch_step (cells_of facts) plan line.lid)

  abbrev first_of : Bool → Option Sides
  first_of b = cond b (Some both_down) None

  first_at : (i : ℕ) → i < length gs
      → label_at firsts i ≡ first_of (arrives line.port (step_at (cells_of facts) plan line.lid (switch_at (cells_of facts) i)))
  first_at i less =
      let own = switch_step (cells_of facts) plan line.lid (switch_at (cells_of facts) i) in
      get_or-map (first_label line.port) ps i own None (omega (arith, less, length-map gs (switch_step (cells_of facts) plan line.lid)))
      ∙ ap (first_label line.port) (at_mapped (switch_step (cells_of facts) plan line.lid) gs i own less)

  is_down : (b : Bool) (s : Sides) → first_of b ≡ Some s → s ≡ both_down
  is_down true s h = sym (same_Some both_down s h)
  is_down false s h = absurd (cc)

  pub targets : AreTargets (edges_in (cells_of facts)) firsts
  targets = record {
    as_many = long ∙ sym (count_is facts);
    down = λ i s h. (elim (cases_lt i (length gs)) [
      | inl less ↦ is_down (arrives line.port (step_at (cells_of facts) plan line.lid (switch_at (cells_of facts) i))) s (sym (first_at i less) ∙ h)
      | inr past ↦ (let none : label_at firsts i ≡ None = get_or_past firsts i None (omega (arith, past, long)) in absurd (cc))
    ]);
  }

pub goal_reaches_all : GoalReachesAll
goal_reaches_all facts range told by held plan line is i t n t_in walk ends =
    let graph = graph_of (cells_of facts) in
    let good = graph_law facts in
    let edges = edges_in (cells_of facts) in
    let target : label_at (firsts facts plan line) t ≡ Some both_down =
    first_at facts plan line t t_in ∙ ap (λ b. cond b (Some both_down) None) (ap (arrives line.port) ends ∙ same_itself line.port) in
    let x = all_get_labels edges (leads_below graph good) (there_and_back graph good) told by (firsts facts plan line) (targets facts plan line) i t n walk
    target in
    goal_delivers facts range (grown_twice edges told by) (grown_is_order facts told) held plan line is i x.0 x.1
