-- The goal between two orders stands still while steps go towards it.
use Rattle.std.proofs.Common.{◌≡◌, ◌∙◌, ◌<◌, ◌⊎◌, ℕ, Bool, true, false, cond, List, length, Option, None, Some, refl, sym, ap, subst, inl, inr}
use Rattle.std.specs.Prelude.{slice_get}
use Rattle.fact_store.specs.View.{AreInRange, Facts, cells_of}
use Rattle.port_graph.specs.declared.edge.Edge.{Edge}
use Rattle.port_graph.specs.Heads.{edges_at}
use Rattle.subnet_view.specs.Reading.{Cells, switches}
use Rattle.held_tables.specs.declared.held.HeldLid.{HeldLid}
use Rattle.held_tables.specs.Held.{HeldPlan}
use Rattle.std.specs.List.{find}
use Rattle.held_tables.specs.Tables.{entry_for}
use Rattle.plan_tables.proofs.HeldTables.{within_length}
use Rattle.packet_walks.specs.declared.next_hop.NextHop.TheVariants.{To}
use Rattle.next_tables.specs.OrderRule.{tried}
use Rattle.next_tables.specs.SwitchPositions.{position_at, switch_at}
use Rattle.next_tables.specs.SettledRule.{comes_to, step_at}
use Rattle.next_tables.proofs.Hops.{none_to, to_same}
use Rattle.next_tables.proofs.Steps.{at_index}
use Rattle.next_tables.specs.OrderedStepLaws.{DeliverFrom, IsLineStep}
use Rattle.next_tables.proofs.by_order.Lost.{tried_choice, tried_delivers}
use Rattle.next_tables.proofs.by_order.Turns.{not_true}
use Rattle.two_orders.specs.declared.labels.Sides.{Sides}
use Rattle.two_orders.specs.Labels.{label_at, leads_on}
use Rattle.two_orders.specs.TwoOrders.{TwoOrders}
use Rattle.held_order.specs.GoalLaws.{GoalStandsStill, IsGoalLine}
use Rattle.held_order.specs.TablesBetween.{labels_of_line, arrives, entry_between, entry_with, fits, port_of}
use Rattle.held_order.specs.TablesBetween.{tables_between}
use Rattle.held_order.specs.Orders.{edges_in}
use Rattle.held_order.proofs.GoalDelivers.{entry_is, fits_to}
use Rattle.held_order.proofs.GoalEntries.{pair}
use Rattle.held_order.proofs.GoalTurns.{goal_is}
use Rattle.held_order.proofs.SameGoal.{alike}

-- an entry that is taken from other tables if it fits, whether it fits or not
kept_or_chosen : (fits_now fitted : Bool) (now held other : ℕ) → (now ≡ held → fits_now ≡ fitted) → now ≡ cond fitted held other
    → cond fits_now now other ≡ cond fitted held other
kept_or_chosen fits_now true now held other same is = (λ i. cond (same is i) (is i) other)
kept_or_chosen true false now held other same is = is
kept_or_chosen false false now held other same is = refl

module _ (facts : Facts) (range : AreInRange facts) (orders : TwoOrders) (held plan next : HeldPlan) (line : HeldLid)
    (is : IsGoalLine (cells_of facts) plan line)
    (step : IsLineStep (cells_of facts) (position_at orders.first) held (tables_between (cells_of facts) (edges_in (cells_of facts)) orders held plan) line
    next)
    (delivering : (i g : ℕ) → slice_get (switches (cells_of facts)) i ≡ Some g → (entry_for held line.lid g ≡ 255)
    ⊎ DeliverFrom (cells_of facts) held line i) where
  abbrev cells : Cells
  cells = cells_of facts

  abbrev edges : List (List Edge)
  edges = edges_in (cells_of facts)

  abbrev lid : ℕ
  lid = line.lid

  abbrev labels : List (Option Sides)
  labels = labels_of_line (cells_of facts) orders plan line

  abbrev between : HeldPlan → HeldPlan
  between tables = tables_between (cells_of facts) (edges_in (cells_of facts)) orders tables plan

  made : (tables : HeldPlan) (i : ℕ) → i < length (switches cells)
      → entry_for (between tables) lid (switch_at cells i) ≡ entry_between line.port edges orders labels (i, pair cells tables plan lid i)
  made tables i less =
      ap (λ (t : HeldPlan). entry_for t lid (switch_at cells i)) (goal_is facts orders tables plan lid)
      ∙ entry_is facts range orders step.order tables plan line is i less

  module _ (i : ℕ) (less : i < length (switches cells)) (there : slice_get (switches cells) i ≡ Some (switch_at cells i)) where
    abbrev g : ℕ
    g = switch_at (cells_of facts) i

    abbrev fit : Sides → HeldPlan → Bool
    fit s tables = fits orders (labels_of_line (cells_of facts) orders plan line) s i (step_at (cells_of facts) tables line.lid (switch_at (cells_of facts) i))

    -- the entry that is chosen if the held one does not fit
    abbrev chosen : Sides → ℕ
    chosen s =
        cond (fit s plan) (entry_for plan line.lid (switch_at (cells_of facts) i))
        (port_of (find (λ e. leads_on orders (labels_of_line (cells_of facts) orders plan line) s i e.to) (edges_at (edges_in (cells_of facts)) i)))

    fit_same : (s : Sides) (a b : HeldPlan) → entry_for a lid g ≡ entry_for b lid g → fit s a ≡ true → fit s b ≡ true
    fit_same s a b e h =
        let x = fits_to orders labels s i (step_at cells a lid g) h in
        ap (fits orders labels s i) (to_same cells a b lid g x.to e x.is) ∙ x.leads

    none_fits : (s : Sides) (tables : HeldPlan) → entry_for tables lid g ≡ 255 → fit s tables ≡ false
    none_fits s tables none =
        not_true (fit s tables) (λ h. (let x = fits_to orders labels s i (step_at cells tables lid g) h in none_to cells tables lid g x.to none x.is))

    held_not : (s : Sides) → comes_to line.port (tried cells (position_at orders.first) held (between held) line) (To i) ≡ false → fit s held ≡ false
    held_not s fails =
        elim (delivering i g there) [
          | inl none ↦ none_fits s held none
          | inr d ↦ let does = tried_delivers cells (position_at orders.first) held (between held) next line step i (less, d) in absurd (cc)
        ]

    by_sides : (s : Sides) → entry_for (between held) lid g ≡ cond (fit s held) (entry_for held lid g) (chosen s)
        → cond (fit s next) (entry_for next lid g) (chosen s) ≡ cond (fit s held) (entry_for held lid g) (chosen s)
    by_sides s own =
        let same : entry_for next lid g ≡ entry_for held lid g → fit s next ≡ fit s held =
        λ e. alike (fit s next) (fit s held) (fit_same s next held e) (fit_same s held next (sym e)) in
        elim (step.is_next.entries i g there) [
          | inl tried ↦ (elim (tried_choice cells (position_at orders.first) held (between held) line i g) [
            | inl kept ↦ (let e = tried ∙ kept in (λ k. cond (same e k) (e k) (chosen s)))
            | inr taken ↦ kept_or_chosen (fit s next) (fit s held) (entry_for next lid g) (entry_for held lid g) (chosen s) same (tried ∙ taken.0 ∙ own)
          ])
          | inr dropped ↦
              ap (λ b. cond b (entry_for next lid g) (chosen s)) (none_fits s next dropped.1)
              ∙ sym (ap (λ b. cond b (entry_for held lid g) (chosen s)) (held_not s dropped.0))
        ]

    by_label : (o : Option Sides) → label_at labels i ≡ o → arrives line.port (step_at cells plan lid g) ≡ false
        → entry_with edges orders labels o i (pair cells next plan lid i) ≡ entry_with edges orders labels o i (pair cells held plan lid i)
    by_label None has not_there = refl
    by_label (Some s) has not_there =
        by_sides s
        (made held i less
        ∙ ap (λ t. cond t (entry_for plan lid g) (entry_with edges orders labels (label_at labels i) i (pair cells held plan lid i))) not_there
        ∙ ap (λ o. entry_with edges orders labels o i (pair cells held plan lid i)) has)

    stands : entry_for (between next) lid g ≡ entry_for (between held) lid g
    stands =
        made next i less
        ∙ (elim (arrives line.port (step_at cells plan lid g)) as (λ t. arrives line.port (step_at cells plan lid g) ≡ t
        → cond t (entry_for plan lid g) (entry_with edges orders labels (label_at labels i) i (pair cells next plan lid i))
        ≡ cond t (entry_for plan lid g) (entry_with edges orders labels (label_at labels i) i (pair cells held plan lid i))) [
          | true ↦ λ e. refl
          | false ↦ λ e. by_label (label_at labels i) refl e
        ] refl)
        ∙ sym (made held i less)

pub goal_stands_still : GoalStandsStill
goal_stands_still facts range orders held plan next line is step delivering i g there =
    let cells = cells_of facts in
    let same : switch_at cells i ≡ g = at_index (switches cells) i g 0 there in
    let less = within_length (switches cells) i g there in
    subst (λ (x : ℕ). entry_for (tables_between cells (edges_in cells) orders next plan) line.lid x
    ≡ entry_for (tables_between cells (edges_in cells) orders held plan) line.lid x) same
    (stands facts range orders held plan next line is step delivering i less (there ∙ ap (λ (x : ℕ). Some x) (sym same)))
