-- The channels' numbers by an order rise whenever a channel waits for another in a step.
use Rattle.std.proofs.Common.{◌≡◌, ℕ, ◌<◌, ◌≤◌, ◌*◌, false, length, None, Some, sym, ap, ◌∙◌, subst, arith, inl, inr, ◌⊎◌}
use Rattle.std.specs.Prelude.{◌/◌, slice_index_or, nat_lt, not, ◌&&◌}
use Rattle.std.proofs.lemmas.List.FromFn.{get_or-map-range_with_len}
use Rattle.port_graph.specs.declared.edge.Edge.{Edge}
use Rattle.subnet_view.specs.Reading.{Cells, switches}
use Rattle.held_tables.specs.Held.{HeldPlan}
use Rattle.held_tables.specs.Switches.{far_by}
use Rattle.packet_walks.specs.Edges.{edges_of}
use Rattle.next_tables.specs.Column.{number_of}
use Rattle.next_tables.specs.Mixtures.{TakesBy, WaitsInStep}
use Rattle.next_tables.proofs.Waits.{no_cycle_in_step}
use Rattle.next_tables.specs.OrderRule.{channel_number, number_over, numbers_by}
use Rattle.next_tables.specs.SwitchPositions.{is_bad, Leads}
use Rattle.next_tables.specs.OrderedStepLaws.{IsStep, NumbersRiseByOrder, NoCycleByOrder}
use Rattle.next_tables.proofs.Hops.{channel_leads, edge_is, leads_within}
use Rattle.next_tables.proofs.by_order.Turns.{not_true, goes_well, next_goes, Goes}

-- they rise over a turn that is not bad
pub numbers_rise : (n a b c : ℕ) → b < n → (not (nat_lt b a) && not (nat_lt b c)) ≡ false → channel_number n a b < channel_number n b c
numbers_rise n a b c less h = grind arith

-- the number of the channel of an edge
number_at : (cells : Cells) (q : ℕ → ℕ) (tables : HeldPlan) (lid i : ℕ) (edge : Edge) → slice_index_or (edges_of cells tables lid) i None ≡ Some edge
    → slice_index_or (numbers_by cells q) (number_of i edge) 0 ≡ channel_number (length (switches cells)) (q i) (q edge.to)
number_at cells q tables lid i edge h =
    let count = length (switches cells) in
    let leads = channel_leads cells tables lid i edge h in
    let c : ℕ = number_of i edge in
    let value : ℕ → ℕ = λ x. number_over count q (x / 256) (far_by cells x) in
    get_or-map-range_with_len value 0 (256 * count) c c 0 leads.2 (omega arith)
    ∙ (λ j. number_over count q (leads.0 j) (leads.1 j))

module _ (cells : Cells) (q : ℕ → ℕ) (held goal next : HeldPlan) (is : IsStep cells q held goal next) where
  abbrev Either : ℕ → ℕ → ℕ → Type 0
  Either lid i j = Leads cells held lid i j ⊎ Leads cells next lid i j

  either_goes : (lid : ℕ) (one : 1 ≤ lid) (i j : ℕ) → Either lid i j → Goes cells q held goal lid (is.held_right lid one) (is.goal_right lid one) i j
  either_goes lid one i j (inl l) = inl l
  either_goes lid one i j (inr l) = next_goes cells q held goal lid (is.held_right lid one) (is.goal_right lid one) next (is.choice lid one) i j l

  -- over one turn
  rise_over : (lid a b : ℕ) → 1 ≤ lid → (before now : HeldPlan) → ((i j : ℕ) → Leads cells before lid i j → Either lid i j)
      → ((i j : ℕ) → Leads cells now lid i j → Either lid i j) → TakesBy (edges_of cells before lid) (edges_of cells now lid) a b
      → slice_index_or (numbers_by cells q) a 0 < slice_index_or (numbers_by cells q) b 0
  rise_over lid a b one before now before_is now_is w =
      let t = w.1 in
      let first = edge_is cells before lid w.0 t.first t.leaves in
      let second = edge_is cells now lid t.first.to t.second t.leaves_there in
      let i = w.0 in let j = t.first.to in let k = t.second.to in
      let well : is_bad q i j k ≡ false =
      not_true (is_bad q i j k) (goes_well cells q held goal lid (is.held_right lid one) (is.goal_right lid one) i j k
      (either_goes lid one i j (before_is i j first)) (either_goes lid one j k (now_is j k second))) in
      let less = numbers_rise (length (switches cells)) (q i) (q j) (q k) (is.order j (leads_within cells now lid j k second)) well in
      let x = ap (λ c. slice_index_or (numbers_by cells q) c 0) t.channel_is ∙ number_at cells q before lid i t.first t.leaves in
      let y = ap (λ c. slice_index_or (numbers_by cells q) c 0) t.next_is ∙ number_at cells q now lid j t.second t.leaves_there in
      subst (λ (n : ℕ). n < slice_index_or (numbers_by cells q) b 0) (sym x)
      (subst (λ (n : ℕ). channel_number (length (switches cells)) (q i) (q j) < n) (sym y) less)

  pub rises : (lid a b : ℕ) → 1 ≤ lid → WaitsInStep cells held next lid a b
      → slice_index_or (numbers_by cells q) a 0 < slice_index_or (numbers_by cells q) b 0
  rises lid a b one (inl w) = rise_over lid a b one held held (λ i j l. inl l) (λ i j l. inl l) w
  rises lid a b one (inr (inl w)) = rise_over lid a b one held next (λ i j l. inl l) (λ i j l. inr l) w
  rises lid a b one (inr (inr (inl w))) = rise_over lid a b one next held (λ i j l. inr l) (λ i j l. inl l) w
  rises lid a b one (inr (inr (inr w))) = rise_over lid a b one next next (λ i j l. inr l) (λ i j l. inr l) w

pub numbers_rise_by_order : NumbersRiseByOrder
numbers_rise_by_order cells q held goal next is lid a b one w = rises cells q held goal next is lid a b one w

pub no_cycle_by_order : NoCycleByOrder
no_cycle_by_order cells q held goal next is =
    no_cycle_in_step cells held next (numbers_by cells q) (numbers_rise_by_order cells q held goal next is)
