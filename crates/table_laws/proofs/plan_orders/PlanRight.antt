-- The tables of a plan are right by the order by which it was made.
use Rattle.std.proofs.Common.{◌≡◌, ℕ, ◌+◌, ◌*◌, ◌<◌, ◌≤◌, true, List, [], ◌∷◌, length, Option, None, Some, refl, sym, ap, ◌∙◌, arith}
use Rattle.std.specs.Prelude.{◌/◌, ◌%◌, ◌&&◌, not, nat_lt, map, slice_index_or}
use Rattle.std.specs.Option.{option_map_or}
use Rattle.std.specs.List.{range_with_len}
use Rattle.std.proofs.lemmas.List.FromFn.{get_or-map-range_with_len}
use Rattle.fact_store.specs.View.{AreInRange, Facts, cells_of}
use Rattle.subnet_view.specs.Reading.{Cells, switches}
use Rattle.subnet_view.specs.Wires.{across}
use Rattle.subnet_view.specs.Graph.{graph_of}
use Rattle.subnet_view.specs.Routing.{Routing}
use Rattle.lid_assign.specs.Lids.{greatest, lids, top_of, IsNoRoom}
use Rattle.lft_blocks.specs.Rule.{routing_by, spread_in}
use Rattle.lft_blocks.specs.Plan.{plan_of, lid_routing}
use Rattle.plan_tables.specs.PlanTables.{held_plan}
use Rattle.spread_labels.specs.declared.key_order.VertexKey.{VertexKey}
use Rattle.spread_routes.specs.SwitchOrder.{OrderValue}
use Rattle.held_tables.specs.Held.{HeldPlan, nothing_held}
use Rattle.spread_routes.specs.Adapters.{adapters_of}
use Rattle.spread_routes.specs.Rule.{position, by_positions}
use Rattle.spread_routes.specs.Spread.{keys_by, spread_by}
use Rattle.spread_labels.specs.Ways.{channel_number}
use Rattle.held_tables.specs.Tables.{entry_for, top_of as top_held}
use Rattle.plan_tables.proofs.HeldPlans.{made}
use Rattle.packet_walks.proofs.EntrySteps.{leaves}
use Rattle.packet_walks.proofs.Tops.{none_above}
use Rattle.audit_channels.specs.Waiting.{WaitsFor}
use Rattle.table_laws.proofs.audits.PlansRise.{rise_in_turn}
use Rattle.next_tables.proofs.Steps.{at_index}
use Rattle.next_tables.specs.SwitchPositions.{AreRight, Leads, is_bad, switch_at}
use Rattle.table_laws.specs.PlanLaws.{PlanTurnsRise}
use Rattle.next_tables.proofs.Hops.{column_at, edge_at, leads_within}
use Rattle.next_tables.proofs.by_order.Turns.{not_true}

-- numbers of the rule, as where it is proved that they rise
abbrev number_at : Routing → Cells → ℕ → ℕ → ℕ
number_at rule cells g port = option_map_or (λ end. rule.channel g end.0) (across cells g port) 0

abbrev number_of : Routing → Cells → ℕ → ℕ
number_of rule cells channel = number_at rule cells (slice_index_or (switches cells) (channel / 256) 0) (channel % 256)

abbrev numbers : Routing → Cells → List ℕ
numbers rule cells = map (number_of rule cells) (range_with_len 0 (256 * length (switches cells)))

module _ (rule : Routing) (cells : Cells) (tables : HeldPlan) (lid : ℕ) where
  abbrev entry : ℕ → ℕ
  entry i = entry_for tables lid (switch_at cells i)

  number_is : (i j : ℕ) → Leads cells tables lid i j
      → slice_index_or (numbers rule cells) (256 * i + entry i) 0 ≡ rule.channel (switch_at cells i) (switch_at cells j)
  number_is i j l =
      let less = leads_within cells tables lid i j l in
      let by = leaves cells (switch_at cells i) (entry i) (record { port = entry i; to = j }) (edge_at cells tables lid i j l) in
      let low = by.below in
      let to : switch_at cells j ≡ by.end.0 = at_index (switches cells) j by.end.0 0 by.index in
      let channel : ℕ = 256 * i + entry i in
      let index : channel / 256 ≡ i = omega arith in
      let rest : channel % 256 ≡ entry i = omega arith in
      get_or-map-range_with_len (number_of rule cells) 0 (256 * length (switches cells)) channel channel 0 (omega arith) (omega arith)
      ∙ (λ k. number_at rule cells (slice_index_or (switches cells) (index k) 0) (rest k))
      ∙ ap (λ o. option_map_or (λ (q : ℕ × ℕ). rule.channel (switch_at cells i) q.0) o 0) by.wire
      ∙ ap (rule.channel (switch_at cells i)) (sym to)

  waits : (i j k : ℕ) → 1 ≤ lid → Leads cells tables lid i j → Leads cells tables lid j k
      → WaitsFor cells tables (256 * i + entry i) (256 * j + entry j)
  waits i j k one a b = record {
    lid = lid;
    is_lid = one;
    switch = i;
    takes = record {
      first = record { port = entry i; to = j };
      second = record { port = entry j; to = k };
      leaves = column_at cells tables lid i j a;
      leaves_there = column_at cells tables lid j k b;
      channel_is = refl;
      next_is = refl;
    };
  }

  rise_there : ((a b : ℕ) → WaitsFor cells tables a b → slice_index_or (numbers rule cells) a 0 < slice_index_or (numbers rule cells) b 0) → (i j k : ℕ)
      → 1 ≤ lid → Leads cells tables lid i j → Leads cells tables lid j k
      → rule.channel (switch_at cells i) (switch_at cells j) < rule.channel (switch_at cells j) (switch_at cells k)
  rise_there rises i j k one a b =
      let less = rises (256 * i + entry i) (256 * j + entry j) (waits i j k one a b) in
      let x = number_is i j a in
      let y = number_is j k b in
      omega (arith, less, x, y)

-- where nothing is held nothing waits
no_top : (gs : List ℕ) → greatest (map (top_held nothing_held) gs) ≡ 0
no_top [] = refl
no_top (g ∷ gs) = let rest = no_top gs in omega arith

nothing_waits : (cells : Cells) (a b : ℕ) → WaitsFor cells nothing_held a b → ⊥
nothing_waits cells a b w =
    let low = w.is_lid in
    let takes = w.takes in
    let leaves = takes.leaves in
    let none = none_above cells nothing_held w.lid (omega (arith, no_top (switches cells), low)) w.switch in
    cc

pub plan_turns_rise : PlanTurnsRise
plan_turns_rise by lmc facts range has_room lid i j k =
    let cells = cells_of facts in
    let rule = lid_routing by lmc cells (lids lmc cells) in
    let told : Option ℕ → HeldPlan = λ o. option_map_or (λ top. made by lmc cells top) o nothing_held in
    elim (top_of (lids lmc cells)) as (λ o. top_of (lids lmc cells) ≡ o → 1 ≤ lid → Leads cells (told o) lid i j → Leads cells (told o) lid j k
    → rule.channel (switch_at cells i) (switch_at cells j) < rule.channel (switch_at cells j) (switch_at cells k)) [
      | None ↦ λ e. rise_there rule cells nothing_held lid (λ a b w. absurd (nothing_waits cells a b w)) i j k
      | Some top ↦ λ e. rise_there rule cells (made by lmc cells top) lid (rise_in_turn by lmc facts range has_room top e) i j k
    ] refl

-- by positions
rises_well : (n a b c : ℕ) → channel_number n a b < channel_number n b c → (not (nat_lt b a) && not (nat_lt b c)) ≡ true → ⊥
rises_well n a b c h bad = grind arith

-- the position of the switch at an index in the order that grows by the keys of the rule that spreads
abbrev pub keys : Cells → OrderValue → List VertexKey
keys cells order = keys_by (graph_of cells) (adapters_of cells) order

abbrev pub spread_position : Cells → OrderValue → ℕ → ℕ
spread_position cells order i = position (graph_of cells) (keys cells order) (switch_at cells i)

spread_channel : (cells : Cells) (order : OrderValue) → (n : ℕ) × ((x y : ℕ) → (routing_by (spread_in order) cells).channel x y
    ≡ channel_number n (position (graph_of cells) (keys cells order) x) (position (graph_of cells) (keys cells order) y))
unfolding spread_by
spread_channel cells order = (length (by_positions (graph_of cells) (keys cells order)), λ x y. refl)

pub spread_plans_are_right : (order : OrderValue) (lmc : ℕ) (facts : Facts) → AreInRange facts → ¬ (IsNoRoom lmc (cells_of facts))
    → (lid : ℕ) → 1 ≤ lid → AreRight (cells_of facts) (spread_position (cells_of facts) order) (held_plan (plan_of (spread_in order) lmc (cells_of facts))) lid
spread_plans_are_right order lmc facts range has_room lid one i j k a b =
    let cells = cells_of facts in
    let less = plan_turns_rise (spread_in order) lmc facts range has_room lid i j k one a b in
    let by = spread_channel cells order in
    let x = by.1 (switch_at cells i) (switch_at cells j) in
    let y = by.1 (switch_at cells j) (switch_at cells k) in
    not_true (is_bad (spread_position cells order) i j k) (λ bad.
    rises_well by.0 (spread_position cells order i) (spread_position cells order j) (spread_position cells order k) (omega (arith, less, x, y)) bad)
