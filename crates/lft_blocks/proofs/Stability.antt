-- Facts that differ in claims alone, and give the same LIDs, have the same plan.
use Rattle.std.proofs.Common.{◌≡◌, ℕ, sym, false, cond, length, map}
use Rattle.std.specs.Prelude.{None, Some, filter, not, option_and_then}
use Rattle.std.specs.List.{filter_map, range_with_len}
use Rattle.std.specs.Option.{option_map_or}
use Rattle.reply_facts.specs.declared.key.Key.{Key}
use Rattle.fact_store.specs.View.{Facts, cell_for, cells_of}
use Rattle.subnet_view.specs.declared.end_port.EndPort.{EndPort}
use Rattle.subnet_view.proofs.BesideClaims.{is_claim, switch_same, usable_same, count_same, switches_same, across_same, attached_same}
use Rattle.lid_assign.specs.Lids.{lids, owner_of, top_of}
use Rattle.lid_assign.proofs.Staying.{same_but_claims, lids_settle}
use Rattle.subnet_view.specs.Graph.{edge_at, graph_of, guids_of}
use Rattle.spread_routes.specs.Adapters.{adapters_at, adapters_of, has_adapter_at}
use Rattle.lft_blocks.specs.LidNumbers.{lid_numbers, number_of, numbered, numbering_by}
use Rattle.lft_blocks.specs.Rule.{RuleValue}
use Rattle.lft_blocks.proofs.RulesRoute.{rules_stay}
use Rattle.subnet_view.specs.Wires.{attachment_of}
use Rattle.lft_blocks.specs.Entries.{block_count}
use Rattle.lft_blocks.specs.Plan.{tables_of, plan_of}
use Rattle.lft_blocks.specs.PlanLaws.{PlansStay}

module _ (x y : Facts) (same : (key : Key) → is_claim key ≡ false → cell_for x key ≡ cell_for y key) where
  edge_same : (g p : ℕ) → edge_at (cells_of x) g p ≡ edge_at (cells_of y) g p
  edge_same g p = λ i. option_and_then (λ q. cond (switch_same x y same q.0 i) (Some (record { port = p; to = q.0 })) None) (across_same x y same g p i)

  graph_same : graph_of (cells_of x) ≡ graph_of (cells_of y)
  graph_same = λ i.
      map (λ g. record { guid = g; edges = filter_map (λ p. edge_same g p i) (range_with_len 1 (count_same x y same g i)) }) (switches_same x y same i)

  attachment_same : (e : EndPort) → attachment_of (cells_of x) e ≡ attachment_of (cells_of y) e
  attachment_same e = λ i. cond (usable_same x y same e.node i) (Some (e.node, 0)) (attached_same x y same e.node e.port i)

  has_adapter_at_same : (g p : ℕ) → has_adapter_at (cells_of x) g p ≡ has_adapter_at (cells_of y) g p
  has_adapter_at_same g p = λ i. option_map_or (λ q. not (usable_same x y same q.0 i)) (across_same x y same g p i) false

  adapters_same : (g : ℕ) → adapters_at (cells_of x) g ≡ adapters_at (cells_of y) g
  adapters_same g = λ i. length (filter (λ p. has_adapter_at_same g p i) (range_with_len 1 (count_same x y same g i)))

  all_adapters_same : adapters_of (cells_of x) ≡ adapters_of (cells_of y)
  all_adapters_same = λ i. map (λ g. adapters_same g i) (switches_same x y same i)

  numbers_same : (lmc : ℕ) → lids lmc (cells_of x) ≡ lids lmc (cells_of y)
      → lid_numbers lmc (cells_of x) (lids lmc (cells_of x)) ≡ lid_numbers lmc (cells_of y) (lids lmc (cells_of y))
  numbers_same lmc given =
      λ i. number_of (numbering_by lmc (graph_same i) (all_adapters_same i)) (guids_of (graph_same i))
      (λ lid. option_and_then (λ e. attachment_same e i) (owner_of (given i) lid))

  plan_same : (rule : RuleValue) (lmc : ℕ) → lids lmc (cells_of x) ≡ lids lmc (cells_of y) → plan_of rule lmc (cells_of x) ≡ plan_of rule lmc (cells_of y)
  plan_same rule lmc given =
      λ i. record {
        given = given i;
        tables = tables_of (λ lid. option_and_then (λ e. attachment_same e i) (owner_of (given i) lid))
            (numbered (numbers_same lmc given i) (rules_stay rule x y graph_same all_adapters_same i)).next
            (block_count (top_of (given i))) (switches_same x y same i);
      }

-- once the LIDs of a view are claimed, its plan stays
pub plans_stay : PlansStay
plans_stay rule lmc x y room claims =
    let l = lids_settle lmc x y room claims in
    (l.0, sym (plan_same x y (same_but_claims x y claims.same) rule lmc (sym l.1)))
