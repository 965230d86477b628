-- The edges of a switch are listed by rising port.
use Rattle.std.proofs.Common.{◌≡◌, ◌<◌, ◌+◌, ℕ, zero, suc, refl, sym, ap, arith, cond, map}
use Rattle.std.proofs.lemmas.Option.{cond_some, option_and_then_some}
use Rattle.std.specs.Prelude.{None, Some}
use Rattle.std.specs.List.{filter_map, cons_option, range_with_len}
use Rattle.std.specs.List.Sorted.{IsStrictlyIncreasing}
use Rattle.port_graph.specs.declared.edge.Edge.{Edge}
use Rattle.subnet_view.specs.Reading.{Cells, is_switch_node, port_count_of}
use Rattle.subnet_view.specs.Wires.{across}
use Rattle.subnet_view.specs.Graph.{edge_at, edges_of}
use Rattle.subnet_view.proofs.Rising.{RisesFrom, lower, risen_from}

module _ (cells : Cells) (g : ℕ) where
  its_port : (p : ℕ) (e : Edge) → edge_at cells g p ≡ Some e → e.port ≡ p
  its_port p e h =
      option_and_then_some (λ (q : ℕ × ℕ). cond (is_switch_node cells q.0) (Some (record { port = p; to = q.0 })) None) (across cells g p) e h
      (λ q w k. sym (ap (λ (x : Edge). x.port) (cond_some {A = Edge} (is_switch_node cells q.0) (record { port = p; to = q.0 }) e k).1))

  rising_from : (m start n : ℕ) → m < start → RisesFrom m (map (λ e. e.port) (filter_map (edge_at cells g) (range_with_len start n)))
  rising_from m start zero h = tt
  rising_from m start (suc n) h =
      elim (edge_at cells g start) as
      (λ o. edge_at cells g start ≡ o → RisesFrom m (map (λ e. e.port) (cons_option o (filter_map (edge_at cells g) (range_with_len (start + 1) n))))) [
        | None ↦ λ q. rising_from m (start + 1) n (omega arith)
        | Some e ↦ λ q. let i = its_port start e q in
            (omega (arith, i), lower e.port start _ (omega (arith, i)) (rising_from start (start + 1) n (omega arith)))
      ] refl

  -- the edges of a switch stand by rising port
  pub edges_rise : IsStrictlyIncreasing (map (λ e. e.port) (edges_of cells g))
  edges_rise = risen_from 0 _ (rising_from 0 1 (port_count_of cells g) (omega arith))
