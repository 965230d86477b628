-- Packets that arrive by the goal arrive after the steps.
use Rattle.std.proofs.Common.{ℕ, ◌*◌, ◌≤◌, ◌<◌, length, sym, ap, ◌∙◌, arith}
use Rattle.std.proofs.lemmas.List.{length-map}
use Rattle.subnet_view.specs.Reading.{Cells, switches}
use Rattle.held_tables.specs.declared.held.HeldLid.{HeldLid}
use Rattle.held_tables.specs.Held.{HeldPlan}
use Rattle.packet_walks.specs.declared.packet_end.End.TheVariants.{Taken}
use Rattle.packet_walks.specs.declared.next_hop.NextHop.{NextHop}
use Rattle.packet_walks.specs.declared.next_hop.NextHop.TheVariants.{To, Ends}
use Rattle.held_tables.specs.Switches.{sender_of}
use Rattle.held_tables.specs.Tables.{owners_of}
use Rattle.packet_walks.specs.EndsBySwitch.{after}
use Rattle.packet_walks.specs.HopsByTables.{first_hop, next_hops_of}
use Rattle.packet_walks.proofs.Ended.{after_ended}
use Rattle.next_tables.specs.SettledRule.{step_at}
use Rattle.next_tables.proofs.Mixtures.{Comes, in_range}
use Rattle.next_tables.specs.SwitchPositions.{switch_at}
use Rattle.next_tables.specs.OrderedStepLaws.{AreStepsByOrder, HealByOrder}
use Rattle.next_tables.proofs.by_order.Goal.{end_in_twice_as_many, owned}
use Rattle.next_tables.proofs.Hops.{placed}

module _ (cells : Cells) (q : ℕ → ℕ) (goal : HeldPlan) (line : HeldLid) (tables : ℕ → HeldPlan) (are : AreStepsByOrder cells q goal line tables)
    (m : ℕ) (most : 2 * length (switches cells) ≤ m) where
  pub heals : (s : NextHop) → Comes line.port (next_hops_of cells goal line.lid) s → Comes line.port (next_hops_of cells (tables m) line.lid) s
  heals (Ends e) c = (0, sym (after_ended c.0 (next_hops_of cells goal line.lid) e) ∙ c.1)
  heals (To i) c =
      let within = in_range (next_hops_of cells goal line.lid) c.0 i (Taken line.port) c.1 in
      let less : i < length (switches cells) = omega (arith, within, length-map (switches cells) (step_at cells goal line.lid)) in
      (end_in_twice_as_many cells q goal line tables are i (switch_at cells i) m (placed (switches cells) i less) c most).1

pub heal_by_order : HealByOrder
heal_by_order cells q goal line tables are source h m most =
    let it = heals cells q goal line tables are m most (first_hop (owners_of goal line.lid) (sender_of cells source)) h in (
      it.0,
      ap (λ os. after it.0 (next_hops_of cells (tables m) line.lid) (first_hop os (sender_of cells source))) (sym (owned cells q goal line tables are m))
          ∙ it.1,
    )
