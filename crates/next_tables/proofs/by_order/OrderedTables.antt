-- The tables that are computed by an order are next tables by that order.
use Rattle.std.proofs.Common.{◌≡◌, ℕ, List, Some, refl, sym, ap, ◌∙◌}
use Rattle.std.specs.Prelude.{slice_get, unwrap_or}
use Rattle.fact_store.specs.View.{Facts, cells_of}
use Rattle.subnet_view.specs.Reading.{switches}
use Rattle.plan_tables.proofs.AttachmentTables.{switches_rise}
use Rattle.held_tables.specs.Held.{HeldPlan}
use Rattle.held_tables.specs.Switches.{index_in}
use Rattle.held_tables.specs.Tables.{owners_of}
use Rattle.plan_tables.proofs.HeldTables.{within_length}
use Rattle.packet_walks.proofs.EntrySteps.{contains_at}
use Rattle.next_tables.specs.SwitchPositions.{position_at}
use Rattle.next_tables.specs.NextTables.{by_order, index_at, next_at, ordered_for}
use Rattle.next_tables.proofs.Ordered.{index_own}
use Rattle.next_tables.proofs.Steps.{at_index}
use Rattle.next_tables.proofs.Whole.{entry_next, owners_next}
use Rattle.next_tables.specs.OrderedStepLaws.{OrderedTablesAreNext}

module _ (facts : Facts) (positions : List ℕ) (held goal : HeldPlan) where
  index_is : (i g : ℕ) → slice_get (switches (cells_of facts)) i ≡ Some g → index_at (cells_of facts) g ≡ i
  index_is i g there =
      let gs = switches (cells_of facts) in
      ap (λ (x : ℕ). unwrap_or (index_in gs x) 0) (sym (at_index gs i g 0 there))
      ∙ index_own gs i (switches_rise facts gs refl) (within_length gs i g there)

  by_index : (lid i g : ℕ) → slice_get (switches (cells_of facts)) i ≡ Some g
      → next_at (cells_of facts) (by_order positions) held goal lid g
      ≡ ordered_for (cells_of facts) (position_at positions) held goal lid (owners_of goal lid) i g
  unfolding next_at
  by_index lid i g there =
      ap (λ (x : ℕ). ordered_for (cells_of facts) (position_at positions) held goal lid (owners_of goal lid) x g) (index_is i g there)

pub ordered_tables_are_next : OrderedTablesAreNext
ordered_tables_are_next facts positions held goal = record {
  owners = owners_next (cells_of facts) (by_order positions) held goal;
  entries = λ i g lid there. entry_next (cells_of facts) (by_order positions) held goal g lid (contains_at (switches (cells_of facts)) i g there)
      ∙ by_index facts positions held goal lid i g there;
}
