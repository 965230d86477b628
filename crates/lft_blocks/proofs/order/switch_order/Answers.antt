use Rattle.std.proofs.Common.{ap, sym, ◌∙◌, length}
use Rattle.fact_store.specs.View.{cells_of}
use Rattle.spread_routes.proofs.AdapterCounts.{adapters_long}
use Rattle.lft_blocks.proofs.order.switch_order.Goals as goal

pub invariant_of-given : goal.invariant_of-given
invariant_of-given c = record {
  have_adapters =
      ap length (c.deref.ensures.value ∙ c.in_ok-adapters.ensures) ∙ adapters_long (cells_of c.args.wired.now.wires.now) ∙ sym (ap length c.args.wired.now.is_graph);
}
