use Rattle.fact_store.specs.View.{cells_of}
use Rattle.plan_tables.specs.Plan.{plan_of}
use Rattle.plan_tables.proofs.PlanRanges.{plans_in_range}
use Rattle.tables_file.proofs.Printed.{printed_is_read}
use Rattle.tables_file.proofs.laws.plans_are_read.Goals as goal

pub returns : goal.returns
returns c = record {
  law = λ rule lmc facts small range has_room. printed_is_read (plan_of rule lmc (cells_of facts)) (plans_in_range rule lmc facts small range has_room);
}
