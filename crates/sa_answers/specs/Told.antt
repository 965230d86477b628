-- What subnet administration tells of.
use Rattle.std.specs.Prelude.{ℕ, Bool, List}
use Rattle.fact_store.specs.View.{cells_of}
use Rattle.subnet_view.specs.Reading.{Cells}
use Rattle.lft_blocks.specs.Plan.{PlanValue}
use Rattle.sweep.specs.declared.images.SeenImage.{SeenImage}
use Rattle.sa_answers.specs.declared.told.Told as code

-- the facts, the plan that was written, the images of PortInfo that a sweep kept, the port GUID of the manager, and
-- whether the manager also writes the multicast tree
pub record Told : Type 0 where
  pub cells : Cells
  pub plan : PlanValue
  pub images : List SeenImage
  pub own : ℕ
  pub multicast : Bool

-- what the code tells of, as a value
abbrev pub value_of : code.Told → Told
value_of t = record {
  cells = cells_of t.store.now;
  plan = t.plan.now;
  images = t.sweep.now.images.ports;
  own = t.own;
  multicast = t.multicast;
}
