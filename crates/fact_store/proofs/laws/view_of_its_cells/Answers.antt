-- Facts and the view of their entries are below each other.
use Rattle.fact_store.proofs.Views.{view_of_its_cells}
use Rattle.fact_store.proofs.laws.view_of_its_cells.Goals as goal

pub returns : goal.returns
returns c = view_of_its_cells
