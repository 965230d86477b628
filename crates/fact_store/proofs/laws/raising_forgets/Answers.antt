-- What is dropped at a floor is dropped at each greater one.
use Rattle.fact_store.proofs.Views.{raising_forgets}
use Rattle.fact_store.proofs.laws.raising_forgets.Goals as goal

pub returns : goal.returns
returns c = raising_forgets
