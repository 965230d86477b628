-- Views of lists with the same members are below each other.
use Rattle.fact_store.proofs.Views.{members_decide_view}
use Rattle.fact_store.proofs.laws.members_decide_view.Goals as goal

pub returns : goal.returns
returns c = members_decide_view
