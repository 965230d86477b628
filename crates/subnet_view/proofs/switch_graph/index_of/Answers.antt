-- What the search finds.
use Rattle.std.proofs.Common.{sym, subst}
use Rattle.subnet_view.specs.SwitchGraph.{IsIndexIn}
use Rattle.subnet_view.proofs.SwitchSearch.{index_found}
use Rattle.subnet_view.proofs.switch_graph.index_of.Goals as goal

pub returns : goal.returns
returns c = subst (IsIndexIn c.args.guids.now c.args.guid) (sym c.ok.ensures.value)
    (index_found c.args.guids.now c.args.guid c.binary_search.result c.binary_search.ensures.position c.requires)
