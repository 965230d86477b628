-- What the search finds.
use Rattle.std.proofs.Common.{◌∙◌}
use Rattle.std.specs.Result.{result_ok}
use Rattle.subnet_view.proofs.SwitchSearch.{index_found}
use Rattle.held_tables.proofs.SwitchIndices.{index_is}
use Rattle.held_tables.proofs.far_end.index.Goals as goal

pub returns : goal.returns
returns c =
    let numbers = c.args.guids.now in
    let found = index_found numbers c.args.guid c.binary_search.result c.binary_search.ensures.position c.requires in
    c.ok.ensures.value ∙ index_is numbers c.args.guid (result_ok c.binary_search.result) c.requires found
