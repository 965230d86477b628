use Rattle.subnet_view.proofs.SwitchSearch.{index_found}
use Rattle.lft_blocks.proofs.attachment.index_of.Goals as goal

pub returns : goal.returns
returns c = rw c.ok.ensures.value (index_found c.args.guids.now c.args.guid c.binary_search.result c.binary_search.ensures.position c.requires)
