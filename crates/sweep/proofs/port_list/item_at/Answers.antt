use Rattle.std.proofs.Common.{sym, ◌∙◌}
use Rattle.sweep.proofs.Indices.{found_lost, found_there}
use Rattle.sweep.proofs.port_list.item_at.Goals as goal

pub returns-then-is_at : goal.returns-then-is_at
returns-then-is_at g c =
    c.get.ensures
    ∙ sym (found_there g.T.OfPort.key c.args.guid c.args.port c.args.items.now.items c.index_for-index.result c.requires c.index_for-index.ensures
    (sym c.is_at.ensures ∙ c.if-is_at.true))

pub returns-else-is_at : goal.returns-else-is_at
returns-else-is_at g c =
    sym (found_lost g.T.OfPort.key c.args.guid c.args.port c.args.items.now.items c.index_for-index.result c.requires c.index_for-index.ensures
    (sym c.is_at.ensures ∙ c.if-is_at.false))
