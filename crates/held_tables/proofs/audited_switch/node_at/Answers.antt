-- Its parts are the node's.
use Rattle.std.proofs.Common.{◌∙◌, ap}
use Rattle.held_tables.specs.Tables.{top_at}
use Rattle.held_tables.proofs.audited_switch.node_at.Goals as goal

pub returns : goal.returns
returns c =
    let switch = c.args.switch.now in
    let top = c.top_at-top.ensures ∙ ap (top_at c.args.held.now) c.index_of-index.ensures in
    λ i. record { guid = switch.guid; row = c.in_ok-row.ensures i; index = c.index_of-index.ensures i; top = top i; ports = switch.ports }
