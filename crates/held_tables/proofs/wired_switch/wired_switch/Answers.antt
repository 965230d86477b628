-- Its parts are the switch's.
use Rattle.std.proofs.Common.{◌∙◌, ap}
use Rattle.fact_store.specs.View.{Facts, cells_of}
use Rattle.subnet_view.specs.Reading.{port_count_of}
use Rattle.held_tables.proofs.wired_switch.wired_switch.Goals as goal

pub returns : goal.returns
returns c =
    let ports = c.port_count-ports.ensures ∙ ap (λ (s : Facts). port_count_of (cells_of s) c.args.guid) c.store.ensures in
    λ i. record { guid = c.args.guid; row = c.in_ok-row.ensures i; ports = ports i }
