-- A port that the node lacks has no wire.
use Rattle.std.proofs.Common.{ap, arith, sym}
use Rattle.fact_store.specs.View.{cells_of}
use Rattle.subnet_view.specs.Reading.{switches}
use Rattle.held_tables.specs.Switches.{far_to}
use Rattle.held_tables.proofs.SwitchIndices.{no_wire_past}
use Rattle.held_tables.proofs.far_end.far_within.Goals as goal

pub returns-then-ports-number : goal.returns-then-ports-number
returns-then-ports-number c =
    let cells = cells_of c.args.subnet.now in
    sym (ap (far_to (switches cells)) (no_wire_past cells c.args.node c.args.port (omega (arith, c.if-ports-number.true, c.requires.ports, c.number.ensures))))
