use Rattle.std.proofs.Common.{sym, ◌∙◌, arith}
use Rattle.sweep.proofs.Asked.{length_switch}
use Rattle.sweep.proofs.sweep_requests.SweepRequests.ask_vertex.Goals as goal

pub ask_ports-requires-clause-room : goal.ask_ports-requires-clause-room
ask_ports-requires-clause-room c =
    let long = length_switch c.args.vertex.now (sym c.is_switch.ensures ∙ c.if-is_switch.true) in
    omega (arith, long, c.requires.room, c.ask.ensures.room)

pub ask_ports-requires-clause-number : goal.ask_ports-requires-clause-number
ask_ports-requires-clause-number c =
    let long = length_switch c.args.vertex.now (sym c.is_switch.ensures ∙ c.if-is_switch.true) in
    omega (arith, long, c.requires.number, c.ask.ensures.next)

pub ask_ports-requires-clause-ports : goal.ask_ports-requires-clause-ports
ask_ports-requires-clause-ports c =
    let long = length_switch c.args.vertex.now (sym c.is_switch.ensures ∙ c.if-is_switch.true) in
    omega (arith, long, c.requires.few)
