-- A port more.
use Rattle.held_tables.proofs.Wired.{AreWired, port_wired}
use Rattle.std.proofs.Common.{ℕ, ◌+◌, sym, subst}
use Rattle.held_tables.proofs.far_ends.wired.Goals as goal

pub loop-port-preserved : goal.loop-port-preserved
loop-port-preserved c =
    let fars = c.args.fars.now in
    let port = c.loop-port.port in
    subst (λ (n : ℕ). AreWired fars (port + 1) n) (sym c.wired_more-count.ensures)
    (port_wired fars port c.loop-port.count c.index-fars-port.result c.loop-port.invariant c.loop-port-test.true c.index-fars-port.is)
