-- By where the packets end.
use Rattle.std.proofs.Common.{ℕ, subst, sym}
use Rattle.fact_store.specs.View.{cells_of}
use Rattle.packet_walks.specs.HopsByTables.{AreBrought}
use Rattle.audit_ways.proofs.Senders.{all_come_to}
use Rattle.audit_ways.proofs.way_figures.some_of_all.Goals as goal

pub returns-in-None : goal.returns-in-None
returns-in-None c =
    let cells = cells_of c.args.cursor.now.seen.facts in
    let held = c.args.cursor.now.seen.held in
    let brought = subst (λ (lid : ℕ). AreBrought cells held lid c.in_ok-ends.ends.ends) c.requires.lid c.in_ok-ends.ensures.0 in
    all_come_to cells held c.args.line.now c.in_ok-ends.ends.port c.in_ok-ends.ends.ends brought c.in_ok-ends.ensures.1 (sym c.in-None.ensures)
