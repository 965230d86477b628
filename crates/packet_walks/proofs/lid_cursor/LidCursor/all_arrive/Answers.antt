-- By the deliveries of its network.
use Rattle.std.proofs.Common.{◌≡◌, true, subst}
use Rattle.fact_store.specs.View.{cells_of}
use Rattle.packet_walks.specs.HopsByTables.{LineArrives}
use Rattle.packet_walks.specs.LidCursor.{AtLid}
use Rattle.packet_walks.proofs.lid_cursor.LidCursor.all_arrive.Goals as goal

pub returns-in-Some : goal.returns-in-Some
returns-in-Some c =
    let line = c.args.line.now in
    subst (λ (a : AtLid). c.all_arrive.result ≡ true → LineArrives (cells_of a.seen.facts) a.seen.held line) c.self.view_is c.all_arrive.ensures
