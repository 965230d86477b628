-- Those of the end ports so far end at the port.
use Rattle.std.proofs.Common.{◌≡◌, ◌<◌, ℕ, true, get_or}
use Rattle.std.specs.Prelude.{None}
use Rattle.packet_walks.specs.HopsByTables.{is_at}
use Rattle.packet_walks.proofs.ends_by_sender.Ends.look_elsewhere.Given as goal

abbrev pub invariant-loop-index : goal.invariant-loop-index
invariant-loop-index l = (k : ℕ) → k < l.index → is_at l.self.port (get_or l.self.ends k None) ≡ true
