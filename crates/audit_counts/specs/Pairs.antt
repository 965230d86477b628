-- How many packets there are, and how many of them arrive.
use Rattle.std.specs.Prelude.{◌≡◌, ◌+◌, ◌&&◌, ℕ, Bool, List, count_by, length, if◌then◌else◌}
use Rattle.audit_counts.specs.declared.sent_packet.SentPacket.{SentPacket}
use Rattle.audit_counts.specs.declared.pairs.Pairs.{Pairs}
use Rattle.audit_counts.specs.Packets.{arrives}

-- `pairs` has the number of `packets`, and how many of them arrive
pub record ArePairs (packets : List SentPacket) (pairs : Pairs) : Type 0 where
  pub sent : pairs.sent ≡ length packets
  pub arrived : pairs.arrived ≡ count_by arrives packets

-- `new` is `old`, with one more packet if `is_one`; `arrives` says whether the packet arrives
pub record ArePairsIf (old : Pairs) (is_one arrives : Bool) (new : Pairs) : Type 0 where
  pub sent : new.sent ≡ old.sent + (if is_one then 1 else 0)
  pub arrived : new.arrived ≡ old.arrived + (if is_one && arrives then 1 else 0)

-- `new` is `old` with `count` more packets, all of which arrive
pub record ArePairsWithArrived (old : Pairs) (count : ℕ) (new : Pairs) : Type 0 where
  pub sent : new.sent ≡ old.sent + count
  pub arrived : new.arrived ≡ old.arrived + count
