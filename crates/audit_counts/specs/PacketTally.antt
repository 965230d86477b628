-- The tally of packets: how many arrive, how many are lost for each cause, and the first that do not arrive.
use Rattle.std.specs.Prelude.{◌≡◌, ℕ, true, List, filter, if◌then◌else◌}
use Rattle.audit_counts.specs.declared.sent_packet.SentPacket.{SentPacket}
use Rattle.audit_counts.specs.declared.packet_tally.PacketTally.{PacketTally}
use Rattle.audit_counts.specs.CauseCounts.{AreCausesIf, causes_of, is_lost_for}
use Rattle.audit_counts.specs.Packets.{arrives, goes_round, is_between, is_lost, is_misdelivered}
use Rattle.audit_counts.specs.Pairs.{ArePairs, ArePairsIf, ArePairsWithArrived}
use Rattle.audit_counts.specs.FirstFew.{listed, listed_of}

-- `tally` counts `packets`: how many there are and how many arrive, of all and of those between adapter ports; how many
-- are lost for each cause; and how many of each kind do not arrive, with the first `most` of them
pub record IsTally (most : ℕ) (packets : List SentPacket) (tally : PacketTally) : Type 0 where
  pub all : ArePairs packets tally.all
  pub between : ArePairs (filter is_between packets) tally.between
  pub causes : tally.causes ≡ causes_of packets
  pub lost : tally.lost ≡ listed_of most is_lost packets
  pub misdelivered : tally.misdelivered ≡ listed_of most is_misdelivered packets
  pub round : tally.round ≡ listed_of most goes_round packets

-- if `packet` does not arrive, `new` has `packet` among the packets of its kind and, if `packet` is lost, one more in
-- the count of its cause; the rest is as in `old`, but `all` and `between` are left open
pub record IsWithPacket (old : PacketTally) (packet : SentPacket) (new : PacketTally) : Type 0 where
  pub causes : AreCausesIf old.causes (λ cause. is_lost_for cause packet) new.causes
  pub lost : new.lost ≡ (if is_lost packet then listed old.lost packet else old.lost)
  pub misdelivered : new.misdelivered
      ≡ (if is_misdelivered packet then listed old.misdelivered packet else old.misdelivered)
  pub round : new.round ≡ (if goes_round packet then listed old.round packet else old.round)

-- `new` is `old` with `packet` added to the packets of its kind, if it does not arrive; `all` and `between` do not
-- change
pub record IsMissed (old : PacketTally) (packet : SentPacket) (new : PacketTally) : Type 0 where
  pub told : IsWithPacket old packet new
  pub all : new.all ≡ old.all
  pub between : new.between ≡ old.between

-- `new` is `old` with `packet` counted in `all` and, if it is between adapter ports, in `between`; the rest does not
-- change
pub record IsCountedWith (old : PacketTally) (packet : SentPacket) (new : PacketTally) : Type 0 where
  pub all : ArePairsIf old.all true (arrives packet) new.all
  pub between : ArePairsIf old.between (is_between packet) (arrives packet) new.between
  pub causes : new.causes ≡ old.causes
  pub lost : new.lost ≡ old.lost
  pub misdelivered : new.misdelivered ≡ old.misdelivered
  pub round : new.round ≡ old.round

-- `new` is `old` with `packet` counted, and added to the packets of its kind if it does not arrive
pub record IsWith (old : PacketTally) (packet : SentPacket) (new : PacketTally) : Type 0 where
  pub told : IsWithPacket old packet new
  pub all : ArePairsIf old.all true (arrives packet) new.all
  pub between : ArePairsIf old.between (is_between packet) (arrives packet) new.between

-- `new` is `old` with `count` more packets, all of which arrive; `adapters` of them are between adapter ports
pub record IsWithArrived (old : PacketTally) (count adapters : ℕ) (new : PacketTally) : Type 0 where
  pub all : ArePairsWithArrived old.all count new.all
  pub between : ArePairsWithArrived old.between adapters new.between
  pub causes : new.causes ≡ old.causes
  pub lost : new.lost ≡ old.lost
  pub misdelivered : new.misdelivered ≡ old.misdelivered
  pub round : new.round ≡ old.round
