-- How many packets are lost for each cause.
use Rattle.std.specs.Prelude.{◌≡◌, ◌+◌, Bool, true, false, List, Option, None, Some, count_by, if◌then◌else◌}
use Rattle.packet_walks.specs.declared.cause.Cause.{Cause}
use Rattle.packet_walks.specs.declared.cause.Cause.TheVariants.{AboveTop, NoEntry, NoPort, NoLink, Foreign}
use Rattle.packet_walks.specs.declared.packet_end.End.{End}
use Rattle.packet_walks.specs.declared.packet_end.End.TheVariants.{Taken, Lost}
use Rattle.audit_counts.specs.declared.cause_counts.Causes.{Causes}
use Rattle.audit_counts.specs.declared.sent_packet.SentPacket.{SentPacket}

-- two causes are equal
abbrev pub is_cause : Cause → Cause → Bool
is_cause AboveTop AboveTop = true
is_cause NoEntry NoEntry = true
is_cause NoPort NoPort = true
is_cause NoLink NoLink = true
is_cause Foreign Foreign = true
is_cause _ _ = false

-- a packet with this end is lost for `cause`; false if the packet is delivered or loops forever
abbrev pub is_lost_end_for : Cause → Option End → Bool
is_lost_end_for cause None = false
is_lost_end_for cause (Some (Taken e)) = false
is_lost_end_for cause (Some (Lost g why)) = is_cause cause why

-- `packet` is lost for `cause`
abbrev pub is_lost_for : Cause → SentPacket → Bool
is_lost_for cause packet = is_lost_end_for cause packet.end

-- the number of `packets` that are lost, for each cause
abbrev pub causes_of : List SentPacket → Causes
causes_of packets = record {
  above_top = count_by (is_lost_for AboveTop) packets;
  no_entry = count_by (is_lost_for NoEntry) packets;
  no_port = count_by (is_lost_for NoPort) packets;
  no_link = count_by (is_lost_for NoLink) packets;
  foreign = count_by (is_lost_for Foreign) packets;
}

-- `new` is `old` with one added to the count of each cause for which `is_for` is true
pub record AreCausesIf (old : Causes) (is_for : Cause → Bool) (new : Causes) : Type 0 where
  pub above_top : new.above_top ≡ old.above_top + (if is_for AboveTop then 1 else 0)
  pub no_entry : new.no_entry ≡ old.no_entry + (if is_for NoEntry then 1 else 0)
  pub no_port : new.no_port ≡ old.no_port + (if is_for NoPort then 1 else 0)
  pub no_link : new.no_link ≡ old.no_link + (if is_for NoLink then 1 else 0)
  pub foreign : new.foreign ≡ old.foreign + (if is_for Foreign then 1 else 0)

-- `new` is `old` with one more packet, which is lost for the cause `why`
abbrev pub AreCausesWith : Causes → Cause → Causes → Type 0
AreCausesWith old why new = AreCausesIf old (λ cause. is_cause cause why) new
