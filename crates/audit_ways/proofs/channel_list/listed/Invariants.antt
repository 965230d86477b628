-- The channels so far.
use Rattle.std.proofs.Common.{◌≡◌}
use Rattle.fact_store.specs.View.{cells_of}
use Rattle.audit_ways.proofs.ChannelList.{listed_so_far}
use Rattle.audit_ways.proofs.channel_list.listed.Given as goal

abbrev pub invariant-loop-channel : goal.invariant-loop-channel
invariant-loop-channel l = l.found.items ≡ listed_so_far (cells_of l.network.facts) l.loads l.channel
