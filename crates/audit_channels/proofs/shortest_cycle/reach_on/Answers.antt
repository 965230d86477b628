-- One more has been reached.
use Rattle.std.proofs.Common.{◌+◌, refl}
use Rattle.audit_channels.proofs.Searches.{grows_further, one_more_onward}
use Rattle.audit_channels.proofs.shortest_cycle.reach_on.Goals as goal

pub loop-channel-preserved : goal.loop-channel-preserved
loop-channel-preserved c = record {
  search = c.in_ok-reach.ensures.search;
  grows = grows_further _ _ _ c.loop-channel.invariant.grows c.in_ok-reach.ensures.grows;
  items = c.loop-channel.invariant.items;
  onward = one_more_onward c.args.numbers.now c.at-channel-items.result.now (c.args.here.count + 1) c.loop-channel.channel-index _
      c.loop-channel.reached.items c.reach.new.reached.items c.in_ok-reach.ensures.grows c.loop-channel-test.true refl c.loop-channel.invariant.onward
      c.in_ok-reach.ensures.onward;
}
