-- The loads are those that were counted.
use Rattle.std.proofs.Common.{◌≡◌, Global, Vec, map}
use Rattle.std.proofs.lemmas.Result.{IfOk-weaker}
use Rattle.fact_store.specs.View.{cells_of}
use Rattle.audit_ways.specs.declared.channel_list.LoadedChannel.{LoadedChannel}
use Rattle.audit_ways.specs.ChannelList.{loaded_channel, loaded_channels}
use Rattle.audit_ways.specs.Ways.{channels_of}
use Rattle.audit_ways.proofs.ChannelList.{told_loads}
use Rattle.audit_ways.proofs.channel_list.loaded_channels.Goals as goal

pub returns : goal.returns
returns c =
    let cells = cells_of c.args.network.now.facts in
    let held = c.args.network.now.held in
    IfOk-weaker c.listed.result (λ (l : Vec LoadedChannel Global). l.items ≡ map (loaded_channel c.deref.result.now) (channels_of cells))
    (λ (l : Vec LoadedChannel Global). l.items ≡ loaded_channels cells held)
    (λ l h. told_loads cells held c.in_ok-tally.tally c.deref.result.now l.items c.in_ok-tally.ensures c.deref.ensures.value h) c.listed.ensures
