-- A switch of the list, and 0 past its end.
use Rattle.std.proofs.Common.{◌∙◌}
use Rattle.std.proofs.lemmas.Option.{unwrap_or-slice_get}
use Rattle.std.specs.Option.{unwrap_or}
use Rattle.fact_store.specs.View.{cells_of}
use Rattle.subnet_view.specs.Reading.{switches}
use Rattle.packet_walks.proofs.network.Network.guid.Goals as goal

pub returns : goal.returns
returns c =
    c.unwrap_or.ensures ∙ (λ i. unwrap_or (c.switch.ensures i) (c.new.ensures i))
    ∙ unwrap_or-slice_get (switches (cells_of c.args.self.now.facts)) c.args.index 0
