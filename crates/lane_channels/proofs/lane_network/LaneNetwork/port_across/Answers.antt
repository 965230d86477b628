-- By the ports at the far ends.
use Rattle.std.proofs.Common.{◌≡◌, ◌∙◌, ◌+◌, ◌*◌, subst}
use Rattle.std.specs.Prelude.{slice_index_or}
use Rattle.fact_store.specs.View.{cells_of}
use Rattle.lane_channels.specs.LaneNetwork.{SeenByLane}
use Rattle.lane_channels.specs.Stops.{port_across}
use Rattle.lane_channels.proofs.FarPorts.{port_there}
use Rattle.lane_channels.proofs.lane_network.LaneNetwork.port_across.Goals as goal

pub returns : goal.returns
returns c =
    let Found : SeenByLane → Type 0 = λ s. c.far_port_at.result ≡ port_across (cells_of s.seen.facts) c.args.index c.args.out in
    let out : c.from.result ≡ c.args.out = c.from.ensures ∙ c.number.ensures in
    subst Found c.self.view_is
    (c.far_port_at.ensures
    ∙ (λ i. slice_index_or (c.deref.ensures.value i) (256 * c.args.index + out i) 0)
    ∙ port_there (cells_of c.self.inside.network.now.facts) c.self.inside.far_ports.items (256 * c.args.index + c.args.out) c.self.invariant.far_ports_are)
