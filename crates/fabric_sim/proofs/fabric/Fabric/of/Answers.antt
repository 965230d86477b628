use Rattle.std.proofs.Common.{◌≡◌, length, take, arith, ap, ◌∙◌, rules}
use Rattle.std.proofs.lemmas.List.{take_all}
use Rattle.fabric_model.specs.Cables.{other_end}
use Rattle.fabric_sim.specs.Build.{uncabled, cabled}
use Rattle.fabric_sim.proofs.Built.{link_at, links_in_start, one_port, other_port, one_free, other_free, links_in_more}
use Rattle.fabric_sim.proofs.fabric.Fabric.of.Goals as goal

pub loop-link-init : goal.loop-link-init
loop-link-init c = links_in_start c.args.topology.now c.args.first_serial _ c.in_ok-fabric.ensures.is_topology (search rules) c.in_ok-fabric.ensures.fabric

pub join-requires-clause-one : goal.join-requires-clause-one
join-requires-clause-one c =
    one_port c.args.topology.now c.args.first_serial c.loop-link.link-index _ c.link-item.result c.loop-link.invariant
    (link_at c.args.topology.now c.links-link-items.result.now c.loop-link.link-index c.link-item.result
    c.links-link-items.ensures c.loop-link-test.true c.link-item.is)

pub join-requires-clause-other : goal.join-requires-clause-other
join-requires-clause-other c =
    other_port c.args.topology.now c.args.first_serial c.loop-link.link-index _ c.link-item.result c.loop-link.invariant
    (link_at c.args.topology.now c.links-link-items.result.now c.loop-link.link-index c.link-item.result
    c.links-link-items.ensures c.loop-link-test.true c.link-item.is)

pub join-requires-clause-one_free : goal.join-requires-clause-one_free
join-requires-clause-one_free c =
    one_free c.args.topology.now c.args.first_serial c.loop-link.link-index _ c.link-item.result c.loop-link.invariant
    (link_at c.args.topology.now c.links-link-items.result.now c.loop-link.link-index c.link-item.result
    c.links-link-items.ensures c.loop-link-test.true c.link-item.is)

pub join-requires-clause-other_free : goal.join-requires-clause-other_free
join-requires-clause-other_free c =
    other_free c.args.topology.now c.args.first_serial c.loop-link.link-index _ c.link-item.result c.loop-link.invariant
    (link_at c.args.topology.now c.links-link-items.result.now c.loop-link.link-index c.link-item.result
    c.links-link-items.ensures c.loop-link-test.true c.link-item.is)

pub loop-link-preserved : goal.loop-link-preserved
loop-link-preserved c =
    links_in_more c.args.topology.now c.args.first_serial c.loop-link.link-index _ c.link-item.result c.loop-link.invariant
    (link_at c.args.topology.now c.links-link-items.result.now c.loop-link.link-index c.link-item.result
    c.links-link-items.ensures c.loop-link-test.true c.link-item.is)
    _ c.join.ensures

-- all links are in
all : (c : goal.After-loop-link) → take c.loop-link.link-index c.args.topology.now.links ≡ c.args.topology.now.links
all c =
    let past = c.loop-link-test.false in
    let count : length c.links-link-items.result.now ≡ length c.args.topology.now.links = ap length c.links-link-items.ensures in
    take_all c.loop-link.link-index c.args.topology.now.links (omega arith)

pub returns-clause-fabric : goal.returns-clause-fabric
returns-clause-fabric c = c.loop-link.invariant.built ∙ ap (λ links. cabled links (uncabled c.args.topology.now.nodes c.args.first_serial)) (all c)

pub returns-clause-cables : goal.returns-clause-cables
returns-clause-cables c = λ p. c.loop-link.invariant.cables p ∙ ap (λ links. other_end links p) (all c)
