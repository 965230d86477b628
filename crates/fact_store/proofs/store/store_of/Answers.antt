-- Each is merged into what the store has.
use Rattle.std.proofs.Common.{ap, ◌∙◌, arith}
use Rattle.std.proofs.lemmas.List.{take_all}
use Rattle.fact_store.specs.Merge.{merge}
use Rattle.fact_store.specs.View.{Facts, no_facts, raised, view}
use Rattle.fact_store.proofs.Held.{from_none, one_more_merged, none_merged}
use Rattle.fact_store.proofs.store.store_of.Goals as goal

pub loop-sighting-init : goal.loop-sighting-init
loop-sighting-init c = c.raise_floor.ensures ∙ ap (λ (x : Facts). raised x c.args.floor) c.new-store.ensures ∙ none_merged (raised no_facts c.args.floor)

pub loop-sighting-preserved : goal.loop-sighting-preserved
loop-sighting-preserved c =
    one_more_merged (raised no_facts c.args.floor) c.loop-sighting.store c.add.new.self c.args.sightings.now c.loop-sighting.sighting-index
    c.sighting-item.result c.sighting-item.is c.loop-sighting-test.true c.loop-sighting.invariant c.in_ok-add.ensures.ok

pub returns : goal.returns
returns c =
    c.loop-sighting.invariant
    ∙ ap (λ s. merge (raised no_facts c.args.floor) (view s)) (take_all c.loop-sighting.sighting-index c.args.sightings.now (omega arith))
    ∙ from_none c.args.floor c.args.sightings.now
