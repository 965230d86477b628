use Rattle.std.proofs.Common.{◌≡◌, ap, ◌∙◌, get_or, length}
use Rattle.std.proofs.lemmas.List.{with_items_is}
use Rattle.spread_labels.specs.Labels.{candidates}
use Rattle.trial_loads.specs.TrialLoads.{carried_to, first_had}
use Rattle.trial_loads.proofs.Packets.{between_more}
use Rattle.trial_loads.proofs.Towards.{found}
use Rattle.trial_loads.proofs.shared_loads.add_packets_between.Goals as goal

pub loop-k-preserved : goal.loop-k-preserved
loop-k-preserved c =
    let graph = c.args.graph.now.edges.now in
    let adapters = c.args.graph.now.adapters.now in
    let targets = c.args.targets.now in
    let k = c.loop-k.k in
    let t = get_or targets k 0 in
    let had = first_had (get_or adapters t 0) adapters in
    let start : c.deref_mut-in-loop-k.result.now ≡ had =
    c.deref_mut-in-loop-k.ensures.value ∙ with_items_is c.loop-k.had c.start.new.had (c.start.auto.had ∙ c.deref_mut.ensures.len) ∙ c.start.ensures in
    record {
      had = c.loop-k.invariant.had;
      loads = c.add_packets_to.ensures
          ∙ ap (λ towards. carried_to towards (length graph) c.deref_mut-in-loop-k.result.now c.loop-k.loads)
          (found graph targets c.in_ok-sets.sets k c.in_ok-sets.ensures c.loop-k-test.true (c.requires.targets k 0 c.loop-k-test.true))
          ∙ (λ i. carried_to (candidates graph t) (length graph) (start i) (c.loop-k.invariant.loads i))
          ∙ between_more graph adapters c.args.loads.now targets k c.loop-k-test.true;
    }
