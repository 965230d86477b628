use Rattle.std.proofs.Common.{◌≡◌, ◌+◌, ◌-◌, ◌*◌, ℕ, List, sym, ap, ◌∙◌, arith, length, replicate, take, drop}
use Rattle.std.proofs.lemmas.List.{with_items_is}
use Rattle.std.proofs.Math.Seq.{take-add}
use Rattle.trial_loads.specs.TrialLoads.{carried_between}
use Rattle.trial_loads.proofs.Packets.{between_both}
use Rattle.trial_loads.proofs.shared_loads.loads_by.Goals as goal

pub loop-first-preserved : goal.loop-first-preserved
loop-first-preserved c =
    let graph = c.args.graph.now.edges.now in
    let adapters = c.args.graph.now.adapters.now in
    let targets = c.in_ok-targets.targets.items in
    let first = c.loop-first.first in
    let n = c.min.result in
    let none : List ℕ = replicate (256 * length graph) 0 in
    let new = c.add_packets_between.new.loads in
    let long : length new ≡ c.loop-first.loads.len = c.add_packets_between.auto.loads ∙ c.deref_mut.ensures.len in
    let more : take (first + n - first) (drop first c.deref.result.now) ≡ take n (drop first targets) =
    (λ i. take (let left : first + n - first ≡ n = omega arith in left i) (drop first (c.deref.ensures.value i))) in
    record {
      first = omega (arith, c.min.ensures, c.loop-first.invariant.first);
      long = c.loop-first.invariant.long;
      loads = with_items_is c.loop-first.loads new long ∙ c.in_ok-add_packets_between.ensures
          ∙ (λ i. carried_between graph adapters ((c.deref_mut.ensures.value ∙ c.loop-first.invariant.loads) i) (more i))
          ∙ sym (between_both graph adapters (take first targets) (take n (drop first targets)) none)
          ∙ ap (carried_between graph adapters none) (sym (take-add first n targets));
    }
