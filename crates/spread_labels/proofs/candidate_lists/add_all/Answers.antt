use Rattle.std.proofs.Common.{◌≡◌, ◌<◌, ◌++◌, suc, List, sym, ap, ◌∙◌, arith, add-one, drop, length, map}
use Rattle.std.proofs.lemmas.List.{get_or_default}
use Rattle.port_graph.specs.declared.edge.Edge.{Edge}
use Rattle.spread_labels.specs.MarkSets.{edge_at, picked, set_at}
use Rattle.spread_labels.specs.CandidateLists.{added}
use Rattle.spread_labels.proofs.PortLists.{added_is, list_at, picked_first}
use Rattle.spread_labels.proofs.candidate_lists.add_all.Goals as goal

pub loop-i-preserved : goal.loop-i-preserved
loop-i-preserved c =
    let i = c.loop-i.i in
    let edges = c.args.edges.now in
    let sets = c.args.sets.now in
    let lists = c.loop-i.lists in
    let e = edge_at edges i in
    let below : i < length edges = omega (arith, c.loop-i-test.true) in
    let port : c.index-edges-i.result.port ≡ e.port =
    ap (λ (x : Edge). x.port) (c.index-edges-i.is ∙ sym (get_or_default edges i (record { port = 0; to = 0 }) c.index-edges-i.result below)) in
    record {
      all = omega (arith, c.add.auto.lists, c.loop-i.invariant.all);
      each = λ k h.
          let rest = picked k (drop (suc i) sets) (drop (suc i) edges) in
          (λ j. list_at c.add.new.lists k ++ map (λ (x : Edge). x.port) (picked k (drop (add-one i j) sets) (drop (add-one i j) edges)))
          ∙ ap (λ xs. xs ++ map (λ (x : Edge). x.port) rest) (c.in_ok-add.ensures k h ∙ ap (λ p. added (set_at sets i) p k (list_at lists k)) port)
          ∙ added_is (set_at sets i) k e (list_at lists k) rest
          ∙ ap (λ (es : List Edge). list_at lists k ++ map (λ (x : Edge). x.port) es) (sym (picked_first k sets edges i c.requires.all below))
          ∙ c.loop-i.invariant.each k h;
    }
