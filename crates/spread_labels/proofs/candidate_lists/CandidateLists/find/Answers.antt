use Rattle.std.proofs.Common.{◌≡◌, ℕ, List, Vec, Global, sym, ap, subst, arith, length, map}
use Rattle.std.proofs.lemmas.List.{with_items_is}
use Rattle.std.specs.Prelude.{OnOk}
use Rattle.port_graph.specs.declared.edge.Edge.{Edge}
use Rattle.spread_labels.specs.TargetSet.{EachTarget}
use Rattle.spread_labels.specs.MarkSets.{picked}
use Rattle.spread_labels.proofs.PortLists.{list_at}
use Rattle.spread_labels.proofs.candidate_lists.CandidateLists.find.Goals as goal

pub returns : goal.returns
returns c =
    let inside = c.self.inside in
    let new = c.find_all.new.lists in
    let long : length new ≡ inside.lists.len =
    omega (arith, c.find_all.auto.lists, c.deref_mut.ensures.len, ap length c.deref_mut.ensures.value, inside.lists.ok.0) in
    subst (λ (lists : List (Vec ℕ Global)). OnOk c.find_all.result (EachTarget
    (λ k. list_at lists k ≡ map (λ (e : Edge). e.port) (picked k c.args.sets.now c.args.edges.now))))
    (sym (with_items_is inside.lists new long)) c.find_all.ensures
