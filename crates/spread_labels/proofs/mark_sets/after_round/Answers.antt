use Rattle.std.proofs.Common.{◌≡◌, ◌<◌, ◌+◌, List, Vec, Global, [], sym, ap, ◌∙◌, subst, arith, length, map, get_or}
use Rattle.std.proofs.lemmas.List.{get_or-map, length-map, map-set, with_items_is}
use Rattle.std.specs.Prelude.{Contains, slice_set}
use Rattle.std.specs.Vec.{with_items}
use Rattle.port_graph.specs.declared.edge.Edge.{Edge}
use Rattle.port_graph.proofs.SearchSteps.{all_from_contained}
use Rattle.port_graph.specs.Heads.{edges_at}
use Rattle.spread_labels.specs.declared.target_set.TargetSet.{TargetSet}
use Rattle.spread_labels.specs.MarkSets.{AreSetSteps, IsSetStep, sets_at}
use Rattle.spread_labels.proofs.SetRounds.{left_over, steps_more}
use Rattle.spread_labels.proofs.mark_sets.after_round.Goals as goal

abbrev row_items : Vec TargetSet Global → List TargetSet
row_items row = row.items

pub set_step-next-requires-clause-marked : goal.set_step-next-requires-clause-marked
set_step-next-requires-clause-marked c =
    all_from_contained (λ (e : Edge). e.to < length c.args.marks.now.marked.items) c.at.result.now
    (λ e h. omega (arith, c.requires.marked, c.requires.lead c.loop-vertex.vertex e (subst (λ (xs : List Edge). Contains xs e) c.at.ensures h)))

pub set_step-next-requires-clause-downs : goal.set_step-next-requires-clause-downs
set_step-next-requires-clause-downs c =
    all_from_contained (λ (e : Edge). e.to < length c.args.marks.now.downs.items) c.at.result.now
    (λ e h. omega (arith, c.requires.downs, c.requires.lead c.loop-vertex.vertex e (subst (λ (xs : List Edge). Contains xs e) c.at.ensures h)))

pub loop-vertex-preserved : goal.loop-vertex-preserved
loop-vertex-preserved c =
    let v = c.loop-vertex.vertex in
    let edges = c.args.edges.now in
    let marked = c.args.marks.now.marked.items in
    let downs = c.args.marks.now.downs.items in
    let rows = map row_items c.args.rows.now in
    let now = map row_items c.loop-vertex.rows in
    let row = c.set_step-next.new.row in
    let next = c.set_step-next.result in
    let i = c.loop-vertex.invariant in
    let inside : v < length c.loop-vertex.rows = omega (arith, c.loop-vertex-test.true) in
    let below : v < length now = omega (arith, inside, length-map c.loop-vertex.rows row_items) in
    let it = get_or c.loop-vertex.rows v c.index-rows-vertex.result in
    let long : length row ≡ it.len = omega (arith, c.set_step-next.ensures.as_long, ap length c.deref_mut.ensures.value, it.ok.0) in
    let is : map row_items (slice_set c.loop-vertex.rows v (with_items it row)) ≡ slice_set now v row =
    map-set row_items c.loop-vertex.rows v (with_items it row) ∙ ap (λ (xs : List TargetSet). slice_set now v xs) (with_items_is it row long) in
    let at : sets_at rows v ≡ c.deref_mut.result.now =
    sym (i.left v (omega arith)) ∙ get_or-map row_items c.loop-vertex.rows v c.index-rows-vertex.result [] inside
    ∙ sym c.deref_mut.ensures.value in
    let step : IsSetStep v (edges_at edges v) marked downs (sets_at rows v) next.marked next.downs row =
    subst (λ (x : List Edge × List TargetSet). IsSetStep v x.0 marked downs x.1 next.marked next.downs row)
    (λ k. (c.at.ensures k, sym at k)) c.set_step-next.ensures in
    let so = steps_more edges marked downs rows v c.loop-vertex.marked.items c.loop-vertex.downs.items now next.marked next.downs row below i.done step in
    record {
      done = subst (λ (x : List TargetSet × List TargetSet × List (List TargetSet)). AreSetSteps edges marked downs rows (v + 1) x.0 x.1 x.2)
          (λ k. (sym (c.in_ok-push.ensures.items) k, sym (c.in_ok-push-2.ensures.items) k, sym is k)) so;
      left = λ s h. ap (λ (xs : List (List TargetSet)). sets_at xs s) is
          ∙ left_over edges marked downs rows v c.loop-vertex.marked.items c.loop-vertex.downs.items now next.marked next.downs row rows i.left s h;
    }
