-- Vertex by vertex.
use Rattle.std.proofs.Common.{◌≡◌, ◌<◌, List, ℕ, refl, ap, ◌∙◌, arith, length, replicate, [], ◌∷◌, ◌++◌, add-one}
use Rattle.std.proofs.lemmas.List.{nil_from_length}
use Rattle.std.specs.Prelude.{Option, None, Some}
use Rattle.port_graph.specs.declared.edge.Edge.{Edge}
use Rattle.port_graph.specs.Heads.{heads}
use Rattle.port_graph.proofs.Searching.{found}
use Rattle.port_graph.proofs.SearchSteps.{all_from_contained, starts, distance_below, lead_within, between, fewer, written}
use Rattle.port_graph.proofs.distance.distances.Goals as goal

-- what follows if a clone of nothing is nothing
filled : {X P : Type 0} (C : Option X → Type 0) → (((y : Option X) → C y → y ≡ None) → P) → ((x : X) → C (Some x) → ⊥) → P
filled {X} C follows not_some = follows same
  where
    same : (y : Option X) → C y → y ≡ None
    same None h = refl
    same (Some x) h = absurd (not_some x h)

pub loop-vertex-init : goal.loop-vertex-init
loop-vertex-init c =
    let n = length c.args.edges.now in
    let none : c.in_ok-distances.distances.items ≡ replicate n None =
    filled _ c.in_ok-distances.ensures.items_if_clones_equal (λ x k. k) ∙ ap (λ m. replicate m None) c.len.ensures in
    starts (heads c.args.edges.now) c.args.from n c.in_ok-distances.distances.items c.push_back.new.self.items c.requires.vertex none
    (◌∙◌ {A = List (ℕ × ℕ)} c.in_ok-push_back.ensures.items (ap (λ q. q ++ (c.args.from, 0) ∷ []) c.in_ok-queue.ensures.items))

pub overflow_add-distance : goal.overflow_add-distance
overflow_add-distance c =
    let below =
    distance_below c.args.edges.now c.args.from c.requires.lead c.loop-vertex.distances.items c.loop-vertex.queue.items c.pop_front.new.self.items
    c.in-Some.vertex c.in-Some.distance c.in-Some.ensures.items c.loop-vertex.invariant in
    omega (arith, below)

pub reach_all-requires : goal.reach_all-requires
reach_all-requires c =
    let within =
    lead_within c.args.edges.now c.args.from c.requires.lead c.loop-vertex.distances.items c.loop-vertex.queue.items c.pop_front.new.self.items
    c.in-Some.vertex c.in-Some.distance c.in-Some.ensures.items c.loop-vertex.invariant c.at.result.now c.at.ensures in
    all_from_contained (λ (e : Edge). e.to < length c.deref_mut.result.now) c.at.result.now (λ e h. omega (arith, within e h, c.deref_mut.ensures.len))

pub loop-vertex-smaller : goal.loop-vertex-smaller
loop-vertex-smaller c =
    let step =
    written c.loop-vertex.distances c.deref_mut.result.now c.reach_all.new.distances c.pop_front.new.self.items c.reach_all.new.queue.items
    _ c.at.result.now (omega arith) c.deref_mut.ensures.value c.in_ok-reach_all.ensures in
    fewer c.args.edges.now c.args.from c.requires.lead c.loop-vertex.distances.items c.loop-vertex.queue.items c.pop_front.new.self.items
    c.in-Some.vertex c.in-Some.distance c.in-Some.ensures.items c.loop-vertex.invariant c.at.result.now c.at.ensures
    _ (add-one c.in-Some.distance) _ step

pub loop-vertex-preserved : goal.loop-vertex-preserved
loop-vertex-preserved c =
    let step =
    written c.loop-vertex.distances c.deref_mut.result.now c.reach_all.new.distances c.pop_front.new.self.items c.reach_all.new.queue.items
    _ c.at.result.now (omega arith) c.deref_mut.ensures.value c.in_ok-reach_all.ensures in
    between c.args.edges.now c.args.from c.requires.lead c.loop-vertex.distances.items c.loop-vertex.queue.items c.pop_front.new.self.items
    c.in-Some.vertex c.in-Some.distance c.in-Some.ensures.items c.loop-vertex.invariant c.at.result.now c.at.ensures
    _ (add-one c.in-Some.distance) _ step

pub returns : goal.returns
returns c =
    record {
      all = c.loop-vertex.invariant.search.all;
      shortest = λ a h.
          let none = nil_from_length c.loop-vertex.queue.items (omega (arith, c.in_default.ensures.cases)) in
          found (heads c.args.edges.now) c.args.from (length c.args.edges.now) (c.loop-vertex.distances.items, c.loop-vertex.queue.items) none
          c.loop-vertex.invariant a;
    }
