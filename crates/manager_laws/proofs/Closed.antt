-- A sweep that is done, with every answer, has crossed each cable of each vertex that it reached.
use Rattle.std.proofs.Common.{◌≡◌, inl, inr, ℕ, ◌≤◌, Bool, true, false, cond, not, ◌&&◌, ◌||◌, List, [], ◌∷◌, ◌++◌, refl, sym, ap, ◌∙◌, subst, arith}
use Rattle.std.proofs.Math.Bool.{or-true}
use Rattle.std.proofs.lemmas.Bool.{and_parts, eqb-true, eq-eqb}
use Rattle.std.proofs.lemmas.Option.{same_Some}
use Rattle.std.specs.Prelude.{Option, Some, MatchBool, IsSome, ◌==◌}
use Rattle.std.specs.List.{AllByRecursion}
use Rattle.fabric_model.specs.declared.cable.NodePort.{NodePort}
use Rattle.smp_bytes.specs.declared.node_type.NodeType.{NodeType}
use Rattle.smp_bytes.specs.NodeType.{is_switch}
use Rattle.fabric_model.specs.Fabric as fabric
use Rattle.fabric_model.specs.Fabric.{Fabric, IsFabric, IsNodeAt}
use Rattle.fabric_model.specs.FabricWalks.{vertex_of}
use Rattle.fabric_model.proofs.FabricWalks.{port_at, vertex_node}
use Rattle.reply_facts.specs.declared.value.Value.{Value}
use Rattle.reply_facts.specs.declared.value.Value.TheVariants.{Kind, Guid, Peer}
use Rattle.reply_facts.specs.Known.{kind_in, guid_in, peer_in}
use Rattle.reply_facts.specs.Report.{Sightings, guid_port}
use Rattle.sweep.specs.declared.question.Question.TheVariants as ask
use Rattle.sweep.specs.declared.request.Request.{Request}
use Rattle.sweep.specs.declared.vertex.Vertex.{Vertex}
use Rattle.sweep.specs.Sweep.{Sweep, Asking, is_none_left, is_done}
use Rattle.sweep.specs.Finding.{is_start}
use Rattle.manager_laws.specs.Truth.{IsTrueSighting}
use Rattle.manager_laws.proofs.Sound.{CanBeSwept}
use Rattle.manager_laws.proofs.Asked.{IsPending}
use Rattle.manager_laws.proofs.Covered.{Having, having, guid_at, IsReached, IsOrigin, IsItsPort, IsAnswered, Covers, Crossed, leads_on, Covered}
use Rattle.manager_laws.proofs.Known.{same_node}
use Rattle.manager_laws.proofs.Lists.{has_with}
use Rattle.manager_laws.proofs.Taken.{guid_is, vertex_is}

-- nothing is left of the requests
none_left : (requests : List Request) → is_none_left requests ≡ true → requests ≡ []
none_left [] e = refl
none_left (r ∷ requests) e = cc

pub none_pending : (s : Sweep) → is_done s ≡ true → (a : Asking) → IsPending (s.outstanding ++ s.queued) a → ⊥
none_pending s done a h =
    let parts = and_parts (is_none_left s.queued) (is_none_left s.outstanding) done in
    let empty : s.outstanding ++ s.queued ≡ [] = (λ j. none_left s.outstanding parts.1 j ++ none_left s.queued parts.0 j) in
    subst (λ rs. IsPending rs a) empty h

-- where a key is known to have a value
pub kind_known : (o : Option Value) (kind : NodeType) (ports : ℕ) → kind_in o ≡ Some (kind, ports) → o ≡ Some (Kind kind ports)
kind_known (Some (Kind k n)) kind ports e =
    let same : ◌≡◌ {A = NodeType × ℕ} (k, n) (kind, ports) = same_Some (k, n) (kind, ports) e in
    ap (λ (x : NodeType × ℕ). Some (Kind x.0 x.1)) same
kind_known other kind ports e = cc

pub guid_known : (o : Option Value) → IsSome (guid_in o) → (guid : ℕ) × (o ≡ Some (Guid guid))
guid_known (Some (Guid x)) e = (x, refl)
guid_known other e = cc

pub peer_known : (o : Option Value) (h q : ℕ) → peer_in o ≡ Some (h, q) → o ≡ Some (Peer h q)
peer_known (Some (Peer x y)) h q e = let same : ◌≡◌ {A = ℕ × ℕ} (x, y) (h, q) = same_Some (x, y) (h, q) e in ap (λ (z : ℕ × ℕ). Some (Peer z.0 z.1)) same
peer_known other h q e = cc

module _ {f : Fabric} {seat : NodePort} (can : CanBeSwept f seat) (is_fabric : IsFabric f) (at_seat : fabric.Node) (seat_there : IsNodeAt f seat.node at_seat)
    (s : Sweep) (told : Sightings) (c : Covered f seat s told) (none : (a : Asking) → IsPending (s.outstanding ++ s.queued) a → ⊥)
    (all : AllByRecursion (IsTrueSighting f) told) where
  abbrev pub has_all : Having
  has_all = having s told

  -- a vertex that was reached -----------------------------------------------------------------------------

  pub record WasReached (p : NodePort) (node : fabric.Node) : Type 0 where
    pub v : Vertex
    pub covers : Covers f seat has_all v
    pub guid : v.guid ≡ node.guid
    pub port : v.port ≡ p.port
    pub id : covers.id ≡ p.node
    pub same : covers.node ≡ node

  pub was_reached : (p : NodePort) (node : fabric.Node) → IsNodeAt f p.node node → IsReached f seat s.reached p → WasReached p node
  was_reached p node there h =
      has_with (Covers f seat has_all) (λ v. (v.guid ≡ guid_at f seat p.node) × (v.port ≡ p.port)) s.reached c.vertices h
      (λ v covers is.
      let guid : v.guid ≡ node.guid = is.0 ∙ guid_is f (record { there = there; named = refl }) seat in
      let nodes = same_node f can.distinct covers.has (record { there = there; named = sym guid }) in
      record { v = v; covers = covers; guid = guid; port = is.1; id = nodes.0; same = nodes.1 })

  pub answered_port : (v : Vertex) (covers : Covers f seat has_all v) (p : ℕ) → IsItsPort v p → IsAnswered f seat has_all covers.id v (ask.Port p)
  answered_port v covers p its = elim (covers.its_ports p its) [ inl k ↦ absurd (none _ k) | inr k ↦ k ]

  -- each cable of it was crossed ------------------------------------------------------------------------------

  module _ (from to : NodePort) (node : fabric.Node) (there : IsNodeAt f from.node node) (low : 1 ≤ from.port) (high : from.port ≤ node.ports)
      (cable : f.across from ≡ Some to) (reached : IsReached f seat s.reached (vertex_of f from)) where
    r : WasReached (vertex_of f from) node
    r = was_reached (vertex_of f from) node (subst (λ k. IsNodeAt f k node) (sym (vertex_node f from)) there) reached

    id_is : r.covers.id ≡ from.node
    id_is = r.id ∙ vertex_node f from

    kind_is : r.v.kind ≡ node.kind
    kind_is = r.covers.kind ∙ ap (λ (n : fabric.Node). n.kind) r.same

    ports_are : r.v.ports ≡ node.ports
    ports_are = r.covers.ports ∙ ap (λ (n : fabric.Node). n.ports) r.same

    port_is : r.v.port ≡ guid_port r.v.kind from.port
    port_is = r.port ∙ ap (λ (q : NodePort). q.port) (vertex_is f from node there) ∙ ap (λ k. guid_port k from.port) (sym kind_is)

    -- its port is asked for
    its : IsItsPort r.v from.port
    its = by_kind (is_switch r.v.kind) refl
      where
        by_kind : (b : Bool) → is_switch r.v.kind ≡ b → MatchBool (is_switch r.v.kind) (from.port ≤ r.v.ports) (from.port ≡ r.v.port)
        by_kind true e =
            subst (λ b. MatchBool b (from.port ≤ r.v.ports) (from.port ≡ r.v.port)) (sym e) (let most = ports_are in omega (arith, high, most))
        by_kind false e =
            subst (λ b. MatchBool b (from.port ≤ r.v.ports) (from.port ≡ r.v.port)) (sym e) (sym (port_is ∙ ap (λ b. cond b 0 from.port) e))

    answer : IsAnswered f seat has_all r.covers.id r.v (ask.Port from.port)
    answer = answered_port r.v r.covers from.port its

    here : port_at r.covers.id from.port ≡ from
    here = ap (λ k. port_at k from.port) id_is

    over : f.across (port_at r.covers.id from.port) ≡ Some to
    over = ap f.across here ∙ cable

    -- by the way that the vertex was reached
    came_over : (x : NodePort) → f.across (port_at r.covers.id r.v.arrival) ≡ Some x → Crossed f seat has_all (port_at r.covers.id r.v.arrival) x
        → r.v.arrival ≡ from.port → Crossed f seat has_all from to
    came_over x across crossed arrival =
        let start : port_at r.covers.id r.v.arrival ≡ from = ap (port_at r.covers.id) arrival ∙ here in
        let end : x ≡ to = same_Some x to (sym across ∙ ap f.across start ∙ cable) in
        subst (λ y. Crossed f seat has_all from y) end (subst (λ y. Crossed f seat has_all y x) start crossed)

    -- or on from there
    went_on : leads_on f seat r.v from.port ≡ true → Crossed f seat has_all from to
    went_on leads = elim (answer.1 to over leads) [ inl k ↦ absurd (none _ k) | inr k ↦ subst (λ y. Crossed f seat has_all y to) here k ]

    of_switch : is_switch r.v.kind ≡ true → Crossed f seat has_all from to
    of_switch switch = by_port (from.port == r.v.arrival) refl
      where
        no_origin : IsOrigin f seat r.v → ⊥
        no_origin origin =
            let named : r.v.guid ≡ at_seat.guid = origin.0 ∙ guid_is f (record { there = seat_there; named = refl }) seat in
            let nodes = same_node f can.distinct r.covers.has (record { there = seat_there; named = sym named }) in
            let kind : r.v.kind ≡ at_seat.kind = r.covers.kind ∙ ap (λ (n : fabric.Node). n.kind) nodes.1 in
            cc (sym switch ∙ ap is_switch kind ∙ can.adapter at_seat seat_there)

        on : (from.port == r.v.arrival) ≡ false → leads_on f seat r.v from.port ≡ true
        on e =
            let first : (from.port == 0) ≡ false = not_zero (from.port == 0) refl in
            ap (λ b. (is_start r.v.path && from.port == seat.port) || (b && (not (from.port == 0) && not (from.port == r.v.arrival)))) switch
            ∙ (λ j. (is_start r.v.path && from.port == seat.port) || (true && (not (first j) && not (e j))))
            ∙ or-true (is_start r.v.path && from.port == seat.port)
          where
            not_zero : (b : Bool) → (from.port == 0) ≡ b → b ≡ false
            not_zero true h = let same : from.port ≡ 0 = eqb-true from.port 0 h in absurd (omega (arith, low, same))
            not_zero false h = refl

        by_port : (b : Bool) → (from.port == r.v.arrival) ≡ b → Crossed f seat has_all from to
        by_port true e = elim r.covers.came [
          | inl origin ↦ absurd (no_origin origin)
          | inr came ↦ came_over came.0 came.1 came.2 (sym (eqb-true from.port r.v.arrival e))
        ]
        by_port false e = went_on (on e)

    of_adapter : is_switch r.v.kind ≡ false → Crossed f seat has_all from to
    of_adapter adapter = elim r.covers.came [
      | inl origin ↦ went_on (from_origin origin)
      | inr came ↦ came_over came.0 came.1 came.2 (sym (sym mine ∙ r.covers.port ∙ ap (λ b. cond b 0 r.v.arrival) adapter))
    ]
      where
        mine : r.v.port ≡ from.port
        mine = port_is ∙ ap (λ b. cond b 0 from.port) adapter

        from_origin : IsOrigin f seat r.v → leads_on f seat r.v from.port ≡ true
        from_origin origin =
            (λ j. (is_start (origin.2 j) && (sym mine ∙ origin.1) j == seat.port)
            || (is_switch r.v.kind && (not (from.port == 0) && not (from.port == r.v.arrival))))
            ∙ ap (λ b. b || (is_switch r.v.kind && (not (from.port == 0) && not (from.port == r.v.arrival)))) (eq-eqb seat.port seat.port refl)

    pub crossed : Crossed f seat has_all from to
    crossed = by_kind (is_switch r.v.kind) refl
      where
        by_kind : (b : Bool) → is_switch r.v.kind ≡ b → Crossed f seat has_all from to
        by_kind true e = of_switch e
        by_kind false e = of_adapter e
