-- What a sweep has covered stays so when it takes a reply of NodeInfo.
use Rattle.std.proofs.Common.{◌≡◌, ◌⊎◌, inl, inr, ℕ, Bool, true, false, cond, ◌||◌, List, [], ◌++◌, refl, sym, ap, ◌∙◌, subst}
use Rattle.std.proofs.lemmas.Bool.{cond_both, or_parts}
use Rattle.std.proofs.lemmas.Option.{same_Some}
use Rattle.std.specs.Prelude.{Option, Some, None, find, is_some}
use Rattle.std.specs.List.{AllByRecursion}
use Rattle.fabric_model.specs.declared.cable.NodePort.{NodePort}
use Rattle.smp_bytes.specs.declared.node_type.NodeType.{NodeType}
use Rattle.smp_bytes.specs.NodeType.{is_switch}
use Rattle.fabric_model.specs.Fabric as fabric
use Rattle.fabric_model.specs.Fabric.{Fabric, IsNodeAt, is_switch_at}
use Rattle.fabric_model.specs.FabricWalks.{vertex_of, IsJoinedTo}
use Rattle.fabric_model.specs.DirectedWalk.{directed_end}
use Rattle.fabric_model.proofs.FabricWalks.{port_at, type_at, vertex_node}
use Rattle.attr_codec.specs.declared.node_info.NodeInfo.{NodeInfo}
use Rattle.attr_codec.specs.NodeTypeNumber.{type_of_number}
use Rattle.reply_facts.specs.declared.key.Key.{Key}
use Rattle.reply_facts.specs.declared.key.Key.TheVariants.{Node, PortGuid, Link}
use Rattle.reply_facts.specs.declared.report.Context.{Context}
use Rattle.reply_facts.specs.declared.report.Context.TheVariants.{Start, Via, About}
use Rattle.reply_facts.specs.Report.{Sightings, guid_port, sightings_of_link, sightings_of_kind}
use Rattle.fabric_sim.specs.ToldOfEnd.{SaysNode}
use Rattle.sweep.specs.declared.question.Question.TheVariants as ask
use Rattle.sweep.specs.declared.request.Request.{Request}
use Rattle.sweep.specs.declared.vertex.Vertex.{Vertex}
use Rattle.sweep.specs.Order.{placed}
use Rattle.sweep.specs.Sweep.{Sweep, Asking, asking, vertex_at, first_vertex, vertex_key}
use Rattle.sweep.specs.Finding as finding
use Rattle.sweep.specs.Finding.{found_anew, node_found_of, with_finding}
use Rattle.sweep.specs.Questions.{vertex_questions}
use Rattle.manager_laws.specs.Truth.{HasNode}
use Rattle.manager_laws.proofs.Ends.{end_before}
use Rattle.manager_laws.proofs.Sound.{Asks, CanBeSwept, GoesBy, IsSoundSweep}
use Rattle.manager_laws.proofs.TrueFacts.{IsCabled}
use Rattle.manager_laws.proofs.Asked.{asking_of}
use Rattle.manager_laws.proofs.Covered.{Having, having, about, guid_at, IsReached, IsOrigin, CameFrom, Covers}
use Rattle.manager_laws.proofs.Covered.{LeavesBy, IsRooted, IsJoinedSighting, Covered, Grows, covers_on}
use Rattle.manager_laws.proofs.Known.{HasKey, same_node}
use Rattle.manager_laws.proofs.Lists.{Has, has_left, has_right, has_as, all_as}
use Rattle.manager_laws.proofs.PortReplies.{same_question, same_context}
use Rattle.manager_laws.proofs.Taken.{switch_asked, ports_asked, vertex_all, guid_is, vertex_is, seat_adapter, seat_vertex, next_joined, is_rooted, some_left}
use Rattle.manager_laws.proofs.Taken.{first_covers, pending_after, new_pending, ended, having_after, covered_after, all_stay, start_stays}
use Rattle.manager_laws.proofs.Vertices.{IsNew, placed_all, placed_keeps, placed_there, first_none, first_stays, first_new, at_has, at_none, first_has}

module _ {f : Fabric} {seat : NodePort} (can : CanBeSwept f seat) (s : Sweep) (told : Sightings) (c : Covered f seat s told) (sound : IsSoundSweep f seat s)
    (r : Request) (t : Request → Bool) (found : find t s.outstanding ≡ Some r) (generation : ℕ) (cabled : IsCabled f) (end : NodePort) (node : fabric.Node)
    (leads : directed_end f seat r.path ≡ Some end) (there : IsNodeAt f end.node node) (info : NodeInfo) (says : SaysNode node end.port info) (kind : NodeType)
    (kind_is : kind ≡ node.kind) (question : r.question ≡ ask.Node) (context : Context) (context_is : r.context ≡ context)
    (asks : Asks f seat r.path ask.Node context) where
  has : HasNode f info.node_guid end.node node
  has = record { there = there; named = sym says.guid }

  abbrev node_told : Sightings
  node_told = sightings_of_kind generation context info (Some kind)

  -- where the request came from ------------------------------------------------------------------------------

  -- at the seat
  module _ (start : context ≡ Start) where
    at_seat : end ≡ seat
    at_seat =
        let none : r.path ≡ [] = subst (Asks f seat r.path ask.Node) start asks in
        same_Some _ _ (sym leads ∙ ap (directed_end f seat) none)

  -- over a cable
  module _ (guid p : ℕ) (via : context ≡ Via guid p) where
    by : GoesBy f seat r.path guid p
    by = subst (Asks f seat r.path ask.Node) via asks

    cable : f.across (port_at by.to.end.node p) ≡ Some end
    unfolding by
    cable = end_before f seat by.front p by.to.end end by.to.leads (ap (directed_end f seat) (sym by.is) ∙ leads)

    left : LeavesBy f seat s.reached guid p
    left = subst (IsRooted f seat s.reached) (context_is ∙ via) (is_rooted can s told c sound r t found)

    left_there : left.id ≡ by.to.end.node
    left_there = (same_node f can.distinct left.has by.to.has).0

  joined_end : IsJoinedTo f seat (vertex_of f end)
  joined_end = by_context context refl
    where
      by_context : (x : Context) → context ≡ x → IsJoinedTo f seat (vertex_of f end)
      by_context Start e = subst (λ q. IsJoinedTo f seat (vertex_of f q)) (sym (at_seat e)) (0, sym (seat_vertex can))
      by_context (Via guid p) e =
          next_joined can (port_at (left guid p e).id p) end (left guid p e).leaves (ap (λ k. f.across (port_at k p)) (left_there guid p e) ∙ cable guid p e)
      by_context (About guid) e = absurd (subst (Asks f seat r.path ask.Node) e asks)

  end_is : vertex_of f end ≡ port_at end.node (guid_port kind info.local_port_num)
  end_is = vertex_is f end node there ∙ (λ j. port_at end.node (guid_port (sym kind_is j) (sym says.local_port j)))

  told_joined : AllByRecursion (IsJoinedSighting f seat) node_told
  told_joined = (
    λ switch. record {
      id = end.node;
      node = node;
      has = has;
      joined = subst (IsJoinedTo f seat) (end_is ∙ ap (λ b. port_at end.node (cond b 0 info.local_port_num)) switch) joined_end;
    },
    (record { id = end.node; node = node; has = has; joined = subst (IsJoinedTo f seat) end_is joined_end }, links_joined context),
  )
    where
      links_joined : (x : Context) → AllByRecursion (IsJoinedSighting f seat) (sightings_of_link generation x info)
      links_joined Start = tt
      links_joined (Via guid p) = (tt, (tt, tt))
      links_joined (About guid) = tt

  -- the facts that are told
  node_key : HasKey node_told (Node info.node_guid)
  node_key = inl refl

  guid_key : HasKey node_told (PortGuid info.node_guid (guid_port kind info.local_port_num))
  guid_key = inr (inl refl)

  link_here : (guid p : ℕ) → context ≡ Via guid p → HasKey node_told (Link info.node_guid info.local_port_num)
  link_here guid p via = inr (inr (subst (λ x. HasKey (sightings_of_link generation x info) (Link info.node_guid info.local_port_num)) (sym via) (inl refl)))

  link_there : (guid p : ℕ) → context ≡ Via guid p → HasKey node_told (Link guid p)
  link_there guid p via = inr (inr (subst (λ x. HasKey (sightings_of_link generation x info) (Link guid p)) (sym via) (inr (inl refl))))

  -- the vertex that answered from the seat
  is_origin : (v : Vertex) → v.guid ≡ info.node_guid → v.port ≡ guid_port kind info.local_port_num → v.path ≡ r.path → context ≡ Start → IsOrigin f seat v
  is_origin v guid_same port_same path e =
      let here = at_seat e in
      let none : r.path ≡ [] = subst (Asks f seat r.path ask.Node) e asks in
      let adapter : is_switch kind ≡ false =
      ap is_switch kind_is ∙ sym (type_at f end.node node there) ∙ ap (λ (q : NodePort). is_switch_at f q.node) here ∙ seat_adapter can in (
        guid_same ∙ sym (guid_is f has seat) ∙ ap (λ (q : NodePort). guid_at f seat q.node) here,
        port_same ∙ ap (λ b. cond b 0 info.local_port_num) adapter ∙ says.local_port ∙ ap (λ (q : NodePort). q.port) here,
        path ∙ none,
      )

  -- with more vertices or as many ---------------------------------------------------------------------------------

  module _ (asked : List Asking) (reached : List Vertex) (keeps : (P : Vertex → Type 0) → Has P s.reached → Has P reached) where
    abbrev new : Having
    new = having_after can s told c sound r t found asked reached (told ++ node_told)

    newly : (key : Key) → HasKey node_told key → HasKey (told ++ node_told) key
    newly key h = has_right (λ x. x.0 ≡ key) told node_told h

    node_grows : IsReached f seat reached (vertex_of f end)
        → ((v : Vertex) → is_switch v.kind ≡ true → first_vertex s.reached v.guid ≡ Some v → first_vertex reached v.guid ≡ Some v)
        → Grows f seat (having s told) new (asking_of r)
    node_grows end_reached first =
        record {
          pending = pending_after can s told c sound r t found asked;
          reached = keeps;
          told = λ key h. has_left (λ x. x.0 ≡ key) told node_told h;
          first = first;
          switch = λ v e. let clash : ask.Node ≡ ask.Switch = sym question ∙ same_question e in absurd (cc);
          port = λ v covers p e. let clash : ask.Node ≡ ask.Port p = sym question ∙ same_question e in absurd (cc);
          node = λ path guid id p n far there_is e over.
              let via : context ≡ Via guid p = sym context_is ∙ same_context e in
              let id_is : id ≡ (by guid p via).to.end.node = (same_node f can.distinct there_is (by guid p via).to.has).0 in
              let far_is : far ≡ end = same_Some far end (sym over ∙ ap (λ k. f.across (port_at k p)) id_is ∙ cable guid p via) in
              record {
                there = newly _ (subst (λ g. HasKey node_told (Link g p)) (sym (guid_is f there_is seat)) (link_there guid p via));
                back = newly _ (subst (HasKey node_told) (link_is far far_is) (link_here guid p via));
                end = subst (λ q. IsReached f seat reached (vertex_of f q)) (sym far_is) end_reached;
              };
        }
      where
        link_is : (far : NodePort) → far ≡ end → Link info.node_guid info.local_port_num ≡ Link (guid_at f seat far.node) far.port
        link_is far e = λ j. Link ((sym (guid_is f has seat) ∙ ap (λ (q : NodePort). guid_at f seat q.node) (sym e)) j)
            ((says.local_port ∙ ap (λ (q : NodePort). q.port) (sym e)) j)

    -- the vertex that answered came from the seat, or over the cable
    came_from : (v : Vertex) → v.guid ≡ info.node_guid → v.port ≡ guid_port kind info.local_port_num → v.arrival ≡ info.local_port_num → v.path ≡ r.path
        → IsOrigin f seat v ⊎ CameFrom f seat new end.node v
    came_from v guid_same port_same arrival path = by_context context refl
      where
        by_context : (x : Context) → context ≡ x → IsOrigin f seat v ⊎ CameFrom f seat new end.node v
        by_context Start e = inl (is_origin v guid_same port_same path e)
        by_context (Via guid p) e =
            let port : v.arrival ≡ end.port = arrival ∙ says.local_port in
            inr (
              port_at (by guid p e).to.end.node p,
              ap (λ k. f.across (port_at end.node k)) port ∙ cabled.back (port_at (by guid p e).to.end.node p) end (cable guid p e),
              record {
                there = newly _ (subst (HasKey node_told) (λ j. Link (sym (guid_is f has seat) j) (sym arrival j)) (link_here guid p e));
                back = newly _ (subst (λ g. HasKey node_told (Link g p)) (sym (guid_is f (by guid p e).to.has seat)) (link_there guid p e));
                end = keeps _ (subst (λ k. IsReached f seat s.reached (vertex_of f (port_at k p))) (left_there guid p e) (left guid p e).from);
              },
            )
        by_context (About guid) e = absurd (subst (Asks f seat r.path ask.Node) e asks)

  -- a vertex that was reached before -------------------------------------------------------------------------------------

  known_before : IsReached f seat s.reached (vertex_of f end) → (states : _) (too_far : ℕ)
      → Covered f seat (record (asking (ended can s told c sound r t found) []) { reached = s.reached; states = states; too_far = too_far }) (told ++ node_told)
  known_before end_reached states too_far =
      let g = node_grows [] s.reached (λ P h. h) end_reached (λ v switch e. e) in
      covered_after can s told c sound r t found [] s.reached states too_far node_told g tt
      (all_stay can s told c sound r t found [] node_told g) told_joined
      (inr (start_stays can s told c sound r t found (λ none. subst (λ (l : List Vertex). IsReached f seat l (vertex_of f end)) none end_reached)))

  -- a new one ---------------------------------------------------------------------------------------------------------------

  module _ (k : NodeType) (n : ℕ) (k_is : k ≡ kind) (n_is : n ≡ node.ports) where
    abbrev vertex : Vertex
    vertex = finding.vertex_of r.path info k n

    new_vertex : IsNew (finding.vertex_of r.path info k n) s.reached
        → ((u : Vertex) → is_switch u.kind ≡ true → first_vertex s.reached u.guid ≡ Some u → info.node_guid ≡ u.guid → ⊥)
        → (is_switch k ≡ true → first_vertex (placed vertex_key (finding.vertex_of r.path info k n) s.reached) info.node_guid
        ≡ Some (finding.vertex_of r.path info k n))
        → (states : _) (too_far : ℕ)
        → Covered f seat (record (asking (ended can s told c sound r t found) (vertex_questions (finding.vertex_of r.path info k n)))
        { reached = placed vertex_key (finding.vertex_of r.path info k n) s.reached; states = states; too_far = too_far }) (told ++ node_told)
    new_vertex is_new apart only states too_far =
        covered_after can s told c sound r t found (vertex_questions vertex) (placed vertex_key vertex s.reached) states too_far node_told g
        (vertex_all (λ (a : Asking). IsRooted f seat (placed vertex_key vertex s.reached) a.context) vertex
        (λ q. placed_there (λ v. v.guid ≡ info.node_guid) vertex s.reached is_new refl))
        (placed_all (Covers f seat (new (vertex_questions vertex) (placed vertex_key vertex s.reached) keeps)) vertex s.reached covers
        (all_as (Covers f seat (having s told)) (Covers f seat (new (vertex_questions vertex) (placed vertex_key vertex s.reached) keeps))
        (covers_on f seat g) s.reached c.vertices))
        told_joined (inr start)
      where
        keeps : (P : Vertex → Type 0) → Has P s.reached → Has P (placed vertex_key vertex s.reached)
        keeps P h = placed_keeps P vertex s.reached h

        port_same : guid_port k info.local_port_num ≡ guid_port kind info.local_port_num
        port_same = ap (λ x. guid_port x info.local_port_num) k_is

        end_reached : IsReached f seat (placed vertex_key vertex s.reached) (vertex_of f end)
        end_reached =
            placed_there (λ v. (v.guid ≡ guid_at f seat (vertex_of f end).node) × (v.port ≡ (vertex_of f end).port)) vertex s.reached is_new
            (sym (guid_is f has seat) ∙ ap (guid_at f seat) (sym (vertex_node f end)), port_same ∙ ap (λ (q : NodePort). q.port) (sym end_is))

        g : Grows f seat (having s told) (new (vertex_questions vertex) (placed vertex_key vertex s.reached) keeps) (asking_of r)
        g =
            node_grows (vertex_questions vertex) (placed vertex_key vertex s.reached) keeps end_reached
            (λ v switch e. first_stays vertex s.reached v.guid (apart v switch e) ∙ e)

        covers : Covers f seat (new (vertex_questions vertex) (placed vertex_key vertex s.reached) keeps) vertex
        covers =
            record {
              id = end.node;
              node = node;
              has = has;
              kind = k_is ∙ kind_is;
              ports = n_is;
              port = refl;
              leads = leads ∙ ap (λ p. Some (port_at end.node p)) (sym says.local_port);
              joined = subst (IsJoinedTo f seat) (end_is ∙ ap (port_at end.node) (sym port_same)) joined_end;
              node_told = newly (vertex_questions vertex) (placed vertex_key vertex s.reached) keeps _ node_key;
              guid_told = newly (vertex_questions vertex) (placed vertex_key vertex s.reached) keeps _
                  (subst (λ p. HasKey node_told (PortGuid info.node_guid p)) (sym port_same) guid_key);
              only = only;
              came = came_from (vertex_questions vertex) (placed vertex_key vertex s.reached) keeps vertex refl port_same refl refl;
              switch = λ is. inl (new_pending can s told c sound r t found (vertex_questions vertex) (about vertex ask.Switch) (switch_asked vertex is));
              its_ports = λ p its. inl (new_pending can s told c sound r t found (vertex_questions vertex) (about vertex (ask.Port p))
                  (ports_asked vertex p its));
            }

        begins : s.reached ≡ [] → (x : Context) → context ≡ x → Has (IsOrigin f seat) (placed vertex_key vertex s.reached)
        begins none Start e = placed_there (IsOrigin f seat) vertex s.reached is_new (is_origin vertex refl port_same refl e)
        begins none (Via guid p) e = absurd (some_left can s told c sound r t found guid p (context_is ∙ e) none)
        begins none (About guid) e = absurd (subst (Asks f seat r.path ask.Node) e asks)

        start : Has (IsOrigin f seat) (placed vertex_key vertex s.reached)
        start = elim c.start [ inl none ↦ begins none.1 context refl | inr origin ↦ keeps (IsOrigin f seat) origin ]

  -- any -----------------------------------------------------------------------------------------------------------------------

  -- where the node is known
  module _ (first : Vertex) (e : first_vertex s.reached info.node_guid ≡ Some first) where
    covers_first : Covers f seat (having s told) first × (first.guid ≡ info.node_guid)
    covers_first = first_covers can s told c sound r t found info.node_guid first e

    nodes : (covers_first.0.id ≡ end.node) × (covers_first.0.node ≡ node)
    nodes =
        same_node f can.distinct
        (record { there = covers_first.0.has.there; named = covers_first.0.has.named ∙ covers_first.1 }) has

    first_kind : first.kind ≡ kind
    first_kind = covers_first.0.kind ∙ ap (λ (x : fabric.Node). x.kind) nodes.1 ∙ sym kind_is

    first_ports : first.ports ≡ node.ports
    first_ports = covers_first.0.ports ∙ ap (λ (x : fabric.Node). x.ports) nodes.1

    reached_as : (p : ℕ) → guid_port kind info.local_port_num ≡ p → Has (λ (v : Vertex). (v.guid ≡ info.node_guid) × (v.port ≡ p)) s.reached
        → IsReached f seat s.reached (vertex_of f end)
    reached_as p port h =
        has_as (λ (v : Vertex). (v.guid ≡ info.node_guid) × (v.port ≡ p))
        (λ (v : Vertex). (v.guid ≡ guid_at f seat (vertex_of f end).node) × (v.port ≡ (vertex_of f end).port))
        (λ v is. (
          is.0 ∙ sym (guid_is f has seat) ∙ ap (guid_at f seat) (sym (vertex_node f end)),
          is.1 ∙ sym port ∙ ap (λ (q : NodePort). q.port) (sym end_is),
        )) s.reached h

    end_before_reached : (b : Bool) → is_switch first.kind ≡ b → (o : Option Vertex) → vertex_at s.reached info.node_guid info.local_port_num ≡ o
        → (b || is_some o) ≡ true → IsReached f seat s.reached (vertex_of f end)
    end_before_reached true switch o at is =
        reached_as 0 (ap (λ x. cond x 0 info.local_port_num) (ap is_switch (sym first_kind) ∙ switch))
        (has_as (λ u. u ≡ first) (λ (v : Vertex). (v.guid ≡ info.node_guid) × (v.port ≡ 0))
        (λ v same. (
          ap (λ (x : Vertex). x.guid) same ∙ covers_first.1,
          ap (λ (x : Vertex). x.port) same ∙ covers_first.0.port ∙ ap (λ x. cond x 0 first.arrival) switch,
        )) s.reached (first_has s.reached info.node_guid first e).0)
    end_before_reached false adapter (Some u) at is =
        reached_as info.local_port_num (ap (λ x. cond x 0 info.local_port_num) (ap is_switch (sym first_kind) ∙ adapter))
        (at_has s.reached info.node_guid info.local_port_num u at)
    end_before_reached false adapter None at is = cc

    new_port : is_switch first.kind ≡ false → vertex_at s.reached info.node_guid info.local_port_num ≡ None → (states : _) (too_far : ℕ)
        → Covered f seat (record (asking (ended can s told c sound r t found) (vertex_questions (finding.vertex_of r.path info first.kind first.ports)))
        { reached = placed vertex_key (finding.vertex_of r.path info first.kind first.ports) s.reached; states = states; too_far = too_far })
        (told ++ node_told)
    new_port adapter none states too_far =
        new_vertex first.kind first.ports first_kind first_ports
        (all_as (λ (y : Vertex). y.guid ≡ info.node_guid → y.port ≡ info.local_port_num → ⊥)
        (λ (y : Vertex). y.guid ≡ info.node_guid → y.port ≡ guid_port first.kind info.local_port_num → ⊥)
        (λ y other guid port. other guid (port ∙ ap (λ x. cond x 0 info.local_port_num) adapter)) s.reached
        (at_none s.reached info.node_guid info.local_port_num none))
        (λ u switch only same.
        let is : u ≡ first = same_Some u first (sym only ∙ ap (first_vertex s.reached) (sym same) ∙ e) in
        absurd (cc (sym (ap (λ (x : Vertex). is_switch x.kind) (sym is) ∙ switch) ∙ adapter)))
        (λ switch. absurd (cc (sym switch ∙ adapter))) states too_far

  pub node_covered : (m : Option Vertex) → first_vertex s.reached info.node_guid ≡ m → type_of_number info.node_type ≡ Some kind
      → Covered f seat (with_finding (ended can s told c sound r t found) r.path (node_found_of s r.path info m)) (told ++ node_told)
  node_covered None e type_is = by_type (type_of_number info.node_type) type_is
    where
      none : AllByRecursion (λ (y : Vertex). y.guid ≡ info.node_guid → ⊥) s.reached
      none = first_none s.reached info.node_guid e

      by_type : (o : Option NodeType) → o ≡ Some kind
          → Covered f seat (with_finding (ended can s told c sound r t found) r.path (found_anew r.path info o)) (told ++ node_told)
      by_type None h = cc
      by_type (Some k) h =
          new_vertex k info.num_ports (same_Some k kind h) says.ports
          (all_as (λ (y : Vertex). y.guid ≡ info.node_guid → ⊥) (λ (y : Vertex). y.guid ≡ info.node_guid → y.port ≡ guid_port k info.local_port_num → ⊥)
          (λ y other guid port. other guid) s.reached none)
          (λ u switch only same. absurd (cc (sym only ∙ ap (first_vertex s.reached) (sym same) ∙ e)))
          (λ switch. first_new (finding.vertex_of r.path info k info.num_ports) s.reached none) _ _
  node_covered (Some first) e type_is =
      cond_both (is_switch first.kind || is_some (vertex_at s.reached info.node_guid info.local_port_num)) _ _
      (λ o. Covered f seat (with_finding (ended can s told c sound r t found) r.path o) (told ++ node_told))
      (λ is. known_before
      (end_before_reached first e (is_switch first.kind) refl (vertex_at s.reached info.node_guid info.local_port_num) refl is) _ _)
      (λ no. let parts = or_parts (is_switch first.kind) (is_some (vertex_at s.reached info.node_guid info.local_port_num)) no in
      new_port first e parts.0 (not_some (vertex_at s.reached info.node_guid info.local_port_num) parts.1) _ _)
    where
      not_some : (o : Option Vertex) → is_some o ≡ false → o ≡ None
      not_some None h = refl
      not_some (Some u) h = cc
