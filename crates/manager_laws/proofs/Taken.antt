-- What a sweep has covered, when it takes the reply to one of its requests: what is there still, and what is new.
use Rattle.std.proofs.Common.{◌≡◌, ◌⊎◌, inl, inr, ℕ, suc, ◌+◌, ◌≤◌, Bool, true, false, cond, not, ◌&&◌, ◌||◌}
use Rattle.std.proofs.Common.{List, [], ◌∷◌, ◌++◌, refl, sym, ap, ◌∙◌, subst, arith, append_assoc}
use Rattle.std.proofs.lemmas.Bool.{and_parts, eqb-true, or_cases}
use Rattle.std.proofs.lemmas.Option.{same_Some}
use Rattle.std.specs.Prelude.{Option, Some, None, slice_get, find, MatchBool, ◌==◌}
use Rattle.std.specs.Option.{option_map_or}
use Rattle.std.specs.List.{AllByRecursion}
use Rattle.fabric_model.specs.declared.cable.NodePort.{NodePort}
use Rattle.fabric_model.specs.Cables.{is_same_port}
use Rattle.smp_bytes.specs.NodeType.{is_switch}
use Rattle.fabric_model.specs.Fabric as fabric
use Rattle.fabric_model.specs.Fabric.{Fabric, IsNodeAt, is_switch_at}
use Rattle.fabric_model.specs.FabricWalks.{vertex_of, IsJoinedTo, IsWire}
use Rattle.fabric_model.specs.DirectedWalk.{directed_end}
use Rattle.fabric_model.proofs.Cabled.{same_port-is, same_port-refl}
use Rattle.fabric_model.proofs.FabricWalks.{port_at, type_at, vertex_node, switch_vertex, adapter_vertex, walk_further}
use Rattle.reply_facts.specs.declared.report.Context.TheVariants.{Via, About}
use Rattle.reply_facts.specs.Report.{Sightings, guid_port}
use Rattle.sweep.specs.declared.question.Question.{Question}
use Rattle.sweep.specs.declared.question.Question.TheVariants as ask
use Rattle.sweep.specs.declared.request.Request.{Request}
use Rattle.sweep.specs.declared.vertex.Vertex.{Vertex}
use Rattle.sweep.specs.Sweep.{Sweep, Asking, asking, first_question, numbered, without_number, first_vertex}
use Rattle.sweep.specs.Finding.{goes_by, is_start, is_way_on}
use Rattle.sweep.specs.Questions.{port_questions, vertex_questions}
use Rattle.manager_laws.specs.Truth.{HasNode}
use Rattle.manager_laws.proofs.Sound.{CanBeSwept, LeadsTo, IsSoundSweep}
use Rattle.manager_laws.proofs.Asked.{asking_of, IsPending, numbered_pending, numbered_all, port_asked, ports_all, only_one, ended_or_pending, rising_on}
use Rattle.manager_laws.proofs.Covered.{Having, having, about, IsItsPort, guid_at, IsReached, leads_on, IsOrigin, Covers, Leaves}
use Rattle.manager_laws.proofs.Covered.{LeavesBy, IsRooted, IsJoinedSighting, Covered, Grows, covers_on, rooted_on}
use Rattle.manager_laws.proofs.Known.{same_node}
use Rattle.manager_laws.proofs.Lists.{Has, has_left, has_right, has_as, has_with, all_append, all_first, all_last, all_as, all_filter, found_has}
use Rattle.manager_laws.proofs.Vertices.{first_has}

-- what is asked of a vertex ---------------------------------------------------------------------------

pub switch_asked : (v : Vertex) → is_switch v.kind ≡ true → Has (λ b. b ≡ about v ask.Switch) (vertex_questions v)
switch_asked v is = by_kind (is_switch v.kind) is
  where
    rest : List Asking
    rest = port_questions 0 (v.ports + 1) v.path (About v.guid)

    by_kind : (b : Bool) → b ≡ true → Has (λ x. x ≡ about v ask.Switch) (cond b (about v ask.Switch ∷ rest) (about v (ask.Port v.port) ∷ []))
    by_kind true e = inl refl
    by_kind false e = cc

pub ports_asked : (v : Vertex) (p : ℕ) → IsItsPort v p → Has (λ b. b ≡ about v (ask.Port p)) (vertex_questions v)
ports_asked v p its = by_kind (is_switch v.kind) its
  where
    by_kind : (b : Bool) → MatchBool b (p ≤ v.ports) (p ≡ v.port)
        → Has (λ x. x ≡ about v (ask.Port p))
        (cond b (about v ask.Switch ∷ port_questions 0 (v.ports + 1) v.path (About v.guid)) (about v (ask.Port v.port) ∷ []))
    by_kind true most = inr (port_asked 0 (v.ports + 1) p v.path (About v.guid) (omega arith) (omega (arith, most)))
    by_kind false same = inl (ap (λ n. about v (ask.Port n)) (sym same))

pub vertex_all : (P : Asking → Type 0) (v : Vertex) → ((q : Question) → P (about v q)) → AllByRecursion P (vertex_questions v)
vertex_all P v f = by_kind (is_switch v.kind)
  where
    by_kind : (b : Bool)
        → AllByRecursion P (cond b (about v ask.Switch ∷ port_questions 0 (v.ports + 1) v.path (About v.guid)) (about v (ask.Port v.port) ∷ []))
    by_kind true = (f ask.Switch, ports_all P 0 (v.ports + 1) v.path (About v.guid) (λ m. f (ask.Port m)))
    by_kind false = (f (ask.Port v.port), tt)

-- ids ------------------------------------------------------------------------------------------------

module _ (f : Fabric) where
  pub guid_is : {guid id : ℕ} {node : fabric.Node} → HasNode f guid id node → (seat : NodePort) → guid_at f seat id ≡ guid
  guid_is has seat = ap (λ o. option_map_or (λ (n : fabric.Node). n.guid) o 0) has.there ∙ has.named

  pub vertex_is : (p : NodePort) (node : fabric.Node) → IsNodeAt f p.node node → vertex_of f p ≡ port_at p.node (guid_port node.kind p.port)
  vertex_is p node there = ap (λ b. cond b (port_at p.node 0) p) (type_at f p.node node there) ∙ by_kind (is_switch node.kind)
    where
      by_kind : (b : Bool) → cond b (port_at p.node 0) p ≡ port_at p.node (cond b 0 p.port)
      by_kind true = refl
      by_kind false = refl

module _ {f : Fabric} {seat : NodePort} (can : CanBeSwept f seat) where
  pub seat_adapter : is_switch_at f seat.node ≡ false
  seat_adapter = by_node (slice_get f.nodes seat.node) refl
    where
      by_node : (m : Option fabric.Node) → slice_get f.nodes seat.node ≡ m → option_map_or (λ (n : fabric.Node). is_switch n.kind) m false ≡ false
      by_node None e = refl
      by_node (Some node) e = can.adapter node e

  pub seat_vertex : vertex_of f seat ≡ seat
  seat_vertex = adapter_vertex f seat seat_adapter

  -- beyond a port that the sweep leaves by, the vertex is joined too
  pub next_joined : (p end : NodePort) → Leaves f seat p → f.across p ≡ Some end → IsJoinedTo f seat (vertex_of f end)
  next_joined p end leaves cable = by_test (is_same_port p end) refl
    where
      over : IsWire f p end → IsJoinedTo f seat (vertex_of f end)
      over wire = elim leaves.1 [
        | inl is ↦ (
          1,
          (
            vertex_of f end,
            record { out = p; into = end; wire = wire; of_one = ap (vertex_of f) is ∙ seat_vertex; of_other = refl },
            inl refl,
            refl,
          ),
        )
        | inr switch ↦ (
          suc leaves.0.0,
          walk_further f leaves.0.0 seat (vertex_of f p) (vertex_of f end) leaves.0.1 (inr (ap (is_switch_at f) (vertex_node f p) ∙ switch))
              (record { out = p; into = end; wire = wire; of_one = refl; of_other = refl }),
        )
      ]

      by_test : (b : Bool) → is_same_port p end ≡ b → IsJoinedTo f seat (vertex_of f end)
      by_test true e = subst (λ q. IsJoinedTo f seat (vertex_of f q)) (same_port-is p end e) leaves.0
      by_test false e =
          over (record {
            cable = cable;
            different = λ same. let alike : is_same_port p end ≡ true = ap (λ q. is_same_port p q) (sym same) ∙ same_port-refl p in absurd (cc (sym alike ∙ e));
          })

  -- a request that ended ----------------------------------------------------------------------------------

  module _ (s : Sweep) (told : Sightings) (c : Covered f seat s told) (sound : IsSoundSweep f seat s) (r : Request) (t : Request → Bool)
      (found : find t s.outstanding ≡ Some r) where
    pub is_rooted : IsRooted f seat s.reached r.context
    is_rooted =
        has_with (λ (x : Request). IsRooted f seat s.reached x.context) (λ x. x ≡ r) s.outstanding
        (all_first (λ (x : Request). IsRooted f seat s.reached x.context) s.outstanding s.queued c.rooted) (found_has t s.outstanding r found).0
        (λ x is same. subst (λ (y : Request). IsRooted f seat s.reached y.context) same is)

    -- what speaks of a node has reached it
    pub some_reached : (guid : ℕ) → r.context ≡ About guid → s.reached ≡ [] → ⊥
    some_reached guid context none = subst (λ (l : List Vertex). IsRooted f seat l (About guid)) none (subst (IsRooted f seat s.reached) context is_rooted)

    pub some_left : (guid port : ℕ) → r.context ≡ Via guid port → s.reached ≡ [] → ⊥
    some_left guid port context none = (subst (λ (l : List Vertex). IsRooted f seat l (Via guid port)) none
        (subst (IsRooted f seat s.reached) context is_rooted)).from

    pub first_covers : (guid : ℕ) (v : Vertex) → first_vertex s.reached guid ≡ Some v → Covers f seat (having s told) v × (v.guid ≡ guid)
    first_covers guid v e =
        let first = first_has s.reached guid v e in (
          has_with (Covers f seat (having s told)) (λ u. u ≡ v) s.reached c.vertices first.0 (λ u is same. subst (Covers f seat (having s told)) same is),
          first.1,
        )

    abbrev pub requests_after : List Asking → List Request
    requests_after asked = without_number r.number s.outstanding ++ (s.queued ++ numbered s.next asked)

    pub pending_after : (asked : List Asking) (a : Asking) → IsPending (s.outstanding ++ s.queued) a → (asking_of r ≡ a) ⊎ IsPending (requests_after asked) a
    pending_after asked a h =
        elim (ended_or_pending r s.outstanding s.queued a (only_one 0 s.outstanding s.queued s.next t r c.rising found) h) [
          | inl e ↦ inl e
          | inr k ↦ inr (subst (λ rs. IsPending rs a) (append_assoc (without_number r.number s.outstanding) s.queued (numbered s.next asked))
              (has_left (λ x. asking_of x ≡ a) (without_number r.number s.outstanding ++ s.queued) (numbered s.next asked) k))
        ]

    pub new_pending : (asked : List Asking) (a : Asking) → Has (λ b. b ≡ a) asked → IsPending (requests_after asked) a
    new_pending asked a h =
        has_right (λ x. asking_of x ≡ a) (without_number r.number s.outstanding) (s.queued ++ numbered s.next asked)
        (has_right (λ x. asking_of x ≡ a) s.queued (numbered s.next asked) (numbered_pending s.next asked a h))

    pub rooted_after : (new : Having) (asked : List Asking) → Grows f seat (having s told) new (asking_of r)
        → AllByRecursion (λ (a : Asking). IsRooted f seat new.reached a.context) asked
        → AllByRecursion (λ (x : Request). IsRooted f seat new.reached x.context) (requests_after asked)
    rooted_after new asked g more =
        let P : Request → Type 0 = λ x. IsRooted f seat new.reached x.context in
        let all : AllByRecursion P (s.outstanding ++ s.queued) =
        all_as (λ (x : Request). IsRooted f seat s.reached x.context) P (λ x is. rooted_on f seat g x.context is) (s.outstanding ++ s.queued) c.rooted in
        all_append P (without_number r.number s.outstanding) (s.queued ++ numbered s.next asked)
        (all_filter P (λ (x : Request). not (x.number == r.number)) s.outstanding (all_first P s.outstanding s.queued all))
        (all_append P s.queued (numbered s.next asked) (all_last P s.outstanding s.queued all)
        (numbered_all (λ (a : Asking). IsRooted f seat new.reached a.context) s.next asked more))

    -- which way on ----------------------------------------------------------------------------------------

    pub goes_same : (v : Vertex) (p : ℕ) → Covers f seat (having s told) v → goes_by s v.path v.guid p ≡ leads_on f seat v p
    goes_same v p covers =
        (λ j. (is_start v.path && p == sound.origin j) || is_way_on s v.guid p)
        ∙ ap (λ b. (is_start v.path && p == seat.port) || b) (by_kind (is_switch v.kind) refl)
      where
        by_first : is_switch v.kind ≡ false → (m : Option Vertex) → first_vertex s.reached v.guid ≡ m
            → option_map_or (λ (x : Vertex). is_switch x.kind && (not (p == 0) && not (p == x.arrival))) m false ≡ false
        by_first adapter None e = refl
        by_first adapter (Some x) e =
            let other = first_covers v.guid x e in
            let has : HasNode f v.guid other.0.id other.0.node = record { there = other.0.has.there; named = other.0.has.named ∙ other.1 } in
            let same = same_node f can.distinct has covers.has in
            let kind : x.kind ≡ v.kind = other.0.kind ∙ ap (λ (n : fabric.Node). n.kind) same.1 ∙ sym covers.kind in
            ap (λ b. b && (not (p == 0) && not (p == x.arrival))) (ap is_switch kind ∙ adapter)

        by_kind : (b : Bool) → is_switch v.kind ≡ b → is_way_on s v.guid p ≡ (is_switch v.kind && (not (p == 0) && not (p == v.arrival)))
        by_kind true e = ap (λ o. option_map_or (λ (x : Vertex). is_switch x.kind && (not (p == 0) && not (p == x.arrival))) o false) (covers.only e)
        by_kind false e = by_first e (first_vertex s.reached v.guid) refl ∙ sym (ap (λ b. b && (not (p == 0) && not (p == v.arrival))) e)

    -- the sweep leaves by a port that it goes by
    pub leaves_by : (guid p : ℕ) → r.context ≡ About guid → LeadsTo f seat r.path guid → goes_by s r.path guid p ≡ true → LeavesBy f seat s.reached guid p
    leaves_by guid p context to goes = elim (or_cases (is_start r.path && p == s.origin) (is_way_on s guid p) goes) [
      | inl starts ↦ from_seat (and_parts (is_start r.path) (p == s.origin) starts)
      | inr way ↦ from_switch (first_vertex s.reached guid) refl way
    ]
      where
        no_path : (path : List ℕ) → is_start path ≡ true → path ≡ []
        no_path [] e = refl
        no_path (x ∷ path) e = cc

        from_seat : (is_start r.path ≡ true) × ((p == s.origin) ≡ true) → LeavesBy f seat s.reached guid p
        from_seat starts =
            let none : r.path ≡ [] = no_path r.path starts.0 in
            let at_seat : to.end ≡ seat = same_Some _ _ (sym to.leads ∙ ap (directed_end f seat) none) in
            let port : p ≡ seat.port = eqb-true p s.origin starts.1 ∙ sound.origin in
            let here : port_at to.end.node p ≡ seat = λ j. port_at (at_seat j).node (port j) in
            let origin : Has (IsOrigin f seat) s.reached = elim c.start [ inl k ↦ absurd (some_reached guid context k.1) | inr k ↦ k ] in
            record {
              id = to.end.node;
              node = to.node;
              has = to.has;
              from = subst (IsReached f seat s.reached) (sym (ap (vertex_of f) here ∙ seat_vertex))
                  (has_as (IsOrigin f seat) (λ (v : Vertex). (v.guid ≡ guid_at f seat seat.node) × (v.port ≡ seat.port))
                  (λ v is. (is.0, is.1)) s.reached origin);
              leaves = subst (Leaves f seat) (sym here) ((0, sym seat_vertex), inl refl);
            }

        from_switch : (m : Option Vertex) → first_vertex s.reached guid ≡ m
            → option_map_or (λ (x : Vertex). is_switch x.kind && (not (p == 0) && not (p == x.arrival))) m false ≡ true → LeavesBy f seat s.reached guid p
        from_switch None e way = cc
        from_switch (Some v) e way =
            let first = first_covers guid v e in
            let switch : is_switch v.kind ≡ true = (and_parts (is_switch v.kind) (not (p == 0) && not (p == v.arrival)) way).0 in
            let zero_port : v.port ≡ 0 = first.0.port ∙ ap (λ b. cond b 0 v.arrival) switch in
            let there : is_switch_at f first.0.id ≡ true = type_at f first.0.id first.0.node first.0.has.there ∙ ap is_switch (sym first.0.kind)
            ∙ switch in
            let vertex : vertex_of f (port_at first.0.id p) ≡ port_at first.0.id 0 = switch_vertex f (port_at first.0.id p) there in
            let has : HasNode f guid first.0.id first.0.node = record { there = first.0.has.there; named = first.0.has.named ∙ first.1 } in
            let known = first_has s.reached guid v e in
            record {
              id = first.0.id;
              node = first.0.node;
              has = has;
              from = subst (IsReached f seat s.reached) (sym vertex)
                  (has_as (λ u. u ≡ v) (λ (u : Vertex). (u.guid ≡ guid_at f seat first.0.id) × (u.port ≡ 0))
                  (λ u same. (ap (λ (x : Vertex). x.guid) same ∙ first.1 ∙ sym (guid_is f has seat), ap (λ (x : Vertex). x.port) same ∙ zero_port))
                  s.reached known.0);
              leaves = (subst (IsJoinedTo f seat) (sym (vertex ∙ ap (port_at first.0.id) (sym zero_port))) first.0.joined, inr there);
            }

    -- the sweep then -----------------------------------------------------------------------------------------

    abbrev pub ended : Sweep
    ended = record s { outstanding = without_number r.number s.outstanding }

    abbrev pub having_after : List Asking → List Vertex → Sightings → Having
    having_after asked reached told = record { requests = requests_after asked; reached = reached; told = told }

    pub covered_after : (asked : List Asking) (reached : List Vertex) (states : _) (too_far : ℕ) (more : Sightings)
        → Grows f seat (having s told) (having_after asked reached (told ++ more)) (asking_of r)
        → AllByRecursion (λ (a : Asking). IsRooted f seat reached a.context) asked
        → AllByRecursion (Covers f seat (having_after asked reached (told ++ more))) reached
        → AllByRecursion (IsJoinedSighting f seat) more
        → (IsPending (requests_after asked) first_question × (reached ≡ [])) ⊎ Has (IsOrigin f seat) reached
        → Covered f seat (record (asking ended asked) { reached = reached; states = states; too_far = too_far }) (told ++ more)
    covered_after asked reached states too_far more g rooted vertices joined start =
        record {
          rising = rising_on r.number s.outstanding s.queued s.next asked c.rising;
          rooted = rooted_after (having_after asked reached (told ++ more)) asked g rooted;
          vertices = vertices;
          joined = all_append (IsJoinedSighting f seat) told more c.joined joined;
          start = start;
        }

    -- where no vertex is new
    pub all_stay : (asked : List Asking) (more : Sightings) → Grows f seat (having s told) (having_after asked s.reached (told ++ more)) (asking_of r)
        → AllByRecursion (Covers f seat (having_after asked s.reached (told ++ more))) s.reached
    all_stay asked more g = all_as (Covers f seat (having s told)) (Covers f seat (having_after asked s.reached (told ++ more)))
        (covers_on f seat g) s.reached c.vertices

    pub start_stays : (s.reached ≡ [] → ⊥) → Has (IsOrigin f seat) s.reached
    start_stays some = elim c.start [ inl k ↦ absurd (some k.1) | inr k ↦ k ]
