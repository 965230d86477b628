-- What a sweep asks and has found is sound: each request leads where its context says, and each vertex is as its node is.
use Rattle.std.proofs.Common.{◌≡◌, inl, inr, ℕ, zero, suc, ◌+◌, ◌<◌, ◌≤◌, ◌^◌, Bool, true, false, cond, List, [], ◌∷◌, ◌++◌, length, refl, sym, ap, ◌∙◌, subst, arith, length-append}
use Rattle.std.proofs.lemmas.Bool.{cond_both, or_cases, and_parts, eqb-true, ltb-true, not-false}
use Rattle.std.proofs.lemmas.Option.{same_Some}
use Rattle.std.specs.Prelude.{Option, Some, None, is_some, nat_lt, not, ◌==◌, ◌&&◌, ◌||◌}
use Rattle.std.specs.Option.{option_map_or}
use Rattle.fabric_model.specs.declared.cable.NodePort.{NodePort}
use Rattle.smp_bytes.specs.declared.node_type.NodeType.{NodeType}
use Rattle.smp_bytes.specs.NodeType.{is_switch}
use Rattle.fabric_model.specs.Fabric.{Node, Fabric, IsNodeAt}
use Rattle.fabric_model.specs.DirectedWalk.{directed_end}
use Rattle.smp_bytes.specs.Field.{bits_in}
use Rattle.attr_codec.specs.declared.node_info.NodeInfo.{NodeInfo}
use Rattle.attr_codec.specs.PortInfo.{port_state}
use Rattle.reply_facts.specs.declared.report.Context.{Context}
use Rattle.reply_facts.specs.declared.report.Context.TheVariants.{Start, Via, About}
use Rattle.reply_facts.specs.Report.{guid_port, is_up_state}
use Rattle.fabric_sim.specs.ThereAndBack.{BeginsWith}
use Rattle.fabric_sim.specs.ToldOfEnd.{port_asked}
use Rattle.sweep.specs.declared.question.Question.{Question}
use Rattle.sweep.specs.declared.question.Question.TheVariants as ask
use Rattle.sweep.specs.declared.request.Request.{Request}
use Rattle.sweep.specs.declared.vertex.Vertex.{Vertex}
use Rattle.sweep.specs.Images.{Images}
use Rattle.sweep.specs.Order.{is_before, placed}
use Rattle.sweep.specs.Sweep.{Sweep, Asking, numbered, first_vertex, vertex_at, vertex_key}
use Rattle.sweep.specs.Finding.{asks_manager, vertex_of, found_again, is_start, is_way_on, goes_by, leads_on, onward, port_finding_of, port_found_of, with_vertex}
use Rattle.sweep.specs.Questions.{port_questions, vertex_questions, manager_questions, onward_questions, questions}
use Rattle.manager_laws.specs.Truth.{HasNode, AreGuidsDistinct}

-- what the fabric has to be: GUIDs differ, nodes have up to 254 ports, and the seat is at no switch
pub record CanBeSwept (f : Fabric) (seat : NodePort) : Type 0 where
  pub distinct : AreGuidsDistinct f
  pub counts : (id : ℕ) (node : Node) → IsNodeAt f id node → node.ports ≤ 254
  pub adapter : (node : Node) → IsNodeAt f seat.node node → is_switch node.kind ≡ false

module _ (f : Fabric) (seat : NodePort) where
  -- a path leads to a node of a GUID
  pub record LeadsTo (path : List ℕ) (guid : ℕ) : Type 0 where
    pub end : NodePort
    pub node : Node
    pub leads : directed_end f seat path ≡ Some end
    pub has : HasNode f guid end.node node

  -- and the port that is asked for is the one that the answer will be about
  pub record AsksPort (path : List ℕ) (guid port : ℕ) : Type 0 where
    pub to : LeadsTo path guid
    pub means : port_asked to.node port to.end.port ≡ port
    pub small : port ≤ 254

  -- a path by a port of the node that a shorter one leads to
  pub record GoesBy (path : List ℕ) (guid port : ℕ) : Type 0 where
    pub front : List ℕ
    pub is : path ≡ front ++ port ∷ []
    pub to : LeadsTo front guid

  abbrev pub Asks : List ℕ → Question → Context → Type 0
  Asks path ask.Node Start = path ≡ []
  Asks path ask.Node (Via guid port) = GoesBy path guid port
  Asks path ask.Switch (About guid) = LeadsTo path guid
  Asks path (ask.Port port) (About guid) = AsksPort path guid port
  Asks path (ask.Manager guid port) context = Unit {0}
  Asks path question context = ⊥

  pub record IsSound (question : Question) (path : List ℕ) (context : Context) : Type 0 where
    pub own : BeginsWith seat.port path
    pub short : length path ≤ 63
    pub asks : Asks path question context

  -- questions, and requests that were made of them
  abbrev pub AreSoundQuestions : List Asking → Type 0
  AreSoundQuestions [] = Unit {0}
  AreSoundQuestions (a ∷ asked) = IsSound a.question a.path a.context × AreSoundQuestions asked

  pub record IsSoundRequest (r : Request) : Type 0 where
    pub sound : IsSound r.question r.path r.context
    pub number : r.number < 2 ^ 32

  abbrev pub AreSound : List Request → Type 0
  AreSound [] = Unit {0}
  AreSound (r ∷ requests) = IsSoundRequest r × AreSound requests

  -- a vertex has the kind and the ports of the node of its GUID
  pub record IsFound (v : Vertex) : Type 0 where
    pub id : ℕ
    pub node : Node
    pub has : HasNode f v.guid id node
    pub kind : v.kind ≡ node.kind
    pub ports : v.ports ≡ node.ports

  abbrev pub AreFound : List Vertex → Type 0
  AreFound [] = Unit {0}
  AreFound (v ∷ reached) = IsFound v × AreFound reached

  pub record IsSoundSweep (s : Sweep) : Type 0 where
    pub origin : s.origin ≡ seat.port
    pub generation : (1 ≤ s.generation) × (s.generation < 2 ^ 32)
    pub next : s.next ≤ 2 ^ 32
    pub queued : AreSound s.queued
    pub outstanding : AreSound s.outstanding
    pub reached : AreFound s.reached

  -- whatever it keeps of what it reads
  pub sound_with_images : (images : Images) {s : Sweep} → IsSoundSweep s → IsSoundSweep (record s { images = images })
  sound_with_images images is =
      record {
        origin = is.origin;
        generation = is.generation;
        next = is.next;
        queued = is.queued;
        outstanding = is.outstanding;
        reached = is.reached;
      }

  -- lists ----------------------------------------------------------------------------------------

  found_by_id : (v : Vertex) (reached : List Vertex) → IsFound v → AreFound reached → AreFound (placed vertex_key v reached)
  found_by_id v [] is all = (is, tt)
  found_by_id v (y ∷ reached) is all =
      let later = found_by_id v reached is all.1 in
      cond_both (is_before (vertex_key y) (vertex_key v)) _ _ AreFound (λ _. (all.0, later))
      (λ _. cond_both (is_before (vertex_key v) (vertex_key y)) _ _ AreFound (λ _. (is, (all.0, all.1))) (λ _. (all.0, all.1)))

  pub sound_numbered : (n : ℕ) (asked : List Asking) → AreSoundQuestions asked → n + length asked ≤ 2 ^ 32 → AreSound (numbered n asked)
  sound_numbered n [] all most = tt
  sound_numbered n (a ∷ asked) all most =
      (record { sound = all.0; number = omega (arith, most) }, sound_numbered (n + 1) asked all.1 (omega (arith, most)))

  pub sound_append : (xs ys : List Request) → AreSound xs → AreSound ys → AreSound (xs ++ ys)
  sound_append [] ys all also = also
  sound_append (r ∷ xs) ys all also = (all.0, sound_append xs ys all.1 also)

  -- the first vertex of a node is as the node is
  first_found : (reached : List Vertex) (guid : ℕ) (v : Vertex) → AreFound reached → first_vertex reached guid ≡ Some v → IsFound v × (v.guid ≡ guid)
  first_found [] guid v all e = absurd (cc)
  first_found (y ∷ reached) guid v all e = by_test (y.guid == guid) refl e (first_found reached guid v all.1)
    where
      by_test : (b : Bool) → (y.guid == guid) ≡ b → cond b (Some y) (first_vertex reached guid) ≡ Some v
          → (first_vertex reached guid ≡ Some v → IsFound v × (v.guid ≡ guid)) → IsFound v × (v.guid ≡ guid)
      by_test true is h later =
          let same : y ≡ v = same_Some y v h in
          (subst IsFound same all.0, ap (λ (x : Vertex). x.guid) (sym same) ∙ eqb-true _ _ is)
      by_test false is h later = later h

  -- what is asked of a vertex ---------------------------------------------------------------------

  module _ (can : CanBeSwept f seat) (path : List ℕ) (own : BeginsWith seat.port path) (short : length path ≤ 63) where
    sound_ports : (guid port more : ℕ) (to : LeadsTo path guid) → is_switch to.node.kind ≡ true → port + more ≤ 255
        → AreSoundQuestions (port_questions port more path (About guid))
    sound_ports guid port zero to switch most = tt
    sound_ports guid port (suc more) to switch most = (
      record {
        own = own;
        short = short;
        asks = record { to = to; means = ap (λ b. cond b port to.end.port) switch; small = omega (arith, most) };
      },
      sound_ports guid (port + 1) more to switch (omega (arith, most)),
    )

    pub sound_vertex : (v : Vertex) (to : LeadsTo path v.guid) → v.path ≡ path → v.kind ≡ to.node.kind → v.ports ≤ 254
        → (is_switch v.kind ≡ false → (v.port ≡ to.end.port) × (v.port ≤ 254)) → AreSoundQuestions (vertex_questions v)
    sound_vertex v to path_is kind ports port =
        subst (λ p. AreSoundQuestions (vertex_questions (record v { path = p }))) (sym path_is)
        (cond_both (is_switch v.kind) _ _ AreSoundQuestions
        (λ switch. (
          record { own = own; short = short; asks = to },
          sound_ports v.guid 0 (v.ports + 1) to (ap is_switch (sym kind)
              ∙ switch) (omega (arith, ports)),
        ))
        (λ adapter.
        let here = port adapter in (
          record {
            own = own;
            short = short;
            asks = record { to = to; means = ap (λ b. cond b v.port to.end.port) (ap is_switch (sym kind) ∙ adapter) ∙ sym here.0; small = here.1 };
          },
          tt,
        )))

    -- what is asked beyond a port ------------------------------------------------------------------

    -- the longer path leaves by the seat's port too
    longer_own : (s : Sweep) (guid port : ℕ) → IsSoundSweep s → LeadsTo path guid → goes_by s path guid port ≡ true → BeginsWith seat.port (path ++ port ∷ [])
    longer_own s guid port is to goes = by_path path refl
      where
        is_adapter : path ≡ [] → is_way_on s guid port ≡ false
        is_adapter none = by_first (first_vertex s.reached guid) refl
          where
            by_first : (m : Option Vertex) → first_vertex s.reached guid ≡ m
                → option_map_or (λ first. is_switch first.kind && (not (port == 0) && not (port == first.arrival))) m false ≡ false
            by_first None e = refl
            by_first (Some v) e =
                let (found, named) = first_found s.reached guid v is.reached e in
                let at_seat : to.end ≡ seat = same_Some _ _ (sym to.leads ∙ ap (directed_end f seat) none) in
                let same_id : found.id ≡ to.end.node =
                can.distinct _ _ found.node to.node found.has.there to.has.there (found.has.named ∙ named ∙ sym to.has.named) in
                let here : IsNodeAt f seat.node found.node =
                subst (λ n. IsNodeAt f n found.node) (same_id ∙ ap (λ (p : NodePort). p.node) at_seat) found.has.there in
                ap (λ b. b && (not (port == 0) && not (port == v.arrival))) (ap is_switch found.kind ∙ can.adapter found.node here)

        by_path : (ports : List ℕ) → path ≡ ports → BeginsWith seat.port (ports ++ port ∷ [])
        by_path [] e =
            elim (or_cases (is_start path && port == s.origin) (is_way_on s guid port) goes) [
              | inl starts ↦ eqb-true port s.origin (and_parts (is_start path) (port == s.origin) starts).1 ∙ is.origin
              | inr way ↦ absurd (cc (sym way ∙ is_adapter e))
            ]
        by_path (p ∷ ports) e = subst (BeginsWith seat.port) e own

    sound_onward : (s : Sweep) (guid port : ℕ) (info : List ℕ) → IsSoundSweep s → LeadsTo path guid
        → AreSoundQuestions (onward_questions path guid port (onward s path guid port info))
    sound_onward s guid port info is to =
        cond_both (not (leads_on s path guid port info)) _ _
        (λ o. AreSoundQuestions (onward_questions path guid port o))
        (λ _. tt)
        (λ goes. cond_both (nat_lt (length path) 63) _ _
        (λ o. AreSoundQuestions (onward_questions path guid port o))
        (λ less. let room : length path < 63 = ltb-true _ _ less in (
          record {
            own = longer_own s guid port is to (and_parts (is_up_state (bits_in port_state info)) (goes_by s path guid port) (not-false _ goes)).1;
            short = omega (arith, room, length-append path (port ∷ []));
            asks = record { front = path; is = refl; to = to };
          },
          tt,
        ))
        (λ _. tt))

    both_sound : (first later : List Asking) → AreSoundQuestions first → AreSoundQuestions later → AreSoundQuestions (first ++ later)
    both_sound [] later all also = also
    both_sound (a ∷ first) later all also = (all.0, both_sound first later all.1 also)

    -- a manager is asked over the path to its port
    sound_manager : (s : Sweep) (guid port : ℕ) (info : List ℕ) → AreSoundQuestions (manager_questions path (port_finding_of s path guid port info))
    sound_manager s guid port info =
        cond_both (asks_manager s path guid info) _ _ AreSoundQuestions (λ _. (record { own = own; short = short; asks = tt }, tt)) (λ _. tt)

    pub sound_port : (s : Sweep) (guid port : ℕ) (info : List ℕ) → IsSoundSweep s → LeadsTo path guid
        → AreSoundQuestions (questions path (port_found_of s path guid port info))
    sound_port s guid port info is to =
        both_sound _ _ (sound_manager s guid port info) (sound_onward s guid port info is to)

    -- what was found, and what is asked then ---------------------------------------------------------

    -- what a reply of NodeInfo says of the node that the path leads to
    module _ (info : NodeInfo) (to : LeadsTo path info.node_guid) (kind : NodeType) (kind_is : kind ≡ to.node.kind) (ports : info.num_ports ≡ to.node.ports)
        (local : info.local_port_num ≡ to.end.port) (within : info.local_port_num ≤ info.num_ports) where
      pub record GoodNode (asked : List Asking) (reached : List Vertex) : Type 0 where
        pub questions : AreSoundQuestions asked
        pub found : AreFound reached

      few : info.num_ports ≤ 254
      few = let most = can.counts to.end.node to.node to.has.there in omega (arith, most, ports)

      vertex_good : (k : NodeType) (n : ℕ) (reached : List Vertex) → k ≡ to.node.kind → n ≡ to.node.ports → AreFound reached
          → GoodNode (vertex_questions (vertex_of path info k n)) (placed vertex_key (vertex_of path info k n) reached)
      vertex_good k n reached k_is n_is all =
          record {
            questions = sound_vertex (vertex_of path info k n) to refl k_is (let most = can.counts to.end.node to.node to.has.there in
                omega (arith, most, n_is))
                (λ adapter. let here : guid_port k info.local_port_num ≡ info.local_port_num = ap (λ b. cond b 0 info.local_port_num) adapter in
                let small = few in (here ∙ local, omega (arith, here, within, small)));
            found = found_by_id (vertex_of path info k n) reached (record { id = to.end.node; node = to.node; has = to.has; kind = k_is; ports = n_is }) all;
          }

      -- a node that was known is the same node
      pub again_good : (s : Sweep) (first : Vertex) → AreFound s.reached → first_vertex s.reached info.node_guid ≡ Some first
          → GoodNode (questions path (found_again s path info first)) (with_vertex (found_again s path info first) s.reached)
      again_good s first all e =
          cond_both (is_switch first.kind || is_some (vertex_at s.reached info.node_guid info.local_port_num)) _ _
          (λ o. GoodNode (questions path o) (with_vertex o s.reached))
          (λ _. record { questions = tt; found = all })
          (λ _. vertex_good first.kind first.ports s.reached same_kind same_ports all)
        where
          the_first : IsFound first × (first.guid ≡ info.node_guid)
          the_first = first_found s.reached info.node_guid first all e

          same_id : the_first.0.id ≡ to.end.node
          same_id = can.distinct _ _ the_first.0.node to.node the_first.0.has.there to.has.there (the_first.0.has.named ∙ the_first.1 ∙ sym to.has.named)

          same_node : the_first.0.node ≡ to.node
          same_node = same_Some _ _ (sym (subst (λ n. IsNodeAt f n the_first.0.node) same_id the_first.0.has.there) ∙ to.has.there)

          same_kind : first.kind ≡ to.node.kind
          same_kind = the_first.0.kind ∙ ap (λ (n : Node). n.kind) same_node

          same_ports : first.ports ≡ to.node.ports
          same_ports = the_first.0.ports ∙ ap (λ (n : Node). n.ports) same_node

      pub anew_good : (reached : List Vertex) → AreFound reached
          → GoodNode (vertex_questions (vertex_of path info kind info.num_ports)) (placed vertex_key (vertex_of path info kind info.num_ports) reached)
      anew_good reached all = vertex_good kind info.num_ports reached kind_is ports all
