-- A sweep stays sound when it takes a reply that tells the truth.
use Rattle.std.proofs.Common.{◌≡◌, ℕ, ◌+◌, ◌≤◌, ◌^◌, Bool, true, false, cond, List, [], ◌∷◌, length, not, refl, sym, ap, ◌∙◌, subst}
use Rattle.std.proofs.lemmas.Bool.{cond_both, and_parts, leb-true}
use Rattle.std.proofs.lemmas.Option.{same_Some}
use Rattle.std.specs.Prelude.{Option, Some, None, find, ◌&&◌, ◌==◌, nat_le}
use Rattle.fabric_model.specs.declared.cable.NodePort.{NodePort}
use Rattle.smp_bytes.specs.declared.node_type.NodeType.{NodeType}
use Rattle.smp_bytes.specs.Header.{node_info}
use Rattle.smp_bytes.specs.Field.{number_in}
use Rattle.smp_bytes.specs.Packet.{attribute_id}
use Rattle.fabric_model.specs.Fabric.{Fabric}
use Rattle.fabric_model.specs.DirectedWalk.{directed_end}
use Rattle.attr_codec.specs.NodeTypeNumber.{type_of_number}
use Rattle.reply_facts.specs.declared.report.Context.{Context}
use Rattle.reply_facts.specs.declared.report.Context.TheVariants.{Start, Via, About}
use Rattle.reply_facts.specs.Report.{may_be_asked_by, node_info_of, payload_of}
use Rattle.reply_facts.specs.Sighting.{is_cabled_port}
use Rattle.fabric_sim.specs.ToldOfEnd.{SaysNode, SaysOf}
use Rattle.sweep.specs.declared.question.Question.{Question}
use Rattle.sweep.specs.declared.question.Question.TheVariants as ask
use Rattle.sweep.specs.declared.request.Request.{Request}
use Rattle.sweep.specs.declared.vertex.Vertex.{Vertex}
use Rattle.sweep.specs.Sweep.{Sweep, Asking, attribute_asked, asking, numbered, first_vertex, without_number}
use Rattle.sweep.specs.Finding.{finding_of, with_finding, node_found_of, found_anew, port_found_of}
use Rattle.sweep.specs.Questions.{questions}
use Rattle.manager_laws.proofs.Accepted.{IsGoodNode, IsFor, type_read}
use Rattle.manager_laws.proofs.Sound.{CanBeSwept, LeadsTo, IsSound, AreSoundQuestions, IsSoundRequest, AreSound, AreFound, IsSoundSweep, sound_numbered, sound_append, again_good, anew_good, sound_port}

module _ (f : Fabric) (seat : NodePort) where
  -- requests that end -----------------------------------------------------------------------------

  pub sound_without : (n : ℕ) (requests : List Request) → AreSound f seat requests → AreSound f seat (without_number n requests)
  sound_without n [] all = tt
  sound_without n (r ∷ requests) all =
      let rest = sound_without n requests all.1 in
      cond_both (not (r.number == n)) _ _ (AreSound f seat) (λ _. (all.0, rest)) (λ _. rest)

  pub record FoundSound (t : Request → Bool) (r : Request) : Type 0 where
    pub sound : IsSoundRequest f seat r
    pub passes : t r ≡ true

  pub found_sound : (t : Request → Bool) (requests : List Request) (r : Request) → AreSound f seat requests → find t requests ≡ Some r → FoundSound t r
  found_sound t [] r all e = absurd (cc)
  found_sound t (x ∷ requests) r all e = by_test (t x) refl e (found_sound t requests r all.1)
    where
      by_test : (b : Bool) → t x ≡ b → cond b (Some x) (find t requests) ≡ Some r → (find t requests ≡ Some r → FoundSound t r) → FoundSound t r
      by_test true is h later =
          let same : x ≡ r = same_Some x r h in subst (FoundSound t) same (record { sound = all.0; passes = is })
      by_test false is h later = later h

  -- with questions more, and other vertices -----------------------------------------------------------

  record Grows (s : Sweep) (asked : List Asking) (vertices : List Vertex) : Type 0 where
    pub questions : AreSoundQuestions f seat asked
    pub reached : AreFound f seat vertices
    pub room : s.next + length asked ≤ 2 ^ 32

  module _ (s : Sweep) (is : IsSoundSweep f seat s) (r : Request) where
    unfoldable pub ended : Sweep
    ended = record s { outstanding = without_number r.number s.outstanding }

    grown : (asked : List Asking) (reached : List Vertex) (states : _) (too_far : ℕ) → Grows s asked reached
        → IsSoundSweep f seat (record (asking ended asked) { reached = reached; states = states; too_far = too_far })
    unfolding ended
    grown asked reached states too_far g =
        record {
          origin = is.origin;
          generation = is.generation;
          next = g.room;
          queued = sound_append f seat s.queued (numbered s.next asked) is.queued (sound_numbered f seat s.next asked g.questions g.room);
          outstanding = sound_without r.number s.outstanding is.outstanding;
          reached = g.reached;
        }

    -- what a reply says, where its path leads
    module _ (can : CanBeSwept f seat) (packet : List ℕ) (end : NodePort) (leads : directed_end f seat r.path ≡ Some end) (says : SaysOf f end packet)
        (for : IsFor packet r) (sound : IsSoundRequest f seat r) where
      -- a node
      module _ (node : SaysNode says.node end.port (node_info_of packet)) (good : IsGoodNode r.context packet) where
        to : LeadsTo f seat r.path (node_info_of packet).node_guid
        to = record { end = end; node = says.node; leads = leads; has = record { there = says.there; named = sym node.guid } }

        within : (node_info_of packet).local_port_num ≤ (node_info_of packet).num_ports
        within =
            let ranges = and_parts (is_cabled_port (node_info_of packet).num_ports
            && nat_le (node_info_of packet).local_port_num (node_info_of packet).num_ports)
            (may_be_asked_by r.context good.kind (node_info_of packet).local_port_num) good.ranges in
            leb-true _ _ (and_parts (is_cabled_port (node_info_of packet).num_ports) _ ranges.0).1

        anew : (m : Option NodeType) → type_of_number (node_info_of packet).node_type ≡ m
            → s.next + length (questions r.path (found_anew r.path (node_info_of packet) m)) ≤ 2 ^ 32
            → IsSoundSweep f seat (with_finding ended r.path (found_anew r.path (node_info_of packet) m))
        unfolding ended to
        anew None e room = absurd (cc (sym (ap type_of_number node.kind ∙ type_read says.node.kind) ∙ e))
        anew (Some kind) e room =
            let same : kind ≡ says.node.kind = same_Some _ _ (sym e ∙ ap type_of_number node.kind ∙ type_read says.node.kind) in
            let g = anew_good f seat can r.path sound.sound.own sound.sound.short (node_info_of packet) to kind same node.ports node.local_port within s.reached
            is.reached in
            grown _ _ _ _ (record { questions = g.questions; reached = g.found; room = room })

        by_first : (m : Option Vertex) → first_vertex s.reached (node_info_of packet).node_guid ≡ m
            → s.next + length (questions r.path (node_found_of s r.path (node_info_of packet) m)) ≤ 2 ^ 32
            → IsSoundSweep f seat (with_finding ended r.path (node_found_of s r.path (node_info_of packet) m))
        unfolding ended to
        by_first None e room = anew (type_of_number (node_info_of packet).node_type) refl room
        by_first (Some first) e room =
            let g = again_good f seat can r.path sound.sound.own sound.sound.short (node_info_of packet) to says.node.kind refl node.ports node.local_port
            within s first is.reached e in
            grown _ _ _ _ (record { questions = g.questions; reached = g.found; room = room })

      -- a port
      by_port : (guid port : ℕ) (info : List ℕ) → LeadsTo f seat r.path guid
          → s.next + length (questions r.path (port_found_of s r.path guid port info)) ≤ 2 ^ 32
          → IsSoundSweep f seat (with_finding ended r.path (port_found_of s r.path guid port info))
      unfolding ended
      by_port guid port info leads_there room =
          grown _ s.reached _ _
          (record {
            questions = sound_port f seat can r.path sound.sound.own sound.sound.short s guid port info is leads_there;
            reached = is.reached;
            room =
                room;
          })

      pub by_question : (q : Question) → r.question ≡ q → (context : Context) → r.context ≡ context → IsSound f seat q r.path context
          → s.next + length (questions r.path (finding_of s (record r { context = context }) packet q)) ≤ 2 ^ 32
          → (number_in attribute_id packet ≡ node_info → IsGoodNode r.context packet)
          → IsSoundSweep f seat (with_finding ended r.path (finding_of s (record r { context = context }) packet q))
      unfolding ended
      by_question ask.Node e context c asks room good =
          let attribute = for.attribute ∙ ap (λ q. attribute_asked q) e in
          by_first (says.node_info attribute) (good attribute) (first_vertex s.reached (node_info_of packet).node_guid) refl room
      by_question ask.Switch e context c asks room good = grown [] s.reached _ _ (record { questions = tt; reached = is.reached; room = room })
      by_question (ask.Port port) e Start c asks room good = absurd asks.asks
      by_question (ask.Port port) e (Via guid via) c asks room good = absurd asks.asks
      by_question (ask.Port port) e (About guid) c asks room good =
          by_port guid port (payload_of packet) asks.asks.to room
      by_question (ask.Manager guid port) e context c asks room good = grown [] s.reached _ _ (record { questions = tt; reached = is.reached; room = room })
