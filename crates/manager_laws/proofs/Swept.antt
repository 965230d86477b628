-- Whatever happens, each fact that a sweep accepts is true of the fabric.
use Rattle.std.proofs.Common.{◌≡◌, ℕ, zero, suc, ◌+◌, ◌<◌, ◌≤◌, ◌^◌, Bool, true, false, cond, List, [], ◌∷◌, ◌++◌, replicate, refl, sym, ap, ◌∙◌, subst, arith}
use Rattle.std.proofs.lemmas.Bool.{cond_both}
use Rattle.std.proofs.lemmas.List.{length-replicate}
use Rattle.std.proofs.lemmas.List.Elements.{All-nil, All-head, All-tail, All-cons}
use Rattle.std.proofs.lemmas.Option.{same_Some, slice_get-map}
use Rattle.std.specs.Prelude.{Option, Some, None, Result, Ok, Err, All, option_map, slice_get}
use Rattle.std.specs.Option.{option_map_or}
use Rattle.fabric_model.specs.declared.cable.NodePort.{NodePort}
use Rattle.fabric_model.specs.Cables.{is_same_port}
use Rattle.smp_bytes.specs.Field.{number_in}
use Rattle.smp_bytes.specs.Header.{get, node_info}
use Rattle.smp_bytes.specs.Packet.{attribute_id}
use Rattle.smp_bytes.specs.NodeType as types
use Rattle.fabric_model.specs.Fabric.{Node, IsNodeAt}
use Rattle.smp_bytes.specs.ReadBack.{FitsRequest}
use Rattle.fabric_model.specs.DirectedWalk.{directed_end}
use Rattle.fabric_model.proofs.Cabled.{same_port-is}
use Rattle.reply_facts.specs.declared.report.Report.{Report}
use Rattle.reply_facts.specs.Report.{sightings_of}
use Rattle.node_agents.specs.Agent.{Agent, IsAgent, node_of, has_seat}
use Rattle.node_agents.proofs.Shapes.{is_port_at}
use Rattle.fabric_sim.specs.Simulation.{Simulation, IsSimulation, AreCables, agent_at, is_seat_at, port_count, fabric_of}
use Rattle.reply_facts.specs.declared.report.Context.TheVariants.{Start, Via, About}
use Rattle.fabric_sim.specs.ThereAndBack.{BeginsWith, directed_packet}
use Rattle.fabric_sim.specs.ToldOfEnd.{SaysOf, TellsOfEnd}
use Rattle.fabric_sim.proofs.Courses.{IsForManager, IsOnCourse}
use Rattle.fabric_sim.proofs.TripEnds.{few_ports, along_itself}
use Rattle.fabric_sim.proofs.TripShapes.{agent_there}
use Rattle.sweep.specs.declared.answer.Answer.{Answer}
use Rattle.sweep.specs.declared.answer.Answer.TheVariants.{Facts, Seen}
use Rattle.sweep.specs.declared.fault.SweepFault.{SweepFault}
use Rattle.sweep.specs.declared.question.Question.{Question}
use Rattle.sweep.specs.declared.question.Question.TheVariants as ask
use Rattle.sweep.specs.declared.request.Request.{Request}
use Rattle.sweep.specs.Sweep.{Sweep, attribute_asked, modifier_asked, transaction_of, packet_of, request_with, after_next_request_of, after_next_request, started, after_timeout_of, after_timeout}
use Rattle.sweep.specs.Images.{images_with}
use Rattle.sweep.specs.Replies.{belongs, judged, after_reply_to, after_reply, report_for, sightings_by}
use Rattle.manager_laws.specs.Scene.{Handed}
use Rattle.manager_laws.specs.Truth.{AreGuidsDistinct, IsTrueSighting}
use Rattle.manager_laws.specs.Sweeping.{Sweeping, SweepEvent, Around, Ask, Send, Hear, TimeOut, CanBe, asking_more, sending, reports_of, with_answer, hearing, after_sweep_event, after_sweep_events, Begins, AcceptedFactsAreTrue}
use Rattle.manager_laws.proofs.Accepted.{IsAccepted, IsGoodNode, accepted, IsFor, is_for_it, path_is, attribute_good, good_node}
use Rattle.manager_laws.proofs.Answers.{Continues, was_there, sent_on, seat_in_port, sends, continued, is_told, begun}
use Rattle.manager_laws.proofs.Replied.{sound_without, FoundSound, found_sound, ended}
use Rattle.manager_laws.proofs.Replied as replies
use Rattle.manager_laws.proofs.Sound.{CanBeSwept, IsSound, IsSoundRequest, AreSound, IsSoundSweep, sound_append, sound_with_images}
use Rattle.manager_laws.proofs.TrueFacts as facts
use Rattle.manager_laws.proofs.TrueFacts.{IsCabled, AreTrue, all_true}

-- the fabric that a simulation is ------------------------------------------------------------------

module _ (start : Simulation) (is : IsSimulation start) where
  node_is : (id : ℕ) (node : Node) → IsNodeAt (fabric_of start) id node → (a : Agent) × (agent_at start id ≡ Some a) × (node ≡ node_of a)
  node_is id node there = by_agent (slice_get start.agents id) refl
    where
      by_agent : (m : Option Agent) → slice_get start.agents id ≡ m → (a : Agent) × (agent_at start id ≡ Some a) × (node ≡ node_of a)
      by_agent None e = absurd (cc (sym (slice_get-map node_of start.agents id ∙ ap (option_map node_of) e) ∙ there))
      by_agent (Some a) e = (a, e, sym (same_Some _ _ (sym (slice_get-map node_of start.agents id ∙ ap (option_map node_of) e) ∙ there)))

  is_agent : (id : ℕ) (a : Agent) → agent_at start id ≡ Some a → IsAgent a
  is_agent id a there = agent_there start.agents id a (along_itself start is).agents there

  pub is_cabled : IsCabled (fabric_of start)
  is_cabled =
      record {
        back = is.cables.lead_back;
        one_guid = λ id node there switch port. let (a, at, same) = node_is id node there in
            let of_switch : types.is_switch a.node.kind ≡ true = ap (λ (n : Node). types.is_switch n.kind) (sym same) ∙ switch in
            ap (λ (n : Node). n.port_guid port) same
            ∙ ap (λ b. cond b a.node.guid (a.node.guid + port)) of_switch
            ∙ sym (ap (λ b. cond b a.node.guid (a.node.guid + 0)) of_switch)
            ∙ sym (ap (λ (n : Node). n.port_guid 0) same);
      }

  pub can_be_swept : (seat : NodePort) → is_seat_at start seat ≡ true → AreGuidsDistinct (fabric_of start) → CanBeSwept (fabric_of start) seat
  can_be_swept seat sits distinct =
      record {
        distinct = distinct;
        counts = λ id node there. let (a, at, same) = node_is id node there in
            let few = (is_agent id a at).node.ports.1 in
            let ports = ap (λ (n : Node). n.ports) same in
            omega (arith, few, ports);
        adapter = λ node there. let (a, at, same) = node_is seat.node node there in
            ap (λ (n : Node). types.is_switch n.kind) same ∙ no_switch a at (types.is_switch a.node.kind) refl;
      }
    where
      no_switch : (a : Agent) → agent_at start seat.node ≡ Some a → (b : Bool) → types.is_switch a.node.kind ≡ b → b ≡ false
      no_switch a at false e = refl
      no_switch a at true e =
          let sits_here : has_seat a seat.port ≡ true = sym (ap (λ o. option_map_or (λ (x : Agent). has_seat x seat.port) o false) at) ∙ sits in
          absurd (cc (sym ((is_port_at a (is_agent seat.node a at) seat.port).is_sm e) ∙ sits_here))

-- a sweep that goes on -----------------------------------------------------------------------------

module _ {start : Simulation} {seat : NodePort} (cables : AreCables start) (counts : (id : ℕ) → port_count start id ≤ 254)
    (can : CanBeSwept (fabric_of start) seat) (cabled : IsCabled (fabric_of start)) where
  -- a request that was given out
  pub record WasAsked (packet : List ℕ) : Type 0 where
    pub generation : ℕ
    pub few : generation < 2 ^ 32
    pub request : Request
    pub sound : IsSoundRequest (fabric_of start) seat request
    pub is : packet ≡ packet_of generation request

  abbrev WereAsked : List (List ℕ) → Type 0
  WereAsked [] = Unit {0}
  WereAsked (packet ∷ asked) = WasAsked packet × WereAsked asked

  abbrev AreTrueReports : List Report → Type 0
  AreTrueReports [] = Unit {0}
  AreTrueReports (report ∷ reports) = AreTrue (fabric_of start) (sightings_of report) × AreTrueReports reports

  pub record Goes (w : Sweeping) : Type 0 where
    pub scene : Continues start w.scene
    pub seat_is : w.seat ≡ seat
    pub sound : IsSoundSweep (fabric_of start) seat w.sweep
    pub asked : WereAsked w.asked
    pub reports : AreTrueReports w.reports

  -- what was given out is sent --------------------------------------------------------------------

  asked_there : (asked : List (List ℕ)) (which : ℕ) (packet : List ℕ) → WereAsked asked → slice_get asked which ≡ Some packet → WasAsked packet
  asked_there [] which packet all e = absurd (cc)
  asked_there (x ∷ asked) zero packet all e = let same : x ≡ packet = cc in subst WasAsked same all.0
  asked_there (x ∷ asked) (suc which) packet all e = asked_there asked which packet all.1 e

  asked_more : (asked : List (List ℕ)) (packet : List ℕ) → WereAsked asked → WasAsked packet → WereAsked (asked ++ packet ∷ [])
  asked_more [] packet all is = (is, tt)
  asked_more (x ∷ asked) packet all is = (all.0, asked_more asked packet all.1 is)

  reports_more : (reports : List Report) (answer : Answer) → AreTrueReports reports → AreTrue (fabric_of start) (sightings_by answer)
      → AreTrueReports (reports ++ reports_of answer)
  reports_more [] (Facts report) all is = (is, tt)
  reports_more [] (Seen guid port info) all is = tt
  reports_more (x ∷ reports) answer all is = (all.0, reports_more reports answer all.1 is)

  attribute_small : (q : Question) → attribute_asked q < 2 ^ 16
  attribute_small ask.Node = omega arith
  attribute_small ask.Switch = omega arith
  attribute_small (ask.Port port) = omega arith
  attribute_small (ask.Manager guid port) = omega arith

  modifier_small : (r : Request) → IsSoundRequest (fabric_of start) seat r → modifier_asked r.question < 2 ^ 32
  modifier_small r sound = by_question r.question r.context sound.sound
    where
      by_question : (q : Question) (context : _) → IsSound (fabric_of start) seat q r.path context → modifier_asked q < 2 ^ 32
      by_question (ask.Port port) Start is = absurd is.asks
      by_question (ask.Port port) (Via guid via) is = absurd is.asks
      by_question (ask.Port port) (About guid) is = let small = is.asks.small in omega (arith, small)
      by_question question context is = omega arith

  pub fits : (generation : ℕ) (r : Request) → generation < 2 ^ 32 → IsSoundRequest (fabric_of start) seat r
      → FitsRequest get (attribute_asked r.question) (modifier_asked r.question) (transaction_of generation r.number) (replicate 64 0)
  fits generation r few sound =
      let number = sound.number in
      record {
        method = omega arith;
        attribute_id = attribute_small r.question;
        attribute_modifier = modifier_small r sound;
        transaction_id = omega (arith, few, number);
        attribute_data = length-replicate {A = ℕ} 64 0;
      }

  sending_goes : (w : Sweeping) (m : Option (List ℕ)) → Goes w → ((packet : List ℕ) → m ≡ Some packet → WasAsked packet) → Goes (sending w m)
  sending_goes w None g were = g
  sending_goes w (Some packet) g were =
      let asked = were packet refl in
      record {
        scene = sends cables counts w.scene w.seat (directed_packet packet) g.scene
            (λ there. subst (IsOnCourse start w.seat) (sym asked.is)
            (sent_on start w.seat get (attribute_asked asked.request.question) (modifier_asked asked.request.question)
            (transaction_of asked.generation asked.request.number) asked.request.path (replicate 64 0)
            (fits asked.generation asked.request asked.few asked.sound)
            (omega arith) asked.sound.sound.short (subst (λ (p : NodePort). BeginsWith p.port asked.request.path) (sym g.seat_is) asked.sound.sound.own)
            (seat_in_port cables counts w.scene.fabric g.scene.fabric w.seat there)));
        seat_is = g.seat_is;
        sound = g.sound;
        asked = g.asked;
        reports = g.reports;
      }

  -- the next request is given out -----------------------------------------------------------------------

  asking_goes : (w : Sweeping) → Goes w → Goes (asking_more w (after_next_request w.sweep))
  asking_goes w g = by_queue w.sweep.queued refl
    where
      by_queue : (queue : List Request) → w.sweep.queued ≡ queue → Goes (asking_more w (after_next_request_of w.sweep queue))
      by_queue [] e = g
      by_queue (r ∷ queue) e =
          let all : AreSound (fabric_of start) seat (r ∷ queue) = subst (AreSound (fabric_of start) seat) e g.sound.queued in
          record {
            scene = g.scene;
            seat_is = g.seat_is;
            sound = record {
              origin = g.sound.origin;
              generation = g.sound.generation;
              next = g.sound.next;
              queued = all.1;
              outstanding = sound_append (fabric_of start) seat w.sweep.outstanding (r ∷ []) g.sound.outstanding (all.0, tt);
              reached = g.sound.reached;
            };
            asked = asked_more w.asked (packet_of w.sweep.generation r) g.asked
                (record { generation = w.sweep.generation; few = g.sound.generation.1; request = r; sound = all.0; is = refl });
            reports = g.reports;
          }

  -- a request times out -----------------------------------------------------------------------------------

  timeout_goes : (w : Sweeping) (transaction : ℕ) → Goes w → Goes (record w { sweep = after_timeout w.sweep transaction })
  timeout_goes w transaction g = by_request (request_with w.sweep.generation transaction w.sweep.outstanding)
    where
      by_request : (m : Option Request) → Goes (record w { sweep = after_timeout_of w.sweep m })
      by_request None = g
      by_request (Some r) =
          record {
            scene = g.scene;
            seat_is = g.seat_is;
            sound = record {
              origin = g.sound.origin;
              generation = g.sound.generation;
              next = g.sound.next;
              queued = g.sound.queued;
              outstanding = sound_without (fabric_of start) seat r.number w.sweep.outstanding g.sound.outstanding;
              reached = g.sound.reached;
            };
            asked = g.asked;
            reports = g.reports;
          }

  -- a reply comes ------------------------------------------------------------------------------------------

  module _ (s : Sweep) (sound : IsSoundSweep (fabric_of start) seat s) (bytes : List ℕ) (is : IsForManager start seat bytes) (answer : Answer)
      (taken : judged s bytes ≡ Ok answer) where
    pub accepted_as : IsAccepted s bytes answer
    accepted_as = accepted s bytes answer taken

    pub found : FoundSound (fabric_of start) seat (belongs s.generation bytes) accepted_as.request
    found = found_sound (fabric_of start) seat (belongs s.generation bytes) s.outstanding accepted_as.request sound.outstanding accepted_as.belongs

    pub for : IsFor bytes accepted_as.request
    for = is_for_it s.generation bytes accepted_as.request found.passes

    pub told : TellsOfEnd (fabric_of start) seat bytes
    told = is_told start (record { at = seat; packet = directed_packet bytes }) is (accepted_as.good.directed, accepted_as.good.returning)

    pub leads : directed_end (fabric_of start) seat accepted_as.request.path ≡ Some told.end
    leads = ap (directed_end (fabric_of start) seat) (sym (path_is bytes accepted_as.request for is.whole.count found.sound.sound.short)) ∙ told.leads

    pub says : SaysOf (fabric_of start) told.end bytes
    says = told.says accepted_as.good.done_is

    pub node_good : number_in attribute_id bytes ≡ node_info → IsGoodNode accepted_as.request.context bytes
    node_good attribute =
        good_node accepted_as.request.context bytes attribute
        (attribute_good accepted_as.request.question (report_for s accepted_as.request bytes) accepted_as.judged_is (sym for.attribute ∙ attribute))

    pub reply_sound : IsSoundSweep (fabric_of start) seat (after_reply s bytes)
    unfolding ended
    reply_sound =
        subst (λ m. IsSoundSweep (fabric_of start) seat (after_reply_to s bytes m)) (sym accepted_as.belongs)
        (sound_with_images (fabric_of start) seat (images_with s.images accepted_as.request bytes) (replies.by_question (fabric_of start) seat s sound accepted_as.request can bytes told.end leads says for found.sound accepted_as.request.question refl
        accepted_as.request.context refl found.sound.sound accepted_as.room node_good))

    reply_true : AreTrue (fabric_of start) (sightings_by answer)
    reply_true =
        subst (λ x. AreTrue (fabric_of start) (sightings_by x)) (sym accepted_as.answer_is)
        (facts.by_question (fabric_of start) seat cabled s.generation accepted_as.request bytes told.end leads says for
        node_good accepted_as.request.question refl accepted_as.request.context refl found.sound.sound.asks)

  reply_goes : (w : Sweeping) → Goes w → (bytes : List ℕ) → IsForManager start seat bytes → (answer : Answer) → judged w.sweep bytes ≡ Ok answer
      → Goes (record w { sweep = after_reply w.sweep bytes; reports = w.reports ++ reports_of answer })
  reply_goes w g bytes is answer taken =
      record {
        scene = g.scene;
        seat_is = g.seat_is;
        sound = reply_sound w.sweep g.sound bytes is answer taken;
        asked = g.asked;
        reports = reports_more w.reports answer g.reports (reply_true w.sweep g.sound bytes is answer taken);
      }

  -- what is handed up at its seat is for it
  pub at_seat : (w : Sweeping) (h : Handed) → Goes w → is_same_port h.at w.seat ≡ true → IsForManager start h.at h.packet.bytes
      → IsForManager start seat h.packet.bytes
  at_seat w h g same was = subst (λ p. IsForManager start p h.packet.bytes) (same_port-is h.at w.seat same ∙ g.seat_is) was

  hearing_goes : (w : Sweeping) (m : Option Handed) → Goes w → ((h : Handed) → m ≡ Some h → IsForManager start h.at h.packet.bytes) → Goes (hearing w m)
  hearing_goes w None g were = g
  hearing_goes w (Some h) g were =
      cond_both (is_same_port h.at w.seat) _ _ Goes (λ same. judged_goes (at_seat w h g same (were h refl)) (judged w.sweep h.packet.bytes) refl) (λ _. g)
    where
      judged_goes : IsForManager start seat h.packet.bytes → (r : Result Answer SweepFault) → judged w.sweep h.packet.bytes ≡ r
          → Goes (with_answer w h.packet.bytes r)
      judged_goes is (Ok answer) e = reply_goes w g h.packet.bytes is answer e
      judged_goes is (Err why) e = g

  -- any event -----------------------------------------------------------------------------------------------

  pub goes_on : (w : Sweeping) (event : SweepEvent) → Goes w → CanBe event → Goes (after_sweep_event w event)
  goes_on w (Around event) g can_be =
      record {
        scene = continued cables counts w.scene event g.scene can_be;
        seat_is = g.seat_is;
        sound = g.sound;
        asked = g.asked;
        reports = g.reports;
      }
  goes_on w Ask g can_be = asking_goes w g
  goes_on w (Send which) g can_be = sending_goes w (slice_get w.asked which) g (λ packet e. asked_there w.asked which packet g.asked e)
  goes_on w (Hear which) g can_be =
      hearing_goes w (slice_get w.scene.handed which) g (λ h e. was_there start w.scene.handed which h g.scene.handed e)
  goes_on w (TimeOut transaction) g can_be = timeout_goes w transaction g

  pub all_go_on : (events : List SweepEvent) (w : Sweeping) → Goes w → All CanBe events → Goes (after_sweep_events events w)
  all_go_on [] w g all = g
  all_go_on (event ∷ events) w g all =
      all_go_on events (after_sweep_event w event) (goes_on w event g (All-head CanBe event events all)) (All-tail CanBe event events all)

  all_reports : (reports : List Report) → AreTrueReports reports
      → All (λ report. All (IsTrueSighting (fabric_of start)) (sightings_of report)) reports
  all_reports [] all = All-nil (λ report. All (IsTrueSighting (fabric_of start)) (sightings_of report))
  all_reports (report ∷ reports) all =
      All-cons (λ x. All (IsTrueSighting (fabric_of start)) (sightings_of x)) report reports
      (all_true (fabric_of start) (sightings_of report) all.0) (all_reports reports all.1)

-- at the beginning ------------------------------------------------------------------------------------------

module _ (w : Sweeping) (generation first : ℕ) (begins : Begins w generation first) where
  pub few_ports_there : (id : ℕ) → port_count w.scene.fabric id ≤ 254
  few_ports_there = few_ports w.scene.fabric (along_itself w.scene.fabric begins.quiet.fabric).agents

  pub can_sweep : CanBeSwept (fabric_of w.scene.fabric) w.seat
  can_sweep = can_be_swept w.scene.fabric begins.quiet.fabric w.seat begins.seat begins.distinct

  pub cabled_there : IsCabled (fabric_of w.scene.fabric)
  cabled_there = is_cabled w.scene.fabric begins.quiet.fabric

  pub goes_first : Goes begins.quiet.fabric.cables few_ports_there can_sweep cabled_there w
  goes_first =
      let sweep : IsSoundSweep (fabric_of w.scene.fabric) w.seat (started w.seat.port generation first begins.keeps) = record {
        origin = refl;
        generation = begins.generation;
        next = let few = begins.first in omega (arith, few);
        queued = (record { sound = record { own = tt; short = omega arith; asks = refl }; number = begins.first }, tt);
        outstanding = tt;
        reached = tt;
      } in
      record {
        scene = begun w.scene begins.quiet;
        seat_is = refl;
        sound = subst (IsSoundSweep (fabric_of w.scene.fabric) w.seat) (sym begins.sweep) sweep;
        asked = subst (WereAsked begins.quiet.fabric.cables few_ports_there can_sweep cabled_there) (sym begins.asked) tt;
        reports = subst (AreTrueReports begins.quiet.fabric.cables few_ports_there can_sweep cabled_there) (sym begins.reports) tt;
      }

-- the law ---------------------------------------------------------------------------------------------------

pub accepted_facts_are_true : AcceptedFactsAreTrue
accepted_facts_are_true w generation first events begins all =
    let cables = begins.quiet.fabric.cables in
    let counts = few_ports_there w generation first begins in
    let can = can_sweep w generation first begins in
    let cabled = cabled_there w generation first begins in
    all_reports cables counts can cabled _ (all_go_on cables counts can cabled events w (goes_first w generation first begins) all).reports
