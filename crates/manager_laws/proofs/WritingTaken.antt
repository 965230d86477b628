-- What the agents hold of the steps that are answered, as a fabric goes on.
use Rattle.std.proofs.Common.{◌≡◌, ◌⊎◌, inl, inr, ℕ, zero, suc, ◌+◌, ◌<◌, ◌≤◌, ◌^◌, Bool, true, false, cond, List, [], ◌∷◌, length}
use Rattle.std.proofs.Common.{map, refl, sym, ap, ◌∙◌, subst, arith}
use Rattle.fabric_sim.proofs.AgentLists.{others_stay}
use Rattle.std.proofs.lemmas.Bool.{and_parts, le-leb, leb-true, eq-eqb, eqb-true, eqb-false, or_right}
use Rattle.std.proofs.lemmas.List.{ext_get_or}
use Rattle.std.proofs.lemmas.Option.{same_Some, slice_get-map}
use Rattle.std.specs.Prelude.{Option, Some, None, not, option_map, slice_get, slice_set, nat_le, ◌==◌, ◌||◌}
use Rattle.std.specs.Option.{option_map_or}
use Rattle.fabric_model.specs.declared.cable.NodePort.{NodePort}
use Rattle.smp_bytes.specs.NodeType as types
use Rattle.smp_bytes.specs.Header.{set, done, port_info}
use Rattle.smp_bytes.specs.Field.{number_in, bytes_in}
use Rattle.smp_bytes.specs.Packet.{method, attribute_id, attribute_modifier, attribute_data, hop_count, status}
use Rattle.fabric_model.specs.Fabric.{Node, IsNodeAt}
use Rattle.smp_bytes.specs.ReadBack.{FitsRequest}
use Rattle.fabric_model.specs.DirectedWalk.{directed_end}
use Rattle.smp_bytes.proofs.OffsetLaws.{bytes_in-alike}
use Rattle.smp_bytes.proofs.Made.{directed_reads_back}
use Rattle.dr_forward.proofs.Trips.{field_kept, IsRequestOver, IsOut}
use Rattle.reply_facts.specs.Report.{guid_port}
use Rattle.node_agents.specs.declared.agent_node.AgentNode.{AgentNode}
use Rattle.node_agents.specs.Agent.{Agent, IsAgent, is_switch, node_of, port_guid}
use Rattle.node_agents.specs.PortInfo.{port_meant, has_lid}
use Rattle.node_agents.specs.Answers.{after_answer}
use Rattle.node_agents.proofs.SameRequests.{told_same}
use Rattle.fabric_sim.specs.declared.flight.Flight.{Flight}
use Rattle.fabric_sim.specs.Simulation.{Simulation, agent_at, port_count, fabric_of, port_of}
use Rattle.fabric_sim.specs.Delivery.{after_deliver, with_changed, answer_at}
use Rattle.fabric_sim.specs.ThereAndBack.{BeginsWith}
use Rattle.fabric_sim.proofs.TracedCalls.{IsAskedBy, AsksAnAgent}
use Rattle.fabric_sim.proofs.TripShapes.{IsAlong, agent_there, nodes_of}
use Rattle.fabric_sim.proofs.TripEnds.{changed_there}
use Rattle.plan_steps.specs.Step.{set_packet}
use Rattle.attr_codec.specs.PortInfo.{range_in}
use Rattle.attr_codec.specs.SwitchInfo.{linear_fdb_top}
use Rattle.lft_blocks.specs.Plan.{PlanValue, block_at}
use Rattle.manager_laws.specs.Sets.{TakesSet, Carries}
use Rattle.manager_laws.proofs.AgentSets.{Holds, IsOfPlan, AsksFor, own_set_holds, held_stays}
use Rattle.manager_laws.proofs.Steps.{StepSent, IsSendable}

-- nodes of agents ---------------------------------------------------------------------------------

-- what forwarding sees of a node as it was built
node_by : AgentNode → Node
node_by n = record { guid = n.guid; kind = n.kind; ports = n.ports; cap = n.cap; port_guid = port_guid n }

seen_at : (agents : List Agent) (id : ℕ) → slice_get (map node_of agents) id ≡ option_map node_by (slice_get (nodes_of agents) id)
unfolding node_by
seen_at [] id = refl
seen_at (a ∷ agents) zero = refl
seen_at (a ∷ agents) (suc id) = seen_at agents id

named_at : (agents : List Agent) (id : ℕ) (a : Agent) → slice_get agents id ≡ Some a → slice_get (nodes_of agents) id ≡ Some a.node
named_at agents id a there = slice_get-map (λ (x : Agent). x.node) agents id ∙ ap (option_map (λ (x : Agent). x.node)) there

-- the node at a id is that of the agent there, whatever happened meanwhile
pub node_of_agent : (start s : Simulation) → IsAlong start s → (id : ℕ) (node : Node) (a : Agent) → IsNodeAt (fabric_of start) id node
    → agent_at s id ≡ Some a → node ≡ node_of a
unfolding node_by
node_of_agent start s along id node a there agent =
    same_Some _ _ (sym there ∙ seen_at start.agents id ∙ ap (λ ns. option_map node_by (slice_get ns id)) (sym along.nodes)
    ∙ ap (option_map node_by) (named_at s.agents id a agent))

-- the node at a id is the one that was there
pub nodes_stay : (start s : Simulation) → IsAlong start s → (id : ℕ) (node : Node) → IsNodeAt (fabric_of s) id node
    → IsNodeAt (fabric_of start) id node
unfolding node_by
nodes_stay start s along id node there =
    seen_at start.agents id ∙ ap (λ ns. option_map node_by (slice_get ns id)) (sym along.nodes) ∙ sym (seen_at s.agents id) ∙ there

-- the bytes of a step's Set -------------------------------------------------------------------------

pub fits_step : (p : StepSent) → IsSendable p.step → p.number < 2 ^ 32 → FitsRequest set p.step.attribute p.step.modifier p.number p.step.payload
fits_step p sendable small =
    record {
      method = omega arith;
      attribute_id = sendable.attribute;
      attribute_modifier = sendable.modifier;
      transaction_id = omega (arith, small);
      attribute_data = sendable.whole;
    }

-- a request over a path, which is a step's Set, goes the step's path
pub same_path : (p : StepSent) (path request : List ℕ) → IsSendable p.step → length p.step.path ≤ 63 → p.number < 2 ^ 32 → IsRequestOver path request
    → request ≡ set_packet p.number p.step → path ≡ p.step.path
same_path p path request sendable short small over e =
    let (holds, along) = directed_reads_back set p.step.attribute p.step.modifier p.number p.step.path p.step.payload (fits_step p sendable small) short in
    let size : length path ≡ length p.step.path = sym over.hops ∙ ap (number_in hop_count) e ∙ along.hop_count in
    ext_get_or 0 path p.step.path size (λ i less.
    sym (over.ports i less) ∙ ap (number_in (record { at = 128 + (i + 1); len = 1 })) e ∙ along.ports i (omega (arith, less, size)))

-- as it comes to the agent, it asks for what the step sets
pub asks_for_step : (p : StepSent) (request bytes : List ℕ) (notes : ℕ → ℕ) (k : ℕ) → IsSendable p.step → length p.step.path ≤ 63 → p.number < 2 ^ 32
    → request ≡ set_packet p.number p.step → IsOut request notes k bytes → AsksFor p.step bytes
asks_for_step p request bytes notes k sendable short small e out =
    let (holds, along) = directed_reads_back set p.step.attribute p.step.modifier p.number p.step.path p.step.payload (fits_step p sendable small) short in
    record {
      method = field_kept method request bytes (inl (omega arith)) out.kept ∙ ap (number_in method) e ∙ holds.method;
      attribute = field_kept attribute_id request bytes (inr (omega arith, omega arith)) out.kept ∙ ap (number_in attribute_id) e ∙ holds.attribute_id;
      modifier = field_kept attribute_modifier request bytes (inr (omega arith, omega arith)) out.kept ∙ ap (number_in attribute_modifier) e
          ∙ holds.attribute_modifier;
      payload = bytes_in-alike attribute_data bytes request (let count = out.count in omega (arith, count))
          (let count = ap length e ∙ holds.count in omega (arith, count))
          (λ id from less. out.kept id (inr (omega (arith, from), omega (arith, less))))
          ∙ ap (bytes_in attribute_data) e
          ∙ holds.attribute_data;
    }

-- what is known of a step -----------------------------------------------------------------------------

module _ (start : Simulation) (seat : NodePort) (plan : PlanValue) where
  -- a step with its number, where it goes, and what it sets there
  pub record IsGood (p : StepSent) : Type 0 where
    pub sendable : IsSendable p.step
    pub own : BeginsWith seat.port p.step.path
    pub short : length p.step.path ≤ 63
    pub end : NodePort
    pub node : Node
    pub leads : directed_end (fabric_of start) seat p.step.path ≡ Some end
    pub there : IsNodeAt (fabric_of start) end.node node
    pub of_plan : p.counts ≡ true → IsOfPlan plan node.guid p.step
    pub port : p.counts ≡ true → p.step.attribute ≡ port_info → p.step.modifier ≡ guid_port node.kind end.port

  -- the agent at its path's end holds what it sets, where it counts
  pub record IsDone (s : Simulation) (p : StepSent) : Type 0 where
    pub holds : p.counts ≡ true → (end : NodePort) (a : Agent) → directed_end (fabric_of start) seat p.step.path ≡ Some end → agent_at s end.node ≡ Some a
        → Holds a p.step

-- ports with LIDs ------------------------------------------------------------------------------------

has_lid_of : (b : Bool) (m local : ℕ) → m ≡ cond b 0 local → (not b || m == 0) ≡ true
has_lid_of true m local e = eq-eqb m 0 e
has_lid_of false m local e = refl

meant_of : (b inside : Bool) (m local : ℕ) → m ≡ cond b 0 local → (b ≡ true → inside ≡ true)
    → cond b (cond inside (Some m) None) (cond (m == 0 || m == local) (Some local) None) ≡ Some m
meant_of true inside m local e h = ap (λ c. cond c (Some m) None) (h refl)
meant_of false inside m local e h =
    ap (λ c. cond c (Some local) None) (or_right (m == 0) (m == local) (eq-eqb m local e)) ∙ ap (λ n. Some n) (sym e)

-- a vertex's own port has a LID, and is meant by its number
module _ (node : Node) (a : Agent) (same : node ≡ node_of a) (m local : ℕ) (e : m ≡ guid_port node.kind local) where
  own_port : m ≡ cond (is_switch a) 0 local
  own_port = e ∙ ap (λ (n : Node). cond (types.is_switch n.kind) 0 local) same

  has_own_lid : has_lid a m ≡ true
  has_own_lid = has_lid_of (is_switch a) m local own_port

  pub means_own_port : port_meant a m local ≡ Some m
  means_own_port =
      meant_of (is_switch a) (nat_le m a.node.ports) m local own_port
      (λ switch. let zero_is : m ≡ 0 = own_port ∙ ap (λ b. cond b 0 local) switch in le-leb m a.node.ports (omega (arith, zero_is)))

-- lists of agents ---------------------------------------------------------------------------------------

-- the agent at the id of a change was another one before
pub record WasAt (agents : List Agent) (id : ℕ) (change : Agent → Agent) (after : Agent) : Type 0 where
  pub before : Agent
  pub there : slice_get agents id ≡ Some before
  pub is : after ≡ change before

pub was_at : (agents : List Agent) (id : ℕ) (change : Agent → Agent) (after : Agent) → slice_get (with_changed agents id change) id ≡ Some after
    → WasAt agents id change after
was_at agents id change after e = by_agent (slice_get agents id) refl e
  where
    by_agent : (m : Option Agent) → slice_get agents id ≡ m → slice_get (option_map_or (λ a. slice_set agents id (change a)) m agents) id ≡ Some after
        → WasAt agents id change after
    by_agent None there h = absurd (cc (sym there ∙ h))
    by_agent (Some a) there h =
        record {
          before = a;
          there = there;
          is = same_Some _ _
              (sym h ∙ ap (λ m. slice_get (option_map_or (λ x. slice_set agents id (change x)) m agents) id) (sym there)
              ∙ changed_there agents id a change there);
        }

-- a delivery ----------------------------------------------------------------------------------------------

module _ (start s : Simulation) (seat : NodePort) (plan : PlanValue) (along : IsAlong start s) (n : ℕ) where
  -- a request that the delivery brings to an agent
  module _ (flight : Flight) (request : List ℕ) (asked : IsAskedBy s n flight request) where
    at : NodePort
    at = port_of flight.whereabouts

    pub upto : (a : Agent) → agent_at s (port_of flight.whereabouts).node ≡ Some a → (port_of flight.whereabouts).port ≤ a.node.ports
    upto a there =
        let parts = and_parts (nat_le 1 (port_of flight.whereabouts).port)
        (nat_le (port_of flight.whereabouts).port (port_count s (port_of flight.whereabouts).node)) asked.port in
        let most : (port_of flight.whereabouts).port ≤ port_count s (port_of flight.whereabouts).node = leb-true _ _ parts.1 in
        let count : port_count s (port_of flight.whereabouts).node ≡ a.node.ports = ap (λ o. option_map_or (λ (x : Agent). x.node.ports) o 0) there in
        omega (arith, most, count)

    -- a step's own Set that is taken
    pub own_done : (p : StepSent) → IsGood start seat plan p → p.number < 2 ^ 32 → (path sent : List ℕ) (notes : ℕ → ℕ) (k : ℕ) → IsRequestOver path sent
        → sent ≡ set_packet p.number p.step → directed_end (fabric_of start) seat path ≡ Some (port_of flight.whereabouts) → IsOut sent notes k request
        → status (answer_at s (port_of flight.whereabouts) request) ≡ done → IsDone start seat plan (after_deliver s n).fabric p
    own_done p good small path sent notes k over e leads out is_done =
        record {
          holds = λ counts end a end_is there. by_end counts end a
              (same_Some _ _ (sym end_is ∙ ap (directed_end (fabric_of start) seat) (sym way) ∙ leads)) end_is there;
        }
      where
        way : path ≡ p.step.path
        way = same_path p path sent good.sendable good.short small over e

        asks : AsksFor p.step request
        asks = asks_for_step p sent request notes k good.sendable good.short small e out

        by_end : p.counts ≡ true → (end : NodePort) (a : Agent) → end ≡ port_of flight.whereabouts → directed_end (fabric_of start) seat p.step.path ≡ Some end
            → agent_at (after_deliver s n).fabric end.node ≡ Some a → Holds a p.step
        by_end counts end a same end_is there =
            let change : Agent → Agent = λ x. (after_answer x request (port_of flight.whereabouts).port).agent in
            let here : slice_get (with_changed s.agents (port_of flight.whereabouts).node change) (port_of flight.whereabouts).node ≡ Some a =
            ap (λ xs. slice_get xs (port_of flight.whereabouts).node) (sym asked.agents)
            ∙ ap (λ (q : NodePort). slice_get (after_deliver s n).fabric.agents q.node) (sym same) ∙ there in
            let was = was_at s.agents (port_of flight.whereabouts).node change a here in
            let b = was.before in
            let is_agent : IsAgent b = agent_there s.agents (port_of flight.whereabouts).node b along.agents was.there in
            let done_b : status (after_answer b request (port_of flight.whereabouts).port).packet ≡ done =
            ap status (sym (ap (λ o. option_map_or (λ x. (after_answer x request (port_of flight.whereabouts).port).packet) o request) was.there)) ∙ is_done in
            let ends : good.end ≡ port_of flight.whereabouts = same_Some _ _ (sym good.leads ∙ end_is) ∙ same in
            let node : good.node ≡ node_of b = node_of_agent start s along (port_of flight.whereabouts).node good.node b
            (subst (λ (q : NodePort). IsNodeAt (fabric_of start) q.node good.node) ends good.there) was.there in
            let port_is : p.step.attribute ≡ port_info → p.step.modifier ≡ guid_port good.node.kind (port_of flight.whereabouts).port =
            λ f. good.port counts f ∙ ap (λ (q : NodePort). guid_port good.node.kind q.port) ends in
            subst (λ (x : Agent). Holds x p.step) (sym was.is)
            (own_set_holds b request (port_of flight.whereabouts).port is_agent asked.whole (upto b was.there) asks.method done_b p.step asks
            (record {
              meant = λ f. means_own_port good.node b node p.step.modifier (port_of flight.whereabouts).port (port_is f);
              has = λ f. has_own_lid good.node b node p.step.modifier (port_of flight.whereabouts).port (port_is f);
            }))

    -- what was done stays done
    module _ (keeps : (at : NodePort) (a : Agent) (packet : List ℕ) → TakesSet s n at a packet → Carries plan a at.port packet) where
      pub carries : (b : Agent) → agent_at s (port_of flight.whereabouts).node ≡ Some b → number_in method request ≡ set
          → status (after_answer b request (port_of flight.whereabouts).port).packet ≡ done → Carries plan b (port_of flight.whereabouts).port request
      carries b there sets taken =
          let is_agent : IsAgent b = agent_there s.agents (port_of flight.whereabouts).node b along.agents there in
          let told = told_same b request flight.packet.bytes (port_of flight.whereabouts).port is_agent asked.whole asked.readable asked.alike in
          let c = keeps (port_of flight.whereabouts) b flight.packet.bytes (record {
            flight = flight;
            waits = asked.waits;
            waits_at = refl;
            bytes = refl;
            there = there;
            result = asked.result;
            method = sym asked.alike.method_is ∙ sets;
            done = sym told.status_is ∙ taken;
          }) in
          record {
            lids = λ e port range meant has. ap range_in asked.alike.data_is
                ∙ c.lids (sym asked.alike.attribute_is ∙ e) port range
                (ap (λ m. port_meant b m (port_of flight.whereabouts).port) (sym asked.alike.modifier_is) ∙ meant) has;
            top = λ e top switch is_top. ap (number_in linear_fdb_top) asked.alike.data_is ∙ c.top (sym asked.alike.attribute_is ∙ e) top switch is_top;
            block = λ e block there_is. asked.alike.data_is
                ∙ c.block (sym asked.alike.attribute_is ∙ e) block (ap (block_at plan b.node.guid) (sym asked.alike.modifier_is) ∙ there_is);
          }

      asked_stays : (p : StepSent) → IsGood start seat plan p → IsDone start seat plan s p → IsDone start seat plan (after_deliver s n).fabric p
      asked_stays p good held =
          record { holds = λ counts end a end_is there. by_id counts end a end_is there ((port_of flight.whereabouts).node == end.node) refl }
        where
          change : Agent → Agent
          change x = (after_answer x request (port_of flight.whereabouts).port).agent

          by_id : p.counts ≡ true → (end : NodePort) (a : Agent) → directed_end (fabric_of start) seat p.step.path ≡ Some end
              → agent_at (after_deliver s n).fabric end.node ≡ Some a → (b : Bool) → ((port_of flight.whereabouts).node == end.node) ≡ b → Holds a p.step
          by_id counts end a end_is there false other =
              held.holds counts end a end_is
              (sym (others_stay s.agents (port_of flight.whereabouts).node end.node change (eqb-false _ _ other))
              ∙ ap (λ xs. slice_get xs end.node) (sym asked.agents) ∙ there)
          by_id counts end a end_is there true same_is =
              let same : (port_of flight.whereabouts).node ≡ end.node = eqb-true _ _ same_is in
              let here : slice_get (with_changed s.agents (port_of flight.whereabouts).node change) (port_of flight.whereabouts).node ≡ Some a =
              ap (λ xs. slice_get xs (port_of flight.whereabouts).node) (sym asked.agents) ∙ ap (slice_get (after_deliver s n).fabric.agents) same ∙ there in
              let was = was_at s.agents (port_of flight.whereabouts).node change a here in
              let b = was.before in
              let at_end : agent_at s end.node ≡ Some b = ap (slice_get s.agents) (sym same) ∙ was.there in
              let is_agent : IsAgent b = agent_there s.agents (port_of flight.whereabouts).node b along.agents was.there in
              let ends : good.end ≡ end = same_Some _ _ (sym good.leads ∙ end_is) in
              let node : good.node ≡ node_of b = node_of_agent start s along end.node good.node b
              (subst (λ (q : NodePort). IsNodeAt (fabric_of start) q.node good.node) ends good.there) at_end in
              subst (λ (x : Agent). Holds x p.step) (sym was.is)
              (held_stays b request (port_of flight.whereabouts).port is_agent asked.whole (upto b was.there) plan p.step
              (subst (λ (k : ℕ). IsOfPlan plan k p.step) (ap (λ (x : Node). x.guid) node) (good.of_plan counts))
              (λ f. has_own_lid good.node b node p.step.modifier good.end.port (good.port counts f))
              (carries b was.there) (held.holds counts end b end_is at_end))

  pub done_stays : (keeps : (at : NodePort) (a : Agent) (packet : List ℕ) → TakesSet s n at a packet → Carries plan a at.port packet)
      → ((after_deliver s n).fabric.agents ≡ s.agents) ⊎ AsksAnAgent s n
      → (p : StepSent) → IsGood start seat plan p → IsDone start seat plan s p → IsDone start seat plan (after_deliver s n).fabric p
  done_stays keeps (inl same) p good held =
      record { holds = λ counts end a end_is there. held.holds counts end a end_is (ap (λ xs. slice_get xs end.node) (sym same) ∙ there) }
  done_stays keeps (inr asks) p good held = asked_stays asks.flight asks.request asks.asked keeps p good held
