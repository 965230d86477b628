-- What no request changes of an agent.
use Rattle.std.proofs.Common.{◌≡◌, ℕ, ◌+◌, ◌*◌, ◌<◌, ◌≤◌, Bool, true, false, List, inl, inr, refl, sym, ap, ◌∙◌, subst, arith, length, drop}
use Rattle.std.specs.Prelude.{Option, Some, None, Result, Ok, Err, option_map, if◌then◌else◌, ◌==◌, ◌&&◌, nat_le, nat_lt}
use Rattle.std.specs.Option.{ok_or}
use Rattle.std.proofs.lemmas.Bool.{and_parts, ltb-true, cases_lt}
use Rattle.std.proofs.lemmas.List.{get_or_past, length-set, length-take}
use Rattle.std.proofs.lemmas.List.Elements.{All-set, All-get_or}
use Rattle.smp_bytes.specs.Header.{get, set, switch_info, port_info, linear_forwarding_table, multicast_forwarding_table}
use Rattle.smp_bytes.specs.Field.{number_in, bytes_in, with_bytes}
use Rattle.smp_bytes.specs.Packet.{method, attribute_id, attribute_modifier, attribute_data}
use Rattle.smp_bytes.proofs.FieldLaws.{length-with_bytes}
use Rattle.attr_codec.specs.SwitchInfo.{linear_fdb_top}
use Rattle.attr_codec.specs.declared.port_state.PortState.TheVariants.{Down}
use Rattle.node_agents.specs.declared.agent_node.AgentNode.{AgentNode}
use Rattle.node_agents.specs.declared.port.Port.{Port}
use Rattle.node_agents.specs.declared.refusal.Refusal.{Refusal}
use Rattle.node_agents.specs.declared.refusal.Refusal.TheVariants.{MethodAndAttribute, InvalidField}
use Rattle.node_agents.specs.Agent.{Agent, IsAgent, IsPort, is_switch, port_in, port_at, with_port, block_count, position_count}
use Rattle.node_agents.specs.SwitchInfo.{set_switch_info}
use Rattle.node_agents.specs.LftBlock.{has_block, set_block}
use Rattle.node_agents.specs.MftBlock.{has_masks, position_in, set_masks}
use Rattle.node_agents.specs.PortInfo.{changed_port, set_port_info}
use Rattle.node_agents.specs.Answers.{set_of, after_request, Met, met_set, after_answer}
use Rattle.node_agents.specs.AnswerLaws.{KeepsShape, AnsweredKeepsShape, AnsweredIsAgent}
use Rattle.node_agents.proofs.PortSteps.{Steps, steps_changed, steps-slice_set}

-- what a request leaves of an agent: its shape, and that it is one
pub record Keeps (a b : Agent) : Type 0 where
  pub shape : KeepsShape a b
  pub is_agent : IsAgent a → IsAgent b

pub keeps_same : (a : Agent) → Keeps a a
keeps_same a = record { shape = record { node = refl; down = λ port. (λ h. h, λ h. h); seats = λ port. refl }; is_agent = λ h. h }

-- an agent with the same node and ports has the same shape
same_ports : (a : Agent) (table : List ℕ) (top : ℕ) (masks : List ℕ)
    → KeepsShape a (record { node = a.node; ports = a.ports; table = table; top = top; masks = masks })
same_ports a table top masks = record { node = refl; down = λ port. (λ h. h, λ h. h); seats = λ port. refl }

-- a port ------------------------------------------------------------------------------

is_port-absent : (kind : _) → IsPort kind (port_in Down)
is_port-absent kind = record { state = λ e. cc; base_lid = omega arith; is_sm = λ h. refl }

-- each port of an agent is as a port is; also one that it lacks
pub is_port_at : (a : Agent) → IsAgent a → (port : ℕ) → IsPort a.node.kind (port_at a port)
is_port_at a is port =
    elim (cases_lt port (length a.ports)) [
      | inl there ↦ All-get_or (IsPort a.node.kind) a.ports port (port_in Down) there is.ports
      | inr beyond ↦ subst (IsPort a.node.kind) (sym (get_or_past a.ports port (port_in Down) beyond)) (is_port-absent a.node.kind)
    ]

pub keeps-with_port : (a : Agent) (port : ℕ) (new : Port) → Steps (port_at a port) new → Keeps a (with_port a port new)
keeps-with_port a port new steps =
    let each : (index : ℕ) → Steps (port_at a index) (port_at (with_port a port new) index) = λ index.
    steps-slice_set a.ports port index new (port_in Down) steps in
    record {
      shape = record { node = refl; down = λ index. ((each index).state.not_down, (each index).state.down); seats = λ index. (each index).is_sm };
      is_agent = λ is. let old = is_port_at a is port in
          let after : IsPort a.node.kind new = record {
            state = steps.state.known old.state;
            base_lid = steps.base_lid old.base_lid;
            is_sm = λ h. steps.is_sm ∙ old.is_sm h;
          } in
          record {
            node = is.node;
            description = is.description;
            count = length-set a.ports port new ∙ is.count;
            ports = All-set (IsPort a.node.kind) a.ports port new after is.ports;
            port_zero = λ h. (each 0).state.active (is.port_zero h);
            table = is.table;
            top = is.top;
            masks = is.masks;
          };
    }

pub is_agent-changed : (a old : Agent) (modifier arrival index : ℕ) (payload : List ℕ) (changed : ℕ × Port) → IsAgent a → a ≡ old
    → Some changed ≡ changed_port old modifier arrival payload → index ≡ changed.0 → IsAgent (with_port a index changed.1)
is_agent-changed a old modifier arrival index payload changed is same h there =
    let e : changed_port a modifier arrival payload ≡ Some changed = ap (λ (x : Agent). changed_port x modifier arrival payload) same ∙ sym h in
    let kept = (keeps-with_port a changed.0 changed.1 (steps_changed a payload changed modifier arrival e)).is_agent is in
    subst (λ (n : ℕ). IsAgent (with_port a n changed.1)) (sym there) kept

-- what a Set makes of an agent ------------------------------------------------------------

port_taken : (a b : Agent) (m : Option (ℕ × Port)) → ((changed : ℕ × Port) → m ≡ Some changed → Steps (port_at a changed.0) changed.1)
    → option_map (λ changed. with_port a changed.0 changed.1) m ≡ Some b → Keeps a b
port_taken a b None steps h = cc
port_taken a b (Some changed) steps h =
    let e : with_port a changed.0 changed.1 ≡ b = cc in subst (Keeps a) e (keeps-with_port a changed.0 changed.1 (steps changed refl))

pub keeps-set_port_info : (a b : Agent) (modifier arrival : ℕ) (payload : List ℕ) → set_port_info a modifier arrival payload ≡ Some b → Keeps a b
keeps-set_port_info a b modifier arrival payload h = port_taken a b _ (λ changed. steps_changed a payload changed modifier arrival) h

top_taken : (a b : Agent) (top : ℕ) (fits : Bool) → (fits ≡ true → top < a.node.cap)
    → (if fits then Some (record a { top = top }) else None) ≡ Some b → Keeps a b
top_taken a b top false fits h = cc
top_taken a b top true fits h =
    let e : record a { top = top } ≡ b = cc in
    let kept : Keeps a (record a { top = top }) = record {
      shape = same_ports a a.table top a.masks;
      is_agent = λ is. record {
        node = is.node;
        description = is.description;
        count = is.count;
        ports = is.ports;
        port_zero = is.port_zero;
        table = is.table;
        top = inr (fits refl);
        masks = is.masks;
      };
    } in
    subst (Keeps a) e kept

pub keeps-set_switch_info : (a b : Agent) (payload : List ℕ) → set_switch_info a payload ≡ Some b → Keeps a b
keeps-set_switch_info a b payload h =
    let top = number_in linear_fdb_top payload in top_taken a b top (nat_lt top a.node.cap) (λ e. ltb-true _ _ e) h

-- a block of the table lies within it
pub block_within : (a : Agent) (block : ℕ) → IsAgent a → has_block a block ≡ true → 64 * block + 64 ≤ length a.table
block_within a block is h =
    let below : 64 * block < a.node.cap = ltb-true (64 * block) a.node.cap (and_parts (nat_le block 767) _ h).1 in
    let whole : length a.table ≡ 64 * block_count a.node.cap = is.table in
    omega arith

block_taken : (a b : Agent) (block : ℕ) (payload : List ℕ) (has : Bool) → length payload ≤ 64 → (has ≡ true → has_block a block ≡ true)
    → (if has then Some (record a { table = with_bytes (64 * block) payload a.table }) else None) ≡ Some b → Keeps a b
block_taken a b block payload false small has h = cc
block_taken a b block payload true small has h =
    let e : record a { table = with_bytes (64 * block) payload a.table } ≡ b = cc in
    let kept : Keeps a (record a { table = with_bytes (64 * block) payload a.table }) = record {
      shape = same_ports a (with_bytes (64 * block) payload a.table) a.top a.masks;
      is_agent = λ is. let within = block_within a block is (has refl) in record {
        node = is.node;
        description = is.description;
        count = is.count;
        ports = is.ports;
        port_zero = is.port_zero;
        table = length-with_bytes (64 * block) payload a.table (omega arith) ∙ is.table;
        top = is.top;
        masks = is.masks;
      };
    } in
    subst (Keeps a) e kept

pub keeps-set_block : (a b : Agent) (block : ℕ) (payload : List ℕ) → length payload ≤ 64 → set_block a block payload ≡ Some b → Keeps a b
keeps-set_block a b block payload small h = block_taken a b block payload (has_block a block) small (λ e. e) h

-- a block of the multicast table lies within it
pub masks_within : (a : Agent) (modifier : ℕ) → IsAgent a → has_masks a modifier ≡ true → 64 * position_in modifier + 64 ≤ length a.masks
masks_within a modifier is h =
    let below : position_in modifier < position_count a.node = ltb-true _ _ (and_parts (nat_lt (position_in modifier) (position_count a.node)) _ h).0 in
    let whole = is.masks in
    omega (arith, below, whole)

masks_taken : (a b : Agent) (modifier : ℕ) (payload : List ℕ) (has : Bool) → length payload ≤ 64 → (has ≡ true → has_masks a modifier ≡ true)
    → (if has then Some (record a { masks = with_bytes (64 * position_in modifier) payload a.masks }) else None) ≡ Some b → Keeps a b
masks_taken a b modifier payload false small has h = cc
masks_taken a b modifier payload true small has h =
    let e : record a { masks = with_bytes (64 * position_in modifier) payload a.masks } ≡ b = cc in
    let kept : Keeps a (record a { masks = with_bytes (64 * position_in modifier) payload a.masks }) = record {
      shape = same_ports a a.table a.top (with_bytes (64 * position_in modifier) payload a.masks);
      is_agent = λ is. let within = masks_within a modifier is (has refl) in record {
        node = is.node;
        description = is.description;
        count = is.count;
        ports = is.ports;
        port_zero = is.port_zero;
        table = is.table;
        top = is.top;
        masks = length-with_bytes (64 * position_in modifier) payload a.masks (omega (arith, small, within)) ∙ is.masks;
      };
    } in
    subst (Keeps a) e kept

pub keeps-set_masks : (a b : Agent) (modifier : ℕ) (payload : List ℕ) → length payload ≤ 64 → set_masks a modifier payload ≡ Some b → Keeps a b
keeps-set_masks a b modifier payload small h = masks_taken a b modifier payload (has_masks a modifier) small (λ e. e) h

pub from_ok : (m : Option Agent) (b : Agent) → ok_or m InvalidField ≡ Ok b → m ≡ Some b
from_ok None b h = cc
from_ok (Some x) b h = cc

of_both : (a b : Agent) (c : Bool) (x y : Result Agent Refusal) → (x ≡ Ok b → Keeps a b) → (y ≡ Ok b → Keeps a b) → (if c then x else y) ≡ Ok b → Keeps a b
of_both a b true x y f g h = f h
of_both a b false x y f g h = g h

of_none : (a b : Agent) (refusal : Refusal) → ◌≡◌ {A = Result Agent Refusal} (Err refusal) (Ok b) → Keeps a b
of_none a b refusal h = cc

payload_small : (packet : List ℕ) → length (bytes_in attribute_data packet) ≤ 64
payload_small packet = omega (arith, length-take 64 (drop 64 packet))

-- a Set that is taken
pub keeps-set_of : (a b : Agent) (packet : List ℕ) (arrival : ℕ) → set_of a packet arrival ≡ Ok b → Keeps a b
unfolding set_of
keeps-set_of a b packet arrival =
    let attribute = number_in attribute_id packet in
    let modifier = number_in attribute_modifier packet in
    let payload = bytes_in attribute_data packet in
    of_both a b (attribute == port_info) (ok_or (set_port_info a modifier arrival payload) InvalidField) _
    (λ h. keeps-set_port_info a b modifier arrival payload (from_ok _ b h))
    (of_both a b (is_switch a && attribute == switch_info) (ok_or (set_switch_info a payload) InvalidField) _
    (λ h. keeps-set_switch_info a b payload (from_ok _ b h))
    (of_both a b (is_switch a && attribute == linear_forwarding_table) (ok_or (set_block a modifier payload) InvalidField) _
    (λ h. keeps-set_block a b modifier payload (payload_small packet) (from_ok _ b h))
    (of_both a b (is_switch a && attribute == multicast_forwarding_table) (ok_or (set_masks a modifier payload) InvalidField) _
    (λ h. keeps-set_masks a b modifier payload (payload_small packet) (from_ok _ b h))
    (of_none a b MethodAndAttribute))))

-- a Set keeps the count of ports, whether it is taken or not
pub ports-set : (a b : Agent) (packet : List ℕ) (arrival n : ℕ) → set_of a packet arrival ≡ Ok b → n ≤ a.node.ports → n ≤ b.node.ports
ports-set a b packet arrival n h fits =
    let same : b.node ≡ a.node = (keeps-set_of a b packet arrival h).shape.node in subst (λ (node : AgentNode). n ≤ node.ports) (sym same) fits

-- answers -----------------------------------------------------------------------------

met_both : (a : Agent) (c : Bool) (x y : Met) → Keeps a x.agent → Keeps a y.agent → Keeps a (if c then x else y).agent
met_both a true x y f g = f
met_both a false x y f g = g

keeps-met_set : (a : Agent) (after : Result Agent Refusal) (packet : List ℕ) (arrival : ℕ) → ((b : Agent) → after ≡ Ok b → Keeps a b)
    → Keeps a (met_set a after packet arrival).agent
keeps-met_set a (Ok b) packet arrival f = f b refl
keeps-met_set a (Err refusal) packet arrival f = keeps_same a

pub keeps-met : (a : Agent) (packet : List ℕ) (arrival : ℕ) → Keeps a (after_request a packet arrival).agent
keeps-met a packet arrival =
    met_both a (number_in method packet == get) _ _ (keeps_same a)
    (met_both a (number_in method packet == set) _ _ (keeps-met_set a (set_of a packet arrival) packet arrival (λ b. keeps-set_of a b packet arrival))
    (keeps_same a))

pub keeps-answered : (a : Agent) (packet : List ℕ) (arrival : ℕ) → Keeps a (after_answer a packet arrival).agent
unfolding after_answer
keeps-answered a packet arrival = keeps-met a packet arrival

-- the node is as it was, whatever is answered
pub met_keeps_node : (a b : Agent) (packet : List ℕ) (arrival : ℕ) → b ≡ (after_request a packet arrival).agent → b.node ≡ a.node
met_keeps_node a b packet arrival e = ap (λ (x : Agent). x.node) e ∙ (keeps-met a packet arrival).shape.node

pub answered_keeps_shape : AnsweredKeepsShape
answered_keeps_shape a packet arrival = (keeps-answered a packet arrival).shape

pub answered_is_agent : AnsweredIsAgent
answered_is_agent a packet arrival = (keeps-answered a packet arrival).is_agent
