-- Whatever is told has 64 bytes.
use Rattle.std.proofs.Common.{◌≡◌, ℕ, ◌*◌, ◌<◌, Bool, true, false, List, [], ◌∷◌, refl, sym, ap, ◌∙◌, arith, length, take, drop, replicate}
use Rattle.std.specs.Prelude.{Option, Some, None, Result, Ok, Err, option_map, if◌then◌else◌, ◌==◌, ◌&&◌}
use Rattle.std.specs.Option.{ok_or}
use Rattle.std.proofs.lemmas.List.{length-drop, length-take-le}
use Rattle.smp_bytes.specs.Header.{node_description, node_info, switch_info, port_info, linear_forwarding_table, multicast_forwarding_table}
use Rattle.smp_bytes.specs.Field.{Bits, Entry, number_in, with_bits, replaced}
use Rattle.smp_bytes.specs.Packet.{attribute_id, attribute_modifier}
use Rattle.smp_bytes.specs.Requests.{flag}
use Rattle.smp_bytes.proofs.FieldLaws.{length-with_number, length-with_numbers}
use Rattle.attr_codec.specs.Image.{image}
use Rattle.attr_codec.specs.NodeInfo.{entries_of}
use Rattle.attr_codec.specs.PortInfo.{base_lid, master_sm_lid, local_port_num, lmc, port_state, is_sm_bit, number_of_state}
use Rattle.attr_codec.specs.SwitchInfo.{linear_fdb_cap, linear_fdb_top, multicast_fdb_cap}
use Rattle.node_agents.specs.declared.port.Port.{Port}
use Rattle.node_agents.specs.declared.refusal.Refusal.{Refusal}
use Rattle.node_agents.specs.declared.refusal.Refusal.TheVariants.{InvalidField, MethodAndAttribute}
use Rattle.node_agents.specs.Agent.{Agent, IsAgent, is_switch, port_at}
use Rattle.node_agents.specs.NodeDescription.{get_node_description}
use Rattle.node_agents.specs.NodeInfo.{node_info_of, get_node_info}
use Rattle.node_agents.specs.SwitchInfo.{get_switch_info}
use Rattle.node_agents.specs.PortInfo.{port_info_of, port_meant}
use Rattle.node_agents.specs.LftBlock.{has_block}
use Rattle.node_agents.specs.MftBlock.{has_masks, multicast_cap, position_in}
use Rattle.node_agents.specs.Answers.{get_of}
use Rattle.node_agents.proofs.Shapes.{block_within, masks_within}

-- the bytes of port information before its bits are written
abbrev pub port_entries : Port → ℕ → List Entry
port_entries port arrival =
    record { field = base_lid; number = port.base_lid } ∷ record { field = master_sm_lid; number = port.master_sm_lid }
    ∷ record { field = local_port_num; number = arrival } ∷ []

pub length-port_image : (port : Port) (arrival : ℕ) → length (image (port_entries port arrival)) ≡ 64
length-port_image port arrival = length-with_numbers 64 (port_entries port arrival) (replicate 64 0) refl refl

pub length-with_bits : (bits : Bits) (number : ℕ) (bytes : List ℕ) → bits.at < length bytes → length (with_bits bits number bytes) ≡ length bytes
length-with_bits bits number bytes there = length-with_number (record { at = bits.at; len = 1 }) (replaced bits number _) bytes (omega arith)

-- with the bit for a subnet manager
abbrev pub port_marked : Port → ℕ → List ℕ
port_marked port arrival = with_bits is_sm_bit (flag port.is_sm) (image (port_entries port arrival))

pub length-port_marked : (port : Port) (arrival : ℕ) → length (port_marked port arrival) ≡ 64
length-port_marked port arrival =
    let long = length-port_image port arrival in length-with_bits is_sm_bit (flag port.is_sm) (image (port_entries port arrival)) (omega arith) ∙ long

-- and with the LMC
abbrev pub port_ranged : Port → ℕ → List ℕ
port_ranged port arrival = with_bits lmc port.lmc (port_marked port arrival)

pub length-port_ranged : (port : Port) (arrival : ℕ) → length (port_ranged port arrival) ≡ 64
length-port_ranged port arrival = let long = length-port_marked port arrival in length-with_bits lmc port.lmc (port_marked port arrival) (omega arith) ∙ long

pub length-port_info_of : (port : Port) (arrival : ℕ) → length (port_info_of port arrival) ≡ 64
length-port_info_of port arrival =
    let long = length-port_ranged port arrival in
    length-with_bits port_state (number_of_state port.state) (port_ranged port arrival) (omega arith) ∙ long

pub length-get_node_info : (a : Agent) (arrival : ℕ) → length (get_node_info a arrival) ≡ 64
length-get_node_info a arrival = length-with_numbers 64 (entries_of (node_info_of a.node arrival)) (replicate 64 0) refl refl

-- the bytes of switch information
abbrev pub switch_entries : Agent → List Entry
switch_entries a =
    record { field = linear_fdb_cap; number = a.node.cap } ∷ record { field = linear_fdb_top; number = a.top }
    ∷ record { field = multicast_fdb_cap; number = multicast_cap } ∷ []

pub length-get_switch_info : (a : Agent) → length (get_switch_info a) ≡ 64
length-get_switch_info a = length-with_numbers 64 (switch_entries a) (replicate 64 0) refl refl

pub length-block : (a : Agent) (block : ℕ) → IsAgent a → has_block a block ≡ true → length (take 64 (drop (64 * block) a.table)) ≡ 64
length-block a block is has =
    let within = block_within a block is has in
    let rest = length-drop (64 * block) a.table in
    length-take-le 64 (drop (64 * block) a.table) (omega arith)

pub length-masks : (a : Agent) (modifier : ℕ) → IsAgent a → has_masks a modifier ≡ true → length (take 64 (drop (64 * position_in modifier) a.masks)) ≡ 64
length-masks a modifier is has =
    let within = masks_within a modifier is has in
    let rest = length-drop (64 * position_in modifier) a.masks in
    length-take-le 64 (drop (64 * position_in modifier) a.masks) (omega (arith, within, rest))

-- a Get -----------------------------------------------------------------------------------

-- what is told, if anything is, has 64 bytes
pub record Whole (told : Result (List ℕ) Refusal) : Type 0 where
  pub at : (payload : List ℕ) → told ≡ Ok payload → length payload ≡ 64

whole-both : (c : Bool) (x y : Result (List ℕ) Refusal) → Whole x → Whole y → Whole (if c then x else y)
whole-both true x y h k = h
whole-both false x y h k = k

whole-ok : (payload : List ℕ) → length payload ≡ 64 → Whole (Ok payload)
whole-ok payload long = record { at = λ other e. let same : payload ≡ other = cc in ap length (sym same) ∙ long }

whole-err : (refusal : Refusal) → Whole (Err refusal)
whole-err refusal = record { at = λ other e. cc }

whole-port : (a : Agent) (arrival : ℕ) (m : Option ℕ) → Whole (ok_or (option_map (λ port. port_info_of (port_at a port) arrival) m) InvalidField)
whole-port a arrival None = whole-err InvalidField
whole-port a arrival (Some port) = whole-ok (port_info_of (port_at a port) arrival) (length-port_info_of (port_at a port) arrival)

whole-block : (payload : List ℕ) (has : Bool) → (has ≡ true → length payload ≡ 64) → Whole (ok_or (if has then Some payload else None) InvalidField)
whole-block payload true long = whole-ok payload (long refl)
whole-block payload false long = whole-err InvalidField

pub whole-get_of : (a : Agent) (packet : List ℕ) (arrival : ℕ) → IsAgent a → Whole (get_of a packet arrival)
unfolding get_of
whole-get_of a packet arrival is =
    let attribute = number_in attribute_id packet in
    let modifier = number_in attribute_modifier packet in
    whole-both (attribute == node_description) _ _ (whole-ok (get_node_description a) is.description)
    (whole-both (attribute == node_info) _ _ (whole-ok (get_node_info a arrival) (length-get_node_info a arrival))
    (whole-both (attribute == port_info) _ _ (whole-port a arrival (port_meant a modifier arrival))
    (whole-both (is_switch a && attribute == switch_info) _ _ (whole-ok (get_switch_info a) (length-get_switch_info a))
    (whole-both (is_switch a && attribute == linear_forwarding_table) _ _
    (whole-block (take 64 (drop (64 * modifier) a.table)) (has_block a modifier) (λ has. length-block a modifier is has))
    (whole-both (is_switch a && attribute == multicast_forwarding_table) _ _
    (whole-block (take 64 (drop (64 * position_in modifier) a.masks)) (has_masks a modifier) (λ has. length-masks a modifier is has))
    (whole-err MethodAndAttribute))))))
