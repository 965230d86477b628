-- Requests that ask an agent the same are answered the same, wherever on its way a packet is.
use Rattle.std.proofs.Common.{◌≡◌, ℕ, cond, ◌==◌, List, refl, sym, ap, ◌∙◌}
use Rattle.std.specs.Prelude.{Result, Ok, Err}
use Rattle.smp_bytes.specs.Header.{get, set}
use Rattle.smp_bytes.specs.Field.{number_in, bytes_in}
use Rattle.smp_bytes.specs.Packet.{method, attribute_id, attribute_modifier, attribute_data, status}
use Rattle.node_agents.specs.declared.refusal.Refusal.{Refusal}
use Rattle.node_agents.specs.declared.refusal.Refusal.TheVariants.{Method}
use Rattle.node_agents.specs.Agent.{Agent, IsAgent}
use Rattle.node_agents.specs.Answers.{get_attribute, set_attribute, get_of, set_of, after_request, met_set, Met, after_answer, status_told, payload_told}
use Rattle.node_agents.specs.AnswerLaws.{IsPacket}
use Rattle.node_agents.proofs.Outcomes.{answers_hold}

-- two packets ask an agent the same
pub record AskSame (p q : List ℕ) : Type 0 where
  pub method_is : number_in method p ≡ number_in method q
  pub attribute_is : number_in attribute_id p ≡ number_in attribute_id q
  pub modifier_is : number_in attribute_modifier p ≡ number_in attribute_modifier q
  pub data_is : bytes_in attribute_data p ≡ bytes_in attribute_data q

abbrev set_told : Agent → Result Agent Refusal → ℕ → ℕ → ℕ → Met
set_told a (Ok b) attribute modifier arrival = record { told = get_attribute b attribute modifier arrival; agent = b }
set_told a (Err refusal) attribute modifier arrival = record { told = Err refusal; agent = a }

abbrev met_of : Agent → ℕ → ℕ → ℕ → ℕ → List ℕ → Met
met_of a arrival how attribute modifier payload =
    cond (how == get) (record { told = get_attribute a attribute modifier arrival; agent = a })
    (cond (how == set) (set_told a (set_attribute a attribute modifier arrival payload) attribute modifier arrival) (record { told = Err Method; agent = a }))

set_told-is : (a : Agent) (after : Result Agent Refusal) (packet : List ℕ) (arrival : ℕ)
    → met_set a after packet arrival ≡ set_told a after (number_in attribute_id packet) (number_in attribute_modifier packet) arrival
unfolding get_of
set_told-is a (Ok b) packet arrival = refl
set_told-is a (Err refusal) packet arrival = refl

met_of-is : (a : Agent) (packet : List ℕ) (arrival : ℕ)
    → after_request a packet arrival
    ≡ met_of a arrival (number_in method packet) (number_in attribute_id packet) (number_in attribute_modifier packet) (bytes_in attribute_data packet)
unfolding get_of set_of
met_of-is a packet arrival =
    ap (λ m. cond (number_in method packet == get) (record { told = get_of a packet arrival; agent = a })
    (cond (number_in method packet == set) m (record { told = Err Method; agent = a })))
    (set_told-is a (set_of a packet arrival) packet arrival)

met_same : (a : Agent) (p q : List ℕ) (arrival : ℕ) → AskSame p q → after_request a p arrival ≡ after_request a q arrival
met_same a p q arrival same =
    met_of-is a p arrival
    ∙ (λ j. met_of a arrival (same.method_is j) (same.attribute_is j) (same.modifier_is j) (same.data_is j))
    ∙ sym (met_of-is a q arrival)

-- it is left the same
pub agents_same : (a : Agent) (p q : List ℕ) (arrival : ℕ) → AskSame p q → (after_answer a p arrival).agent ≡ (after_answer a q arrival).agent
unfolding after_answer
agents_same a p q arrival same = ap (λ (m : Met). m.agent) (met_same a p q arrival same)

-- what is told is the same
pub record ToldSame (x y : List ℕ) : Type 0 where
  pub status_is : status x ≡ status y
  pub data_is : bytes_in attribute_data x ≡ bytes_in attribute_data y

payload_same : (told : Result (List ℕ) Refusal) (p q : List ℕ) → bytes_in attribute_data p ≡ bytes_in attribute_data q
    → payload_told told p ≡ payload_told told q
payload_same (Ok payload) p q e = refl
payload_same (Err refusal) p q e = e

pub told_same : (a : Agent) (p q : List ℕ) (arrival : ℕ) → IsAgent a → IsPacket p → IsPacket q → AskSame p q
    → ToldSame (after_answer a p arrival).packet (after_answer a q arrival).packet
told_same a p q arrival is whole its same =
    let x = answers_hold a p arrival is whole in
    let y = answers_hold a q arrival is its in
    let told = ap (λ (m : Met). m.told) (met_same a p q arrival same) in
    record {
      status_is = x.status ∙ ap status_told told ∙ sym y.status;
      data_is = x.attribute_data ∙ ap (λ t. payload_told t p) told ∙ payload_same (after_request a q arrival).told p q same.data_is ∙ sym y.attribute_data;
    }
