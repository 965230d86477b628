-- The agent after a Set that is taken, and what the answer says.
use Rattle.std.proofs.Common.{◌≡◌, ◌≢◌, ℕ, ◌*◌, Bool, true, false, List, inl, inr, refl, sym, ap, ◌∙◌, subst, arith, take, drop}
use Rattle.std.specs.Prelude.{Option, Some, None, Result, Ok, Err, option_map, option_and_then, if◌then◌else◌, ◌==◌}
use Rattle.std.specs.Option.{ok_or}
use Rattle.smp_bytes.specs.Header.{get, set, done, switch_info, port_info, linear_forwarding_table, multicast_forwarding_table}
use Rattle.smp_bytes.specs.Field.{number_in, bytes_in, with_bytes}
use Rattle.smp_bytes.specs.Packet.{method, attribute_id, attribute_modifier, attribute_data}
use Rattle.attr_codec.specs.SwitchInfo.{linear_fdb_top}
use Rattle.node_agents.specs.declared.port.Port.{Port}
use Rattle.node_agents.specs.declared.refusal.Refusal.{Refusal}
use Rattle.node_agents.specs.declared.refusal.Refusal.TheVariants.{Method, MethodAndAttribute, InvalidField}
use Rattle.node_agents.specs.Agent.{Agent, IsAgent, is_switch, port_at, with_port}
use Rattle.node_agents.specs.SwitchInfo.{get_switch_info, set_switch_info}
use Rattle.node_agents.specs.PortInfo.{has_lid, max_lmc, port_meant, port_info_of, port_after, changed_port, set_port_info}
use Rattle.node_agents.specs.LftBlock.{has_block, set_block}
use Rattle.node_agents.specs.MftBlock.{has_masks, position_in, set_masks}
use Rattle.node_agents.specs.Answers.{get_attribute, get_of, set_of, Met, met_set, after_request, status_told, payload_told, after_answer}
use Rattle.node_agents.specs.AnswerLaws.{GetsChangeNothing, RefusalsChangeNothing, IsTaken, IsAboutTheSame, GetsTellAsSets}
use Rattle.node_agents.proofs.Shapes.{answered_is_agent}
use Rattle.node_agents.proofs.Outcomes.{answers_hold, SetsSome, what_is_set, get_of-port_info, get_of-switch_info, get_of-block, get_of-masks}

-- what each Set makes of the agent ----------------------------------------------------------------

-- the port that was meant, and what became of it
pub record PortTaken (a b : Agent) (modifier arrival : ℕ) (payload : List ℕ) (port : ℕ) (new : Port) : Type 0 where
  pub meant : port_meant a modifier arrival ≡ Some port
  pub after : port_after (port_at a port) (has_lid a port) (max_lmc a port) payload ≡ Some new
  pub agent : with_port a port new ≡ b

abbrev pub APortIsTaken : Agent → Agent → ℕ → ℕ → List ℕ → Type 0
APortIsTaken a b modifier arrival payload = (port : ℕ) × (new : Port) × PortTaken a b modifier arrival payload port new

module _ (a b : Agent) (modifier arrival : ℕ) (payload : List ℕ) where
  port_became : (port : ℕ) (m : Option Port) → m ≡ port_after (port_at a port) (has_lid a port) (max_lmc a port) payload → port_meant a modifier arrival
      ≡ Some port
      → option_map (λ (changed : ℕ × Port). with_port a changed.0 changed.1) (option_map (λ (after : Port). (port, after)) m) ≡ Some b
      → APortIsTaken a b modifier arrival payload
  port_became port None e meant h = cc
  port_became port (Some new) e meant h = (port, new, record { meant = meant; after = sym e; agent = cc })

  port_was : (m : Option ℕ) → m ≡ port_meant a modifier arrival
      → option_map (λ (changed : ℕ × Port). with_port a changed.0 changed.1)
      (option_and_then (λ port. option_map (λ (after : Port). (port, after)) (port_after (port_at a port) (has_lid a port) (max_lmc a port) payload)) m)
      ≡ Some b
      → APortIsTaken a b modifier arrival payload
  port_was None e h = cc
  port_was (Some port) e h = port_became port _ refl (sym e) h

  pub port_taken : set_port_info a modifier arrival payload ≡ Some b → APortIsTaken a b modifier arrival payload
  unfolding changed_port
  port_taken h = port_was (port_meant a modifier arrival) refl h

-- the test is true, and the value is what is chosen then
pub from_choice : (a b : Agent) (c : Bool) → (if c then Some a else None) ≡ Some b → (c ≡ true) × (a ≡ b)
from_choice a b true h = (refl, cc)
from_choice a b false h = cc

-- what is told then ---------------------------------------------------------------------------

pub get_after_port : (a b : Agent) (packet : List ℕ) (arrival port : ℕ) (new : Port) (payload : List ℕ)
    → number_in attribute_id packet ≡ port_info → PortTaken a b (number_in attribute_modifier packet) arrival payload port new
    → get_of b packet arrival ≡ Ok (port_info_of (port_at b port) arrival)
get_after_port a b packet arrival port new payload e t =
    let of_node : port_meant (with_port a port new) (number_in attribute_modifier packet) arrival ≡ Some port = t.meant in
    let meant : port_meant b (number_in attribute_modifier packet) arrival ≡ Some port =
    subst (λ (x : Agent). port_meant x (number_in attribute_modifier packet) arrival ≡ Some port) t.agent of_node in
    get_of-port_info b packet arrival e
    ∙ ap (λ (m : Option ℕ). ok_or (option_map (λ p. port_info_of (port_at b p) arrival) m) InvalidField) meant

pub get_after_top : (a b : Agent) (packet : List ℕ) (arrival : ℕ) (payload : List ℕ)
    → is_switch a ≡ true → number_in attribute_id packet ≡ switch_info → set_switch_info a payload ≡ Some b
    → get_of b packet arrival ≡ Ok (get_switch_info b)
get_after_top a b packet arrival payload s e t =
    let after = from_choice (record a { top = number_in linear_fdb_top payload }) b _ t in
    get_of-switch_info b packet arrival (subst (λ (x : Agent). is_switch x ≡ true) after.1 s) e

pub get_after_block : (a b : Agent) (packet : List ℕ) (arrival : ℕ) (payload : List ℕ)
    → is_switch a ≡ true → number_in attribute_id packet ≡ linear_forwarding_table → set_block a (number_in attribute_modifier packet) payload ≡ Some b
    → get_of b packet arrival ≡ Ok (take 64 (drop (64 * number_in attribute_modifier packet) b.table))
get_after_block a b packet arrival payload s e t =
    let block = number_in attribute_modifier packet in
    let after = from_choice (record a { table = with_bytes (64 * block) payload a.table }) b (has_block a block) t in
    let has : has_block b block ≡ true = subst (λ (x : Agent). has_block x block ≡ true) after.1 after.0 in
    get_of-block b packet arrival (subst (λ (x : Agent). is_switch x ≡ true) after.1 s) e
    ∙ ap (λ c. ok_or (if c then Some (take 64 (drop (64 * block) b.table)) else None) InvalidField) has

pub get_after_masks : (a b : Agent) (packet : List ℕ) (arrival : ℕ) (payload : List ℕ)
    → is_switch a ≡ true → number_in attribute_id packet ≡ multicast_forwarding_table → set_masks a (number_in attribute_modifier packet) payload ≡ Some b
    → get_of b packet arrival ≡ Ok (take 64 (drop (64 * position_in (number_in attribute_modifier packet)) b.masks))
get_after_masks a b packet arrival payload s e t =
    let modifier = number_in attribute_modifier packet in
    let after = from_choice (record a { masks = with_bytes (64 * position_in modifier) payload a.masks }) b (has_masks a modifier) t in
    let has : has_masks b modifier ≡ true = subst (λ (x : Agent). has_masks x modifier ≡ true) after.1 after.0 in
    get_of-masks b packet arrival (subst (λ (x : Agent). is_switch x ≡ true) after.1 s) e
    ∙ ap (λ c. ok_or (if c then Some (take 64 (drop (64 * position_in modifier) b.masks)) else None) InvalidField) has

pub get_of-alike : (a : Agent) (p q : List ℕ) (arrival : ℕ) → IsAboutTheSame q p → get_of a q arrival ≡ get_of a p arrival
unfolding get_of
get_of-alike a p q arrival same =
    ap (λ n. get_attribute a n (number_in attribute_modifier q) arrival) same.attribute
    ∙ ap (λ n. get_attribute a (number_in attribute_id p) n arrival) same.modifier

-- something is told after each Set that is taken
pub something_told : (a b : Agent) (packet : List ℕ) (arrival : ℕ) → set_of a packet arrival ≡ Ok b
    → (payload : List ℕ) × (get_of b packet arrival ≡ Ok payload)
something_told a b packet arrival h = by_kind (what_is_set a b packet arrival h)
  where
    by_kind : SetsSome a b packet arrival → (payload : List ℕ) × (get_of b packet arrival ≡ Ok payload)
    by_kind (inl s) =
        let t = port_taken a b (number_in attribute_modifier packet) arrival (bytes_in attribute_data packet) s.taken in
        (port_info_of (port_at b t.0) arrival, get_after_port a b packet arrival t.0 t.1 (bytes_in attribute_data packet) s.attribute t.2)
    by_kind (inr (inl s)) = (get_switch_info b, get_after_top a b packet arrival (bytes_in attribute_data packet) s.0 s.1.attribute s.1.taken)
    by_kind (inr (inr (inl s))) = (
      take 64 (drop (64 * number_in attribute_modifier packet) b.table),
      get_after_block a b packet arrival (bytes_in attribute_data packet) s.0 s.1.attribute s.1.taken,
    )
    by_kind (inr (inr (inr s))) = (
      take 64 (drop (64 * position_in (number_in attribute_modifier packet)) b.masks),
      get_after_masks a b packet arrival (bytes_in attribute_data packet) s.0 s.1.attribute s.1.taken,
    )

pub answered-agent : (a : Agent) (packet : List ℕ) (arrival : ℕ) → (after_answer a packet arrival).agent ≡ (after_request a packet arrival).agent
unfolding after_answer
answered-agent a packet arrival = refl

-- answers -------------------------------------------------------------------------------------

module _ (a : Agent) (packet : List ℕ) (arrival : ℕ) where
  pub met-get : number_in method packet ≡ get → after_request a packet arrival ≡ record { told = get_of a packet arrival; agent = a }
  met-get e =
      ap (λ n. if n == get then record { told = get_of a packet arrival; agent = a }
      else if n == set then met_set a (set_of a packet arrival) packet arrival
      else record { told = Err Method; agent = a }) e

  pub met-set : number_in method packet ≡ set → after_request a packet arrival ≡ met_set a (set_of a packet arrival) packet arrival
  met-set e =
      ap (λ n. if n == get then record { told = get_of a packet arrival; agent = a }
      else if n == set then met_set a (set_of a packet arrival) packet arrival
      else record { told = Err Method; agent = a }) e

pub gets_change_nothing : GetsChangeNothing
unfolding after_answer
gets_change_nothing a packet arrival e = ap (λ (m : Met). m.agent) (met-get a packet arrival e)

-- what is refused leaves the agent
pub record KeepsIfRefused (a : Agent) (m : Met) : Type 0 where
  pub agent : (refusal : Refusal) → m.told ≡ Err refusal → m.agent ≡ a

kept-both : (a : Agent) (c : Bool) (x y : Met) → KeepsIfRefused a x → KeepsIfRefused a y → KeepsIfRefused a (if c then x else y)
kept-both a true x y h k = h
kept-both a false x y h k = k

kept-same : (a : Agent) (told : Result (List ℕ) Refusal) → KeepsIfRefused a (record { told = told; agent = a })
kept-same a told = record { agent = λ refusal e. refl }

kept-set : (a : Agent) (after : Result Agent Refusal) (packet : List ℕ) (arrival : ℕ) → after ≡ set_of a packet arrival
    → KeepsIfRefused a (met_set a after packet arrival)
kept-set a (Ok b) packet arrival e =
    let told = something_told a b packet arrival (sym e) in
    record { agent = λ refusal h. let clash : ◌≡◌ {A = Result (List ℕ) Refusal} (Ok told.0) (Err refusal) = sym told.1 ∙ h in cc }
kept-set a (Err refusal) packet arrival e = kept-same a (Err refusal)

kept-met : (a : Agent) (packet : List ℕ) (arrival : ℕ) → KeepsIfRefused a (after_request a packet arrival)
kept-met a packet arrival =
    kept-both a _ _ _ (kept-same a (get_of a packet arrival))
    (kept-both a _ _ _ (kept-set a (set_of a packet arrival) packet arrival refl) (kept-same a (Err Method)))

by_told : (a : Agent) (m : Met) (told : Result (List ℕ) Refusal) → m.told ≡ told → KeepsIfRefused a m → status_told told ≢ done → m.agent ≡ a
by_told a m (Ok payload) e kept other = absurd (other refl)
by_told a m (Err refusal) e kept other = kept.agent refusal e

pub refusals_change_nothing : RefusalsChangeNothing
refusals_change_nothing a packet arrival is whole other =
    let holds = answers_hold a packet arrival is whole in
    let m : Met = after_request a packet arrival in
    let kept : m.agent ≡ a = by_told a m m.told refl (kept-met a packet arrival) (λ e. other (holds.status ∙ e)) in
    answered-agent a packet arrival ∙ kept

-- a Set that is taken -------------------------------------------------------------------------

-- what became of the agent, and what is told
pub record TakenTo (a : Agent) (packet : List ℕ) (arrival : ℕ) (b : Agent) (payload : List ℕ) : Type 0 where
  pub taken : set_of a packet arrival ≡ Ok b
  pub told : get_of b packet arrival ≡ Ok payload
  pub agent : (after_answer a packet arrival).agent ≡ b
  pub payload_is : bytes_in attribute_data (after_answer a packet arrival).packet ≡ payload

refused_status : (refusal : Refusal) → status_told (Err refusal) ≢ done
refused_status Method e = absurd (omega arith)
refused_status MethodAndAttribute e = absurd (omega arith)
refused_status InvalidField e = absurd (omega arith)

abbrev pub ATakenSet : Agent → List ℕ → ℕ → Type 0
ATakenSet a packet arrival = (b : Agent) × (payload : List ℕ) × TakenTo a packet arrival b payload

module _ (a : Agent) (packet : List ℕ) (arrival number : ℕ) (is : IsTaken a packet arrival number) where
  by_outcome : (after : Result Agent Refusal) → after ≡ set_of a packet arrival → ATakenSet a packet arrival
  by_outcome (Ok b) e =
      let holds = answers_hold a packet arrival is.agent is.whole in
      let m : after_request a packet arrival ≡ met_set a (Ok b) packet arrival =
      met-set a packet arrival is.method ∙ ap (λ r. met_set a r packet arrival) (sym e) in
      let something = something_told a b packet arrival (sym e) in
      let told : (after_request a packet arrival).told ≡ Ok something.0 = ap (λ (x : Met). x.told) m ∙ something.1 in (
        b,
        something.0,
        record {
          taken = sym e;
          told = something.1;
          agent = answered-agent a packet arrival ∙ ap (λ (x : Met). x.agent) m;
          payload_is = holds.attribute_data ∙ ap (λ t. payload_told t packet) told;
        },
      )
  by_outcome (Err refusal) e =
      let holds = answers_hold a packet arrival is.agent is.whole in
      let m : after_request a packet arrival ≡ met_set a (Err refusal) packet arrival =
      met-set a packet arrival is.method ∙ ap (λ r. met_set a r packet arrival) (sym e) in
      let told : (after_request a packet arrival).told ≡ Err refusal = ap (λ (x : Met). x.told) m in
      absurd (refused_status refusal (ap status_told (sym told) ∙ sym holds.status ∙ is.done))

  pub taken_to : ATakenSet a packet arrival
  taken_to = by_outcome (set_of a packet arrival) refl

pub gets_tell_as_sets : GetsTellAsSets
gets_tell_as_sets a p q arrival number is whole asks same =
    let t = taken_to a p arrival number is in
    let b = t.0 in
    let taken = t.2 in
    let is_b : IsAgent b = subst IsAgent taken.agent (answered_is_agent a p arrival is.agent) in
    let m = met-get b q arrival asks in
    let alike : get_of b q arrival ≡ get_of b p arrival = get_of-alike b p q arrival same in
    let told : (after_request b q arrival).told ≡ Ok t.1 = ap (λ (x : Met). x.told) m ∙ alike ∙ taken.told in
    let holds = answers_hold b q arrival is_b whole in
    ap (λ (x : Agent). bytes_in attribute_data (after_answer x q arrival).packet) taken.agent
    ∙ holds.attribute_data ∙ ap (λ x. payload_told x q) told ∙ sym taken.payload_is
