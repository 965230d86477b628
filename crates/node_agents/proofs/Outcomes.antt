-- What an answer tells, and what a Set that is taken was about.
use Rattle.std.proofs.Common.{◌≡◌, ◌⊎◌, ℕ, ◌^◌, ◌<◌, Bool, true, false, List, inl, inr, refl, sym, ap, ◌∙◌, arith, length, drop}
use Rattle.std.specs.Prelude.{Option, Some, Result, Ok, Err, if◌then◌else◌, ◌==◌, ◌&&◌}
use Rattle.std.specs.Option.{ok_or}
use Rattle.std.proofs.lemmas.Bool.{and_parts, eqb-true}
use Rattle.std.proofs.lemmas.List.{length-drop, length-take-le}
use Rattle.smp_bytes.specs.Header.{get, set, switch_info, port_info, linear_forwarding_table, multicast_forwarding_table}
use Rattle.smp_bytes.specs.Field.{number_in, bytes_in}
use Rattle.smp_bytes.specs.Packet.{method, attribute_id, attribute_modifier, attribute_data}
use Rattle.smp_bytes.proofs.Answered.{answer_reads_back}
use Rattle.node_agents.specs.declared.refusal.Refusal.{Refusal}
use Rattle.node_agents.specs.declared.refusal.Refusal.TheVariants.{Method, MethodAndAttribute, InvalidField}
use Rattle.node_agents.specs.Agent.{Agent, IsAgent, is_switch}
use Rattle.node_agents.specs.SwitchInfo.{get_switch_info, set_switch_info}
use Rattle.node_agents.specs.PortInfo.{get_port_info, set_port_info}
use Rattle.node_agents.specs.LftBlock.{get_block, set_block}
use Rattle.node_agents.specs.MftBlock.{get_masks, set_masks}
use Rattle.node_agents.specs.Answers.{get_attribute, get_of, set_of, Met, met_set, after_request, status_told, payload_told, after_answer}
use Rattle.node_agents.specs.AnswerLaws.{AnswersHold}
use Rattle.node_agents.proofs.Shapes.{from_ok, keeps-set_of}
use Rattle.node_agents.proofs.Lengths.{Whole, whole-get_of}

-- the answer holds what is told ---------------------------------------------------------------

status_fits : (told : Result (List ℕ) Refusal) → status_told told < 2 ^ 15
status_fits (Ok payload) = omega arith
status_fits (Err Method) = omega arith
status_fits (Err MethodAndAttribute) = omega arith
status_fits (Err InvalidField) = omega arith

length-payload_told : (told : Result (List ℕ) Refusal) (packet : List ℕ) → Whole told → length packet ≡ 256 → length (payload_told told packet) ≡ 64
length-payload_told (Ok payload) packet whole long = whole.at payload refl
length-payload_told (Err refusal) packet whole long =
    let rest = length-drop 64 packet in length-take-le 64 (drop 64 packet) (omega arith)

whole-both : (c : Bool) (x y : Met) → Whole x.told → Whole y.told → Whole (if c then x else y).told
whole-both true x y h k = h
whole-both false x y h k = k

whole-refused : (refusal : Refusal) → Whole (Err refusal)
whole-refused refusal = record { at = λ other e. cc }

whole-met_set : (a : Agent) (after : Result Agent Refusal) (packet : List ℕ) (arrival : ℕ) → ((b : Agent) → after ≡ Ok b → IsAgent b)
    → Whole (met_set a after packet arrival).told
whole-met_set a (Ok b) packet arrival is = whole-get_of b packet arrival (is b refl)
whole-met_set a (Err refusal) packet arrival is = whole-refused refusal

whole-met : (a : Agent) (packet : List ℕ) (arrival : ℕ) → IsAgent a → Whole (after_request a packet arrival).told
whole-met a packet arrival is =
    whole-both (number_in method packet == get) _ _ (whole-get_of a packet arrival is)
    (whole-both (number_in method packet == set) _ _
    (whole-met_set a (set_of a packet arrival) packet arrival (λ b h. (keeps-set_of a b packet arrival h).is_agent is))
    (whole-refused Method))

pub answers_hold : AnswersHold
unfolding after_answer
answers_hold a packet arrival is whole =
    let told = (after_request a packet arrival).told in
    let small : status_told told < 2 ^ 15 = status_fits told in
    answer_reads_back packet (status_told told) (payload_told told packet) whole.count whole.parses
    (length-payload_told told packet (whole-met a packet arrival is) whole.count) (omega arith) (λ _. small)

-- what a Set that is taken was about ------------------------------------------------------------

no_agent : (refusal : Refusal) (b : Agent) → ◌≡◌ {A = Result Agent Refusal} (Err refusal) (Ok b) → ⊥
no_agent refusal b h = cc

module _ (a b : Agent) (packet : List ℕ) (arrival : ℕ) where
  -- one of the attributes that can be set
  pub record SetsOne (number : ℕ) (taking : Option Agent) : Type 0 where
    pub attribute : number_in attribute_id packet ≡ number
    pub taken : taking ≡ Some b

  abbrev pub SetsPortInfo : Type 0
  SetsPortInfo = SetsOne port_info (set_port_info a (number_in attribute_modifier packet) arrival (bytes_in attribute_data packet))

  abbrev pub SetsSwitchInfo : Type 0
  SetsSwitchInfo = (is_switch a ≡ true) × SetsOne switch_info (set_switch_info a (bytes_in attribute_data packet))

  abbrev pub SetsABlock : Type 0
  SetsABlock = (is_switch a ≡ true) × SetsOne linear_forwarding_table (set_block a (number_in attribute_modifier packet) (bytes_in attribute_data packet))

  abbrev pub SetsTheMasks : Type 0
  SetsTheMasks = (is_switch a ≡ true)
      × SetsOne multicast_forwarding_table (set_masks a (number_in attribute_modifier packet) (bytes_in attribute_data packet))

  -- what a Set that is taken sets
  abbrev pub SetsSome : Type 0
  SetsSome = SetsPortInfo ⊎ (SetsSwitchInfo ⊎ (SetsABlock ⊎ SetsTheMasks))

  one_of : (s : Bool) (number : ℕ) (taking : Option Agent) → (s && number_in attribute_id packet == number) ≡ true → ok_or taking InvalidField ≡ Ok b
      → (s ≡ true) × SetsOne number taking
  one_of s number taking c t =
      let parts = and_parts s (number_in attribute_id packet == number) c in
      (parts.0, record { attribute = eqb-true _ _ parts.1; taken = from_ok taking b t })

  masks_are : (c : Bool) → c ≡ (is_switch a && number_in attribute_id packet == multicast_forwarding_table)
      → (if c then ok_or (set_masks a (number_in attribute_modifier packet) (bytes_in attribute_data packet)) InvalidField else Err MethodAndAttribute) ≡ Ok b
      → SetsTheMasks
  masks_are true e h = one_of (is_switch a) multicast_forwarding_table _ (sym e) h
  masks_are false e h = absurd (no_agent MethodAndAttribute b h)

  block_is : (c : Bool) (rest : Result Agent Refusal) → c ≡ (is_switch a && number_in attribute_id packet == linear_forwarding_table)
      → (rest ≡ Ok b → SetsTheMasks)
      → (if c then ok_or (set_block a (number_in attribute_modifier packet) (bytes_in attribute_data packet)) InvalidField else rest) ≡ Ok b
      → SetsABlock ⊎ SetsTheMasks
  block_is true rest e f h = inl (one_of (is_switch a) linear_forwarding_table _ (sym e) h)
  block_is false rest e f h = inr (f h)

  switch_is : (c : Bool) (rest : Result Agent Refusal) → c ≡ (is_switch a && number_in attribute_id packet == switch_info)
      → (rest ≡ Ok b → SetsABlock ⊎ SetsTheMasks)
      → (if c then ok_or (set_switch_info a (bytes_in attribute_data packet)) InvalidField else rest) ≡ Ok b
      → SetsSwitchInfo ⊎ (SetsABlock ⊎ SetsTheMasks)
  switch_is true rest e f h = inl (one_of (is_switch a) switch_info _ (sym e) h)
  switch_is false rest e f h = inr (f h)

  port_is : (c : Bool) (rest : Result Agent Refusal) → c ≡ (number_in attribute_id packet == port_info)
      → (rest ≡ Ok b → SetsSwitchInfo ⊎ (SetsABlock ⊎ SetsTheMasks))
      → (if c then ok_or (set_port_info a (number_in attribute_modifier packet) arrival (bytes_in attribute_data packet)) InvalidField else rest) ≡ Ok b
      → SetsSome
  port_is true rest e f h = inl (record { attribute = eqb-true _ _ (sym e); taken = from_ok _ b h })
  port_is false rest e f h = inr (f h)

  pub what_is_set : set_of a packet arrival ≡ Ok b → SetsSome
  unfolding set_of
  what_is_set = port_is _ _ refl (switch_is _ _ refl (block_is _ _ refl (masks_are _ refl)))

-- what a Get tells of each of these -------------------------------------------------------

pub get_of-port_info : (a : Agent) (packet : List ℕ) (arrival : ℕ) → number_in attribute_id packet ≡ port_info
    → get_of a packet arrival ≡ ok_or (get_port_info a (number_in attribute_modifier packet) arrival) InvalidField
unfolding get_of
get_of-port_info a packet arrival e = ap (λ n. get_attribute a n (number_in attribute_modifier packet) arrival) e

at_switch : (s : Bool) (x y : Result (List ℕ) Refusal) → s ≡ true → (if s && true then x else y) ≡ x
at_switch true x y h = refl
at_switch false x y h = cc

past_switch : (s : Bool) (x y : Result (List ℕ) Refusal) → (if s && false then x else y) ≡ y
past_switch true x y = refl
past_switch false x y = refl

pub get_of-switch_info : (a : Agent) (packet : List ℕ) (arrival : ℕ) → is_switch a ≡ true → number_in attribute_id packet ≡ switch_info
    → get_of a packet arrival ≡ Ok (get_switch_info a)
unfolding get_of
get_of-switch_info a packet arrival s e =
    ap (λ n. get_attribute a n (number_in attribute_modifier packet) arrival) e ∙ at_switch (is_switch a) (Ok (get_switch_info a)) _ s

pub get_of-block : (a : Agent) (packet : List ℕ) (arrival : ℕ) → is_switch a ≡ true → number_in attribute_id packet ≡ linear_forwarding_table
    → get_of a packet arrival ≡ ok_or (get_block a (number_in attribute_modifier packet)) InvalidField
unfolding get_of
get_of-block a packet arrival s e =
    ap (λ n. get_attribute a n (number_in attribute_modifier packet) arrival) e
    ∙ past_switch (is_switch a) (Ok (get_switch_info a)) _
    ∙ at_switch (is_switch a) (ok_or (get_block a (number_in attribute_modifier packet)) InvalidField) _ s

pub get_of-masks : (a : Agent) (packet : List ℕ) (arrival : ℕ) → is_switch a ≡ true → number_in attribute_id packet ≡ multicast_forwarding_table
    → get_of a packet arrival ≡ ok_or (get_masks a (number_in attribute_modifier packet)) InvalidField
unfolding get_of
get_of-masks a packet arrival s e =
    ap (λ n. get_attribute a n (number_in attribute_modifier packet) arrival) e
    ∙ past_switch (is_switch a) (Ok (get_switch_info a)) _
    ∙ past_switch (is_switch a) (ok_or (get_block a (number_in attribute_modifier packet)) InvalidField) _
    ∙ at_switch (is_switch a) (ok_or (get_masks a (number_in attribute_modifier packet)) InvalidField) _ s
