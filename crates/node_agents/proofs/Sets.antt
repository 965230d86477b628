-- What a Set of each attribute does.
use Rattle.std.proofs.Common.{◌≡◌, ◌≢◌, ◌⊎◌, ℕ, ◌+◌, ◌*◌, ◌^◌, ◌<◌, ◌≤◌, Bool, true, false, List, [], ◌∷◌, inl, inr, refl, sym, ap, ◌∙◌, subst, arith, length, take, drop, get_or, mod-lt, replicate}
use Rattle.std.specs.Prelude.{Option, Some, None, Result, Ok, option_map, option_and_then, find, if◌then◌else◌, ◌==◌, ◌||◌, nat_lt, nat_le}
use Rattle.std.proofs.lemmas.Bool.{or_cases, eqb-true, ltb-true, leb-true, cases_lt}
use Rattle.std.proofs.lemmas.Grind.{get_or_default_zero}
use Rattle.std.proofs.lemmas.Nat.{pow_pos}
use Rattle.std.proofs.lemmas.List.{get_or-replicate, get_or_past, get_or-set_same, get_or-set_other, length-drop, length-take-le}
use Rattle.smp_bytes.specs.Header.{switch_info, port_info, linear_forwarding_table, multicast_forwarding_table}
use Rattle.smp_bytes.specs.Field.{number_in, bytes_in, bits_in, with_bytes}
use Rattle.smp_bytes.specs.LidRange.{lid_end}
use Rattle.smp_bytes.specs.Packet.{attribute_id, attribute_modifier, attribute_data}
use Rattle.smp_bytes.proofs.FieldLaws.{get_or-with_bytes, length-with_bytes, number_in-with_number_apart, number_in-with_numbers}
use Rattle.smp_bytes.proofs.OffsetLaws.{get_or-with_bytes_inside, get_or-with_number, get_or-with_numbers_behind, bytes_in-with_bytes}
use Rattle.smp_bytes.proofs.BitLaws.{bits_in-with_bits, bits_in-with_bits_apart}
use Rattle.attr_codec.specs.Image.{image}
use Rattle.attr_codec.specs.SwitchInfo.{linear_fdb_top}
use Rattle.attr_codec.specs.PortInfo.{base_lid, lmc, range_in, port_state, number_of_state, state_of_number}
use Rattle.attr_codec.specs.declared.port_state.PortState.{PortState}
use Rattle.attr_codec.specs.declared.port_state.PortState.TheVariants.{NoChange, Down, Initialize, Armed, Active}
use Rattle.attr_codec.proofs.PortStates.{state_small}
use Rattle.node_agents.specs.declared.port.Port.{Port}
use Rattle.node_agents.specs.Agent.{Agent, IsAgent, is_switch, port_in, port_at, range_at, with_port}
use Rattle.node_agents.specs.SwitchInfo.{get_switch_info, SetsTop}
use Rattle.node_agents.specs.PortInfo.{has_lid, max_lmc, is_next_state, state_after, port_with, are_lids_taken}
use Rattle.node_agents.specs.PortInfo.{port_after, port_meant, port_info_of, SetsPort}
use Rattle.node_agents.specs.LftBlock.{has_block, SetsBlock}
use Rattle.node_agents.specs.MftBlock.{has_masks, position_in, SetsMasks}
use Rattle.node_agents.specs.declared.refusal.Refusal.{Refusal}
use Rattle.node_agents.specs.Answers.{get_of, after_answer}
use Rattle.node_agents.specs.AnswerLaws.{BlocksAreSet, MasksAreSet, TopsAreSet, PortsAreSet}
use Rattle.node_agents.proofs.PortSteps.{lid_taken}
use Rattle.node_agents.proofs.Shapes.{block_within, masks_within}
use Rattle.node_agents.proofs.Lengths.{port_entries, port_marked, port_ranged, switch_entries, length-port_image, length-port_marked, length-port_ranged}
use Rattle.node_agents.proofs.Outcomes.{SetsPortInfo, SetsSwitchInfo, SetsABlock, SetsTheMasks, SetsSome, what_is_set}
use Rattle.node_agents.proofs.Told.{port_taken, from_choice, get_after_port, get_after_top, get_after_block, get_after_masks, TakenTo, taken_to}

-- a block -------------------------------------------------------------------------------------

-- another default for a read inside
other_default : (xs : List ℕ) (i d e : ℕ) → i < length xs → get_or xs i d ≡ get_or xs i e
other_default xs i d e h = get_or_default_zero xs i d h ∙ sym (get_or_default_zero xs i e h)

-- 64 bytes are written into a list, from `start` on
module _ (bytes payload : List ℕ) (start : ℕ) (long : length payload ≡ 64) (within : start + 64 ≤ length bytes) where
  written : List ℕ
  written = with_bytes start payload bytes

  fits : start + length payload ≤ length bytes
  fits = omega (arith, long, within)

  length-written : length written ≡ length bytes
  unfolding written
  length-written = length-with_bytes start payload bytes fits

  told_block : take 64 (drop start written) ≡ payload
  unfolding written
  told_block = ap (λ n. take n (drop start written)) (sym long) ∙ bytes_in-with_bytes start payload bytes fits

  inside : (d i : ℕ) → i < 64 → get_or written (start + i) d ≡ get_or payload i 0
  unfolding written
  inside d i h =
      let whole = length-written in
      other_default written (start + i) d 0 (omega (arith, whole, within, h))
      ∙ get_or-with_bytes_inside start payload bytes i fits (omega (arith, long, h))

  outside : (d i : ℕ) → (i < start) ⊎ (start + 64 ≤ i) → get_or written i d ≡ get_or bytes i d
  unfolding written
  outside d i h =
      let whole = length-written in
      let apart : (i < start) ⊎ (start + length payload ≤ i) = subst (λ (n : ℕ). (i < start) ⊎ (start + n ≤ i)) (sym long) h in
      elim (cases_lt i (length bytes)) [
        | inl there ↦ other_default written i d 0 (omega (arith, whole, there))
            ∙ get_or-with_bytes start payload bytes i fits apart
            ∙ other_default bytes i 0 d there
        | inr beyond ↦ get_or_past written i d (omega (arith, whole, beyond)) ∙ sym (get_or_past bytes i d beyond)
      ]

module _ (a : Agent) (payload : List ℕ) (is : IsAgent a) (long : length payload ≡ 64) where
  pub sets_block : (block : ℕ) → has_block a block ≡ true
      → SetsBlock a (record a { table = with_bytes (64 * block) payload a.table }) block payload
      (take 64 (drop (64 * block) (with_bytes (64 * block) payload a.table)))
  unfolding written
  sets_block block has =
      let within = block_within a block is has in
      record {
        is_told = told_block a.table payload (64 * block) long within;
        inside = inside a.table payload (64 * block) long within 255;
        outside = outside a.table payload (64 * block) long within 255;
        all_else = refl;
      }

  sets_masks : (modifier : ℕ) → has_masks a modifier ≡ true
      → SetsMasks a (record a { masks = with_bytes (64 * position_in modifier) payload a.masks }) (position_in modifier) payload
      (take 64 (drop (64 * position_in modifier) (with_bytes (64 * position_in modifier) payload a.masks)))
  unfolding written
  sets_masks modifier has =
      let within = masks_within a modifier is has in
      record {
        is_told = told_block a.masks payload (64 * position_in modifier) long within;
        inside = inside a.masks payload (64 * position_in modifier) long within 0;
        outside = outside a.masks payload (64 * position_in modifier) long within 0;
        all_else = refl;
      }

length-payload : (packet : List ℕ) → length packet ≡ 256 → length (bytes_in attribute_data packet) ≡ 64
length-payload packet long = let rest = length-drop 64 packet in length-take-le 64 (drop 64 packet) (omega arith)

-- what is known of what became and what is told is known of the answer
transported : (P : Agent → List ℕ → Type 0) (a : Agent) (packet : List ℕ) (arrival : ℕ) (b : Agent) (told payload : List ℕ)
    → TakenTo a packet arrival b told → get_of b packet arrival ≡ Ok payload → P b payload
    → P (after_answer a packet arrival).agent (bytes_in attribute_data (after_answer a packet arrival).packet)
transported P a packet arrival b told payload t got known =
    let both : ◌≡◌ {A = Result (List ℕ) Refusal} (Ok told) (Ok payload) = sym t.told ∙ got in
    let same : told ≡ payload = cc in
    let of_told : P b told = subst (P b) (sym same) known in
    let of_agent : P (after_answer a packet arrival).agent told = subst (λ (x : Agent). P x told) (sym t.agent) of_told in
    subst (P (after_answer a packet arrival).agent) (sym t.payload_is) of_agent

module _ (a b : Agent) (packet : List ℕ) (arrival : ℕ) where
  only_block : SetsSome a b packet arrival → number_in attribute_id packet ≡ linear_forwarding_table → SetsABlock a b packet arrival
  only_block (inl s) e = let clash : port_info ≡ linear_forwarding_table = sym s.attribute ∙ e in absurd (omega arith)
  only_block (inr (inl s)) e = let clash : switch_info ≡ linear_forwarding_table = sym s.1.attribute ∙ e in absurd (omega arith)
  only_block (inr (inr (inl s))) e = s
  only_block (inr (inr (inr s))) e = let clash : multicast_forwarding_table ≡ linear_forwarding_table = sym s.1.attribute ∙ e in absurd (omega arith)

  only_masks : SetsSome a b packet arrival → number_in attribute_id packet ≡ multicast_forwarding_table → SetsTheMasks a b packet arrival
  only_masks (inl s) e = let clash : port_info ≡ multicast_forwarding_table = sym s.attribute ∙ e in absurd (omega arith)
  only_masks (inr (inl s)) e = let clash : switch_info ≡ multicast_forwarding_table = sym s.1.attribute ∙ e in absurd (omega arith)
  only_masks (inr (inr (inl s))) e = let clash : linear_forwarding_table ≡ multicast_forwarding_table = sym s.1.attribute ∙ e in absurd (omega arith)
  only_masks (inr (inr (inr s))) e = s

  only_top : SetsSome a b packet arrival → number_in attribute_id packet ≡ switch_info → SetsSwitchInfo a b packet arrival
  only_top (inl s) e = let clash : port_info ≡ switch_info = sym s.attribute ∙ e in absurd (omega arith)
  only_top (inr (inl s)) e = s
  only_top (inr (inr (inl s))) e = let clash : linear_forwarding_table ≡ switch_info = sym s.1.attribute ∙ e in absurd (omega arith)
  only_top (inr (inr (inr s))) e = let clash : multicast_forwarding_table ≡ switch_info = sym s.1.attribute ∙ e in absurd (omega arith)

  only_port : SetsSome a b packet arrival → number_in attribute_id packet ≡ port_info → SetsPortInfo a b packet arrival
  only_port (inl s) e = s
  only_port (inr (inl s)) e = let clash : switch_info ≡ port_info = sym s.1.attribute ∙ e in absurd (omega arith)
  only_port (inr (inr (inl s))) e = let clash : linear_forwarding_table ≡ port_info = sym s.1.attribute ∙ e in absurd (omega arith)
  only_port (inr (inr (inr s))) e = let clash : multicast_forwarding_table ≡ port_info = sym s.1.attribute ∙ e in absurd (omega arith)

pub blocks_are_set : BlocksAreSet
blocks_are_set a packet arrival is =
    let block = number_in attribute_modifier packet in
    let payload = bytes_in attribute_data packet in
    let t = taken_to a packet arrival linear_forwarding_table is in
    let b = t.0 in
    let s = only_block a b packet arrival (what_is_set a b packet arrival t.2.taken) is.attribute in
    let after = from_choice (record a { table = with_bytes (64 * block) payload a.table }) b (has_block a block) s.1.taken in
    let P : Agent → List ℕ → Type 0 = λ x told. SetsBlock a x block payload told in
    let known : SetsBlock a b block payload (take 64 (drop (64 * block) b.table)) =
    subst (λ (x : Agent). SetsBlock a x block payload (take 64 (drop (64 * block) x.table))) after.1
    (sets_block a payload is.agent (length-payload packet is.whole.count) block after.0) in
    let got = get_after_block a b packet arrival payload s.0 s.1.attribute s.1.taken in
    transported P a packet arrival b t.1 (take 64 (drop (64 * block) b.table)) t.2 got known

-- the masks of a position -------------------------------------------------------------------

pub masks_are_set : MasksAreSet
masks_are_set a packet arrival is =
    let modifier = number_in attribute_modifier packet in
    let position = position_in modifier in
    let payload = bytes_in attribute_data packet in
    let t = taken_to a packet arrival multicast_forwarding_table is in
    let b = t.0 in
    let s = only_masks a b packet arrival (what_is_set a b packet arrival t.2.taken) is.attribute in
    let after = from_choice (record a { masks = with_bytes (64 * position) payload a.masks }) b (has_masks a modifier) s.1.taken in
    let P : Agent → List ℕ → Type 0 = λ x told. SetsMasks a x position payload told in
    let known : SetsMasks a b position payload (take 64 (drop (64 * position) b.masks)) =
    subst (λ (x : Agent). SetsMasks a x position payload (take 64 (drop (64 * position) x.masks))) after.1
    (sets_masks a payload is.agent (length-payload packet is.whole.count) modifier after.0) in
    let got = get_after_masks a b packet arrival payload s.0 s.1.attribute s.1.taken in
    transported P a packet arrival b t.1 (take 64 (drop (64 * position) b.masks)) t.2 got known

-- the top -------------------------------------------------------------------------------------

told_top : (a : Agent) → a.top < 2 ^ 16 → number_in linear_fdb_top (get_switch_info a) ≡ a.top
told_top a small = number_in-with_numbers 64 (switch_entries a) (replicate 64 0) 1 (record { field = linear_fdb_top; number = a.top }) refl refl refl small

sets_top : (a : Agent) (payload : List ℕ) → IsAgent a → number_in linear_fdb_top payload < a.node.cap
    → SetsTop a (record a { top = number_in linear_fdb_top payload }) payload (get_switch_info (record a { top = number_in linear_fdb_top payload }))
sets_top a payload is below =
    let most : a.node.cap ≤ 49152 = is.node.cap in
    let small : number_in linear_fdb_top payload < 2 ^ 16 = omega arith in
    record { is_told = told_top (record a { top = number_in linear_fdb_top payload }) small; all_else = refl }

pub tops_are_set : TopsAreSet
tops_are_set a packet arrival is =
    let payload = bytes_in attribute_data packet in
    let t = taken_to a packet arrival switch_info is in
    let b = t.0 in
    let s = only_top a b packet arrival (what_is_set a b packet arrival t.2.taken) is.attribute in
    let after = from_choice (record a { top = number_in linear_fdb_top payload }) b (nat_lt (number_in linear_fdb_top payload) a.node.cap) s.1.taken in
    let P : Agent → List ℕ → Type 0 = λ x told. SetsTop a x payload told in
    let known : SetsTop a b payload (get_switch_info b) =
    subst (λ (x : Agent). SetsTop a x payload (get_switch_info x)) after.1 (sets_top a payload is.agent (ltb-true _ _ after.0)) in
    transported P a packet arrival b t.1 (get_switch_info b) t.2 (get_after_top a b packet arrival payload s.0 s.1.attribute s.1.taken) known

-- a port --------------------------------------------------------------------------------------

found_passes : {X : Type 0} (p : X → Bool) (y x : X) (c : Bool) (later : Option X) → c ≡ p y → (later ≡ Some x → p x ≡ true)
    → (if c then Some y else later) ≡ Some x → p x ≡ true
found_passes p y x true later e f h = let same : y ≡ x = cc in ap p (sym same) ∙ sym e
found_passes p y x false later e f h = f h

find_passes : {X : Type 0} (p : X → Bool) (xs : List X) (x : X) → find p xs ≡ Some x → p x ≡ true
find_passes p [] x h = cc
find_passes p (y ∷ xs) x h = found_passes p y x (p y) (find p xs) refl (find_passes p xs x) h

state_number : (number : ℕ) (state : PortState) → state_of_number number ≡ Some state → number ≡ number_of_state state
state_number number state h = eqb-true _ _ (find_passes (λ s. number == number_of_state s) (NoChange ∷ Down ∷ Initialize ∷ Armed ∷ Active ∷ []) state h)

-- the state is the one wished for, if one was
state_chosen : (s w t : PortState) (b c : Bool) → b ≡ (number_of_state w == 0 || number_of_state w == number_of_state s)
    → (if b then Some s else if c then Some w else None) ≡ Some t → number_of_state w ≢ 0 → number_of_state t ≡ number_of_state w
state_chosen s w t true c e h some =
    let same : s ≡ t = cc in
    elim (or_cases (number_of_state w == 0) (number_of_state w == number_of_state s) (sym e)) [
      | inl none ↦ absurd (some (eqb-true _ _ none))
      | inr present ↦ ap number_of_state (sym same) ∙ sym (eqb-true _ _ present)
    ]
state_chosen s w t false true e h some = let same : w ≡ t = cc in ap number_of_state (sym same)
state_chosen s w t false false e h some = cc

state_wished : (s t : PortState) (number : ℕ) (wish : Option PortState) → wish ≡ state_of_number number → option_and_then (state_after s) wish ≡ Some t
    → number ≢ 0 → number_of_state t ≡ number
state_wished s t number None e h some = cc
state_wished s t number (Some w) e h some =
    let is = state_number number w (sym e) in
    state_chosen s w t _ (is_next_state s w) refl h (λ z. some (is ∙ z)) ∙ sym is

-- what became of a port
pub record Became (port new : Port) (has : Bool) (payload : List ℕ) : Type 0 where
  pub lid_fits : number_in base_lid payload < lid_end
  pub lids : has ≡ true → (new.base_lid, new.lmc) ≡ range_in payload
  pub state : bits_in port_state payload ≢ 0 → number_of_state new.state ≡ bits_in port_state payload

module _ (port new : Port) (has : Bool) (most : ℕ) (payload : List ℕ) where
  became_with : (t : PortState) → number_in base_lid payload < lid_end → (bits_in port_state payload ≢ 0 → number_of_state t ≡ bits_in port_state payload)
      → Became port (port_with port has payload t) has payload
  became_with t small state =
      record {
        lid_fits = small;
        lids = λ e. ap (λ (b : Bool). (if b then number_in base_lid payload else port.base_lid, if b then bits_in lmc payload else port.lmc)) e;
        state = state;
      }

  became_by : (b : Bool) (m : Option PortState) → (b ≡ true → number_in base_lid payload < lid_end)
      → ((t : PortState) → m ≡ Some t → bits_in port_state payload ≢ 0 → number_of_state t ≡ bits_in port_state payload)
      → (if b then option_map (port_with port has payload) m else None) ≡ Some new → Became port new has payload
  became_by false m small state h = cc
  became_by true None small state h = cc
  became_by true (Some t) small state h =
      let e : port_with port has payload t ≡ new = cc in
      subst (λ (x : Port). Became port x has payload) e (became_with t (small refl) (state t refl))

  pub became : port_after port has most payload ≡ Some new → Became port new has payload
  became h =
      became_by (are_lids_taken most payload) _ (lid_taken most payload)
      (λ t e. state_wished port.state t (bits_in port_state payload) (state_of_number (bits_in port_state payload)) refl e) h

-- what is told of a port
module _ (port : Port) (arrival : ℕ) where
  told_lid : port.base_lid < 2 ^ 16 → number_in base_lid (port_info_of port arrival) ≡ port.base_lid
  told_lid small =
      let long = length-port_image port arrival in
      let marked = length-port_marked port arrival in
      let ranged = length-port_ranged port arrival in
      number_in-with_number_apart base_lid (record { at = 32; len = 1 }) _ (port_ranged port arrival) (omega arith) refl
      ∙ number_in-with_number_apart base_lid (record { at = 34; len = 1 }) _ (port_marked port arrival) (omega arith) refl
      ∙ number_in-with_number_apart base_lid (record { at = 23; len = 1 }) _ (image (port_entries port arrival)) (omega arith) refl
      ∙ number_in-with_numbers 64 (port_entries port arrival) (replicate 64 0) 0 (record { field = base_lid; number = port.base_lid }) refl refl refl small

  -- behind the LIDs and the number of the port nothing is written but the state and the LMC
  blank : (i : ℕ) → 29 ≤ i → i < 64 → get_or (port_marked port arrival) i 0 ≡ 0
  blank i from below =
      let long = length-port_image port arrival in
      get_or-with_number (record { at = 23; len = 1 }) _ (image (port_entries port arrival)) i (omega arith) (inr (omega arith))
      ∙ get_or-with_numbers_behind 29 (port_entries port arrival) (replicate 64 0) i (omega arith) refl (omega arith)
      ∙ get_or-replicate 64 i 0 0 below

  -- and the state not before the LMC
  below_lmc : get_or (port_ranged port arrival) 32 0 ≡ get_or (port_marked port arrival) 32 0
  below_lmc =
      let marked = length-port_marked port arrival in
      get_or-with_number (record { at = 34; len = 1 }) _ (port_marked port arrival) 32 (omega arith) (inl (omega arith))

  pub told_state : bits_in port_state (port_info_of port arrival) ≡ number_of_state port.state
  told_state =
      let marked = length-port_marked port arrival in
      let ranged = length-port_ranged port arrival in
      let empty = blank 32 (omega arith) (omega arith) in
      let apart : get_or (port_ranged port arrival) 32 0 ≡ 0 = below_lmc ∙ empty in
      bits_in-with_bits port_state (number_of_state port.state) (port_ranged port arrival) (omega arith) (omega arith) (omega arith) (state_small port.state)

  pub told_lmc : port.lmc < 8 → bits_in lmc (port_info_of port arrival) ≡ port.lmc
  told_lmc small =
      let marked = length-port_marked port arrival in
      let ranged = length-port_ranged port arrival in
      let empty = blank 32 (omega arith) (omega arith) in
      let none = blank 34 (omega arith) (omega arith) in
      let apart : get_or (port_ranged port arrival) 32 0 ≡ 0 = below_lmc ∙ empty in
      bits_in-with_bits_apart lmc port_state (number_of_state port.state) (port_ranged port arrival) (omega arith) (omega arith) (omega arith)
      (state_small port.state) refl
      ∙ bits_in-with_bits lmc port.lmc (port_marked port arrival) (omega arith) (omega arith) (omega arith) (omega arith)

-- and both, where they are those of a payload
told_range : (port : Port) (arrival : ℕ) (payload : List ℕ) → (port.base_lid, port.lmc) ≡ range_in payload → number_in base_lid payload < lid_end
    → range_in (port_info_of port arrival) ≡ (port.base_lid, port.lmc)
told_range port arrival payload e fits =
    let lid : port.base_lid ≡ number_in base_lid payload = ap (λ (x : ℕ × ℕ). x.0) e in
    let lmc_is : port.lmc ≡ bits_in lmc payload = ap (λ (x : ℕ × ℕ). x.1) e in
    let small : bits_in lmc payload < 8 = mod-lt _ (pow_pos 3) in
    λ i. (told_lid port arrival (omega arith) i, told_lmc port arrival (omega arith) i)

sets_port : (a : Agent) (port arrival : ℕ) (payload : List ℕ) (new : Port) → port < length a.ports
    → Became (port_at a port) new (has_lid a port) payload
    → SetsPort a (with_port a port new) port payload (port_info_of (port_at (with_port a port new) port) arrival)
sets_port a port arrival payload new there is =
    let here : port_at (with_port a port new) port ≡ new = get_or-set_same a.ports port new (port_in Down) there in
    let lids : has_lid a port ≡ true → range_at (with_port a port new) port ≡ range_in payload =
    λ h. ap (λ (p : Port). (p.base_lid, p.lmc)) here ∙ is.lids h in
    record {
      lids = lids;
      lids_told = λ h. told_range (port_at (with_port a port new) port) arrival payload (lids h) is.lid_fits ∙ lids h;
      state_told = λ some. told_state (port_at (with_port a port new) port) arrival ∙ ap (λ (p : Port). number_of_state p.state) here ∙ is.state some;
      others = λ index other. get_or-set_other a.ports port index new (port_in Down) other;
      all_else = refl;
    }

meant_by : (at_switch inside asked : Bool) (modifier arrival port n : ℕ) → (inside ≡ true → modifier ≤ n) → arrival ≤ n
    → (if at_switch then (if inside then Some modifier else None) else if asked then Some arrival else None) ≡ Some port → port ≤ n
meant_by true true asked modifier arrival port n fits there h = let same : modifier ≡ port = cc in subst (λ (k : ℕ). k ≤ n) same (fits refl)
meant_by true false asked modifier arrival port n fits there h = cc
meant_by false inside true modifier arrival port n fits there h = let same : arrival ≡ port = cc in subst (λ (k : ℕ). k ≤ n) same there
meant_by false inside false modifier arrival port n fits there h = cc

-- the port that is meant is one of the node
pub meant_fits : (a : Agent) (modifier arrival port : ℕ) → arrival ≤ a.node.ports → port_meant a modifier arrival ≡ Some port → port ≤ a.node.ports
meant_fits a modifier arrival port there h =
    meant_by (is_switch a) (nat_le modifier a.node.ports) _ modifier arrival port a.node.ports (λ e. leb-true _ _ e) there h

one_port : (p q : ℕ) (m : Option ℕ) → m ≡ Some p → m ≡ Some q → p ≡ q
one_port p q m e f = cc

pub ports_are_set : PortsAreSet
ports_are_set a packet arrival port there is meant =
    let modifier = number_in attribute_modifier packet in
    let payload = bytes_in attribute_data packet in
    let t = taken_to a packet arrival port_info is in
    let b = t.0 in
    let s = only_port a b packet arrival (what_is_set a b packet arrival t.2.taken) is.attribute in
    let after = port_taken a b modifier arrival payload s.taken in
    let same : after.0 ≡ port = one_port after.0 port (port_meant a modifier arrival) after.2.meant meant in
    let fits : port ≤ a.node.ports = meant_fits a modifier arrival port there meant in
    let count : length a.ports ≡ a.node.ports + 1 = is.agent.count in
    let P : Agent → List ℕ → Type 0 = λ x told. SetsPort a x port payload told in
    let of_port : SetsPort a (with_port a after.0 after.1) after.0 payload (port_info_of (port_at (with_port a after.0 after.1) after.0) arrival) =
    sets_port a after.0 arrival payload after.1 (omega arith) (became (port_at a after.0) after.1 (has_lid a after.0) (max_lmc a after.0) payload after.2.after)
    in
    let of_agent : SetsPort a b after.0 payload (port_info_of (port_at b after.0) arrival) =
    subst (λ (x : Agent). SetsPort a x after.0 payload (port_info_of (port_at x after.0) arrival)) after.2.agent of_port in
    let known : SetsPort a b port payload (port_info_of (port_at b after.0) arrival) =
    subst (λ (n : ℕ). SetsPort a b n payload (port_info_of (port_at b after.0) arrival)) same of_agent in
    transported P a packet arrival b t.1 (port_info_of (port_at b after.0) arrival) t.2
    (get_after_port a b packet arrival after.0 after.1 payload s.attribute after.2) known
