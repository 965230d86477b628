-- Sets say what the plan asks for, and carry everything else as it was read.
use Rattle.std.proofs.Common.{◌≡◌, ℕ, ◌+◌, ◌/◌, ◌^◌, ◌<◌, ◌≤◌, List, [], ◌∷◌, refl, sym, ap, ◌∙◌, subst, arith, Bool, true, false, get_or, drop, ⊎_elim}
use Rattle.std.specs.Prelude.{Contains, Option, Some, None, option_map, ◌==◌, ◌&&◌, if◌then◌else◌, min}
use Rattle.std.specs.Option.{option_map_or}
use Rattle.std.proofs.lemmas.Bool.{and_parts, cond-true, cond-false}
use Rattle.std.proofs.lemmas.List.{get_or-drop}
use Rattle.std.proofs.Math.Nat.{mod-lt}
use Rattle.smp_bytes.specs.Field.{Bits, Field, are_apart, are_bits_apart, bits_in, number_in, replaced, with_bits, with_number}
use Rattle.smp_bytes.proofs.BitLaws.{bits_in-with_bits, bits_in-with_bits_apart, get_or-with_bits, replaced_fits}
use Rattle.smp_bytes.proofs.CopyLaws.{byte_at_offset, with_number-twice}
use Rattle.byteorder.specs.Numbers.{big_from-lt}
use Rattle.smp_bytes.proofs.Members.{contains_cases, contains_none}
use Rattle.smp_bytes.proofs.FieldLaws.{number_in-with_number, number_in-with_number_apart}
use Rattle.attr_codec.specs.PortInfo.{base_lid, gid_prefix, link_down_default_state, lmc, master_sm_lid}
use Rattle.attr_codec.specs.PortInfo.{number_of_state, port_physical_state, port_state, range_in, client_reregister}
use Rattle.attr_codec.specs.PortInfo.{hoq_life, link_speed_enabled, link_speed_ext_enabled, link_width_enabled}
use Rattle.attr_codec.specs.PortInfo.{subnet_timeout, mtu_cap, neighbor_mtu}
use Rattle.attr_codec.specs.Spelling.{Are64Bytes}
use Rattle.attr_codec.specs.SwitchInfo.{life_time_value, linear_fdb_top, port_state_change}
use Rattle.attr_codec.specs.declared.port_state.PortState.{PortState}
use Rattle.attr_codec.specs.declared.port_state.PortState.TheVariants.{NoChange}
use Rattle.smp_bytes.specs.Header.{port_info}
use Rattle.sweep.specs.Sweep.{Sweep, path_to, seen_state}
use Rattle.plan_steps.specs.declared.step.Step.{Step}
use Rattle.attr_codec.proofs.PortStates.{state_small}
use Rattle.plan_steps.specs.Carried.{Change, carried_port, carried_switch, copied, link_local_prefix, or_default}
use Rattle.plan_steps.specs.Carried.{port_changes, switch_changes, mtu_of, port_read}
use Rattle.plan_steps.specs.LidSteps.{port_data}
use Rattle.plan_steps.specs.StateSteps.{is_due, state_data, vertex_port}
use Rattle.plan_steps.specs.Step.{step_at}
use Rattle.plan_steps.specs.SetLaws.{CarriesPort, CarriesSwitch, LidAndStateAgree, SaysPort, SaysTop, SetsChangeNothingElse, SetsSayThePlan}
use Rattle.plan_steps.specs.BlockSteps.{top_data}
use Rattle.plan_steps.proofs.Changed.{AllFit, Fits, bits_in-changed, bits_in-changed_apart, bits_in-with_number, number_in-changed_apart, whole-changed}
use Rattle.plan_steps.proofs.Whole.{IsWhole, copied_is, copied_whole, whole-with_bits, whole-with_number, whole_zeros}
use Rattle.plan_steps.specs.declared.carried.PortRead.{PortRead}

-- numbers fit their bits ---------------------------------------------------------------------------

-- so does a default, or what was read
default_fits : (otherwise number most : ℕ) → otherwise < most → number < most → or_default otherwise number < most
default_fits otherwise number most less fits = by (number == 0) refl
  where
    by : (b : Bool) → (number == 0) ≡ b → or_default otherwise number < most
    by true e = subst (λ (n : ℕ). n < most) (sym (cond-true _ _ _ e)) less
    by false e = subst (λ (n : ℕ). n < most) (sym (cond-false _ _ _ e)) fits

read_fits : (b : Bits) (otherwise : ℕ) (read : List ℕ) → otherwise < 2 ^ b.width → 0 < 2 ^ b.width → or_default otherwise (bits_in b read) < 2 ^ b.width
read_fits b otherwise read less some =
    default_fits otherwise (bits_in b read) (2 ^ b.width) less (mod-lt (get_or read b.at 0 / 2 ^ b.shift) some)

small : (b : Bits) (number : ℕ) → b.at < 64 → b.shift + b.width ≤ 8 → number < 2 ^ b.width → Fits (record { bits = b; number = number })
small b number at room fits = record { at = at; room = room; number = fits }

mtu_fits : (own : List ℕ) (far : Option (List ℕ)) → mtu_of own far < 16
mtu_fits own None = mod-lt (get_or own 36 0 / 2 ^ 4) (omega arith)
mtu_fits own (Some far) =
    let as_read : bits_in neighbor_mtu own < 16 = mod-lt (get_or own 36 0 / 2 ^ 4) (omega arith) in
    let one : bits_in mtu_cap own < 16 = mod-lt (get_or own 41 0 / 2 ^ 0) (omega arith) in
    default_fits (bits_in neighbor_mtu own) (min (bits_in mtu_cap own) (bits_in mtu_cap far)) 16 as_read (omega (arith, one))

port_fit : (read : PortRead) → AllFit (port_changes read)
port_fit read = (
  small link_width_enabled 0 (omega arith) (omega arith) (omega arith),
  (
    small link_speed_enabled 0 (omega arith) (omega arith) (omega arith),
    (
      small link_speed_ext_enabled 0 (omega arith) (omega arith) (omega arith),
      (
        small port_physical_state 0 (omega arith) (omega arith) (omega arith),
        (
          small link_down_default_state 0 (omega arith) (omega arith) (omega arith),
          (
            small neighbor_mtu (mtu_of read.own read.far) (omega arith) (omega arith) (mtu_fits read.own read.far),
            (
              small hoq_life _ (omega arith) (omega arith) (read_fits hoq_life 16 read.own (omega arith) (omega arith)),
              (
                small subnet_timeout _ (omega arith) (omega arith) (read_fits subnet_timeout 18 read.own (omega arith) (omega arith)),
                (small client_reregister 0 (omega arith) (omega arith) (omega arith), tt),
              ),
            ),
          ),
        ),
      ),
    ),
  ),
)

switch_fit : (read : List ℕ) → AllFit (switch_changes read)
switch_fit read = (
  small life_time_value _ (omega arith) (omega arith) (read_fits life_time_value 18 read (omega arith) (omega arith)),
  (small port_state_change 1 (omega arith) (omega arith) (omega arith), tt),
)

-- what is carried is whole -------------------------------------------------------------------------

pub carried_port_whole : (read : Option PortRead) → IsWhole (carried_port read)
carried_port_whole None = whole_zeros
carried_port_whole (Some read) =
    whole-changed (port_changes read) (with_number gid_prefix (or_default link_local_prefix (number_in gid_prefix read.own)) (copied read.own)) (port_fit read)
    (whole-with_number gid_prefix (or_default link_local_prefix (number_in gid_prefix read.own)) (copied read.own) (omega arith) (copied_whole read.own))

pub carried_switch_whole : (read : Option (List ℕ)) → IsWhole (carried_switch read)
carried_switch_whole None = whole_zeros
carried_switch_whole (Some read) = whole-changed (switch_changes read) (copied read) (switch_fit read) (copied_whole read)

-- what a step sets of PortInfo -----------------------------------------------------------------------

module _ (base : List ℕ) (whole : IsWhole base) (range : ℕ × ℕ) (few : range.1 < 8) (master : ℕ) (state : PortState) where
  abbrev one : List ℕ
  one = with_number base_lid range.0 base

  abbrev two : List ℕ
  two = with_number master_sm_lid master one

  abbrev three : List ℕ
  three = with_bits lmc range.1 two

  abbrev four : List ℕ
  four = with_bits port_state (number_of_state state) three

  whole_one : IsWhole one
  whole_one = whole-with_number base_lid range.0 base (omega arith) whole

  whole_two : IsWhole two
  whole_two = whole-with_number master_sm_lid master one (omega arith) whole_one

  whole_three : IsWhole three
  whole_three = whole-with_bits lmc range.1 two (omega arith) whole_two

  whole_four : IsWhole four
  whole_four = whole-with_bits port_state (number_of_state state) three (omega arith) whole_three

  field_stays : (f : Field) → are_apart f (record { at = 34; len = 1 }) ≡ true → are_apart f (record { at = 32; len = 1 }) ≡ true
      → number_in f four ≡ number_in f two
  field_stays f apart_34 apart_32 =
      let n = whole_three.count in
      let m = whole_two.count in
      number_in-with_number_apart f (record { at = 32; len = 1 }) _ three (omega (arith, n)) apart_32
      ∙ number_in-with_number_apart f (record { at = 34; len = 1 }) _ two (omega (arith, m)) apart_34

  lid_there : range.0 < 2 ^ 16 → number_in base_lid four ≡ range.0
  lid_there fits =
      let n = whole.count in
      let m = whole_one.count in
      field_stays base_lid refl refl ∙ number_in-with_number_apart base_lid master_sm_lid master one (omega (arith, m)) refl
      ∙ number_in-with_number base_lid range.0 base (omega (arith, n)) (omega (arith, fits))

  master_there : master < 2 ^ 16 → number_in master_sm_lid four ≡ master
  master_there fits =
      let m = whole_one.count in
      field_stays master_sm_lid refl refl ∙ number_in-with_number master_sm_lid master one (omega (arith, m)) (omega (arith, fits))

  lmc_there : bits_in lmc four ≡ range.1
  lmc_there =
      let n = whole_three.count in
      let m = whole_two.count in
      bits_in-with_bits_apart lmc port_state (number_of_state state) three (omega (arith, n)) (whole_three.small 32) (omega arith) (state_small state) refl
      ∙ bits_in-with_bits lmc range.1 two (omega (arith, m)) (whole_two.small 34) (omega arith) few

  state_there : bits_in port_state four ≡ number_of_state state
  state_there =
      let n = whole_three.count in
      bits_in-with_bits port_state (number_of_state state) three (omega (arith, n)) (whole_three.small 32) (omega arith) (state_small state)

  says_port : range.0 < 2 ^ 16 → master < 2 ^ 16 → SaysPort range master state four
  says_port fits small_master =
      record {
        whole = whole_four.count;
        range_is = λ i. (lid_there fits i, lmc_there i);
        master_is = master_there small_master;
        state_is = state_there;
      }

  -- all else
  bits_stay : (b : Bits) → are_apart (record { at = b.at; len = 1 }) base_lid ≡ true → are_apart (record { at = b.at; len = 1 }) master_sm_lid ≡ true
      → are_bits_apart b port_state ≡ true → are_bits_apart b lmc ≡ true → bits_in b four ≡ bits_in b base
  bits_stay b no_lid no_master no_state no_lmc =
      let n = whole_three.count in
      let m = whole_two.count in
      bits_in-with_bits_apart b port_state (number_of_state state) three (omega (arith, n)) (whole_three.small 32) (omega arith) (state_small state) no_state
      ∙ bits_in-with_bits_apart b lmc range.1 two (omega (arith, m)) (whole_two.small 34) (omega arith) few no_lmc
      ∙ bits_in-with_number b master_sm_lid master one (omega arith) whole_one no_master
      ∙ bits_in-with_number b base_lid range.0 base (omega arith) whole no_lid

  prefix_stays : number_in gid_prefix four ≡ number_in gid_prefix base
  prefix_stays =
      let n = whole.count in
      let m = whole_one.count in
      field_stays gid_prefix refl refl ∙ number_in-with_number_apart gid_prefix master_sm_lid master one (omega (arith, m)) refl
      ∙ number_in-with_number_apart gid_prefix base_lid range.0 base (omega (arith, n)) refl

-- of any Set: it is whole, and its LID and LMC are those that it is made with
pub port_data_whole : (read : Option PortRead) (range : ℕ × ℕ) (master : ℕ) (state : PortState) → IsWhole (port_data read range master state)
port_data_whole read range master state =
    whole-with_bits port_state (number_of_state state) _ (omega arith) (whole-with_bits lmc range.1 _ (omega arith)
    (whole-with_number master_sm_lid master _ (omega arith) (whole-with_number base_lid range.0 (carried_port read) (omega arith) (carried_port_whole read))))

pub range-port_data : (read : Option PortRead) (range : ℕ × ℕ) (master : ℕ) (state : PortState) → range.0 < 2 ^ 16 → range.1 < 8
    → range_in (port_data read range master state) ≡ range
range-port_data read range master state fits few =
    λ i. (
      lid_there (carried_port read) (carried_port_whole read) range few master state fits i,
      lmc_there (carried_port read) (carried_port_whole read) range few master state i,
    )

-- the laws ---------------------------------------------------------------------------------------------

pub says_top : (read : Option (List ℕ)) (top : ℕ) → top < 2 ^ 16 → SaysTop top (top_data read top)
says_top read top fits =
    let whole = carried_switch_whole read in
    let n = whole.count in
    record {
      whole = (whole-with_number linear_fdb_top top (carried_switch read) (omega arith) whole).count;
      top_is = number_in-with_number linear_fdb_top top (carried_switch read) (omega (arith, n)) (omega (arith, fits));
    }

pub sets_say_the_plan : SetsSayThePlan
sets_say_the_plan =
    record {
      port = λ read range master state fits few small_master.
          says_port (carried_port read) (carried_port_whole read) range few master state fits small_master;
      switch = says_top;
    }

-- 64 bytes that were read are whole
read_whole : (read : List ℕ) → Are64Bytes read → IsWhole read
read_whole read are = record { count = are.count; small = byte_at_offset read are.bytes_fit }

-- what holds of each change of a list
passes_each : (test : Change → Bool) → List Change → Bool
passes_each test [] = true
passes_each test (c ∷ changes) = test c && passes_each test changes

passed : (test : Change → Bool) (changes : List Change) → passes_each test changes ≡ true → (c : Change) → Contains changes c → test c ≡ true
unfolding passes_each
passed test [] all c there = absurd (contains_none c there)
passed test (first ∷ changes) all c there =
    let tests = and_parts (test first) (passes_each test changes) all in
    ⊎_elim (λ same. subst (λ (x : Change). test x ≡ true) same tests.0) (λ later. passed test changes tests.1 c later) (contains_cases first c changes there)

-- the number of a field of bytes fits them
field_fits : (f : Field) (read : List ℕ) → IsWhole read → number_in f read < 256 ^ f.len
field_fits f read whole =
    big_from-lt 0 f.len (drop f.at read)
    (λ k. subst (λ (n : ℕ). n < 256) (sym (get_or-drop f.at read k 0)) (whole.small (f.at + k)))

-- the bits are not those that a step sets
is_kept : Bits → Bool
is_kept b =
    (are_apart (record { at = b.at; len = 1 }) base_lid && are_apart (record { at = b.at; len = 1 }) master_sm_lid)
    && (are_bits_apart b port_state && are_bits_apart b lmc)

module _ (read : PortRead) (are : Are64Bytes read.own) (range : ℕ × ℕ) (few : range.1 < 8) (master : ℕ) (state : PortState) where
  payload : List ℕ
  payload = port_data (Some read) range master state

  prefix : ℕ
  prefix = or_default link_local_prefix (number_in gid_prefix read.own)

  copy : copied read.own ≡ read.own
  copy = copied_is read.own (read_whole read.own are)

  prefixed : List ℕ
  prefixed = with_number gid_prefix prefix (copied read.own)

  whole_prefixed : IsWhole (with_number gid_prefix (or_default link_local_prefix (number_in gid_prefix read.own)) (copied read.own))
  whole_prefixed =
      whole-with_number gid_prefix (or_default link_local_prefix (number_in gid_prefix read.own)) (copied read.own) (omega arith) (copied_whole read.own)

  stays : (b : Bits) → is_kept b ≡ true → bits_in b (port_data (Some read) range master state) ≡ bits_in b (carried_port (Some read))
  unfolding is_kept
  stays b kept =
      let sides = and_parts _ _ kept in
      let bytes = and_parts _ _ sides.0 in
      let bits = and_parts _ _ sides.1 in
      bits_stay (carried_port (Some read)) (carried_port_whole (Some read)) range few master state b bytes.0 bytes.1 bits.0 bits.1

  carries_port : CarriesPort read (port_data (Some read) range master state)
  unfolding passes_each is_kept
  carries_port =
      let whole = carried_port_whole (Some read) in
      let fits : or_default link_local_prefix (number_in gid_prefix read.own) < 256 ^ 8 =
      default_fits link_local_prefix (number_in gid_prefix read.own) (256 ^ 8) (omega arith) (field_fits gid_prefix read.own (read_whole read.own are)) in
      let long = (copied_whole read.own).count in
      record {
        others = λ b outside apart.
            let lids = and_parts _ _ outside in
            let more = and_parts _ _ lids.1 in
            let rest = and_parts _ _ more.1 in
            let first = and_parts _ _ apart in
            let second = and_parts _ _ first.1 in
            bits_stay (carried_port (Some read)) whole range few master state b lids.0 more.0 first.0 second.0
            ∙ bits_in-changed_apart b (port_changes read) _ (port_fit read) whole_prefixed second.1
            ∙ bits_in-with_number b gid_prefix (or_default link_local_prefix (number_in gid_prefix read.own)) (copied read.own) (omega arith)
            (copied_whole read.own) rest.0
            ∙ ap (bits_in b) copy;
        changes = λ c there.
            stays c.bits (passed (λ x. is_kept x.bits) (port_changes read) refl c there)
            ∙ bits_in-changed (port_changes read) _ (port_fit read) refl whole_prefixed c there;
        prefix = prefix_stays (carried_port (Some read)) whole range few master state
            ∙ number_in-changed_apart gid_prefix (port_changes read) _ (port_fit read) whole_prefixed refl
            ∙ number_in-with_number gid_prefix (or_default link_local_prefix (number_in gid_prefix read.own)) (copied read.own) (omega (arith, long)) fits;
      }

carries_switch : (read : List ℕ) (top : ℕ) → Are64Bytes read → CarriesSwitch read (top_data (Some read) top)
unfolding passes_each
carries_switch read top are =
    let whole = carried_switch_whole (Some read) in
    record {
      others = λ b outside apart.
          bits_in-with_number b linear_fdb_top top (carried_switch (Some read)) (omega arith) whole (and_parts _ _ outside).0
          ∙ bits_in-changed_apart b (switch_changes read) (copied read) (switch_fit read) (copied_whole read) apart
          ∙ ap (bits_in b) (copied_is read (read_whole read are));
      changes = λ c there.
          bits_in-with_number c.bits linear_fdb_top top (carried_switch (Some read)) (omega arith) whole
          (passed (λ x. are_apart (record { at = x.bits.at; len = 1 }) linear_fdb_top) (switch_changes read) refl c there)
          ∙ bits_in-changed (switch_changes read) (copied read) (switch_fit read) refl (copied_whole read) c there;
    }

pub sets_change_nothing_else : SetsChangeNothingElse
sets_change_nothing_else =
    record { port = λ read range master state are few. carries_port read are range few master state; switch = carries_switch }

-- the state alone --------------------------------------------------------------------------------------

-- of two states that are written the last one stands
replaced_twice : (before after byte : ℕ) → before < 16 → after < 16 → byte < 256
    → replaced port_state after (replaced port_state before byte) ≡ replaced port_state after byte
replaced_twice before after byte small_before small_after small_byte = omega arith

pub state_alone : (base : List ℕ) (before after : PortState) → IsWhole base
    → with_bits port_state (number_of_state after) (with_bits port_state (number_of_state before) base) ≡ with_bits port_state (number_of_state after) base
state_alone base before after whole =
    let n = whole.count in
    let small_before = state_small before in
    let first = with_bits port_state (number_of_state before) base in
    let at : get_or first 32 0 ≡ replaced port_state (number_of_state before) (get_or base 32 0) =
    get_or-with_bits port_state (number_of_state before) base (omega (arith, n))
    (replaced_fits port_state (number_of_state before) (get_or base 32 0) (whole.small 32) small_before (omega arith)) in
    ap (λ (b : ℕ). with_number (record { at = 32; len = 1 }) b first)
    (ap (replaced port_state (number_of_state after)) at
    ∙ replaced_twice (number_of_state before) (number_of_state after) (get_or base 32 0) small_before (state_small after) (whole.small 32))
    ∙ with_number-twice (record { at = 32; len = 1 }) (replaced port_state (number_of_state after) (get_or base 32 0))
    (replaced port_state (number_of_state before) (get_or base 32 0)) base (omega (arith, n))

pub state_sets_alike : (read : Option PortRead) (range : ℕ × ℕ) (master : ℕ) (before after : PortState)
    → with_bits port_state (number_of_state after) (port_data read range master before) ≡ port_data read range master after
state_sets_alike read range master before after =
    let base = with_bits lmc range.1 (with_number master_sm_lid master (with_number base_lid range.0 (carried_port read))) in
    state_alone base before after
    (whole-with_bits lmc range.1 _ (omega arith) (whole-with_number master_sm_lid master _ (omega arith)
    (whole-with_number base_lid range.0 (carried_port read) (omega arith) (carried_port_whole read))))

same_step : (a b : Step) → Some a ≡ Some b → a ≡ b
same_step a b h = cc

-- a step at a vertex has the payload that it is made with
payload_at : (sweep : Sweep) (guid vertex attribute modifier : ℕ) (payload : List ℕ) (s : Step)
    → step_at sweep guid vertex attribute modifier payload ≡ Some s → s.payload ≡ payload
payload_at sweep guid vertex attribute modifier payload s made = by_path (path_to sweep guid vertex) made
  where
    by_path : (m : Option (List ℕ))
        → option_map (λ path. record { path = path; attribute = attribute; modifier = modifier; payload = payload }) m ≡ Some s
        → s.payload ≡ payload
    by_path None h = absurd (cc)
    by_path (Some path) h =
        let same : ◌≡◌ {A = Step} (record { path = path; attribute = attribute; modifier = modifier; payload = payload }) s = same_step _ s h in
        ap (λ (x : Step). x.payload) (sym same)

-- if there is one, the choice fell on it
chosen : (b : Bool) (m : Option Step) (s : Step) → (if b then m else None) ≡ Some s → m ≡ Some s
chosen true m s h = h
chosen false m s h = absurd (cc)

pub lid_and_state_agree : LidAndStateAgree
lid_and_state_agree cells sweep given master state e range of_lid of_state has lid_made state_made =
    let read = port_read cells sweep e.node e.port in
    let lid_is = payload_at sweep e.node e.port port_info e.port (port_data read range master NoChange) of_lid lid_made in
    let state_is = payload_at sweep e.node (vertex_port cells (e.node, e.port)) port_info e.port (state_data read given master state (e.node, e.port)) of_state
    (chosen (option_map_or (is_due state) (seen_state sweep e.node e.port) false) _ of_state state_made) in
    state_is
    ∙ ap (λ m. option_map_or (λ n. port_data read n master state) m (port_data read (0, 0) 0 state)) has
    ∙ sym (state_sets_alike read range master NoChange state)
    ∙ ap (with_bits port_state (number_of_state state)) (sym lid_is)
