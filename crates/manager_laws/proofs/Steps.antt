-- The steps of a writing: what each sets, and where it goes; and that there is one for all that the plan has where the sweep came to.
use Rattle.std.proofs.Common.{◌≡◌, ◌≢◌, ℕ, ◌+◌, ◌*◌, ◌<◌, ◌≤◌, ◌^◌, Bool, true, false, List, [], ◌∷◌, length, refl, sym, ap, ◌∙◌, subst, arith}
use Rattle.std.proofs.lemmas.Bool.{cond_both, eqb-true}
use Rattle.std.proofs.lemmas.List.FromFn.{length-map-range_with_len}
use Rattle.std.proofs.lemmas.Option.{same_Some, slice_get_within}
use Rattle.std.specs.Prelude.{Contains, Option, Some, None, option_map, option_and_then, replicate, slice_get, ◌==◌, if◌then◌else◌}
use Rattle.std.specs.Option.{option_map_or}
use Rattle.std.specs.List.{find, filter_map, flat_map, range_with_len}
use Rattle.smp_bytes.specs.Header.{port_info, switch_info, linear_forwarding_table, sm_info}
use Rattle.smp_bytes.specs.Field.{number_in}
use Rattle.smp_bytes.proofs.FieldLaws.{length-with_number}
use Rattle.smp_bytes.proofs.LidRanges.{has_its_lid}
use Rattle.attr_codec.specs.PortInfo.{range_in}
use Rattle.attr_codec.specs.SwitchInfo.{linear_fdb_top}
use Rattle.attr_codec.specs.declared.port_state.PortState.{PortState}
use Rattle.attr_codec.specs.declared.port_state.PortState.TheVariants.{NoChange, Armed, Active}
use Rattle.fact_store.specs.View.{Facts, cells_of}
use Rattle.subnet_view.specs.declared.end_port.EndPort.{EndPort}
use Rattle.subnet_view.specs.Reading.{is_usable, switches}
use Rattle.subnet_view.proofs.Apart.{found_there, contains_map, contains-from_map}
use Rattle.subnet_view.proofs.Members.{contains_none}
use Rattle.subnet_view.proofs.Taken.{taken_from, is_taken}
use Rattle.lid_assign.specs.Lids.{lids, lid_of, lmc_of, range_of, owner_of, top_of, rising_lids, IsNoRoom}
use Rattle.lid_assign.proofs.FreeLids.{room_at_most}
use Rattle.lid_assign.proofs.LidLaws.{lids_law, ports_apart}
use Rattle.lid_assign.proofs.Owners.{given-from_lid, lid-from_given, owners_are_inverse}
use Rattle.lid_assign.proofs.Ranges.{some_width}
use Rattle.lid_assign.proofs.RisingLids.{rising_lids_law}
use Rattle.lid_assign.proofs.Tops.{top_below}
use Rattle.lft_blocks.specs.Entries.{Next, attachment_of_lid, entry, block, block_count, blocks}
use Rattle.lft_blocks.specs.Plan.{PlanValue, SwitchTable, plan_of, block_at, switches_of, lid_routing}
use Rattle.lft_blocks.proofs.BlockLaws.{made_from}
use Rattle.lft_blocks.specs.Rule.{RuleValue}
use Rattle.sweep.specs.Sweep.{Sweep, path_to, seen_state, switch_image}
use Rattle.plan_steps.specs.declared.step.Step.{Step}
use Rattle.plan_steps.specs.declared.carried.PortRead.{PortRead}
use Rattle.plan_steps.specs.Carried.{carried_switch, port_read}
use Rattle.plan_steps.specs.Step.{step_at}
use Rattle.plan_steps.specs.LidSteps.{port_data, lid_step, owner_step, lid_steps}
use Rattle.plan_steps.specs.BlockSteps.{block_step, switch_steps, block_steps, top_data, top_step, top_steps}
use Rattle.plan_steps.specs.StateSteps.{wired_ports, is_due, vertex_port, state_data, state_step, state_steps}
use Rattle.plan_steps.specs.MaskSteps.{first_mask, mask_of, switch_mask_steps}
use Rattle.plan_steps.specs.Phase.{Phase, phases_by}
use Rattle.plan_steps.specs.Tree.{TreePorts}
use Rattle.plan_steps.proofs.SetLaws.{carried_switch_whole, port_data_whole, range-port_data, says_top}
use Rattle.manager_laws.proofs.AgentSets.{IsOfPlan}
use Rattle.manager_laws.proofs.MaskSteps.{IsMaskStep, few_positions, mask_step_there}
use Rattle.manager_laws.proofs.WritingLists.{in_flat_map, from_flat_map, in_range_from_0}

-- what a step is ----------------------------------------------------------------------------------

-- a step under the number that it goes out by, and whether the plan is not written without it
pub record StepSent : Type 0 where
  pub number : ℕ
  pub counts : Bool
  pub step : Step

-- a step of a phase that counts, or does not
pub record IsOf (phases : List Phase) (counts : Bool) (s : Step) : Type 0 where
  pub phase : Phase
  pub there : Contains phases phase
  pub counts_is : phase.counts ≡ counts
  pub step : Contains phase.steps s

-- its numbers fit a request, and it is no manager's business
pub record IsSendable (s : Step) : Type 0 where
  pub attribute : s.attribute < 2 ^ 16
  pub no_manager : s.attribute ≢ sm_info
  pub modifier : s.modifier < 2 ^ 32
  pub whole : length s.payload ≡ 64

-- it goes by the path by which the sweep came to a vertex
pub record GoesTo (sweep : Sweep) (guid vertex : ℕ) (s : Step) : Type 0 where
  pub path : path_to sweep guid vertex ≡ Some s.path

-- what it sets at the node of a GUID is what the plan has there, where the plan has anything
pub record SetsAsPlanned (plan : PlanValue) (guid : ℕ) (s : Step) : Type 0 where
  pub lids : s.attribute ≡ port_info → (range : ℕ × ℕ) → range_of plan.given (record { node = guid; port = s.modifier }) ≡ Some range
      → range_in s.payload ≡ range
  pub top : s.attribute ≡ switch_info → (top : ℕ) → top_of plan.given ≡ Some top → number_in linear_fdb_top s.payload ≡ top
  pub block : s.attribute ≡ linear_forwarding_table → (block : List ℕ) → block_at plan guid s.modifier ≡ Some block → s.payload ≡ block

-- any step of a writing
pub record IsStep (plan : PlanValue) (sweep : Sweep) (s : Step) : Type 0 where
  pub guid : ℕ
  pub vertex : ℕ
  pub goes : GoesTo sweep guid vertex s
  pub sendable : IsSendable s
  pub planned : SetsAsPlanned plan guid s
  pub zero : s.attribute ≡ port_info → s.modifier ≡ 0 → vertex ≡ 0

-- a step that counts
pub record IsPlanned (plan : PlanValue) (sweep : Sweep) (s : Step) : Type 0 where
  pub guid : ℕ
  pub vertex : ℕ
  pub goes : GoesTo sweep guid vertex s
  pub of_plan : IsOfPlan plan guid s
  pub port : s.attribute ≡ port_info → s.modifier ≡ vertex

-- what is read of a step to a vertex
record IsMade (sweep : Sweep) (guid vertex attribute modifier : ℕ) (payload : List ℕ) (s : Step) : Type 0 where
  pub goes : GoesTo sweep guid vertex s
  pub attribute_is : s.attribute ≡ attribute
  pub modifier_is : s.modifier ≡ modifier
  pub payload_is : s.payload ≡ payload

made : (sweep : Sweep) (guid vertex attribute modifier : ℕ) (payload : List ℕ) (s : Step) → step_at sweep guid vertex attribute modifier payload ≡ Some s
    → IsMade sweep guid vertex attribute modifier payload s
made sweep guid vertex attribute modifier payload s e = by_path (path_to sweep guid vertex) refl e
  where
    by_path : (m : Option (List ℕ)) → path_to sweep guid vertex ≡ m
        → option_map (λ path. record { path = path; attribute = attribute; modifier = modifier; payload = payload }) m ≡ Some s
        → IsMade sweep guid vertex attribute modifier payload s
    by_path None there h = absurd (cc)
    by_path (Some path) there h =
        let same : ◌≡◌ {A = Step} (record { path = path; attribute = attribute; modifier = modifier; payload = payload }) s = same_Some _ s h in
        subst (IsMade sweep guid vertex attribute modifier payload) same
        (record { goes = record { path = there }; attribute_is = refl; modifier_is = refl; payload_is = refl })

-- there is one where the sweep came to
making : (sweep : Sweep) (guid vertex attribute modifier : ℕ) (payload path : List ℕ) → path_to sweep guid vertex ≡ Some path
    → step_at sweep guid vertex attribute modifier payload ≡ Some (record { path = path; attribute = attribute; modifier = modifier; payload = payload })
making sweep guid vertex attribute modifier payload path there =
    ap (option_map (λ p. record { path = p; attribute = attribute; modifier = modifier; payload = payload })) there

-- payloads ----------------------------------------------------------------------------------------

length-port_data : (read : Option PortRead) (range : ℕ × ℕ) (master : ℕ) (state : PortState) → length (port_data read range master state) ≡ 64
length-port_data read range master state = (port_data_whole read range master state).count

length-top_data : (read : Option (List ℕ)) (top : ℕ) → length (top_data read top) ≡ 64
length-top_data read top =
    let whole = carried_switch_whole read in
    let long = whole.count in
    length-with_number linear_fdb_top top (carried_switch read) (omega (arith, long)) ∙ long

top-top_data : (read : Option (List ℕ)) (top : ℕ) → top < 2 ^ 16 → number_in linear_fdb_top (top_data read top) ≡ top
top-top_data read top small = (says_top read top small).top_is

-- the steps -----------------------------------------------------------------------------------------

module _ (rule : RuleValue) (lmc : ℕ) (few_lmc : lmc < 8) (facts : Facts) (has_room : ¬ (IsNoRoom lmc (cells_of facts))) (sweep : Sweep) (master : ℕ)
    (few : (guid vertex : ℕ) (path : List ℕ) → path_to sweep guid vertex ≡ Some path → vertex ≤ 254)
    (seen_few : (guid port : ℕ) (state : PortState) → seen_state sweep guid port ≡ Some state → port ≤ 254) where
  -- what the sweep read of a port, and of the port across
  abbrev pub read_of : ℕ → ℕ → Option PortRead
  read_of guid port = port_read (cells_of facts) sweep guid port

  pub lid_fits : (e : EndPort) (lid : ℕ) → Contains (lids lmc (cells_of facts)).ports (e, lid) → lid < 0xC000
  lid_fits e lid there =
      let fits = ((lids_law lmc facts has_room).each_fits e lid there).in_room in
      let most = room_at_most (cells_of facts) in
      omega (arith, fits, most, some_width lmc e)

  owns_first : (e : EndPort) (lid : ℕ) → lid_of (lids lmc (cells_of facts)) e ≡ Some lid → owner_of (lids lmc (cells_of facts)) lid ≡ Some e
  owns_first e lid has =
      let there = given-from_lid (lids lmc (cells_of facts)) e lid has in
      let some = ((lids_law lmc facts has_room).each_fits e lid there).not_0 in
      (owners_are_inverse lmc facts has_room e lid).1 (lid, has, has_its_lid lid (lmc_of (lids lmc (cells_of facts)) e) some)

  top_fits : (top : ℕ) → top_of (lids lmc (cells_of facts)) ≡ Some top → top < 0xC000
  top_fits top e =
      top_below lmc (lids lmc (cells_of facts)).ports 0xC000 top
      (λ x n there. let fits = ((lids_law lmc facts has_room).each_fits x n there).in_room in let most = room_at_most (cells_of facts) in
      omega (arith, fits, most)) e

  -- LIDs: who owns the first number of a range has it as its LID
  has_first : (e : EndPort) (lid : ℕ) → Contains (rising_lids (lids lmc (cells_of facts))) lid → owner_of (lids lmc (cells_of facts)) lid ≡ Some e
      → lid_of (lids lmc (cells_of facts)) e ≡ Some lid
  has_first e lid risen owns =
      let (first, there) = ((rising_lids_law (lids lmc (cells_of facts))).0 lid).0 risen in
      let has = lid-from_given (lids lmc (cells_of facts)) (ports_apart lmc facts has_room) first lid there in
      let its = owns_first first lid has in
      subst (λ (x : EndPort). lid_of (lids lmc (cells_of facts)) x ≡ Some lid) (same_Some _ _ (sym its ∙ owns)) has

  record LidStep (s : Step) : Type 0 where
    pub e : EndPort
    pub lid : ℕ
    pub has : lid_of (lids lmc (cells_of facts)) e ≡ Some lid
    pub is_made : IsMade sweep e.node e.port port_info e.port
        (port_data (read_of e.node e.port) (lid, lmc_of (lids lmc (cells_of facts)) e) master NoChange) s

  from_lid_step : (s : Step) → Contains (lid_steps (cells_of facts) sweep master (lids lmc (cells_of facts))) s → LidStep s
  from_lid_step s there =
      let (lid, risen, e) = taken_from (owner_step (cells_of facts) sweep master (lids lmc (cells_of facts)))
      (rising_lids (lids lmc (cells_of facts))) s there in
      by_owner lid risen (owner_of (lids lmc (cells_of facts)) lid) refl e
    where
      by_owner : (lid : ℕ) → Contains (rising_lids (lids lmc (cells_of facts))) lid → (m : Option EndPort) → owner_of (lids lmc (cells_of facts)) lid ≡ m
          → option_and_then (λ e. lid_step (cells_of facts) sweep master (lid, lmc_of (lids lmc (cells_of facts)) e) e) m ≡ Some s
          → LidStep s
      by_owner lid risen None owns h = absurd (cc)
      by_owner lid risen (Some e) owns h =
          record {
            e = e;
            lid = lid;
            has = has_first e lid risen owns;
            is_made = made sweep e.node e.port port_info e.port
                (port_data (read_of e.node e.port) (lid, lmc_of (lids lmc (cells_of facts)) e) master NoChange) s h;
          }

  -- an end port with a LID has its LMC with it
  has_range : (e : EndPort) (lid : ℕ) → lid_of (lids lmc (cells_of facts)) e ≡ Some lid
      → range_of (lids lmc (cells_of facts)) e ≡ Some (lid, lmc_of (lids lmc (cells_of facts)) e)
  has_range e lid has = ap (option_map (λ n. (n, lmc_of (lids lmc (cells_of facts)) e))) has

  range_parts : (e : EndPort) (range : ℕ × ℕ) → range_of (lids lmc (cells_of facts)) e ≡ Some range
      → (lid_of (lids lmc (cells_of facts)) e ≡ Some range.0) × (range.1 ≡ lmc_of (lids lmc (cells_of facts)) e)
  range_parts e range has = by_lid (lid_of (lids lmc (cells_of facts)) e) refl has
    where
      by_lid : (m : Option ℕ) → lid_of (lids lmc (cells_of facts)) e ≡ m → option_map (λ n. (n, lmc_of (lids lmc (cells_of facts)) e)) m ≡ Some range
          → (lid_of (lids lmc (cells_of facts)) e ≡ Some range.0) × (range.1 ≡ lmc_of (lids lmc (cells_of facts)) e)
      by_lid None is h = absurd (cc)
      by_lid (Some n) is h =
          let same : (n, lmc_of (lids lmc (cells_of facts)) e) ≡ range = same_Some _ range h in
          (is ∙ ap (λ (x : ℕ × ℕ). Some x.0) same, ap (λ (x : ℕ × ℕ). x.1) (sym same))

  lmc_fits : (e : EndPort) → lmc_of (lids lmc (cells_of facts)) e < 8
  lmc_fits e = cond_both (e.port == 0) 0 lmc (λ (n : ℕ). n < 8) (λ _. omega arith) (λ _. few_lmc)

  value_in : (read : Option PortRead) (state : PortState) (e : EndPort) (range : ℕ × ℕ) → range_of (lids lmc (cells_of facts)) e ≡ Some range
      → range_in (port_data read range master state) ≡ range
  value_in read state e range has =
      let (lid_is, lmc_is) = range_parts e range has in
      let small = lid_fits e range.0 (given-from_lid (lids lmc (cells_of facts)) e range.0 lid_is) in
      range-port_data read range master state (omega (arith, small)) (omega (arith, lmc_is, lmc_fits e))

  pub range_value : (e : EndPort) (range : ℕ × ℕ) → range_of (lids lmc (cells_of facts)) e ≡ Some range
      → range_in (port_data (read_of e.node e.port) range master NoChange) ≡ range
  range_value e range has = value_in (read_of e.node e.port) NoChange e range has

  lid_step_is : (s : Step) → LidStep s → IsStep (plan_of rule lmc (cells_of facts)) sweep s × IsPlanned (plan_of rule lmc (cells_of facts)) sweep s
  lid_step_is s l =
      let m = l.is_made in
      let port = few l.e.node l.e.port s.path m.goes.path in
      let range : ℕ × ℕ = (l.lid, lmc_of (lids lmc (cells_of facts)) l.e) in
      let has_it = has_range l.e l.lid l.has in
      let value : range_in s.payload ≡ range = ap range_in m.payload_is ∙ value_in (read_of l.e.node l.e.port) NoChange l.e range has_it in
      let is_port = m.attribute_is in (
        record {
          guid = l.e.node;
          vertex = l.e.port;
          goes = m.goes;
          sendable = record {
            attribute = omega (arith, is_port);
            no_manager = λ e. omega (arith, is_port, e);
            modifier = let same = m.modifier_is in omega (arith, same, port);
            whole = ap length m.payload_is ∙ length-port_data (read_of l.e.node l.e.port) range master NoChange;
          };
          planned = record {
            lids = λ _ other has. value ∙ same_Some _ _ (sym has_it
                ∙ ap (λ n. range_of (lids lmc (cells_of facts)) (record { node = l.e.node; port = n })) (sym m.modifier_is) ∙ has);
            top = λ f. absurd (omega (arith, is_port, f));
            block = λ f. absurd (omega (arith, is_port, f));
          };
          zero = λ _ none. sym m.modifier_is ∙ none;
        },
        record {
          guid = l.e.node;
          vertex = l.e.port;
          goes = m.goes;
          of_plan = record {
            lids = λ _. ap (λ n. range_of (lids lmc (cells_of facts)) (record { node = l.e.node; port = n })) m.modifier_is
                ∙ has_it ∙ ap (λ n. Some n) (sym value);
            top = λ f. absurd (omega (arith, is_port, f));
            block = λ f. absurd (omega (arith, is_port, f));
          };
          port = λ _. m.modifier_is;
        },
      )

  to_lid_step : (e : EndPort) (lid : ℕ) (path : List ℕ) → lid_of (lids lmc (cells_of facts)) e ≡ Some lid → path_to sweep e.node e.port ≡ Some path
      → Contains (lid_steps (cells_of facts) sweep master (lids lmc (cells_of facts)))
      (record {
        path = path;
        attribute = port_info;
        modifier = e.port;
        payload =
            port_data (read_of e.node e.port) (lid, lmc_of (lids lmc (cells_of facts)) e) master NoChange;
      })
  to_lid_step e lid path has there =
      let held = given-from_lid (lids lmc (cells_of facts)) e lid has in
      let risen : Contains (rising_lids (lids lmc (cells_of facts))) lid = ((rising_lids_law (lids lmc (cells_of facts))).0 lid).1 (e, held) in
      is_taken (owner_step (cells_of facts) sweep master (lids lmc (cells_of facts))) (rising_lids (lids lmc (cells_of facts))) lid _ risen
      (ap (option_and_then (λ x. lid_step (cells_of facts) sweep master (lid, lmc_of (lids lmc (cells_of facts)) x) x)) (owns_first e lid has)
      ∙ making sweep e.node e.port port_info e.port
      (port_data (read_of e.node e.port) (lid, lmc_of (lids lmc (cells_of facts)) e) master NoChange) path there)

  -- blocks
  record BlockThere (guid b : ℕ) (payload : List ℕ) : Type 0 where
    pub switch : Contains (switches_of (plan_of rule lmc (cells_of facts))) guid
    pub count : b < block_count (top_of (lids lmc (cells_of facts)))
    pub whole : length payload ≡ 64

  block_there : (guid b : ℕ) (payload : List ℕ) → block_at (plan_of rule lmc (cells_of facts)) guid b ≡ Some payload → BlockThere guid b payload
  block_there guid b payload e = by_table (find (λ table. table.guid == guid) (plan_of rule lmc (cells_of facts)).tables) refl e
    where
      homes : ℕ → Option (ℕ × ℕ)
      homes = attachment_of_lid (cells_of facts) (lids lmc (cells_of facts))

      next : Next
      next = (lid_routing rule lmc (cells_of facts) (lids lmc (cells_of facts))).next

      n : ℕ
      n = block_count (top_of (lids lmc (cells_of facts)))

      by_table : (m : Option SwitchTable) → find (λ table. table.guid == guid) (plan_of rule lmc (cells_of facts)).tables ≡ m
          → option_and_then (λ table. slice_get table.blocks b) m ≡ Some payload → BlockThere guid b payload
      by_table None there h = absurd (cc)
      by_table (Some table) there h =
          let found = found_there (λ (t : SwitchTable). t.guid == guid) (plan_of rule lmc (cells_of facts)).tables table there in
          let (s, is_switch, same) = contains-from_map
          (λ s. record {
            guid = s;
            blocks = blocks (attachment_of_lid (cells_of facts) (lids lmc (cells_of facts))) (lid_routing rule lmc (cells_of facts) (lids lmc (cells_of facts))).next
                (block_count (top_of (lids lmc (cells_of facts)))) s;
          })
          (switches (cells_of facts)) table found.0 in
          let at : slice_get (blocks homes next n s) b ≡ Some payload = ap (λ (t : SwitchTable). slice_get t.blocks b) same ∙ h in
          let within = slice_get_within (blocks homes next n s) b payload at in
          let long = length-map-range_with_len (block homes next s) 0 n in
          record {
            switch = subst (Contains (switches_of (plan_of rule lmc (cells_of facts)))) (eqb-true _ _ found.1)
                (contains_map (λ (t : SwitchTable). t.guid) (plan_of rule lmc (cells_of facts)).tables table found.0);
            count = omega (arith, within, long);
            whole = ap length (made_from (block homes next s) 0 n b payload at)
                ∙ length-map-range_with_len (λ i. entry homes next s (64 * (0 + b) + i)) 0 64;
          }

  few_blocks : (b : ℕ) → b < block_count (top_of (lids lmc (cells_of facts))) → b < 768
  few_blocks b less = by_top (top_of (lids lmc (cells_of facts))) refl less
    where
      by_top : (m : Option ℕ) → top_of (lids lmc (cells_of facts)) ≡ m → b < block_count m → b < 768
      by_top None e h = absurd (omega (arith, h))
      by_top (Some top) e h = let small = top_fits top e in omega (arith, h, small)

  record BlockStep (s : Step) : Type 0 where
    pub guid : ℕ
    pub b : ℕ
    pub payload : List ℕ
    pub there : block_at (plan_of rule lmc (cells_of facts)) guid b ≡ Some payload
    pub is_made : IsMade sweep guid 0 linear_forwarding_table b payload s

  from_block_step : (s : Step) → Contains (block_steps sweep (plan_of rule lmc (cells_of facts))) s → BlockStep s
  from_block_step s there =
      let (guid, is_switch, in_it) =
      from_flat_map (switch_steps sweep (plan_of rule lmc (cells_of facts))) (switches_of (plan_of rule lmc (cells_of facts))) s there in
      let (b, ranged, e) = taken_from (block_step sweep (plan_of rule lmc (cells_of facts)) guid)
      (range_with_len 0 (block_count (top_of (lids lmc (cells_of facts))))) s in_it in
      by_block guid b (block_at (plan_of rule lmc (cells_of facts)) guid b) refl e
    where
      by_block : (guid b : ℕ) (m : Option (List ℕ)) → block_at (plan_of rule lmc (cells_of facts)) guid b ≡ m
          → option_and_then (step_at sweep guid 0 linear_forwarding_table b) m ≡ Some s → BlockStep s
      by_block guid b None at h = absurd (cc)
      by_block guid b (Some payload) at h =
          record { guid = guid; b = b; payload = payload; there = at; is_made = made sweep guid 0 linear_forwarding_table b payload s h }

  block_step_is : (s : Step) → BlockStep s → IsStep (plan_of rule lmc (cells_of facts)) sweep s × IsPlanned (plan_of rule lmc (cells_of facts)) sweep s
  block_step_is s l =
      let m = l.is_made in
      let t = block_there l.guid l.b l.payload l.there in
      let small = few_blocks l.b t.count in
      let is_block = m.attribute_is in (
        record {
          guid = l.guid;
          vertex = 0;
          goes = m.goes;
          sendable = record {
            attribute = omega (arith, is_block);
            no_manager = λ e. omega (arith, is_block, e);
            modifier = let same = m.modifier_is in omega (arith, same, small);
            whole = ap length m.payload_is ∙ t.whole;
          };
          planned = record {
            lids = λ f. absurd (omega (arith, is_block, f));
            top = λ f. absurd (omega (arith, is_block, f));
            block = λ _ block has. m.payload_is ∙ same_Some _ _ (sym l.there ∙ ap (block_at (plan_of rule lmc (cells_of facts)) l.guid) (sym m.modifier_is)
                ∙ has);
          };
          zero = λ f. absurd (omega (arith, is_block, f));
        },
        record {
          guid = l.guid;
          vertex = 0;
          goes = m.goes;
          of_plan = record {
            lids = λ f. absurd (omega (arith, is_block, f));
            top = λ f. absurd (omega (arith, is_block, f));
            block = λ _. ap (block_at (plan_of rule lmc (cells_of facts)) l.guid) m.modifier_is ∙ l.there ∙ ap (λ p. Some p) (sym m.payload_is);
          };
          port = λ f. absurd (omega (arith, is_block, f));
        },
      )

  to_block_step : (guid b : ℕ) (payload path : List ℕ) → block_at (plan_of rule lmc (cells_of facts)) guid b ≡ Some payload → path_to sweep guid 0 ≡ Some path
      → Contains (block_steps sweep (plan_of rule lmc (cells_of facts)))
      (record { path = path; attribute = linear_forwarding_table; modifier = b; payload = payload })
  to_block_step guid b payload path at there =
      let t = block_there guid b payload at in
      in_flat_map (switch_steps sweep (plan_of rule lmc (cells_of facts))) (switches_of (plan_of rule lmc (cells_of facts))) guid _ t.switch
      (is_taken (block_step sweep (plan_of rule lmc (cells_of facts)) guid) (range_with_len 0 (block_count (top_of (lids lmc (cells_of facts))))) b _
      (in_range_from_0 (block_count (top_of (lids lmc (cells_of facts)))) b t.count)
      (ap (option_and_then (step_at sweep guid 0 linear_forwarding_table b)) at
      ∙ making sweep guid 0 linear_forwarding_table b payload path there))

  -- tops
  record TopStep (s : Step) : Type 0 where
    pub guid : ℕ
    pub top : ℕ
    pub is_top : top_of (lids lmc (cells_of facts)) ≡ Some top
    pub switch : Contains (switches_of (plan_of rule lmc (cells_of facts))) guid
    pub is_made : IsMade sweep guid 0 switch_info 0 (top_data (switch_image sweep guid) top) s

  from_top_step : (s : Step) → Contains (top_steps sweep (plan_of rule lmc (cells_of facts))) s → TopStep s
  from_top_step s there = by_top (top_of (lids lmc (cells_of facts))) refl there
    where
      by_top : (m : Option ℕ) → top_of (lids lmc (cells_of facts)) ≡ m
          → Contains (option_map_or (λ top. filter_map (top_step sweep top) (switches_of (plan_of rule lmc (cells_of facts)))) m []) s → TopStep s
      by_top None is_top h = absurd (contains_none s h)
      by_top (Some top) is_top h =
          let (guid, is_switch, e) = taken_from (top_step sweep top) (switches_of (plan_of rule lmc (cells_of facts))) s h in
          record {
            guid = guid;
            top = top;
            is_top = is_top;
            switch = is_switch;
            is_made = made sweep guid 0 switch_info 0 (top_data (switch_image sweep guid) top) s e;
          }

  top_step_is : (s : Step) → TopStep s → IsStep (plan_of rule lmc (cells_of facts)) sweep s × IsPlanned (plan_of rule lmc (cells_of facts)) sweep s
  top_step_is s l =
      let m = l.is_made in
      let small = top_fits l.top l.is_top in
      let value : number_in linear_fdb_top s.payload ≡ l.top = ap (number_in linear_fdb_top) m.payload_is
      ∙ top-top_data (switch_image sweep l.guid) l.top (omega (arith, small)) in
      let is_info = m.attribute_is in (
        record {
          guid = l.guid;
          vertex = 0;
          goes = m.goes;
          sendable = record {
            attribute = omega (arith, is_info);
            no_manager = λ e. omega (arith, is_info, e);
            modifier = let same = m.modifier_is in omega (arith, same);
            whole = ap length m.payload_is ∙ length-top_data (switch_image sweep l.guid) l.top;
          };
          planned = record {
            lids = λ f. absurd (omega (arith, is_info, f));
            top = λ _ top has. value ∙ same_Some _ _ (sym l.is_top ∙ has);
            block = λ f. absurd (omega (arith, is_info, f));
          };
          zero = λ f. absurd (omega (arith, is_info, f));
        },
        record {
          guid = l.guid;
          vertex = 0;
          goes = m.goes;
          of_plan = record {
            lids = λ f. absurd (omega (arith, is_info, f));
            top = λ _. (l.is_top ∙ ap (λ n. Some n) (sym value), l.switch);
            block = λ f. absurd (omega (arith, is_info, f));
          };
          port = λ f. absurd (omega (arith, is_info, f));
        },
      )

  to_top_step : (guid top : ℕ) (path : List ℕ) → top_of (lids lmc (cells_of facts)) ≡ Some top → Contains (switches_of (plan_of rule lmc (cells_of facts))) guid
      → path_to sweep guid 0 ≡ Some path
      → Contains (top_steps sweep (plan_of rule lmc (cells_of facts)))
      (record { path = path; attribute = switch_info; modifier = 0; payload = top_data (switch_image sweep guid) top })
  to_top_step guid top path is_top is_switch there =
      subst (λ m. Contains (option_map_or (λ t. filter_map (top_step sweep t) (switches_of (plan_of rule lmc (cells_of facts)))) m [])
      (record { path = path; attribute = switch_info; modifier = 0; payload = top_data (switch_image sweep guid) top }))
      (sym is_top)
      (is_taken (top_step sweep top) (switches_of (plan_of rule lmc (cells_of facts))) guid _ is_switch
      (making sweep guid 0 switch_info 0 (top_data (switch_image sweep guid) top) path there))

  pub top_value : (read : Option (List ℕ)) (top : ℕ) → top_of (lids lmc (cells_of facts)) ≡ Some top → number_in linear_fdb_top (top_data read top) ≡ top
  top_value read top is_top = let small = top_fits top is_top in top-top_data read top (omega (arith, small))

  -- states
  state_step_is : (state : PortState) (s : Step) → Contains (state_steps (cells_of facts) sweep (lids lmc (cells_of facts)) master state) s
      → IsStep (plan_of rule lmc (cells_of facts)) sweep s
  state_step_is state s there =
      let (at, wired, e) = taken_from (state_step (cells_of facts) sweep (lids lmc (cells_of facts)) master state) (wired_ports (cells_of facts)) s there in
      by_due at (seen_state sweep at.0 at.1) refl e
    where
      whole : (read : Option PortRead) (at : ℕ × ℕ) → length (state_data read (lids lmc (cells_of facts)) master state at) ≡ 64
      whole read at = by_range (range_of (lids lmc (cells_of facts)) (record { node = at.0; port = at.1 }))
        where
          by_range : (m : Option (ℕ × ℕ)) → length (option_map_or (λ range. port_data read range master state) m (port_data read (0, 0) 0 state)) ≡ 64
          by_range None = length-port_data read (0, 0) 0 state
          by_range (Some range) = length-port_data read range master state

      by_step : (at : ℕ × ℕ) → at.1 ≤ 254 → (b : Bool)
          → (if b then step_at sweep at.0 (vertex_port (cells_of facts) at) port_info at.1
          (state_data (read_of at.0 at.1) (lids lmc (cells_of facts)) master state at) else None) ≡ Some s
          → IsStep (plan_of rule lmc (cells_of facts)) sweep s
      by_step at small false h = absurd (cc)
      by_step at small true h =
          let m = made sweep at.0 (vertex_port (cells_of facts) at) port_info at.1
          (state_data (read_of at.0 at.1) (lids lmc (cells_of facts)) master state at) s h in
          let is_port = m.attribute_is in
          record {
            guid = at.0;
            vertex = vertex_port (cells_of facts) at;
            goes = m.goes;
            sendable = record {
              attribute = omega (arith, is_port);
              no_manager = λ e. omega (arith, is_port, e);
              modifier = let same = m.modifier_is in omega (arith, same, small);
              whole = ap length m.payload_is ∙ whole (read_of at.0 at.1) at;
            };
            planned = record {
              lids = λ _ range has. let known = ap (λ n. range_of (lids lmc (cells_of facts)) (record { node = at.0; port = n })) (sym m.modifier_is) ∙ has in
                  ap range_in (m.payload_is
                  ∙ ap (λ o. option_map_or (λ n. port_data (read_of at.0 at.1) n master state) o (port_data (read_of at.0 at.1) (0, 0) 0 state)) known)
                  ∙ value_in (read_of at.0 at.1) state (record { node = at.0; port = at.1 }) range known;
              top = λ f. absurd (omega (arith, is_port, f));
              block = λ f. absurd (omega (arith, is_port, f));
            };
            zero = λ _ none. cond_both (is_usable (cells_of facts) at.0) 0 at.1 (λ n. n ≡ 0) (λ _. refl) (λ _. sym m.modifier_is ∙ none);
          }

      by_due : (at : ℕ × ℕ) (m : Option PortState) → seen_state sweep at.0 at.1 ≡ m
          → (if option_map_or (is_due state) m false
          then step_at sweep at.0 (vertex_port (cells_of facts) at) port_info at.1
          (state_data (read_of at.0 at.1) (lids lmc (cells_of facts)) master state at) else None) ≡ Some s
          → IsStep (plan_of rule lmc (cells_of facts)) sweep s
      by_due at None seen h = absurd (cc)
      by_due at (Some now) seen h = by_step at (seen_few at.0 at.1 now seen) (is_due state now) h

  -- phases ------------------------------------------------------------------------------------------

  pub record IsGoodPhase (p : Phase) : Type 0 where
    pub steps : (s : Step) → Contains p.steps s → IsStep (plan_of rule lmc (cells_of facts)) sweep s
    pub counted : p.counts ≡ true → (s : Step) → Contains p.steps s → IsPlanned (plan_of rule lmc (cells_of facts)) sweep s

  mask_step_is : (tree : List TreePorts) (s : Step) → IsMaskStep (cells_of facts) sweep tree s
      → IsStep (plan_of rule lmc (cells_of facts)) sweep s × IsPlanned (plan_of rule lmc (cells_of facts)) sweep s
  mask_step_is tree s m =
      let is_masks = m.attribute_is in
      let same = m.modifier_is in
      let inside = m.there in
      let most = few_positions (cells_of facts) m.switch.guid in (
        record {
          guid = m.switch.guid;
          vertex = 0;
          goes = record { path = m.path };
          sendable = record {
            attribute = omega (arith, is_masks);
            no_manager = λ e. omega (arith, is_masks, e);
            modifier = omega (arith, same, inside, most);
            whole = ap length m.payload_is ∙ length-with_number first_mask (mask_of m.ports m.position) (replicate 64 0) (omega arith);
          };
          planned = record {
            lids = λ e. absurd (omega (arith, is_masks, e));
            top = λ e. absurd (omega (arith, is_masks, e));
            block = λ e. absurd (omega (arith, is_masks, e));
          };
          zero = λ e. absurd (omega (arith, is_masks, e));
        },
        record {
          guid = m.switch.guid;
          vertex = 0;
          goes = record { path = m.path };
          of_plan = record {
            lids = λ e. absurd (omega (arith, is_masks, e));
            top = λ e. absurd (omega (arith, is_masks, e));
            block = λ e. absurd (omega (arith, is_masks, e));
          };
          port = λ e. absurd (omega (arith, is_masks, e));
        },
      )

  masks_good : (tree : List TreePorts) (ports : TreePorts → List ℕ)
      → IsGoodPhase (record { counts = true; steps = flat_map (λ x. switch_mask_steps (cells_of facts) sweep (ports x) x.guid) tree })
  masks_good tree ports =
      record {
        steps = λ s there. (mask_step_is tree s (mask_step_there (cells_of facts) sweep ports tree s there)).0;
        counted = λ _ s there. (mask_step_is tree s (mask_step_there (cells_of facts) sweep ports tree s there)).1;
      }

  abbrev pub AreGoodPhases : List Phase → Type 0
  AreGoodPhases [] = Unit {0}
  AreGoodPhases (p ∷ phases) = IsGoodPhase p × AreGoodPhases phases

  pub good_phases : (tree : List TreePorts) → AreGoodPhases (phases_by (plan_of rule lmc (cells_of facts)) tree (cells_of facts) sweep master)
  good_phases tree = (
    record { steps = λ s there. (lid_step_is s (from_lid_step s there)).0; counted = λ _ s there. (lid_step_is s (from_lid_step s there)).1 },
    (
      masks_good tree (λ x. []),
      (
        record { steps = λ s there. (block_step_is s (from_block_step s there)).0; counted = λ _ s there. (block_step_is s (from_block_step s there)).1 },
        (
          record { steps = λ s there. (top_step_is s (from_top_step s there)).0; counted = λ _ s there. (top_step_is s (from_top_step s there)).1 },
          (
            masks_good tree (λ x. x.ports),
            (
              record { steps = λ s there. state_step_is Armed s there; counted = λ e s there. absurd (cc) },
              (record { steps = λ s there. state_step_is Active s there; counted = λ e s there. absurd (cc) }, tt),
            ),
          ),
        ),
      ),
    ),
  )

  -- a step of a phase that counts
  pub range_is_set : (tree : List TreePorts) (e : EndPort) (range : ℕ × ℕ) (path : List ℕ) → range_of (lids lmc (cells_of facts)) e ≡ Some range → path_to sweep e.node e.port
      ≡ Some path
      → IsOf (phases_by (plan_of rule lmc (cells_of facts)) tree (cells_of facts) sweep master) true
      (record { path = path; attribute = port_info; modifier = e.port; payload = port_data (read_of e.node e.port) range master NoChange })
  range_is_set tree e range path has there =
      let (lid_is, lmc_is) = range_parts e range has in
      record {
        phase = record { counts = true; steps = lid_steps (cells_of facts) sweep master (lids lmc (cells_of facts)) };
        there = (0, omega arith, refl);
        counts_is = refl;
        step = subst (λ (n : ℕ). Contains (lid_steps (cells_of facts) sweep master (lids lmc (cells_of facts)))
            (record { path = path; attribute = port_info; modifier = e.port; payload = port_data (read_of e.node e.port) (range.0, n) master NoChange }))
            (sym lmc_is)
            (to_lid_step e range.0 path lid_is there);
      }

  pub block_is_set : (tree : List TreePorts) (guid b : ℕ) (payload path : List ℕ) → block_at (plan_of rule lmc (cells_of facts)) guid b ≡ Some payload → path_to sweep guid 0
      ≡ Some path
      → IsOf (phases_by (plan_of rule lmc (cells_of facts)) tree (cells_of facts) sweep master) true
      (record { path = path; attribute = linear_forwarding_table; modifier = b; payload = payload })
  block_is_set tree guid b payload path at there =
      record {
        phase = record { counts = true; steps = block_steps sweep (plan_of rule lmc (cells_of facts)) };
        there = (2, omega arith, refl);
        counts_is = refl;
        step = to_block_step guid b payload path at there;
      }

  pub top_is_set : (tree : List TreePorts) (guid top : ℕ) (path : List ℕ) → top_of (lids lmc (cells_of facts)) ≡ Some top
      → Contains (switches_of (plan_of rule lmc (cells_of facts))) guid
      → path_to sweep guid 0 ≡ Some path
      → IsOf (phases_by (plan_of rule lmc (cells_of facts)) tree (cells_of facts) sweep master) true
      (record { path = path; attribute = switch_info; modifier = 0; payload = top_data (switch_image sweep guid) top })
  top_is_set tree guid top path is_top is_switch there =
      record {
        phase = record { counts = true; steps = top_steps sweep (plan_of rule lmc (cells_of facts)) };
        there = (3, omega arith, refl);
        counts_is = refl;
        step = to_top_step guid top path is_top is_switch there;
      }
