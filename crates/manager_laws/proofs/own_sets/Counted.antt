-- What the steps that count ask for: LIDs, by which a port's state stays, or tops, or blocks up to that of the greatest LID,
-- or masks of positions of the tree's switches.
use Rattle.std.proofs.Common.{◌≡◌, ◌<◌, ℕ, true, List, [], ◌∷◌, refl, sym, ap, ◌∙◌, subst, inl, inr, arith}
use Rattle.std.proofs.lemmas.List.FromFn.{get_or-range_with_len, length-range_with_len}
use Rattle.std.proofs.lemmas.Option.{same_Some}
use Rattle.std.specs.Prelude.{Contains, Option, Some, None, option_and_then, option_map}
use Rattle.std.specs.Option.{option_map_or}
use Rattle.std.specs.List.{filter_map, flat_map, range_with_len}
use Rattle.smp_bytes.specs.Header.{port_info, switch_info, linear_forwarding_table}
use Rattle.smp_bytes.specs.Field.{bits_in, with_bits, with_number}
use Rattle.smp_bytes.proofs.BitLaws.{bits_in-with_bits}
use Rattle.attr_codec.specs.PortInfo.{base_lid, lmc, master_sm_lid, number_of_state, port_state}
use Rattle.attr_codec.specs.declared.port_state.PortState.TheVariants.{NoChange}
use Rattle.attr_codec.proofs.PortStates.{state_small}
use Rattle.subnet_view.specs.declared.end_port.EndPort.{EndPort}
use Rattle.subnet_view.specs.Reading.{Cells}
use Rattle.subnet_view.proofs.Members.{contains_cases, contains_none}
use Rattle.subnet_view.proofs.Taken.{taken_from}
use Rattle.lid_assign.specs.Lids.{lmc_of, owner_of, rising_lids, top_of}
use Rattle.lft_blocks.specs.Entries.{block_count}
use Rattle.lft_blocks.specs.Plan.{PlanValue, block_at, switches_of}
use Rattle.sweep.specs.Sweep.{Sweep, path_to, switch_image}
use Rattle.plan_steps.specs.declared.step.Step.{Step}
use Rattle.plan_steps.specs.declared.carried.PortRead.{PortRead}
use Rattle.plan_steps.specs.Carried.{carried_port, port_read}
use Rattle.plan_steps.specs.Step.{step_at}
use Rattle.plan_steps.specs.LidSteps.{lid_step, lid_steps, owner_step, port_data}
use Rattle.plan_steps.specs.BlockSteps.{block_step, block_steps, switch_steps, top_data, top_step, top_steps}
use Rattle.plan_steps.specs.MaskSteps.{switch_mask_steps}
use Rattle.plan_steps.specs.Phase.{Phase, phases_by}
use Rattle.plan_steps.specs.Tree.{TreePorts}
use Rattle.plan_steps.proofs.SetLaws.{carried_port_whole}
use Rattle.plan_steps.proofs.Whole.{IsWhole, whole-with_bits, whole-with_number}
use Rattle.manager_laws.proofs.MaskSteps.{IsMaskStep, mask_step_there}
use Rattle.manager_laws.proofs.Steps.{IsOf}
use Rattle.manager_laws.proofs.WritingLists.{from_flat_map}

-- which step it is
pub data CountedStep (cells : Cells) (sweep : Sweep) (tree : List TreePorts) (plan : PlanValue) (s : Step) : Type 0 where
  SetsLids : s.attribute ≡ port_info → bits_in port_state s.payload ≡ 0 → CountedStep cells sweep tree plan s
  SetsTop : s.attribute ≡ switch_info → CountedStep cells sweep tree plan s
  SetsBlock : s.attribute ≡ linear_forwarding_table → s.modifier < block_count (top_of plan.given) → CountedStep cells sweep tree plan s
  SetsMasks : IsMaskStep cells sweep tree s → CountedStep cells sweep tree plan s

-- a Set that asks for no state
state_kept : (read : Option PortRead) (range : ℕ × ℕ) (master : ℕ) → bits_in port_state (port_data read range master NoChange) ≡ 0
state_kept read range master =
    let base = with_bits lmc range.1 (with_number master_sm_lid master (with_number base_lid range.0 (carried_port read))) in
    let whole : IsWhole (with_bits lmc range.1 (with_number master_sm_lid master (with_number base_lid range.0 (carried_port read)))) =
    whole-with_bits lmc range.1 _ (omega arith) (whole-with_number master_sm_lid master _ (omega arith)
    (whole-with_number base_lid range.0 (carried_port read) (omega arith) (carried_port_whole read))) in
    let n = whole.count in
    bits_in-with_bits port_state (number_of_state NoChange) base (omega (arith, n)) (whole.small 32) (omega arith) (state_small NoChange)

module _ (sweep : Sweep) where
  -- what a step is made of
  record IsMadeOf (attribute modifier : ℕ) (payload : List ℕ) (s : Step) : Type 0 where
    pub attribute_is : s.attribute ≡ attribute
    pub modifier_is : s.modifier ≡ modifier
    pub payload_is : s.payload ≡ payload

  made_of : (guid vertex attribute modifier : ℕ) (payload : List ℕ) (s : Step) → step_at sweep guid vertex attribute modifier payload ≡ Some s
      → IsMadeOf attribute modifier payload s
  made_of guid vertex attribute modifier payload s e = by_path (path_to sweep guid vertex) e
    where
      by_path : (m : Option (List ℕ))
          → option_map (λ path. record { path = path; attribute = attribute; modifier = modifier; payload = payload }) m ≡ Some s
          → IsMadeOf attribute modifier payload s
      by_path None h = absurd (cc)
      by_path (Some path) h =
          subst (IsMadeOf attribute modifier payload) (same_Some _ s h) (record { attribute_is = refl; modifier_is = refl; payload_is = refl })

  module _ (cells : Cells) (tree : List TreePorts) (master : ℕ) (plan : PlanValue) (s : Step) where
    of_lids : Contains (lid_steps cells sweep master plan.given) s → CountedStep cells sweep tree plan s
    of_lids there =
        let (lid, risen, e) = taken_from (owner_step cells sweep master plan.given) (rising_lids plan.given) s there in
        by_owner lid (owner_of plan.given lid) e
      where
        by_owner : (lid : ℕ) (m : Option EndPort) → option_and_then (λ e. lid_step cells sweep master (lid, lmc_of plan.given e) e) m ≡ Some s
            → CountedStep cells sweep tree plan s
        by_owner lid None h = absurd (cc)
        by_owner lid (Some e) h =
            let read = port_read cells sweep e.node e.port in
            let range : ℕ × ℕ = (lid, lmc_of plan.given e) in
            let m = made_of e.node e.port port_info e.port (port_data read range master NoChange) s h in
            SetsLids m.attribute_is (ap (bits_in port_state) m.payload_is ∙ state_kept read range master)

    of_blocks : Contains (block_steps sweep plan) s → CountedStep cells sweep tree plan s
    of_blocks there =
        let (guid, switch, in_it) = from_flat_map (switch_steps sweep plan) (switches_of plan) s there in
        let (b, ranged, e) = taken_from (block_step sweep plan guid) (range_with_len 0 (block_count (top_of plan.given))) s in_it in
        by_block guid b ranged (block_at plan guid b) e
      where
        below : (n b : ℕ) → Contains (range_with_len 0 n) b → b < n
        below n b (i, less, is) =
            let long = length-range_with_len 0 n in
            let within : i < n = omega (arith, less, long) in
            let same = get_or-range_with_len 0 n i b within in
            omega (arith, within, is, same)

        by_block : (guid b : ℕ) → Contains (range_with_len 0 (block_count (top_of plan.given))) b → (m : Option (List ℕ))
            → option_and_then (step_at sweep guid 0 linear_forwarding_table b) m ≡ Some s → CountedStep cells sweep tree plan s
        by_block guid b ranged None h = absurd (cc)
        by_block guid b ranged (Some payload) h =
            let m = made_of guid 0 linear_forwarding_table b payload s h in
            SetsBlock m.attribute_is (subst (λ n. n < block_count (top_of plan.given)) (sym m.modifier_is) (below _ b ranged))

    of_tops : Contains (top_steps sweep plan) s → CountedStep cells sweep tree plan s
    of_tops there = by_top (top_of plan.given) there
      where
        by_top : (m : Option ℕ) → Contains (option_map_or (λ top. filter_map (top_step sweep top) (switches_of plan)) m []) s → CountedStep cells sweep tree plan s
        by_top None h = absurd (contains_none s h)
        by_top (Some top) h =
            let (guid, switch, e) = taken_from (top_step sweep top) (switches_of plan) s h in
            SetsTop (made_of guid 0 switch_info 0 (top_data (switch_image sweep guid) top) s e).attribute_is

    of_masks : (ports : TreePorts → List ℕ) → Contains (flat_map (λ x. switch_mask_steps cells sweep (ports x) x.guid) tree) s
        → CountedStep cells sweep tree plan s
    of_masks ports there = SetsMasks (mask_step_there cells sweep ports tree s there)

    -- of the seven phases the first five count
    abbrev AreCounted : List Phase → Type 0
    AreCounted [] = Unit {0}
    AreCounted (p ∷ phases) = (p.counts ≡ true → Contains p.steps s → CountedStep cells sweep tree plan s) × AreCounted phases

    one_counted : (phases : List Phase) (p : Phase) → AreCounted phases → Contains phases p → p.counts ≡ true → Contains p.steps s → CountedStep cells sweep tree plan s
    one_counted [] p all there counts in_it = absurd (contains_none p there)
    one_counted (q ∷ phases) p all there counts in_it = elim (contains_cases q p phases there) [
      | inl same ↦ all.0 (ap (λ (x : Phase). x.counts) same ∙ counts) (subst (λ (x : Phase). Contains x.steps s) (sym same) in_it)
      | inr later ↦ one_counted phases p all.1 later counts in_it
    ]

    pub counted_step : IsOf (phases_by plan tree cells sweep master) true s → CountedStep cells sweep tree plan s
    counted_step is =
        one_counted (phases_by plan tree cells sweep master) is.phase
        (λ _. of_lids, (λ _. of_masks (λ x. []), (λ _. of_blocks, (λ _. of_tops, (λ _. of_masks (λ x. x.ports), (λ e. absurd (cc e), (λ e. absurd (cc e), tt)))))))
        is.there is.counts_is is.step
