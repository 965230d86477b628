-- No phase has more steps than there are LIDs, blocks of switches and facts.
use Rattle.std.proofs.Common.{◌≡◌, ◌<◌, ◌≤◌, ◌*◌, ◌/◌, ℕ, zero, suc, Bool, true, false, cond, List, [], ◌∷◌, length, filter, refl, ◌∙◌, arith}
use Rattle.std.proofs.lemmas.List.{length-append, length-map}
use Rattle.std.proofs.lemmas.List.FromFn.{length-range_with_len}
use Rattle.std.proofs.Math.Nat.{div-lt_iff_lt-mul, min-le_right}
use Rattle.std.specs.Prelude.{Option, Some, None}
use Rattle.std.specs.Option.{option_map_or}
use Rattle.std.specs.List.{cons_option, filter_map, flat_map, range_with_len}
use Rattle.fact_store.specs.View.{Facts, cells_of}
use Rattle.attr_codec.specs.declared.port_state.PortState.{PortState}
use Rattle.attr_codec.specs.declared.port_state.PortState.TheVariants.{Armed, Active}
use Rattle.subnet_view.specs.Reading.{port_count_of, switches}
use Rattle.lid_assign.specs.Lids.{IsNoRoom, count_up, end_of, is_lid, lids, rising_lids, top_of}
use Rattle.lid_assign.proofs.FreeLids.{room_at_most}
use Rattle.lid_assign.proofs.LidLaws.{lids_law}
use Rattle.lid_assign.proofs.Tops.{top_below}
use Rattle.lft_blocks.specs.Rule.{RuleValue}
use Rattle.lft_blocks.specs.Entries.{block_count}
use Rattle.lft_blocks.specs.Plan.{SwitchTable, plan_of, switches_of}
use Rattle.sweep.specs.Sweep.{Sweep, switch_image}
use Rattle.plan_steps.specs.Bound.{PhaseBoundLaw}
use Rattle.plan_steps.specs.MaskSteps.{has_table, mask_step, position_count, switch_mask_steps}
use Rattle.multicast_tree.specs.Tree.{TreePorts}
use Rattle.plan_steps.specs.LidSteps.{owner_step}
use Rattle.plan_steps.specs.StateSteps.{state_step, state_steps, wired_port, wired_ports}
use Rattle.plan_steps.specs.BlockSteps.{block_step, switch_steps, top_step, top_steps}

-- lists ------------------------------------------------------------------------------------------

module _ {X Y : Type 0} (h : X → Option Y) where
  pub found_at_most : (xs : List X) → length (filter_map h xs) ≤ length xs
  found_at_most [] = omega arith
  found_at_most (x ∷ xs) = by_item (h x) (found_at_most xs)
    where
      by_item : (o : Option Y) → length (filter_map h xs) ≤ length xs → length (cons_option o (filter_map h xs)) ≤ suc (length xs)
      by_item None p = omega (arith, p)
      by_item (Some y) p = omega (arith, p)

module _ {X : Type 0} (test : X → Bool) where
  passed_at_most : (xs : List X) → length (filter test xs) ≤ length xs
  passed_at_most [] = omega arith
  passed_at_most (x ∷ xs) = by_item (test x) (passed_at_most xs)
    where
      by_item : (b : Bool) → length (filter test xs) ≤ length xs → length (cond b (x ∷ filter test xs) (filter test xs)) ≤ suc (length xs)
      by_item true p = omega (arith, p)
      by_item false p = omega (arith, p)

module _ {X Y : Type 0} (f : X → List Y) (few : (x : X) → length (f x) ≤ 768) where
  pub joined_at_most : (xs : List X) → length (flat_map f xs) ≤ 768 * length xs
  joined_at_most [] = omega arith
  joined_at_most (x ∷ xs) =
      let both = length-append (f x) (flat_map f xs) in
      let rest = joined_at_most xs in
      omega (arith, both, few x, rest)

counted_up : (start n : ℕ) → length (count_up start n) ≡ n
counted_up start zero = refl
counted_up start (suc n) = let rest = counted_up (suc start) n in omega (arith, rest)

-- phases -----------------------------------------------------------------------------------------

-- the greatest LID is a unicast LID
abbrev IsTop : Option ℕ → Type 0
IsTop top = (n : ℕ) → top ≡ Some n → n < 0xC000

end_at_most : (top : Option ℕ) → IsTop top → end_of top ≤ 0xC000
end_at_most None fits = omega arith
end_at_most (Some n) fits = omega (arith, fits n refl)

blocks_at_most : (top : Option ℕ) → IsTop top → block_count top ≤ 768
blocks_at_most None fits = omega arith
blocks_at_most (Some n) fits =
    let less : n / 64 < 768 = (div-lt_iff_lt-mul {k = 64} {x = n} {y = 768} (omega arith)).1 (omega (arith, fits n refl)) in
    omega (arith, less)

module _ (rule : RuleValue) (lmc : ℕ) (facts : Facts) (s : Sweep) (master : ℕ) (has_room : ¬ (IsNoRoom lmc (cells_of facts))) where
  top_fits : IsTop (top_of (lids lmc (cells_of facts)))
  top_fits n e =
      top_below lmc (lids lmc (cells_of facts)).ports 0xC000 n
      (λ x lid there. let fits = ((lids_law lmc facts has_room).each_fits x lid there).in_room in let most = room_at_most (cells_of facts) in
      omega (arith, fits, most)) e

  lids_fit : length (rising_lids (lids lmc (cells_of facts))) ≤ 0xC000
  lids_fit =
      let top = top_of (lids lmc (cells_of facts)) in
      let some = passed_at_most (is_lid (lids lmc (cells_of facts)).ports) (count_up 0 (end_of top)) in
      omega (arith, some, counted_up 0 (end_of top), end_at_most top top_fits)

  switches_same : length (switches_of (plan_of rule lmc (cells_of facts))) ≡ length (switches (cells_of facts))
  switches_same = length-map (plan_of rule lmc (cells_of facts)).tables (λ (t : SwitchTable). t.guid) ∙ length-map (switches (cells_of facts)) _

  some_blocks : (guid : ℕ) → length (switch_steps s (plan_of rule lmc (cells_of facts)) guid) ≤ 768
  some_blocks guid =
      let plan = plan_of rule lmc (cells_of facts) in
      let count = block_count (top_of plan.given) in
      let found = found_at_most (block_step s plan guid) (range_with_len 0 count) in
      omega (arith, found, length-range_with_len 0 count, blocks_at_most (top_of plan.given) top_fits)

  top_steps_fit : length (top_steps s (plan_of rule lmc (cells_of facts))) ≤ length (switches (cells_of facts))
  top_steps_fit = by_top (top_of (lids lmc (cells_of facts)))
    where
      by_top : (top : Option ℕ)
          → length (option_map_or (λ t. filter_map (top_step s t) (switches_of (plan_of rule lmc (cells_of facts)))) top [])
          ≤ length (switches (cells_of facts))
      by_top None = omega arith
      by_top (Some t) =
          let found = found_at_most (top_step s t) (switches_of (plan_of rule lmc (cells_of facts))) in
          omega (arith, found, switches_same)

  states_fit : (state : PortState) → length (state_steps (cells_of facts) s (lids lmc (cells_of facts)) master state) ≤ length (cells_of facts)
  states_fit state =
      let found = found_at_most (state_step (cells_of facts) s (lids lmc (cells_of facts)) master state) (wired_ports (cells_of facts)) in
      let ports = found_at_most (wired_port (cells_of facts)) (cells_of facts) in
      omega (arith, found, ports)

  masks_fit : (ports : TreePorts → List ℕ) (tree : List TreePorts)
      → length (flat_map (λ x. switch_mask_steps (cells_of facts) s (ports x) x.guid) tree) ≤ 768 * length tree
  masks_fit ports tree = joined_at_most (λ x. switch_mask_steps (cells_of facts) s (ports x) x.guid) few tree
    where
      few : (x : TreePorts) → length (switch_mask_steps (cells_of facts) s (ports x) x.guid) ≤ 768
      few x =
          let count = position_count (cells_of facts) x.guid in
          let found = found_at_most (mask_step s x.guid (ports x)) (range_with_len 0 count) in
          let least = min-le_right (port_count_of (cells_of facts) x.guid / 16) 15 in
          elim (has_table (switch_image s x.guid)) as (λ t. length (cond t (filter_map (mask_step s x.guid (ports x)) (range_with_len 0 count)) []) ≤ 768) [
            | true ↦ omega (arith, found, length-range_with_len 0 count, least)
            | false ↦ omega arith
          ]

pub phase_bound_law : PhaseBoundLaw
phase_bound_law rule lmc facts s master has_room tree few =
    let cells = cells_of facts in
    let plan = plan_of rule lmc cells in
    let owners = found_at_most (owner_step cells s master plan.given) (rising_lids plan.given) in
    let some = lids_fit rule lmc facts s master has_room in
    let blocks = joined_at_most (switch_steps s plan) (some_blocks rule lmc facts s master has_room) (switches_of plan) in
    let same = switches_same rule lmc facts s master has_room in
    let tops = top_steps_fit rule lmc facts s master has_room in
    let armed = states_fit rule lmc facts s master has_room Armed in
    let active = states_fit rule lmc facts s master has_room Active in
    let cleared = masks_fit rule lmc facts s master has_room (λ x. []) tree in
    let masked = masks_fit rule lmc facts s master has_room (λ x. x.ports) tree in
    (omega (arith, owners, some), (omega (arith, cleared, few), (omega (arith, blocks, same), (omega (arith, tops), (omega (arith, masked, few), (omega (arith, armed), (omega (arith, active), tt)))))))
