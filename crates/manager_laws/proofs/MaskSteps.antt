-- The steps that set the masks of a tree: where they go, and what they set.
use Rattle.std.proofs.Common.{◌≡◌, ◌<◌, ◌*◌, ◌/◌, ℕ, Bool, true, false, List, [], length, refl, sym, ap, ◌∙◌, subst, arith}
use Rattle.std.proofs.Math.Nat.{min-le_right}
use Rattle.std.proofs.lemmas.List.FromFn.{get_or-range_with_len, length-range_with_len}
use Rattle.std.proofs.lemmas.Option.{same_Some}
use Rattle.std.specs.Prelude.{Contains, Option, Some, None, cond, option_map}
use Rattle.std.specs.List.{filter_map, flat_map, range_with_len}
use Rattle.subnet_view.specs.Reading.{Cells, port_count_of}
use Rattle.subnet_view.proofs.Members.{contains_none}
use Rattle.subnet_view.proofs.Taken.{taken_from}
use Rattle.sweep.specs.Sweep.{Sweep, path_to, switch_image}
use Rattle.smp_bytes.specs.Header.{multicast_forwarding_table}
use Rattle.plan_steps.specs.declared.step.Step.{Step}
use Rattle.plan_steps.specs.MaskSteps.{has_table, mask_of, mask_step, masks_data, position_count, switch_mask_steps}
use Rattle.plan_steps.specs.Tree.{TreePorts}
use Rattle.manager_laws.proofs.WritingLists.{from_flat_map}

-- a step that sets the masks of one position of a switch of the tree
pub record IsMaskStep (cells : Cells) (sweep : Sweep) (tree : List TreePorts) (s : Step) : Type 0 where
  pub switch : TreePorts
  pub among : Contains tree switch
  pub ports : List ℕ
  pub position : ℕ
  pub there : position < position_count cells switch.guid
  pub path : path_to sweep switch.guid 0 ≡ Some s.path
  pub attribute_is : s.attribute ≡ multicast_forwarding_table
  pub modifier_is : s.modifier ≡ 0x10000000 * position
  pub payload_is : s.payload ≡ masks_data (mask_of ports position)

-- there are at most 16 positions
pub few_positions : (cells : Cells) (guid : ℕ) → position_count cells guid < 17
few_positions cells guid = let least = min-le_right (port_count_of cells guid / 16) 15 in omega (arith, least)

module _ (cells : Cells) (sweep : Sweep) (ports : TreePorts → List ℕ) where
  steps_at : TreePorts → List Step
  steps_at x = switch_mask_steps cells sweep (ports x) x.guid

  below : (n b : ℕ) → Contains (range_with_len 0 n) b → b < n
  below n b (i, less, is) =
      let long = length-range_with_len 0 n in
      let within : i < n = omega (arith, less, long) in
      let same = get_or-range_with_len 0 n i b within in
      omega (arith, within, is, same)

  pub mask_step_there : (tree : List TreePorts) (s : Step) → Contains (flat_map (λ x. switch_mask_steps cells sweep (ports x) x.guid) tree) s
      → IsMaskStep cells sweep tree s
  unfolding steps_at
  mask_step_there tree s there =
      let (x, among, in_it) = from_flat_map steps_at tree s there in by_table x among (has_table (switch_image sweep x.guid)) in_it
    where
      by_path : (x : TreePorts) → Contains tree x → (position : ℕ) → position < position_count cells x.guid
          → (m : Option (List ℕ)) → path_to sweep x.guid 0 ≡ m
          → option_map (λ path. record {
            path = path;
            attribute = multicast_forwarding_table;
            modifier = 0x10000000 * position;
            payload = masks_data (mask_of (ports x) position);
          }) m ≡ Some s
          → IsMaskStep cells sweep tree s
      by_path x among position inside None e h = absurd (cc)
      by_path x among position inside (Some path) e h =
          let same = same_Some _ s h in
          record {
            switch = x;
            among = among;
            ports = ports x;
            position = position;
            there = inside;
            path = e ∙ ap (λ (t : Step). Some t.path) same;
            attribute_is = sym (ap (λ (t : Step). t.attribute) same);
            modifier_is = sym (ap (λ (t : Step). t.modifier) same);
            payload_is = sym (ap (λ (t : Step). t.payload) same);
          }

      by_table : (x : TreePorts) → Contains tree x → (b : Bool)
          → Contains (cond b (filter_map (mask_step sweep x.guid (ports x)) (range_with_len 0 (position_count cells x.guid))) []) s
          → IsMaskStep cells sweep tree s
      by_table x among false h = absurd (contains_none s h)
      by_table x among true h =
          let (position, ranged, e) = taken_from (mask_step sweep x.guid (ports x)) (range_with_len 0 (position_count cells x.guid)) s h in
          by_path x among position (below (position_count cells x.guid) position ranged) (path_to sweep x.guid 0) refl e
