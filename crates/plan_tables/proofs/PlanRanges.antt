-- The numbers of the plan of a view are in their ranges.
use Rattle.std.proofs.Common.{◌≡◌, ℕ, zero, suc, ◌+◌, ◌*◌, ◌<◌, ◌≤◌, ◌^◌, Bool, true, false, cond, List, [], ◌∷◌, length, get_or, Option, None, Some, refl, sym, ap, ◌∙◌, subst, arith, inl, inr}
use Rattle.std.specs.Prelude.{map, Contains, MatchBool, unwrap_or, option_and_then, slice_index, nat_le, ◌==◌, ◌&&◌, is_some}
use Rattle.std.specs.Option.{option_map_or}
use Rattle.std.specs.List.{AllByRecursion, range_with_len}
use Rattle.std.specs.FinMap.{find}
use Rattle.std.proofs.lemmas.Bool.{and_parts, cases_lt, eqb-false, eqb-true, false_from_ne_true, ltb-true, leb-true}
use Rattle.std.proofs.lemmas.List.FromFn.{length-map-range_with_len, get_or-map-range_with_len}
use Rattle.fact_join.specs.declared.cell.Cell.{Cell}
use Rattle.fact_join.specs.declared.cell.Cell.TheVariants.{Known, Disputed}
use Rattle.fact_join.specs.Cell.{generation_of}
use Rattle.reply_facts.specs.declared.key.Key.{Key}
use Rattle.reply_facts.specs.declared.key.Key.TheVariants as key
use Rattle.reply_facts.specs.declared.value.Value.{Value}
use Rattle.reply_facts.specs.declared.value.Value.TheVariants.{Kind, Guid, Peer, Up, Lid, Count}
use Rattle.reply_facts.specs.Key.{key_cmp}
use Rattle.reply_facts.specs.Known.{value_in, kind_in, node_of, cap_of}
use Rattle.reply_facts.specs.Sighting.{IsSighting, is_key, is_generation, is_cell_of}
use Rattle.fact_store.specs.View.{Facts, cells_of, AreInRange}
use Rattle.fact_store.proofs.Orders.{contained_get}
use Rattle.smp_bytes.specs.NodeType.{is_switch}
use Rattle.subnet_view.specs.declared.end_port.EndPort.{EndPort}
use Rattle.subnet_view.specs.Reading.{Cells, port_count_of, switches, is_switch_node, is_usable}
use Rattle.subnet_view.specs.Wires.{across, attached}
use Rattle.subnet_view.proofs.Members.{contains_here, contains_later}
use Rattle.subnet_view.proofs.Taken.{found_in}
use Rattle.subnet_view.proofs.WireLaws.{wire_law}
use Rattle.std.proofs.lemmas.Option.{same_Some}
use Rattle.std.specs.List.{filter_map}
use Rattle.std.specs.List.Sorted.{IsStrictlyIncreasing}
use Rattle.std.proofs.lemmas.Nat.{pow_pos}
use Rattle.lft_blocks.specs.Ranges.{lmc_at}
use Rattle.lft_blocks.specs.Lids.{lids, owner_of, top_of, rising_lids, IsNoRoom}
use Rattle.lft_blocks.specs.LidLaws.{AreLids}
use Rattle.lft_blocks.specs.Claims.{room}
use Rattle.lft_blocks.proofs.FreeLids.{at_most}
use Rattle.lft_blocks.proofs.LidLaws.{lids_law}
use Rattle.lft_blocks.proofs.Owners.{given-from_owner}
use Rattle.lft_blocks.proofs.RisingLids.{rising_lids_law}
use Rattle.lft_blocks.proofs.Tops.{top_below}
use Rattle.subnet_view.proofs.Apart.{contains_map}
use Rattle.subnet_view.proofs.EndPortList.{end_ports_law}
use Rattle.subnet_view.proofs.UsableSwitches.{switches_law}
use Rattle.lft_blocks.specs.Plan.{tables_of, plan_of, lid_routing}
use Rattle.port_graph.specs.declared.edge.Edge.{Edge}
use Rattle.subnet_view.specs.Graph.{graph_of, edges_at}
use Rattle.subnet_view.specs.GraphLaws.{IsSwitch}
use Rattle.lft_blocks.specs.Rule.{RuleValue}
use Rattle.subnet_view.proofs.Graphs.{edge_is_wire}
use Rattle.subnet_view.proofs.GraphSwitches.{graph_guids, switches_rise}
use Rattle.subnet_view.specs.Wires.{attachment_of}
use Rattle.lft_blocks.specs.Entries.{attachment_of_lid, port_to, entry, block, block_count}
use Rattle.subnet_view.proofs.AttachmentSwitches.{attachment_is_switch}
use Rattle.plan_tables.proofs.NextPorts.{next_is_edge}
use Rattle.plan_tables.specs.PlanRanges.{IsLidInRange, IsBlock, IsTableInRange, IsPlanInRange}
use Rattle.lft_blocks.specs.LidNumbers.{lid_numbers}

-- of all elements
all_of : {X : Type 0} (P : X → Type 0) (xs : List X) → ((x : X) → Contains xs x → P x) → AllByRecursion P xs
all_of P [] h = tt
all_of P (x ∷ xs) h = (h x (contains_here x xs), all_of P xs (λ y c. h y (contains_later x y xs c)))

-- what a sighting of a node's type has
guid_small : (g : ℕ) (c : Cell Value) → IsSighting (key.Node g, c) → g < 2 ^ 64
guid_small g c is = ltb-true _ _ (and_parts (is_key (key.Node g)) (is_generation (generation_of c)) (and_parts _ (is_cell_of (key.Node g) c) is).0).0

module _ (facts : Facts) (range : AreInRange facts) where
  abbrev cells : Cells
  cells = cells_of facts

  sighted : (k : Key) (c : Cell Value) → find key_cmp k cells ≡ Some c → IsSighting (k, c)
  sighted k c e = range k c (contained_get facts.found k c (found_in k cells c e))

  few_ports : (g : ℕ) (o : Option (Cell Value)) → find key_cmp (key.Node g) cells ≡ o → option_map_or (λ n. n.1) (kind_in (value_in o)) 0 ≤ 254
  few_ports g None e = omega arith
  few_ports g (Some (Disputed n)) e = omega arith
  few_ports g (Some (Known n (Kind kind ports))) e =
      let is = sighted (key.Node g) (Known n (Kind kind ports)) e in
      leb-true _ _ (and_parts (nat_le 1 ports) (nat_le ports 254) (and_parts (is_key (key.Node g) && is_generation n) _ is).1).1
  few_ports g (Some (Known n (Guid x))) e = omega arith
  few_ports g (Some (Known n (Peer x y))) e = omega arith
  few_ports g (Some (Known n (Up x))) e = omega arith
  few_ports g (Some (Known n (Lid x))) e = omega arith
  few_ports g (Some (Known n (Count x))) e = omega arith

  count_small : (g : ℕ) → port_count_of cells g ≤ 254
  count_small g = few_ports g (find key_cmp (key.Node g) cells) refl

  known_small : (g : ℕ) (o : Option (Cell Value)) → find key_cmp (key.Node g) cells ≡ o → is_some (kind_in (value_in o)) ≡ true → g < 2 ^ 64
  known_small g None e h = cc
  known_small g (Some c) e h = guid_small g c (sighted (key.Node g) c e)

  node_small : (g : ℕ) → is_some (node_of cells g) ≡ true → g < 2 ^ 64
  node_small g h = known_small g (find key_cmp (key.Node g) cells) refl h

  -- both ends of a wire
  pub wire_small : (g p h q : ℕ) → across cells g p ≡ Some (h, q) → (p ≤ 254) × (q ≤ 254)
  wire_small g p h q e =
      let w = (wire_law cells g p h q).0 e in
      let (kind, ports, known, low, high, up, rest) = w.first in
      let (other, others, its, from, to, is_up, more) = w.second in
      let near : port_count_of cells g ≡ ports = ap (λ o. option_map_or (λ n. n.1) o 0) known in
      let far : port_count_of cells h ≡ others = ap (λ o. option_map_or (λ n. n.1) o 0) its in
      (omega (arith, count_small g, near, high), omega (arith, count_small h, far, to))

  -- attachments and next ports
  attached_small : (g p : ℕ) (attachment : ℕ × ℕ) → attached cells g p ≡ Some attachment → attachment.1 ≤ 254
  attached_small g p attachment e =
      elim (is_switch_node cells g) as (λ t. cond t None (option_and_then (λ q. cond (is_switch_node cells q.0) (Some q) None) (across cells g p))
      ≡ Some attachment → attachment.1 ≤ 254) [
        | true ↦ λ k. absurd (cc)
        | false ↦ λ k. (elim (across cells g p) as
            (λ o. across cells g p ≡ o → option_and_then (λ q. cond (is_switch_node cells q.0) (Some q) None) o ≡ Some attachment → attachment.1 ≤ 254) [
              | None ↦ λ w m. absurd (cc)
              | Some q ↦ λ w m. by_kind q (is_switch_node cells q.0) w m
            ] refl k)
      ] e
    where
      by_kind : (q : ℕ × ℕ) (t : Bool) → across cells g p ≡ Some q → cond t (Some q) None ≡ Some attachment → attachment.1 ≤ 254
      by_kind q true w m = let same : q ≡ attachment = same_Some q attachment m in let small = (wire_small g p q.0 q.1 w).1 in let port =
          ap (λ (x : ℕ × ℕ). x.1) same in omega arith
      by_kind q false w m = cc

  attachment_small : (e : EndPort) (attachment : ℕ × ℕ) → attachment_of cells e ≡ Some attachment → attachment.1 ≤ 254
  attachment_small e attachment h =
      elim (is_usable cells e.node) as (λ t. cond t (Some (e.node, 0)) (attached cells e.node e.port) ≡ Some attachment → attachment.1 ≤ 254) [
        | true ↦ λ k. let own : ℕ × ℕ = (e.node, 0) in let same : own ≡ attachment = same_Some own attachment k in let port =
            ap (λ (x : ℕ × ℕ). x.1) same in omega arith
        | false ↦ λ k. attached_small e.node e.port attachment k
      ] h

  edge_small : (s : ℕ) (x : Edge) → Contains (edges_at (graph_of cells) s) x → x.port ≤ 254
  edge_small s x there = let is = edge_is_wire cells s x there in (wire_small s x.port x.to is.end_port is.wire).0

  pub switch_small : (s : ℕ) → Contains (switches cells) s → s < 2 ^ 64
  switch_small s there = let usable = ((switches_law facts).0 s).0 there in node_small s (ap is_some usable.1)

  -- under a rule and an LMC
  module _ (rule : RuleValue) (lmc : ℕ) where
    abbrev next : ℕ → ℕ → ℕ → Option ℕ
    next = (lid_routing rule lmc cells (lids lmc cells)).next

    is_switch_of : (s : ℕ) → Contains (switches cells) s → IsSwitch (graph_of cells) s
    is_switch_of s there = subst (λ (xs : List ℕ). Contains xs s) (sym (graph_guids cells)) there

    next_or : (lid s t : ℕ) → Contains (switches cells) s → Contains (switches cells) t → (s == t) ≡ false → unwrap_or (next lid s t) 255 < 256
    next_or lid s t there others apart =
        elim (next lid s t) as (λ o. next lid s t ≡ o → unwrap_or o 255 < 256) [
          | None ↦ λ e. omega arith
          | Some p ↦ λ e.
              let (x, is_edge, port) = next_is_edge rule facts (lid_numbers lmc cells (lids lmc cells) lid) s t p (is_switch_of s there) (is_switch_of t others) apart e in
              let small = edge_small s x is_edge in
              omega arith
        ] refl

    entry_small : (s lid : ℕ) → Contains (switches cells) s → entry (attachment_of_lid cells (lids lmc cells)) next s lid < 256
    entry_small s lid there =
        elim (owner_of (lids lmc cells) lid) as (λ o. option_map_or (port_to next lid s) (option_and_then (attachment_of cells) o) 255 < 256) [
          | None ↦ omega arith
          | Some e ↦ (elim (attachment_of cells e) as (λ o. attachment_of cells e ≡ o → option_map_or (port_to next lid s) o 255 < 256) [
            | None ↦ λ k. omega arith
            | Some attachment ↦ λ k. by_switch attachment (attachment.0 == s) refl (attachment_small e attachment k) (attachment_is_switch facts e attachment k)
          ] refl)
        ]
      where
        by_switch : (attachment : ℕ × ℕ) (t : Bool) → (attachment.0 == s) ≡ t → attachment.1 ≤ 254 → Contains (switches cells) attachment.0
            → cond t attachment.1 (unwrap_or (next lid s attachment.0) 255) < 256
        by_switch attachment true e small known = omega arith
        by_switch attachment false e small known =
            next_or lid s attachment.0 there known (false_from_ne_true (s == attachment.0) (λ k. eqb-false attachment.0 s e (sym (eqb-true s attachment.0 k))))

    -- blocks
    block_at_most : (s b i : ℕ) → Contains (switches cells) s → slice_index (block (attachment_of_lid cells (lids lmc cells)) next s b) i < 256
    block_at_most s b i there =
        let f : ℕ → ℕ = λ j. entry (attachment_of_lid cells (lids lmc cells)) next s (64 * b + j) in
        elim (cases_lt i 64) [
          | inl less ↦ let at : get_or (map f (range_with_len 0 64)) i 0 ≡ f i = get_or-map-range_with_len f 0 64 i i 0 less (omega arith) in
              let small = entry_small s (64 * b + i) there in omega arith
          | inr more ↦ let at : get_or (map f (range_with_len 0 64)) i 0 ≡ 0 =
              past (map f (range_with_len 0 64)) i (omega (arith, length-map-range_with_len f 0 64)) in
              omega arith
        ]
      where
        past : (xs : List ℕ) (n : ℕ) → length xs ≤ n → get_or xs n 0 ≡ 0
        past [] n h = refl
        past (x ∷ xs) zero h = absurd (omega arith)
        past (x ∷ xs) (suc n) h = past xs n (omega arith)

    is_block : (s b : ℕ) → Contains (switches cells) s → IsBlock (block (attachment_of_lid cells (lids lmc cells)) next s b)
    is_block s b there =
        record {
          whole = length-map-range_with_len (λ j. entry (attachment_of_lid cells (lids lmc cells)) next s (64 * b + j)) 0 64;
          bytes =
              λ i. block_at_most s b i there;
        }

    all_blocks : (s : ℕ) (bs : List ℕ) → Contains (switches cells) s → AllByRecursion IsBlock (map (block (attachment_of_lid cells (lids lmc cells)) next s) bs)
    all_blocks s [] there = tt
    all_blocks s (b ∷ bs) there = (is_block s b there, all_blocks s bs there)

    all_tables : (count : ℕ) (guids : List ℕ) → count ≤ 768 → ((s : ℕ) → Contains guids s → Contains (switches cells) s)
        → AllByRecursion IsTableInRange (tables_of (attachment_of_lid cells (lids lmc cells)) next count guids)
    all_tables count [] few in_all = tt
    all_tables count (s ∷ guids) few in_all =
        let there = in_all s (contains_here s guids) in (
          record {
            guid = switch_small s there;
            blocks = all_blocks s (range_with_len 0 count) there;
            few = omega (arith, length-map-range_with_len (block (attachment_of_lid cells (lids lmc cells)) next s) 0 count);
          },
          all_tables count guids few (λ x c. in_all x (contains_later s x guids c)),
        )

    guids_are : (count : ℕ) (guids : List ℕ) → map (λ t. t.guid) (tables_of (attachment_of_lid cells (lids lmc cells)) next count guids) ≡ guids
    guids_are count [] = refl
    guids_are count (s ∷ guids) = ap (λ gs. s ∷ gs) (guids_are count guids)

    -- LIDs
    module _ (has_room : ¬ (IsNoRoom lmc cells)) where
      good : AreLids lmc cells (lids lmc cells).ports
      good = lids_law lmc facts has_room

      room_most : room cells ≤ 0xC000
      room_most = at_most (filter_map (cap_of cells) (switches cells))

      end_small : (e : EndPort) (n : ℕ) → Contains (lids lmc cells).ports (e, n) → (e.node < 2 ^ 64) × (e.port ≤ 254)
      end_small e n there =
          let listed = subst (λ (xs : List EndPort). Contains xs e) good.end_ports_in_order
          (contains_map (λ (x : EndPort × ℕ). x.0) (lids lmc cells).ports (e, n) there) in
          let (kind, ports, known, number, guid) = ((end_ports_law facts).0 e).0 listed in
          let count : port_count_of cells e.node ≡ ports = ap (λ o. option_map_or (λ x. x.1) o 0) known in (
            node_small e.node (ap is_some known),
            (elim (is_switch kind) as (λ t. MatchBool t (e.port ≡ 0) ((1 ≤ e.port) × (e.port ≤ ports)) → e.port ≤ 254) [
              | true ↦ λ z. omega arith
              | false ↦ λ m. omega (arith, m.1, count, count_small e.node)
            ] number),
          )

      lid_range : (n : ℕ) → Contains (rising_lids (lids lmc cells)) n → IsLidInRange (lids lmc cells) n
      lid_range n there =
          let given = ((rising_lids_law (lids lmc cells)).0 n).0 there in
          let within = good.each_fits given.0 n given.1 in
          let below = room_most in
          record {
            some = within.not_0;
            most = omega (arith, within.in_room, below, pow_pos (lmc_at lmc given.0));
            node = λ e owned. let its = given-from_owner (lids lmc cells) e n owned in (end_small e its.0 its.1).0;
            port = λ e owned. let its = given-from_owner (lids lmc cells) e n owned in (end_small e its.0 its.1).1;
            last = λ e owned.
                let its = given-from_owner (lids lmc cells) e n owned in
                let same : e ≡ given.0 = good.apart e given.0 its.0 n n its.1 given.1 (its.2, (omega arith, omega (arith, pow_pos (lmc_at lmc given.0)))) in
                subst (λ (x : EndPort). n + 2 ^ lmc_at lmc x ≤ 0xC000) (sym same) (omega (arith, within.in_room, below));
          }

      top_most : (top : ℕ) → top_of (lids lmc cells) ≡ Some top → top ≤ 0xBFFF
      top_most top e =
          let less = top_below lmc (lids lmc cells).ports (room cells) top (λ x n there. (good.each_fits x n there).in_room) e in
          let below = room_most in
          omega arith

      few_blocks : block_count (top_of (lids lmc cells)) ≤ 768
      few_blocks =
          elim (top_of (lids lmc cells)) as (λ o. top_of (lids lmc cells) ≡ o → block_count o ≤ 768) [
            | None ↦ λ e. omega arith
            | Some top ↦ λ e. let most = top_most top e in omega arith
          ] refl

      in_range : lmc ≤ 7 → IsPlanInRange (plan_of rule lmc cells)
      in_range small = record {
        lmc = small;
        lids = all_of (IsLidInRange (lids lmc cells)) (rising_lids (lids lmc cells)) lid_range;
        top = top_most;
        rising = subst IsStrictlyIncreasing (graph_guids cells
            ∙ sym (guids_are (block_count (top_of (lids lmc cells))) (switches cells))) (switches_rise facts);
        tables = all_tables (block_count (top_of (lids lmc cells))) (switches cells) few_blocks (λ s there. there);
      }

pub plans_in_range : (rule : RuleValue) (lmc : ℕ) (facts : Facts) → lmc ≤ 7 → AreInRange facts → ¬ (IsNoRoom lmc (cells_of facts))
    → IsPlanInRange (plan_of rule lmc (cells_of facts))
plans_in_range rule lmc facts small range has_room = in_range facts range rule lmc has_room small
