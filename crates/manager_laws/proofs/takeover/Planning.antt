-- Views that tell one subnet have one plan, where they claim the same, or one claims the LIDs that the other gives.
use Rattle.std.proofs.Common.{◌≡◌, ◌⊎◌, inl, inr, ℕ, List, [], ◌∷◌, refl, sym, ap, ◌∙◌, subst, Bool, true, false, cond, not, ◌&&◌, ◌||◌, length, map}
use Rattle.std.specs.Prelude.{◌↔◌, Option, None, Some, Contains, IsTrue, IsSome, MatchBool, filter, is_some, unwrap_or, option_and_then}
use Rattle.std.specs.Option.{option_map_or}
use Rattle.std.specs.List.{filter_map, list_any, range_with_len}
use Rattle.smp_bytes.specs.NodeType.{is_switch}
use Rattle.fact_store.specs.View.{Facts, cells_of}
use Rattle.port_graph.specs.declared.edge.Edge.{Edge}
use Rattle.subnet_view.specs.declared.end_port.EndPort.{EndPort}
use Rattle.reply_facts.specs.Known.{port_guid_of, cap_of}
use Rattle.subnet_view.specs.Reading.{Cells, port_count_of, is_switch_in, is_switch_node, is_usable, switches}
use Rattle.subnet_view.specs.EndPort.{end_ports}
use Rattle.subnet_view.specs.Wires.{across, attached, CanHaveWire, IsWire}
use Rattle.subnet_view.proofs.EndPortList.{end_ports_law}
use Rattle.subnet_view.proofs.Members.{contains_here, contains_later, contains_cases, contains_none}
use Rattle.subnet_view.proofs.UsableSwitches.{switches_law}
use Rattle.subnet_view.proofs.Walked.{map_same}
use Rattle.subnet_view.proofs.WireLaws.{wire_law}
use Rattle.subnet_view.specs.SwitchEdges.{SwitchEdges}
use Rattle.subnet_view.specs.Graph.{edge_at, edges_of, graph_of, guids_of}
use Rattle.spread_routes.specs.Adapters.{adapters_at, adapters_of, has_adapter_at}
use Rattle.lft_blocks.specs.Rule.{RuleValue}
use Rattle.lft_blocks.proofs.RulesRoute.{rules_stay}
use Rattle.lid_assign.specs.Ranges.{range_at, meets}
use Rattle.lid_assign.specs.Lids.{IsNoRoom, hand_out, handed_out, lids, owner_of, top_of}
use Rattle.lid_assign.specs.Claims.{if_fits, fitting_claim, claims, with_kept, kept, kept_range}
use Rattle.lid_assign.proofs.Staying.{still_room, lids_same}
use Rattle.subnet_view.specs.Wires.{attachment_of}
use Rattle.lft_blocks.specs.Entries.{block_count}
use Rattle.lft_blocks.specs.Plan.{tables_of, plan_of}
use Rattle.manager_laws.specs.OnePlan.{IsAlike, ClaimAlike, AlikeViewsPlanAlike, ClaimedPlansStay}
use Rattle.manager_laws.proofs.takeover.Alike.{end_ports_same, switches_same, usable_same, across_same, room_same}
use Rattle.lft_blocks.specs.LidNumbers.{lid_numbers, number_of, numbered, numbering_by}

-- readings by which switches are usable, and by wires ----------------------------------------------

-- a port that can have a wire is a switch's only where the switch is usable
end_usable : (z : Cells) (h q : ℕ) → CanHaveWire z h q → is_switch_node z h ≡ is_usable z h
end_usable z h q (kind, ports, node, low, high, up, known) = by_kind (is_switch kind) refl known
  where
    by_kind : (b : Bool) → is_switch kind ≡ b → MatchBool b (IsSome (cap_of z h)) (IsSome (port_guid_of z h q)) → is_switch_node z h ≡ is_usable z h
    by_kind true e k = let s : is_switch_node z h ≡ true = ap is_switch_in node ∙ e in s ∙ sym (λ i. s i && k i)
    by_kind false e k = let s : is_switch_node z h ≡ false = ap is_switch_in node ∙ e in s ∙ sym (λ i. s i && is_some (cap_of z h))

module _ (z : Cells) (g p : ℕ) where
  by_wire : {Y : Type 0} (a b : ℕ × ℕ → Option Y) → ((q : ℕ × ℕ) → IsWire z g p q.0 q.1 → a q ≡ b q)
      → option_and_then a (across z g p) ≡ option_and_then b (across z g p)
  by_wire a b h =
      elim (across z g p) as (λ o. across z g p ≡ o → option_and_then a o ≡ option_and_then b o) [
        | None ↦ λ e. refl
        | Some q ↦ λ e. h q ((wire_law z g p q.0 q.1).0 e)
      ] refl

  abbrev edge_by : (ℕ → Bool) → Option (ℕ × ℕ) → Option Edge
  edge_by usable o = option_and_then (λ q. cond (usable q.0) (Some (record { port = p; to = q.0 })) None) o

  edge_is : edge_at z g p ≡ edge_by (is_usable z) (across z g p)
  edge_is =
      by_wire (λ q. cond (is_switch_node z q.0) (Some (record { port = p; to = q.0 })) None)
      (λ q. cond (is_usable z q.0) (Some (record { port = p; to = q.0 })) None)
      (λ q w. ap (λ b. cond b (Some (record { port = p; to = q.0 })) None) (end_usable z q.0 q.1 w.second))

  abbrev far_by : (ℕ → Bool) → Option (ℕ × ℕ) → Option (ℕ × ℕ)
  far_by usable o = option_and_then (λ q. cond (usable q.0) (Some q) None) o

  attached_is : is_usable z g ≡ false → attached z g p ≡ far_by (is_usable z) (across z g p)
  attached_is unusable =
      elim (is_switch_node z g) as (λ t. is_switch_node z g ≡ t
      → cond t None (option_and_then (λ q. cond (is_switch_node z q.0) (Some q) None) (across z g p)) ≡ far_by (is_usable z) (across z g p)) [
        | true ↦ λ e. (elim (across z g p) as (λ o. across z g p ≡ o → None ≡ far_by (is_usable z) o) [
          | None ↦ λ k. refl
          | Some q ↦ λ k. absurd (cc (sym e ∙ end_usable z g p ((wire_law z g p q.0 q.1).0 k).first ∙ unusable))
        ] refl)
        | false ↦ λ e. by_wire (λ q. cond (is_switch_node z q.0) (Some q) None) (λ q. cond (is_usable z q.0) (Some q) None)
            (λ q w. ap (λ b. cond b (Some q) None) (end_usable z q.0 q.1 w.second))
      ] refl

  abbrev home_by : (ℕ → Bool) → Option (ℕ × ℕ) → Option (ℕ × ℕ)
  home_by usable o = cond (usable g) (Some (g, 0)) (far_by usable o)

  home_is : attachment_of z (record { node = g; port = p }) ≡ home_by (is_usable z) (across z g p)
  home_is =
      elim (is_usable z g) as (λ t. is_usable z g ≡ t → cond t (Some (g, 0)) (attached z g p) ≡ cond t (Some (g, 0)) (far_by (is_usable z) (across z g p))) [
        | true ↦ λ e. refl
        | false ↦ λ e. attached_is e
      ] refl

list_any_same : {X : Type 0} (f g : X → Bool) (xs : List X) → ((x : X) → Contains xs x → f x ≡ g x) → list_any f xs ≡ list_any g xs
list_any_same f g [] h = refl
list_any_same f g (x ∷ xs) h =
    let one = h x (contains_here x xs) in let rest = list_any_same f g xs (λ y m. h y (contains_later x y xs m)) in λ i. one i || rest i

module _ (x y : Facts) (alike : IsAlike (cells_of x) (cells_of y)) where
  usable_as : (g : ℕ) → is_usable (cells_of x) g ≡ is_usable (cells_of y) g
  usable_as = usable_same x y alike

  edge_same : (g p : ℕ) → edge_at (cells_of x) g p ≡ edge_at (cells_of y) g p
  edge_same g p = edge_is (cells_of x) g p ∙ (λ i. edge_by (cells_of x) g p (λ h. usable_as h i) (across_same x y alike g p i)) ∙ sym (edge_is (cells_of y) g p)

  home_same : (e : EndPort) → attachment_of (cells_of x) e ≡ attachment_of (cells_of y) e
  home_same e =
      home_is (cells_of x) e.node e.port ∙ (λ i. home_by (cells_of x) e.node e.port (λ h. usable_as h i) (across_same x y alike e.node e.port i))
      ∙ sym (home_is (cells_of y) e.node e.port)

  count_there : (g : ℕ) → Contains (switches (cells_of x)) g → port_count_of (cells_of x) g ≡ port_count_of (cells_of y) g
  count_there g h = alike.counts g (((switches_law x).0 g).0 h)

  abbrev crossing : Cells → ℕ → SwitchEdges
  crossing z g = record { guid = g; edges = edges_of z g }

  graph_same : graph_of (cells_of x) ≡ graph_of (cells_of y)
  graph_same =
      map_same (crossing (cells_of x)) (crossing (cells_of y)) (switches (cells_of x))
      (λ g h. λ i. record { guid = g; edges = filter_map (λ p. edge_same g p i) (range_with_len 1 (count_there g h i)) })
      ∙ ap (map (crossing (cells_of y))) (switches_same x y alike)

  has_adapter_at_same : (g p : ℕ) → has_adapter_at (cells_of x) g p ≡ has_adapter_at (cells_of y) g p
  has_adapter_at_same g p = λ i. option_map_or (λ q. not (usable_as q.0 i)) (across_same x y alike g p i) false

  adapters_same : (g : ℕ) → Contains (switches (cells_of x)) g → adapters_at (cells_of x) g ≡ adapters_at (cells_of y) g
  adapters_same g h = λ i. length (filter (λ p. has_adapter_at_same g p i) (range_with_len 1 (count_there g h i)))

  all_adapters_same : adapters_of (cells_of x) ≡ adapters_of (cells_of y)
  all_adapters_same =
      map_same (adapters_at (cells_of x)) (adapters_at (cells_of y)) (switches (cells_of x)) adapters_same
      ∙ ap (map (adapters_at (cells_of y))) (switches_same x y alike)

  numbers_same : (lmc : ℕ) → lids lmc (cells_of x) ≡ lids lmc (cells_of y)
      → lid_numbers lmc (cells_of x) (lids lmc (cells_of x)) ≡ lid_numbers lmc (cells_of y) (lids lmc (cells_of y))
  numbers_same lmc given =
      λ i. number_of (numbering_by lmc (graph_same i) (all_adapters_same i)) (guids_of (graph_same i))
      (λ lid. option_and_then (λ e. home_same e i) (owner_of (given i) lid))

  plan_same : (rule : RuleValue) (lmc : ℕ) → lids lmc (cells_of x) ≡ lids lmc (cells_of y) → plan_of rule lmc (cells_of x) ≡ plan_of rule lmc (cells_of y)
  plan_same rule lmc given =
      λ i. record {
        given = given i;
        tables = tables_of (λ lid. option_and_then (λ e. home_same e i) (owner_of (given i) lid))
            (numbered (numbers_same lmc given i) (rules_stay rule x y graph_same all_adapters_same i)).next
            (block_count (top_of (given i))) (switches_same x y alike i);
      }

  -- LIDs -------------------------------------------------------------------------------------------

  module _ (lmc : ℕ) (claim : ClaimAlike (cells_of x) (cells_of y)) where
    fitting_same : (e : EndPort) → Contains (end_ports (cells_of x)) e → fitting_claim lmc (cells_of x) e ≡ fitting_claim lmc (cells_of y) e
    fitting_same e h =
        let same = claim e.node e.port (((end_ports_law x).0 e).0 h) in
        λ i. option_and_then (if_fits (room_same x y alike i) lmc e) (same i)

    with_kept_same : (earlier rest : List EndPort) → ((e : EndPort) → Contains earlier e → Contains (end_ports (cells_of x)) e)
        → ((e : EndPort) → Contains rest e → Contains (end_ports (cells_of x)) e)
        → with_kept lmc (cells_of x) earlier rest ≡ with_kept lmc (cells_of y) earlier rest
    with_kept_same earlier [] before after = refl
    with_kept_same earlier (e ∷ rest) before after =
        let here = after e (contains_here e rest) in
        let fits = fitting_same e here in
        let first : (c : ℕ) → list_any (claims lmc (cells_of x) (range_at lmc e c)) earlier ≡ list_any (claims lmc (cells_of y) (range_at lmc e c)) earlier =
        λ c.
        list_any_same (claims lmc (cells_of x) (range_at lmc e c)) (claims lmc (cells_of y) (range_at lmc e c)) earlier
        (λ d h. ap (λ o. option_map_or (λ n. meets (range_at lmc e c) (range_at lmc d n)) o false) (fitting_same d (before d h))) in
        let rest_same = with_kept_same (e ∷ earlier) rest
        (λ d h. one_more d (contains_cases e d earlier h) here) (λ d h. after d (contains_later e d rest h)) in
        λ i. (e, option_and_then (λ c. cond (first c i) None (Some c)) (fits i)) ∷ rest_same i
      where
        one_more : (d : EndPort) → (e ≡ d) ⊎ Contains earlier d → Contains (end_ports (cells_of x)) e → Contains (end_ports (cells_of x)) d
        one_more d (inl same) here = subst (Contains (end_ports (cells_of x))) same here
        one_more d (inr h) here = before d h

    kept_same : kept lmc (cells_of x) ≡ kept lmc (cells_of y)
    kept_same =
        with_kept_same [] (end_ports (cells_of x)) (λ e h. absurd (contains_none e h)) (λ e h. h)
        ∙ ap (with_kept lmc (cells_of y) []) (end_ports_same x y alike)

    handed_same : handed_out lmc (cells_of x) ≡ handed_out lmc (cells_of y)
    handed_same = λ i. hand_out (room_same x y alike i) lmc (filter_map (kept_range lmc) (kept_same i)) (kept_same i)

    lids_as : lids lmc (cells_of x) ≡ lids lmc (cells_of y)
    lids_as = λ i. record { lmc = lmc; ports = unwrap_or (handed_same i) [] }

    no_room_same : IsNoRoom lmc (cells_of x) ↔ IsNoRoom lmc (cells_of y)
    no_room_same = (
      subst (λ o. IsTrue (not (is_some o))) handed_same,
      subst (λ o. IsTrue (not (is_some o))) (sym handed_same),
    )

pub alike_views_plan_alike : AlikeViewsPlanAlike
alike_views_plan_alike rule lmc x y alike claim =
    (plan_same x y alike rule lmc (lids_as x y alike lmc claim), no_room_same x y alike lmc claim)

pub claimed_plans_stay : ClaimedPlansStay
claimed_plans_stay rule lmc x y has_room alike claimed =
    let ports = sym (end_ports_same x y alike) in
    let rooms = sym (room_same x y alike) in (
      still_room lmc x y has_room ports rooms claimed,
      sym (plan_same x y alike rule lmc (sym (lids_same lmc x y has_room ports rooms claimed))),
    )
