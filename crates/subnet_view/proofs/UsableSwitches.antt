-- The switches of facts are the usable ones, by rising GUID, since the keys of facts rise.
use Rattle.std.proofs.Common.{◌≡◌, ◌<◌, ℕ, [], ◌∷◌, inl, inr, refl, sym, ap, ap₂, ◌∙◌, true, false, cond, ◌==◌, arith}
use Rattle.std.proofs.lemmas.Option.{cond_some}
use Rattle.std.proofs.lemmas.Bool.{ltb-true, and_parts, and_from}
use Rattle.std.proofs.lemmas.List.Kept.{AllPairs-cons}
use Rattle.std.specs.Prelude.{Option, None, Some, Contains, is_some, nat_lt}
use Rattle.std.specs.Option.{option_map_or}
use Rattle.std.specs.List.{filter_map, cons_option, AllPairs}
use Rattle.std.specs.declared.cmp.Ordering.TheVariants.{Less, Equal, Greater}
use Rattle.std.specs.Ordering.{is_lt, ordering_then}
use Rattle.std.specs.FinMap.{find, is_sorted}
use Rattle.fact_store.specs.View.{cells_of}
use Rattle.fact_store.proofs.Entries.{cells_in_order}
use Rattle.std.specs.FinMap.Entries.{below_all}
use Rattle.smp_bytes.specs.declared.node_type.NodeType.{NodeType}
use Rattle.smp_bytes.specs.declared.node_type.NodeType.TheVariants.{ChannelAdapter, Switch, Router}
use Rattle.smp_bytes.specs.NodeType.{is_switch}
use Rattle.fact_join.specs.declared.cell.Cell.{Cell}
use Rattle.reply_facts.specs.declared.key.Key.{Key}
use Rattle.reply_facts.specs.declared.key.Key.TheVariants.{Node, PortGuid, Link, Port, Claim, Cap}
use Rattle.reply_facts.specs.declared.value.Value.{Value}
use Rattle.reply_facts.specs.Key.{key_cmp}
use Rattle.reply_facts.specs.Known.{value_in, kind_in, node_of, cap_of}
use Rattle.subnet_view.specs.Reading.{Cells, is_switch_node, is_usable, usable_guid, switches, IsUsable, UsableLaw, SwitchesLaw}
use Rattle.subnet_view.proofs.EndPorts.{true_from}
use Rattle.subnet_view.proofs.Members.{contains_none, contains_cases}
use Rattle.subnet_view.proofs.Taken.{taken_from, is_taken, found_in, all_from}

-- what a usable switch is -------------------------------------------------------------

-- only a switch is one
switch_kind : (kind : NodeType) → is_switch kind ≡ true → kind ≡ Switch
switch_kind Switch e = refl
switch_kind ChannelAdapter e = absurd (cc)
switch_kind Router e = absurd (cc)

known_switch : (o : Option (NodeType × ℕ)) → option_map_or (λ n. is_switch n.0) o false ≡ true → (ports : ℕ) × (o ≡ Some (Switch, ports))
known_switch None e = absurd (cc)
known_switch (Some n) e = (n.1, λ i. Some (switch_kind n.0 e i, n.1))

usable_from_test : (cells : Cells) (g : ℕ) → is_usable cells g ≡ true → IsUsable cells g
usable_from_test cells g e =
    let a = and_parts (is_switch_node cells g) (is_some (cap_of cells g)) e in
    let k = known_switch (node_of cells g) a.0 in (k.0, k.1, a.1)

test_from_usable : (cells : Cells) (g : ℕ) → IsUsable cells g → is_usable cells g ≡ true
test_from_usable cells g (ports, e, cap) =
    and_from (is_switch_node cells g) (is_some (cap_of cells g)) (ap (λ o. option_map_or (λ n. is_switch n.0) o false) e) cap

pub usable_law : UsableLaw
usable_law cells g = (usable_from_test cells g, test_from_usable cells g)

-- the list of them ----------------------------------------------------------------------

-- an entry has a key above that which is below all
below_has : (k : Key) (es : Cells) (e : Key × Cell Value) → below_all key_cmp k es ≡ true → Contains es e → is_lt (key_cmp k e.0) ≡ true
below_has k [] e b h = absurd (contains_none e h)
below_has k (x ∷ es) e b h =
    let a = and_parts (is_lt (key_cmp k x.0)) (below_all key_cmp k es) b in
    elim (contains_cases x e es h) [
      | inl i ↦ ap (λ (y : Key × Cell Value). is_lt (key_cmp k y.0)) (sym i) ∙ a.0
      | inr j ↦ below_has k es e a.1 j
    ]

node_less : (g h : ℕ) → is_lt (key_cmp (Node g) (Node h)) ≡ true → g < h
node_less g h q =
    elim (nat_lt g h) as (λ t. nat_lt g h ≡ t → is_lt (ordering_then (cond t Less (cond (g == h) Equal Greater)) Equal) ≡ true → g < h) [
      | true ↦ λ p k. ltb-true g h p
      | false ↦ λ p. (elim (g == h) as (λ t. is_lt (ordering_then (cond t Equal Greater) Equal) ≡ true → g < h)
          [ true ↦ λ k. absurd (cc) | false ↦ λ k. absurd (cc) ])
    ] refl q

usable_node : (cells : Cells) (e : Key × Cell Value) (g : ℕ) → usable_guid cells e ≡ Some g → (e.0 ≡ Node g) × (is_usable cells g ≡ true)
usable_node cells ((Node h), c) g q = let k = cond_some (is_usable cells h) h g q in (ap Node k.1, ap (is_usable cells) (sym k.1) ∙ k.0)
usable_node cells ((PortGuid h p), c) g q = absurd (cc)
usable_node cells ((Link h p), c) g q = absurd (cc)
usable_node cells ((Port h p), c) g q = absurd (cc)
usable_node cells ((Claim h p), c) g q = absurd (cc)
usable_node cells ((Cap h), c) g q = absurd (cc)

rise_with_keys : (cells es : Cells) → is_sorted key_cmp es ≡ true → AllPairs (λ g h. g < h) (filter_map (usable_guid cells) es)
rise_with_keys cells [] s = λ i j d p q. absurd (omega (arith, q))
rise_with_keys cells (e ∷ es) s =
    let a = and_parts (below_all key_cmp e.0 es) (is_sorted key_cmp es) s in
    let i = rise_with_keys cells es a.1 in
    elim (usable_guid cells e) as (λ o. usable_guid cells e ≡ o → AllPairs (λ g h. g < h) (cons_option o (filter_map (usable_guid cells) es))) [
      | None ↦ λ q. i
      | Some g ↦ λ q. AllPairs-cons (λ g h. g < h) g (filter_map (usable_guid cells) es) (all_from (λ h. g < h) (filter_map (usable_guid cells) es) (λ h k.
          let x = taken_from (usable_guid cells) es h k in
          let here : e.0 ≡ Node g = (usable_node cells e g q).0 in
          let there : x.0.0 ≡ Node h = (usable_node cells x.0 h x.2).0 in
          node_less g h (sym (ap₂ (λ k l. is_lt (key_cmp k l)) here there) ∙ below_has e.0 es x.0 a.0 x.1))) i
    ] refl

switch_usable : (cells : Cells) (g : ℕ) → Contains (switches cells) g → IsUsable cells g
switch_usable cells g h = let x = taken_from (usable_guid cells) cells g h in usable_from_test cells g (usable_node cells x.0 g x.2).1

usable_switch : (cells : Cells) (g : ℕ) → IsUsable cells g → Contains (switches cells) g
usable_switch cells g u =
    let test = test_from_usable cells g u in
    elim (find key_cmp (Node g) cells) as (λ o. find key_cmp (Node g) cells ≡ o → kind_in (value_in o) ≡ Some (Switch, u.0) → Contains (switches cells) g) [
      | None ↦ λ p k. absurd (cc)
      | Some c ↦ λ p k. is_taken (usable_guid cells) cells (Node g, c) g (found_in (Node g) cells c p) (ap (λ t. cond t (Some g) None) test)
    ] refl u.1

pub switches_law : SwitchesLaw
switches_law facts = (
  λ g. (switch_usable (cells_of facts) g, usable_switch (cells_of facts) g),
  rise_with_keys (cells_of facts) (cells_of facts) (true_from _ (cells_in_order facts)),
)
