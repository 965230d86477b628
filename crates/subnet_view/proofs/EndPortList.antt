-- The list of end ports has each end port, and nothing else, in their order.
use Rattle.std.proofs.Common.{◌≡◌, ℕ, List, [], ◌∷◌, refl, sym, ap, ◌∙◌, subst, true, false, cond, map, arith}
use Rattle.std.proofs.lemmas.Bool.{and_parts}
use Rattle.std.proofs.lemmas.List.Kept.{AllPairs-cons}
use Rattle.std.specs.Prelude.{Contains, None, Some, is_some, option_map}
use Rattle.std.specs.List.{filter_map, AllPairs}
use Rattle.fact_store.specs.View.{cells_of}
use Rattle.std.specs.FinMap.Entries.{find}
use Rattle.std.specs.Ordering.{is_lt}
use Rattle.fact_join.specs.declared.cell.Cell.{Cell}
use Rattle.reply_facts.specs.declared.key.Key.{Key}
use Rattle.reply_facts.specs.declared.key.Key.TheVariants.{Node, PortGuid, Link, Port, Claim, Cap}
use Rattle.reply_facts.specs.declared.value.Value.{Value}
use Rattle.reply_facts.specs.Key.{key_cmp}
use Rattle.reply_facts.specs.Known.{value_in, guid_in, port_guid_of}
use Rattle.subnet_view.specs.declared.end_port.EndPort.{EndPort}
use Rattle.subnet_view.specs.Reading.{Cells}
use Rattle.subnet_view.specs.EndPort.{is_end_port_number, is_end_port, guid_and_port, port_cmp, in_order, end_ports, IsEndPort, ComesBefore, EndPortsLaw}
use Rattle.subnet_view.proofs.Apart.{contains_map, contains-from_map}
use Rattle.subnet_view.proofs.EndPortOrder.{Rises, in_order_rises, was_ordered, is_ordered}
use Rattle.subnet_view.proofs.EndPorts.{found_apart}
use Rattle.subnet_view.proofs.Members.{contains_here, contains_later}
use Rattle.subnet_view.proofs.Taken.{taken_from, is_taken, found_in, all_from}
use Rattle.subnet_view.proofs.WireLaws.{end_port_from_test, test_from_end_port}

module _ (cells : Cells) where
  -- an end port that is found, with its GUID
  found_is : (k : Key) (c : Cell Value) (x : ℕ × EndPort) → guid_and_port cells (k, c) ≡ Some x
      → (is_end_port_number cells x.1.node x.1.port ≡ true) × (port_guid_of cells x.1.node x.1.port ≡ Some x.0)
  found_is (PortGuid g p) c x e =
      elim (is_end_port_number cells g p) as (λ t. is_end_port_number cells g p ≡ t
      → cond t (option_map (λ guid. (guid, record { node = g; port = p })) (port_guid_of cells g p)) None ≡ Some x
      → (is_end_port_number cells x.1.node x.1.port ≡ true) × (port_guid_of cells x.1.node x.1.port ≡ Some x.0)) [
        | true ↦ λ q. (elim (port_guid_of cells g p) as (λ o. port_guid_of cells g p ≡ o
            → option_map (λ guid. (guid, record { node = g; port = p })) o ≡ Some x
            → (is_end_port_number cells x.1.node x.1.port ≡ true) × (port_guid_of cells x.1.node x.1.port ≡ Some x.0)) [
              | None ↦ λ r k. absurd (cc)
              | Some guid ↦ λ r k.
                  let at : (guid, record { node = g; port = p }) ≡ x = one _ _ k in
                  subst (λ (y : ℕ × EndPort). (is_end_port_number cells y.1.node y.1.port ≡ true) × (port_guid_of cells y.1.node y.1.port ≡ Some y.0)) at (q, r)
            ] refl)
        | false ↦ λ q k. absurd (cc)
      ] refl e
    where
      one : (a b : ℕ × EndPort) → Some a ≡ Some b → a ≡ b
      one a b e = cc
  found_is (Node g) c x e = absurd (cc)
  found_is (Link g p) c x e = absurd (cc)
  found_is (Port g p) c x e = absurd (cc)
  found_is (Claim g p) c x e = absurd (cc)
  found_is (Cap g) c x e = absurd (cc)

  -- all that are found
  abbrev found : List (ℕ × EndPort)
  found = filter_map (guid_and_port cells) cells

  ordered_is : (x : ℕ × EndPort) → Contains (in_order found) x → (is_end_port_number cells x.1.node x.1.port ≡ true)
      × (port_guid_of cells x.1.node x.1.port ≡ Some x.0)
  ordered_is x h = let i = taken_from (guid_and_port cells) cells x (was_ordered found x h) in found_is i.0.0 i.0.1 x i.2

  listed_is : (e : EndPort) → Contains (end_ports cells) e → IsEndPort cells e.node e.port
  listed_is e h =
      let i = contains-from_map (λ x. x.1) (in_order found) e h in
      let j = ordered_is i.0 i.1 in
      let test : is_end_port cells i.0.1.node i.0.1.port ≡ true = cc (j.0, ap is_some j.1) in
      subst (λ (y : EndPort). IsEndPort cells y.node y.port) i.2 (end_port_from_test cells i.0.1.node i.0.1.port test)

  is_listed : (e : EndPort) → IsEndPort cells e.node e.port → Contains (end_ports cells) e
  is_listed e h =
      let both = and_parts (is_end_port_number cells e.node e.port) (is_some (port_guid_of cells e.node e.port)) (test_from_end_port cells e.node e.port h) in
      elim (find key_cmp (PortGuid e.node e.port) cells) as (λ o. find key_cmp (PortGuid e.node e.port) cells ≡ o → is_some (guid_in (value_in o)) ≡ true
      → Contains (end_ports cells) e) [
        | None ↦ λ q s. absurd (cc)
        | Some c ↦ λ q s. (elim (guid_in (value_in (Some c))) as (λ o. guid_in (value_in (Some c)) ≡ o → is_some o ≡ true → Contains (end_ports cells) e) [
          | None ↦ λ r t. absurd (cc)
          | Some guid ↦ λ r t.
              let known : port_guid_of cells e.node e.port ≡ Some guid = ap (λ o. guid_in (value_in o)) q ∙ r in
              let taken : guid_and_port cells (PortGuid e.node e.port, c) ≡ Some (guid, e) =
              ap (λ t. cond t (option_map (λ guid. (guid, e)) (port_guid_of cells e.node e.port)) None) both.0 ∙ ap (option_map (λ guid. (guid, e))) known in
              contains_map (λ x. x.1) (in_order found) (guid, e)
              (is_ordered found (guid, e)
              (is_taken (guid_and_port cells) cells (PortGuid e.node e.port, c) (guid, e) (found_in (PortGuid e.node e.port) cells c q) taken))
        ] refl s)
      ] refl both.1

  -- end ports that rise, in pairs
  in_pairs : (xs : List (ℕ × EndPort)) → Rises xs → ((x : ℕ × EndPort) → Contains xs x → port_guid_of cells x.1.node x.1.port ≡ Some x.0)
      → AllPairs (ComesBefore cells) (map (λ x. x.1) xs)
  in_pairs [] r known = λ i j d p q. absurd (omega (arith, q))
  in_pairs (x ∷ xs) r known =
      AllPairs-cons (ComesBefore cells) x.1 (map (λ x. x.1) xs)
      (all_from (ComesBefore cells x.1) (map (λ x. x.1) xs) (λ y h. later y (contains-from_map (λ x. x.1) xs y h)))
      (in_pairs xs r.1 (λ y h. known y (contains_later x y xs h)))
    where
      one : (m n : ℕ) → Some m ≡ Some n → m ≡ n
      one m n e = cc

      later : (y : EndPort) → (z : ℕ × EndPort) × Contains xs z × (z.1 ≡ y) → ComesBefore cells x.1 y
      later y (z, h, e) m n p q =
          let a : x.0 ≡ m = one x.0 m (sym (known x (contains_here x xs)) ∙ p) in
          let b : z.0 ≡ n = one z.0 n (sym (known z (contains_later x z xs h)) ∙ ap (λ (w : EndPort). port_guid_of cells w.node w.port) e ∙ q) in
          (λ i. is_lt (port_cmp (sym a i, x.1) (sym b i, sym e i))) ∙ ap is_lt (r.0 z h)

pub end_ports_law : EndPortsLaw
end_ports_law facts = (
  λ e. (listed_is (cells_of facts) e, is_listed (cells_of facts) e),
  in_pairs (cells_of facts) (in_order (found (cells_of facts))) (in_order_rises (found (cells_of facts)) (found_apart facts))
      (λ x h. (ordered_is (cells_of facts) x h).1),
)
