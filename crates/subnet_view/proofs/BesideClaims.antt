-- Facts that differ in claims alone have the same end ports, switches and wires.
use Rattle.std.proofs.Common.{◌≡◌, ℕ, [], ◌∷◌, refl, sym, ap, ◌∙◌, Bool, true, false, cond, not, ◌&&◌, ◌==◌, map}
use Rattle.std.specs.Prelude.{Option, None, Some, filter, is_some, nat_le, option_map, option_and_then}
use Rattle.std.specs.Option.{option_map_or}
use Rattle.std.specs.List.{filter_map, cons_option}
use Rattle.std.specs.FinMap.Entries.{find, is_sorted-where_key, find-where_key, same_entries}
use Rattle.smp_bytes.specs.NodeType.{is_switch}
use Rattle.fact_join.specs.declared.cell.Cell.{Cell}
use Rattle.reply_facts.specs.declared.key.Key.{Key}
use Rattle.reply_facts.specs.declared.key.Key.TheVariants.{Node, PortGuid, Link, Port, Claim, Cap}
use Rattle.reply_facts.specs.declared.value.Value.{Value}
use Rattle.reply_facts.specs.Key.{key_cmp}
use Rattle.reply_facts.specs.Known.{value_in, kind_in, guid_in, peer_in, up_in, count_in, known_in, node_of, port_guid_of, link_of, cap_of}
use Rattle.fact_store.specs.View.{Facts, cell_for, cells_of}
use Rattle.fact_store.proofs.Entries.{cell_is_found, cells_in_order}
use Rattle.reply_facts.proofs.Keys.{key_total, key_exact}
use Rattle.subnet_view.specs.Reading.{Cells, is_up}
use Rattle.subnet_view.specs.Reading.{is_switch_node, port_count_of, is_usable, is_port_of, usable_guid, switches}
use Rattle.subnet_view.specs.EndPort.{is_end_port_number, is_end_port, guid_and_port, in_order, end_ports}
use Rattle.subnet_view.specs.Wires.{is_wire_end, is_at, is_wire, across, attached}

-- what a port claims
abbrev pub is_claim : Key → Bool
is_claim (Claim g p) = true
is_claim (Node g) = false
is_claim (PortGuid g p) = false
is_claim (Link g p) = false
is_claim (Port g p) = false
is_claim (Cap g) = false

abbrev no_claim : Key × Cell Value → Bool
no_claim e = not (is_claim e.0)

-- what takes nothing from claims takes the same from the other cells
filter_map-no_claims : {Y : Type 0} (f : Key × Cell Value → Option Y) → ((e : Key × Cell Value) → is_claim e.0 ≡ true → f e ≡ None) → (es : Cells)
    → filter_map f (filter no_claim es) ≡ filter_map f es
filter_map-no_claims f none [] = refl
filter_map-no_claims f none (e ∷ es) =
    elim (is_claim e.0) as (λ t. is_claim e.0 ≡ t
    → filter_map f (cond (not t) (e ∷ filter no_claim es) (filter no_claim es)) ≡ cons_option (f e) (filter_map f es)) [
      | true ↦ λ q. filter_map-no_claims f none es ∙ ap (λ o. cons_option o (filter_map f es)) (sym (none e q))
      | false ↦ λ q. ap (cons_option (f e)) (filter_map-no_claims f none es)
    ] refl

no_guid : (cells : Cells) (k : Key) (c : Cell Value) → is_claim k ≡ true → guid_and_port cells (k, c) ≡ None
no_guid cells (Claim g p) c e = refl
no_guid cells (Node g) c e = absurd (cc)
no_guid cells (PortGuid g p) c e = absurd (cc)
no_guid cells (Link g p) c e = absurd (cc)
no_guid cells (Port g p) c e = absurd (cc)
no_guid cells (Cap g) c e = absurd (cc)

no_switch : (cells : Cells) (k : Key) (c : Cell Value) → is_claim k ≡ true → usable_guid cells (k, c) ≡ None
no_switch cells (Claim g p) c e = refl
no_switch cells (Node g) c e = absurd (cc)
no_switch cells (PortGuid g p) c e = absurd (cc)
no_switch cells (Link g p) c e = absurd (cc)
no_switch cells (Port g p) c e = absurd (cc)
no_switch cells (Cap g) c e = absurd (cc)

module _ (x y : Facts) (same : (key : Key) → is_claim key ≡ false → cell_for x key ≡ cell_for y key) where
  known_same : (key : Key) → is_claim key ≡ false → known_in (cells_of x) key ≡ known_in (cells_of y) key
  known_same key e = ap value_in (sym (cell_is_found x key) ∙ same key e ∙ cell_is_found y key)

  -- the cells but for the claims
  cells_same : filter no_claim (cells_of x) ≡ filter no_claim (cells_of y)
  cells_same =
      let p = λ (k : Key). not (is_claim k) in
      let found = λ (z : Facts) (q : Key). find-where_key key_cmp p q (λ k t. ap p (sym (key_exact q k t))) (cells_of z) in
      same_entries key_cmp key_total key_exact (filter no_claim (cells_of x)) (filter no_claim (cells_of y))
      (is_sorted-where_key key_cmp p (cells_of x) (cells_in_order x)) (is_sorted-where_key key_cmp p (cells_of y) (cells_in_order y))
      (λ q. found x q ∙ passing q ∙ sym (found y q))
    where
      passing : (q : Key) → cond (not (is_claim q)) (find key_cmp q (cells_of x)) None ≡ cond (not (is_claim q)) (find key_cmp q (cells_of y)) None
      passing q =
          elim (is_claim q) as (λ t. is_claim q ≡ t → cond (not t) (find key_cmp q (cells_of x)) None ≡ cond (not t) (find key_cmp q (cells_of y)) None) [
            | true ↦ λ e. refl
            | false ↦ λ e. sym (cell_is_found x q) ∙ same q e ∙ cell_is_found y q
          ] refl

  node_same : (g : ℕ) → node_of (cells_of x) g ≡ node_of (cells_of y) g
  node_same g = ap kind_in (known_same (Node g) refl)

  -- each reading is the same
  pub cap_same : (g : ℕ) → cap_of (cells_of x) g ≡ cap_of (cells_of y) g
  cap_same g = ap count_in (known_same (Cap g) refl)

  guid_same : (g p : ℕ) → port_guid_of (cells_of x) g p ≡ port_guid_of (cells_of y) g p
  guid_same g p = ap guid_in (known_same (PortGuid g p) refl)

  link_same : (g p : ℕ) → link_of (cells_of x) g p ≡ link_of (cells_of y) g p
  link_same g p = ap peer_in (known_same (Link g p) refl)

  up_same : (g p : ℕ) → is_up (cells_of x) g p ≡ is_up (cells_of y) g p
  up_same g p = ap (λ o. option_map_or (λ up. up) (up_in o) false) (known_same (Port g p) refl)

  pub switch_same : (g : ℕ) → is_switch_node (cells_of x) g ≡ is_switch_node (cells_of y) g
  switch_same g = ap (λ o. option_map_or (λ n. is_switch n.0) o false) (node_same g)

  pub count_same : (g : ℕ) → port_count_of (cells_of x) g ≡ port_count_of (cells_of y) g
  count_same g = ap (λ o. option_map_or (λ n. n.1) o 0) (node_same g)

  pub usable_same : (g : ℕ) → is_usable (cells_of x) g ≡ is_usable (cells_of y) g
  usable_same g = λ i. switch_same g i && is_some (cap_same g i)

  port_same : (g p : ℕ) → is_port_of (cells_of x) g p ≡ is_port_of (cells_of y) g p
  port_same g p = λ i. nat_le 1 p && nat_le p (count_same g i)

  number_same : (g p : ℕ) → is_end_port_number (cells_of x) g p ≡ is_end_port_number (cells_of y) g p
  number_same g p = λ i. cond (switch_same g i) (p == 0) (port_same g p i)

  end_port_same : (g p : ℕ) → is_end_port (cells_of x) g p ≡ is_end_port (cells_of y) g p
  end_port_same g p = λ i. number_same g p i && is_some (guid_same g p i)

  guid_and_port_same : (k : Key) (c : Cell Value) → guid_and_port (cells_of x) (k, c) ≡ guid_and_port (cells_of y) (k, c)
  guid_and_port_same (PortGuid g p) c = λ i. cond (number_same g p i) (option_map (λ guid. (guid, record { node = g; port = p })) (guid_same g p i)) None
  guid_and_port_same (Node g) c = refl
  guid_and_port_same (Link g p) c = refl
  guid_and_port_same (Port g p) c = refl
  guid_and_port_same (Claim g p) c = refl
  guid_and_port_same (Cap g) c = refl

  usable_guid_same : (k : Key) (c : Cell Value) → usable_guid (cells_of x) (k, c) ≡ usable_guid (cells_of y) (k, c)
  usable_guid_same (Node g) c = λ i. cond (usable_same g i) (Some g) None
  usable_guid_same (PortGuid g p) c = refl
  usable_guid_same (Link g p) c = refl
  usable_guid_same (Port g p) c = refl
  usable_guid_same (Claim g p) c = refl
  usable_guid_same (Cap g) c = refl

  pub end_ports_same : end_ports (cells_of x) ≡ end_ports (cells_of y)
  end_ports_same =
      let front = filter_map-no_claims (guid_and_port (cells_of x)) (λ e. no_guid (cells_of x) e.0 e.1) (cells_of x) in
      let back = filter_map-no_claims (guid_and_port (cells_of y)) (λ e. no_guid (cells_of y) e.0 e.1) (cells_of y) in
      ap (λ es. map (λ e. e.1) (in_order es)) (sym front ∙ (λ i. filter_map (λ e. guid_and_port_same e.0 e.1 i) (cells_same i)) ∙ back)

  pub switches_same : switches (cells_of x) ≡ switches (cells_of y)
  switches_same =
      let front = filter_map-no_claims (usable_guid (cells_of x)) (λ e. no_switch (cells_of x) e.0 e.1) (cells_of x) in
      let back = filter_map-no_claims (usable_guid (cells_of y)) (λ e. no_switch (cells_of y) e.0 e.1) (cells_of y) in
      sym front ∙ (λ i. filter_map (λ e. usable_guid_same e.0 e.1 i) (cells_same i)) ∙ back

  wire_end_same : (g p : ℕ) → is_wire_end (cells_of x) g p ≡ is_wire_end (cells_of y) g p
  wire_end_same g p = λ i. up_same g p i && port_same g p i && cond (switch_same g i) (usable_same g i) (end_port_same g p i)

  wire_same : (g p : ℕ) (q : ℕ × ℕ) → is_wire (cells_of x) g p q ≡ is_wire (cells_of y) g p q
  wire_same g p q = λ i. not (is_at g p q) && wire_end_same g p i && wire_end_same q.0 q.1 i && option_map_or (is_at g p) (link_same q.0 q.1 i) false

  pub across_same : (g p : ℕ) → across (cells_of x) g p ≡ across (cells_of y) g p
  across_same g p = λ i. option_and_then (λ q. cond (wire_same g p q i) (Some q) None) (link_same g p i)

  pub attached_same : (g p : ℕ) → attached (cells_of x) g p ≡ attached (cells_of y) g p
  attached_same g p = λ i. cond (switch_same g i) None (option_and_then (λ q. cond (switch_same q.0 i) (Some q) None) (across_same g p i))
