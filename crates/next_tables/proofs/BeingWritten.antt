-- While the top and the blocks of a switch are written, in any order, its entry is the held one or the next one, or the
-- held one drops the packet.
use Rattle.std.proofs.Common.{◌≡◌, ℕ, ◌≤◌, ◌<◌, true, false, cond, ◌||◌, refl, sym, ap, ◌∙◌, subst, arith, inl, inr, ◌⊎◌}
use Rattle.std.specs.Prelude.{Contains, max, nat_lt, ◌==◌}
use Rattle.std.proofs.lemmas.Bool.{lt-ltb, ltb-true}
use Rattle.std.proofs.lemmas.List.{get_or_past}
use Rattle.std.proofs.lemmas.List.FromFn.{length-map-range_with_len}
use Rattle.fabric_model.specs.declared.cable.NodePort.{NodePort}
use Rattle.smp_bytes.specs.NodeType.{is_switch}
use Rattle.fabric_model.specs.Fabric.{Node, Fabric}
use Rattle.fabric_model.specs.FabricWalks.{IsJoinedTo}
use Rattle.fabric_model.proofs.FabricWalks.{port_at, same_port, type_at, switch_number}
use Rattle.fact_store.specs.View.{Facts, cells_of}
use Rattle.subnet_view.specs.Reading.{Cells, switches}
use Rattle.subnet_view.specs.FabricAgreement.{Part, IsEndPortIn}
use Rattle.subnet_view.proofs.UsableSwitches.{switches_law, usable_law}
use Rattle.held_tables.specs.Held.{HeldPlan}
use Rattle.packet_walks.specs.declared.packet_end.End.TheVariants.{Lost}
use Rattle.held_tables.specs.declared.far_end.Far.TheVariants.{Nothing}
use Rattle.packet_walks.specs.declared.next_hop.NextHop.TheVariants.{Ends}
use Rattle.packet_walks.specs.Fabrics.{IsSeenIn}
use Rattle.held_tables.specs.Switches.{far_of, row_of}
use Rattle.packet_walks.specs.HopsByTables.{by_entry, cause_of, over}
use Rattle.held_tables.specs.Tables.{owners_of, counted, entry_for, entry_of, top_of}
use Rattle.packet_walks.proofs.FabricParts.{usable}
use Rattle.next_tables.specs.SettledRule.{step_at}
use Rattle.next_tables.specs.NextTables.{StepRuleValue, next_tables, next_top}
use Rattle.next_tables.specs.ChangingFabric.{entry_now, IsLooseEntry, IsBeingWritten, IsInChange, WrittenTablesAreInChange}
use Rattle.next_tables.proofs.Whole.{top_next}

-- a LID that is above a top is above a lesser one
above_too : (lid top greater : ℕ) → top ≤ greater → (lid == 0 || nat_lt greater lid) ≡ true → (lid == 0 || nat_lt top lid) ≡ true
above_too lid top greater h e =
    elim (lid == 0) as (λ t. (t || nat_lt greater lid) ≡ true → (t || nat_lt top lid) ≡ true) [
      | true ↦ λ k. k
      | false ↦ λ k. let past : greater < lid = ltb-true greater lid k in lt-ltb top lid (omega arith)
    ] e

-- the entry that counts is the held one, which is that of the switch before, or the next one, or none is held
abbrev Either : ℕ → ℕ → ℕ → ℕ → ℕ → Type 0
Either lid held greater later n = (n ≡ held) ⊎ ((n ≡ counted lid greater later) ⊎ (held ≡ 255))

module _ (lid top greater entry later old was held : ℕ) (h : top ≤ greater) (holds : counted lid old was ≡ held) (is_held : held ≡ counted lid top entry)
  where
    none_held : (lid == 0 || nat_lt old lid) ≡ true → held ≡ 255
    none_held e = sym holds ∙ ap (λ t. cond t 255 was) e

    counted_either : (now x : ℕ) → (now ≡ old) ⊎ (now ≡ greater) → (x ≡ was) ⊎ (x ≡ later) → Either lid held greater later (counted lid now x)
    counted_either now x (inl p) (inl q) = inl ((λ i. counted lid (p i) (q i)) ∙ holds)
    counted_either now x (inr p) (inr q) = inr (inl (λ i. counted lid (p i) (q i)))
    counted_either now x (inl p) (inr q) =
        elim (lid == 0 || nat_lt old lid) as (λ t. (lid == 0 || nat_lt old lid) ≡ t → Either lid held greater later (counted lid now x)) [
          | true ↦ λ e. inr (inr (none_held e))
          | false ↦ λ e.
              let is : counted lid now x ≡ later = (λ i. counted lid (p i) (q i)) ∙ ap (λ t. cond t 255 later) e in
              elim (lid == 0 || nat_lt greater lid) as (λ t. (lid == 0 || nat_lt greater lid) ≡ t → Either lid held greater later (counted lid now x)) [
                | true ↦ λ k. inr (inr (is_held ∙ ap (λ t. cond t 255 entry) (above_too lid top greater h k)))
                | false ↦ λ k. inr (inl (is ∙ sym (ap (λ t. cond t 255 later) k)))
              ] refl
        ] refl
    counted_either now x (inr p) (inl q) =
        elim (lid == 0 || nat_lt greater lid) as (λ t. (lid == 0 || nat_lt greater lid) ≡ t → Either lid held greater later (counted lid now x)) [
          | true ↦ λ e. inr (inl ((λ i. counted lid (p i) (q i)) ∙ ap (λ t. cond t 255 was) e ∙ sym (ap (λ t. cond t 255 later) e)))
          | false ↦ λ e.
              let is : counted lid now x ≡ was = (λ i. counted lid (p i) (q i)) ∙ ap (λ t. cond t 255 was) e in
              elim (lid == 0 || nat_lt old lid) as (λ t. (lid == 0 || nat_lt old lid) ≡ t → Either lid held greater later (counted lid now x)) [
                | true ↦ λ k. inr (inr (none_held k))
                | false ↦ λ k. inl (is ∙ sym (ap (λ t. cond t 255 was) k) ∙ holds)
              ] refl
        ] refl

-- a switch without an entry drops the packet
no_entry : (cells : Cells) (held : HeldPlan) (lid g : ℕ) → entry_for held lid g ≡ 255 → step_at cells held lid g ≡ Ends (Lost g (cause_of cells held lid g))
no_entry cells held lid g e =
    ap (λ n. by_entry (owners_of held lid) g (cause_of cells held lid g) (row_of cells g) n) e
    ∙ ap (λ far. over (owners_of held lid) g (cause_of cells held lid g) far)
    (get_or_past (row_of cells g) 255 Nothing (omega (arith, length-map-range_with_len (far_of cells g) 0 255)))

module _ (part : Part) (facts : Facts) (rule : StepRuleValue) (held plan : HeldPlan) (lid : ℕ) (f now : Fabric) (seen : IsSeenIn part (cells_of facts) held f)
    (is : IsBeingWritten part (next_tables (cells_of facts) rule held plan) lid f now) where
  abbrev cells : Cells
  cells = cells_of facts

  abbrev next : HeldPlan
  next = next_tables cells rule held plan

  -- a switch of the part is one of the facts
  known : (port : NodePort) (node : Node) → IsEndPortIn part f port node → is_switch node.kind ≡ true → Contains (switches cells) node.guid
  known port node here kind =
      let zero_is : port.port ≡ 0 = switch_number f port here.end_port (type_at f port.node node here.node_there ∙ kind) in
      let within : part (port_at port.node 0) = subst part (same_port port (port_at port.node 0) refl zero_is) here.in_part in
      ((switches_law facts).0 node.guid).1 ((usable_law cells node.guid).0 (usable part facts held f seen port.node node here.node_there kind within))

  loose : (port : NodePort) (node : Node) → IsEndPortIn part f port node → is_switch node.kind ≡ true
      → IsLooseEntry cells held next lid node.guid (entry_now now lid port.node)
  loose port node here kind =
      let g = node.guid in
      let top_is : top_of next g ≡ next_top held plan g = top_next cells rule held plan g (known port node here kind) in
      let greater : top_of held g ≤ top_of next g = subst (λ (n : ℕ). top_of held g ≤ n) (sym top_is) (at_least (top_of held g) (top_of plan g)) in
      elim (counted_either lid (top_of held g) (top_of next g) (entry_of held g lid) (entry_of next g lid) (f.top port.node) (f.entry port.node lid)
      (entry_for held lid g) greater (seen.holds.entries port node lid here kind) refl (now.top port.node) (now.entry port.node lid)
      (is.tops port node here kind) (is.entries port node here kind)) [
        | inl e ↦ inl e
        | inr (inl e) ↦ inr (inl e)
        | inr (inr e) ↦ inr (inr (g, cause_of cells held lid g, no_entry cells held lid g e))
      ]
    where
      at_least : (a b : ℕ) → a ≤ max a b
      at_least a b = omega arith

  pub in_change : IsInChange part cells held next lid f now
  in_change = record { still = is.still; entries = loose }

pub written_tables_are_in_change : WrittenTablesAreInChange
written_tables_are_in_change facts rule held plan lid before now origin seen is = in_change (IsJoinedTo before origin) facts rule held plan lid before now seen is
