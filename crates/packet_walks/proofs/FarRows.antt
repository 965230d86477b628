-- What a switch's row of far ends says of a port, also if the switch has no such port.
use Rattle.std.proofs.Common.{◌≡◌, ℕ, ◌<◌, ◌≤◌, true, false, ◌||◌, None, Some, refl, sym, ap, ◌∙◌, subst, arith, inl, inr, ◌⊎◌}
use Rattle.std.specs.Prelude.{length, nat_lt, slice_index_or, ◌==◌}
use Rattle.std.proofs.lemmas.Bool.{cases_lt, eqb-true, ltb-true, ltb-false}
use Rattle.std.proofs.lemmas.Option.{same_Some}
use Rattle.std.proofs.lemmas.List.{get_or_past}
use Rattle.std.proofs.lemmas.List.Quantifiers.{position-Some}
use Rattle.std.proofs.lemmas.List.FromFn.{get_or-map-range_with_len, length-map-range_with_len}
use Rattle.smp_bytes.specs.NodeType.{is_switch}
use Rattle.fabric_model.specs.Fabric.{Node, Fabric, IsNodeAt}
use Rattle.fabric_model.specs.FabricWalks.{vertex_of}
use Rattle.fabric_model.proofs.FabricWalks.{port_at, type_at, switch_vertex}
use Rattle.fact_store.specs.View.{Facts, cells_of}
use Rattle.subnet_view.specs.Reading.{Cells, switches}
use Rattle.subnet_view.specs.Wires.{across}
use Rattle.subnet_view.specs.FabricAgreement.{Part}
use Rattle.held_tables.specs.Held.{HeldPlan}
use Rattle.held_tables.specs.declared.far_end.Far.TheVariants.{Nothing, Switch}
use Rattle.packet_walks.specs.Fabrics.{IsSeenIn}
use Rattle.held_tables.specs.Switches.{far_at, far_of, far_to, index_in, row_of}
use Rattle.packet_walks.proofs.FabricParts.{switch_end, told_wire}

-- there is no wire, as far as the facts know
pub no_far : (cells : Cells) (g p : ℕ) → across cells g p ≡ None → far_of cells g p ≡ Nothing
no_far cells g p e = ap (far_to (switches cells)) e

pub row_at : (cells : Cells) (g p : ℕ) → p < 255 → slice_index_or (row_of cells g) p Nothing ≡ far_of cells g p
row_at cells g p less = get_or-map-range_with_len (far_of cells g) 0 255 p p Nothing less (omega arith)

-- 255, or a port that the switch lacks
pub lacks : (p ports : ℕ) → (p == 255 || nat_lt ports p) ≡ true → (p ≡ 255) ⊎ (ports < p)
lacks p ports e =
    elim (p == 255) as (λ t. (p == 255) ≡ t → (t || nat_lt ports p) ≡ true → (p ≡ 255) ⊎ (ports < p)) [
      | true ↦ λ q k. inl (eqb-true p 255 q)
      | false ↦ λ q k. inr (ltb-true ports p k)
    ] refl e

pub has : (p ports : ℕ) → (p == 255 || nat_lt ports p) ≡ false → p ≤ ports
has p ports e =
    elim (p == 255) as (λ t. (t || nat_lt ports p) ≡ false → p ≤ ports) [
      | true ↦ λ k. absurd (cc)
      | false ↦ λ k. ltb-false ports p k
    ] e

-- 255 and ports that the switch lacks have no wire
pub no_port : (part : Part) (facts : Facts) (held : HeldPlan) (f : Fabric) (seen : IsSeenIn part (cells_of facts) held f) (k : ℕ) (node : Node) (p : ℕ)
    → IsNodeAt f k node → is_switch node.kind ≡ true → part (port_at k 0) → (p ≡ 255) ⊎ (node.ports < p)
    → slice_index_or (row_of (cells_of facts) node.guid) p Nothing ≡ Nothing
no_port part facts held f seen k node p at kind within none =
    let cells : Cells = cells_of facts in
    elim (cases_lt p 255) [
      | inr past ↦ get_or_past (row_of cells node.guid) p Nothing (omega (arith, length-map-range_with_len (far_of cells node.guid) 0 255))
      | inl less ↦ row_at cells node.guid p less
          ∙ (elim (across cells node.guid p) as (λ o. across cells node.guid p ≡ o → far_of cells node.guid p ≡ Nothing) [
            | None ↦ λ e. no_far cells node.guid p e
            | Some x ↦ λ e.
                let vertex : vertex_of f (port_at k p) ≡ port_at k 0 = switch_vertex f (port_at k p) (type_at f k node at ∙ kind) in
                let w = told_wire part facts held f seen (port_at k p) (port_at k 0) node x.0 x.1
                (switch_end part facts held f seen k node at kind within) refl (subst part (sym vertex) within) e in
                let (other, at_other, low, high) = seen.is_fabric.cabled (port_at k p) w.to w.wire in
                let same : other ≡ node = same_Some other node (sym at_other ∙ at) in
                let few_enough : p ≤ node.ports = subst (λ (n : Node). p ≤ n.ports) same high in
                let few = (seen.is_fabric.counts k node at).1 in
                elim none [ inl a ↦ absurd (omega arith) | inr b ↦ absurd (omega arith) ]
          ] refl)
    ]

-- a wire leads to a switch that there is
pub far_within : (cells : Cells) (g p index : ℕ) → far_of cells g p ≡ Switch index → index < length (switches cells)
far_within cells g p index e =
    elim (across cells g p) as (λ q. far_to (switches cells) q ≡ Switch index → index < length (switches cells)) [
      | None ↦ λ h. absurd (cc)
      | Some q ↦ λ h. (elim (index_in (switches cells) q.0) as (λ k. index_in (switches cells) q.0 ≡ k → far_at q k ≡ Switch index → index
          < length (switches cells)) [
            | None ↦ λ is over. absurd (cc)
            | Some k ↦ λ is over.
                let same : k ≡ index = same_switch k index over in
                let found = position-Some (λ x. x == q.0) (switches cells) k 0 is in
                let less = found.0 in
                omega (arith, same, less)
          ] refl h)
    ] e
  where
    same_switch : (k index : ℕ) → Switch k ≡ Switch index → k ≡ index
    same_switch k index h = cc
