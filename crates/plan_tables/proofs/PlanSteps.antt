-- By the plan's entries, a packet goes from switch to switch by the ports of the rule.
use Rattle.std.proofs.Common.{◌≡◌, ℕ, true, false, None, Some}
use Rattle.std.proofs.Common.{refl, sym, ap, ◌∙◌, subst, cond, ◌==◌}
use Rattle.std.specs.Prelude.{Contains, unwrap_or, option_and_then}
use Rattle.std.specs.Option.{option_map_or}
use Rattle.std.proofs.lemmas.Bool.{eqb-true, eqb-false, false_from_ne_true}
use Rattle.std.proofs.lemmas.Option.{same_Some}
use Rattle.fact_store.specs.View.{Facts, cells_of}
use Rattle.subnet_view.specs.declared.end_port.EndPort.{EndPort}
use Rattle.subnet_view.specs.Reading.{Cells, is_usable, switches}
use Rattle.subnet_view.specs.Wires.{across, attached}
use Rattle.subnet_view.proofs.Attachments.{attached_law}
use Rattle.subnet_view.proofs.WireEnds.{across_back}
use Rattle.subnet_view.proofs.WireLaws.{wire_law}
use Rattle.lft_blocks.specs.Lids.{lids, owner_of}
use Rattle.subnet_view.specs.Routing.{Routing}
use Rattle.subnet_view.proofs.GraphSwitches.{switch_usable}
use Rattle.subnet_view.specs.Wires.{attachment_of}
use Rattle.lft_blocks.specs.Entries.{port_to}
use Rattle.lft_blocks.proofs.HeldEntries.{entry_of as planned_entry, entry_by_attachment}
use Rattle.packet_walks.proofs.EntrySteps.{no_wire_at_0}

-- a switch sends packets for a LID on by the rule's port towards the attachment of its owner
pub record OnWay (rule : Routing) (cells : Cells) (lid : ℕ) (e : EndPort) (g entry : ℕ) : Type 0 where
  pub attachment : ℕ × ℕ
  pub attachment_is : attachment_of cells e ≡ Some attachment
  pub apart : (g == attachment.0) ≡ false
  pub next : rule.next lid g attachment.0 ≡ Some entry

module _ (rule : Routing) (lmc : ℕ) (facts : Facts) (unwired : (g : ℕ) (q : ℕ × ℕ) → across (cells_of facts) g 255 ≡ Some q → ⊥) (lid : ℕ) (e : EndPort)
    (owned : owner_of (lids lmc (cells_of facts)) lid ≡ Some e) where
  abbrev cells : Cells
  cells = cells_of facts

  -- the wire in the home's port leads to the owner, which is no usable switch
  at_attachment : (attachment end : ℕ × ℕ) → attachment_of cells e ≡ Some attachment → across cells attachment.0 attachment.1 ≡ Some end
      → Contains (switches cells) end.0 → ⊥
  at_attachment attachment end h wire there =
      elim (is_usable cells e.node) as (λ t. is_usable cells e.node ≡ t → cond t (Some (e.node, 0)) (attached cells e.node e.port) ≡ Some attachment → ⊥) [
        | true ↦ λ u k.
            let own : ℕ × ℕ = (e.node, 0) in
            let same : own ≡ attachment = same_Some own attachment k in
            let zero_port : attachment.1 ≡ 0 = ap (λ (x : ℕ × ℕ). x.1) (sym same) in
            no_wire_at_0 cells attachment.0 end (ap (across cells attachment.0) (sym zero_port) ∙ wire)
        | false ↦ λ u k.
            let its = (attached_law cells e.node e.port attachment.0 attachment.1).0 k in
            let back = across_back cells e.node e.port attachment ((wire_law cells e.node e.port attachment.0 attachment.1).1 its.wire) in
            let owner : ℕ × ℕ = (e.node, e.port) in
            let same : end ≡ owner = same_Some end owner (sym wire ∙ back) in
            let usable = switch_usable facts e.node (subst (λ (x : ℕ × ℕ). Contains (switches cells) x.0) same there) in
            cc
      ] refl h

  no_way : (g entry : ℕ) (end : ℕ × ℕ) → entry ≡ 255 → across cells g entry ≡ Some end → ⊥
  no_way g entry end e wire = unwired g end (ap (across cells g) (sym e) ∙ wire)

  by_attachment : (g entry : ℕ) (attachment end : ℕ × ℕ) → planned_entry rule lmc cells g lid ≡ entry → across cells g entry ≡ Some end
      → Contains (switches cells) end.0 → attachment_of cells e ≡ Some attachment → OnWay rule cells lid e g entry
  by_attachment g entry attachment end is wire there attachment_is =
      elim (attachment.0 == g) as (λ t. (attachment.0 == g) ≡ t → OnWay rule cells lid e g entry) [
        | true ↦ λ s.
            let here : attachment.0 ≡ g = eqb-true attachment.0 g s in
            let port : attachment.1 ≡ entry = sym (planned ∙ ap (λ t. cond t attachment.1 (unwrap_or (rule.next lid g attachment.0) 255)) s) ∙ is in
            absurd (at_attachment attachment end attachment_is ((λ i. across cells (here i) (port i)) ∙ wire) there)
        | false ↦ λ s. (elim (rule.next lid g attachment.0) as (λ o. rule.next lid g attachment.0 ≡ o → OnWay rule cells lid e g entry) [
          | None ↦ λ n. absurd (no_way g entry end (sym (elsewhere s) ∙ ap (λ o. unwrap_or o 255) n) wire)
          | Some p ↦ λ n.
              let port : p ≡ entry = sym (ap (λ o. unwrap_or o 255) n) ∙ elsewhere s in
              record {
                attachment = attachment;
                attachment_is = attachment_is;
                apart = false_from_ne_true (g == attachment.0) (λ k. eqb-false attachment.0 g s (sym (eqb-true g attachment.0 k)));
                next = n ∙ ap (λ x. Some x) port;
              }
        ] refl)
      ] refl
    where
      planned : planned_entry rule lmc cells g lid ≡ cond (attachment.0 == g) attachment.1 (unwrap_or (rule.next lid g attachment.0) 255)
      planned = entry_by_attachment rule lmc cells g lid e attachment owned attachment_is

      elsewhere : (attachment.0 == g) ≡ false → unwrap_or (rule.next lid g attachment.0) 255 ≡ entry
      elsewhere s = sym (planned ∙ ap (λ t. cond t attachment.1 (unwrap_or (rule.next lid g attachment.0) 255)) s) ∙ is

  pub on_way : (g entry : ℕ) (end : ℕ × ℕ) → planned_entry rule lmc cells g lid ≡ entry → across cells g entry ≡ Some end
      → Contains (switches cells) end.0 → OnWay rule cells lid e g entry
  on_way g entry end is wire there =
      elim (attachment_of cells e) as (λ o. attachment_of cells e ≡ o → OnWay rule cells lid e g entry) [
        | None ↦ λ k.
            let none : planned_entry rule lmc cells g lid ≡ 255 =
            ap (λ o. option_map_or (port_to rule.next lid g) o 255) (ap (option_and_then (attachment_of cells)) owned ∙ k) in
            absurd (no_way g entry end (sym is ∙ none) wire)
        | Some attachment ↦ λ k. by_attachment g entry attachment end is wire there k
      ] refl
