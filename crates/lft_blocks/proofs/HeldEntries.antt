-- What a switch's table holds for a LID of the plan: the plan's entry, and that is the attachment's port or the next port towards the attachment.
use Rattle.std.proofs.Common.{◌≡◌, ◌≤◌, ◌+◌, ◌*◌, ◌/◌, ◌%◌, ℕ, suc, List, true, sym, ap, ◌∙◌, arith, cond, ◌==◌}
use Rattle.std.proofs.lemmas.Option.{same_Some}
use Rattle.std.specs.Prelude.{None, Some, MatchOption, option_and_then, unwrap_or, slice_get}
use Rattle.std.specs.Option.{option_map_or}
use Rattle.fabric_model.specs.declared.cable.NodePort.{NodePort}
use Rattle.fabric_model.specs.Fabric.{Node, Fabric}
use Rattle.fact_store.specs.View.{Facts, cells_of}
use Rattle.subnet_view.specs.declared.end_port.EndPort.{EndPort}
use Rattle.subnet_view.specs.Reading.{Cells, is_usable}
use Rattle.subnet_view.specs.FabricAgreement.{Part, IsEndPortIn}
use Rattle.subnet_view.proofs.UsableSwitches.{usable_law}
use Rattle.lid_assign.specs.Lids.{Given, lids, owner_of, top_of}
use Rattle.lid_assign.specs.LidLaws.{AreLids}
use Rattle.lid_assign.proofs.Owners.{given-from_owner}
use Rattle.lid_assign.proofs.Tops.{at_most_top}
use Rattle.subnet_view.specs.Routing.{Routing}
use Rattle.subnet_view.specs.Wires.{attachment_of}
use Rattle.lft_blocks.specs.Entries.{attachment_of_lid, port_to, entry, block_count}
use Rattle.lft_blocks.specs.Plan.{plan_by, block_at}
use Rattle.lft_blocks.specs.PlanLaws.{HasBlock, block_of}
use Rattle.lft_blocks.specs.InForce.{HoldsPlan}
use Rattle.lft_blocks.proofs.BlockLaws.{made_at}
use Rattle.lft_blocks.proofs.BlockOwners.{blocks_are_of_switches}

-- the plan's entry of a switch for a LID
abbrev pub entry_of : Routing → ℕ → Cells → ℕ → ℕ → ℕ
entry_of rule lmc cells s lid = entry (attachment_of_lid cells (lids lmc cells)) rule.next s lid

-- a switch's entry for an owned LID goes by the owner's attachment
pub entry_by_attachment : (rule : Routing) (lmc : ℕ) (cells : Cells) (s lid : ℕ) (e : EndPort) (attachment : ℕ × ℕ) → owner_of (lids lmc cells) lid ≡ Some e
    → attachment_of cells e ≡ Some attachment → entry_of rule lmc cells s lid
    ≡ cond (attachment.0 == s) attachment.1 (unwrap_or (rule.next lid s attachment.0) 255)
entry_by_attachment rule lmc cells s lid e attachment h k =
    ap (λ o. option_map_or (port_to rule.next lid s) o 255) (ap (option_and_then (attachment_of cells)) h ∙ k)

-- where a LID is owned there is a greatest, and it is not above that
pub owned_to_top : (given : Given) (e : EndPort) (lid : ℕ) → owner_of given lid ≡ Some e
    → (top : ℕ) × (top_of given ≡ Some top) × (lid ≤ top)
owned_to_top given e lid h = let its = given-from_owner given e lid h in at_most_top given e its.0 lid its.1 its.2

-- a LID that is owned is at least 1
pub owned_from_one : (lmc : ℕ) (cells : Cells) → AreLids lmc cells (lids lmc cells).ports → (lid : ℕ) (e : EndPort) → owner_of (lids lmc cells) lid ≡ Some e → 1
    ≤ lid
owned_from_one lmc cells good lid e h =
    let its = given-from_owner (lids lmc cells) e lid h in omega (arith, (good.each_fits e its.0 its.1).not_0, its.2.0)

-- the plan has each block that a usable switch has
abbrev pub HasBlocks : Routing → ℕ → Cells → Type 0
HasBlocks rule lmc cells = (g b : ℕ) → HasBlock lmc cells g b → block_at (plan_by rule lmc cells) g b ≡ Some (block_of rule lmc cells g b)

pub planned_block : (rule : Routing) (lmc : ℕ) (facts : Facts) → HasBlocks rule lmc (cells_of facts)
planned_block rule lmc facts g b has =
    let cells = cells_of facts in
    elim (block_at (plan_by rule lmc cells) g b) as
    (λ o. MatchOption o (¬ (HasBlock lmc cells g b)) (λ x. HasBlock lmc cells g b × (x ≡ block_of rule lmc cells g b)) → o
    ≡ Some (block_of rule lmc cells g b)) [
      | None ↦ λ m. absurd (m has)
      | Some x ↦ λ m. ap (λ (y : List ℕ). Some y) m.1
    ] (blocks_are_of_switches rule lmc facts g b)

-- the switch's table has the plan's entry at each LID up to the top
pub held_entry : (rule : Routing) (part : Part) (lmc : ℕ) (cells : Cells) (f : Fabric) → HasBlocks rule lmc cells → HoldsPlan part (plan_by rule lmc cells) f
    → (port : NodePort) (node : Node) → IsEndPortIn part f port node → is_usable cells node.guid ≡ true
    → (lid top : ℕ) → top_of (lids lmc cells) ≡ Some top → lid ≤ top → f.entry port.node lid ≡ entry_of rule lmc cells node.guid lid
held_entry rule part lmc cells f planned held port node here usable lid top top_is low =
    let s = node.guid in
    let b = lid / 64 in
    let count : block_count (top_of (lids lmc cells)) ≡ suc (top / 64) = ap block_count top_is in
    let has : HasBlock lmc cells s b = ((usable_law cells s).0 usable, omega (arith, count, low)) in
    let stands = (held port node here).blocks b (block_of rule lmc cells s b) (planned s b has) (lid % 64) (omega arith) in
    let its_entry : slice_get (block_of rule lmc cells s b) (lid % 64) ≡ Some (entry_of rule lmc cells s (64 * b + (0 + lid % 64))) =
    made_at (λ i. entry_of rule lmc cells s (64 * b + i)) 0 64 (lid % 64) (omega arith) in
    ap (f.entry port.node) (parts lid)
    ∙ sym (same_Some (entry_of rule lmc cells s (64 * b + (0 + lid % 64))) (f.entry port.node (64 * b + lid % 64)) (sym its_entry ∙ stands))
    ∙ ap (entry_of rule lmc cells s) (whole lid)
  where
    parts : (n : ℕ) → n ≡ 64 * (n / 64) + n % 64
    parts n = omega arith

    whole : (n : ℕ) → 64 * (n / 64) + (0 + n % 64) ≡ n
    whole n = omega arith
