-- By the plan of a view, each packet of a component arrives.
use Rattle.std.proofs.Common.{◌≡◌, ℕ, true, false, ◌||◌, Option, None, Some, refl, sym, ap}
use Rattle.std.specs.Prelude.{option_map, option_and_then}
use Rattle.std.specs.Option.{option_map_or}
use Rattle.std.proofs.lemmas.Bool.{eqb-true}
use Rattle.fact_store.specs.View.{Facts, cells_of, AreInRange}
use Rattle.subnet_view.specs.declared.end_port.EndPort.{EndPort}
use Rattle.subnet_view.specs.Reading.{Cells}
use Rattle.subnet_view.specs.Wires.{across, leads_to}
use Rattle.subnet_view.proofs.Members.{contains_none}
use Rattle.subnet_view.proofs.WireEnds.{same_port}
use Rattle.lid_assign.specs.Lids.{IsNoRoom, lids, top_of}
use Rattle.subnet_view.specs.Graph.{graph_of}
use Rattle.subnet_view.specs.Components.{root_of}
use Rattle.lft_blocks.specs.Rule.{RuleValue}
use Rattle.subnet_view.specs.Wires.{attachment_of}
use Rattle.lft_blocks.specs.Plan.{plan_of}
use Rattle.held_tables.specs.Held.{HeldPlan, nothing_held}
use Rattle.plan_tables.specs.PlanTables.{held_plan}
use Rattle.held_tables.specs.Tables.{is_same_end}
use Rattle.plan_tables.proofs.HeldPlans.{made}
use Rattle.packet_walks.proofs.Judged.{same_ends}
use Rattle.plan_tables.proofs.PlanPackets.{HasRoot, Meets, itself, of_root, by_wire, brought}
use Rattle.audit_report.specs.Passing.{EachArrives}
use Rattle.audit_report.specs.Site.{in_one_component, root_at, is_one_root}

roots : (a b : Option ℕ) → is_one_root a b ≡ true → (r : ℕ) × (a ≡ Some r) × (b ≡ Some r)
roots None b h = absurd (cc)
roots (Some r) None h = absurd (cc)
roots (Some r) (Some s) h = (r, refl, ap (λ x. Some x) (sym (eqb-true r s h)))

led : (owner : EndPort) (far : Option (ℕ × ℕ)) → leads_to far owner ≡ true → far ≡ Some (owner.node, owner.port)
led owner None h = absurd (cc)
led owner (Some q) h = ap (λ x. Some x) (same_port owner.node owner.port q h)

has_root : (cells : Cells) (e : EndPort) (r : ℕ) → root_at cells e ≡ Some r → HasRoot cells e r
has_root cells e r h =
    elim (attachment_of cells e) as (λ o. attachment_of cells e ≡ o → option_and_then (root_of (graph_of cells)) (option_map (λ h. h.0) o) ≡ Some r
    → HasRoot cells e r) [
      | None ↦ λ k m. absurd (cc)
      | Some attachment ↦ λ k m. record { attachment = attachment; attachment_is = k; root_is = m }
    ] refl h

meets : (cells : Cells) (e owner : EndPort) → in_one_component cells e owner ≡ true → Meets cells e owner
meets cells e owner h =
    let one = is_one_root (root_at cells e) (root_at cells owner) in
    let wire = leads_to (across cells e.node e.port) owner in
    elim (is_same_end e owner) as (λ t. is_same_end e owner ≡ t → (t || one || wire) ≡ true → Meets cells e owner) [
      | true ↦ λ s k. itself (sym (same_ends e owner s))
      | false ↦ λ s k. (elim one as (λ t. one ≡ t → (t || wire) ≡ true → Meets cells e owner) [
        | true ↦ λ r m.
            let its = roots (root_at cells e) (root_at cells owner) r in
            of_root its.0 (has_root cells e its.0 its.1) (has_root cells owner its.0 its.2)
        | false ↦ λ r m. by_wire (led owner (across cells e.node e.port) m)
      ] refl k)
    ] refl h

pub plans_arrive : (rule : RuleValue) (lmc : ℕ) (facts : Facts) → AreInRange facts → ¬ (IsNoRoom lmc (cells_of facts))
    → EachArrives (cells_of facts) (held_plan (plan_of rule lmc (cells_of facts)))
plans_arrive rule lmc facts range has_room =
    let cells = cells_of facts in
    let told : Option ℕ → HeldPlan = λ o.
    option_map_or (λ top. made rule lmc cells top) o nothing_held in
    elim (top_of (lids lmc cells)) as (λ o. top_of (lids lmc cells) ≡ o → EachArrives cells (told o)) [
      | None ↦ λ is line h. absurd (contains_none line h)
      | Some top ↦ λ is line h e is_end listed together.
          brought rule lmc facts range has_room top is line h is_end e listed (meets cells e line.port together)
    ] refl
