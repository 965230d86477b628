-- The switch at which an end port lies is one of the graph.
use Rattle.std.proofs.Common.{◌≡◌, ◌∙◌, ℕ, List, [], ◌∷◌, refl, sym, ap, subst, map, length, arith}
use Rattle.std.specs.Prelude.{Contains, Option, None, Some, option_map}
use Rattle.std.proofs.lemmas.Option.{same_Some}
use Rattle.port_graph.proofs.Counts.{length_map}
use Rattle.fact_store.specs.View.{cells_of}
use Rattle.subnet_view.specs.Reading.{Cells, switches}
use Rattle.subnet_view.specs.SwitchEdges.{SwitchEdges}
use Rattle.subnet_view.specs.Components.{root_of}
use Rattle.subnet_view.specs.Graph.{edges_of, guids_of}
use Rattle.subnet_view.specs.Wires.{attachment_of}
use Rattle.subnet_view.proofs.AttachmentSwitches.{attachment_is_switch}
use Rattle.audit_counts.proofs.site.root_at.Goals as goal

listed : (cells : Cells) (guids : List ℕ) → map (λ (c : SwitchEdges). c.guid) (map (λ g. record { guid = g; edges = edges_of cells g }) guids) ≡ guids
listed cells [] = refl
listed cells (g ∷ guids) = ap (λ gs. g ∷ gs) (listed cells guids)

some_attachment : (o : Option (ℕ × ℕ)) (g : ℕ) → option_map (λ (h : ℕ × ℕ). h.0) o ≡ Some g → (h : ℕ × ℕ) × (o ≡ Some h) × (h.0 ≡ g)
some_attachment None g e = cc
some_attachment (Some h) g e = (h, refl, same_Some h.0 g e)

pub returns-in_err-index : goal.returns-in_err-index
returns-in_err-index c =
    let facts = c.args.wired.now.wires.now in
    let cells = cells_of facts in
    let g = c.in_ok-switch.switch in
    let it = some_attachment (attachment_of cells c.args.port.now) g (sym c.switch_of.ensures ∙ c.in_ok-switch.was) in
    let there : Contains (switches cells) g = subst (λ (x : ℕ). Contains (switches cells) x) it.2 (attachment_is_switch facts c.args.port.now it.0 it.1) in
    absurd (c.in_err-index.ensures (subst (λ (xs : List ℕ). Contains xs g) (sym (listed cells (switches cells)) ∙ sym (ap guids_of c.args.wired.now.is_graph)) there))

pub bounds-roots-index : goal.bounds-roots-index
bounds-roots-index c =
    let inside = c.in_ok-index.ensures.0 in
    let long = ap length c.requires ∙ length_map (root_of c.args.wired.now.graph.now) (guids_of c.args.wired.now.graph.now) in
    omega (arith, inside, long)
