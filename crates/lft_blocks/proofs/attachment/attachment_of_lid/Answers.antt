use Rattle.std.proofs.Common.{List, ℕ, sym, ap, ◌∙◌, subst}
use Rattle.std.specs.Prelude.{Contains}
use Rattle.fact_store.specs.View.{cells_of}
use Rattle.subnet_view.specs.Graph.{guids_of}
use Rattle.subnet_view.proofs.AttachmentSwitches.{attachment_is_switch}
use Rattle.subnet_view.proofs.GraphSwitches.{graph_guids}
use Rattle.lft_blocks.proofs.attachment.attachment_of_lid.Goals as goal

pub returns-in_err-switch : goal.returns-in_err-switch
returns-in_err-switch c =
    let facts = c.args.wired.now.wires.now in
    let port = c.in_ok-owner.field-0 in
    let there = attachment_is_switch facts port (c.in_ok-guid.guid, c.in_ok-guid.port) (sym c.attachment_of.ensures ∙ c.in_ok-guid.was) in
    let guids = ap guids_of c.args.wired.now.is_graph ∙ graph_guids (cells_of facts) in
    absurd (c.in_err-switch.ensures (subst (λ (xs : List ℕ). Contains xs c.in_ok-guid.guid) (sym guids) there))
