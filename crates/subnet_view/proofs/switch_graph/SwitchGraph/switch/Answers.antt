-- The graph has the GUIDs.
use Rattle.std.proofs.Common.{sym, ap, ◌∙◌, List, ℕ}
use Rattle.std.specs.Prelude.{slice_get}
use Rattle.subnet_view.proofs.Walked.{copied_item}
use Rattle.subnet_view.proofs.SwitchGraphs.{guids_are}
use Rattle.subnet_view.proofs.switch_graph.SwitchGraph.switch.Goals as goal

pub returns : goal.returns
returns c =
    let are = guids_are c.self.inside.guids.items c.self.inside.edges c.self.invariant c.args.self.now c.self.view_is in
    c.copied.ensures ∙ copied_item c.deref.result.now c.args.index c.get.result c.get.ensures.lookup
    ∙ ap (λ (gs : List ℕ). slice_get gs c.args.index) (c.deref.ensures.value ∙ sym are)
